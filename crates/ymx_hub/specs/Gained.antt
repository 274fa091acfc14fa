-- What a call adds to the log, it adds to the list of its seat (this project's own).
use Rattle.std.specs.Prelude.{◌≡◌, ◌++◌, List}
use Rattle.ymx_model.specs.declared.types.Entry.{Entry}

-- the log and a seat's list have gained the same entries, each with the same position in both
pub record GainedAlike (log log' list list' : List Entry) : Type 0 where
  pub added : List Entry
  pub logged : log' ≡ log ++ added
  pub listed : list' ≡ list ++ added
