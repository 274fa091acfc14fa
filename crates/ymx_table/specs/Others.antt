-- All records but one (this project's own).
use Rattle.std.specs.Prelude.{ℕ, ◌≡◌}
use Rattle.ymx_model.specs.session.Tables.{Table}
use Rattle.ymx_machine.specs.shared.Lists.{without}

-- but for what stands under this id, both tables have the same records in the same order
abbrev pub SameOthers : ℕ → Table → Table → Type 0
SameOthers id old new = without id new.entries ≡ without id old.entries
