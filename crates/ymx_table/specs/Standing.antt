-- Where a record stands in its table (this project's own).
use Rattle.std.specs.Prelude.{ℕ, ◌≡◌, ◌<◌, length, slice_get}
use Rattle.std.specs.Map.{values_of}
use Rattle.ymx_model.specs.session.Tables.{Table}
use Rattle.ymx_machine.specs.shared.Lists.{look, place}

-- the record of the stream stands at `at`
pub record StandsAt (id : ℕ) (t : Table) (at : ℕ) : Type 0 where
  pub at_place : at ≡ place id t.entries
  pub within : at < length t.entries
  pub stands : slice_get (values_of t.entries) at ≡ look id t.entries
