-- Whose turn it is, and what its stream sends (this project's own).
use Rattle.std.specs.Prelude.{ℕ, ◌≡◌, length, true, Some, slice_get}
use Rattle.ymx_model.specs.session.Records.{End}
use Rattle.ymx_model.specs.session.FramesDue.{is_due, next_kind, spelled}
use Rattle.ymx_model.specs.session.Tables.{Table, round}
use Rattle.ymx_machine.specs.shared.Lists.{look}
use Rattle.ymx_model.specs.session.Emissions.{is_first}
use Rattle.ymx_table.specs.declared.turn.NextFrame.{NextFrame}

-- at this place stands the record of the stream whose turn it is
pub record IsTurn (at : ℕ) (t : Table) : Type 0 where
  pub entry : ℕ × End
  pub stands : slice_get t.entries at ≡ Some entry
  pub due : is_due t.window entry.1 ≡ true
  pub first : is_first entry.0 (round t) ≡ true

-- The stream has a frame due. What goes next of it is of this kind and so long, where Data carries at most
-- `limit` bytes of payload.
pub record IsNextFrame (limit : ℕ) (next : NextFrame) (t : Table) : Type 0 where
  pub end : End
  pub there : look next.id t.entries ≡ Some end
  pub due : is_due t.window end ≡ true
  pub kind : next_kind t.window end ≡ Some next.kind
  pub long : next.length ≡ length (spelled next.kind t.window limit next.id end)
