-- How the loop of a session waits (this project's own).
use Rattle.std.specs.Prelude.{ℕ, zero, suc, ◌≡◌, ◌≤◌, ◌+◌, ◌∷◌, List, [], length, true, false}
use Rattle.ymx_engine.specs.Runs.{Runs}
use Rattle.ymx_engine.specs.Served.{NoneWaits, NoneGives, NoneEnds, NoneStops, NoneHangs}
use Rattle.ymx_engine.specs.Tunnels.{Tunnel}
use Rattle.ymx_engine.specs.Work.{WorksOnce, has_work}

-- Nothing can be moved without an event: no connection waits for a turn, the wire can't be read, and what waits for it can't be
-- written; no bytes of a stream wait that its connection may take; where the wire may take bytes, no stream takes bytes that its
-- connection may have; no connection that is there is still to learn that no more come, that its stream takes none any more, or that
-- the session is over.
pub record NeedsEvents (t : Tunnel) : Type 0 where
  pub idle : has_work t ≡ false
  pub waits : NoneWaits t
  pub gives : t.wire.marks.may_push ≡ true → NoneGives t
  pub hears : NoneHangs t
  pub ends : NoneEnds t
  pub stops : NoneStops t

-- one led to the other through these moments, at each of which it needed events
abbrev pub RunsThrough : List Tunnel → Tunnel → Tunnel → Type 0
RunsThrough [] old new = Runs old new
RunsThrough (moment ∷ later) old new = Runs old moment × NeedsEvents moment × RunsThrough later moment new

-- Between these two it waited for events no more often than there were moments at which it needed some.
pub record WaitsInNeed (old new : Tunnel) (before after : ℕ) : Type 0 where
  pub moments : List Tunnel
  pub through : RunsThrough moments old new
  pub counted : after ≤ before + length moments

-- so many whole rounds were worked between these two, one after another
abbrev pub WorksTimes : ℕ → Tunnel → Tunnel → Type 0
WorksTimes zero old new = Runs old new
WorksTimes (suc n) old new = (between : Tunnel) × WorksTimes n old between × Runs between new × WorksOnce between new

-- Between these two it looked at the events once more at most than it worked a whole round: so it works one between two looks.
pub record WorksBetween (old new : Tunnel) (before after : ℕ) : Type 0 where
  pub rounds : ℕ
  pub works : WorksTimes rounds old new
  pub counted : after ≤ before + rounds + 1
