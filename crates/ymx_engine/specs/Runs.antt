-- How a tunnel goes on, call by call (this project's own).
use Rattle.std.specs.Prelude.{ℕ, ◌≡◌, ◌⊎◌, is_some, true, Some}
use Rattle.ymx_engine.specs.Engines.{IsFlushed}
use Rattle.ymx_engine.specs.Moves.{Moves}
use Rattle.ymx_engine.specs.Tunnels.{Tunnel, HasFailed}
use Rattle.ymx_engine.specs.Turns.{Connection, connection_of, look}
use Rattle.ymx_engine.specs.Directions.{is_over}
use Rattle.ymx_engine.specs.Work.{Attends}

-- It moved what `Moves` says; nobody who can be served was forgotten; and nobody who waited for a turn fell back.
pub record Runs (old new : Tunnel) : Type 0 where
  pub moves : Moves old new
  pub attends : Attends old new

-- the wire has failed, or has taken all that was due
abbrev pub IsOver : Tunnel → Type 0
IsOver t = HasFailed t.wire ⊎ IsFlushed t.engine

-- no device joined a stream or left it, and the wire was neither ended nor shut
pub record Stays (old new : Tunnel) : Type 0 where
  pub joined : (id : ℕ) → is_some (look id new.connections) ≡ is_some (look id old.connections)
  pub ended : new.wire.ended ≡ old.wire.ended
  pub shut : new.wire.shut ≡ old.wire.shut

-- No mark went on: a device that may have bytes now, or may take some, might before, unless its connection is over, as it was shut.
pub record Rests (old new : Tunnel) : Type 0 where
  pub wire_pull : new.wire.marks.may_pull ≡ true → old.wire.marks.may_pull ≡ true
  pub wire_push : new.wire.marks.may_push ≡ true → old.wire.marks.may_push ≡ true
  pub pull : (id : ℕ) (l : Connection) → connection_of id new.connections ≡ Some l → l.seen.marks.may_pull ≡ true → (is_over l.directions ≡ true) ⊎ ((was : Connection) × (connection_of id old.connections ≡ Some was) × (was.seen.marks.may_pull ≡ true))
  pub push : (id : ℕ) (l : Connection) → connection_of id new.connections ≡ Some l → l.seen.marks.may_push ≡ true → (is_over l.directions ≡ true) ⊎ ((was : Connection) × (connection_of id old.connections ≡ Some was) × (was.seen.marks.may_push ≡ true))
