-- The steps that a tunnel's calls are made of (this project's own).
use Rattle.std.specs.Prelude.{ℕ, ◌≡◌, ◌⊎◌, List, Bool, true, false, Some}
use Rattle.ymx_model.specs.session.Sessions.{Session}
use Rattle.ymx_engine.specs.Exchanges.{has_bytes}
use Rattle.ymx_engine.specs.Moves.{Moves}
use Rattle.std.specs.List.{list_all}
use Rattle.ymx_engine.specs.Passes.{OffersOnce, is_of_reading}
use Rattle.ymx_engine.specs.Runs.{Runs}
use Rattle.ymx_engine.specs.Served.{Serving}
use Rattle.ymx_engine.specs.Serves.{Turn}
use Rattle.ymx_engine.specs.Tunnels.{Tunnel}
use Rattle.ymx_engine.specs.Turns.{Connection, Connections, connection_of, Puts, Extends, AddsTurn, KeepsConnections, SameTurns, WaitsAlone, StaysMissed, StaysOrAdds, Awaits, Attended}
use Rattle.ymx_engine.specs.Directions.{is_over, may_pull}
use Rattle.ymx_engine.specs.Wires.{count_on, rejections}
use Rattle.ymx_engine.specs.Work.{Writes}

-- ---- a connection's part

-- The connection of this stream had a turn. It waits for a further one exactly where it has more to move, or is held back where it
-- was not to be read and may have bytes. Nobody else is touched.
pub record TakesPart (id most : ℕ) (was : Connection) (s t : Session) (out out_new : List ℕ) (old new : Connections) (gave : ℕ) : Type 0 where
  pub now : Connection
  pub connections : Puts id (Some now) old new
  pub more : Bool
  pub turn : Turn id most s t out out_new was.seen now.seen was.directions now.directions more gave
  pub queues : Extends old new
  pub missed : StaysMissed old new
  pub held : StaysOrAdds id old.held new.held
  pub again : more ≡ true → Awaits id new
  pub rests : more ≡ false → SameTurns old new
  pub alone : WaitsAlone id old new
  pub put_off : most ≡ 0 → may_pull now.directions now.seen.marks ≡ true → Attended id new

-- Payload of this stream that waits was offered to its connection's device in one call.
pub record OffersPart (id : ℕ) (was : Connection) (waits : List ℕ) (s t : Session) (old new : Connections) (count : ℕ) : Type 0 where
  pub now : Connection
  pub connections : Puts id (Some now) old new
  pub offered : OffersOnce id waits count s t was.seen now.seen was.directions now.directions

-- It was, if the connection was there and its device might take bytes, and the connection waits for a turn then; or nothing happened.
abbrev pub PassesPart : (id : ℕ) → (waits : List ℕ) → (s t : Session) → (old new : Connections) → (count : ℕ) → Type 0
PassesPart id waits s t old new count =
    ((was : Connection) × (connection_of id old ≡ Some was) × OffersPart id was waits s t old new count × AddsTurn id old new × Awaits id new)
    ⊎ ((new ≡ old) × (t ≡ s) × (count ≡ 0))

-- a connection that is over stays so
abbrev pub StaysOver : Connections → Connections → Type 0
StaysOver old new = (id : ℕ) (now : Connection) → connection_of id new ≡ Some now → (was : Connection) × (connection_of id old ≡ Some was) × (is_over was.directions ≡ true → is_over now.directions ≡ true)

-- ---- a tunnel's

-- It ran on, and nothing happened but feeds, and reads and resets of streams. As many more streams were rejected for lack of
-- memory as the feeds say.
pub record ReadsOn (old new : Tunnel) : Type 0 where
  pub runs : Runs old new
  pub own : list_all (λ e. is_of_reading e.0) runs.moves.events ≡ true
  pub memory : new.no_memory ≡ count_on old.no_memory (rejections runs.moves.events)

-- The same, where the wire was left alone, and so was each connection. Nobody who can be served was forgotten, or left his place.
pub record Keeps (old new : Tunnel) : Type 0 where
  pub moves : Moves old new
  pub own : list_all (λ e. is_of_reading e.0) moves.events ≡ true
  pub wire : new.wire ≡ old.wire
  pub over : new.is_wire_over ≡ old.is_wire_over
  pub connections : KeepsConnections old.connections new.connections
  pub serves : Serving old → Serving new
  pub memory : new.no_memory ≡ count_on old.no_memory (rejections moves.events)

-- It was written to once. Where it goes on, the wire took some bytes, all that waited, and may take more.
pub record WritesOnce (goes_on : Bool) (old new : Tunnel) : Type 0 where
  pub writes : Writes old new
  pub going : goes_on ≡ true → (old.wire.marks.may_push ≡ true) × (new.wire.marks.may_push ≡ true) × (has_bytes writes.moves.sent ≡ true)
  pub connections : KeepsConnections old.connections new.connections
  pub serves : Serving old → Serving new
  pub pull : new.wire.marks.may_pull ≡ old.wire.marks.may_pull
  pub push : new.wire.marks.may_push ≡ true → old.wire.marks.may_push ≡ true
  pub ended : new.wire.ended ≡ old.wire.ended
  pub shut : new.wire.shut ≡ old.wire.shut
  pub memory : new.no_memory ≡ old.no_memory
