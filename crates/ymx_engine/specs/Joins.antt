-- How a device is joined to a stream, or isn't (this project's own).
use Rattle.std.specs.Prelude.{ℕ, ◌≡◌, ◌⊎◌, ◌∷◌, List, Bool, true, false, Option, None, Some, IsSome, option_map}
use Rattle.ymx_machine.specs.declared.types.Call.TheVariants as call
use Rattle.ymx_machine.specs.declared.types.Reply.TheVariants as reply
use Rattle.ymx_model.specs.declared.types.Event.TheVariants as event
use Rattle.ymx_model.specs.session.Emissions.{in_turn}
use Rattle.ymx_model.specs.session.Histories.{Gives}
use Rattle.ymx_model.specs.session.Sessions.{Session}
use Rattle.ymx_engine.specs.declared.joining.NotJoined.{NotJoined}
use Rattle.ymx_engine.specs.declared.joining.NotJoined.TheVariants as unjoined
use Rattle.ymx_engine.specs.Devices.{Seen}
use Rattle.ymx_engine.specs.Engines.{KeepsWire}
use Rattle.ymx_engine.specs.Refusals.{GivesUp, IsForgotten, OpensNone, OffersNone}
use Rattle.ymx_engine.specs.Tunnels.{Tunnel}
use Rattle.ymx_engine.specs.Turns.{Connections, connection_of, Adds, Puts, SameConnections, Waits}
use Rattle.ymx_engine.specs.Directions.{new_directions}

-- the registry was asked to tell of the device of this stream, and answered so
abbrev pub Told : (id : ℕ) → (answer : Bool) → Option (List (ℕ × Bool)) → Option (List (ℕ × Bool)) → Type 0
Told id answer old new = new ≡ option_map (λ l. (id, answer) ∷ l) old

-- this device joined a stream that had none, and waits for a turn; nothing else changed
pub record Joins (id : ℕ) (seen : Seen) (old new : Tunnel) : Type 0 where
  pub free : connection_of id old.connections ≡ None
  pub engine : new.engine ≡ old.engine
  pub wire : new.wire ≡ old.wire
  pub over : new.is_wire_over ≡ old.is_wire_over
  pub connections : Adds id (record { seen = seen; directions = new_directions }) old.connections new.connections

-- a stream that has no device was reset and forgotten, and nothing else changed
pub record DropsOut (id : ℕ) (old new : Tunnel) : Type 0 where
  pub free : connection_of id old.connections ≡ None
  pub up : GivesUp id old.engine.session new.engine.session
  pub keeps : KeepsWire old.engine new.engine
  pub wire : new.wire ≡ old.wire
  pub over : new.is_wire_over ≡ old.is_wire_over
  pub connections : new.connections ≡ old.connections

-- a stream that has a device was forgotten, and nothing else changed; this never is, as no id is given twice
pub record LeavesOut (id : ℕ) (old new : Tunnel) : Type 0 where
  pub there : IsSome (connection_of id old.connections)
  pub left : IsForgotten id old.engine.session new.engine.session
  pub keeps : KeepsWire old.engine new.engine
  pub wire : new.wire ≡ old.wire
  pub over : new.is_wire_over ≡ old.is_wire_over
  pub connections : new.connections ≡ old.connections

-- why no device was joined to a stream that was opened or accepted: the registry said no, or the stream has one
abbrev pub IsUnjoined : (id : ℕ) → NotJoined → (old new : Tunnel) → (told told_new : Option (List (ℕ × Bool))) → Type 0
IsUnjoined id unjoined.Unregistered old new told told_new = DropsOut id old new × Told id false told told_new
IsUnjoined id unjoined.Twice old new told told_new = LeavesOut id old new × (told_new ≡ told)
IsUnjoined id other old new told told_new = ⊥

-- ---- a call

-- how a stream comes to be the caller's: which it is, and the session before and after
abbrev pub Coming : Type 1
Coming = ℕ → Session → Session → Type 0

-- it was opened
abbrev pub IsOpened : Coming
IsOpened id s t = Gives in_turn s (event.Call call.Open) (reply.Opened id) t

-- it was the one that was offered first, and was accepted
abbrev pub IsAccepted : Coming
IsAccepted id s t = Gives in_turn s (event.Call call.Accept) (reply.Accepted (Some id)) t

-- Of the session just this happened: this stream came. This device joined it, of which the registry was told, and waits for a
-- turn. Each other connection and the wire are what they were.
pub record IsJoined (comes : Coming) (id : ℕ) (seen : Seen) (old new : Tunnel) (told told_new : Option (List (ℕ × Bool))) : Type 0 where
  pub free : connection_of id old.connections ≡ None
  pub came : comes id old.engine.session new.engine.session
  pub keeps : KeepsWire old.engine new.engine
  pub wire : new.wire ≡ old.wire
  pub over : new.is_wire_over ≡ old.is_wire_over
  pub connections : Puts id (Some (record { seen = seen; directions = new_directions })) old.connections new.connections
  pub waits : Waits id new.connections
  pub registered : Told id true told told_new

-- The stream that was offered first was accepted, reset and forgotten. One that has a device, as none has, would be forgotten
-- alone.
pub record Rejects (s t : Session) : Type 0 where
  pub id : ℕ
  pub mid : Session
  pub accepted : IsAccepted id s mid
  pub up : GivesUp id mid t ⊎ IsForgotten id mid t

-- a stream came that has no device, and was reset and forgotten; the registry had said no
abbrev pub Unregisters : Coming → (s t : Session) → Connections → (told told_new : Option (List (ℕ × Bool))) → Type 0
Unregisters comes s t connections told told_new =
    (id : ℕ) × (mid : Session) × (connection_of id connections ≡ None) × comes id s mid × GivesUp id mid t × Told id false told told_new

-- a stream came that has a device, and was forgotten; nobody was told
abbrev pub ComesTwice : Coming → (s t : Session) → Connections → (told told_new : Option (List (ℕ × Bool))) → Type 0
ComesTwice comes s t connections told told_new =
    (id : ℕ) × (mid : Session) × IsSome (connection_of id connections) × comes id s mid × IsForgotten id mid t × (told_new ≡ told)

-- Why no device was joined where a stream was to be opened, and what happened of the session then: it refused; the registry said
-- no; or the stream has a device.
abbrev pub RefusesOpen : NotJoined → (s t : Session) → Connections → (told told_new : Option (List (ℕ × Bool))) → Type 0
RefusesOpen (unjoined.BySession fault) s t connections told told_new = OpensNone fault s t × (told_new ≡ told)
RefusesOpen unjoined.Unregistered s t connections told told_new = Unregisters IsOpened s t connections told told_new
RefusesOpen unjoined.Twice s t connections told told_new = ComesTwice IsOpened s t connections told told_new
RefusesOpen (unjoined.OutOfMemory lacked) s t connections told told_new = ⊥

-- The same where one was to be accepted. Where there is no memory the stream that was offered first was rejected, or none was
-- offered.
abbrev pub RefusesAccept : NotJoined → (s t : Session) → Connections → (told told_new : Option (List (ℕ × Bool))) → Type 0
RefusesAccept (unjoined.BySession fault) s t connections told told_new = ⊥
RefusesAccept unjoined.Unregistered s t connections told told_new = Unregisters IsAccepted s t connections told told_new
RefusesAccept unjoined.Twice s t connections told told_new = ComesTwice IsAccepted s t connections told told_new
RefusesAccept (unjoined.OutOfMemory lacked) s t connections told told_new = (Rejects s t ⊎ OffersNone s t) × (told_new ≡ told)

-- each connection, the wire and the bytes under way are what they were, and this happened of the session
pub record JoinsNone (happens : Session → Session → Connections → Type 0) (old new : Tunnel) : Type 0 where
  pub connections : SameConnections old.connections new.connections
  pub keeps : KeepsWire old.engine new.engine
  pub wire : new.wire ≡ old.wire
  pub over : new.is_wire_over ≡ old.is_wire_over
  pub happened : happens old.engine.session new.engine.session old.connections

-- no stream was opened for a device, for this reason
abbrev pub IsNotOpened : NotJoined → (old new : Tunnel) → (told told_new : Option (List (ℕ × Bool))) → Type 0
IsNotOpened why old new told told_new = JoinsNone (λ s t connections. RefusesOpen why s t connections told told_new) old new

-- none was accepted for it, for this reason
abbrev pub IsNotAccepted : NotJoined → (old new : Tunnel) → (told told_new : Option (List (ℕ × Bool))) → Type 0
IsNotAccepted why old new told told_new = JoinsNone (λ s t connections. RefusesAccept why s t connections told told_new) old new

-- a connection left, if it was there, its stream was forgotten, and nothing else changed
pub record Leaves (id : ℕ) (old new : Tunnel) : Type 0 where
  pub left : IsForgotten id old.engine.session new.engine.session
  pub keeps : KeepsWire old.engine new.engine
  pub wire : new.wire ≡ old.wire
  pub over : new.is_wire_over ≡ old.is_wire_over
  pub connections : Puts id None old.connections new.connections
