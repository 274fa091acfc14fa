-- That nobody who can be served is forgotten (this project's own).
use Rattle.std.specs.Prelude.{ℕ, ◌≡◌, ◌<◌, ◌⊎◌, [], length, true, false, Some, nat_eq}
use Rattle.ymx_model.specs.session.Sessions.{Session, is_running}
use Rattle.ymx_law_session.specs.Limits.{IsWithin}
use Rattle.ymx_session.specs.Streams.{waiting, room_of}
use Rattle.ymx_engine.specs.Serves.{is_silent, is_stopped}
use Rattle.ymx_engine.specs.Directions.{is_open, may_push, may_pull}
use Rattle.ymx_engine.specs.Tunnels.{Tunnel}
use Rattle.ymx_engine.specs.Turns.{Connection, connection_of, Awaits, Attended}

-- Where bytes of this stream wait, or no more come, and its connection's device may take some, the connection waits for a turn, or some
-- turn was missed. Where the stream takes bytes and the device may have some it does too, or is held back until nothing waits for
-- the wire. Where the stream takes no bytes any more, though it was not finished here, and once the session is over, it waits for a
-- turn too, while its direction to the peer is open.
pub record IsServed (id : ℕ) (t : Tunnel) : Type 0 where
  pub gets : (l : Connection) → connection_of id t.connections ≡ Some l → may_push l.directions l.seen.marks ≡ true → 0 < length (waiting id t.engine.session) → Awaits id t.connections
  pub gives : (l : Connection) → connection_of id t.connections ≡ Some l → may_pull l.directions l.seen.marks ≡ true → 0 < room_of id t.engine.session → Attended id t.connections
  pub hears : (l : Connection) → connection_of id t.connections ≡ Some l → is_running t.engine.session.status ≡ false → is_open l.directions.to_peer ≡ true → Awaits id t.connections
  pub ends : (l : Connection) → connection_of id t.connections ≡ Some l → may_push l.directions l.seen.marks ≡ true → is_silent id t.engine.session ≡ true → Awaits id t.connections
  pub stops : (l : Connection) → connection_of id t.connections ≡ Some l → is_open l.directions.to_peer ≡ true → is_stopped id t.engine.session ≡ true → Awaits id t.connections

-- So it is with each stream. The session keeps its limits, as each does.
pub record Serving (t : Tunnel) : Type 0 where
  pub within : IsWithin t.engine.session
  pub each : (id : ℕ) → IsServed id t

-- so it is with each stream but this
pub record ServingBut (id : ℕ) (t : Tunnel) : Type 0 where
  pub within : IsWithin t.engine.session
  pub each : (other : ℕ) → nat_eq id other ≡ false → IsServed other t

-- Where bytes of this stream wait, some waited before, and where no more come, none came before. Where it takes some, it took some
-- before; and where it takes none any more, it took none before.
pub record GainsNone (id : ℕ) (s t : Session) : Type 0 where
  pub bytes : 0 < length (waiting id t) → 0 < length (waiting id s)
  pub room : 0 < room_of id t → 0 < room_of id s
  pub silence : is_silent id t ≡ true → is_silent id s ≡ true
  pub stop : is_stopped id t ≡ true → is_stopped id s ≡ true

-- no stream takes bytes now whose connection's device may have some
abbrev pub NoneGives : Tunnel → Type 0
NoneGives t = (id : ℕ) (l : Connection) → connection_of id t.connections ≡ Some l → (may_pull l.directions l.seen.marks ≡ false) ⊎ (room_of id t.engine.session ≡ 0)

-- no bytes of a stream wait that its connection's device may take now
abbrev pub NoneWaits : Tunnel → Type 0
NoneWaits t = (id : ℕ) (l : Connection) → connection_of id t.connections ≡ Some l → (waiting id t.engine.session ≡ []) ⊎ (may_push l.directions l.seen.marks ≡ false)

-- on each stream more may come whose connection's device may take bytes now
abbrev pub NoneEnds : Tunnel → Type 0
NoneEnds t = (id : ℕ) (l : Connection) → connection_of id t.connections ≡ Some l → (is_silent id t.engine.session ≡ false) ⊎ (may_push l.directions l.seen.marks ≡ false)

-- No stream takes no bytes any more, though it was not finished here, whose connection's direction to the peer is open. So none is left
-- whose connection is still being made.
abbrev pub NoneStops : Tunnel → Type 0
NoneStops t = (id : ℕ) (l : Connection) → connection_of id t.connections ≡ Some l → (is_stopped id t.engine.session ≡ false) ⊎ (is_open l.directions.to_peer ≡ false)

-- where the session is over, no connection's direction to the peer is open
abbrev pub NoneHangs : Tunnel → Type 0
NoneHangs t = is_running t.engine.session.status ≡ false → (id : ℕ) (l : Connection) → connection_of id t.connections ≡ Some l → is_open l.directions.to_peer ≡ false
