-- What a tunnel has to do, and that each round does some of it (this project's own).
use Rattle.std.specs.Prelude.{ℕ, ◌≡◌, ◌⊎◌, ◌+◌, ◌≤◌, ◌||◌, ◌&&◌, ◌==◌, if◌then◌else◌, nat_lt, not, length, [], Bool, Some, true, false}
use Rattle.std.specs.List.{list_all}
use Rattle.ymx_model.specs.session.Sessions.{is_running}
use Rattle.ymx_model.specs.session.Emissions.{is_ready}
use Rattle.ymx_engine.specs.Devices.{one_frame, one_read, one_turn}
use Rattle.ymx_engine.specs.Engines.{Engine}
use Rattle.ymx_engine.specs.Exchanges.{has_bytes}
use Rattle.ymx_engine.specs.Joins.{Leaves}
use Rattle.ymx_engine.specs.Moves.{Moves}
use Rattle.ymx_engine.specs.Served.{Serving}
use Rattle.ymx_engine.specs.Serves.{Turn}
use Rattle.ymx_engine.specs.Tunnels.{Tunnel}
use Rattle.ymx_engine.specs.Passes.{is_of_reading}
use Rattle.ymx_engine.specs.Wires.{count_on, is_of_flush, rejections}
use Rattle.ymx_engine.specs.Turns.{Connection, Connections, connection_of, is_idle, Extends, SameTurns, WaitsAlone, TakesTurn, IsBehind}
use Rattle.ymx_engine.specs.Directions.{is_over}

-- bytes wait for the wire, or something is due
abbrev pub has_to_send : Engine → Bool
has_to_send e = has_bytes e.outgoing || is_ready e.session

-- the wire may have bytes
abbrev pub may_have_bytes : Tunnel → Bool
may_have_bytes t = t.wire.marks.may_pull && not t.is_wire_over

-- The wire may have bytes, and none wait to be fed; or some do, and may be fed now: nothing waits for the wire, and the
-- session runs.
abbrev pub may_read_wire : Tunnel → Bool
may_read_wire t =
    if has_bytes t.engine.incoming then not (has_bytes t.engine.outgoing) && is_running t.engine.session.status else may_have_bytes t

-- bytes are to go to the wire, or a connection is held back until none are
abbrev pub has_to_write : Tunnel → Bool
has_to_write t = has_to_send t.engine || not (length t.connections.held == 0)

-- a connection waits for a turn or missed one, the wire may be read, or it may take bytes and is to be written to
abbrev pub has_work : Tunnel → Bool
has_work t = not (is_idle t.connections) || t.connections.missed || may_read_wire t || t.wire.marks.may_push && has_to_write t

-- eight whole frames of 16,384 bytes, with their headers
abbrev pub eight_frames : ℕ
eight_frames = 131168

-- connections may be read: the wire is over, or takes all, or may take bytes and fewer wait than eight frames
abbrev pub takes_more : Tunnel → Bool
takes_more t = t.is_wire_over || (length t.engine.outgoing == 0) || t.wire.marks.may_push && nat_lt (length t.engine.outgoing) eight_frames

-- How many bytes the connection that has its turn may give, while these wait: none where connections may not be read; one frame
-- where the wire is slow, or one waits that moves little; and else two whole reads.
abbrev pub share : (waits : Connections) → Tunnel → ℕ
share waits t = if takes_more t then (if length waits.fresh == 0 && not t.is_slow then one_turn else one_frame) else 0

-- ---- one step

-- the session was over somewhere between these two
pub record WasOver (old new : Tunnel) : Type 0 where
  pub between : Tunnel
  pub before : Moves old between
  pub over : is_running between.engine.session.status ≡ false
  pub behind : Moves between new

-- The wire was read, and nothing else happened: what it gave was fed, or went to the devices of its streams, of which one that failed
-- had its stream reset. Where nothing waited to be fed and the wire might have bytes, some came, or it may have none now; and where it
-- may have more still, a whole read came, unless its end is near. It is read no more only where it wasn't before, or where the session
-- was over. As many more streams were rejected for lack of memory as the feeds say.
pub record Reads (old new : Tunnel) : Type 0 where
  pub moves : Moves old new
  pub own : list_all (λ e. is_of_reading e.0) moves.events ≡ true
  pub asks : old.engine.incoming ≡ [] → may_have_bytes old ≡ true → (has_bytes moves.came ≡ true) ⊎ (may_have_bytes new ≡ false)
  pub fills : old.engine.incoming ≡ [] → may_have_bytes old ≡ true → may_have_bytes new ≡ true → new.wire.marks.is_closing ≡ false → one_read ≤ length moves.came
  pub over : new.is_wire_over ≡ true → (old.is_wire_over ≡ true) ⊎ WasOver old new
  pub memory : new.no_memory ≡ count_on old.no_memory (rejections moves.events)

-- What was due was written to the wire, and nothing else happened. Where it might take bytes and some waited or were due, it took
-- some, or may take none now; it took all, or may take none now; and then nobody is held back any more.
pub record Writes (old new : Tunnel) : Type 0 where
  pub moves : Moves old new
  pub own : list_all (λ e. is_of_flush e.0) moves.events ≡ true
  pub offers : old.wire.marks.may_push ≡ true → has_to_send old.engine ≡ true → (has_bytes moves.sent ≡ true) ⊎ (new.wire.marks.may_push ≡ false)
  pub all : old.wire.marks.may_push ≡ true → (new.engine.outgoing ≡ []) ⊎ (new.wire.marks.may_push ≡ false)
  pub releases : old.wire.marks.may_push ≡ true → new.engine.outgoing ≡ [] → new.connections.held ≡ []

-- What a connection does in its turn, if it is still there: it gives no more than its share. After those that waited it waits
-- for a further turn only where it has more to move, and nobody else does.
pub record HasItsTurn (id gave : ℕ) (was : Connection) (waits : Connections) (old new : Tunnel) : Type 0 where
  pub now : Connection
  pub there : connection_of id new.connections ≡ Some now
  pub more : Bool
  pub turn : Turn id (share waits old) old.engine.session new.engine.session old.engine.outgoing new.engine.outgoing was.seen now.seen was.directions now.directions more gave
  pub rests : more ≡ false → SameTurns waits new.connections
  pub alone : WaitsAlone id waits new.connections

-- The first of the queue whose turn it was is there, and had its turn, in which its device gave so many bytes: each other that
-- waited has fewer before it now.
pub record ServesFirst (id gave : ℕ) (old new : Tunnel) : Type 0 where
  pub taken : Connections
  pub first : TakesTurn id old.connections taken
  pub waits : Extends taken new.connections
  pub was : Connection
  pub there : connection_of id old.connections ≡ Some was
  pub served : HasItsTurn id gave was taken old new

-- ---- many steps

-- between these two the connection of this stream had its turn, as the first of those that waited
pub record HadTurn (id : ℕ) (old new : Tunnel) : Type 0 where
  pub gave : ℕ
  pub before : Tunnel
  pub after : Tunnel
  pub to : Moves old before
  pub turn : ServesFirst id gave before after
  pub behind : Moves after new

-- between these two it was dropped, as nothing of it was left to move
pub record HasLeft (id : ℕ) (old new : Tunnel) : Type 0 where
  pub before : Tunnel
  pub after : Tunnel
  pub to : Moves old before
  pub over : (l : Connection) → connection_of id before.connections ≡ Some l → (is_over l.directions ≡ true) ⊎ (is_running before.engine.session.status ≡ false)
  pub left : Leaves id before after
  pub behind : Moves after new

-- Each that waited for a turn has at least so many fewer before it now, unless it had its turn or left.
abbrev pub ComesNearer : (steps : ℕ) → (old new : Tunnel) → Type 0
ComesNearer steps old new =
    (id n : ℕ) → IsBehind id n old.connections → HadTurn id old new ⊎ (HasLeft id old new ⊎ ((m : ℕ) × (m + steps ≤ n) × IsBehind id m new.connections))

-- Nobody who can be served is forgotten; and nobody who waits for a turn falls back.
pub record Attends (old new : Tunnel) : Type 0 where
  pub serves : Serving old → Serving new
  pub turns : ComesNearer 0 old new

-- each that waited for a turn came nearer, had it, or left
abbrev pub ServesOne : Tunnel → Tunnel → Type 0
ServesOne old new = ComesNearer 1 old new

-- between these two the wire was read
pub record HasRead (old new : Tunnel) : Type 0 where
  pub before : Tunnel
  pub after : Tunnel
  pub to : Moves old before
  pub reads : Reads before after
  pub behind : Moves after new

-- between these two it was written to
pub record HasWritten (old new : Tunnel) : Type 0 where
  pub before : Tunnel
  pub after : Tunnel
  pub to : Moves old before
  pub writes : Writes before after
  pub behind : Moves after new

-- A round: the wire was read, and written to; and each connection that waited for a turn came nearer, had it, or left.
pub record WorksOnce (old new : Tunnel) : Type 0 where
  pub reads : HasRead old new
  pub turns : ServesOne old new
  pub writes : HasWritten old new
