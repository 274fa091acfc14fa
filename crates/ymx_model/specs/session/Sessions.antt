-- All that a session remembers (this project's own, after the Go package's Session).
use Rattle.std.specs.Prelude.{ℕ, ◌%◌, ◌==◌, ◌&&◌, if◌then◌else◌, List, Bool, Option, [], None, false, true, Some, not}
use Rattle.ymx_model.specs.declared.types.Role.{Role}
use Rattle.ymx_model.specs.declared.types.Status.{Status}
use Rattle.ymx_model.specs.declared.types.Response.{Response}
use Rattle.ymx_model.specs.session.Pings.{Pings, no_pings}
use Rattle.ymx_model.specs.session.GoAway.{Away, not_away}
use Rattle.ymx_model.specs.session.Tables.{Table, new_table, with_record, remove_record}
use Rattle.ymx_machine.specs.shared.Lists.{look}
use Rattle.ymx_model.specs.declared.types.Status.TheVariants.{Running, Lost, Broken, Closed}
use Rattle.ymx_model.specs.declared.types.Role.TheVariants.{Client, Server}
use Rattle.ymx_header.specs.declared.fault.Fault.{Fault}
use Rattle.ymx_header.specs.declared.fault.Fault.TheVariants.{PeerSawProtocolError, PeerSawInternalError}
use Rattle.ymx_model.specs.session.Records.{End}
use Rattle.ymx_machine.specs.shared.Phases.{is_lingering}
use Rattle.ymx_model.specs.session.FramesDue.{is_due}

-- What has come of a frame that isn't whole: the first bytes of its header; or how much of its payload
-- lacks, of which stream, whether FIN stands after it, and whether it is dropped to its end (`discarded`).
pub data Incoming : Type 0 where
  Head : (bytes : List ℕ) → Incoming
  Payload : (id missing : ℕ) (fin discarded : Bool) → Incoming

-- the bytes of a frame begun that have not gone out, and the stream that it is of, if it is one's
pub record Outgoing : Type 0 where
  pub bytes : List ℕ
  pub of : Option ℕ

-- `next`: the next own id. `table`: the records. `offered`: the ids of the streams that wait to be
-- accepted. `error_due`: a Go Away with the code for a protocol error is due. `answers`: what is still to
-- be answered, oldest first.
pub record Session : Type 0 where
  pub role : Role
  pub status : Status
  pub next : ℕ
  pub table : Table
  pub offered : List ℕ
  pub pings : Pings
  pub away : Away
  pub error_due : Bool
  pub answers : List Response
  pub outgoing : Outgoing
  pub incoming : Incoming

abbrev pub nothing_outgoing : Outgoing
nothing_outgoing = record { bytes = []; of = None }

-- a session that has done nothing
abbrev pub new_session : Role → (window first : ℕ) → Session
new_session role window first = record {
  role = role;
  status = Running;
  next = first;
  table = new_table window;
  offered = [];
  pings = no_pings;
  away = not_away;
  error_due = false;
  answers = [];
  outgoing = nothing_outgoing;
  incoming = Head [];
}

-- the client opens odd ids, the server even ones (stream identifiers)
abbrev pub is_own : Role → ℕ → Bool
is_own Client id = id % 2 == 1
is_own Server id = id % 2 == 0

abbrev pub is_running : Status → Bool
is_running Running = true
is_running Lost = false
is_running (Broken fault) = false
is_running Closed = false

-- for every rule of a call a broken session is lost too
abbrev pub is_lost : Status → Bool
is_lost Running = false
is_lost Lost = true
is_lost (Broken fault) = true
is_lost Closed = false

abbrev pub is_broken : Status → Bool
is_broken Running = false
is_broken Lost = false
is_broken (Broken fault) = true
is_broken Closed = false

abbrev pub is_closed : Status → Bool
is_closed Running = false
is_closed Lost = false
is_closed (Broken fault) = false
is_closed Closed = true

-- what comes is dropped
abbrev pub is_deaf : Status → Bool
is_deaf Running = false
is_deaf Lost = true
is_deaf (Broken fault) = false
is_deaf Closed = true

-- the peer is told of a fault that it didn't tell itself
abbrev pub is_told : Fault → Bool
is_told PeerSawProtocolError = false
is_told PeerSawInternalError = false
is_told _ = true

-- the session breaks: nothing else changes, and the peer is told
abbrev pub breaks : Fault → Session → Session
breaks fault s = record s { status = Broken fault; error_due = is_told fault }

-- a stream of the table changes, and nothing else does
abbrev pub on_stream : ℕ → (End → End) → Session → Session
on_stream id f s = record s { table = with_record id f s.table }

abbrev pub belongs_to : Option ℕ → ℕ → Bool
belongs_to None id = false
belongs_to (Some x) id = x == id

-- given up, nothing of it is due, and its frame begun is out
abbrev pub is_spent : (window : ℕ) → Outgoing → ℕ → Option End → Bool
is_spent window begun id None = false
is_spent window begun id (Some e) = is_lingering e.phase && not (is_due window e) && not (belongs_to begun.of id)

-- a record that was given up goes as soon as nothing of it is left to send
abbrev pub reap : ℕ → Session → Session
reap id s =
    if is_spent s.table.window s.outgoing id (look id s.table.entries)
    then record s { table = remove_record id s.table } else s
