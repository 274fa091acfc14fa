-- Payload that is passed on as it comes, without a stay in its stream's ring (this project's own).
use Rattle.std.specs.Prelude.{◌≡◌, [], ◌∷◌, ◌+◌, ◌<◌, ◌≤◌, ◌==◌, nat_lt, nat_le, ℕ, List, length, take, Bool, false, not, ◌&&◌, if◌then◌else◌, Option, None, Some}
use Rattle.std.specs.Option.{ForSome}
use Rattle.ymx_header.specs.declared.header.Header.{Header}
use Rattle.ymx_header.specs.Headers.{header_of}
use Rattle.ymx_machine.specs.declared.types.Call.TheVariants as call
use Rattle.ymx_machine.specs.declared.types.Fed.{Fed}
use Rattle.ymx_machine.specs.declared.types.Reply.TheVariants as reply
use Rattle.ymx_machine.specs.declared.types.Why.TheVariants.{All}
use Rattle.ymx_machine.specs.shared.Limits.{most_answers, greatest_number}
use Rattle.ymx_machine.specs.shared.Lists.{look}
use Rattle.ymx_machine.specs.shared.Phases.{is_live}
use Rattle.ymx_model.specs.declared.types.Event.TheVariants as event
use Rattle.ymx_model.specs.session.Records.{End}
use Rattle.ymx_model.specs.session.Sessions.{Session, Incoming, is_running}
use Rattle.ymx_model.specs.session.Sessions.Incoming.{Head, Payload}
use Rattle.ymx_model.specs.session.Emissions.{in_turn}
use Rattle.ymx_model.specs.session.Feeds.{byte_comes}
use Rattle.ymx_model.specs.session.Histories.{Gives}
use Rattle.ymx_session.specs.declared.passing.Passing.{Passing}

-- ---- whose payload may be passed on

-- the payload that comes is one that a record takes: of which stream, and how many bytes of it are missing
abbrev pub kept_payload : Incoming → Option Passing
kept_payload (Head bytes) = None
kept_payload (Payload id missing fin discarded) = if discarded then None else Some (record { id = id; missing = missing })

-- the caller has the stream, its end hasn't come, and nothing of it is unread
abbrev pub is_read_up : Option End → Bool
is_read_up None = false
is_read_up (Some e) = is_live e.phase && not e.reader.ended && length e.reader.unread == 0

abbrev pub if_read_up : List (ℕ × End) → Option Passing → Option Passing
if_read_up entries None = None
if_read_up entries (Some p) = if is_read_up (look p.id entries) then Some p else None

-- the stream whose payload comes, and how many bytes of it are missing, where these bytes may be passed on
abbrev pub passing : Session → Option Passing
passing s = if is_running s.status then if_read_up s.table.entries (kept_payload s.incoming) else None

-- ---- what is passed on

-- a feed that took all of these bytes
abbrev pub all_fed : List ℕ → Fed
all_fed bytes = record { taken = length bytes; no_memory = 0; why = All }

-- These bytes come and are passed on: a feed that takes them all, and then a read of as many on their stream, which gives just them.
pub record Passes (id : ℕ) (bytes : List ℕ) (s t : Session) : Type 0 where
  pub mid : Session
  pub fed : Gives in_turn s (event.Feed bytes) (reply.Fed (all_fed bytes)) mid
  pub read : Gives in_turn mid (event.Call (call.Read id (length bytes))) (reply.Read bytes) t

-- All these bytes are taken, and before none of them payload may be passed on. At each byte memory for a record may be
-- found or not.
abbrev pub TakesUnpassed : List ℕ → Session → Session → Type 0
TakesUnpassed [] s t = t ≡ s
TakesUnpassed (b ∷ bs) s t = (no_memory : Bool) × (passing s ≡ None) × TakesUnpassed bs (byte_comes no_memory b s) t

-- It is a feed of the first so many of these bytes.
pub record FeedsSome (s : Session) (input : List ℕ) (fed : Fed) (t : Session) : Type 0 where
  pub count : ℕ
  pub within : count ≤ length input
  pub feeds : Gives in_turn s (event.Feed (take count input)) (reply.Fed fed) t

-- ---- what may be passed on after it

-- the end of its stream stands after the payload that comes
abbrev pub is_ending : Incoming → Bool
is_ending (Head bytes) = false
is_ending (Payload id missing fin discarded) = fin

-- how many bytes the peer may still send on a stream
abbrev pub granted_of : Option End → ℕ
granted_of None = 0
granted_of (Some e) = e.reader.granted

-- the header of Data of this stream, without flags, after which so many bytes of payload stand (framing)
abbrev pub plain_header : (id count : ℕ) → Header
plain_header id count = record { version = 0; kind = 0; flags = 0; id = id; length = count }

abbrev pub is_plain : (id : ℕ) → Header → Bool
is_plain id h = h.version == 0 && h.kind == 0 && h.flags == 0 && h.id == id

-- The payload of this header's frame may be passed on after the payload that comes and `ahead` bytes of further frames: it
-- is Data of the same stream without flags, and has at least one byte; its stream doesn't end before; the window allows it;
-- and the row of answers isn't full.
abbrev pub may_follow : (ahead : ℕ) → Header → Passing → Session → Bool
may_follow ahead h p s =
    is_plain p.id h && nat_lt 0 h.length && not (is_ending s.incoming)
    && nat_le (p.missing + ahead + h.length) (granted_of (look p.id s.table.entries)) && nat_lt (length s.answers) most_answers

abbrev pub following : (ahead : ℕ) → Header → Session → Option Passing → Option ℕ
following ahead h s None = None
following ahead h s (Some p) = if may_follow ahead h p s then Some h.length else None

-- how many bytes of payload the frame of this header has, where they may be passed on after that which comes
abbrev pub passing_behind : (ahead : ℕ) → (header : List ℕ) → Session → Option ℕ
passing_behind ahead header s = following ahead (header_of header) s (passing s)

-- these bytes are the header of Data of this stream, without flags, after which so many bytes of payload stand
pub record IsPlainHeader (id count : ℕ) (bytes : List ℕ) : Type 0 where
  pub whole : length bytes ≡ 12
  pub spells : header_of bytes ≡ plain_header id count
  pub some : 0 < count

-- So many bytes more of this stream may come, of the payload that comes and of further frames without flags: its end doesn't
-- stand before them, the window allows them, and the session takes their headers.
pub record MayCome (id left : ℕ) (s : Session) : Type 0 where
  pub goes_on : is_ending s.incoming ≡ false
  pub granted : left ≤ granted_of (look id s.table.entries)
  pub window : left ≤ s.table.window
  pub credit : ForSome (look id s.table.entries) (λ e. e.writer.credit ≤ greatest_number)
  pub answers : length s.answers < most_answers

-- Payload of this stream comes that may be passed on, `missing` bytes of it are missing, and after them `behind` bytes of
-- further frames may come.
pub record PassesBehind (id missing behind : ℕ) (s : Session) : Type 0 where
  pub passes : passing s ≡ Some (record { id = id; missing = missing })
  pub further : 0 < behind → MayCome id (missing + behind) s
