-- What a session emits: the rest of a frame begun, then due frames (framing).
use Rattle.std.specs.Prelude.{ℕ, ◌∷◌, ◌||◌, ◌==◌, if◌then◌else◌, ◌&&◌, ◌≡◌, ◌⊎◌, ◌<◌, ◌≤◌, List, [], None, Option, Some, nat_lt, false, length, drop, Bool, true, take, not, is_some}
use Rattle.ymx_model.specs.session.FramesDue.{frame, begin_frame, spelled, next_kind, is_empty}
use Rattle.ymx_model.specs.declared.types.FrameKind.{FrameKind}
use Rattle.ymx_model.specs.declared.types.Response.{Response}
use Rattle.ymx_model.specs.declared.types.Response.TheVariants.{Pong, Reject}
use Rattle.ymx_model.specs.session.Sessions.{Session, is_running, is_broken, reap, nothing_outgoing}
use Rattle.ymx_model.specs.session.Records.{End}
use Rattle.ymx_model.specs.session.Tables.{with_record, pass_turn, any_due, round}
use Rattle.ymx_machine.specs.shared.Lists.{look}
use Rattle.ymx_machine.specs.shared.Limits.{first_credit, data_limit}
use Rattle.ymx_model.specs.session.Pings.{has_asked, begin_ping, first_asked}
use Rattle.ymx_model.specs.session.GoAway.{away_due, begin_away}

-- Which due frame goes next. A frame of Data carries at most `limit` bytes.
pub data Choice : Type 0 where
  TheErrorDue : Choice
  TheGoAway : Choice
  TheAnswer : Choice
  ThePing : (number : ℕ) → Choice
  AStream : (id limit : ℕ) → Choice

-- the one spelling of each frame of the session
abbrev pub error_frame : List ℕ
error_frame = frame 3 0 0 1 []

abbrev pub go_away_frame : List ℕ
go_away_frame = frame 3 0 0 0 []

abbrev pub answer_frame : Response → List ℕ
answer_frame (Pong value) = frame 2 2 0 value []
answer_frame (Reject id) = frame 1 8 id 0 []

abbrev pub ping_frame : ℕ → List ℕ
ping_frame number = frame 2 1 0 number []

-- a frame of the session is begun
abbrev pub begins : List ℕ → Session → Session
begins bytes s = record s { outgoing = record { bytes = bytes; of = None } }

abbrev pub begin_answer : List Response → Session → Option Session
begin_answer [] s = None
begin_answer (response ∷ more) s = Some (begins (answer_frame response) (record s { answers = more }))

-- the frame of a stream is begun, and the next turn starts after it
abbrev pub begin_kind : (id limit : ℕ) → End → Option FrameKind → Session → Option Session
begin_kind id limit e None s = None
begin_kind id limit e (Some kind) s = Some (record s {
  table = pass_turn id (with_record id (begin_frame s.table.window limit kind) s.table);
  outgoing = record { bytes = spelled kind s.table.window limit id e; of = Some id };
})

abbrev pub begin_stream : (id limit : ℕ) → Option End → Session → Option Session
begin_stream id limit None s = None
begin_stream id limit (Some e) s =
    if limit == 0 || nat_lt first_credit limit then None else begin_kind id limit e (next_kind s.table.window e) s

-- the frame is begun, if it is due
abbrev pub begin : Choice → Session → Option Session
begin TheErrorDue s = if s.error_due && is_broken s.status then Some (begins error_frame (record s { error_due = false })) else None
begin TheGoAway s =
    if is_running s.status && away_due s.away.here then Some (begins go_away_frame (record s { away = begin_away s.away })) else None
begin TheAnswer s = if is_running s.status then begin_answer s.answers s else None
begin (ThePing n) s =
    if is_running s.status && has_asked n s.pings.pending
    then Some (begins (ping_frame n) (record s { pings = begin_ping n s.pings })) else None
begin (AStream id limit) s = if is_running s.status then begin_stream id limit (look id s.table.entries) s else None

-- after the last byte of its frame a record that was given up may go
abbrev pub reaps : Option ℕ → Session → Session
reaps None s = s
reaps (Some id) s = reap id s

-- the first n bytes of the frame begun go out
abbrev pub moves_on : ℕ → Session → Session
moves_on n s =
    if nat_lt n (length s.outgoing.bytes) then record s { outgoing = record { bytes = drop n s.outgoing.bytes; of = s.outgoing.of } }
    else reaps s.outgoing.of (record s { outgoing = nothing_outgoing })

-- a byte may go out from here: a frame is begun, or a due one begins that `may` go next
abbrev pub Ready : (may : Choice → Session → Bool) → Session → Session → Type 0
Ready may s t =
    (is_empty s.outgoing.bytes ≡ false) × (t ≡ s)
    ⊎ (is_empty s.outgoing.bytes ≡ true) × ((choice : Choice) × (may choice s ≡ true) × (begin choice s ≡ Some t))

-- These bytes go out, each the next of the frame begun, or the first of a due frame.
abbrev pub Flows : (may : Choice → Session → Bool) → List ℕ → Session → Session → Type 0
Flows may [] s t = t ≡ s
Flows may (b ∷ bs) s t =
    (ready : Session) × Ready may s ready × (take 1 ready.outgoing.bytes ≡ b ∷ []) × Flows may bs (moves_on 1 ready) t

abbrev pub no_answers : List Response → Bool
no_answers [] = true
no_answers (response ∷ more) = false

-- something is due: an emission into one byte gives one
abbrev pub is_ready : Session → Bool
is_ready s = not (is_empty s.outgoing.bytes)
    || s.error_due && is_broken s.status
    || is_running s.status && (away_due s.away.here || not (no_answers s.answers) || is_some (first_asked s.pings.pending) || any_due s.table.window s.table.entries)

-- An emission into a buffer: it gives fewer bytes than the buffer holds only if nothing is left due.
pub record Emits (may : Choice → Session → Bool) (s : Session) (room : ℕ) (out : List ℕ) (t : Session) : Type 0 where
  pub fits : length out ≤ room
  pub flows : Flows may out s t
  pub full : length out < room → is_ready t ≡ false

-- any order
abbrev pub freely : Choice → Session → Bool
freely choice s = true

abbrev pub is_first : ℕ → List ℕ → Bool
is_first id [] = false
is_first id (x ∷ xs) = x == id

abbrev pub is_some_of : ℕ → Option ℕ → Bool
is_some_of n None = false
is_some_of n (Some m) = m == n

-- Session frames go first: the go away, the answers oldest first, the pings as asked. Then the streams
-- with something due take turns, by their order in the table, from after the one served last.
abbrev pub in_turn : Choice → Session → Bool
in_turn TheErrorDue s = true
in_turn TheGoAway s = true
in_turn TheAnswer s = not (away_due s.away.here)
in_turn (ThePing n) s = not (away_due s.away.here) && no_answers s.answers && is_some_of n (first_asked s.pings.pending)
in_turn (AStream id limit) s =
    not (away_due s.away.here) && no_answers s.answers && not (is_some (first_asked s.pings.pending))
    && is_first id (round s.table) && limit == data_limit
