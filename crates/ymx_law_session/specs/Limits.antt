-- The limits of a session, which hold always, whatever comes (flow control; this project's own limits).
use Rattle.std.specs.Prelude.{◌≡◌, ◌<◌, ◌≤◌, ℕ, ◌^◌, List, [], ◌∷◌, length, Bool, true, false, not, ◌||◌, ◌==◌, Option, None, Some, count_by}
use Rattle.ymx_model.specs.declared.types.Role.{Role}
use Rattle.ymx_model.specs.declared.types.Response.{Response}
use Rattle.ymx_machine.specs.shared.Limits.{first_credit, most_pings, most_records, most_offered, most_answers, most_unacknowledged, widest_window, greatest_number}
use Rattle.ymx_machine.specs.shared.Phases.{takes, is_offered, is_recorded}
use Rattle.ymx_model.specs.session.Records.{End, window_held, takes_payload}
use Rattle.ymx_model.specs.session.Pings.{Ping, Pings, is_pending}
use Rattle.ymx_model.specs.session.Tables.{Table}
use Rattle.ymx_machine.specs.shared.Lists.{look, Distinct}
use Rattle.ymx_model.specs.session.Sessions.{Session, Incoming, is_own}
use Rattle.ymx_model.specs.session.Calls.{is_unacknowledged}
use Rattle.ymx_model.specs.session.Sessions.Incoming.{Head, Payload}

-- ---- records

-- nothing of the stream is to be sent
pub record IsSilent (e : End) : Type 0 where
  pub syn : e.marks.syn ≡ false
  pub ack : e.marks.ack ≡ false
  pub rst : e.marks.rst ≡ false
  pub unsent : e.writer.unsent ≡ []
  pub finished : e.writer.finished ≡ false

-- A record, at a session of this window: what is held is at most the window, and all of it while the
-- stream is offered or open; its credit fits 32 bits; and an offered stream has nothing to send.
pub record IsEndWithin (window : ℕ) (e : End) : Type 0 where
  pub phase : is_recorded e.phase ≡ true
  pub within : window_held e.reader ≤ window
  pub all : takes e.phase ≡ true → window_held e.reader ≡ window
  pub credit : e.writer.credit ≤ greatest_number
  pub offered : is_offered e.phase ≡ true → IsSilent e

-- The table: a window that may be chosen, records within their limits, no two of one id, at most 1,024,
-- and the next turn at a place among them, or after the last.
pub record IsTableWithin (t : Table) : Type 0 where
  pub narrowest : first_credit ≤ t.window
  pub widest : t.window ≤ widest_window
  pub records : (id : ℕ) (e : End) → look id t.entries ≡ Some e → IsEndWithin t.window e
  pub distinct : Distinct t.entries
  pub count : length t.entries ≤ most_records
  pub turn : t.turn ≤ length t.entries

-- ---- offered streams

abbrev pub is_listed : ℕ → List ℕ → Bool
is_listed id [] = false
is_listed id (x ∷ xs) = x == id || is_listed id xs

-- no number stands twice
abbrev pub Once : List ℕ → Type 0
Once [] = Unit
Once (x ∷ xs) = (is_listed x xs ≡ false) × Once xs

abbrev pub is_offered_at : Option End → Bool
is_offered_at None = false
is_offered_at (Some e) = is_offered e.phase

-- at most 256 wait to be accepted: exactly the records that are offered, each once
pub record IsOfferedWithin (offered : List ℕ) (entries : List (ℕ × End)) : Type 0 where
  pub count : length offered ≤ most_offered
  pub once : Once offered
  pub listed : (id : ℕ) → is_listed id offered ≡ is_offered_at (look id entries)

-- ---- answers, the frame begun, the frame that comes

abbrev pub is_in_header : Incoming → Bool
is_in_header (Head []) = false
is_in_header (Head (b ∷ bs)) = true
is_in_header (Payload id missing fin discarded) = false

-- at most 1,024 answers are unsent, and fewer while a header is coming, which may ask for one
pub record IsAnswersWithin (answers : List Response) (incoming : Incoming) : Type 0 where
  pub count : length answers ≤ most_answers
  pub room : is_in_header incoming ≡ true → length answers < most_answers

-- a record is there, and not merely offered
abbrev pub is_taken_at : Option End → Bool
is_taken_at None = false
is_taken_at (Some e) = not (is_offered e.phase)

-- a frame begun that is a stream's is of a record that is there
abbrev pub HasBegunRecord : (of : Option ℕ) → List (ℕ × End) → Type 0
HasBegunRecord None entries = Unit
HasBegunRecord (Some id) entries = is_taken_at (look id entries) ≡ true

-- At least one byte of a payload lacks. What lacks was granted, where it is taken; and an own stream was
-- opened before.
pub record IsPayloadWithin (id missing : ℕ) (role : Role) (next : ℕ) (entries : List (ℕ × End)) : Type 0 where
  pub some : 0 < missing
  pub granted : (e : End) → look id entries ≡ Some e → takes_payload e ≡ true → missing ≤ e.reader.granted
  pub own : is_own role id ≡ true → id < next

-- Of a header fewer than twelve bytes have come; of a payload that is dropped at least one byte lacks.
abbrev pub IsIncomingWithin : Incoming → (role : Role) → (next : ℕ) → List (ℕ × End) → Type 0
IsIncomingWithin (Head bytes) role next entries = length bytes < 12
IsIncomingWithin (Payload id missing fin true) role next entries = 0 < missing
IsIncomingWithin (Payload id missing fin false) role next entries = IsPayloadWithin id missing role next entries

-- The next own id is of the own parity, not 0, and above all that were opened; only the peer's streams are
-- offered; at most 256 own streams are neither acknowledged, reset nor given up.
pub record IsNextWithin (role : Role) (next : ℕ) (entries : List (ℕ × End)) : Type 0 where
  pub parity : is_own role next ≡ true
  pub some : 0 < next
  pub fits : next < 2 ^ 32
  pub above : (id : ℕ) (e : End) → look id entries ≡ Some e → is_own role id ≡ true → id < next
  pub peers : (id : ℕ) (e : End) → look id entries ≡ Some e → is_offered e.phase ≡ true → is_own role id ≡ false
  pub unacknowledged : count_by (is_unacknowledged role) entries ≤ most_unacknowledged

-- no number is pending twice
abbrev pub OncePending : List Ping → Type 0
OncePending [] = Unit
OncePending (p ∷ ps) = (is_pending p.number ps ≡ false) × OncePending ps

-- at most 16 own pings are pending, of different numbers
pub record IsPingsWithin (p : Pings) : Type 0 where
  pub count : length p.pending ≤ most_pings
  pub once : OncePending p.pending
  pub next : p.next < 2 ^ 32

-- All limits of a session.
pub record IsWithin (s : Session) : Type 0 where
  pub table : IsTableWithin s.table
  pub offered : IsOfferedWithin s.offered s.table.entries
  pub pings : IsPingsWithin s.pings
  pub answers : IsAnswersWithin s.answers s.incoming
  pub outgoing : HasBegunRecord s.outgoing.of s.table.entries
  pub incoming : IsIncomingWithin s.incoming s.role s.next s.table.entries
  pub next : IsNextWithin s.role s.next s.table.entries
