-- Bytes that are fed, one after the other (framing).
use Rattle.std.specs.Prelude.{ℕ, ◌∷◌, ◌&&◌, ◌||◌, ◌+◌, ◌++◌, ◌==◌, if◌then◌else◌, ◌≡◌, ◌<◌, ◌≤◌, [], Bool, true, false, length, not, nat_le, List, take, min}
use Rattle.ymx_model.specs.session.Sessions.{Incoming, Session, is_deaf, is_broken}
use Rattle.ymx_machine.specs.shared.Limits.{most_answers, greatest_number}
use Rattle.ymx_model.specs.session.Sessions.Incoming.{Head, Payload}
use Rattle.ymx_header.specs.Headers.{header_of}
use Rattle.ymx_model.specs.session.Arrivals.{head_comes, piece_comes, is_starved}
use Rattle.ymx_model.specs.declared.types.Status.{Status}
use Rattle.ymx_model.specs.declared.types.Status.TheVariants.{Running, Lost, Broken as BrokenStatus, Closed}
use Rattle.ymx_machine.specs.declared.types.Why.{Why}
use Rattle.ymx_machine.specs.declared.types.Why.TheVariants.{All, Held, Broken}
use Rattle.ymx_machine.specs.declared.types.Fed.{Fed}

-- nothing has come of the next frame
abbrev pub is_between : Incoming → Bool
is_between (Head []) = true
is_between (Head (b ∷ bs)) = false
is_between (Payload id missing fin discarded) = false

-- No byte is taken: the session is broken, or its row of answers is full between two frames.
abbrev pub is_stuck : Session → Bool
is_stuck s = is_broken s.status || (not (is_deaf s.status) && is_between s.incoming && nat_le most_answers (length s.answers))

-- one byte of a frame: the twelfth of a header makes it whole
abbrev pub byte_in : (no_memory : Bool) → ℕ → Session → Incoming → Session
byte_in no_memory b s (Head seen) =
    if length seen == 11 then head_comes no_memory (header_of (seen ++ b ∷ [])) (record s { incoming = Head [] })
    else record s { incoming = Head (seen ++ b ∷ []) }
byte_in no_memory b s (Payload id n fin discarded) = piece_comes (b ∷ []) id n fin discarded s

-- a session that is lost or closed drops it
abbrev pub byte_comes : (no_memory : Bool) → ℕ → Session → Session
byte_comes no_memory b s = if is_deaf s.status then s else byte_in no_memory b s s.incoming

-- 1 for a byte that makes a SYN whole which is refused for lack of memory alone, else 0
abbrev pub starves : (no_memory : Bool) → ℕ → Session → Incoming → ℕ
starves no_memory b s (Head seen) =
    if no_memory && not (is_deaf s.status) && length seen == 11 && is_starved (header_of (seen ++ b ∷ [])) s then 1 else 0
starves no_memory b s (Payload id n fin discarded) = 0

-- All these bytes are taken. At each byte memory for a record may be found or not, and `starved`
-- counts the streams refused for lack of it.
abbrev pub Takes : List ℕ → Session → Session → (starved : ℕ) → Type 0
Takes [] s t starved = (t ≡ s) × (starved ≡ 0)
Takes (b ∷ bs) s t starved =
    (no_memory : Bool) × (more : ℕ) × (is_stuck s ≡ false) × (starved ≡ starves no_memory b s s.incoming + more) × Takes bs (byte_comes no_memory b s) t more

-- why a feed stops, in this status, whether or not it took all
abbrev pub why_of : Status → (all : Bool) → Why
why_of Running all = if all then All else Held
why_of Lost all = All
why_of (BrokenStatus fault) all = Broken fault
why_of Closed all = All

-- A feed takes all its bytes, up to a fault or to a full row of answers.
pub record Feeds (s : Session) (input : List ℕ) (fed : Fed) (t : Session) : Type 0 where
  pub fits : fed.taken ≤ length input
  pub took : (starved : ℕ) × Takes (take fed.taken input) s t starved × (fed.no_memory ≡ min starved greatest_number)
  pub stops : fed.taken < length input → is_stuck t ≡ true
  pub why : fed.why ≡ why_of t.status (fed.taken == length input)

-- ---- with ample memory a feed is a function

pub record FeedDone : Type 0 where
  pub state : Session
  pub rest : List ℕ

abbrev pub feed : List ℕ → Session → FeedDone
feed [] s = record { state = s; rest = [] }
feed (b ∷ bs) s = if is_stuck s then record { state = s; rest = b ∷ bs } else feed bs (byte_comes false b s)
