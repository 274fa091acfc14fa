-- The own pings of a session that have not been collected (ping).
use Rattle.std.specs.Prelude.{ℕ, ◌∷◌, ◌||◌, ◌==◌, if◌then◌else◌, ◌+◌, ◌%◌, ◌^◌, ◌++◌, List, [], Bool, true, false, zero, suc, Option, None, Some}
use Rattle.ymx_model.specs.declared.types.PingStage.{PingStage}
use Rattle.ymx_model.specs.declared.types.PingStage.TheVariants.{Asked, Sent, Back}

pub record Ping : Type 0 where
  pub number : ℕ
  pub stage : PingStage

-- the number that is tried next, and the pings pending in the order in which they were asked
pub record Pings : Type 0 where
  pub next : ℕ
  pub pending : List Ping

abbrev pub no_pings : Pings
no_pings = record { next = 0; pending = [] }

abbrev pub ping_is_asked : PingStage → Bool
ping_is_asked Asked = true
ping_is_asked _ = false

abbrev pub ping_is_back : PingStage → Bool
ping_is_back Back = true
ping_is_back _ = false

abbrev pub is_pending : ℕ → List Ping → Bool
is_pending n [] = false
is_pending n (p ∷ ps) = p.number == n || is_pending n ps

-- whether the answer to this ping is back
abbrev pub has_back : ℕ → List Ping → Bool
has_back n [] = false
has_back n (p ∷ ps) = if p.number == n then ping_is_back p.stage else has_back n ps

-- whether the frame of this ping is due
abbrev pub has_asked : ℕ → List Ping → Bool
has_asked n [] = false
has_asked n (p ∷ ps) = if p.number == n then ping_is_asked p.stage else has_asked n ps

-- the ping of this number is at this stage
abbrev pub staged : PingStage → ℕ → List Ping → List Ping
staged stage n [] = []
staged stage n (p ∷ ps) = if p.number == n then record { number = p.number; stage = stage } ∷ ps else p ∷ staged stage n ps

abbrev pub without_ping : ℕ → List Ping → List Ping
without_ping n [] = []
without_ping n (p ∷ ps) = if p.number == n then ps else p ∷ without_ping n ps

-- the number after this one, which wraps after 4,294,967,295
abbrev pub number_after : ℕ → ℕ
number_after n = (n + 1) % 2 ^ 32

-- the first of `tries` numbers from n on that isn't pending
abbrev pub free_from : (tries : ℕ) → ℕ → List Ping → ℕ
free_from zero n ps = n
free_from (suc tries) n ps = if is_pending n ps then free_from tries (number_after n) ps else n

-- the number of the next ping: of seventeen numbers in a row at least one isn't pending
abbrev pub next_number : Pings → ℕ
next_number p = free_from 17 p.next p.pending

-- it is asked
abbrev pub ask : Pings → Pings
ask p = record { next = number_after (next_number p); pending = p.pending ++ record { number = next_number p; stage = Asked } ∷ [] }

-- an answer comes: a ping that isn't pending stays so
abbrev pub receive_answer : ℕ → Pings → Pings
receive_answer n p = record p { pending = staged Back n p.pending }

-- its frame begins
abbrev pub begin_ping : ℕ → Pings → Pings
begin_ping n p = record p { pending = staged Sent n p.pending }

-- its answer is collected
abbrev pub collect : ℕ → Pings → Pings
collect n p = record p { pending = without_ping n p.pending }

-- the ping whose frame is due and was asked first
abbrev pub first_asked : List Ping → Option ℕ
first_asked [] = None
first_asked (p ∷ ps) = if ping_is_asked p.stage then Some p.number else first_asked ps
