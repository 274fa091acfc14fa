-- What is printed of an answer (this project's own).
use Rattle.std.specs.Prelude.{ℕ, List, [], ◌++◌, length, take, Bool, true, false, ◌==◌, nat_lt, if◌then◌else◌, Option, None, Some, codes, decimal}
use Rattle.hex.specs.Hex.{encode_lower}
use Rattle.ymx_header.specs.Faults.{fault_number}
use Rattle.ymx_machine.specs.declared.types.Answer.{Answer}
use Rattle.ymx_machine.specs.declared.types.Answer.TheVariants as answer
use Rattle.ymx_machine.specs.declared.types.CallFault.{CallFault}
use Rattle.ymx_machine.specs.declared.types.CallFault.TheVariants as refusal
use Rattle.ymx_machine.specs.declared.types.Fed.{Fed}
use Rattle.ymx_machine.specs.declared.types.Why.{Why}
use Rattle.ymx_machine.specs.declared.types.Why.TheVariants.{All, Held, Broken}
use Rattle.ymx_machine.specs.declared.types.Wrote.{Wrote}
use Rattle.ymx_machine.specs.declared.types.Wrote.TheVariants.{Took, Wait}

-- the number of a refusal and its name
abbrev pub refusal_text : CallFault → List ℕ
refusal_text refusal.NoStream = codes "1 NoStream"
refusal_text refusal.Finished = codes "2 Finished"
refusal_text refusal.Reset = codes "3 Reset"
refusal_text refusal.Lost = codes "4 Lost"
refusal_text refusal.Closed = codes "5 Closed"
refusal_text refusal.PeerAway = codes "6 PeerAway"
refusal_text refusal.OpensPending = codes "7 OpensPending"
refusal_text refusal.TooMany = codes "8 TooMany"
refusal_text refusal.Exhausted = codes "9 Exhausted"
refusal_text refusal.PingsPending = codes "10 PingsPending"
refusal_text (refusal.OutOfMemory _) = codes "11 OutOfMemory"

abbrev pub accepted_text : Option ℕ → List ℕ
accepted_text None = codes "none"
accepted_text (Some id) = codes "accepted " ++ decimal id

abbrev pub wrote_text : Wrote → List ℕ
wrote_text (Took n) = codes "took " ++ decimal n
wrote_text Wait = codes "wait"

abbrev pub yes_or_no : Bool → List ℕ
yes_or_no true = codes "yes"
yes_or_no false = codes "no"

-- bytes in hexadecimal after a space, if there are any
abbrev pub digits_text : List ℕ → List ℕ
digits_text bytes = if length bytes == 0 then [] else codes " " ++ encode_lower bytes

-- what was read: how many bytes and, where they are shown, the bytes
abbrev pub read_text : (shown : Bool) → List ℕ → List ℕ
read_text shown bytes = codes "bytes " ++ decimal (length bytes) ++ (if shown then digits_text bytes else [])

-- why a delivery stopped, and how many bytes it took
abbrev pub stop_text : Why → ℕ → List ℕ
stop_text All taken = codes "fed " ++ decimal taken
stop_text Held taken = codes "held " ++ decimal taken
stop_text (Broken fault) taken = codes "broken " ++ decimal taken ++ (codes " B" ++ decimal (fault_number fault))

-- how many streams found no memory, if any
abbrev pub starved_text : ℕ → List ℕ
starved_text count = if count == 0 then [] else codes " nomem " ++ decimal count

abbrev pub fed_text : Fed → List ℕ
fed_text fed = stop_text fed.why fed.taken ++ starved_text fed.no_memory

-- an answer, in words; `shown`: with the bytes that were read
abbrev pub answer_text : (shown : Bool) → Answer → List ℕ
answer_text shown (answer.Opened id) = codes "opened " ++ decimal id
answer_text shown (answer.OpenedWith id count) = codes "opened " ++ decimal id ++ (codes " took " ++ decimal count)
answer_text shown (answer.Accepted id) = accepted_text id
answer_text shown (answer.Wrote wrote) = wrote_text wrote
answer_text shown (answer.Read bytes) = read_text shown bytes
answer_text shown answer.ReadEnd = codes "end"
answer_text shown answer.ReadWait = codes "wait"
answer_text shown answer.Done = codes "ok"
answer_text shown (answer.Pinged number) = codes "ping " ++ decimal number
answer_text shown (answer.Ponged back) = yes_or_no back
answer_text shown (answer.Refused fault) = codes "refused " ++ refusal_text fault
answer_text shown (answer.Emitted count) = codes "emitted " ++ decimal count
answer_text shown (answer.Fed fed) = fed_text fed
answer_text shown answer.NotStopped = codes "not stopped"

-- the first 32 bytes on their way, with two dots if there are more
abbrev pub pipe_digits : List ℕ → List ℕ
pipe_digits bytes = digits_text (take 32 bytes) ++ (if nat_lt 32 (length bytes) then codes ".." else [])

abbrev pub pipe_text : List ℕ → List ℕ
pipe_text bytes = codes "pipe " ++ decimal (length bytes) ++ pipe_digits bytes

-- a text as a line
abbrev pub with_line_feed : List ℕ → List ℕ
with_line_feed text = text ++ codes "\n"

-- the line of a mistake, which stands in the line of this number
abbrev pub error_line : ℕ → List ℕ
error_line number = with_line_feed (codes "error line " ++ decimal number)
