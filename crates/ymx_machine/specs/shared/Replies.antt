-- What a call on a stream answers, by the state of its end (this project's own, after the Go package's Stream).
use Rattle.std.specs.Prelude.{ℕ, ◌&&◌, if◌then◌else◌, ◌==◌, ◌||◌, Bool, not, List, length, min, true, [], take, false}
use Rattle.ymx_machine.specs.shared.Phases.{Phase, is_live, is_reset}
use Rattle.ymx_machine.specs.shared.Events.{Reply}
use Rattle.ymx_machine.specs.declared.types.Reply.TheVariants.{Refused, Wrote as WroteReply, Read as ReadReply, ReadEnd, ReadWait, Done, Emitted}
use Rattle.ymx_machine.specs.declared.types.CallFault.TheVariants.{NoStream, Finished, Reset, Lost}
use Rattle.ymx_machine.specs.declared.types.Wrote.TheVariants.{Took, Wait}

-- The first refusal that applies, or else this reply: an end that no caller has is NoStream, one that
-- was reset is Reset; where the call needs it, one whose end was said is Finished; a lost session is Lost.
abbrev pub unless_refused : (needs_open lost : Bool) → Phase → (said : Bool) → Reply → Reply
unless_refused needs_open lost p said otherwise =
    if is_reset p then Refused Reset
    else if not (is_live p) then Refused NoStream
    else if needs_open && said then Refused Finished
    else if lost then Refused Lost
    else otherwise

-- a write takes what the credit allows
abbrev pub write_reply : (lost : Bool) → List ℕ → Phase → (said : Bool) → (credit : ℕ) → Reply
write_reply lost bytes p said credit =
    unless_refused true lost p said (
    if length bytes == 0 then WroteReply (Took 0)
    else if credit == 0 then WroteReply Wait
    else WroteReply (Took (min (length bytes) credit))
    )

-- a read gives what is there, then the end; in a lost session bytes and end come before Lost
abbrev pub read_reply : (lost : Bool) → (max : ℕ) → Phase → (here : List ℕ) → (ended : Bool) → Reply
read_reply lost max p here ended =
    unless_refused false false p false (
    if max == 0 then ReadReply []
    else if not (length here == 0) then ReadReply (take max here)
    else if ended then ReadEnd
    else if lost then Refused Lost
    else ReadWait
    )

abbrev pub finish_reply : (lost : Bool) → Phase → (said : Bool) → Reply
finish_reply lost p said = unless_refused true lost p said Done

abbrev pub reset_reply : (lost : Bool) → Phase → Reply
reset_reply lost p = unless_refused false lost p false Done

abbrev pub forget_reply : Phase → Reply
forget_reply p = if is_live p || is_reset p then Done else Refused NoStream

-- how many bytes a write took, or a read gave
abbrev pub bytes_moved : Reply → ℕ
bytes_moved (WroteReply (Took n)) = n
bytes_moved (ReadReply bytes) = length bytes
bytes_moved _ = 0

-- how many bytes stand in a reply
abbrev pub bytes_told : Reply → ℕ
bytes_told (ReadReply bytes) = length bytes
bytes_told (Emitted bytes) = length bytes
bytes_told _ = 0

abbrev pub is_done : Reply → Bool
is_done Done = true
is_done _ = false
