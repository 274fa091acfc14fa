-- What an end answers to a call by itself, and what it is then (this project's own, after the Go package's Stream).
use Rattle.std.specs.Prelude.{◌≡◌, ◌≢◌, ◌⊎◌, take, Bool, false, if◌then◌else◌}
use Rattle.ymx_machine.specs.shared.Evidence.{evidence}
use Rattle.ymx_machine.specs.shared.Phases.Phase.{WasReset, Gone}
use Rattle.ymx_model.specs.session.Records.{End, dead_writer, dead_reader, only_due, end_write, end_read, end_finish, end_reset, end_forget}
use Rattle.ymx_machine.specs.stream.StreamRules.{StreamCall}
use Rattle.ymx_machine.specs.shared.Replies.{write_reply, read_reply, finish_reply, reset_reply, forget_reply, bytes_moved, is_done}
use Rattle.ymx_machine.specs.stream.StreamRules.StreamCall.{Writes, Reads, Finishes, Resets, Forgets}
use Rattle.ymx_machine.specs.shared.Events.{Reply}
use Rattle.ymx_machine.specs.declared.types.Reply.TheVariants.{Refused}
use Rattle.ymx_machine.specs.declared.types.CallFault.TheVariants.{OutOfMemory}

-- With this reply the end e becomes f. It answers from its own phase, credit, bytes and ends; a write
-- that would take bytes may want memory instead.
abbrev pub EndRule : (lost : Bool) → StreamCall → End → Reply → End → Type 0
EndRule lost (Writes bytes) e r f =
    ((r ≡ write_reply lost bytes e.phase e.writer.finished e.writer.credit) × (f ≡ end_write (take (bytes_moved r) bytes) e))
    ⊎ ((bytes_moved (write_reply lost bytes e.phase e.writer.finished e.writer.credit) ≢ 0) × (r ≡ Refused (OutOfMemory evidence)) × (f ≡ e))
EndRule lost (Reads max) e r f = (r ≡ read_reply lost max e.phase e.reader.unread e.reader.ended) × (f ≡ end_read (bytes_moved r) e)
EndRule lost Finishes e r f = (r ≡ finish_reply lost e.phase e.writer.finished) × (f ≡ (if is_done r then end_finish e else e))
EndRule lost Resets e r f = (r ≡ reset_reply lost e.phase) × (f ≡ (if is_done r then end_reset WasReset e else e))
EndRule lost Forgets e r f = (r ≡ forget_reply e.phase) × (f ≡ (if is_done r then end_forget lost e else e))

-- an end that is given up and has nothing left to send goes: nothing of it is kept
abbrev pub end_released : End → End
end_released e = record { phase = Gone; writer = dead_writer; reader = dead_reader; marks = only_due false false e.marks }
