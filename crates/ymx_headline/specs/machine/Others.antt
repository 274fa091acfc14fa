-- Which stream a call or a move touches (this project's own).
use Rattle.std.specs.Prelude.{ℕ, List, [], ◌∷◌, Bool, true, false, zero, suc, Option, None, Some}
use Rattle.ymx_machine.specs.shared.Events.{Call}
use Rattle.ymx_machine.specs.declared.types.Call.TheVariants as call
use Rattle.ymx_machine.specs.shared.Events.{Reply}
use Rattle.ymx_machine.specs.declared.types.Reply.TheVariants as reply
use Rattle.ymx_machine.specs.declared.types.Wrote.TheVariants.{Took}
use Rattle.ymx_machine.specs.machine.Machines.{Machine}
use Rattle.ymx_machine.specs.machine.FreeMoves.{FreeMove}
use Rattle.ymx_machine.specs.machine.FreeMoves.FreeMove.{OfStream, SynArrives}

abbrev pub front : List ℕ → Option ℕ
front [] = None
front (id ∷ ids) = Some id

-- the stream that a call at this side touches: the next one, the one offered first, or the one it names
abbrev pub touched : Call → Machine → Option ℕ
touched call.Open m = Some m.me.next
touched (call.OpenWith bytes) m = Some m.me.next
touched call.Accept m = front m.me.offered
touched (call.Write id bytes) m = Some id
touched (call.Read id max) m = Some id
touched (call.Finish id) m = Some id
touched (call.Reset id) m = Some id
touched (call.Forget id) m = Some id
touched _ m = None

-- the stream that a free move touches
abbrev pub touched_by : FreeMove → Option ℕ
touched_by (OfStream id move) = Some id
touched_by (SynArrives id counted) = Some id
touched_by _ = None

-- an answer in whose place lack of memory may be answered: a stream opened, or bytes taken
abbrev pub needs_memory : Reply → Bool
needs_memory (reply.Opened id) = true
needs_memory (reply.OpenedWith id count) = true
needs_memory (reply.Wrote (Took zero)) = false
needs_memory (reply.Wrote (Took (suc n))) = true
needs_memory _ = false
