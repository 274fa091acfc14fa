-- What any event answers, with the bytes that it gives at the front of a buffer (this project's own).
use Rattle.std.specs.Prelude.{◌≡◌, ◌⊎◌, ℕ, List, take, Bool, Option}
use Rattle.ymx_machine.specs.declared.types.CallFault.{CallFault}
use Rattle.ymx_machine.specs.declared.types.Call.TheVariants as call
use Rattle.ymx_machine.specs.declared.types.Wrote.{Wrote}
use Rattle.ymx_machine.specs.declared.types.Fed.{Fed}
use Rattle.ymx_machine.specs.declared.types.Reply.{Reply as ReplyOf}
use Rattle.ymx_machine.specs.declared.types.Reply.TheVariants as reply
use Rattle.ymx_machine.specs.shared.Events.{Call, Reply}
use Rattle.ymx_model.specs.session.Events.{Event}
use Rattle.ymx_model.specs.declared.types.Event.TheVariants as event

-- the buffer has exactly the size that a read or an emission names
abbrev pub IsSizeOfCall : Call → (size : ℕ) → Type 0
IsSizeOfCall (call.Read id room) size = room ≡ size
IsSizeOfCall _ size = Unit {0}

abbrev pub IsSizeOf : Event → (size : ℕ) → Type 0
IsSizeOf (event.Call asked) size = IsSizeOfCall asked size
IsSizeOf (event.Emit room) size = room ≡ size
IsSizeOf (event.Feed bytes) size = Unit {0}
IsSizeOf event.FeedEnd size = Unit {0}

-- a reply that counts its bytes, with those bytes: the first so many of this buffer
abbrev pub in_buffer : List ℕ → ReplyOf ℕ → Reply
in_buffer buffer (reply.Opened id) = reply.Opened id
in_buffer buffer (reply.OpenedWith id taken) = reply.OpenedWith id taken
in_buffer buffer (reply.Accepted id) = reply.Accepted id
in_buffer buffer (reply.Wrote wrote) = reply.Wrote wrote
in_buffer buffer (reply.Read count) = reply.Read (take count buffer)
in_buffer buffer reply.ReadEnd = reply.ReadEnd
in_buffer buffer reply.ReadWait = reply.ReadWait
in_buffer buffer reply.Done = reply.Done
in_buffer buffer (reply.Pinged number) = reply.Pinged number
in_buffer buffer (reply.Ponged back) = reply.Ponged back
in_buffer buffer (reply.Refused fault) = reply.Refused fault
in_buffer buffer (reply.Fed fed) = reply.Fed fed
in_buffer buffer (reply.Emitted count) = reply.Emitted (take count buffer)

-- how many bytes it counts
abbrev pub counted : ReplyOf ℕ → ℕ
counted (reply.Read count) = count
counted (reply.Emitted count) = count
counted _ = 0

-- the reply is a refusal
abbrev pub IsRefusal : ReplyOf ℕ → Type 0
IsRefusal told = (fault : CallFault) × (told ≡ reply.Refused fault)

-- the reply is one that this call gets where it is not refused
abbrev pub IsDoneBy : Call → ReplyOf ℕ → Type 0
IsDoneBy call.Open told = (id : ℕ) × (told ≡ reply.Opened id)
IsDoneBy (call.OpenWith bytes) told = (id : ℕ) × (taken : ℕ) × (told ≡ reply.OpenedWith id taken)
IsDoneBy call.Accept told = (id : Option ℕ) × (told ≡ reply.Accepted id)
IsDoneBy (call.Write id bytes) told = (wrote : Wrote) × (told ≡ reply.Wrote wrote)
IsDoneBy (call.Read id room) told = ((count : ℕ) × (told ≡ reply.Read count)) ⊎ (told ≡ reply.ReadEnd) ⊎ (told ≡ reply.ReadWait)
IsDoneBy (call.Finish id) told = told ≡ reply.Done
IsDoneBy (call.Reset id) told = told ≡ reply.Done
IsDoneBy (call.Forget id) told = told ≡ reply.Done
IsDoneBy call.Ping told = (number : ℕ) × (told ≡ reply.Pinged number)
IsDoneBy (call.Ponged number) told = (back : Bool) × (told ≡ reply.Ponged back)
IsDoneBy call.GoAway told = told ≡ reply.Done
IsDoneBy call.Close told = told ≡ reply.Done

-- the reply is one that this event gets: only a call is ever refused
abbrev pub IsReplyTo : Event → ReplyOf ℕ → Type 0
IsReplyTo (event.Call asked) told = IsDoneBy asked told ⊎ IsRefusal told
IsReplyTo (event.Feed bytes) told = (fed : Fed) × (told ≡ reply.Fed fed)
IsReplyTo event.FeedEnd told = told ≡ reply.Done
IsReplyTo (event.Emit room) told = (count : ℕ) × (told ≡ reply.Emitted count)
