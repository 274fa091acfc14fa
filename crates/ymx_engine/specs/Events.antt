-- Events of one session, one after another, and what a stream took and gave at them (this project's own).
use Rattle.std.specs.Prelude.{ℕ, ◌≡◌, ◌==◌, if◌then◌else◌, ◌++◌, ◌∷◌, ◌||◌, ◌&&◌, List, [], take, Bool, true, false}
use Rattle.ymx_machine.specs.declared.types.Call.TheVariants as call
use Rattle.ymx_model.specs.session.Events.{Event}
use Rattle.ymx_model.specs.declared.types.Event.TheVariants as event
use Rattle.ymx_machine.specs.shared.Events.{Reply}
use Rattle.ymx_machine.specs.declared.types.Reply.TheVariants as reply
use Rattle.ymx_machine.specs.declared.types.CallFault.TheVariants.{Finished, OutOfMemory}
use Rattle.ymx_machine.specs.declared.types.Wrote.TheVariants.{Took}
use Rattle.ymx_model.specs.session.Sessions.{Session}
use Rattle.ymx_model.specs.session.Emissions.{in_turn}
use Rattle.ymx_model.specs.session.Histories.{Gives}

-- From s each event gives its reply, and the last state is t.
abbrev pub Happen : List (Event × Reply) → Session → Session → Type 0
Happen [] s t = t ≡ s
Happen (e ∷ es) s t = (next : Session) × Gives in_turn s e.0 e.1 next × Happen es next t

-- ---- one stream

-- a write, a read or an end of this stream
abbrev pub is_on : ℕ → Event → Bool
is_on id (event.Call (call.Write other bytes)) = other == id
is_on id (event.Call (call.Read other room)) = other == id
is_on id (event.Call (call.Finish other)) = other == id
is_on id (event.Call (call.Reset other)) = other == id
is_on id _ = false

-- how many bytes a write took
abbrev pub took_count : Reply → ℕ
took_count (reply.Wrote (Took n)) = n
took_count _ = 0

-- the bytes that the stream took at an event
abbrev pub taken_at : ℕ → Event → Reply → List ℕ
taken_at id (event.Call (call.Write other bytes)) told = if other == id then take (took_count told) bytes else []
taken_at id _ told = []

abbrev pub taken : ℕ → List (Event × Reply) → List ℕ
taken id [] = []
taken id (e ∷ es) = taken_at id e.0 e.1 ++ taken id es

abbrev pub bytes_of : Reply → List ℕ
bytes_of (reply.Read bytes) = bytes
bytes_of _ = []

-- the bytes that the stream gave at an event
abbrev pub given_at : ℕ → Event → Reply → List ℕ
given_at id (event.Call (call.Read other room)) told = if other == id then bytes_of told else []
given_at id _ told = []

abbrev pub given : ℕ → List (Event × Reply) → List ℕ
given id [] = []
given id (e ∷ es) = given_at id e.0 e.1 ++ given id es

abbrev pub is_read_end : Reply → Bool
is_read_end reply.ReadEnd = true
is_read_end _ = false

-- the stream said that its end was read
abbrev pub ends_at : ℕ → Event → Reply → Bool
ends_at id (event.Call (call.Read other room)) told = (other == id) && is_read_end told
ends_at id _ told = false

abbrev pub has_end : ℕ → List (Event × Reply) → Bool
has_end id [] = false
has_end id (e ∷ es) = ends_at id e.0 e.1 || has_end id es

-- the stream was finished, or this was refused
abbrev pub finishes_at : ℕ → Event → Bool
finishes_at id (event.Call (call.Finish other)) = other == id
finishes_at id _ = false

abbrev pub has_finish : ℕ → List (Event × Reply) → Bool
has_finish id [] = false
has_finish id (e ∷ es) = finishes_at id e.0 || has_finish id es

-- the stream was reset, or this was refused
abbrev pub resets_at : ℕ → Event → Bool
resets_at id (event.Call (call.Reset other)) = other == id
resets_at id _ = false

abbrev pub has_reset : ℕ → List (Event × Reply) → Bool
has_reset id [] = false
has_reset id (e ∷ es) = resets_at id e.0 || has_reset id es

-- the session refused
abbrev pub is_refusal : Reply → Bool
is_refusal (reply.Refused fault) = true
is_refusal _ = false

-- the session refused, and not because the stream was finished here
abbrev pub is_stop : Reply → Bool
is_stop (reply.Refused Finished) = false
is_stop (reply.Refused fault) = true
is_stop _ = false

-- the stream was reset, or this was refused; or a read of it was refused, or a write for anything but that it was finished
abbrev pub stops_at : ℕ → Event → Reply → Bool
stops_at id (event.Call (call.Reset other)) told = other == id
stops_at id (event.Call (call.Read other room)) told = (other == id) && is_refusal told
stops_at id (event.Call (call.Write other bytes)) told = (other == id) && is_stop told
stops_at id _ told = false

abbrev pub has_stop : ℕ → List (Event × Reply) → Bool
has_stop id [] = false
has_stop id (e ∷ es) = stops_at id e.0 e.1 || has_stop id es

-- the session refused for lack of memory
abbrev pub is_memory_refusal : Reply → Bool
is_memory_refusal (reply.Refused (OutOfMemory lacked)) = true
is_memory_refusal _ = false

-- a write of the stream was refused for lack of memory
abbrev pub lacks_memory_at : ℕ → Event → Reply → Bool
lacks_memory_at id (event.Call (call.Write other bytes)) told = (other == id) && is_memory_refusal told
lacks_memory_at id _ told = false

abbrev pub lacks_memory : ℕ → List (Event × Reply) → Bool
lacks_memory id [] = false
lacks_memory id (e ∷ es) = lacks_memory_at id e.0 e.1 || lacks_memory id es

-- a stream was opened with its first bytes, or this was refused
abbrev pub opens_with : Event → Bool
opens_with (event.Call (call.OpenWith bytes)) = true
opens_with _ = false

abbrev pub has_open_with : List (Event × Reply) → Bool
has_open_with [] = false
has_open_with (e ∷ es) = opens_with e.0 || has_open_with es
