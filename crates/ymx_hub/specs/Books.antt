-- What an event under the lock adds to the list of its seat, and to the history that its seat has seen (this project's own).
use Rattle.std.specs.Prelude.{◌≡◌, ℕ, ◌<◌, ◌⊎◌, List, [], ◌∷◌, ◌++◌, length, Bool, true, false, Option, Some, None, Result, Ok, Err}
use Rattle.ymx_memory.specs.declared.refused.RefusedAllocation.{RefusedAllocation}
use Rattle.ymx_machine.specs.shared.Evidence.{evidence}
use Rattle.ymx_machine.specs.declared.types.CallFault.{CallFault}
use Rattle.ymx_model.specs.session.Events.{Event}
use Rattle.ymx_model.specs.declared.types.Event.TheVariants as event
use Rattle.ymx_machine.specs.declared.types.Call.TheVariants as call
use Rattle.ymx_machine.specs.shared.Events.{Reply}
use Rattle.ymx_machine.specs.declared.types.Reply.TheVariants as reply
use Rattle.ymx_model.specs.declared.types.Entry.{Entry}
use Rattle.ymx_session.specs.Replies.{done_or}
use Rattle.ymx_session.specs.Applied.{in_buffer}
use Rattle.ymx_machine.specs.declared.types.Reply.{Reply as ReplyOf}
use Rattle.ymx_seats.specs.Journals.{part}
use Rattle.ymx_seats.specs.Views.{SeatView, IsNewcomer, entry}
use Rattle.ymx_hub.specs.declared.faults.HubFault.{HubFault}
use Rattle.ymx_hub.specs.declared.stream_calls.HalfCall.{HalfCall}
use Rattle.ymx_hub.specs.declared.stream_calls.HalfCall.TheVariants as half
use Rattle.ymx_hub.specs.declared.faults.HubFault.TheVariants.{Memory, Seats}
use Rattle.ymx_hub.specs.Answers.{hub_fault_of, refused_seat}

-- ---- the events

abbrev pub to_open : Event
to_open = event.Call call.Open

abbrev pub to_open_with : List ℕ → Event
to_open_with bytes = event.Call (call.OpenWith bytes)

abbrev pub to_accept : Event
to_accept = event.Call call.Accept

abbrev pub to_write : ℕ → List ℕ → Event
to_write id bytes = event.Call (call.Write id bytes)

abbrev pub to_read : ℕ → ℕ → Event
to_read id size = event.Call (call.Read id size)

abbrev pub to_finish : ℕ → Event
to_finish id = event.Call (call.Finish id)

abbrev pub to_reset : ℕ → Event
to_reset id = event.Call (call.Reset id)

-- the call that ends a half of a stream
abbrev pub to_end : HalfCall → ℕ → Event
to_end half.Finish id = to_finish id
to_end half.Reset id = to_reset id

abbrev pub to_forget : ℕ → Event
to_forget id = event.Call (call.Forget id)

abbrev pub to_ping : Event
to_ping = event.Call call.Ping

abbrev pub to_collect : ℕ → Event
to_collect number = event.Call (call.Ponged number)

abbrev pub to_go_away : Event
to_go_away = event.Call call.GoAway

abbrev pub to_close : Event
to_close = event.Call call.Close

-- ---- the entries

-- a recorder that keeps has added entries that are such
abbrev pub Gains : Bool → List Entry → List Entry → (List Entry → Type 0) → Type 0
Gains true before after Such = (added : List Entry) × (after ≡ before ++ added) × Such added
Gains false before after Such = Unit {0}

-- The history that a seat of this number had seen grows by these entries of its own, in their order, each at its place.
-- Before each of them there may be new ones of others, and none of its own.
abbrev pub Grows : (number : ℕ) → (before added after : List Entry) → Type 0
Grows number before [] after = after ≡ before
Grows number before (e ∷ es) after =
    (between : List Entry) × (part number between ≡ []) × (e.position ≡ length (before ++ between))
    × Grows number ((before ++ between) ++ e ∷ []) es after

-- where there is a journal, the history that a seat had seen has grown by entries of its own that are such
abbrev pub Extends : (number : ℕ) → (before after : Option (List Entry)) → (List Entry → Type 0) → Type 0
Extends number None None Such = Unit {0}
Extends number None (Some after) Such = ⊥
Extends number (Some before) None Such = ⊥
Extends number (Some before) (Some after) Such = (added : List Entry) × Such added × Grows number before added after

-- A call keeps the number and the start of its seat. A recorder that keeps has added entries that are such, and by one that
-- witnesses the history that the seat has seen has grown by entries that are such.
pub record Books (keeps : Bool) (old new : SeatView) (Such : List Entry → Type 0) : Type 0 where
  pub number : new.number ≡ old.number
  pub start : new.start ≡ old.start
  pub gains : Gains keeps old.entries new.entries Such
  pub extends : Extends old.number old.seen new.seen Such

-- one entry, which names this seat
abbrev pub One : ℕ → Event → Reply → List Entry → Type 0
One seat event told added = (position : ℕ) × (added ≡ entry position seat event told ∷ [])

-- one entry, which was answered so; or a refusal, which its one entry gives; or there was no memory for it
abbrev pub Asks : {A : Type 0} → Event → (Result A CallFault → Reply) → ℕ → Result A HubFault → List Entry → Type 0
Asks event told seat (Ok x) added = One seat event (told (Ok x)) added
Asks event told seat (Err fault) added =
    ((fault ≡ Memory evidence) × (added ≡ []))
    ⊎ ((why : CallFault) × (fault ≡ hub_fault_of why) × One seat event (told (Err why)) added)

-- what was told, or a refusal, with the bytes that stand in this buffer
abbrev pub told_or : List ℕ → Result (ReplyOf ℕ) CallFault → Reply
told_or buffer (Ok told) = in_buffer buffer told
told_or buffer (Err why) = reply.Refused why

-- one entry, whose reply is the answer; or there was no memory for it
abbrev pub Does : {A : Type 0} → Event → (A → Reply) → ℕ → Result A RefusedAllocation → List Entry → Type 0
Does event told seat (Ok x) added = One seat event (told x) added
Does event told seat (Err refused) added = added ≡ []

-- ---- streams that are handed out

-- the event was not done, for lack of memory or of seats, or it was refused
abbrev pub IsRefused : Event → ℕ → HubFault → List Entry → Type 0
IsRefused event seat fault added =
    (((fault ≡ Memory evidence) ⊎ (fault ≡ Seats refused_seat)) × (added ≡ []))
    ⊎ ((why : CallFault) × (fault ≡ hub_fault_of why) × One seat event (reply.Refused why) added)

-- A seat starts after this entry: its own have later positions; and the history that it has seen, where there is a journal,
-- ends with this event and reply.
abbrev pub StartsBehind : Entry → (start : ℕ) → Option (List Entry) → Type 0
StartsBehind e start None = e.position < start
StartsBehind e start (Some seen) = (before : List Entry) × (position : ℕ) × (seen ≡ before ++ entry position e.seat e.event e.reply ∷ [])

abbrev pub StartsAfter : Entry → SeatView → Type 0
StartsAfter e seat = StartsBehind e seat.start seat.seen

-- a seat that has made no call
abbrev pub IsFresh : SeatView → Type 0
IsFresh seat = (seat.entries ≡ []) × IsNewcomer seat.number seat.seen

-- one entry, which gave a stream; the seats of both its halves start after it, and have made no call
abbrev pub IsGiven : Event → Reply → ℕ → SeatView → SeatView → List Entry → Type 0
IsGiven event told seat one other added =
    (position : ℕ) × (added ≡ entry position seat event told ∷ []) × StartsAfter (entry position seat event told) one
    × StartsAfter (entry position seat event told) other × IsFresh one × IsFresh other

-- the event asks for a stream
abbrev pub AsksStream : Event → Type 0
AsksStream (event.Call call.Open) = Unit {0}
AsksStream (event.Call (call.OpenWith bytes)) = Unit {0}
AsksStream (event.Call call.Accept) = Unit {0}
AsksStream _ = ⊥

-- the reply says that this stream was given, with so many of its first bytes taken
abbrev pub TellsStream : Event → (id taken : ℕ) → Reply → Type 0
TellsStream (event.Call call.Open) id taken told = told ≡ reply.Opened id
TellsStream (event.Call (call.OpenWith bytes)) id taken told = told ≡ reply.OpenedWith id taken
TellsStream (event.Call call.Accept) id taken told = told ≡ reply.Accepted (Some id)
TellsStream _ id taken told = ⊥

-- the stream that was given by an event that was answered so
abbrev pub IsStreamOf : Event → ReplyOf ℕ → Result (Option (ℕ × ℕ)) CallFault → Type 0
IsStreamOf event told (Ok (Some made)) = (buffer : List ℕ) → TellsStream event made.0 made.1 (in_buffer buffer told)
IsStreamOf event told (Ok None) = (event ≡ to_accept) × (told ≡ reply.Accepted None)
IsStreamOf event told (Err why) = told ≡ reply.Refused why

-- the stream that was given, or that none is offered yet
abbrev pub GivesStream : Event → ℕ → Result (Option (ℕ × ℕ × SeatView × SeatView)) HubFault → List Entry → Type 0
GivesStream event seat (Ok (Some made)) added = (told : Reply) × TellsStream event made.0 made.1 told × IsGiven event told seat made.2 made.3 added
GivesStream event seat (Ok None) added = One seat event (reply.Accepted None) added
GivesStream event seat (Err fault) added = IsRefused event seat fault added

-- the stream that was opened
abbrev pub Opens : ℕ → Result (ℕ × SeatView × SeatView) HubFault → List Entry → Type 0
Opens seat (Ok made) added = IsGiven to_open (reply.Opened made.0) seat made.1 made.2 added
Opens seat (Err fault) added = IsRefused to_open seat fault added

-- the stream that was opened with these bytes, and how many of them were taken
abbrev pub OpensWith : List ℕ → ℕ → Result (ℕ × ℕ × SeatView × SeatView) HubFault → List Entry → Type 0
OpensWith bytes seat (Ok made) added = IsGiven (to_open_with bytes) (reply.OpenedWith made.0 made.1) seat made.2 made.3 added
OpensWith bytes seat (Err fault) added = IsRefused (to_open_with bytes) seat fault added

-- one turn of an accept: the stream, or that none is offered yet
abbrev pub AcceptsOnce : ℕ → Result (Option (ℕ × SeatView × SeatView)) HubFault → List Entry → Type 0
AcceptsOnce seat (Ok (Some made)) added = IsGiven to_accept (reply.Accepted (Some made.0)) seat made.1 made.2 added
AcceptsOnce seat (Ok None) added = One seat to_accept (reply.Accepted None) added
AcceptsOnce seat (Err fault) added = IsRefused to_accept seat fault added

-- ---- halves that are spent

-- nothing, or the stream was given up
abbrev pub Forgets : ℕ → ℕ → List Entry → Type 0
Forgets id seat added = (added ≡ []) ⊎ ((told : Reply) × One seat (to_forget id) told added)

-- the entry of the call; then the stream was given up where its other half was spent
abbrev pub SpendsWith : Event → ℕ → ℕ → Reply → List Entry → Type 0
SpendsWith event id seat told added =
    (position : ℕ) × (rest : List Entry) × (added ≡ entry position seat event told ∷ rest) × Forgets id seat rest

-- that with the answer, or there was no memory for these entries
abbrev pub Spends : Event → ℕ → ℕ → Result (Unit {0}) HubFault → List Entry → Type 0
Spends event id seat (Ok u) added = SpendsWith event id seat reply.Done added
Spends event id seat (Err fault) added =
    ((fault ≡ Memory evidence) × (added ≡ []))
    ⊎ ((why : CallFault) × (fault ≡ hub_fault_of why) × SpendsWith event id seat (reply.Refused why) added)

-- nothing, or the stream was given up, which gives the answer
abbrev pub Closes : ℕ → ℕ → Result (Unit {0}) HubFault → List Entry → Type 0
Closes id seat (Ok u) added = (added ≡ []) ⊎ One seat (to_forget id) reply.Done added
Closes id seat (Err fault) added = Asks {A = Unit {0}} (to_forget id) done_or seat (Err fault) added
