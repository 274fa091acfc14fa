-- What a call does to what is under the lock (this project's own).
use Rattle.std.specs.Prelude.{◌≡◌, ℕ, ◌+◌, ◌^◌, ◌≤◌, ◌⊎◌, List, [], ◌++◌, length, Bool, true, false, Option, Some, None, Result, Ok, Err}
use Rattle.ymx_memory.specs.declared.refused.RefusedAllocation.{RefusedAllocation}
use Rattle.ymx_machine.specs.shared.Evidence.{evidence}
use Rattle.ymx_machine.specs.declared.types.CallFault.{CallFault}
use Rattle.ymx_model.specs.session.Events.{Event}
use Rattle.ymx_machine.specs.shared.Events.{Reply}
use Rattle.ymx_machine.specs.declared.types.Reply.TheVariants as reply
use Rattle.ymx_model.specs.declared.types.Entry.{Entry}
use Rattle.ymx_model.specs.session.Emissions.{in_turn}
use Rattle.ymx_model.specs.session.Histories.{Gives}
use Rattle.ymx_session.specs.Replies.{done_or}
use Rattle.ymx_seats.specs.Views.{SeatView, kept_entries, entry, journal_after, whole_of, IsNewcomer}
use Rattle.ymx_hub.specs.declared.faults.HubFault.{HubFault}
use Rattle.ymx_hub.specs.declared.faults.HubFault.TheVariants.{Memory, Seats}
use Rattle.ymx_hub.specs.Answers.{hub_fault_of, hub_answer, refused_seat}
use Rattle.ymx_hub.specs.Books.{TellsStream, to_open, to_open_with, to_accept, to_forget}
use Rattle.ymx_hub.specs.Booked.{BookedView, is_half_spent, spent}
use Rattle.ymx_hub.specs.Rights.{handed_out}

-- ---- one event

-- the entries after this event of a seat, of which a recorder that keeps nothing keeps none
abbrev pub entries_after : (keeps : Bool) (seat : ℕ) (event : Event) (told : Reply) → List Entry → List Entry
entries_after keeps seat event told es = es ++ kept_entries keeps (entry (length es) seat event told)

-- The session goes by this event, which gives this reply, to the session after it; its entry is kept, and stands in the
-- journal; and nothing else changes.
pub record Steps (keeps : Bool) (seat : ℕ) (event : Event) (told : Reply) (old new : BookedView) : Type 0 where
  pub gives : Gives in_turn old.session event told new.session
  pub rest : new ≡ record old {
    session = new.session;
    entries = entries_after keeps seat event told old.entries;
    journal = journal_after seat event told old.journal;
  }

-- there was no memory for the entry, which only a recorder that keeps it needs, and nothing was done
abbrev pub LacksEntry : (keeps : Bool) (old new : BookedView) → Type 0
LacksEntry keeps old new = (keeps ≡ true) × (new ≡ old)

-- one event, whose reply is the answer, also where that is a refusal; or no memory for its entry
abbrev pub StepsAsked : {A : Type 0} (keeps : Bool) → Event → (Result A CallFault → Reply) → (seat : ℕ) → Result A HubFault → (old new : BookedView) → Type 0
StepsAsked keeps event told seat (Ok x) old new = Steps keeps seat event (told (Ok x)) old new
StepsAsked keeps event told seat (Err fault) old new =
    ((fault ≡ Memory evidence) × LacksEntry keeps old new)
    ⊎ ((why : CallFault) × (fault ≡ hub_fault_of why) × Steps keeps seat event (told (Err why)) old new)

-- one event that can't be refused, whose reply is the answer; or no memory for its entry
abbrev pub StepsTold : {A : Type 0} (keeps : Bool) → Event → (A → Reply) → (seat : ℕ) → Result A RefusedAllocation → (old new : BookedView) → Type 0
StepsTold keeps event told seat (Ok x) old new = Steps keeps seat event (told x) old new
StepsTold keeps event told seat (Err refused) old new = LacksEntry keeps old new

-- ---- streams that are handed out

-- a new seat of this number, whose entries come after these, and which has seen this history, in which none of its own stands
abbrev pub IsNext : (number : ℕ) → List Entry → Option (List Entry) → SeatView → Type 0
IsNext number entries history seat =
    (seat.number ≡ number) × (seat.start ≡ length entries) × (seat.entries ≡ []) × (seat.seen ≡ history) × IsNewcomer number seat.seen

-- one event that gave a stream, for whose halves two seats more are given
pub record HandsOut (keeps : Bool) (seat id : ℕ) (event : Event) (told : Reply) (one other : SeatView) (old new : BookedView) : Type 0 where
  pub gives : Gives in_turn old.session event told new.session
  pub rest : new ≡ record old {
    session = new.session;
    entries = entries_after keeps seat event told old.entries;
    journal = handed_out id (journal_after seat event told old.journal);
    given = old.given + 2;
    unspent = old.unspent + 1;
  }
  pub first : IsNext old.given new.entries (whole_of new.journal) one
  pub second : IsNext (old.given + 1) new.entries (whole_of new.journal) other

-- no memory, or no two seats left, and nothing was done; or the session refused it
abbrev pub HandsNone : (keeps : Bool) (seat : ℕ) → Event → HubFault → (old new : BookedView) → Type 0
HandsNone keeps seat event fault old new =
    (((fault ≡ Memory evidence) ⊎ ((fault ≡ Seats refused_seat) × (2 ^ 32 ≤ old.given + 2))) × (new ≡ old))
    ⊎ ((why : CallFault) × (fault ≡ hub_fault_of why) × Steps keeps seat event (reply.Refused why) old new)

-- the stream that was given, or that none is offered yet
abbrev pub StepsGiven : Event → (keeps : Bool) (seat : ℕ) → Result (Option (ℕ × ℕ × SeatView × SeatView)) HubFault → (old new : BookedView) → Type 0
StepsGiven event keeps seat (Ok (Some made)) old new = (told : Reply) × TellsStream event made.0 made.1 told × HandsOut keeps seat made.0 event told made.2 made.3 old new
StepsGiven event keeps seat (Ok None) old new = Steps keeps seat event (reply.Accepted None) old new
StepsGiven event keeps seat (Err fault) old new = HandsNone keeps seat event fault old new

-- the stream that was opened
abbrev pub StepsOpened : (keeps : Bool) (seat : ℕ) → Result (ℕ × SeatView × SeatView) HubFault → (old new : BookedView) → Type 0
StepsOpened keeps seat (Ok made) old new = HandsOut keeps seat made.0 to_open (reply.Opened made.0) made.1 made.2 old new
StepsOpened keeps seat (Err fault) old new = HandsNone keeps seat to_open fault old new

-- the stream that was opened with these bytes, and how many of them were taken
abbrev pub StepsOpenedWith : List ℕ → (keeps : Bool) (seat : ℕ) → Result (ℕ × ℕ × SeatView × SeatView) HubFault → (old new : BookedView) → Type 0
StepsOpenedWith bytes keeps seat (Ok made) old new = HandsOut keeps seat made.0 (to_open_with bytes) (reply.OpenedWith made.0 made.1) made.2 made.3 old new
StepsOpenedWith bytes keeps seat (Err fault) old new = HandsNone keeps seat (to_open_with bytes) fault old new

-- the stream that was accepted, or that none is offered yet
abbrev pub StepsAccepted : (keeps : Bool) (seat : ℕ) → Result (Option (ℕ × SeatView × SeatView)) HubFault → (old new : BookedView) → Type 0
StepsAccepted keeps seat (Ok (Some made)) old new = HandsOut keeps seat made.0 to_accept (reply.Accepted (Some made.0)) made.1 made.2 old new
StepsAccepted keeps seat (Ok None) old new = Steps keeps seat to_accept (reply.Accepted None) old new
StepsAccepted keeps seat (Err fault) old new = HandsNone keeps seat to_accept fault old new

-- ---- halves that are spent

-- the stream is given up if this was its second half, and else nothing is done
abbrev pub GivesUp : (second keeps : Bool) (seat id : ℕ) → (old new : BookedView) → Type 0
GivesUp true keeps seat id old new = (told : Reply) × Steps keeps seat (to_forget id) told old new
GivesUp false keeps seat id old new = new ≡ old

-- The half counts as spent, whatever is answered. Then comes the event, whose reply is the answer, and then the stream is
-- given up, exactly if its other half was spent before; or there was no memory for the entries, and neither is done.
abbrev pub StepsSpent : Event → (keeps : Bool) (seat id : ℕ) → Result (Unit {0}) HubFault → (old new : BookedView) → Type 0
StepsSpent event keeps seat id result old new =
    ((keeps ≡ true) × (result ≡ Err (Memory evidence)) × (new ≡ spent id old))
    ⊎ ((given : Result (Unit {0}) CallFault) × (mid : BookedView) × (result ≡ hub_answer given)
    × Steps keeps seat event (done_or given) (spent id old) mid × GivesUp (is_half_spent id old) keeps seat id mid new)

-- The half counts as spent, whatever is answered. The stream is given up, exactly if its other half was spent before, which
-- gives the answer.
abbrev pub StepsClosed : (second keeps : Bool) (seat id : ℕ) → Result (Unit {0}) HubFault → (old new : BookedView) → Type 0
StepsClosed true keeps seat id result old new = StepsAsked keeps (to_forget id) done_or seat result (spent id old) new
StepsClosed false keeps seat id result old new = (result ≡ Ok tt) × (new ≡ spent id old)
