-- What a call does to what is under the lock, by what its session answered.
use Rattle.std.proofs.Common.{◌≡◌, ℕ, List, Bool, true, false, Option, Result, sym, subst, refl, inr}
use Rattle.ymx_model.specs.session.Events.{Event}
use Rattle.ymx_machine.specs.shared.Events.{Reply}
use Rattle.ymx_machine.specs.declared.types.Reply.TheVariants as reply
use Rattle.ymx_machine.specs.declared.types.CallFault.{CallFault}
use Rattle.ymx_model.specs.declared.types.Role.{Role}
use Rattle.ymx_model.specs.declared.types.Config.{Config}
use Rattle.ymx_model.specs.declared.types.Entry.{Entry}
use Rattle.ymx_model.specs.session.Sessions.{Session}
use Rattle.ymx_model.specs.session.Emissions.{in_turn}
use Rattle.ymx_model.specs.session.Histories.{Gives}
use Rattle.ymx_session.specs.Replies.{done_or}
use Rattle.ymx_seats.specs.Journals.{JournalView}
use Rattle.ymx_seats.specs.Views.{journal_after}
use Rattle.ymx_hub.specs.declared.faults.HubFault.{HubFault}
use Rattle.ymx_hub.specs.Answers.{hub_fault_of, hub_answer}
use Rattle.ymx_hub.specs.Booked.{BookedView, is_half_spent, spent}
use Rattle.ymx_hub.specs.Books.{to_forget}
use Rattle.ymx_hub.specs.Steps.{Steps, entries_after, HandsNone, GivesUp, StepsSpent}

abbrev view : Role → Config → Session → List Entry → Option JournalView → (given unspent : ℕ) → (half_spent released : List ℕ) → Bool → BookedView
view role config s es j given unspent half_spent released over =
    record { role = role; config = config; session = s; entries = es; journal = j; given = given; unspent = unspent; half_spent = half_spent; released = released; ended = over }

-- an event gives a reply, by what is equal to both
pub gives_at : (e d : Event) (q r : Reply) (s t : Session) → e ≡ d → q ≡ r → Gives in_turn s e q t → Gives in_turn s d r t
gives_at e d q r s t a b g = subst (λ (x : Reply). Gives in_turn s d x t) b (subst (λ (x : Event). Gives in_turn s x q t) a g)

-- one event, by what stands before and after it
pub steps_of : (keeps : Bool) (event : Event) (told : Reply) (seat : ℕ) (old : BookedView) (role : Role) (config : Config) (s t : Session) (es fs : List Entry) (j k : Option JournalView) (given unspent : ℕ) (half_spent released : List ℕ) (over : Bool) → old ≡ record { role = role; config = config; session = s; entries = es; journal = j; given = given; unspent = unspent; half_spent = half_spent; released = released; ended = over } → Gives in_turn s event told t → fs ≡ entries_after keeps seat event told es → k ≡ journal_after seat event told j → Steps keeps seat event told old (record { role = role; config = config; session = t; entries = fs; journal = k; given = given; unspent = unspent; half_spent = half_spent; released = released; ended = over })
steps_of keeps event told seat old role config s t es fs j k given unspent half_spent released over e g f h =
    subst (λ (o : BookedView). Steps keeps seat event told o (view role config t fs k given unspent half_spent released over)) (sym e) (record {
      gives = g;
      rest = λ i. view role config t (f i) (h i) given unspent half_spent released over;
    })

pub refused : (keeps : Bool) (seat : ℕ) (event : Event) (why : CallFault) (fault : HubFault) (old new : BookedView) → fault ≡ hub_fault_of why → Steps keeps seat event (reply.Refused why) old new → HandsNone keeps seat event fault old new
refused keeps seat event why fault old new e s = inr (why, e, s)

-- the first half of a stream is spent
pub spends_first : (event : Event) (keeps : Bool) (seat id : ℕ) (given : Result (Unit {0}) CallFault) (result : Result (Unit {0}) HubFault) (old new : BookedView) → is_half_spent id old ≡ false → result ≡ hub_answer given → Steps keeps seat event (done_or given) (spent id old) new → StepsSpent event keeps seat id result old new
spends_first event keeps seat id given result old new h e s =
    inr (given, new, e, s, subst (λ (b : Bool). GivesUp b keeps seat id new new) (sym h) refl)

-- the second half of a stream is spent
pub spends_second : (event : Event) (keeps : Bool) (seat id : ℕ) (given : Result (Unit {0}) CallFault) (told : Reply) (result : Result (Unit {0}) HubFault) (old mid new : BookedView) → is_half_spent id old ≡ true → result ≡ hub_answer given → Steps keeps seat event (done_or given) (spent id old) mid → Steps keeps seat (to_forget id) told mid new → StepsSpent event keeps seat id result old new
spends_second event keeps seat id given told result old mid new h e s t =
    inr (given, mid, e, s, subst (λ (b : Bool). GivesUp b keeps seat id mid new) (sym h) (told, t))
