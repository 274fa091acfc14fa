-- Calls that take no memory, and so never answer that there is none.
use Rattle.std.proofs.Common.{◌≡◌, ℕ, length, List, [], ◌∷◌, ◌==◌, ◌||◌, Bool, true, false, not, ◌&&◌, nat_le, Option, None, Some, Result, Ok, Err, refl, sym, ap, ◌∙◌}
use Rattle.ymx_machine.specs.shared.Evidence.{evidence}
use Rattle.ymx_machine.specs.shared.Events.{Call, Reply}
use Rattle.ymx_machine.specs.declared.types.Call.TheVariants as call
use Rattle.ymx_machine.specs.declared.types.Reply.TheVariants.{Done, Refused}
use Rattle.ymx_machine.specs.declared.types.CallFault.{CallFault}
use Rattle.ymx_machine.specs.declared.types.CallFault.TheVariants.{OutOfMemory}
use Rattle.ymx_machine.specs.shared.Phases.{Phase, is_live, is_reset}
use Rattle.ymx_machine.specs.shared.Replies.{unless_refused, read_reply, forget_reply}
use Rattle.ymx_model.specs.session.Records.{End}
use Rattle.ymx_machine.specs.shared.Limits.{most_pings}
use Rattle.ymx_model.specs.session.Pings.{has_back}
use Rattle.ymx_machine.specs.shared.Lists.{look}
use Rattle.ymx_model.specs.session.Sessions.{Session, is_closed, is_lost}
use Rattle.ymx_model.specs.session.Calls.{Outcome as OutcomeOf, at_record, at_stream, accept_of, read_outcome, finish_outcome, reset_outcome, forget_outcome, outcome, takes_memory}
use Rattle.ymx_model.specs.session.Emissions.{in_turn}
use Rattle.ymx_model.specs.session.Histories.{Gives, CallGives}
use Rattle.ymx_model.specs.session.Histories.CallGives.{Outcome, NoMemory}
use Rattle.ymx_session.specs.Replies.{done_or, is_of_memory, is_out_of_memory}
use Rattle.ymx_machine.proofs.Tests.{split}
use Rattle.ymx_hub.specs.declared.faults.HubFault.{HubFault}
use Rattle.ymx_hub.specs.declared.faults.HubFault.TheVariants.{Memory}
use Rattle.ymx_hub.specs.declared.stream_calls.HalfCall.{HalfCall}
use Rattle.ymx_hub.specs.declared.stream_calls.HalfCall.TheVariants as half
use Rattle.ymx_hub.specs.Answers.{hub_fault_of, hub_answer, IsNotMemory, TakesNone}
use Rattle.ymx_hub.specs.Books.{to_end}

-- a reply that says that memory was wanted
abbrev pub wants : Reply → Bool
wants (Refused fault) = is_of_memory fault
wants _ = false

abbrev pub Spares : OutcomeOf → Type 0
Spares o = wants o.reply ≡ false

-- ---- of a reply, a result, an answer

only_memory : (fault : CallFault) → hub_fault_of fault ≡ Memory evidence → is_of_memory fault ≡ true
only_memory (OutOfMemory _) e = refl
only_memory _ e = cc

no_both : (b : Bool) → b ≡ true → b ≡ false → ⊥
no_both true e f = cc
no_both false e f = cc

pub answer_spares : {A : Type 0} (given : Result A CallFault) (result : Result A HubFault) → result ≡ hub_answer given → is_out_of_memory given ≡ false → IsNotMemory result
answer_spares (Ok x) result e n = rw e tt
answer_spares (Err fault) result e n = rw e (λ m. no_both (is_of_memory fault) (only_memory fault m) n)

result_spares : {A : Type 0} (given : Result A CallFault) (told : Result A CallFault → Reply) → ((fault : CallFault) → told (Err fault) ≡ Refused fault) → wants (told given) ≡ false → is_out_of_memory given ≡ false
result_spares (Ok x) told f w = refl
result_spares (Err fault) told f w = ap wants (sym (f fault)) ∙ w

-- ---- of an outcome

record_spares : (f : End → OutcomeOf) (s : Session) (o : Option End) → ((e : End) → Spares (f e)) → Spares (at_record f s o)
record_spares f s None l = refl
record_spares f s (Some e) l = l e

with_spares : (id : ℕ) (f : End → OutcomeOf) (s : Session) → ((e : End) → Spares (f e)) → Spares (at_stream id f s)
with_spares id f s l = split Spares (is_closed s.status) _ _ (λ t. refl) (λ n. record_spares f s (look id s.table.entries) l)

unless_spares : (needs lost : Bool) (p : Phase) (said : Bool) (r : Reply) → wants r ≡ false → wants (unless_refused needs lost p said r) ≡ false
unless_spares needs lost p said r w =
    let P : Reply → Type 0 = λ x. wants x ≡ false in
    split P (is_reset p) _ _ (λ t. refl) (λ f1.
    split P (not (is_live p)) _ _ (λ t. refl) (λ f2.
    split P (needs && said) _ _ (λ t. refl) (λ f3.
    split P lost _ _ (λ t. refl) (λ f4. w))))

accept_spares : (ids : List ℕ) (s : Session) → Spares (accept_of ids s)
accept_spares [] s = split Spares (is_lost s.status) _ _ (λ t. refl) (λ f. refl)
accept_spares (id ∷ ids) s = refl

read_spares : (lost : Bool) (max : ℕ) (p : Phase) (here : List ℕ) (ended : Bool) → wants (read_reply lost max p here ended) ≡ false
read_spares lost max p here ended =
    let P : Reply → Type 0 = λ x. wants x ≡ false in
    split P (is_reset p) _ _ (λ t. refl) (λ f1.
    split P (not (is_live p)) _ _ (λ t. refl) (λ f2.
    split P (max == 0) _ _ (λ t. refl) (λ f3.
    split P (not (length here == 0)) _ _ (λ t. refl) (λ f4.
    split P ended _ _ (λ t. refl) (λ f5.
    split P lost _ _ (λ t. refl) (λ f6. refl))))))

forget_spares : (p : Phase) → wants (forget_reply p) ≡ false
forget_spares p = split (λ (r : Reply). wants r ≡ false) (is_live p || is_reset p) _ _ (λ t. refl) (λ f. refl)

-- ---- of a call that takes none

outcome_spares : (c : Call) (s : Session) → TakesNone c → Spares (outcome c s)
outcome_spares call.Open s n = absurd n
outcome_spares (call.OpenWith bytes) s n = absurd n
outcome_spares (call.Write id bytes) s n = absurd n
outcome_spares call.Accept s n = split Spares (is_closed s.status) _ _ (λ t. refl) (λ f. accept_spares s.offered s)
outcome_spares (call.Read id max) s n = with_spares id (read_outcome id max s) s (λ r. read_spares (is_lost s.status) max r.phase r.reader.unread r.reader.ended)
outcome_spares (call.Finish id) s n = with_spares id (finish_outcome id s) s (λ r. unless_spares true (is_lost s.status) r.phase r.writer.finished Done refl)
outcome_spares (call.Reset id) s n = with_spares id (reset_outcome id s) s (λ r. unless_spares false (is_lost s.status) r.phase false Done refl)
outcome_spares (call.Forget id) s n = with_spares id (forget_outcome id s) s (λ r. forget_spares r.phase)
outcome_spares call.Ping s n =
    split Spares (is_closed s.status) _ _ (λ t. refl) (λ f. split Spares (is_lost s.status) _ _ (λ t. refl) (λ g.
    split Spares (nat_le most_pings (length s.pings.pending)) _ _ (λ t. refl) (λ k. refl)))
outcome_spares (call.Ponged number) s n =
    split Spares (is_closed s.status) _ _ (λ t. refl) (λ f. split Spares (has_back number s.pings.pending) _ _ (λ t. refl) (λ g.
    split Spares (is_lost s.status) _ _ (λ t. refl) (λ k. refl)))
outcome_spares call.GoAway s n = split Spares (is_closed s.status) _ _ (λ t. refl) (λ f. split Spares (is_lost s.status) _ _ (λ t. refl) (λ g. refl))
outcome_spares call.Close s n = refl

none_taken : (c : Call) (s : Session) → TakesNone c → takes_memory c s ≡ false
none_taken call.Open s n = absurd n
none_taken (call.OpenWith bytes) s n = absurd n
none_taken (call.Write id bytes) s n = absurd n
none_taken _ s n = refl

pub call_spares : (c : Call) (s t : Session) (r : Reply) → TakesNone c → CallGives s c r t → wants r ≡ false
call_spares c s t r n (Outcome answer state) = ap wants answer ∙ outcome_spares c s n
call_spares c s t r n (NoMemory needs answer state) = absurd (no_both _ needs (none_taken c s n))

-- the fault of a refusal that wants none
pub fault_spares : (fault : CallFault) (answer : HubFault) → answer ≡ hub_fault_of fault → is_of_memory fault ≡ false → answer ≡ Memory evidence → ⊥
fault_spares fault answer e n m = no_both (is_of_memory fault) (only_memory fault (sym e ∙ m)) n

half_takes_none : (h : HalfCall) (id : ℕ) (s t : Session) (r : Reply) → Gives in_turn s (to_end h id) r t → wants r ≡ false
half_takes_none half.Finish id s t r g = call_spares (call.Finish id) s t r tt g
half_takes_none half.Reset id s t r g = call_spares (call.Reset id) s t r tt g

-- a half that is ended wants none
pub half_spares : (h : HalfCall) (id : ℕ) (s t : Session) (r : Reply) (given : Result (Unit {0}) CallFault) (result : Result (Unit {0}) HubFault) → Gives in_turn s (to_end h id) r t → r ≡ done_or given → result ≡ hub_answer given → IsNotMemory result
half_spares h id s t r given result g e a =
    answer_spares given result a (result_spares given done_or (λ f. refl) (ap wants (sym e) ∙ half_takes_none h id s t r g))
