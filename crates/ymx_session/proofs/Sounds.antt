-- Every event keeps what holds of every session.
use Rattle.std.proofs.Common.{◌≡◌, ℕ, ◌+◌, ◌<◌, ◌≤◌, ◌^◌, ◌==◌, List, length, Bool, true, false, not, nat_lt, Option, None, Some, refl, sym, ap, ◌∙◌, subst, arith}
use Rattle.std.specs.Prelude.{Result, Ok, Err, OnErr}
use Rattle.std.proofs.lemmas.Bool.Decides.{nat_tests}
use Rattle.ymx_model.specs.declared.types.Role.{Role}
use Rattle.ymx_machine.specs.shared.Evidence.{evidence}
use Rattle.ymx_machine.specs.shared.Events.{Call}
use Rattle.ymx_machine.specs.declared.types.Call.TheVariants as call
use Rattle.ymx_model.specs.session.Events.{Event}
use Rattle.ymx_model.specs.declared.types.Event.TheVariants as event
use Rattle.ymx_machine.specs.shared.Events.{Reply}
use Rattle.ymx_machine.specs.declared.types.Reply.TheVariants.{Refused}
use Rattle.ymx_machine.specs.declared.types.CallFault.{CallFault}
use Rattle.ymx_machine.specs.declared.types.CallFault.TheVariants.{OutOfMemory}
use Rattle.ymx_machine.specs.shared.Limits.{first_credit}
use Rattle.ymx_machine.specs.shared.Phases.{Phase, is_live, is_reset}
use Rattle.ymx_machine.specs.shared.Replies.{write_reply, bytes_moved}
use Rattle.ymx_model.specs.session.Records.{End}
use Rattle.ymx_machine.specs.shared.Lists.{look}
use Rattle.ymx_model.specs.session.Sessions.{Session, new_session, is_own, is_closed, is_lost}
use Rattle.ymx_model.specs.session.Calls.{Outcome, outcome, takes_memory, write_to, at_record, write_outcome, unsent_count}
use Rattle.ymx_model.specs.session.Emissions.{in_turn}
use Rattle.ymx_model.specs.session.Histories.{Gives, CallGives}
use Rattle.ymx_model.specs.session.Histories.CallGives.{Outcome as HasOutcome, NoMemory}
use Rattle.ymx_law_session.proofs.limits.HistoriesKeep.{gives-keep, new-keeps}
use Rattle.ymx_law_session.proofs.given_up.ReapedFrames.{gives-reaped, new-reaped}
use Rattle.ymx_law_session.specs.Refusals.{reply_is_refused}
use Rattle.ymx_law_session.proofs.nothing_else.Refusals.{refusals}
use Rattle.ymx_machine.proofs.Tests.{split}
use Rattle.ymx_session.specs.Sound.{IsSound}
use Rattle.ymx_session.specs.Replies.{is_out_of_memory}

pub gives-sound : (s t : Session) (ev : Event) (told : Reply) → Gives in_turn s ev told t → IsSound s → IsSound t
gives-sound s t ev told g h = record { within = gives-keep in_turn s t ev told g h.within; reaped = gives-reaped in_turn s t ev told g h.within h.reaped }

-- a call whose next state is that of its outcome
pub call-sound : (c : Call) (s t : Session) → t ≡ (outcome c s).next → IsSound s → IsSound t
call-sound c s t e h = gives-sound s t (event.Call c) (outcome c s).reply (HasOutcome refl e) h

pub new-sound : (role : Role) (window first : ℕ) → first_credit ≤ window → window ≤ 16777216 → is_own role first ≡ true → 0 < first → first < 2 ^ 32 → IsSound (new_session role window first)
new-sound role window first low high own some small = record { within = new-keeps role window first low high own some small; reaped = new-reaped role window first }

-- ---- a call that may take memory

wants_memory : {A : Type 0} (r : Result A CallFault) → is_out_of_memory r ≡ true → (told : Reply) → ((fault : CallFault) → r ≡ Err fault → told ≡ Refused fault) → told ≡ Refused (OutOfMemory evidence)
wants_memory {A} (Ok x) e told f = cc
wants_memory {A} (Err fault) e told f = of fault e (f fault refl)
  where
    of : (g : CallFault) → is_out_of_memory {A = A} (Err g) ≡ true → told ≡ Refused g → told ≡ Refused (OutOfMemory evidence)
    of g e h = grind arith

-- it has its outcome, or it wanted memory that wasn't there
pub memory-gives : {A : Type 0} (r : Result A CallFault) (c : Call) (told : Reply) (s t : Session) →
    (is_out_of_memory r ≡ false → (told ≡ (outcome c s).reply) × (t ≡ (outcome c s).next)) →
    (is_out_of_memory r ≡ true → (takes_memory c s ≡ true) × (t ≡ s)) →
    ((fault : CallFault) → r ≡ Err fault → told ≡ Refused fault) → CallGives s c told t
memory-gives {A} r c told s t found lack f = of (is_out_of_memory r) refl
  where
    of : (b : Bool) → is_out_of_memory r ≡ b → CallGives s c told t
    of true e = let k = lack e in NoMemory k.0 (wants_memory r e told f) k.1
    of false e = let k = found e in HasOutcome k.0 k.1

-- a call that takes no memory has its outcome
pub called : (c : Call) (s t : Session) (told : Reply) → takes_memory c s ≡ false → CallGives s c told t → (told ≡ (outcome c s).reply) × (t ≡ (outcome c s).next)
called c s t told spares (HasOutcome answer state) = (answer, state)
called c s t told spares (NoMemory needs answer state) = absurd (no_both (takes_memory c s) needs spares)
  where
    no_both : (b : Bool) → b ≡ true → b ≡ false → ⊥
    no_both true e f = cc
    no_both false e f = cc

-- ---- a refusal

refused-same : {A : Type 0} (r : Result A CallFault) (c : Call) (told : Reply) (s t : Session) → CallGives s c told t → ((fault : CallFault) → r ≡ Err fault → told ≡ Refused fault) → OnErr r (t ≡ s)
refused-same {A} (Ok x) c told s t g f = tt
refused-same {A} (Err fault) c told s t (HasOutcome answer state) f =
    let e : (outcome c s).reply ≡ Refused fault = sym answer ∙ f fault refl in
    state ∙ refusals c s (ap reply_is_refused e)
refused-same {A} (Err fault) c told s t (NoMemory needs answer state) f = state

-- it changes nothing
pub call-refused : {A : Type 0} (r : Result A CallFault) (c : Call) (told : Reply) (v s t : Session) → v ≡ s → told ≡ (outcome c v).reply → t ≡ (outcome c v).next →
    ((fault : CallFault) → r ≡ Err fault → told ≡ Refused fault) → OnErr r (t ≡ s)
call-refused {A} r c told v s t e answer state f = subst (λ (x : Session). OnErr r (t ≡ x)) e (refused-same r c told v t (HasOutcome answer state) f)

pub memory-refused : {A : Type 0} (r : Result A CallFault) (c : Call) (told : Reply) (v s t : Session) → v ≡ s →
    (is_out_of_memory r ≡ false → (told ≡ (outcome c v).reply) × (t ≡ (outcome c v).next)) →
    (is_out_of_memory r ≡ true → (takes_memory c v ≡ true) × (t ≡ v)) →
    ((fault : CallFault) → r ≡ Err fault → told ≡ Refused fault) → OnErr r (t ≡ s)
memory-refused {A} r c told v s t e found lack f = subst (λ (x : Session). OnErr r (t ≡ x)) e (refused-same r c told v t (memory-gives r c told v t found lack f) f)

-- ---- a write that takes no memory

moved-of : (lost said : Bool) (p : Phase) (credit : ℕ) (bytes : List ℕ) → bytes_moved (write_reply lost bytes p said credit) ≤ length bytes
moved-of lost said p credit bytes =
    let P : Reply → Type 0 = λ r. bytes_moved r ≤ length bytes in
    split P (is_reset p) _ _ (λ t. omega arith) (λ f1.
    split P (not (is_live p)) _ _ (λ t. omega arith) (λ f2.
    split P said _ _ (λ t. omega arith) (λ f3.
    split P lost _ _ (λ t. omega arith) (λ f4.
    split P (length bytes == 0) _ _ (λ t. omega arith) (λ f5.
    split P (credit == 0) _ _ (λ t. omega arith) (λ f6. omega arith))))))

moved-within : (id : ℕ) (bytes : List ℕ) (s : Session) → bytes_moved (write_to id bytes s).reply ≤ length bytes
moved-within id bytes s =
    let P : Outcome → Type 0 = λ o. bytes_moved o.reply ≤ length bytes in
    split P (is_closed s.status) _ _ (λ t. omega arith) (λ f. of (look id s.table.entries))
  where
    of : (o : Option End) → bytes_moved (at_record (write_outcome id bytes s) s o).reply ≤ length bytes
    of None = omega arith
    of (Some e) = moved-of (is_lost s.status) e.writer.finished e.phase e.writer.credit bytes

-- where no more than 262,144 bytes would be unsent, a write takes none
pub write-in_room : (id : ℕ) (bytes : List ℕ) (s : Session) (b : Bool) → unsent_count (look id s.table.entries) + length bytes ≤ first_credit →
    (b ≡ true → takes_memory (call.Write id bytes) s ≡ true) → b ≡ false
write-in_room id bytes s false l f = refl
write-in_room id bytes s true l f =
    let m = moved-within id bytes s in
    let none : nat_lt first_credit (unsent_count (look id s.table.entries) + bytes_moved (write_to id bytes s).reply) ≡ false = grind (arith, nat_tests) in
    let t = f refl in
    let no : false ≡ true = rw none at t in cc
