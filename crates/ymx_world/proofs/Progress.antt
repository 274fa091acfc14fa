-- Each step goes forward: an emission gives what is due, a delivery takes what it may.
use Rattle.std.proofs.Common.{◌≡◌, ℕ, zero, suc, ◌<◌, ◌⊎◌, ◌==◌, List, [], ◌∷◌, length, take, Bool, true, false, ◌&&◌, refl, sym, ap, subst, ◌∙◌, inl, inr, arith}
use Rattle.std.specs.Prelude.{nat_lt, nat_le}
use Rattle.ymx_model.specs.declared.types.Status.{Status}
use Rattle.ymx_model.specs.declared.types.Status.TheVariants.{Running, Lost, Broken, Closed}
use Rattle.ymx_machine.specs.declared.types.Side.TheVariants.{A, B}
use Rattle.ymx_machine.specs.declared.types.Direction.{Direction}
use Rattle.ymx_machine.specs.declared.types.Direction.TheVariants.{AB, BA}
use Rattle.ymx_machine.specs.declared.types.Step.{Step}
use Rattle.ymx_machine.specs.declared.types.Step.TheVariants as step
use Rattle.ymx_machine.specs.declared.types.Answer.{Answer}
use Rattle.ymx_machine.specs.declared.types.Answer.TheVariants as answer
use Rattle.ymx_machine.specs.shared.Events.{Reply}
use Rattle.ymx_machine.specs.declared.types.Reply.TheVariants as reply
use Rattle.ymx_model.specs.declared.types.Response.{Response}
use Rattle.ymx_machine.specs.declared.types.Fed.{Fed}
use Rattle.ymx_machine.specs.declared.types.Why.TheVariants as why
use Rattle.ymx_model.specs.session.Sessions.{Session, is_running, is_broken}
use Rattle.ymx_model.specs.session.Feeds.{Feeds, Takes, is_stuck, is_between, why_of}
use Rattle.ymx_model.specs.session.Emissions.{Emits, in_turn, is_ready}
use Rattle.ymx_machine.specs.shared.Steps.{answer_of}
use Rattle.ymx_machine.specs.machine.Runs.{why_is_broken}
use Rattle.ymx_model.specs.world.Worlds.{World, Steps}
use Rattle.ymx_machine.proofs.Tests.{when, both_of}
use Rattle.ymx_law_session.proofs.due.Ready.{always-gives}
use Rattle.ymx_headline.proofs.relation.Still.{idle}
use Rattle.ymx_headline.specs.Laws.{breaks_off, carries_bytes}
use Rattle.ymx_world.specs.Progress.{GoesForward, HasAnswerDue, IsHeld}

-- ---- an emission

some_bytes : (out : List ℕ) → 0 < length out → nat_lt 0 (length out) ≡ true
some_bytes [] l = absurd (omega (arith, l))
some_bytes (b ∷ bs) l = grind arith

emission-gives : (room : ℕ) (s t : Session) (out given_bytes : List ℕ) → reply.Emitted out ≡ reply.Emitted given_bytes → Emits in_turn s room given_bytes t → 0 < room → is_ready s ≡ true → nat_lt 0 (length out) ≡ true
emission-gives room s t out given_bytes same e r due =
    let one : out ≡ given_bytes = cc in
    subst (λ (z : List ℕ). nat_lt 0 (length z) ≡ true) (sym one) (some_bytes given_bytes (always-gives in_turn s room given_bytes t due r e))

-- ---- a delivery

answers-there : (xs : List Response) → nat_le 1024 (length xs) ≡ true → 0 < length xs
answers-there [] e = absurd cc
answers-there (x ∷ xs) e = omega arith

due-with-answers : (s : Session) → is_running s.status ≡ true → 0 < length s.answers → is_ready s ≡ true
due-with-answers s runs some = elim (when (is_ready s)) [
  | inl r ↦ r
  | inr r ↦ let i = idle s runs r in absurd (omega (arith, some, ap length i.answers))
]

-- a session that isn't broken takes no byte only where its row of answers is full
stuck-row : (st : Status) (s : Session) → s.status ≡ st → is_broken st ≡ false → is_stuck s ≡ true → (st ≡ Running) × (0 < length s.answers)
stuck-row Running s e free stuck =
    let all : (is_between s.incoming && nat_le 1024 (length s.answers)) ≡ true = rw e at stuck in
    (refl, answers-there s.answers (both_of (is_between s.incoming) (nat_le 1024 (length s.answers)) all).1)
stuck-row Lost s e free stuck = let no : false ≡ true = rw e at stuck in absurd cc
stuck-row (Broken f) s e free stuck = absurd cc
stuck-row Closed s e free stuck = let no : false ≡ true = rw e at stuck in absurd cc

unbroken : (st : Status) (all : Bool) → why_is_broken (why_of st all) ≡ false → is_broken st ≡ false
unbroken Running all e = refl
unbroken Lost all e = refl
unbroken (Broken f) all e = absurd cc
unbroken Closed all e = refl

takes-some : (bytes : List ℕ) (fed : Fed) (s t : Session) → Feeds s bytes fed t → 0 < length bytes → why_is_broken fed.why ≡ false →
    (nat_lt 0 fed.taken ≡ true) ⊎ ((fed.why ≡ why.Held) × HasAnswerDue s)
takes-some bytes fed s t f some sound = of fed.taken refl
  where
    of : (n : ℕ) → fed.taken ≡ n → (nat_lt 0 fed.taken ≡ true) ⊎ ((fed.why ≡ why.Held) × HasAnswerDue s)
    of (suc n) e = inl (rw e (grind arith))
    of zero e =
        let same : t ≡ s = (subst (λ (n : ℕ). Takes (take n bytes) s t f.took.0) e f.took.1).0 in
        let stuck : is_stuck s ≡ true = ap is_stuck (sym same) ∙ f.stops (omega (arith, e, some)) in
        let short : (fed.taken == length bytes) ≡ false = grind (arith, e, some) in
        let told : fed.why ≡ why_of s.status false = f.why ∙ rw (same, short) refl in
        let row = stuck-row s.status s refl (unbroken s.status false (ap why_is_broken (sym told) ∙ sound)) stuck in
        let runs : is_running s.status ≡ true = rw row.0 refl in
        inr (told ∙ ap (λ (st : Status). why_of st false) row.0, record { runs = runs; unsent = row.1; due = due-with-answers s runs row.1 })

some-front : (n : ℕ) (bytes : List ℕ) → 0 < n → 0 < length bytes → 0 < length (take n bytes)
some-front zero bytes a b = absurd (omega (arith, a))
some-front (suc n) [] a b = absurd (omega (arith, b))
some-front (suc n) (x ∷ xs) a b = omega arith

delivery-takes : (n : ℕ) (bytes : List ℕ) (told : Reply) (fed : Fed) (s t : Session) (given : Answer) → told ≡ reply.Fed fed → Feeds s (take n bytes) fed t → given ≡ answer_of told → breaks_off given ≡ false →
    0 < n → 0 < length bytes → (given ≡ answer.Fed fed) × ((nat_lt 0 fed.taken ≡ true) ⊎ ((fed.why ≡ why.Held) × HasAnswerDue s))
delivery-takes n bytes told fed s t given is f e sound a b =
    let answered : given ≡ answer.Fed fed = e ∙ ap answer_of is in
    (answered, takes-some (take n bytes) fed s t f (some-front n bytes a b) (ap breaks_off (sym answered) ∙ sound))

delivered : (d : Direction) (n : ℕ) (given : Answer) (fed : Fed) (s : Session) → given ≡ answer.Fed fed → (nat_lt 0 fed.taken ≡ true) ⊎ ((fed.why ≡ why.Held) × HasAnswerDue s) →
    (carries_bytes (step.Deliver d n) given ≡ true) ⊎ (IsHeld given × HasAnswerDue s)
delivered d n given fed s e (inl some) = inl (rw e some)
delivered d n given fed s e (inr held) = inr ((fed, e, held.0), held.1)

-- ---- any step that finds no fault

pub goes-forward : (st : Step) (given : Answer) (w v : World) → Steps in_turn st given w v → breaks_off given ≡ false → GoesForward st given w
goes-forward (step.Emit A room) given w v s sound = λ r due. rw s.3 (emission-gives room w.a s.1 s.0 s.2.0 s.2.1 s.2.2 r due)
goes-forward (step.Emit B room) given w v s sound = λ r due. rw s.3 (emission-gives room w.b s.1 s.0 s.2.0 s.2.1 s.2.2 r due)
goes-forward (step.Deliver AB n) given w v s sound = λ a b.
    let k = delivery-takes n w.ab.bytes s.0 s.2.0 w.b s.1 given s.2.1 s.2.2 s.3 sound a b in
    delivered AB n given s.2.0 w.b k.0 k.1
goes-forward (step.Deliver BA n) given w v s sound = λ a b.
    let k = delivery-takes n w.ba.bytes s.0 s.2.0 w.a s.1 given s.2.1 s.2.2 s.3 sound a b in
    delivered BA n given s.2.0 w.a k.0 k.1
goes-forward (step.At side call) given w v s sound = tt
goes-forward (step.Stop direction) given w v s sound = tt
goes-forward (step.End direction) given w v s sound = tt
