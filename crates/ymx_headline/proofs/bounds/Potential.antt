-- Each byte that is carried lowers a number that a world has by itself. So driving the bytes comes to an end.
use Rattle.std.proofs.Common.{◌≡◌, ℕ, zero, suc, ◌+◌, ◌<◌, ◌≤◌, List, [], ◌∷◌, ◌++◌, length, take, drop, Bool, true, false, refl, sym, ap, subst, ◌∙◌, inl, inr, arith, length-append}
use Rattle.std.specs.List.{All, concat}
use Rattle.std.proofs.lemmas.Grind.{common_steps}
use Rattle.ymx_header.specs.Headers.{header_of}
use Rattle.ymx_header.specs.Frames.{payload_length}
use Rattle.ymx_header.proofs.Frames.{header_of-append}
use Rattle.ymx_model.specs.declared.types.Status.{Status}
use Rattle.ymx_model.specs.declared.types.Status.TheVariants.{Running, Lost, Broken, Closed}
use Rattle.ymx_machine.specs.declared.types.Step.{Step}
use Rattle.ymx_machine.specs.declared.types.Step.TheVariants as step
use Rattle.ymx_machine.specs.declared.types.Answer.{Answer}
use Rattle.ymx_machine.specs.declared.types.Answer.TheVariants as answer
use Rattle.ymx_machine.specs.shared.Steps.{answer_of, is_of_a}
use Rattle.ymx_model.specs.session.Sessions.{Session, Incoming, is_deaf, is_running}
use Rattle.ymx_model.specs.session.Feeds.{why_of}
use Rattle.ymx_model.specs.session.Emissions.{Choice}
use Rattle.ymx_machine.specs.machine.Runs.{why_is_broken}
use Rattle.ymx_model.specs.world.Worlds.{World, StepOfA, Steps, pushed, mirror_world}
use Rattle.ymx_model.specs.world.UnderWay.{IsOneFrame, IsUnderWay, held_bytes, lacking}
use Rattle.ymx_machine.proofs.Tests.{when}
use Rattle.ymx_headline.proofs.machine.lanes.StreamFacts.{if-so_true, if-so_false}
use Rattle.ymx_law_session.specs.Limits.{IsWithin}
use Rattle.ymx_headline.specs.world.Texts.{AreWithin}
use Rattle.ymx_headline.proofs.world.Fed.{Follow, all-first, all-rest}
use Rattle.ymx_headline.specs.Laws.{IsOpenWorld, IsOpenPipe, is_carriage, carries_bytes, breaks_off}
use Rattle.ymx_headline.proofs.bounds.Loads.{any-order}
use Rattle.ymx_headline.proofs.bounds.Bound.{Under, potential, carried, falls, gave, under-open, pushed-open}

-- ---- the frames of a text

-- the frames that stand one after the other in a text, at most so many
abbrev cut : ℕ → List ℕ → List (List ℕ)
cut zero text = []
cut (suc n) [] = []
cut (suc n) (b ∷ bs) = take (12 + payload_length (header_of (b ∷ bs))) (b ∷ bs) ∷ cut n (drop (12 + payload_length (header_of (b ∷ bs))) (b ∷ bs))

front-of : (f rest : List ℕ) → take (length f) (f ++ rest) ≡ f
front-of f rest = grind (arith, common_steps)

behind-of : (f rest : List ℕ) → drop (length f) (f ++ rest) ≡ rest
behind-of f rest = grind (arith, common_steps)

cut-frames : (n : ℕ) (frames : List (List ℕ)) → length frames ≤ n → All IsOneFrame frames → cut n (concat frames) ≡ frames
cut-frames zero [] l a = refl
cut-frames zero (f ∷ fs) l a = absurd (omega (arith, l))
cut-frames (suc n) [] l a = refl
cut-frames (suc n) ([] ∷ fs) l a = let h = (all-first [] fs a).header in absurd (omega (arith, h))
cut-frames (suc n) ((b ∷ bs) ∷ fs) l a =
    let f : List ℕ = b ∷ bs in
    let t : List ℕ = f ++ concat fs in
    let one = all-first f fs a in
    let size : 12 + payload_length (header_of t) ≡ length f = ap (λ h. 12 + payload_length h) (header_of-append f (concat fs) one.header) ∙ sym one.whole in
    ap (λ k. take k t ∷ cut n (drop k t)) size
    ∙ (ap (λ z. z ∷ cut n (drop (length f) t)) (front-of f (concat fs))
    ∙ (ap (λ z. f ∷ cut n z) (behind-of f (concat fs)) ∙ ap (λ z. f ∷ z) (cut-frames n fs (omega (arith, l)) (all-rest f fs a))))

few : (frames : List (List ℕ)) → All IsOneFrame frames → length frames ≤ length (concat frames)
few [] a = omega arith
few (f ∷ fs) a =
    let h = (all-first f fs a).header in
    let i = few fs (all-rest f fs a) in
    let n = length-append f (concat fs) in
    omega (arith, h, i, n)

-- the frames after what a receiver holds of one
abbrev toward : Incoming → List ℕ → List (List ℕ)
toward i rest = cut (length (drop (lacking i) (held_bytes i ++ rest))) (drop (lacking i) (held_bytes i ++ rest))

toward-is : (i : Incoming) (rest : List ℕ) (frames : List (List ℕ)) → Follow i rest frames → toward i rest ≡ frames
toward-is i rest frames f =
    let e : drop (lacking i) (held_bytes i ++ rest) ≡ concat frames =
    ap (drop (lacking i)) f.text ∙ subst (λ n. drop n (f.tail ++ concat frames) ≡ concat frames) f.missing (behind-of f.tail (concat frames)) in
    ap (λ t. cut (length t) t) e ∙ cut-frames (length (concat frames)) frames (few frames f.each) f.each

-- ---- the number

-- the potential of a world, with the frames that its bytes tell
pub potential_of : World → ℕ
potential_of w = potential 1 w (toward w.b.incoming (w.ab.bytes ++ w.a.outgoing.bytes)) (toward w.a.incoming (w.ba.bytes ++ w.b.outgoing.bytes))

is-running : (st : Status) → is_running st ≡ true → st ≡ Running
is-running Running e = refl
is-running Lost e = absurd cc
is-running (Broken f) e = absurd cc
is-running Closed e = absurd cc

potential-is : (w : World) (ab ba : List (List ℕ)) → IsOpenWorld w → Under w ab ba → potential_of w ≡ potential 1 w ab ba
unfolding potential_of
potential-is w ab ba o u =
    ap (λ z. potential 1 w z (toward w.a.incoming (w.ba.bytes ++ w.b.outgoing.bytes))) (toward-is w.b.incoming (w.ab.bytes ++ w.a.outgoing.bytes) ab (u.text_ab (is-running w.b.status o.b)))
    ∙ ap (λ z. potential 1 w ab z) (toward-is w.a.incoming (w.ba.bytes ++ w.b.outgoing.bytes) ba (u.text_ba (is-running w.a.status o.a)))

-- ---- an open world stays open

still-runs : (st : Status) (all : Bool) → is_deaf st ≡ false → why_is_broken (why_of st all) ≡ false → is_running st ≡ true
still-runs Running all d e = refl
still-runs Lost all d e = absurd cc
still-runs (Broken f) all d e = absurd cc
still-runs Closed all d e = absurd cc

open-mirror : (w : World) → IsOpenWorld w → IsOpenWorld (mirror_world w)
open-mirror w o = record { a = o.b; b = o.a; ab = o.ba; ba = o.ab }

stays-open : (may : Choice → Session → Bool) (st : Step) (given : Answer) (w v : World) → is_carriage st ≡ true → IsWithin w.a → IsOpenWorld w → is_deaf v.b.status ≡ false → breaks_off given ≡ false → StepOfA may st given w v → IsOpenWorld v
stays-open may (step.At side call) given w v c h o d sound s = absurd cc
stays-open may (step.Stop direction) given w v c h o d sound s = absurd cc
stays-open may (step.End direction) given w v c h o d sound s = absurd cc
stays-open may (step.Emit side room) given w v c h o d sound s =
    let g = gave 1 may (any-order may) s.2.0 w.a s.1 h s.2.2.flows in
    let on : IsOpenPipe (pushed s.0 w.ab) = subst IsOpenPipe (sym (pushed-open s.0 w.ab o.ab.on)) (record { on = o.ab.on; untold = o.ab.untold }) in
    subst IsOpenWorld (sym s.4) (record { a = ap is_running g.status ∙ o.a; b = o.b; ab = on; ba = o.ba })
stays-open may (step.Deliver direction n) given w v c h o d sound s =
    let fed = s.2.0 in
    let told = s.2.1 in
    let said : given ≡ answer.Fed fed = s.3 ∙ ap answer_of told in
    let why : why_is_broken fed.why ≡ false = ap breaks_off (sym said) ∙ sound in
    let deaf : is_deaf s.1.status ≡ false = ap (λ (z : World). is_deaf z.b.status) (sym s.4) ∙ d in
    let runs = still-runs s.1.status _ deaf (ap why_is_broken (sym s.2.2.why) ∙ why) in
    subst IsOpenWorld (sym s.4) (record { a = o.a; b = runs; ab = record { on = o.ab.on; untold = o.ab.untold }; ba = o.ba })

-- ---- a step

-- an open world stays open, and its number falls by the bytes that are carried
pub record Lowers (st : Step) (given : Answer) (w v : World) : Type 0 where
  pub on : IsOpenWorld v
  pub lower : potential_of v + carried st given ≤ potential_of w

pub lowers : (may : Choice → Session → Bool) (st : Step) (given : Answer) (w v : World) (ab ba : List (List ℕ)) → AreWithin w → IsOpenWorld w → IsUnderWay w.b w.ab w.a ab → IsUnderWay w.a w.ba w.b ba →
    is_carriage st ≡ true → breaks_off given ≡ false → Steps may st given w v → Lowers st given w v
lowers may st given w v ab ba h o p q c sound s =
    let u = under-open w ab ba h o p q in
    let f = falls 1 may (any-order may) st given w v ab ba c u s in
    let on : IsOpenWorld v = elim (when (is_of_a st)) [
      | inl t ↦ stays-open may st given w v c h.a o f.under.awake_b sound (if-so_true _ _ _ t s)
      | inr t ↦ open-mirror (mirror_world v) (stays-open may st given (mirror_world w) (mirror_world v) c h.b (open-mirror w o) f.under.awake_a sound (if-so_false _ _ _ t s))
    ] in
    let before = potential-is w ab ba o u in
    let after = potential-is v f.ab_now f.ba_now on f.under in
    let d = f.drops in
    record { on = on; lower = omega (arith, before, after, d) }

-- a step that carries bytes carries some
pub some-carried : (st : Step) (given : Answer) → carries_bytes st given ≡ true → 0 < carried st given
some-carried (step.Emit side room) (answer.Emitted count) e = grind arith
some-carried (step.Deliver direction n) (answer.Fed fed) e = grind arith
some-carried st given e = absurd cc
