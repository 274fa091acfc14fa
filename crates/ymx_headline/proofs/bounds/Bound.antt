-- Emissions and deliveries feed at most twice as many frames as the load of the world.
use Rattle.std.proofs.Common.{◌≡◌, ℕ, ◌+◌, ◌*◌, ◌≤◌, List, [], ◌∷◌, ◌++◌, length, take, drop, Bool, true, false, refl, sym, ap, subst, ◌∙◌, inl, inr, arith, length-append}
use Rattle.std.specs.List.{All, concat}
use Rattle.std.proofs.lemmas.Grind.{common_steps}
use Rattle.std.proofs.lemmas.List.{append-nil, append_assoc, take-append-drop}
use Rattle.std.proofs.lemmas.List.Elements.{All-nil, All-cons, All-append}
use Rattle.std.proofs.lemmas.List.Folds.{concat-append}
use Rattle.ymx_model.specs.declared.types.Status.{Status}
use Rattle.ymx_model.specs.declared.types.Status.TheVariants.{Running, Lost, Broken, Closed}
use Rattle.ymx_machine.specs.declared.types.Direction.TheVariants.{AB, BA}
use Rattle.ymx_machine.specs.declared.types.Step.{Step}
use Rattle.ymx_machine.specs.declared.types.Step.TheVariants as step
use Rattle.ymx_machine.specs.declared.types.Answer.{Answer}
use Rattle.ymx_machine.specs.declared.types.Answer.TheVariants as answer
use Rattle.ymx_model.specs.declared.types.Event.TheVariants as event
use Rattle.ymx_machine.specs.declared.types.Fed.{Fed}
use Rattle.ymx_machine.specs.declared.types.Reply.TheVariants as reply
use Rattle.ymx_model.specs.session.Sessions.{Session, is_deaf, is_running}
use Rattle.ymx_model.specs.session.Feeds.{Feeds, Takes}
use Rattle.ymx_model.specs.session.Emissions.{Choice, Flows, Emits, moves_on}
use Rattle.ymx_model.specs.world.Worlds.{World, Pipe, StepOfA, Steps, fed_count, pushed, without_front, mirror_world}
use Rattle.ymx_machine.specs.shared.Steps.{answer_of, is_of_a}
use Rattle.ymx_model.specs.world.UnderWay.{IsOneFrame, IsUnderWay, held_bytes}
use Rattle.ymx_model.specs.world.Load.{is_inside, one_if, world_load}
use Rattle.ymx_law_session.specs.Limits.{IsWithin}
use Rattle.ymx_law_session.proofs.limits.EmissionsKeep.{begin-keeps, moves-keep}
use Rattle.ymx_law_session.proofs.limits.HistoriesKeep.{gives-keep}
use Rattle.ymx_machine.proofs.Tests.{when}
use Rattle.ymx_headline.proofs.machine.lanes.StreamFacts.{if-so_true, if-so_false}
use Rattle.ymx_headline.specs.world.Texts.{AreWithin}
use Rattle.ymx_headline.proofs.world.Emitted.{empty-bytes}
use Rattle.ymx_headline.proofs.world.Fed.{Follow, takes-heard, all-first, all-rest}
use Rattle.ymx_headline.specs.Laws.{IsOpenWorld, Carries, fed_by, is_carriage, made_whole}
use Rattle.ymx_headline.proofs.bounds.Loads.{SendsAtLeast, effort, weights, weights-append, weights-most, effort-most, begin-starts, sheds}
use Rattle.ymx_headline.proofs.bounds.LoadBytes.{takes-bytes}

-- ---- an emission

-- these bytes go out: whole frames that begin, and what they take of the effort
pub record Gave (least : ℕ) (out : List ℕ) (s t : Session) : Type 0 where
  pub frames : List (List ℕ)
  pub each : All IsOneFrame frames
  pub bytes : s.outgoing.bytes ++ concat frames ≡ out ++ t.outgoing.bytes
  pub effort : effort least t + weights frames ≤ effort least s
  pub status : t.status ≡ s.status
  pub incoming : t.incoming ≡ s.incoming

begun-more : (b : ℕ) (was now all out rest : List ℕ) → was ≡ b ∷ now → now ++ all ≡ out ++ rest → was ++ all ≡ (b ∷ out) ++ rest
begun-more b was now all out rest e p = rw e (ap (λ xs. b ∷ xs) p)

begun-new : (b : ℕ) (none was now all out rest : List ℕ) → none ≡ [] → was ≡ b ∷ now → now ++ all ≡ out ++ rest → none ++ (was ++ all) ≡ (b ∷ out) ++ rest
begun-new b none was now all out rest z e p = rw (z, e) (ap (λ xs. b ∷ xs) p)

pub gave : (least : ℕ) (may : Choice → Session → Bool) (sends : SendsAtLeast least may) (out : List ℕ) (s t : Session) → IsWithin s → Flows may out s t → Gave least out s t
gave least may sends [] s t w e = subst (Gave least [] s) (sym e) (record { frames = []; each = All-nil IsOneFrame; bytes = append-nil s.outgoing.bytes; effort = omega arith; status = refl; incoming = refl })
gave least may sends (b ∷ out) s t w (ready, inl (more, same), first, p) =
    let within : IsWithin ready = subst IsWithin (sym same) w in
    let m = sheds least b ready first in
    let k = gave least may sends out (moves_on 1 ready) t (moves-keep 1 ready within) p in
    let x = m.effort in
    let y = k.effort in
    subst (λ z. Gave least (b ∷ out) z t) same (record {
      frames = k.frames;
      each = k.each;
      bytes = begun-more b ready.outgoing.bytes (moves_on 1 ready).outgoing.bytes (concat k.frames) out t.outgoing.bytes m.bytes k.bytes;
      effort = omega (arith, x, y);
      status = k.status ∙ m.status;
      incoming = k.incoming ∙ m.incoming;
    })
gave least may sends (b ∷ out) s t w (ready, inr (none, (choice, ok, begun)), first, p) =
    let within : IsWithin ready = begin-keeps choice s ready begun w in
    let g = begin-starts least choice s ready w sends.some (λ id limit e some. sends.each id limit s (ap (λ c. may c s) (sym e) ∙ ok) some) begun in
    let m = sheds least b ready first in
    let k = gave least may sends out (moves_on 1 ready) t (moves-keep 1 ready within) p in
    let x = m.effort in
    let y = k.effort in
    let z = g.effort in
    record {
      frames = ready.outgoing.bytes ∷ k.frames;
      each = All-cons IsOneFrame ready.outgoing.bytes k.frames g.one k.each;
      bytes = begun-new b s.outgoing.bytes ready.outgoing.bytes (moves_on 1 ready).outgoing.bytes (concat k.frames) out t.outgoing.bytes (empty-bytes s.outgoing.bytes none) m.bytes k.bytes;
      effort = omega (arith, x, y, z);
      status = k.status ∙ (m.status ∙ g.status);
      incoming = k.incoming ∙ (m.incoming ∙ g.incoming);
    }

-- ---- a world whose pipes are open

-- The frames under way in both directions, where the receiver still runs; no session is deaf.
pub record Under (w : World) (ab ba : List (List ℕ)) : Type 0 where
  pub awake_a : is_deaf w.a.status ≡ false
  pub awake_b : is_deaf w.b.status ≡ false
  pub within_a : IsWithin w.a
  pub within_b : IsWithin w.b
  pub open_ab : w.ab.stopped ≡ false
  pub open_ba : w.ba.stopped ≡ false
  pub text_ab : w.b.status ≡ Running → Follow w.b.incoming (w.ab.bytes ++ w.a.outgoing.bytes) ab
  pub text_ba : w.a.status ≡ Running → Follow w.a.incoming (w.ba.bytes ++ w.b.outgoing.bytes) ba

abbrev pub measure : (least : ℕ) → World → (ab ba : List (List ℕ)) → ℕ
measure least w ab ba = effort least w.a + effort least w.b + weights ab + weights ba + one_if (is_inside w.a.incoming) + one_if (is_inside w.b.incoming)

-- What each byte that is carried lowers. A frame has at most 262,156 bytes; one that hasn't begun counts above
-- what it leaves.
abbrev pub potential : (least : ℕ) → World → (ab ba : List (List ℕ)) → ℕ
potential least w ab ba =
    1048624 * (effort least w.a + effort least w.b) + 524312 * (weights ab + weights ba)
    + 2 * (length w.a.outgoing.bytes + length w.b.outgoing.bytes) + length w.ab.bytes + length w.ba.bytes

-- so many frames are fed wholly, and no more than the measure falls; so many bytes are carried, and no more than the potential falls
pub record Falls (least : ℕ) (w v : World) (ab ba : List (List ℕ)) (fed bytes : ℕ) : Type 0 where
  pub ab_now : List (List ℕ)
  pub ba_now : List (List ℕ)
  pub under : Under v ab_now ba_now
  pub falls : measure least v ab_now ba_now + fed ≤ measure least w ab ba
  pub drops : potential least v ab_now ba_now + bytes ≤ potential least w ab ba

pub under-mirror : (w : World) (ab ba : List (List ℕ)) → Under w ab ba → Under (mirror_world w) ba ab
under-mirror w ab ba u = assumption u

falls-mirror : (least : ℕ) (w v : World) (ab ba : List (List ℕ)) (fed bytes : ℕ) → Falls least (mirror_world w) (mirror_world v) ba ab fed bytes → Falls least w v ab ba fed bytes
falls-mirror least w v ab ba fed bytes f =
    let k = f.falls in
    let d = f.drops in
    record { ab_now = f.ba_now; ba_now = f.ab_now; under = under-mirror (mirror_world v) f.ab_now f.ba_now f.under; falls = omega (arith, k); drops = omega (arith, d) }

-- ---- the steps, at side A

grown : (held bytes begun tail all out now more : List ℕ) → held ++ (bytes ++ begun) ≡ tail ++ all → begun ++ more ≡ out ++ now → held ++ ((bytes ++ out) ++ now) ≡ tail ++ (all ++ more)
grown held bytes begun tail all out now more t e =
    ap (λ xs. held ++ xs) (append_assoc bytes out now ∙ (ap (λ xs. bytes ++ xs) (sym e) ∙ sym (append_assoc bytes begun more)))
    ∙ (sym (append_assoc held (bytes ++ begun) more) ∙ (ap (λ xs. xs ++ more) t ∙ append_assoc tail all more))

-- frames are no longer than their weight says
long-frames : (frames : List (List ℕ)) → All IsOneFrame frames → length (concat frames) ≤ 262156 * weights frames
long-frames [] a = omega arith
long-frames (f ∷ fs) a =
    let one = all-first f fs a in
    let whole = one.whole in
    let short = one.short in
    let rest = long-frames fs (all-rest f fs a) in
    let n = length-append f (concat fs) in
    omega (arith, whole, short, rest, n)

pub pushed-open : (out : List ℕ) (p : Pipe) → p.stopped ≡ false → pushed out p ≡ record p { bytes = p.bytes ++ out }
pushed-open out p e = rw e refl

emitted-falls : (least : ℕ) (may : Choice → Session → Bool) (sends : SendsAtLeast least may) (room : ℕ) (out : List ℕ) (s : Session) (w : World) (ab ba : List (List ℕ)) → Under w ab ba → Emits may w.a room out s →
    Falls least w (record w { a = s; ab = pushed out w.ab }) ab ba 0 (length out)
emitted-falls least may sends room out s w ab ba u e =
    let g = gave least may sends out w.a s u.within_a e.flows in
    let k = g.effort in
    let n = weights-append ab g.frames in
    let i : one_if (is_inside s.incoming) ≡ one_if (is_inside w.a.incoming) = ap (λ z. one_if (is_inside z)) g.incoming in
    let within : IsWithin s = gives-keep may w.a s (event.Emit room) (reply.Emitted out) (out, refl, e) u.within_a in
    let long = long-frames g.frames g.each in
    let came : length w.a.outgoing.bytes + length (concat g.frames) ≡ length out + length s.outgoing.bytes = sym (length-append w.a.outgoing.bytes (concat g.frames)) ∙ (ap length g.bytes ∙ length-append out s.outgoing.bytes) in
    let pushed_on = length-append w.ab.bytes out in
    subst (λ p. Falls least w (record w { a = s; ab = p }) ab ba 0 (length out)) (sym (pushed-open out w.ab u.open_ab)) (record {
      ab_now = ab ++ g.frames;
      ba_now = ba;
      under = record {
        awake_a = ap is_deaf g.status ∙ u.awake_a;
        awake_b = u.awake_b;
        within_a = within;
        within_b = u.within_b;
        open_ab = u.open_ab;
        open_ba = u.open_ba;
        text_ab = λ r. (let f = u.text_ab r in record {
          tail = f.tail;
          missing = f.missing;
          each = All-append IsOneFrame ab g.frames f.each g.each;
          text = grown (held_bytes w.b.incoming) w.ab.bytes w.a.outgoing.bytes f.tail (concat ab) out s.outgoing.bytes (concat g.frames) f.text g.bytes ∙ ap (λ xs. f.tail ++ xs) (sym (concat-append ab g.frames));
        });
        text_ba = λ r. subst (λ z. Follow z (w.ba.bytes ++ w.b.outgoing.bytes) ba) (sym g.incoming) (u.text_ba (sym g.status ∙ r));
      };
      falls = omega (arith, k, n, i);
      drops = omega (arith, k, n, long, came, pushed_on);
    })

first-bytes : (k n : ℕ) (xs : List ℕ) → k ≤ length (take n xs) → take k (take n xs) ≡ take k xs
first-bytes k n xs l = grind (arith, common_steps)

drop-fewer : (k n : ℕ) (xs : List ℕ) → k ≤ length (take n xs) → length (drop k xs) + k ≡ length xs
drop-fewer k n xs l = grind (arith, common_steps)

cut-there : (k : ℕ) (xs begun : List ℕ) → take k xs ++ (drop k xs ++ begun) ≡ xs ++ begun
cut-there k xs begun = sym (append_assoc (take k xs) (drop k xs) begun) ∙ ap (λ ys. ys ++ begun) (take-append-drop k xs)

fed-falls : (least : ℕ) (may : Choice → Session → Bool) (n : ℕ) (fed : Fed) (s : Session) (w : World) (ab ba : List (List ℕ)) → Under w ab ba → Feeds w.b (take n w.ab.bytes) fed s →
    Falls least w (record w { b = s; ab = without_front fed.taken w.ab }) ab ba (made_whole (take fed.taken w.ab.bytes) w.b.incoming) fed.taken
fed-falls least may n fed s w ab ba u f =
    let k = fed.taken in
    let same = first-bytes k n w.ab.bytes f.fits in
    let took = subst (λ xs. Takes xs w.b s f.took.0) same f.took.1 in
    let heard = takes-heard (take k w.ab.bytes) w.b s f.took.0 took in
    let b = takes-bytes least (take k w.ab.bytes) (drop k w.ab.bytes ++ w.a.outgoing.bytes) ab w.b s f.took.0 took u.within_b u.awake_b
    (λ r. subst (λ xs. Follow w.b.incoming xs ab) (sym (cut-there k w.ab.bytes w.a.outgoing.bytes)) (u.text_ab r)) in
    let e = b.effort in
    let u_worth = b.worth in
    let still_begun = ap (λ z. length z.bytes) heard.outgoing in
    let left = drop-fewer fed.taken n w.ab.bytes f.fits in
    record {
      ab_now = b.left;
      ba_now = ba;
      under = record {
        awake_a = u.awake_a;
        awake_b = b.awake;
        within_a = u.within_a;
        within_b = gives-keep may w.b s (event.Feed (take n w.ab.bytes)) (reply.Fed fed) (fed, refl, f) u.within_b;
        open_ab = u.open_ab;
        open_ba = u.open_ba;
        text_ab = b.follow;
        text_ba = λ r. subst (λ z. Follow w.a.incoming (w.ba.bytes ++ z.bytes) ba) (sym heard.outgoing) (u.text_ba r);
      };
      falls = omega (arith, e);
      drops = omega (arith, u_worth, still_begun, left);
    }

pub bytes-same : (a b : List ℕ) → reply.Emitted a ≡ reply.Emitted b → b ≡ a
bytes-same a b e = cc

-- how many frames a step feeds in the direction away from A
abbrev fed_of : Step → Answer → World → ℕ
fed_of (step.Deliver d n) (answer.Fed fed) w = made_whole (take fed.taken w.ab.bytes) w.b.incoming
fed_of _ _ w = 0

-- how many bytes a step carries
abbrev pub carried : Step → Answer → ℕ
carried (step.Emit side room) (answer.Emitted count) = count
carried (step.Deliver d n) (answer.Fed fed) = fed.taken
carried _ _ = 0

step-falls : (least : ℕ) (may : Choice → Session → Bool) (sends : SendsAtLeast least may) (st : Step) (given : Answer) (w v : World) (ab ba : List (List ℕ)) → is_carriage st ≡ true → Under w ab ba → StepOfA may st given w v → Falls least w v ab ba (fed_of st given w) (carried st given)
step-falls least may sends (step.At side call) given w v ab ba c u s = absurd cc
step-falls least may sends (step.Stop d) given w v ab ba c u s = absurd cc
step-falls least may sends (step.End d) given w v ab ba c u s = absurd cc
step-falls least may sends (step.Emit side room) given w v ab ba c u s =
    let same = bytes-same s.0 s.2.0 s.2.1 in
    let one = subst (λ z. Falls least w z ab ba 0 (length s.0)) (sym s.4) (emitted-falls least may sends room s.0 s.1 w ab ba u (subst (λ out. Emits may w.a room out s.1) same s.2.2)) in
    subst (λ z. Falls least w v ab ba 0 (carried (step.Emit side room) z)) (sym s.3) one
step-falls least may sends (step.Deliver d n) given w v ab ba c u s =
    let fed = s.2.0 in
    let told = s.2.1 in
    let now : v ≡ record w { b = s.1; ab = without_front fed.taken w.ab } = s.4 ∙ ap (λ r. record w { b = s.1; ab = without_front (fed_count r) w.ab }) told in
    let said : given ≡ answer.Fed fed = s.3 ∙ ap answer_of told in
    subst (λ z. Falls least w v ab ba (fed_of (step.Deliver d n) z w) (carried (step.Deliver d n) z)) (sym said)
    (subst (λ z. Falls least w z ab ba (made_whole (take fed.taken w.ab.bytes) w.b.incoming) fed.taken) (sym now) (fed-falls least may n fed s.1 w ab ba u s.2.2))

-- ---- the steps

fed-at_a : (st : Step) (given : Answer) (w : World) → is_carriage st ≡ true → is_of_a st ≡ true → fed_of st given w ≡ fed_by st given w
fed-at_a (step.At side call) given w c e = absurd cc
fed-at_a (step.Stop d) given w c e = absurd cc
fed-at_a (step.End d) given w c e = absurd cc
fed-at_a (step.Emit side room) given w c e = refl
fed-at_a (step.Deliver AB n) (answer.Fed fed) w c e = refl
fed-at_a (step.Deliver AB n) given w c e = refl
fed-at_a (step.Deliver BA n) given w c e = absurd cc

fed-at_b : (st : Step) (given : Answer) (w : World) → is_carriage st ≡ true → is_of_a st ≡ false → fed_of st given (mirror_world w) ≡ fed_by st given w
fed-at_b (step.At side call) given w c e = absurd cc
fed-at_b (step.Stop d) given w c e = absurd cc
fed-at_b (step.End d) given w c e = absurd cc
fed-at_b (step.Emit side room) given w c e = refl
fed-at_b (step.Deliver AB n) given w c e = absurd cc
fed-at_b (step.Deliver BA n) (answer.Fed fed) w c e = refl
fed-at_b (step.Deliver BA n) given w c e = refl

pub falls : (least : ℕ) (may : Choice → Session → Bool) (sends : SendsAtLeast least may) (st : Step) (given : Answer) (w v : World) (ab ba : List (List ℕ)) → is_carriage st ≡ true → Under w ab ba → Steps may st given w v → Falls least w v ab ba (fed_by st given w) (carried st given)
falls least may sends st given w v ab ba c u s = elim (when (is_of_a st)) [
  | inl t ↦ subst (λ n. Falls least w v ab ba n (carried st given)) (fed-at_a st given w c t) (step-falls least may sends st given w v ab ba c u (if-so_true _ _ _ t s))
  | inr t ↦ falls-mirror least w v ab ba (fed_by st given w) (carried st given)
      (subst (λ n. Falls least (mirror_world w) (mirror_world v) ba ab n (carried st given)) (fed-at_b st given w c t) (step-falls least may sends st given (mirror_world w) (mirror_world v) ba ab c (under-mirror w ab ba u) (if-so_false _ _ _ t s)))
]

pub carries-falls : (least : ℕ) (may : Choice → Session → Bool) (sends : SendsAtLeast least may) (sts : List Step) (given : List Answer) (w v : World) (ab ba : List (List ℕ)) (n : ℕ) → Under w ab ba → Carries may sts given w v n → n ≤ measure least w ab ba
carries-falls least may sends [] [] w v ab ba n u c = let z = c.1 in omega arith
carries-falls least may sends (st ∷ sts) (given ∷ more) w v ab ba n u (is, x, rest, s, sum, c) =
    let f = falls least may sends st given w x ab ba is u s in
    let k = carries-falls least may sends sts more x v f.ab_now f.ba_now rest f.under c in
    let l = f.falls in
    omega (arith, k, l, sum)
carries-falls least may sends [] (given ∷ more) w v ab ba n u c = absurd c
carries-falls least may sends (st ∷ sts) [] w v ab ba n u c = absurd c

-- ---- the load

runs-awake : (st : Status) → is_running st ≡ true → is_deaf st ≡ false
runs-awake Running e = refl
runs-awake Lost e = absurd cc
runs-awake (Broken f) e = refl
runs-awake Closed e = absurd cc

follows-on : (r : Session) (p : Pipe) (s : Session) (frames : List (List ℕ)) → IsUnderWay r p s frames → Follow r.incoming (p.bytes ++ s.outgoing.bytes) frames
follows-on r p s frames u = record { tail = u.tail; missing = u.missing; each = u.each; text = u.text }

-- a world that is open, with the frames under way in it
pub under-open : (w : World) (ab ba : List (List ℕ)) → AreWithin w → IsOpenWorld w → IsUnderWay w.b w.ab w.a ab → IsUnderWay w.a w.ba w.b ba → Under w ab ba
under-open w ab ba h o p q = record {
  awake_a = runs-awake w.a.status o.a;
  awake_b = runs-awake w.b.status o.b;
  within_a = h.a;
  within_b = h.b;
  open_ab = o.ab.on;
  open_ba = o.ba.on;
  text_ab = λ r. follows-on w.b w.ab w.a ab p;
  text_ba = λ r. follows-on w.a w.ba w.b ba q;
}

pub bound : (least : ℕ) (may : Choice → Session → Bool) (sends : SendsAtLeast least may) (sts : List Step) (given : List Answer) (w v : World) (ab ba : List (List ℕ)) (n : ℕ) → AreWithin w → IsOpenWorld w → IsUnderWay w.b w.ab w.a ab → IsUnderWay w.a w.ba w.b ba →
    Carries may sts given w v n → n ≤ 2 * world_load least w ab ba
bound least may sends sts given w v ab ba n h o p q c =
    let k = carries-falls least may sends sts given w v ab ba n (under-open w ab ba h o p q) c in
    let a = effort-most least w.a in
    let b = effort-most least w.b in
    let x = weights-most ab in
    let y = weights-most ba in
    omega (arith, k, a, b, x, y)
