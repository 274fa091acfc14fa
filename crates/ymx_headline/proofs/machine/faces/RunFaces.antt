-- The faces of one stream, over all runs.
use Rattle.std.proofs.Common.{◌≡◌, ◌≢◌, inl, inr, ℕ, ◌+◌, ◌%◌, ◌≤◌, List, [], ◌∷◌, ◌++◌, take, length, Bool, true, false, ◌||◌, ◌==◌, if◌then◌else◌, Option, None, Some, refl, sym, ◌∙◌, ap, subst, append_assoc, append-nil, length-append, arith}
use Rattle.ymx_machine.specs.declared.types.Side.{Side}
use Rattle.ymx_machine.specs.declared.types.Side.TheVariants.{A, B}
use Rattle.ymx_machine.specs.shared.Events.{Reply}
use Rattle.ymx_machine.specs.declared.types.Reply.TheVariants as reply
use Rattle.ymx_machine.specs.shared.Events.{Call}
use Rattle.ymx_machine.specs.declared.types.Call.TheVariants as call
use Rattle.ymx_machine.specs.declared.types.Step.{Step}
use Rattle.ymx_machine.specs.declared.types.Step.TheVariants as step
use Rattle.ymx_machine.specs.declared.types.Answer.{Answer}
use Rattle.ymx_machine.specs.declared.types.Wrote.TheVariants.{Took}
use Rattle.ymx_machine.specs.stream.Lanes.{Mark, Lane, is_unsaid, is_here}
use Rattle.ymx_machine.specs.shared.Limits.{first_credit}
use Rattle.ymx_machine.specs.shared.Phases.{Phase}
use Rattle.ymx_machine.specs.stream.Streams.{Stream}
use Rattle.ymx_machine.specs.shared.Lists.{look}
use Rattle.ymx_machine.specs.shared.Steps.{is_of_a, answer_of}
use Rattle.ymx_machine.specs.machine.Machines.{Machine, mirror_machine, new_machine}
use Rattle.ymx_machine.specs.machine.Runs.{MachineStepOfA, MachineStep, MachineRun}
use Rattle.ymx_machine.proofs.Tests.{when, or_true}
use Rattle.ymx_headline.proofs.machine.faces.Pasts.{Past, Faces, HasFace}
use Rattle.ymx_headline.specs.machine.Faces.{DeliversWithin}
use Rattle.ymx_headline.proofs.machine.faces.LaneFaces.{wrote, gave}
use Rattle.ymx_headline.proofs.machine.lanes.StreamFacts.{if-so_true, if-so_false}
use Rattle.ymx_headline.proofs.machine.faces.Effects.{tell_outbound, tell_inbound, effect}
use Rattle.ymx_headline.proofs.machine.order.Cores.{core, core-ends, kept-moves, kept-releases, sound-new}
use Rattle.ymx_headline.proofs.machine.faces.MachineFaces.{IsBlank, FaceAt, Faced, faced-is, faced-past, faced-effect, faced-move, faced-mirror, faced-unmirror}
use Rattle.ymx_machine.specs.Promise.{is_same_side, written_by, got_by, written, got, finished_by, ended_by, finished, ended}

-- a step adds to the past of the lane from one side to the other
abbrev pub grown : Side → Side → ℕ → Step → Answer → Past → Past
grown w r i st given h = record {
  written = h.written ++ written_by w i st given;
  got = h.got ++ got_by r i st given;
  finished = h.finished || finished_by w i st given;
  ended = h.ended || ended_by r i st given;
}

pub or-false : (b : Bool) → (b || false) ≡ b
or-false true = refl
or-false false = refl

pub same : (h : Past) → record { written = h.written ++ []; got = h.got ++ []; finished = h.finished || false; ended = h.ended || false } ≡ h
same h = rw (append-nil, append-nil, or-false, or-false) refl

abbrev pub other : Side → Side
other A = B
other B = A

pick-wrote : (b : Bool) (bs : List ℕ) (h : Past) →
    record { written = h.written ++ (if b then bs else []); got = h.got ++ []; finished = h.finished || false; ended = h.ended || false } ≡ (if b then wrote bs h else h)
pick-wrote true bs h = rw (append-nil, or-false, or-false) refl
pick-wrote false bs h = same h

pick-gave : (b : Bool) (bs : List ℕ) (h : Past) →
    record { written = h.written ++ []; got = h.got ++ (if b then bs else []); finished = h.finished || false; ended = h.ended || false } ≡ (if b then gave bs h else h)
pick-gave true bs h = rw (append-nil, or-false, or-false) refl
pick-gave false bs h = same h

pick-finished : (b : Bool) (h : Past) →
    record { written = h.written ++ []; got = h.got ++ []; finished = h.finished || b; ended = h.ended || false } ≡ (if b then (record h { finished = true }) else h)
pick-finished true h = rw (append-nil, append-nil, or-false, or_true) refl
pick-finished false h = same h

pick-ended : (b : Bool) (h : Past) →
    record { written = h.written ++ []; got = h.got ++ []; finished = h.finished || false; ended = h.ended || b } ≡ (if b then (record h { ended = true }) else h)
pick-ended true h = rw (append-nil, append-nil, or-false, or_true) refl
pick-ended false h = same h

stays : (b : Bool) (h h' : Past) → h' ≡ h → record { written = h.written ++ []; got = h.got ++ []; finished = h.finished || false; ended = h.ended || false } ≡ (if b then h' else h)
stays true h h' e = same h ∙ sym e
stays false h h' e = same h

none-wrote : (h : Past) → wrote [] h ≡ h
none-wrote h = rw append-nil refl

none-gave : (h : Past) → gave [] h ≡ h
none-gave h = rw append-nil refl

pub same-side : (a : Side) → is_same_side a a ≡ true
same-side A = refl
same-side B = refl

pub other-side : (a : Side) → is_same_side (other a) a ≡ false
other-side A = refl
other-side B = refl

tells-out : (a : Side) (i : ℕ) (c : Call) (r : Reply) (h : Past) → grown a (other a) i (step.At a c) (answer_of r) h ≡ tell_outbound i c r h
tells-out a i (call.Write id bytes) (reply.Wrote (Took n)) h = rw (same-side a) (pick-wrote (id == i) (take n bytes) h)
tells-out a i (call.Write id bytes) r h = stays (id == i) h _ (none-wrote h)
tells-out a i (call.OpenWith bytes) (reply.OpenedWith id n) h = rw (same-side a) (pick-wrote (id == i) (take n bytes) h)
tells-out a i (call.OpenWith bytes) r h = same h
tells-out a i (call.Finish id) reply.Done h = rw (same-side a) (pick-finished (id == i) h)
tells-out a i (call.Finish id) r h = stays (id == i) h h refl
tells-out a i (call.Read id max) (reply.Read bytes) h = rw (other-side a) (same h)
tells-out a i (call.Read id max) reply.ReadEnd h = rw (other-side a) (same h)
tells-out a i (call.Read id max) r h = same h
tells-out a i _ r h = same h

tells-inbound : (a : Side) (i : ℕ) (c : Call) (r : Reply) (h : Past) → grown (other a) a i (step.At a c) (answer_of r) h ≡ tell_inbound i c r h
tells-inbound a i (call.Read id max) (reply.Read bytes) h = rw (same-side a) (pick-gave (id == i) bytes h)
tells-inbound a i (call.Read id max) reply.ReadEnd h = rw (same-side a) (pick-ended (id == i) h)
tells-inbound a i (call.Read id max) r h = stays (id == i) h _ (none-gave h)
tells-inbound a i (call.Write id bytes) (reply.Wrote (Took n)) h = rw (other-side a) (same h)
tells-inbound a i (call.Write id bytes) r h = same h
tells-inbound a i (call.OpenWith bytes) (reply.OpenedWith id n) h = rw (other-side a) (same h)
tells-inbound a i (call.OpenWith bytes) r h = same h
tells-inbound a i (call.Finish id) reply.Done h = rw (other-side a) (same h)
tells-inbound a i (call.Finish id) r h = same h
tells-inbound a i _ r h = same h

-- ---- a step

-- the call of a step is at this side
abbrev pub Speaks : Side → Step → Type 0
Speaks a (step.At sd c) = sd ≡ a
Speaks a _ = Unit {0}

faced-at : (mine yours i : ℕ) (a : Side) (po pi : Past) (c : Call) (given : Answer) (m n : Machine) → first_credit ≤ mine → first_credit ≤ yours →
    MachineStepOfA (step.At a c) given m n → Faced mine yours i po pi (core m) →
    Faced mine yours i (grown a (other a) i (step.At a c) given po) (grown (other a) a i (step.At a c) given pi) (core n)
faced-at mine yours i a po pi c given m n w v h k =
    let x : Faced mine yours i (tell_outbound i c h.0 po) (tell_inbound i c h.0 pi) (core n) =
    kept-releases (λ (x : Machine). Faced mine yours i (tell_outbound i c h.0 po) (tell_inbound i c h.0 pi) (core x)) (faced-move mine yours i _ _) h.2 h.1 n h.5
    (faced-effect mine yours i po pi c m h.0 h.1 w v (effect c m h.0 h.1 h.4) k) in
    faced-past mine yours i _ _ _ _ (core n)
    (ap (λ (g : Answer). grown a (other a) i (step.At a c) g po) h.3 ∙ tells-out a i c h.0 po)
    (ap (λ (g : Answer). grown (other a) a i (step.At a c) g pi) h.3 ∙ tells-inbound a i c h.0 pi) x

faced-step_of : (mine yours i : ℕ) (a : Side) (po pi : Past) (st : Step) (given : Answer) (m n : Machine) → first_credit ≤ mine → first_credit ≤ yours → Speaks a st →
    MachineStepOfA st given m n → Faced mine yours i po pi (core m) →
    Faced mine yours i (grown a (other a) i st given po) (grown (other a) a i st given pi) (core n)
faced-step_of mine yours i a po pi (step.At sd c) given m n w v e h k =
    subst (λ (s : Side). Faced mine yours i (grown a (other a) i (step.At s c) given po) (grown (other a) a i (step.At s c) given pi) (core n)) (sym e)
    (faced-at mine yours i a po pi c given m n w v h k)
faced-step_of mine yours i a po pi (step.Emit side room) given m n w v e h k =
    faced-past mine yours i _ _ _ _ (core n) (same po) (same pi)
    (kept-releases (λ (x : Machine). Faced mine yours i po pi (core x)) (faced-move mine yours i po pi) h.1 m n h.3 k)
faced-step_of mine yours i a po pi (step.Deliver direction count) given m n w v e h k =
    faced-past mine yours i _ _ _ _ (core n) (same po) (same pi)
    (faced-unmirror yours mine i pi po n
    (kept-moves (λ (x : Machine). Faced yours mine i pi po (core x)) (faced-move yours mine i pi po) h.1 (mirror_machine m) h.2 (mirror_machine n) h.6 (faced-mirror mine yours i po pi m k)))
faced-step_of mine yours i a po pi (step.Stop direction) given m n w v e h k =
    faced-past mine yours i _ _ _ _ (core n) (same po) (same pi) (faced-is mine yours i po pi _ _ (ap core h.1) k)
faced-step_of mine yours i a po pi (step.End direction) given m n w v e h k = faced-past mine yours i _ _ _ _ (core n) (same po) (same pi) (elim (when m.outbound_stopped) [
  | inl s ↦ faced-is mine yours i po pi _ _ (ap core (if-so_true _ _ _ s h).1 ∙ core-ends m) k
  | inr s ↦ faced-is mine yours i po pi _ _ (ap core (if-so_false _ _ _ s h).1) k
])

pub speaks-a : (st : Step) → is_of_a st ≡ true → Speaks A st
speaks-a (step.At A c) e = refl
speaks-a (step.At B c) e = absurd (cc)
speaks-a (step.Emit sd room) e = tt
speaks-a (step.Deliver d n) e = tt
speaks-a (step.Stop d) e = tt
speaks-a (step.End d) e = tt

pub speaks-b : (st : Step) → is_of_a st ≡ false → Speaks B st
speaks-b (step.At A c) e = absurd (cc)
speaks-b (step.At B c) e = refl
speaks-b (step.Emit sd room) e = tt
speaks-b (step.Deliver d n) e = tt
speaks-b (step.Stop d) e = tt
speaks-b (step.End d) e = tt

pub faced-step : (mine yours i : ℕ) (po pi : Past) (st : Step) (given : Answer) (m n : Machine) → first_credit ≤ mine → first_credit ≤ yours →
    MachineStep st given m n → Faced mine yours i po pi (core m) → Faced mine yours i (grown A B i st given po) (grown B A i st given pi) (core n)
faced-step mine yours i po pi st given m n w v h k = elim (when (is_of_a st)) [
  | inl s ↦ faced-step_of mine yours i A po pi st given m n w v (speaks-a st s) (if-so_true _ _ _ s h) k
  | inr s ↦ faced-unmirror yours mine i _ _ n
      (faced-step_of yours mine i B pi po st given (mirror_machine m) (mirror_machine n) v w (speaks-b st s) (if-so_false _ _ _ s h) (faced-mirror mine yours i po pi m k))
]

-- ---- a run

abbrev pub run_past : Side → Side → ℕ → List Step → List Answer → Past → Past
run_past w r i sts given h = record {
  written = h.written ++ written w i sts given;
  got = h.got ++ got r i sts given;
  finished = h.finished || finished w i sts given;
  ended = h.ended || ended r i sts given;
}

pub or-assoc : (a b c : Bool) → (a || (b || c)) ≡ ((a || b) || c)
or-assoc true b c = refl
or-assoc false b c = refl

pub run-step : (w r : Side) (i : ℕ) (st : Step) (sts : List Step) (given : Answer) (more : List Answer) (h : Past) →
    run_past w r i (st ∷ sts) (given ∷ more) h ≡ run_past w r i sts more (grown w r i st given h)
run-step w r i st sts given more h = rw (append_assoc, append_assoc, or-assoc, or-assoc) refl

pub faced-run : (mine yours i : ℕ) (po pi : Past) (sts : List Step) (given : List Answer) (m n : Machine) → first_credit ≤ mine → first_credit ≤ yours →
    MachineRun sts given m n → Faced mine yours i po pi (core m) → Faced mine yours i (run_past A B i sts given po) (run_past B A i sts given pi) (core n)
faced-run mine yours i po pi [] [] m n w v h k = faced-past mine yours i _ _ _ _ (core n) (same po) (same pi) (faced-is mine yours i po pi _ _ (ap core h) k)
faced-run mine yours i po pi (st ∷ sts) (given ∷ more) m n w v h k =
    faced-past mine yours i _ _ _ _ (core n) (run-step A B i st sts given more po) (run-step B A i st sts given more pi)
    (faced-run mine yours i (grown A B i st given po) (grown B A i st given pi) sts more h.0 n w v h.2 (faced-step mine yours i po pi st given m h.0 w v h.1 k))
faced-run mine yours i po pi [] (given ∷ more) m n w v h k = absurd h
faced-run mine yours i po pi (st ∷ sts) [] m n w v h k = absurd h

-- ---- what the faces say

lane-within_window : (w : ℕ) (p q : Phase) (l : Lane) (h : Past) (r b : List ℕ) → Faces w p q l h r b → length h.written ≤ length h.got + w
lane-within_window w p q l h r b c =
    let n = c.near in
    let k : length h.written ≡ length h.got + length r = ap length c.begins ∙ length-append h.got r in omega arith

lane-whole : (w : ℕ) (p q : Phase) (l : Lane) (h : Past) (r b : List ℕ) → h.ended ≡ true → Faces w p q l h r b → h.written ≡ h.got
lane-whole w p q l h r b e c = c.begins ∙ (ap (λ (x : List ℕ). h.got ++ x) (c.over_rest e) ∙ append-nil h.got)

here-said : (m : Mark) → is_here m ≡ true → is_unsaid m ≡ false
here-said m e = grind arith

lane-finish : (w : ℕ) (p q : Phase) (l : Lane) (h : Past) (r b : List ℕ) → h.ended ≡ true → Faces w p q l h r b → h.finished ≡ true
lane-finish w p q l h r b e c = c.said (here-said l.fin (c.over_fin e))

-- a lane's face, as a fact about its past
record Says (w : ℕ) (h : Past) : Type 0 where
  begins : (rest : List ℕ) × (h.written ≡ h.got ++ rest)
  whole : h.ended ≡ true → h.written ≡ h.got
  finish : h.ended ≡ true → h.finished ≡ true
  within_window : length h.written ≤ length h.got + w

says : (w : ℕ) (p q : Phase) (l : Lane) (h : Past) → HasFace w p q l h → Says w h
says w p q l h f = record {
  begins = (f.0, f.2.begins);
  whole = λ e. lane-whole w p q l h f.0 f.1 e f.2;
  finish = λ e. lane-finish w p q l h f.0 f.1 e f.2;
  within_window = lane-within_window w p q l h f.0 f.1 f.2;
}

says-blank : (w : ℕ) (h : Past) → IsBlank h → Says w h
says-blank w h b = record {
  begins = ([], b.written ∙ sym (append-nil h.got ∙ b.got));
  whole = λ e. b.written ∙ sym b.got;
  finish = λ e. (let k : true ≡ false = sym e ∙ b.ended in absurd (cc));
  within_window = (let n : length h.written ≡ 0 = ap length b.written in omega (arith, n));
}

says-a : (wa wb : ℕ) (po pi : Past) (o : Option Stream) → FaceAt wa wb po pi o → Says wb po
says-a wa wb po pi None f = says-blank wb po f.0
says-a wa wb po pi (Some s) f = says wb s.me s.you s.outbound po f.outbound

says-b : (wa wb : ℕ) (po pi : Past) (o : Option Stream) → FaceAt wa wb po pi o → Says wa pi
says-b wa wb po pi None f = says-blank wa pi f.1
says-b wa wb po pi (Some s) f = says wa s.you s.me s.inbound pi f.inbound

-- nothing written, got, finished or ended
abbrev pub blank : Past
blank = record { written = []; got = []; finished = false; ended = false }

pub faced-new : (wa fa wb fb i : ℕ) → fa % 2 ≢ fb % 2 → Faced wa wb i blank blank (core (new_machine wa fa wb fb))
faced-new wa fa wb fb i p = record {
  sound = sound-new wa fa wb fb;
  numbered = record { parity = p; once = tt; at = λ k. tt };
  face = (record { written = refl; got = refl; finished = refl; ended = refl }, record { written = refl; got = refl; finished = refl; ended = refl });
}

-- every stream of every run, in both directions
pub face : (wa fa wb fb : ℕ) (sts : List Step) (given : List Answer) (n : Machine) (i : ℕ) → first_credit ≤ wa → first_credit ≤ wb → fa % 2 ≢ fb % 2 →
    MachineRun sts given (new_machine wa fa wb fb) n →
    DeliversWithin wb A B i sts given × DeliversWithin wa B A i sts given
face wa fa wb fb sts given n i w v p h =
    let k = faced-run wa wb i blank blank sts given (new_machine wa fa wb fb) n w v h (faced-new wa fa wb fb i p) in
    let x = says-a wa wb _ _ (look i n.streams) k.face in
    let y = says-b wa wb _ _ (look i n.streams) k.face in (
      record { face = record { begins = x.begins; whole = x.whole; finish = x.finish }; within_window = x.within_window },
      record { face = record { begins = y.begins; whole = y.whole; finish = y.finish }; within_window = y.within_window },
    )

not-both : (a : ℕ) → a ≡ 1 → a ≡ 0 → ⊥
not-both a e f = absurd (omega arith)

pub odd-even : (a b : ℕ) → a % 2 ≡ 1 → b % 2 ≡ 0 → a % 2 ≢ b % 2
odd-even a b p q e = not-both (a % 2) p (e ∙ q)
