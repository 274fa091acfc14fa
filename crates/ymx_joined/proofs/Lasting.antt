-- What holds of a stream at one side, and no step undoes.
use Rattle.std.proofs.Common.{◌≡◌, inl, inr, ℕ, List, Bool, ◌||◌, Option, None, Some, refl, sym, ap, subst, ◌∙◌}
use Rattle.ymx_machine.specs.declared.types.Step.{Step}
use Rattle.ymx_machine.specs.declared.types.Step.TheVariants as step
use Rattle.ymx_machine.specs.declared.types.Answer.{Answer}
use Rattle.ymx_machine.specs.shared.Events.{Call, Reply}
use Rattle.ymx_machine.specs.shared.Lists.{look, change}
use Rattle.ymx_machine.specs.shared.Phases.Phase.{Offered}
use Rattle.ymx_machine.specs.shared.Steps.{is_of_a}
use Rattle.ymx_machine.specs.stream.Streams.{Stream, Move, Allowed, after_move, flip, stream_accept}
use Rattle.ymx_machine.specs.stream.Streams.Move.{SynOffered, SynRefused}
use Rattle.ymx_machine.specs.stream.StreamRules.{StreamCall, StreamRule}
use Rattle.ymx_machine.specs.machine.Machines.{Machine, mirror_machine}
use Rattle.ymx_machine.specs.machine.FreeMoves.{FreeMove, MayMove, moved_by, Releases, machine_refuses}
use Rattle.ymx_machine.specs.machine.FreeMoves.FreeMove.{OfStream, SynArrives, AwayArrives, PingThere, PingBack}
use Rattle.ymx_machine.specs.machine.Runs.{MachineStep, MachineStepOfA}
use Rattle.ymx_machine.proofs.Tests.{when, same_or_not, one_some}
use Rattle.ymx_headline.proofs.machine.lanes.StreamFacts.{if-so_true, if-so_false}
use Rattle.ymx_headline.proofs.machine.order.Maps.{look-change, look-change_other, look-add_there, flipped, look-mirror}
use Rattle.ymx_headline.proofs.machine.order.Cores.{core, kept-moves, kept-releases, Sound, sound-mirror, offered-front, offered-stream}
use Rattle.ymx_headline.proofs.machine.faces.Effects.{Effect, effect}
use Rattle.ymx_headline.proofs.machine.faces.Effects.Effect.{Idles, OpensOne, AcceptsOne, TouchesOne}

-- What a side's own calls and what arrives there keep, of one of its streams.
pub record IsKept (P : Stream → Type 0) : Type 0 where
  pub rule : (lost : Bool) (c : StreamCall) (s t : Stream) (r : Reply) → StreamRule lost c s r t → P s → P t
  pub move : (v : Move) (s : Stream) → Allowed v s → P s → P (after_move v s)
  pub accept : (lost : Bool) (s : Stream) → s.me ≡ Offered → P s → P (stream_accept lost s)

-- Both sides keep it: P as this side sees the stream is Q as the other does.
pub record BothKeep (P Q : Stream → Type 0) : Type 0 where
  pub here : IsKept P
  pub there : IsKept Q
  pub over : (s : Stream) → P s → Q (flip s)
  pub back : (s : Stream) → Q (flip s) → P s
  pub over_too : (s : Stream) → Q s → P (flip s)
  pub back_too : (s : Stream) → P (flip s) → Q s

others_keep : (P Q : Stream → Type 0) → BothKeep P Q → BothKeep Q P
others_keep P Q k = record { here = k.there; there = k.here; over = k.over_too; back = k.back_too; over_too = k.over; back_too = k.back }

-- it holds of the stream of this number
abbrev pub HasAt : (Stream → Type 0) → ℕ → List (ℕ × Stream) → Type 0
HasAt P id xs = (s : Stream) × (look id xs ≡ Some s) × P s

-- ---- seen from the other side

has_over : (P Q : Stream → Type 0) → BothKeep P Q → (id : ℕ) (m : Machine) → HasAt P id m.streams → HasAt Q id (mirror_machine m).streams
has_over P Q k id m (s, e, p) = (flip s, look-mirror id m.streams ∙ ap flipped e, k.over s p)

flipped_is : (o : Option Stream) (t : Stream) → flipped o ≡ Some t → (s : Stream) × (o ≡ Some s) × (t ≡ flip s)
flipped_is None t e = let no : ⊥ = cc in absurd no
flipped_is (Some s) t e = (s, refl, sym (one_some (flip s) t e))

has_back : (P Q : Stream → Type 0) → BothKeep P Q → (id : ℕ) (m : Machine) → HasAt Q id (mirror_machine m).streams → HasAt P id m.streams
has_back P Q k id m (t, e, q) =
    let o = flipped_is (look id m.streams) t (sym (look-mirror id m.streams) ∙ e) in
    (o.0, o.1, k.back o.0 (subst Q o.2 q))

-- ---- one stream changes

changed : (P : Stream → Type 0) (i j : ℕ) (f : Stream → Stream) (s : Stream) (xs : List (ℕ × Stream)) → look j xs ≡ Some s → (P s → P (f s)) → HasAt P i xs → HasAt P i (change j f xs)
changed P i j f s xs e keeps (t, there, p) = elim (same_or_not i j) [
  | inl d ↦ (let same : t ≡ s = one_some t s (sym there ∙ ap (λ (x : ℕ). look x xs) d ∙ e) in
      (f s, ap (λ (x : ℕ). look x (change j f xs)) d ∙ look-change j f xs s e, keeps (subst P same p)))
  | inr d ↦ (t, look-change_other i j f xs d ∙ there, p)
]

-- ---- what arrives

moved : (P : Stream → Type 0) → IsKept P → (id : ℕ) (v : FreeMove) (m : Machine) → MayMove v m → HasAt P id m.streams → HasAt P id (moved_by v m).streams
moved P k id (OfStream j v) m a h = changed P id j (after_move v) a.2.0 m.streams a.2.1 (k.move v a.2.0 a.2.2) h
moved P k id (SynArrives j counted) m a h = elim (when (machine_refuses m || counted)) [
  | inl b ↦ rw b (changed P id j (after_move SynRefused) a.1.0 m.streams a.1.1 (k.move SynRefused a.1.0 a.1.2) h)
  | inr b ↦ rw b (changed P id j (after_move SynOffered) a.1.0 m.streams a.1.1 (k.move SynOffered a.1.0 a.1.2) h)
]
moved P k id AwayArrives m a h = h
moved P k id (PingThere number) m a h = h
moved P k id (PingBack number) m a h = h

-- ---- a call

called : (P : Stream → Type 0) → IsKept P → (mine yours id : ℕ) (c : Call) (m : Machine) (r : Reply) (n : Machine) → Effect c m r n → Sound mine yours (core m) → HasAt P id m.streams → HasAt P id n.streams
called P k mine yours id c m r n (Idles e) so h = subst (HasAt P id) (sym e.same.streams) h
called P k mine yours id c m r n (OpensOne bytes e) so (s, there, p) =
    (s, ap (λ (v : Machine). look id v.streams) e.now ∙ look-add_there id m.me.next _ s m.streams there, p)
called P k mine yours id c m r n (AcceptsOne j ids e) so h =
    let s = offered-stream (look j m.streams) (offered-front mine yours (core m) j ids e.front so) in
    subst (λ (v : Machine). HasAt P id v.streams) (sym e.now) (changed P id j (stream_accept m.me.lost) s.0 m.streams s.1 (k.accept m.me.lost s.0 s.2) h)
called P k mine yours id c m r n (TouchesOne j sc s t e) so h =
    subst (λ (v : Machine). HasAt P id v.streams) (sym e.now) (changed P id j (λ _. t) s m.streams e.there (k.rule m.me.lost sc s t r e.rule) h)

-- ---- a step

step_of_a : (P Q : Stream → Type 0) → BothKeep P Q → (mine yours id : ℕ) (st : Step) (g : Answer) (m n : Machine) → Sound mine yours (core m) → MachineStepOfA st g m n → HasAt P id m.streams → HasAt P id n.streams
step_of_a P Q k mine yours id (step.At side c) g m n so h has =
    kept-releases (λ (v : Machine). HasAt P id v.streams) (moved P k.here id) h.2 h.1 n h.5 (called P k.here mine yours id c m h.0 h.1 (effect c m h.0 h.1 h.4) so has)
step_of_a P Q k mine yours id (step.Emit side room) g m n so h has = kept-releases (λ (v : Machine). HasAt P id v.streams) (moved P k.here id) h.1 m n h.3 has
step_of_a P Q k mine yours id (step.Deliver d count) g m n so h has =
    has_back P Q k id n (kept-moves (λ (v : Machine). HasAt Q id v.streams) (moved Q k.there id) h.1 (mirror_machine m) h.2 (mirror_machine n) h.6 (has_over P Q k id m has))
step_of_a P Q k mine yours id (step.Stop d) g m n so h has = subst (λ (v : Machine). HasAt P id v.streams) (sym h.1) has
step_of_a P Q k mine yours id (step.End d) g m n so h has = elim (when m.outbound_stopped) [
  | inl s ↦ subst (λ (v : Machine). HasAt P id v.streams) (sym (if-so_true _ _ _ s h).1) has
  | inr s ↦ subst (λ (v : Machine). HasAt P id v.streams) (sym (if-so_false _ _ _ s h).1) has
]

-- Every step keeps what both sides keep.
pub step_keeps : (P Q : Stream → Type 0) → BothKeep P Q → (mine yours id : ℕ) (st : Step) (g : Answer) (m n : Machine) → Sound mine yours (core m) → MachineStep st g m n → HasAt P id m.streams → HasAt P id n.streams
step_keeps P Q k mine yours id st g m n so h has = elim (when (is_of_a st)) [
  | inl s ↦ step_of_a P Q k mine yours id st g m n so (if-so_true _ _ _ s h) has
  | inr s ↦ has_back P Q k id n
      (step_of_a Q P (others_keep P Q k) yours mine id st g (mirror_machine m) (mirror_machine n) (sound-mirror mine yours m so) (if-so_false _ _ _ s h) (has_over P Q k id m has))
]

-- Records that go keep it too.
pub releases_keep : (P : Stream → Type 0) → IsKept P → (id : ℕ) (ids : List ℕ) (m n : Machine) → Releases ids m n → HasAt P id m.streams → HasAt P id n.streams
releases_keep P k id ids m n h has = kept-releases (λ (v : Machine). HasAt P id v.streams) (moved P k id) ids m n h has
