-- The law of a lane, over all runs.
use Rattle.std.proofs.Common.{◌≡◌, ◌⊎◌, inl, inr, ℕ, ◌≤◌, List, [], ◌∷◌, ◌++◌, Bool, true, false, ◌||◌, Option, None, Some, refl, sym, ◌∙◌, ap, subst}
use Rattle.ymx_machine.specs.shared.Events.{Reply}
use Rattle.ymx_machine.specs.shared.Events.{Call}
use Rattle.ymx_machine.specs.declared.types.Step.{Step}
use Rattle.ymx_machine.specs.declared.types.Step.TheVariants as step
use Rattle.ymx_machine.specs.declared.types.Answer.{Answer}
use Rattle.ymx_machine.specs.shared.Limits.{first_credit}
use Rattle.ymx_machine.specs.shared.Phases.Phase.{Unborn}
use Rattle.ymx_machine.specs.stream.Streams.{Stream, after_move, opened_stream, stream_write, stream_accept}
use Rattle.ymx_machine.specs.stream.Streams.Move.{SynOffered, SynRefused}
use Rattle.ymx_machine.specs.shared.Lists.{look, change}
use Rattle.ymx_machine.specs.shared.Steps.{is_of_a}
use Rattle.ymx_machine.specs.machine.Machines.{Machine, mirror_machine, new_machine}
use Rattle.ymx_machine.specs.machine.FreeMoves.{FreeMove, MayMove, moved_by, machine_refuses}
use Rattle.ymx_machine.specs.machine.FreeMoves.FreeMove.{OfStream, SynArrives, AwayArrives, PingThere, PingBack}
use Rattle.ymx_machine.specs.machine.Runs.{MachineStepOfA, MachineStep, MachineRun}
use Rattle.ymx_machine.proofs.Tests.{when, same_or_not}
use Rattle.ymx_headline.specs.machine.LaneLaws.{ObeysWindows}
use Rattle.ymx_headline.specs.machine.Runs.{ObeysAt}
use Rattle.ymx_headline.proofs.machine.lanes.StreamFacts.{if-so_true, if-so_false}
use Rattle.ymx_headline.proofs.machine.lanes.StreamLaws.{laws-flip, laws-unflip, laws-move, laws-new, laws-accept, laws-rule}
use Rattle.ymx_headline.proofs.machine.order.Maps.{look-change, look-change_other, look-add, look-add_other, look-add_there, flipped, look-mirror}
use Rattle.ymx_headline.proofs.machine.faces.Effects.{Effect, effect}
use Rattle.ymx_headline.proofs.machine.faces.Effects.Effect.{Idles, OpensOne, AcceptsOne, TouchesOne}
use Rattle.ymx_headline.proofs.machine.order.Cores.{Core, core, core-unmoved, core-ends, kept-moves, kept-releases, Sound, sound-effect, sound-move, sound-mirror, sound-unmirror, sound-new, offered-front, offered-stream}

pub record Lawful (mine yours : ℕ) (c : Core) : Type 0 where
  pub sound : Sound mine yours c
  pub at : (i : ℕ) → ObeysAt mine yours (look i c.streams)

lawful-is : (mine yours : ℕ) (c d : Core) → d ≡ c → Lawful mine yours c → Lawful mine yours d
lawful-is mine yours c d e h = subst (Lawful mine yours) (sym e) h

at-is : (mine yours : ℕ) (o o' : Option Stream) → o' ≡ o → ObeysAt mine yours o → ObeysAt mine yours o'
at-is mine yours o o' e h = subst (ObeysAt mine yours) (sym e) h

-- one stream changes
at-change : (mine yours j : ℕ) (f : Stream → Stream) (s : Stream) (xs : List (ℕ × Stream)) → look j xs ≡ Some s →
    (ObeysWindows mine yours s → ObeysWindows mine yours (f s)) → ((i : ℕ) → ObeysAt mine yours (look i xs)) → (i : ℕ) → ObeysAt mine yours (look i (change j f xs))
at-change mine yours j f s xs e h at i = elim (same_or_not i j) [
  | inl d ↦ at-is mine yours _ _ (ap (λ (x : ℕ). look x (change j f xs)) d ∙ look-change j f xs s e) (h (at-is mine yours _ (Some s) (sym e) (at j)))
  | inr d ↦ at-is mine yours _ _ (look-change_other i j f xs d) (at i)
]

-- one is added
at-add : (mine yours j : ℕ) (s : Stream) (xs : List (ℕ × Stream)) → ObeysWindows mine yours s →
    ((i : ℕ) → ObeysAt mine yours (look i xs)) → (i : ℕ) (o : Option Stream) → look i xs ≡ o → ObeysAt mine yours (look i (xs ++ (j, s) ∷ []))
at-add mine yours j s xs h at i (Some t) e = at-is mine yours _ _ (look-add_there i j s t xs e ∙ sym e) (at i)
at-add mine yours j s xs h at i None e = elim (same_or_not i j) [
  | inl d ↦ at-is mine yours (Some s) _ (look-add_is d) h
  | inr d ↦ at-is mine yours _ _ (look-add_other i j s xs d) (at i)
]
  where
    look-add_is : i ≡ j → look i (xs ++ (j, s) ∷ []) ≡ Some s
    look-add_is d = subst (λ (x : ℕ). look i (xs ++ (x, s) ∷ []) ≡ Some s) d (look-add i s xs e)

pub lawful-effect : (mine yours : ℕ) (c : Call) (m : Machine) (r : Reply) (n : Machine) → first_credit ≤ mine → first_credit ≤ yours →
    Effect c m r n → Lawful mine yours (core m) → Lawful mine yours (core n)
lawful-effect mine yours c m r n a b (Idles h) k = lawful-is mine yours _ _ (core-unmoved m n h.same) k
lawful-effect mine yours c m r n a b (OpensOne bytes h) k = record {
  sound = sound-effect mine yours c m r n (OpensOne bytes h) k.sound;
  at = λ i. at-is mine yours _ _ (ap (λ (x : Machine). look i x.streams) h.now)
      (at-add mine yours m.me.next _ m.streams
      (subst (λ (w : ℕ). ObeysWindows mine yours (stream_write bytes (opened_stream w m.you.window))) (sym k.sound.window_me)
      (subst (λ (w : ℕ). ObeysWindows mine yours (stream_write bytes (opened_stream mine w))) (sym k.sound.window_you)
      (laws-new mine yours bytes a b h.fits)))
      k.at i (look i m.streams) refl);
}
lawful-effect mine yours c m r n a b (AcceptsOne id ids h) k =
    let s = offered-stream (look id m.streams) (offered-front mine yours (core m) id ids h.front k.sound) in record {
      sound = sound-effect mine yours c m r n (AcceptsOne id ids h) k.sound;
      at = λ i. at-is mine yours _ _ (ap (λ (x : Machine). look i x.streams) h.now)
          (at-change mine yours id (stream_accept m.me.lost) s.0 m.streams s.1 (laws-accept mine yours m.me.lost s.0 s.2) k.at i);
    }
lawful-effect mine yours c m r n a b (TouchesOne id sc s t h) k = record {
  sound = sound-effect mine yours c m r n (TouchesOne id sc s t h) k.sound;
  at = λ i. at-is mine yours _ _ (ap (λ (x : Machine). look i x.streams) h.now)
      (at-change mine yours id (λ _. t) s m.streams h.there (laws-rule mine yours m.me.lost sc s t r h.rule) k.at i);
}

syn-at : (mine yours id : ℕ) (counted : Bool) (m : Machine) (s : Stream) → look id m.streams ≡ Some s → s.me ≡ Unborn →
    ((machine_refuses m || counted) ≡ true) ⊎ ((machine_refuses m || counted) ≡ false) → ((i : ℕ) → ObeysAt mine yours (look i m.streams)) →
    (i : ℕ) → ObeysAt mine yours (look i (moved_by (SynArrives id counted) m).streams)
syn-at mine yours id counted m s e a (inl b) at i = rw b (at-change mine yours id (after_move SynRefused) s m.streams e (laws-move mine yours SynRefused s a) at i)
syn-at mine yours id counted m s e a (inr b) at i = rw b (at-change mine yours id (after_move SynOffered) s m.streams e (laws-move mine yours SynOffered s a) at i)

pub lawful-move : (mine yours : ℕ) (v : FreeMove) (m : Machine) → MayMove v m → Lawful mine yours (core m) → Lawful mine yours (core (moved_by v m))
lawful-move mine yours (OfStream id v) m a k = record {
  sound = sound-move mine yours (OfStream id v) m a k.sound;
  at = at-change mine yours id (after_move v) a.2.0 m.streams a.2.1 (laws-move mine yours v a.2.0 a.2.2) k.at;
}
lawful-move mine yours (SynArrives id counted) m a k = record {
  sound = sound-move mine yours (SynArrives id counted) m a k.sound;
  at = syn-at mine yours id counted m a.1.0 a.1.1 a.1.2 (when (machine_refuses m || counted)) k.at;
}
lawful-move mine yours AwayArrives m a k = k
lawful-move mine yours (PingThere number) m a k = k
lawful-move mine yours (PingBack number) m a k = k

at-flip : (mine yours : ℕ) (o : Option Stream) → ObeysAt mine yours o → ObeysAt yours mine (flipped o)
at-flip mine yours None h = tt
at-flip mine yours (Some s) h = laws-flip mine yours s h

at-unflip : (mine yours : ℕ) (o : Option Stream) → ObeysAt mine yours (flipped o) → ObeysAt yours mine o
at-unflip mine yours None h = tt
at-unflip mine yours (Some s) h = laws-unflip mine yours s h

lawful-mirror : (mine yours : ℕ) (m : Machine) → Lawful mine yours (core m) → Lawful yours mine (core (mirror_machine m))
lawful-mirror mine yours m k = record {
  sound = sound-mirror mine yours m k.sound;
  at = λ i. at-is yours mine _ _ (look-mirror i m.streams) (at-flip mine yours (look i m.streams) (k.at i));
}

lawful-unmirror : (mine yours : ℕ) (m : Machine) → Lawful mine yours (core (mirror_machine m)) → Lawful yours mine (core m)
lawful-unmirror mine yours m k = record {
  sound = sound-unmirror mine yours m k.sound;
  at = λ i. at-unflip mine yours (look i m.streams) (at-is mine yours _ _ (sym (look-mirror i m.streams)) (k.at i));
}

lawful-step_of_a : (mine yours : ℕ) (st : Step) (given : Answer) (m n : Machine) → first_credit ≤ mine → first_credit ≤ yours →
    MachineStepOfA st given m n → Lawful mine yours (core m) → Lawful mine yours (core n)
lawful-step_of_a mine yours (step.At side c) given m n a b h k =
    kept-releases (λ (x : Machine). Lawful mine yours (core x)) (lawful-move mine yours) h.2 h.1 n h.5
    (lawful-effect mine yours c m h.0 h.1 a b (effect c m h.0 h.1 h.4) k)
lawful-step_of_a mine yours (step.Emit side room) given m n a b h k =
    kept-releases (λ (x : Machine). Lawful mine yours (core x)) (lawful-move mine yours) h.1 m n h.3 k
lawful-step_of_a mine yours (step.Deliver direction count) given m n a b h k =
    lawful-unmirror yours mine n
    (kept-moves (λ (x : Machine). Lawful yours mine (core x)) (lawful-move yours mine) h.1 (mirror_machine m) h.2 (mirror_machine n) h.6 (lawful-mirror mine yours m k))
lawful-step_of_a mine yours (step.Stop direction) given m n a b h k = lawful-is mine yours _ _ (ap core h.1) k
lawful-step_of_a mine yours (step.End direction) given m n a b h k = elim (when m.outbound_stopped) [
  | inl s ↦ lawful-is mine yours _ _ (ap core (if-so_true _ _ _ s h).1 ∙ core-ends m) k
  | inr s ↦ lawful-is mine yours _ _ (ap core (if-so_false _ _ _ s h).1) k
]

pub lawful-step : (mine yours : ℕ) (st : Step) (given : Answer) (m n : Machine) → first_credit ≤ mine → first_credit ≤ yours →
    MachineStep st given m n → Lawful mine yours (core m) → Lawful mine yours (core n)
lawful-step mine yours st given m n a b h k = elim (when (is_of_a st)) [
  | inl s ↦ lawful-step_of_a mine yours st given m n a b (if-so_true _ _ _ s h) k
  | inr s ↦ lawful-unmirror yours mine n (lawful-step_of_a yours mine st given (mirror_machine m) (mirror_machine n) b a (if-so_false _ _ _ s h) (lawful-mirror mine yours m k))
]

pub lawful-run : (mine yours : ℕ) (sts : List Step) (given : List Answer) (m n : Machine) → first_credit ≤ mine → first_credit ≤ yours →
    MachineRun sts given m n → Lawful mine yours (core m) → Lawful mine yours (core n)
lawful-run mine yours [] [] m n a b h k = lawful-is mine yours _ _ (ap core h) k
lawful-run mine yours (st ∷ sts) (given ∷ more) m n a b h k = lawful-run mine yours sts more h.0 n a b h.2 (lawful-step mine yours st given m h.0 a b h.1 k)
lawful-run mine yours [] (given ∷ more) m n a b h k = absurd h
lawful-run mine yours (st ∷ sts) [] m n a b h k = absurd h

pub lawful-new : (mine first yours your_first : ℕ) → Lawful mine yours (core (new_machine mine first yours your_first))
lawful-new mine first yours your_first = record {
  sound = sound-new mine first yours your_first;
  at = λ i. tt;
}

-- every stream of every run
pub law : (mine first yours your_first : ℕ) (sts : List Step) (given : List Answer) (n : Machine) (i : ℕ) → first_credit ≤ mine → first_credit ≤ yours →
    MachineRun sts given (new_machine mine first yours your_first) n → ObeysAt mine yours (look i n.streams)
law mine first yours your_first sts given n i a b h = let k = lawful-run mine yours sts given _ n a b h (lawful-new mine first yours your_first) in k.at i

-- the same as the other side sees it
pub obeys-mirror : (mine yours i : ℕ) (m : Machine) → ObeysAt mine yours (look i m.streams) → ObeysAt yours mine (look i (mirror_machine m).streams)
obeys-mirror mine yours i m h = at-is yours mine _ _ (look-mirror i m.streams) (at-flip mine yours (look i m.streams) h)
