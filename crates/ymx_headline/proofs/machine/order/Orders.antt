-- Each step keeps the order of the numbers.
use Rattle.std.proofs.Common.{◌≡◌, ◌≢◌, ◌%◌, inl, inr, ℕ, None, refl, sym, ◌∙◌, ap, subst, [], ◌∷◌, List}
use Rattle.ymx_machine.specs.declared.types.Step.{Step}
use Rattle.ymx_machine.specs.declared.types.Step.TheVariants as step
use Rattle.ymx_machine.specs.declared.types.Answer.{Answer}
use Rattle.ymx_machine.specs.shared.Lists.{look}
use Rattle.ymx_machine.specs.machine.Machines.{Machine, mirror_machine, new_machine}
use Rattle.ymx_machine.specs.machine.FreeMoves.{FreeMove, MayMove, moved_by}
use Rattle.ymx_machine.specs.machine.Runs.{MachineStep, MachineStepOfA, MachineRun}
use Rattle.ymx_machine.specs.shared.Steps.{is_of_a}
use Rattle.ymx_machine.proofs.Tests.{when}
use Rattle.ymx_headline.specs.machine.Numbers.{HasOrder, HasBothParities}
use Rattle.ymx_headline.proofs.machine.lanes.StreamFacts.{if-so_true, if-so_false}
use Rattle.ymx_headline.proofs.machine.faces.Effects.{effect}
use Rattle.ymx_headline.proofs.machine.order.Cores.{Core, core, core-ends, kept-moves, kept-releases, Sound, sound-effect, sound-move, sound-mirror, sound-unmirror, sound-new}
use Rattle.ymx_headline.proofs.machine.order.Openers.{Numbered, numbered-effect, numbered-move, numbered-mirror, numbered-unmirror, free}

pub record Ordered (mine yours : ℕ) (c : Core) : Type 0 where
  pub sound : Sound mine yours c
  pub numbered : Numbered c

pub orders : (m : Machine) → HasBothParities m → HasOrder m → Ordered m.me.window m.you.window (core m)
orders m p o = record {
  sound = record { window_me = refl; window_you = refl; offered_me = o.offered_me; offered_you = o.offered_you };
  numbered = record { parity = p; once = o.once; at = o.numbered };
}

pub has-order : (mine yours : ℕ) (m : Machine) → Ordered mine yours (core m) → HasOrder m
has-order mine yours m k =
    record { once = k.numbered.once; numbered = k.numbered.at; offered_me = k.sound.offered_me; offered_you = k.sound.offered_you }

ordered-is : (mine yours : ℕ) (c d : Core) → d ≡ c → Ordered mine yours c → Ordered mine yours d
ordered-is mine yours c d e k = subst (Ordered mine yours) (sym e) k

pub ordered-move : (mine yours : ℕ) (v : FreeMove) (m : Machine) → MayMove v m → Ordered mine yours (core m) → Ordered mine yours (core (moved_by v m))
ordered-move mine yours v m a k = record { sound = sound-move mine yours v m a k.sound; numbered = numbered-move v m a k.numbered }

pub ordered-mirror : (mine yours : ℕ) (m : Machine) → Ordered mine yours (core m) → Ordered yours mine (core (mirror_machine m))
ordered-mirror mine yours m k = record { sound = sound-mirror mine yours m k.sound; numbered = numbered-mirror m k.numbered }

pub ordered-unmirror : (mine yours : ℕ) (m : Machine) → Ordered mine yours (core (mirror_machine m)) → Ordered yours mine (core m)
ordered-unmirror mine yours m k = record { sound = sound-unmirror mine yours m k.sound; numbered = numbered-unmirror m k.numbered }

ordered-step_of : (mine yours : ℕ) (st : Step) (given : Answer) (m n : Machine) → MachineStepOfA st given m n → Ordered mine yours (core m) → Ordered mine yours (core n)
ordered-step_of mine yours (step.At side c) given m n h k =
    let e = effect c m h.0 h.1 h.4 in
    kept-releases (λ (x : Machine). Ordered mine yours (core x)) (ordered-move mine yours) h.2 h.1 n h.5
    (record { sound = sound-effect mine yours c m h.0 h.1 e k.sound; numbered = numbered-effect mine yours c m h.0 h.1 e k.sound k.numbered })
ordered-step_of mine yours (step.Emit side room) given m n h k =
    kept-releases (λ (x : Machine). Ordered mine yours (core x)) (ordered-move mine yours) h.1 m n h.3 k
ordered-step_of mine yours (step.Deliver direction count) given m n h k =
    ordered-unmirror yours mine n
    (kept-moves (λ (x : Machine). Ordered yours mine (core x)) (ordered-move yours mine) h.1 (mirror_machine m) h.2 (mirror_machine n) h.6 (ordered-mirror mine yours m k))
ordered-step_of mine yours (step.Stop direction) given m n h k = ordered-is mine yours _ _ (ap core h.1) k
ordered-step_of mine yours (step.End direction) given m n h k = elim (when m.outbound_stopped) [
  | inl s ↦ ordered-is mine yours _ _ (ap core (if-so_true _ _ _ s h).1 ∙ core-ends m) k
  | inr s ↦ ordered-is mine yours _ _ (ap core (if-so_false _ _ _ s h).1) k
]

ordered-step : (mine yours : ℕ) (st : Step) (given : Answer) (m n : Machine) → MachineStep st given m n → Ordered mine yours (core m) → Ordered mine yours (core n)
ordered-step mine yours st given m n h k = elim (when (is_of_a st)) [
  | inl s ↦ ordered-step_of mine yours st given m n (if-so_true _ _ _ s h) k
  | inr s ↦ ordered-unmirror yours mine n (ordered-step_of yours mine st given (mirror_machine m) (mirror_machine n) (if-so_false _ _ _ s h) (ordered-mirror mine yours m k))
]

pub order-step : (st : Step) (given : Answer) (m n : Machine) → HasBothParities m → MachineStep st given m n → HasOrder m → HasOrder n × HasBothParities n
order-step st given m n p h o =
    let k = ordered-step m.me.window m.you.window st given m n h (orders m p o) in (has-order m.me.window m.you.window n k, k.numbered.parity)

ordered-new : (mine first yours your_first : ℕ) → first % 2 ≢ your_first % 2 → Ordered mine yours (core (new_machine mine first yours your_first))
ordered-new mine first yours your_first p = record { sound = sound-new mine first yours your_first; numbered = record { parity = p; once = tt; at = λ i. tt } }

ordered-run : (mine yours : ℕ) (sts : List Step) (given : List Answer) (m n : Machine) → MachineRun sts given m n → Ordered mine yours (core m) → Ordered mine yours (core n)
ordered-run mine yours [] [] m n h k = ordered-is mine yours _ _ (ap core h) k
ordered-run mine yours (st ∷ sts) (given ∷ more) m n h k = ordered-run mine yours sts more h.0 n h.2 (ordered-step mine yours st given m h.0 h.1 k)
ordered-run mine yours [] (given ∷ more) m n h k = absurd h
ordered-run mine yours (st ∷ sts) [] m n h k = absurd h

-- every run from a new machine
pub order-run : (mine first yours your_first : ℕ) (sts : List Step) (given : List Answer) (n : Machine) → first % 2 ≢ your_first % 2 →
    MachineRun sts given (new_machine mine first yours your_first) n → HasOrder n
order-run mine first yours your_first sts given n p h =
    has-order mine yours n (ordered-run mine yours sts given (new_machine mine first yours your_first) n h (ordered-new mine first yours your_first p))

-- the next number is unused
pub next-free : (m : Machine) → HasBothParities m → HasOrder m → look m.me.next m.streams ≡ None
next-free m p o = free (core m) (orders m p o).numbered
