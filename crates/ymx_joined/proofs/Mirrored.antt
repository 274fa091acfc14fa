-- A run of the machine as the other side sees it.
use Rattle.std.proofs.Common.{◌≡◌, List, [], ◌∷◌, ◌++◌, map, refl, sym, ap, subst, ◌∙◌}
use Rattle.ymx_machine.specs.declared.types.Side.TheVariants.{A, B}
use Rattle.ymx_machine.specs.declared.types.Direction.TheVariants.{AB, BA}
use Rattle.ymx_machine.specs.declared.types.Step.{Step}
use Rattle.ymx_machine.specs.declared.types.Step.TheVariants as step
use Rattle.ymx_machine.specs.declared.types.Answer.{Answer}
use Rattle.ymx_machine.specs.shared.Events.{Call}
use Rattle.ymx_machine.specs.machine.Machines.{Machine, mirror_machine}
use Rattle.ymx_machine.specs.machine.Runs.{MachineStep, MachineStepOfA, MachineRun}
use Rattle.ymx_joined.proofs.Machines.{mirror-mirror}
use Rattle.ymx_joined.proofs.Traces.{call_by, calls_at}

-- the same step of the other side
abbrev pub turned : Step → Step
turned (step.At A c) = step.At B c
turned (step.At B c) = step.At A c
turned (step.Emit A n) = step.Emit B n
turned (step.Emit B n) = step.Emit A n
turned (step.Deliver AB n) = step.Deliver BA n
turned (step.Deliver BA n) = step.Deliver AB n
turned (step.Stop AB) = step.Stop BA
turned (step.Stop BA) = step.Stop AB
turned (step.End AB) = step.End BA
turned (step.End BA) = step.End AB

-- seen from the other side and back
there_and_back : (R : Machine → Machine → Type 0) (m n : Machine) → R m n → R (mirror_machine (mirror_machine m)) (mirror_machine (mirror_machine n))
there_and_back R m n h =
    subst (λ (v : Machine). R v (mirror_machine (mirror_machine n))) (sym (mirror-mirror m)) (subst (λ (v : Machine). R m v) (sym (mirror-mirror n)) h)

turned_step : (st : Step) (g : Answer) (m n : Machine) → MachineStep st g m n → MachineStep (turned st) g (mirror_machine m) (mirror_machine n)
turned_step (step.At A c) g m n h = there_and_back (λ v w. MachineStepOfA (step.At A c) g v w) m n h
turned_step (step.At B c) g m n h = h
turned_step (step.Emit A room) g m n h = there_and_back (λ v w. MachineStepOfA (step.Emit A room) g v w) m n h
turned_step (step.Emit B room) g m n h = h
turned_step (step.Deliver AB count) g m n h = there_and_back (λ v w. MachineStepOfA (step.Deliver AB count) g v w) m n h
turned_step (step.Deliver BA count) g m n h = h
turned_step (step.Stop AB) g m n h = there_and_back (λ v w. MachineStepOfA (step.Stop AB) g v w) m n h
turned_step (step.Stop BA) g m n h = h
turned_step (step.End AB) g m n h = there_and_back (λ v w. MachineStepOfA (step.End AB) g v w) m n h
turned_step (step.End BA) g m n h = h

-- A run is one of the mirrored machine, over the mirrored steps.
pub turned_run : (sts : List Step) (gs : List Answer) (m n : Machine) → MachineRun sts gs m n → MachineRun (map turned sts) gs (mirror_machine m) (mirror_machine n)
turned_run [] [] m n h = ap mirror_machine h
turned_run (st ∷ sts) (g ∷ gs) m n h = (mirror_machine h.0, turned_step st g m h.0 h.1, turned_run sts gs h.0 n h.2)
turned_run [] (g ∷ gs) m n h = absurd h
turned_run (st ∷ sts) [] m n h = absurd h

turned_call : (st : Step) (g : Answer) → call_by B st g ≡ call_by A (turned st) g
turned_call (step.At A c) g = refl
turned_call (step.At B c) g = refl
turned_call (step.Emit A room) g = refl
turned_call (step.Emit B room) g = refl
turned_call (step.Deliver AB count) g = refl
turned_call (step.Deliver BA count) g = refl
turned_call (step.Stop AB) g = refl
turned_call (step.Stop BA) g = refl
turned_call (step.End AB) g = refl
turned_call (step.End BA) g = refl

-- B's calls are A's calls there.
pub turned_calls : (sts : List Step) (gs : List Answer) → calls_at B sts gs ≡ calls_at A (map turned sts) gs
turned_calls [] gs = refl
turned_calls (st ∷ sts) [] = refl
turned_calls (st ∷ sts) (g ∷ gs) =
    ap (λ (v : List (Call × Answer)). v ++ calls_at B sts gs) (turned_call st g) ∙ ap (λ (v : List (Call × Answer)). call_by A (turned st) g ++ v) (turned_calls sts gs)
