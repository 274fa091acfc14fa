-- Runs of the queue machine beside the steps of a world (this project's own).
use Rattle.std.specs.Prelude.{ℕ, if◌then◌else◌, ◌≡◌, ◌∷◌, Bool, true, false, List, min, [], All, MatchBool}
use Rattle.ymx_machine.specs.shared.Limits.{greatest_number}
use Rattle.ymx_machine.specs.declared.types.Why.{Why}
use Rattle.ymx_machine.specs.machine.Machines.{SideState, Machine, mirror_machine, PingPlace}
use Rattle.ymx_machine.specs.declared.types.Fed.{Fed}
use Rattle.ymx_machine.specs.declared.types.Step.{Step}
use Rattle.ymx_machine.specs.declared.types.Answer.{Answer}
use Rattle.ymx_machine.specs.shared.Events.{Reply}
use Rattle.ymx_machine.specs.shared.Steps.{answer_of, is_of_a}
use Rattle.ymx_machine.specs.machine.CallRules.{Rule}
use Rattle.ymx_machine.specs.machine.FreeMoves.{FreeMove, FreeMoves, Releases}
use Rattle.ymx_machine.specs.machine.Machines.PingPlace.{Asked, There, Back}
use Rattle.ymx_machine.specs.stream.Lanes.{is_said}
use Rattle.ymx_machine.specs.stream.Streams.{IsStill}
use Rattle.ymx_machine.specs.declared.types.Why.TheVariants as why
use Rattle.ymx_machine.specs.declared.types.Step.TheVariants as step
use Rattle.ymx_machine.specs.declared.types.Answer.TheVariants as answer

abbrev pub why_is_broken : Why → Bool
why_is_broken why.All = false
why_is_broken why.Held = false
why_is_broken (why.Broken fault) = true

-- the input of a side has ended, which a closed side doesn't hear
abbrev pub side_input_ends : SideState → SideState
side_input_ends side = if side.closed then side else record side { lost = true }

-- A step at side A, or in the direction away from A. A call goes by its rule, and an emission is no move
-- at all, but that records given up may go. A delivery makes moves into its receiver, which never finds
-- a fault.
abbrev pub MachineStepOfA : Step → Answer → Machine → Machine → Type 0
MachineStepOfA (step.At side c) given m n =
    (told : Reply) × (mid : Machine) × (ids : List ℕ) × (given ≡ answer_of told) × Rule c m told mid × Releases ids mid n
MachineStepOfA (step.Emit side room) given m n =
    (count : ℕ) × (ids : List ℕ) × (given ≡ answer.Emitted count) × Releases ids m n
MachineStepOfA (step.Deliver direction count) given m n =
    (fed : Fed) × (moves : List FreeMove) × (counted : ℕ) × (given ≡ answer.Fed fed) × (why_is_broken fed.why ≡ false)
    × (fed.no_memory ≡ min counted greatest_number) × FreeMoves moves (mirror_machine m) counted (mirror_machine n)
MachineStepOfA (step.Stop direction) given m n = (given ≡ answer.Done) × (n ≡ record m { outbound_stopped = true })
MachineStepOfA (step.End direction) given m n =
    MatchBool m.outbound_stopped ((given ≡ answer.Done) × (n ≡ record m { you = side_input_ends m.you })) ((given ≡ answer.NotStopped) × (n ≡ m))

-- A step of the machine, which is seen as A sees it.
abbrev pub MachineStep : Step → Answer → Machine → Machine → Type 0
MachineStep st given m n = MatchBool (is_of_a st) (MachineStepOfA st given m n) (MachineStepOfA st given (mirror_machine m) (mirror_machine n))

-- a run: one machine step for each world step
abbrev pub MachineRun : List Step → List Answer → Machine → Machine → Type 0
MachineRun [] [] m n = n ≡ m
MachineRun (st ∷ sts) (given ∷ more) m n = (mid : Machine) × MachineStep st given m mid × MachineRun sts more mid n
MachineRun [] (given ∷ more) m n = ⊥
MachineRun (st ∷ sts) [] m n = ⊥

-- ---- still

abbrev pub place_is_back : PingPlace → Bool
place_is_back Asked = false
place_is_back There = false
place_is_back Back = true

-- nothing is under way: no stream is unstill, no go away is under way, and each ping is back
pub record IsStillMachine (m : Machine) : Type 0 where
  pub streams : All (λ p. IsStill m.me.window m.you.window p.1) m.streams
  pub away_me : is_said m.me.away ≡ false
  pub away_you : is_said m.you.away ≡ false
  pub pings_me : All (λ p. place_is_back p.1 ≡ true) m.me.pings
  pub pings_you : All (λ p. place_is_back p.1 ≡ true) m.you.pings
