-- Over whole runs: the law of a lane, and where a run is still (this project's own).
use Rattle.std.specs.Prelude.{ℕ, ◌≡◌, List, [], ◌∷◌, Bool, true, false, Option, None, Some}
use Rattle.ymx_machine.specs.declared.types.Step.{Step}
use Rattle.ymx_machine.specs.declared.types.Answer.{Answer}
use Rattle.ymx_machine.specs.stream.Streams.{Stream}
use Rattle.ymx_machine.specs.machine.Machines.{Machine}
use Rattle.ymx_machine.specs.machine.Runs.{MachineStep, IsStillMachine}
use Rattle.ymx_headline.specs.machine.LaneLaws.{ObeysWindows}

-- ---- the law of a lane

-- the stream of a number obeys the windows, if there is one
abbrev pub ObeysAt : (window_a window_b : ℕ) → Option Stream → Type 0
ObeysAt window_a window_b None = Unit {0}
ObeysAt window_a window_b (Some s) = ObeysWindows window_a window_b s

-- ---- a run that tells when it is still

-- neither side was closed, and the input of neither has ended
pub record IsOpenMachine (m : Machine) : Type 0 where
  pub me_open : m.me.closed ≡ false
  pub you_open : m.you.closed ≡ false
  pub me_hears : m.me.lost ≡ false
  pub you_hears : m.you.lost ≡ false

-- A run of the machine with these answers, which is still and open after each step of which the third list says true.
abbrev pub StillRun : List Step → List Answer → List Bool → Machine → Machine → Type 0
StillRun [] [] [] m n = n ≡ m
StillRun (st ∷ sts) (given ∷ more) (still ∷ rest) m n =
    (mid : Machine) × MachineStep st given m mid × (still ≡ true → IsStillMachine mid × IsOpenMachine mid) × StillRun sts more rest mid n
StillRun _ _ _ m n = ⊥
