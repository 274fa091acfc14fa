-- What drives a world until it is quiet: emissions and deliveries alone, each of which carries bytes (this project's own).
use Rattle.std.specs.Prelude.{◌≡◌, ◌<◌, ◌&&◌, ℕ, List, length, min, sum_by, All, Bool, true, false, not}
use Rattle.ymx_machine.specs.declared.types.Step.{Step}
use Rattle.ymx_machine.specs.declared.types.Step.TheVariants as step
use Rattle.ymx_machine.specs.declared.types.Answer.{Answer}
use Rattle.ymx_machine.specs.declared.types.Answer.TheVariants as answer
use Rattle.ymx_machine.specs.shared.Limits.{greatest_number}
use Rattle.ymx_model.specs.session.Sessions.{is_running}
use Rattle.ymx_model.specs.session.Emissions.{in_turn, is_ready}
use Rattle.ymx_model.specs.world.Worlds.{World, Pipe, Runs}
use Rattle.ymx_machine.specs.machine.Machines.{Machine}
use Rattle.ymx_headline.specs.Agrees.{Agrees}
use Rattle.ymx_headline.specs.Laws.{HasRun, IsOpenWorld, is_carriage}
use Rattle.ymx_world.specs.Acts.{session_of, pipe_of}
use Rattle.ymx_world.specs.Bounds.{IsBoundedRun}
use Rattle.ymx_world.specs.Progress.{receiver_of}

-- whether a pipe wasn't stopped, and its end wasn't told
abbrev pub is_open_pipe : Pipe → Bool
is_open_pipe p = not p.stopped && not p.ended

-- whether nothing was stopped, ended, closed or broken
abbrev pub is_open_world : World → Bool
is_open_world w = is_running w.a.status && is_running w.b.status && is_open_pipe w.ab && is_open_pipe w.ba

-- An emission with room at a side where something is due; or a delivery of some bytes of a pipe that isn't empty,
-- to a side where nothing is due.
abbrev pub IsDueCarriage : Step → World → Type 0
IsDueCarriage (step.Emit side room) w = (0 < room) × (is_ready (session_of side w) ≡ true)
IsDueCarriage (step.Deliver direction n) w = (0 < n) × (0 < length (pipe_of direction w).bytes) × (is_ready (receiver_of direction w) ≡ false)
IsDueCarriage _ w = ⊥

-- how many streams a step refused for lack of memory, as its answer says: only a delivery refuses any
abbrev pub no_memory_of : Answer → ℕ
no_memory_of (answer.Fed fed) = fed.no_memory
no_memory_of _ = 0

-- how many these steps refused together
abbrev pub no_memory_in : List Answer → ℕ
no_memory_in answers = sum_by no_memory_of answers

-- Some emissions and deliveries, and nothing else, led from w to v, and so many streams were refused on the way for want
-- of memory; the greatest number counts those beyond it too. From an open world they lead to an open one, and feed wholly
-- at most twice as many frames as its load. Each queue machine that agreed with w has a run beside them.
pub record IsCarriedOn (no_memory : ℕ) (w v : World) : Type 0 where
  pub steps : List Step
  pub answers : List Answer
  pub alone : All (λ st. is_carriage st ≡ true) steps
  pub runs : Runs in_turn steps answers w v
  pub counted : no_memory ≡ min (no_memory_in answers) greatest_number
  pub on : IsOpenWorld w → IsOpenWorld v
  pub bounded : IsOpenWorld w → IsBoundedRun steps answers w v
  pub queues : (m : Machine) → Agrees w m → HasRun in_turn steps answers w v m
