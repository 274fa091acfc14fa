-- Runs from two new sessions, and why there is none (this project's own).
use Rattle.std.specs.Prelude.{◌≡◌, ◌⊎◌, ◌++◌, ◌∷◌, [], None}
use Rattle.ymx_machine.specs.declared.types.Step.{Step}
use Rattle.ymx_machine.specs.declared.types.Answer.{Answer}
use Rattle.ymx_model.specs.declared.types.Config.{Config}
use Rattle.ymx_model.specs.declared.types.Role.TheVariants.{Client, Server}
use Rattle.ymx_model.specs.session.Emissions.{in_turn}
use Rattle.ymx_model.specs.world.Worlds.{World, Steps, new_world, is_quiet}
use Rattle.ymx_machine.specs.machine.Machines.{Machine, new_machine}
use Rattle.ymx_session.specs.NewSessions.{first_id, new_fault, IsNewFault}
use Rattle.ymx_world.specs.declared.played.Played.{Played}
use Rattle.ymx_world.specs.declared.played.PlayFault.{PlayFault}
use Rattle.ymx_world.specs.declared.played.PlayFault.TheVariants.{Refused, Stopped}

-- the queue machine of a client and a server that have done nothing
abbrev pub machine_of : (a b : Config) → Machine
machine_of a b = new_machine a.window (first_id Client a.first) b.window (first_id Server b.first)

-- and the world of their sessions
abbrev pub world_of : (a b : Config) → World
world_of a b = new_world a.window (first_id Client a.first) b.window (first_id Server b.first)

-- one more step was made: its answer, and whether the world is quiet after it, stand at the end
pub record IsOneMore (st : Step) (p q : Played) : Type 0 where
  pub given : Answer
  pub steps : Steps in_turn st given p.world q.world
  pub answered : q.answers.items ≡ p.answers.items ++ given ∷ []
  pub told : q.quiet.items ≡ p.quiet.items ++ is_quiet q.world ∷ []

-- nothing was done
pub record IsSamePlay (p q : Played) : Type 0 where
  pub answers : q.answers.items ≡ p.answers.items
  pub quiet : q.quiet.items ≡ p.quiet.items
  pub world : q.world ≡ p.world

-- of a run that stopped this holds
abbrev pub WhereStopped : (Played → Type 0) → PlayFault → Type 0
WhereStopped P (Refused fault) = Unit {0}
WhereStopped P (Stopped played _) = P played

-- No run was made: the client's session has this fault, or else the server's. It stopped only where both were made.
abbrev pub IsPlayFault : (a b : Config) → PlayFault → Type 0
IsPlayFault a b (Refused fault) = IsNewFault Client a fault ⊎ (new_fault Client a ≡ None) × IsNewFault Server b fault
IsPlayFault a b (Stopped played _) = (new_fault Client a ≡ None) × (new_fault Server b ≡ None)
