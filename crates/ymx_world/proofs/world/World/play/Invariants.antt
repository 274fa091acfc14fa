use Rattle.ymx_world.specs.Played.{world_of}
use Rattle.ymx_world.proofs.Plays.{IsPlayedTo}
use Rattle.ymx_world.proofs.world.World.play.Given as goal

abbrev pub invariant-loop-step : goal.invariant-loop-step
invariant-loop-step l = IsPlayedTo l.steps (world_of l.fn.config_a l.fn.config_b) l.step-index l.played
