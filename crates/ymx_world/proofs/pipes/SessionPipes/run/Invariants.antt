use Rattle.std.proofs.Common.{◌≡◌, take, vec_len}
use Rattle.ymx_model.specs.session.Emissions.{in_turn}
use Rattle.ymx_model.specs.world.Worlds.{Runs}
use Rattle.ymx_world.proofs.pipes.SessionPipes.run.Given as goal

abbrev pub invariant-loop-step : goal.invariant-loop-step
invariant-loop-step l = record {
  counted : vec_len l.answers ≡ l.step-index;
  run : Runs in_turn (take l.step-index l.steps) l.answers.items l.initial.self l.self;
}
