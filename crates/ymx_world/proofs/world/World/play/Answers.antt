use Rattle.std.proofs.Common.{length, take, rules}
use Rattle.ymx_world.specs.Played.{world_of}
use Rattle.ymx_world.proofs.Plays.{IsTopRun, played_on, stopped_run, finished_run}
use Rattle.ymx_world.proofs.world.World.play.Goals as goal

pub loop-step-preserved : goal.loop-step-preserved
loop-step-preserved c =
    played_on c.args.steps.now (world_of c.args.config_a c.args.config_b) c.loop-step.step-index c.step-item.result c.loop-step.played c.play_step.new.self c.loop-step-test.true c.step-item.is c.loop-step.invariant c.in-Ok-play_step.ensures.made

so_far : (c : goal.In-Err-play_step) → IsTopRun c.args.config_a c.args.config_b (take (length c.play_step.new.self.answers.items) c.args.steps.now) c.play_step.new.self.answers.items c.play_step.new.self.quiet.items
so_far c =
    stopped_run c.args.config_a c.args.config_b c.in-Ok.ensures.may_a c.in-Ok.ensures.may_b (search rules) (search rules)
    c.args.steps.now c.loop-step.step-index c.loop-step.played c.play_step.new.self c.loop-step.invariant (search rules)

all : (c : goal.After-loop-step) → IsTopRun c.args.config_a c.args.config_b c.args.steps.now c.loop-step.played.answers.items c.loop-step.played.quiet.items
all c =
    finished_run c.args.config_a c.args.config_b c.in-Ok.ensures.may_a c.in-Ok.ensures.may_b (search rules) (search rules)
    c.args.steps.now c.loop-step.step-index c.loop-step.played c.loop-step-test.false c.loop-step.invariant

pub returns-in-Err-play_step-clause-face_so_far : goal.returns-in-Err-play_step-clause-face_so_far
returns-in-Err-play_step-clause-face_so_far c = (so_far c).face

pub returns-clause-face : goal.returns-clause-face
returns-clause-face c = (all c).face

pub returns-in-Err-play_step-clause-arrives_so_far : goal.returns-in-Err-play_step-clause-arrives_so_far
returns-in-Err-play_step-clause-arrives_so_far c = (so_far c).arrives

pub returns-clause-arrives : goal.returns-clause-arrives
returns-clause-arrives c = (all c).arrives

pub returns-in-Err-play_step-clause-accepts_so_far : goal.returns-in-Err-play_step-clause-accepts_so_far
returns-in-Err-play_step-clause-accepts_so_far c = (so_far c).accepts

pub returns-clause-accepts : goal.returns-clause-accepts
returns-clause-accepts c = (all c).accepts

pub returns-in-Err-play_step-clause-offers_so_far : goal.returns-in-Err-play_step-clause-offers_so_far
returns-in-Err-play_step-clause-offers_so_far c = (so_far c).offers

pub returns-clause-offers : goal.returns-clause-offers
returns-clause-offers c = (all c).offers

pub returns-in-Err-play_step-clause-writes_so_far : goal.returns-in-Err-play_step-clause-writes_so_far
returns-in-Err-play_step-clause-writes_so_far c = (so_far c).writes

pub returns-clause-writes : goal.returns-clause-writes
returns-clause-writes c = (all c).writes

pub returns-in-Err-play_step-clause-windows_so_far : goal.returns-in-Err-play_step-clause-windows_so_far
returns-in-Err-play_step-clause-windows_so_far c = (so_far c).windows

pub returns-clause-windows : goal.returns-clause-windows
returns-clause-windows c = (all c).windows

pub returns-in-Err-play_step-clause-queues_so_far : goal.returns-in-Err-play_step-clause-queues_so_far
returns-in-Err-play_step-clause-queues_so_far c = (so_far c).queues

pub returns-clause-queues : goal.returns-clause-queues
returns-clause-queues c = (all c).queues
