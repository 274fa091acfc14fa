use Rattle.std.proofs.Common.{ap, ◌∙◌, arith}
use Rattle.std.proofs.lemmas.Grind.{common_steps}
use Rattle.ymx_model.specs.world.Worlds.{Pipe, without_front}
use Rattle.ymx_world.proofs.Orders.{taken_at}
use Rattle.ymx_world.proofs.pipe.Pipe.take_front.Goals as goal

pub returns-clause-taken : goal.returns-clause-taken
returns-clause-taken c = λ _. (grind (arith, common_steps), grind (arith, common_steps), grind (arith, common_steps), taken_at c.self.inside.bytes.items c.self.inside.delivered c.args.count c.self.inside.stopped c.self.inside.ended ∙ ap (λ (p : Pipe). without_front c.args.count p) c.self.view_is)
