use Rattle.std.proofs.Common.{rules}
use Rattle.ymx_model.specs.declared.types.Role.TheVariants.{Client, Server}
use Rattle.ymx_session.specs.NewSessions.{first_id}
use Rattle.ymx_world.proofs.NewWorlds.{good_world, reached_new, agrees_new}
use Rattle.ymx_world.proofs.world.World.new.Goals as goal

pub invariant_of-result : goal.invariant_of-result
invariant_of-result c =
    reached_new c.args.config_a.window (first_id Client c.args.config_a.first) c.args.config_b.window (first_id Server c.args.config_b.first) c.in_ok-a.a c.in_ok-b.b c.new-pipes.result
    (good_world c.args.config_a c.args.config_b c.in_ok-a.ensures.may c.in_ok-b.ensures.may (search rules) (search rules))
    c.in_ok-a.ensures.made c.in_ok-b.ensures.made c.new-pipes.ensures

pub returns-clause-begins : goal.returns-clause-begins
returns-clause-begins c =
    agrees_new c.args.config_a.window (first_id Client c.args.config_a.first) c.args.config_b.window (first_id Server c.args.config_b.first) c.in_ok-a.a c.in_ok-b.b c.new-pipes.result
    (good_world c.args.config_a c.args.config_b c.in_ok-a.ensures.may c.in_ok-b.ensures.may (search rules) (search rules))
    c.in_ok-a.ensures.made c.in_ok-b.ensures.made c.new-pipes.ensures
