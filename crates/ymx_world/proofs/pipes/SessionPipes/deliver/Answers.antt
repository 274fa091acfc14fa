use Rattle.ymx_world.proofs.Acts.{delivers_ab, delivers_ba}
use Rattle.ymx_world.proofs.pipes.SessionPipes.deliver.Goals as goal

pub returns-in-AB : goal.returns-in-AB
returns-in-AB c =
    delivers_ab c.args.direction c.args.count c.deliver_to.result _ _ _ _ _ _ c.args.self.now c.in-AB.is c.self.view_is c.deliver_to.ensures

pub returns-in-BA : goal.returns-in-BA
returns-in-BA c =
    delivers_ba c.args.direction c.args.count c.deliver_to-in-BA.result _ _ _ _ _ _ c.args.self.now c.in-BA.is c.self.view_is c.deliver_to-in-BA.ensures
