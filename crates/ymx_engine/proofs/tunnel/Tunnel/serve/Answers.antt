use Rattle.std.proofs.Common.{ap}
use Rattle.ymx_engine.specs.Tunnels.{Tunnel}
use Rattle.ymx_engine.proofs.Partaking.{has_its_turn, others_turn, serving_turned}
use Rattle.ymx_engine.proofs.tunnel.Tunnel.serve.Goals as goal

pub returns-clause-served : goal.returns-clause-served
returns-clause-served g c = λ was there. has_its_turn c.args.id c.serve.result c.share-most.result was _ _ _ c.self.view_is c.share-most.ensures.share c.serve.ensures.served there

pub returns-clause-others : goal.returns-clause-others
returns-clause-others g c = others_turn c.args.id c.serve.result c.share-most.result _ _ _ _ _ _ _ (ap (λ (t : Tunnel). t.connections) c.self.view_is) c.serve.ensures.served c.serve.ensures.none

pub returns-clause-serves : goal.returns-clause-serves
returns-clause-serves g c = serving_turned c.args.id c.serve.result c.share-most.result _ _ _ c.self.view_is c.serve.ensures.served c.serve.ensures.none
