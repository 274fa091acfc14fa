use Rattle.ymx_engine.proofs.Entering.{serving_new}
use Rattle.ymx_engine.proofs.tunnel.Tunnel.new.Goals as goal

pub returns-clause-serves : goal.returns-clause-serves
returns-clause-serves g c = λ within. serving_new _ within c.new-2.ensures.none
