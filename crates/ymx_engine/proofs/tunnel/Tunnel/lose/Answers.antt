use Rattle.ymx_engine.proofs.Entering.{serving_lost}
use Rattle.ymx_engine.proofs.Tending.{serving_from}
use Rattle.ymx_engine.proofs.tunnel.Tunnel.lose.Goals as goal

pub returns-clause-serves : goal.returns-clause-serves
returns-clause-serves g c = serving_from _ _ _ c.self.view_is (serving_lost _ _ c.feed_end.ensures.event c.enqueue_all.ensures.keeps c.enqueue_all.ensures.all)
