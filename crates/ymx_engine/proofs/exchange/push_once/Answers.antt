use Rattle.ymx_engine.proofs.Parts.{pushed_some, pushed_none, pushed_failed}
use Rattle.ymx_engine.proofs.exchange.push_once.Goals as goal

pub returns-in-Took-clause-delivered : goal.returns-in-Took-clause-delivered
returns-in-Took-clause-delivered g c = pushed_some _ c.in-Took.ensures c.unread_slices.ensures.all c.take_out_announcing.ensures.took

pub returns-in-NotNow-clause-delivered : goal.returns-in-NotNow-clause-delivered
returns-in-NotNow-clause-delivered g c = pushed_none c.in-NotNow.ensures

pub returns-in-Failed-clause-delivered : goal.returns-in-Failed-clause-delivered
returns-in-Failed-clause-delivered g c = let h = c.reset_and_shut.ensures.reset in pushed_failed h.0 c.in-Failed.ensures h.1 c.reset_and_shut.ensures.shut c.reset_and_shut.ensures.broken
