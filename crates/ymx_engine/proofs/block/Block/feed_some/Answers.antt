use Rattle.ymx_engine.proofs.Advancing.{feeds_first, takes_within}
use Rattle.ymx_engine.proofs.Feeding.{feeds_few, some_first, stops_first}
use Rattle.ymx_engine.proofs.block.Block.feed_some.Goals as goal

pub drop_front-requires : goal.drop_front-requires
drop_front-requires c = takes_within _ _ _ _ (feeds_first _ _ _ _ _ _ _ c.waiting-waiting.ensures c.min.ensures c.feed_touching-fed.ensures.event)

pub returns-clause-fed : goal.returns-clause-fed
returns-clause-fed c = feeds_first _ _ _ _ _ _ _ c.waiting-waiting.ensures c.min.ensures c.feed_touching-fed.ensures.event

pub returns-clause-few : goal.returns-clause-few
returns-clause-few c = feeds_few _ _ _ _ _ _ _ c.waiting-waiting.ensures c.min.ensures c.feed_touching-fed.ensures.event

pub returns-clause-some : goal.returns-clause-some
returns-clause-some c = some_first _ _ _ _ _ _ _ c.waiting-waiting.ensures c.min.ensures c.feed_touching-fed.ensures.event

pub returns-clause-stops : goal.returns-clause-stops
returns-clause-stops c = stops_first _ _ _ _ _ _ _ c.waiting-waiting.ensures c.min.ensures c.feed_touching-fed.ensures.event
