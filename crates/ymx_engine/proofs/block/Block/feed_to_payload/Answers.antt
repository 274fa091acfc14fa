use Rattle.std.proofs.Common.{ap, length, arith}
use Rattle.ymx_engine.proofs.Feeding.{feeds_front, front_takes, front_stops}
use Rattle.ymx_engine.proofs.block.Block.feed_to_payload.Goals as goal

pub drop_front-requires : goal.drop_front-requires
drop_front-requires c =
    let few = (front_takes _ _ _ _ _ _ c.min.ensures c.feed_to_payload-fed.ensures.event).1 in
    let same = ap length c.waiting-waiting.ensures in
    omega (arith, few, same)

pub returns-clause-fed : goal.returns-clause-fed
returns-clause-fed c = feeds_front _ _ _ _ _ _ _ c.waiting-waiting.ensures c.min.ensures c.feed_to_payload-fed.ensures.event

pub returns-clause-few : goal.returns-clause-few
returns-clause-few c = (front_takes _ _ _ _ _ _ c.min.ensures c.feed_to_payload-fed.ensures.event).0

pub returns-clause-stops : goal.returns-clause-stops
returns-clause-stops c = λ fewer less. c.feed_to_payload-fed.ensures.stops (front_stops _ _ _ _ _ c.waiting-waiting.ensures c.min.ensures fewer less)
