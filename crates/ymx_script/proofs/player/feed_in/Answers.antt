use Rattle.ymx_script.proofs.Feeds.{found_none, found_some}
use Rattle.ymx_script.proofs.player.feed_in.Goals as goal

pub returns-in-Some : goal.returns-in-Some
returns-in-Some c = found_some c.args.bytes.now c.first_feed.result c.in-Some.position c.first_feed.ensures c.in-Some.is

pub returns-in-None : goal.returns-in-None
returns-in-None c = found_none c.args.bytes.now c.first_feed.result c.first_feed.ensures c.in-None.is
