use Rattle.std.proofs.Common.{None, arith}
use Rattle.std.proofs.lemmas.Grind.{common_steps}
use Rattle.ymx_hub.proofs.Released.{purges_none, purges_more}
use Rattle.ymx_connect.proofs.Feeds.{first_none, first_on, all_on, stop_on}
use Rattle.ymx_connect.proofs.reading.feed_all.Goals as goal

pub loop-init : goal.loop-init
loop-init g c = record { next = (tt, tt); fed = first_none g.R.Recorder.KEEPS c.args.seats.now.0 c.args.bytes.now; tended = purges_none g.R.Recorder.KEEPS _ }

pub loop-preserved : goal.loop-preserved
loop-preserved g c = record {
  next = (tt, tt);
  fed = first_on g.R.Recorder.KEEPS c.args.seats.now.0 c.loop.seats.0 c.feed_turn.new.seats.0 c.args.bytes.now _ c.loop.at c.in-Ok.taken None c.loop.invariant.fed (grind (arith, common_steps)) c.in-Ok.ensures.fed;
  tended = purges_more g.R.Recorder.KEEPS _ _ _ c.loop.invariant.tended c.feed_turn.ensures.tended;
}

pub returns-in-Err-clause-fed : goal.returns-in-Err-clause-fed
returns-in-Err-clause-fed g c =
    stop_on g.R.Recorder.KEEPS c.args.seats.now.0 c.loop.seats.0 c.feed_turn.new.seats.0 c.args.bytes.now _ c.loop.at c.in-Err.stop c.loop.invariant.fed (grind (arith, common_steps)) c.in-Err.ensures.fed

pub returns-in-Err-clause-tended : goal.returns-in-Err-clause-tended
returns-in-Err-clause-tended g c = purges_more g.R.Recorder.KEEPS _ _ _ c.loop.invariant.tended c.feed_turn.ensures.tended

pub returns-then-at-bytes-clause-fed : goal.returns-then-at-bytes-clause-fed
returns-then-at-bytes-clause-fed g c =
    all_on g.R.Recorder.KEEPS c.args.seats.now.0 c.loop.seats.0 c.feed_turn.new.seats.0 c.args.bytes.now _ c.loop.at c.in-Ok.taken c.loop.invariant.fed (grind (arith, common_steps)) c.in-Ok.ensures.fed (omega (arith, c.if-at-bytes.true))

pub returns-then-at-bytes-clause-tended : goal.returns-then-at-bytes-clause-tended
returns-then-at-bytes-clause-tended g c = purges_more g.R.Recorder.KEEPS _ _ _ c.loop.invariant.tended c.feed_turn.ensures.tended
