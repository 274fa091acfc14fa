use Rattle.ymx_connect.proofs.Feeds.{fed_whole, fed_held, fed_broken}
use Rattle.ymx_connect.proofs.reading.feed_turn.Goals as goal

pub returns-in-Ok-purged-clause-fed : goal.returns-in-Ok-purged-clause-fed
returns-in-Ok-purged-clause-fed g c = fed_whole g.R.Recorder.KEEPS c.args.seats.now.0 c.feed_and_purge.new.seat c.args.bytes.now c.in-Ok.done c.in-All.is c.in-Ok.ensures.within c.in-Ok.ensures.booked

pub returns-in-Err-purged-clause-fed : goal.returns-in-Err-purged-clause-fed
returns-in-Err-purged-clause-fed g c =
    rw c.behind_bytes.ensures (tt, fed_whole g.R.Recorder.KEEPS c.args.seats.now.0 c.feed_and_purge.new.seat c.args.bytes.now c.in-Ok.done c.in-All.is c.in-Ok.ensures.within c.in-Ok.ensures.booked)

pub returns-in-Broken-clause-fed : goal.returns-in-Broken-clause-fed
returns-in-Broken-clause-fed g c =
    rw c.behind_bytes-in-Broken.ensures (tt, fed_broken g.R.Recorder.KEEPS c.args.seats.now.0 c.feed_and_purge.new.seat c.args.bytes.now c.in-Ok.done c.in-Broken.fault c.in-Broken.is c.in-Ok.ensures.within c.in-Ok.ensures.booked)

pub returns-then-not-before_wait-clause-fed : goal.returns-then-not-before_wait-clause-fed
returns-then-not-before_wait-clause-fed g c =
    rw c.behind_bytes-then-not-before_wait.ensures (tt, fed_held g.R.Recorder.KEEPS c.args.seats.now.0 c.feed_and_purge.new.seat c.args.bytes.now c.in-Ok.done c.in-Held.is c.in-Ok.ensures.within c.in-Ok.ensures.booked)

pub returns-else-not-before_wait-clause-fed : goal.returns-else-not-before_wait-clause-fed
returns-else-not-before_wait-clause-fed g c = fed_held g.R.Recorder.KEEPS c.args.seats.now.0 c.feed_and_purge.new.seat c.args.bytes.now c.in-Ok.done c.in-Held.is c.in-Ok.ensures.within c.in-Ok.ensures.booked

pub returns-in-Err-purged-2-clause-fed : goal.returns-in-Err-purged-2-clause-fed
returns-in-Err-purged-2-clause-fed g c =
    rw c.behind_bytes-in-Err-purged-2.ensures (tt, fed_held g.R.Recorder.KEEPS c.args.seats.now.0 c.feed_and_purge.new.seat c.args.bytes.now c.in-Ok.done c.in-Held.is c.in-Ok.ensures.within c.in-Ok.ensures.booked)
