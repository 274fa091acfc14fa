use Rattle.std.proofs.Common.{None}
use Rattle.ymx_hub.specs.Books.{Books}
use Rattle.ymx_hub.specs.Releasing.{Purges}
use Rattle.ymx_connect.specs.Turns.{FeedsFirst}
use Rattle.ymx_connect.proofs.reading.feed_all.Given as goal

abbrev pub invariant-loop : goal.invariant-loop
invariant-loop g l = record {
  next : (goal.iterator-loop g).can_next l.iterator' × (goal.iterator-loop g).is_finite l.iterator';
  fed : FeedsFirst g.R.Recorder.KEEPS l.initial.seats.0 l.seats.0 l.bytes l.at None;
  tended : Books g.R.Recorder.KEEPS l.initial.seats.1 l.seats.1 (Purges l.initial.seats.1.number);
}
