use Rattle.std.proofs.Common.{◌≡◌, length}
use Rattle.ymx_hub.specs.Books.{Books}
use Rattle.ymx_hub.specs.Releasing.{Purges}
use Rattle.ymx_connect.proofs.Feeds.{AllFed}
use Rattle.ymx_connect.proofs.reading.read_on.Given as goal

abbrev pub invariant-loop : goal.invariant-loop
invariant-loop g l = record {
  next : (goal.iterator-loop g).can_next l.iterator' × (goal.iterator-loop g).is_finite l.iterator';
  room : length l.buffer ≡ length l.initial.buffer;
  fed : AllFed g.R.Recorder.KEEPS (g.I.Inlet.failures l.initial.device) (g.I.Inlet.failures l.device) (g.I.Inlet.remaining l.initial.device) (g.I.Inlet.remaining l.device) l.initial.seats.0 l.seats.0 l.count;
  tended : Books g.R.Recorder.KEEPS l.initial.seats.1 l.seats.1 (Purges l.initial.seats.1.number);
}
