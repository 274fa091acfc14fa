use Rattle.std.proofs.Common.{◌≡◌}
use Rattle.ymx_hub.specs.Books.{Books}
use Rattle.ymx_hub.specs.Releasing.{AreReads, SpentAlike, OthersStay}
use Rattle.ymx_hub.proofs.booked.Booked.read_up.Given as goal

abbrev pub invariant-loop : goal.invariant-loop
invariant-loop g l = record {
  next : (goal.iterator-loop g).can_next l.iterator' × (goal.iterator-loop g).is_finite l.iterator';
  right : l.seat.right ≡ l.initial.seat.right;
  released : l.self.released ≡ l.initial.self.released;
  reads : Books g.R.Recorder.KEEPS l.initial.seat l.seat (AreReads l.id l.initial.seat.number);
  halves : SpentAlike l.initial.self l.self;
  others : OthersStay l.id l.initial.self.session l.self.session;
}
