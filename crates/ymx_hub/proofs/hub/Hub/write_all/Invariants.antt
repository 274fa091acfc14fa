use Rattle.std.proofs.Common.{◌≡◌, ◌≤◌, length}
use Rattle.ymx_hub.specs.Books.{Books}
use Rattle.ymx_hub.proofs.Written.{Written}
use Rattle.ymx_hub.proofs.hub.Hub.write_all.Given as goal

abbrev pub invariant-loop : goal.invariant-loop
invariant-loop g l = record {
  next : (goal.iterator-loop g).can_next l.iterator' × (goal.iterator-loop g).is_finite l.iterator';
  right : l.seat.right ≡ l.initial.seat.right;
  within : l.taken ≤ length l.bytes;
  written : Books g.R.Recorder.KEEPS l.initial.seat l.seat (Written l.id l.initial.seat.number l.bytes l.taken);
}
