use Rattle.std.proofs.Common.{◌≡◌, length}
use Rattle.ymx_machine.specs.declared.types.Reply.TheVariants.{ReadWait}
use Rattle.ymx_hub.specs.Books.{Books, to_read}
use Rattle.ymx_hub.specs.Turns.{AreWaits}
use Rattle.ymx_hub.proofs.hub.Hub.read.Given as goal

abbrev pub invariant-loop : goal.invariant-loop
invariant-loop g l = record {
  next : (goal.iterator-loop g).can_next l.iterator' × (goal.iterator-loop g).is_finite l.iterator';
  right : l.seat.right ≡ l.initial.seat.right;
  same : l.buffer ≡ l.initial.buffer;
  waits : Books g.R.Recorder.KEEPS l.initial.seat l.seat (AreWaits l.initial.seat.number (to_read l.id (length l.initial.buffer)) ReadWait);
}
