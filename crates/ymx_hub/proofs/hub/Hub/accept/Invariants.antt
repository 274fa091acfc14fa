use Rattle.std.proofs.Common.{None}
use Rattle.ymx_machine.specs.declared.types.Reply.TheVariants.{Accepted}
use Rattle.ymx_hub.specs.Books.{Books, to_accept}
use Rattle.ymx_hub.specs.Turns.{AreWaits}
use Rattle.ymx_hub.proofs.hub.Hub.accept.Given as goal

abbrev pub invariant-loop : goal.invariant-loop
invariant-loop g l = record {
  next : (goal.iterator-loop g).can_next l.iterator' × (goal.iterator-loop g).is_finite l.iterator';
  waits : Books g.R.Recorder.KEEPS l.initial.seat l.seat (AreWaits l.initial.seat.number to_accept (Accepted None));
}
