use Rattle.std.proofs.Common.{◌≡◌}
use Rattle.ymx_hub.proofs.hub.Hub.wait_until_due.Given as goal

abbrev pub invariant-loop : goal.invariant-loop
invariant-loop g l = record {
  next : (goal.iterator-loop g).can_next l.iterator' × (goal.iterator-loop g).is_finite l.iterator';
  same : l.seat ≡ l.initial.seat;
}
