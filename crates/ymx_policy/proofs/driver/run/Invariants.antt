use Rattle.ymx_policy.specs.Past.{HasCome}
use Rattle.ymx_policy.proofs.driver.run.Given as goal

-- so far it has come to where its state says, by its commands
abbrev pub invariant-loop : goal.invariant-loop
invariant-loop g l = record {
  next : (goal.iterator-loop g).can_next l.iterator' × (goal.iterator-loop g).is_finite l.iterator';
  came : HasCome l.fn.terms l.state (g.W.World.log l.fn.world) (g.W.World.log l.world);
}
