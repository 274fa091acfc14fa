use Rattle.std.specs.Prelude.{◌≤◌, ◌+◌, ℕ}
use Rattle.ymx_engine.specs.Runs.{Runs}
use Rattle.ymx_loop.specs.Loops.{WaitsInNeed, WorksTimes}
use Rattle.ymx_loop.proofs.session.SessionLoop.run.Given as goal

abbrev pub invariant-loop : goal.invariant-loop
invariant-loop g l = record {
  next : (goal.iterator-loop g).can_next l.iterator' × (goal.iterator-loop g).is_finite l.iterator';
  runs : Runs l.fn.self.tunnel l.self.tunnel;
  rounds : (n : ℕ) × WorksTimes n l.fn.self.tunnel l.self.tunnel × (l.poll.looks ≤ l.fn.poll.looks + n);
  waits : WaitsInNeed l.fn.self.tunnel l.self.tunnel l.fn.poll.waits l.poll.waits;
}
