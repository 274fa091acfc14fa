use Rattle.ymx_engine.specs.Runs.{Runs}
use Rattle.ymx_loop.proofs.session.SessionLoop.accept_users.Given as goal

abbrev pub invariant-accept : goal.invariant-accept
invariant-accept g l = Runs l.initial.self.tunnel l.self.tunnel
