use Rattle.ymx_engine.specs.Runs.{Runs}
use Rattle.ymx_loop.proofs.session.SessionLoop.accept_streams.Given as goal

abbrev pub invariant-offered : goal.invariant-offered
invariant-offered g l = Runs l.initial.self.tunnel l.self.tunnel
