use Rattle.std.specs.Prelude.{◌≡◌, false}
use Rattle.ymx_engine.specs.Runs.{Runs}
use Rattle.ymx_model.specs.session.Sessions.{is_running}
use Rattle.ymx_loop.proofs.session.SessionLoop.leave_all.Given as goal

abbrev pub invariant-left : goal.invariant-left
invariant-left g l = Runs l.initial.self.tunnel l.self.tunnel × (is_running l.self.tunnel.engine.session.status ≡ false)
