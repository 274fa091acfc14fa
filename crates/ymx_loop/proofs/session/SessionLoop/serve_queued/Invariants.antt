use Rattle.std.specs.Prelude.{◌<◌}
use Rattle.ymx_engine.specs.Runs.{Runs}
use Rattle.ymx_engine.specs.Work.{ServesOne}
use Rattle.ymx_loop.proofs.session.SessionLoop.serve_queued.Given as goal

abbrev pub invariant-queued : goal.invariant-queued
invariant-queued g l = Runs l.initial.self.tunnel l.self.tunnel × (0 < l.counter → ServesOne l.initial.self.tunnel l.self.tunnel)
