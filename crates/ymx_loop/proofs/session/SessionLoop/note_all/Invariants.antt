use Rattle.ymx_engine.specs.Runs.{Runs}
use Rattle.ymx_loop.proofs.session.SessionLoop.note_all.Given as goal

abbrev pub invariant-event : goal.invariant-event
invariant-event g l = Runs l.initial.self.tunnel l.self.tunnel
