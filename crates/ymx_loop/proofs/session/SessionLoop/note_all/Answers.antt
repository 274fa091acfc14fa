use Rattle.ymx_engine.proofs.Attending.{runs_same, runs_then}
use Rattle.ymx_loop.proofs.session.SessionLoop.note_all.Goals as goal

pub event-init : goal.event-init
event-init g c = runs_same _

pub event-preserved : goal.event-preserved
event-preserved g c = runs_then _ _ _ c.event.invariant c.note.ensures
