-- The caller has worked, and closes the session.
use Rattle.std.proofs.Common.{refl}
use Rattle.yamux.proofs.PumpEnds.{has_worked}
use Rattle.yamux.proofs.history.work_at.Goals as goal

pub returns : goal.returns
returns g c =
    has_worked _ _ _ _ c.run-answer.new.caller c.run-answer.new.caller c.drain_and_close-drained.new.seat _ c.run-answer.ensures refl c.drain_and_close-drained.ensures c.into_parked.ensures
