use Rattle.std.proofs.Common.{length}
use Rattle.ymx_model.specs.devices.Devices.{has_failed}
use Rattle.ymx_connect.proofs.Emits.{wrote_none}
use Rattle.ymx_connect.proofs.Ends.{has_thread}
use Rattle.ymx_connect.proofs.both.write_if_begun.Goals as goal

pub returns-clause-wrote : goal.returns-clause-wrote
returns-clause-wrote g c =
    rw c.at_once.ensures (wrote_none g.R.Recorder.KEEPS (length c.args.lent.2.now) (has_failed (g.O.Outlet.failures c.args.lent.0.now) (g.O.Outlet.failures c.args.lent.0.now)) (g.O.Outlet.contents c.args.lent.0.now) c.args.seat.now)

pub returns-then-begin-clause-unmoved : goal.returns-then-begin-clause-unmoved
returns-then-begin-clause-unmoved g c = λ e. absurd (has_thread _ _ _ _ _ _ c.write_on.ensures.ended e)

pub returns-then-begin-clause-unbooked : goal.returns-then-begin-clause-unbooked
returns-then-begin-clause-unbooked g c = λ e. absurd (has_thread _ _ _ _ _ _ c.write_on.ensures.ended e)

pub returns-then-begin-clause-unwritten : goal.returns-then-begin-clause-unwritten
returns-then-begin-clause-unwritten g c = λ e. absurd (has_thread _ _ _ _ _ _ c.write_on.ensures.ended e)
