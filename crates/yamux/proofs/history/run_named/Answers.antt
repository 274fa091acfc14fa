-- All three have met.
use Rattle.std.proofs.Common.{refl, subst}
use Rattle.ymx_connect.specs.Pumping.{HasRead, HasWritten, HasWorked}
use Rattle.yamux.proofs.PumpEnds.{in_one_history}
use Rattle.yamux.proofs.history.run_named.Goals as goal

pub returns : goal.returns
returns g c =
    let worked : HasWorked g.J.Naming.role g.J.Naming.config (λ seen. g.K.Work.Keeps c.args.work g.J.Naming.role g.J.Naming.config seen c.work_at-done.result.0) c.work_at-done.result.1 c.work_at-done.result.2 = c.work_at-done.ensures in
    let read = subst (λ (x : g.row.I.Denot). HasRead (g.I.Inlet.failures x) (g.I.Inlet.failures c.join-read.result.device) (g.I.Inlet.remaining x) (g.I.Inlet.remaining c.join-read.result.device) c.join-read.result.moved c.join-read.result.why c.join-read.result.parked)
    c.in-Ok.ensures (c.join-read.ensures refl) in
    let wrote = subst (λ (x : g.row.O.Denot). HasWritten g.J.Naming.role g.J.Naming.config (g.O.Outlet.failures x) (g.O.Outlet.failures c.join-written.result.device) (g.O.Outlet.contents x) (g.O.Outlet.contents c.join-written.result.device) (g.O.Outlet.is_ended c.join-written.result.device) c.join-written.result.moved c.join-written.result.why c.join-written.result.parked)
    c.in_ok-writing.ensures (c.join-written.ensures refl refl) in
    record { told = rw c.told_by.ensures.worked (in_one_history _ _ _ _ _ _ _ _ _ _ _ _ _ _ _ _ _ _ _ _ worked read wrote c.told_by.ensures.met) }
