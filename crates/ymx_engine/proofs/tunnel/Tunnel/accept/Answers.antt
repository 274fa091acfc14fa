use Rattle.std.proofs.Common.{refl}
use Rattle.ymx_engine.proofs.Attending.{runs_from, runs_then}
use Rattle.ymx_engine.proofs.Entering.{comes_taken, runs_come, runs_still, runs_offers_none, only_session}
use Rattle.ymx_engine.proofs.Queueing.{keeps_queues}
use Rattle.ymx_engine.proofs.tunnel.Tunnel.accept.Goals as goal

pub returns-in-Err-clause-runs : goal.returns-in-Err-clause-runs
returns-in-Err-clause-runs g c =
    let e = c.reserve.ensures in runs_from _ _ _ c.self.view_is (runs_then _ _ _ (runs_still _ _ refl (record { outgoing = refl; incoming = refl }) refl (keeps_queues _ _ e.connections e.queues)) c.reject.ensures.runs)

pub returns-in_err-join-in-Some-clause-runs : goal.returns-in_err-join-in-Some-clause-runs
returns-in_err-join-in-Some-clause-runs g c =
    let e = c.reserve.ensures in
    runs_from _ _ _ c.self.view_is (runs_then _ _ _ (runs_still _ _ refl (record { outgoing = refl; incoming = refl }) refl (keeps_queues _ _ e.connections e.queues))
    (runs_come c.join.result c.in-Some.id (g.D.Device.seen c.args.device) _ _ _ _ _ (comes_taken _ _ c.in-Some.id c.in-Some.ensures.accepted (only_session _ _ c.take_offered.ensures.same)) c.join.ensures.joined c.join.ensures.refused))

pub returns-in_ok-join-in-Some-clause-runs : goal.returns-in_ok-join-in-Some-clause-runs
returns-in_ok-join-in-Some-clause-runs g c =
    let e = c.reserve.ensures in
    runs_from _ _ _ c.self.view_is (runs_then _ _ _ (runs_still _ _ refl (record { outgoing = refl; incoming = refl }) refl (keeps_queues _ _ e.connections e.queues))
    (runs_come c.join.result c.in-Some.id (g.D.Device.seen c.args.device) _ _ _ _ _ (comes_taken _ _ c.in-Some.id c.in-Some.ensures.accepted (only_session _ _ c.take_offered.ensures.same)) c.join.ensures.joined c.join.ensures.refused))

pub returns-in-None-clause-runs : goal.returns-in-None-clause-runs
returns-in-None-clause-runs g c =
    let e = c.reserve.ensures in
    runs_from _ _ _ c.self.view_is (runs_then _ _ _ (runs_still _ _ refl (record { outgoing = refl; incoming = refl }) refl (keeps_queues _ _ e.connections e.queues))
    (runs_offers_none _ _ c.in-None.ensures.none (only_session _ _ c.take_offered.ensures.same)))
