use Rattle.std.proofs.Common.{refl, inl}
use Rattle.ymx_engine.proofs.Attending.{runs_from}
use Rattle.ymx_engine.proofs.Entering.{comes_opened, runs_come, runs_still, not_opened_by, joined_so, not_opened_so}
use Rattle.ymx_engine.specs.Joins.{IsOpened}
use Rattle.ymx_engine.proofs.Queueing.{keeps_queues}
use Rattle.ymx_engine.proofs.tunnel.Tunnel.open.Goals as goal

pub returns-in-Err-clause-runs : goal.returns-in-Err-clause-runs
returns-in-Err-clause-runs g c = let e = c.reserve.ensures in runs_from _ _ _ c.self.view_is (runs_still _ _ refl (record { outgoing = refl; incoming = refl }) refl (keeps_queues _ _ e.connections e.queues))

pub returns-in-Ok-clause-runs : goal.returns-in-Ok-clause-runs
returns-in-Ok-clause-runs g c =
    let e = c.reserve.ensures in
    runs_from _ _ _ c.self.view_is
    (runs_come c.join.result c.in-Ok.id (g.D.Device.seen c.args.device) _ _ _ _ _ (comes_opened _ _ c.in-Ok.id c.in-Ok.ensures.event (record { outgoing = refl; incoming = refl }) refl (keeps_queues _ _ e.connections e.queues)) c.join.ensures.joined c.join.ensures.refused)

pub returns-in-Err-open-clause-runs : goal.returns-in-Err-open-clause-runs
returns-in-Err-open-clause-runs g c =
    let e = c.reserve.ensures in runs_from _ _ _ c.self.view_is (runs_still _ _ c.in-Err-open.ensures.refused (record { outgoing = refl; incoming = refl }) refl (keeps_queues _ _ e.connections e.queues))

pub returns-in-Err-open-clause-refused : goal.returns-in-Err-open-clause-refused
returns-in-Err-open-clause-refused g c =
    not_opened_by c.in-Err-open.fault _ _ _ _ c.self.view_is (c.in-Err-open.ensures.refused, inl c.in-Err-open.ensures.event) (record { outgoing = refl; incoming = refl }) refl refl c.reserve.ensures.connections

pub returns-in-Ok-clause-joined : goal.returns-in-Ok-clause-joined
returns-in-Ok-clause-joined g c =
    joined_so c.join.result IsOpened c.in-Ok.id (g.D.Device.seen c.args.device) _ _ _ _ _ _ c.self.view_is
    (record { came = c.in-Ok.ensures.event; keeps = record { outgoing = refl; incoming = refl }; wire = refl; over = refl; connections = c.reserve.ensures.connections })
    c.join.ensures.id c.join.ensures.joined c.join.ensures.registered

pub returns-in-Ok-clause-refused : goal.returns-in-Ok-clause-refused
returns-in-Ok-clause-refused g c =
    not_opened_so c.join.result c.in-Ok.id _ _ _ _ _ _ c.self.view_is
    (record { came = c.in-Ok.ensures.event; keeps = record { outgoing = refl; incoming = refl }; wire = refl; over = refl; connections = c.reserve.ensures.connections })
    c.join.ensures.refused
