use Rattle.std.proofs.Common.{inl, refl}
use Rattle.ymx_engine.proofs.Queueing.{keeps_same, keeps_from, extends_after}
use Rattle.ymx_engine.proofs.connections.Connections.enqueue_missed.Goals as goal

pub returns-then-is_some-clause-keeps : goal.returns-then-is_some-clause-keeps
returns-then-is_some-clause-keeps g c =
    let e = c.enqueue_all.ensures in
    keeps_from _ _ _ c.self.view_is (record { connections = e.keeps.connections; queues = extends_after _ _ _ e.keeps.queues refl refl refl; awaits = λ id some h. e.all id some; holds = λ id some h. inl (e.all id some) })

pub returns-else-is_some-clause-keeps : goal.returns-else-is_some-clause-keeps
returns-else-is_some-clause-keeps g c = keeps_same _
