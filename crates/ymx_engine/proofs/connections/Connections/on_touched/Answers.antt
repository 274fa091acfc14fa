use Rattle.std.proofs.Common.{sym, subst}
use Rattle.ymx_engine.specs.Turns.{Connections, KeepsConnections, Awaits, Waits}
use Rattle.ymx_engine.proofs.Queueing.{keeps_then, keeps_counted}
use Rattle.ymx_engine.proofs.connections.Connections.on_touched.Goals as goal

pub returns-clause-keeps : goal.returns-clause-keeps
returns-clause-keeps g c =
    subst (λ (t : Connections). KeepsConnections c.args.self.now t) (sym c.count_turns.ensures) (keeps_then _ _ _ c.enqueue_touched.ensures.keeps (keeps_counted c.enqueue_touched.new.self _))

pub returns-clause-all : goal.returns-clause-all
returns-clause-all g c = λ id noted some. subst (λ (t : Connections). Awaits id t) (sym c.count_turns.ensures) (c.enqueue_touched.ensures.all id noted some)

pub returns-clause-only : goal.returns-clause-only
returns-clause-only g c = λ id waits. c.enqueue_touched.ensures.only id (subst (λ (t : Connections). Waits id t) c.count_turns.ensures waits)
