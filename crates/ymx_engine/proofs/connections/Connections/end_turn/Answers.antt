use Rattle.std.proofs.Common.{inl, refl}
use Rattle.ymx_engine.proofs.Queueing.{extends_same, extends_stay, extends_added}
use Rattle.ymx_engine.proofs.connections.Connections.end_turn.Goals as goal

pub returns-then-more-clause-queues : goal.returns-then-more-clause-queues
returns-then-more-clause-queues g c = extends_added c.args.id _ _ c.enqueue.ensures.turn

pub returns-then-holds-clause-queues : goal.returns-then-holds-clause-queues
returns-then-holds-clause-queues g c = extends_stay _ _ c.hold.ensures.turns.0 c.hold.ensures.turns.1 c.hold.ensures.turns.2

pub returns-else-holds-clause-queues : goal.returns-else-holds-clause-queues
returns-else-holds-clause-queues g c = extends_same _

pub returns-then-more-clause-alone : goal.returns-then-more-clause-alone
returns-then-more-clause-alone g c = (c.enqueue.ensures.turn.fresh, c.enqueue.ensures.turn.busy)

pub returns-then-holds-clause-alone : goal.returns-then-holds-clause-alone
returns-then-holds-clause-alone g c = (inl c.hold.ensures.turns.0, inl c.hold.ensures.turns.1)

pub returns-else-holds-clause-alone : goal.returns-else-holds-clause-alone
returns-else-holds-clause-alone g c = (inl refl, inl refl)
