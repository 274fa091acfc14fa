use Rattle.std.proofs.Common.{◌∙◌, sym, arith}
use Rattle.ymx_engine.specs.Passes.{counts_of}
use Rattle.ymx_engine.proofs.Readings.{passes_part}
use Rattle.ymx_engine.proofs.Rows.{behind_fewer}
use Rattle.ymx_engine.proofs.connections.Connections.offer.Goals as goal

pub returns-clause-passed : goal.returns-clause-passed
returns-clause-passed g c =
    passes_part c.args.row.id c.offer_row-taken.result c.args.waits.now _ _ _ _ _ (sym c.may_push.ensures ∙ c.if-not-may_push.false) c.offer_row-taken.ensures.offered c.offer_row-taken.ensures.queues c.enqueue.ensures.connections c.enqueue.ensures.turn c.enqueue.ensures.awaits

pub returns-then-not-may_push-clause-in_row : goal.returns-then-not-may_push-clause-in_row
returns-then-not-may_push-clause-in_row g c = let fewer = behind_fewer (counts_of c.args.row) c.args.waits.now in omega (arith, fewer)
