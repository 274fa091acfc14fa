use Rattle.std.proofs.Common.{arith}
use Rattle.ymx_engine.proofs.Attending.{runs_same, runs_then, then_one}
use Rattle.ymx_loop.proofs.Going.{some_queued}
use Rattle.ymx_loop.proofs.session.SessionLoop.serve_queued.Goals as goal

pub queued-init : goal.queued-init
queued-init g c = (runs_same _, λ some. absurd (omega (arith, some)))

pub queued-preserved : goal.queued-preserved
queued-preserved g c = (runs_then _ _ _ c.queued.invariant.0 c.serve_next.ensures.runs, λ some. then_one _ _ _ c.queued.invariant.0 c.serve_next.ensures.runs c.serve_next.ensures.turns)

pub returns-then-not-serve_next-clause-runs : goal.returns-then-not-serve_next-clause-runs
returns-then-not-serve_next-clause-runs g c = runs_then _ _ _ c.queued.invariant.0 c.serve_next.ensures.runs

pub returns-then-not-serve_next-clause-turns : goal.returns-then-not-serve_next-clause-turns
returns-then-not-serve_next-clause-turns g c = then_one _ _ _ c.queued.invariant.0 c.serve_next.ensures.runs c.serve_next.ensures.turns

pub returns-clause-runs : goal.returns-clause-runs
returns-clause-runs g c = c.queued.invariant.0

pub returns-clause-turns : goal.returns-clause-turns
returns-clause-turns g c = λ id n far. let some = some_queued id n c.args.self.now.tunnel.connections 18446744073709551615 (omega arith) far in c.queued.invariant.1 (omega (arith, some, c.queued_count-end.ensures.count, c.queued-test.false)) id n far
