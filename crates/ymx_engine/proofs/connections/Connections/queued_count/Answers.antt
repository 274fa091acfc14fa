use Rattle.std.proofs.Common.{length, ◌+◌, ◌≤◌, subst}
use Rattle.ymx_engine.specs.Turns.{Connections}
use Rattle.ymx_engine.proofs.Once.{few_wait}
use Rattle.ymx_engine.proofs.connections.Connections.queued_count.Goals as goal

pub returns-clause-few : goal.returns-clause-few
returns-clause-few g c = subst (λ (t : Connections). length t.fresh + length t.busy ≤ length t.by_id) c.self.view_is (few_wait _ _ _ c.self.invariant.0)
