use Rattle.std.proofs.Common.{length, ◌+◌, ◌≤◌, subst}
use Rattle.ymx_engine.specs.Tunnels.{Tunnel}
use Rattle.ymx_engine.proofs.Turning.{waits_soon}
use Rattle.ymx_engine.proofs.tunnel.Tunnel.queued_count.Goals as goal

pub returns-clause-soon : goal.returns-clause-soon
returns-clause-soon g c = λ id waits. waits_soon id c.args.self.now.connections (subst (λ (t : Tunnel). length t.connections.fresh + length t.connections.busy ≤ length t.connections.by_id) c.self.view_is c.queued_count.ensures.few) waits
