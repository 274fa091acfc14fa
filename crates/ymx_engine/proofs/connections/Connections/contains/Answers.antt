use Rattle.std.proofs.Common.{ap, ◌∙◌}
use Rattle.ymx_engine.specs.Turns.{Connections}
use Rattle.ymx_engine.proofs.Entries.{connection_is_some}
use Rattle.ymx_engine.proofs.connections.Connections.contains.Goals as goal

pub returns : goal.returns
returns g c = c.contains_key.ensures ∙ connection_is_some g.D.Device.seen c.self.inside.by_id.entries c.args.id c.args.self.now (ap (λ (t : Connections). t.by_id) c.self.view_is)
