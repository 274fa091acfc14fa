use Rattle.std.proofs.Common.{ap, ◌∙◌}
use Rattle.std.specs.Prelude.{option_map}
use Rattle.ymx_engine.specs.Turns.{Connections}
use Rattle.ymx_engine.proofs.Entries.{key_at}
use Rattle.ymx_engine.proofs.connections.Connections.id_at.Goals as goal

pub returns-in-Some : goal.returns-in-Some
returns-in-Some g c = ap (option_map (λ e. e.0)) c.in-Some.ensures.entry ∙ key_at g.D.Device.seen c.self.inside.by_id.entries c.args.place c.args.self.now (ap (λ (t : Connections). t.by_id) c.self.view_is)

pub returns-in-None : goal.returns-in-None
returns-in-None g c = ap (option_map (λ e. e.0)) c.in-None.ensures.entry ∙ key_at g.D.Device.seen c.self.inside.by_id.entries c.args.place c.args.self.now (ap (λ (t : Connections). t.by_id) c.self.view_is)
