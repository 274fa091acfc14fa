use Rattle.std.proofs.Common.{ap, sym}
use Rattle.std.specs.Prelude.{option_map}
use Rattle.ymx_engine.specs.Turns.{Connection, Connections}
use Rattle.ymx_engine.proofs.Entries.{connection_found, connection_none}
use Rattle.ymx_engine.proofs.connections.Connections.directions.Goals as goal

pub returns-in-Some : goal.returns-in-Some
returns-in-Some g c = sym (ap (option_map (λ (l : Connection). l.directions)) (connection_found g.D.Device.seen c.self.inside.by_id.entries c.args.id c.in-Some.found.now c.args.self.now (ap (λ (t : Connections). t.by_id) c.self.view_is) (sym c.in-Some.ensures.value)))

pub returns-in-None : goal.returns-in-None
returns-in-None g c = sym (ap (option_map (λ (l : Connection). l.directions)) (connection_none g.D.Device.seen c.self.inside.by_id.entries c.args.id c.args.self.now (ap (λ (t : Connections). t.by_id) c.self.view_is) (sym c.in-None.ensures.value)))
