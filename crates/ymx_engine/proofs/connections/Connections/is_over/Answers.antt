use Rattle.std.proofs.Common.{ap, sym, subst, refl}
use Rattle.std.specs.Prelude.{option_map, Option, MatchOption, true, ◌≡◌}
use Rattle.ymx_engine.specs.declared.directions.Directions.{Directions}
use Rattle.ymx_engine.specs.Directions.{is_over}
use Rattle.ymx_engine.specs.Turns.{Connection, Connections}
use Rattle.ymx_engine.proofs.Entries.{connection_found, connection_none}
use Rattle.ymx_engine.proofs.connections.Connections.is_over.Goals as goal

pub returns-in-Some : goal.returns-in-Some
returns-in-Some g c =
    subst (λ (o : Option Directions). MatchOption o (c.is_over.result ≡ true) (λ w. c.is_over.result ≡ is_over w))
    (sym (ap (option_map (λ (l : Connection). l.directions)) (connection_found g.D.Device.seen c.self.inside.by_id.entries c.args.id c.in-Some.found.now c.args.self.now (ap (λ (t : Connections). t.by_id) c.self.view_is) (sym c.in-Some.ensures.value)))) c.is_over.ensures

pub returns-in-None : goal.returns-in-None
returns-in-None g c =
    subst (λ (o : Option Directions). MatchOption o (true ≡ true) (λ w. true ≡ is_over w))
    (sym (ap (option_map (λ (l : Connection). l.directions)) (connection_none g.D.Device.seen c.self.inside.by_id.entries c.args.id c.args.self.now (ap (λ (t : Connections). t.by_id) c.self.view_is) (sym c.in-None.ensures.value)))) refl
