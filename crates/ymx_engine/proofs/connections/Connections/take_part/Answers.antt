use Rattle.std.proofs.Common.{Some, ap, ◌∙◌, refl, sym}
use Rattle.std.specs.Prelude.{nat_eq, cond}
use Rattle.ymx_engine.specs.Turns.{Connections, connection_of}
use Rattle.ymx_engine.proofs.Entries.{is_some_at, connection_none}
use Rattle.ymx_engine.proofs.Marking.{in_place}
use Rattle.ymx_engine.proofs.connections.Connections.take_part.Goals as goal

pub returns-in_default-clause-none : goal.returns-in_default-clause-none
returns-in_default-clause-none g c =
    connection_none g.D.Device.seen c.self.inside.by_id.entries c.args.id c.args.self.now (ap (λ (t : Connections). t.by_id) c.self.view_is) (sym c.in_default.ensures.value)

pub invariant_of-self-2 : goal.invariant_of-self-2
invariant_of-self-2 g c =
    let found = sym c.in-Some.ensures.value in
    let p = in_place g.D.Device.seen c.args.id c.in-Some.found.now (record c.in-Some.found.now { connection = record { device = c.serve-turn.new.device; directions = c.serve-turn.new.directions }; is_busy = c.moves_much-found.result }) _ _ _ _ _ found (λ other. ((c.get_mut.follows.holds (record c.in-Some.found.now { connection = record { device = c.serve-turn.new.device; directions = c.serve-turn.new.directions }; is_busy = c.moves_much-found.result })).3 (is_some_at found)).0 other) refl refl c.self.invariant in (p.are_listed, p.are_held)

pub returns-clause-some : goal.returns-clause-some
returns-clause-some g c =
    let found = sym c.in-Some.ensures.value in
    let p = in_place g.D.Device.seen c.args.id c.in-Some.found.now (record c.in-Some.found.now { connection = record { device = c.serve-turn.new.device; directions = c.serve-turn.new.directions }; is_busy = c.moves_much-found.result }) _ _ _ _ _ found (λ other. ((c.get_mut.follows.holds (record c.in-Some.found.now { connection = record { device = c.serve-turn.new.device; directions = c.serve-turn.new.directions }; is_busy = c.moves_much-found.result })).3 (is_some_at found)).0 other) refl refl c.self.invariant in
    (_, ap (connection_of c.args.id) (sym c.self.view_is) ∙ p.there, _, λ other. p.puts other ∙ ap (λ (t : Connections). cond (nat_eq c.args.id other) (Some (record { seen = g.D.Device.seen c.serve-turn.new.device; directions = c.serve-turn.new.directions })) (connection_of other t)) c.self.view_is, c.serve-turn.ensures.turn, c.may_pull-may_give.ensures)
