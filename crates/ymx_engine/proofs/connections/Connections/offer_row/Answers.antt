use Rattle.std.proofs.Common.{ap, ◌∙◌, refl, sym, arith}
use Rattle.ymx_engine.specs.Passes.{counts_of}
use Rattle.ymx_engine.specs.Turns.{Connections}
use Rattle.ymx_engine.proofs.Entries.{is_some_at, no_some, connection_found, connection_none}
use Rattle.ymx_engine.proofs.Marking.{in_place}
use Rattle.ymx_engine.proofs.Readings.{offers_part}
use Rattle.ymx_engine.proofs.Rows.{behind_fewer}
use Rattle.ymx_engine.proofs.connections.Connections.offer_row.Goals as goal

pub invariant_of-self-2 : goal.invariant_of-self-2
invariant_of-self-2 g c =
    let found = sym c.in-Some.ensures.value in
    let w = record c.in-Some.found.now { connection = record { device = c.offer.new.device; directions = c.offer.new.directions } } in
    let p = in_place g.D.Device.seen c.args.row.id c.in-Some.found.now w _ _ _ _ _ found (λ other. ((c.get_mut.follows.holds w).3 (is_some_at found)).0 other) refl refl c.self.invariant in (p.are_listed, p.are_held)

pub returns-clause-offered : goal.returns-clause-offered
returns-clause-offered g c = λ was is.
    let found = sym c.in-Some.ensures.value in
    let w = record c.in-Some.found.now { connection = record { device = c.offer.new.device; directions = c.offer.new.directions } } in
    let p = in_place g.D.Device.seen c.args.row.id c.in-Some.found.now w _ _ _ _ _ found (λ other. ((c.get_mut.follows.holds w).3 (is_some_at found)).0 other) refl refl c.self.invariant in
    offers_part c.args.row.id c.offer.result c.args.waits.now _ _ _ _ _ _ was _ c.self.view_is p.there p.puts c.offer.ensures.offered is

pub returns-clause-none : goal.returns-clause-none
returns-clause-none g c = λ none. no_some (sym (connection_found g.D.Device.seen c.self.inside.by_id.entries c.args.row.id c.in-Some.found.now c.args.self.now (ap (λ (t : Connections). t.by_id) c.self.view_is) (sym c.in-Some.ensures.value)) ∙ none)

pub returns-in_default-clause-offered : goal.returns-in_default-clause-offered
returns-in_default-clause-offered g c = λ was is. no_some (sym is ∙ connection_none g.D.Device.seen c.self.inside.by_id.entries c.args.row.id c.args.self.now (ap (λ (t : Connections). t.by_id) c.self.view_is) (sym c.in_default.ensures.value))

pub returns-in_default-clause-in_row : goal.returns-in_default-clause-in_row
returns-in_default-clause-in_row g c = let fewer = behind_fewer (counts_of c.args.row) c.args.waits.now in omega (arith, fewer)
