use Rattle.std.proofs.Common.{ap, ◌∙◌, sym, None}
use Rattle.std.specs.Prelude.{option_map, nat_eq, cond}
use Rattle.ymx_engine.specs.Turns.{Connection, Connections, connection_of, without}
use Rattle.ymx_engine.proofs.Entries.{connection_found, connection_none, gone_seen, puts_gone}
use Rattle.ymx_engine.proofs.Marking.{listed_gone, listed_absent, listed_off, held_gone}
use Rattle.ymx_engine.proofs.Once.{without_none}
use Rattle.ymx_engine.proofs.connections.Connections.remove.Goals as goal

pub invariant_of-self-2 : goal.invariant_of-self-2
invariant_of-self-2 g c =
    let gone = gone_seen g.D.Device.seen c.args.id _ _ (λ other. c.swap_remove.ensures.updates.0 other) in
    (listed_gone c.args.id _ _ _ _ _ _ c.self.invariant.0 gone c.leave.ensures.fresh c.leave.ensures.busy, held_gone c.args.id _ _ _ c.self.invariant.1 gone)

pub invariant_of-self : goal.invariant_of-self
invariant_of-self g c =
    let gone = gone_seen g.D.Device.seen c.args.id _ _ (λ other. c.swap_remove.ensures.updates.0 other) in
    let none = listed_absent g.D.Device.seen c.self.inside.by_id.entries c.args.id _ _ c.self.invariant.0 (sym c.in_default.ensures.value) in
    (listed_gone c.args.id _ _ _ _ _ _ c.self.invariant.0 gone (sym (without_none c.args.id _ none.0)) (sym (without_none c.args.id _ none.1)), held_gone c.args.id _ _ _ c.self.invariant.1 gone)

pub leave-requires-clause-fresh : goal.leave-requires-clause-fresh
leave-requires-clause-fresh g c = λ off. without_none c.args.id _ (listed_off g.D.Device.seen c.self.inside.by_id.entries c.args.id c.in-Some.entry _ _ c.self.invariant.0 (sym c.in-Some.ensures.value) off).0

pub leave-requires-clause-busy : goal.leave-requires-clause-busy
leave-requires-clause-busy g c = λ off. without_none c.args.id _ (listed_off g.D.Device.seen c.self.inside.by_id.entries c.args.id c.in-Some.entry _ _ c.self.invariant.0 (sym c.in-Some.ensures.value) off).1

pub returns-in_default-clause-queues : goal.returns-in_default-clause-queues
returns-in_default-clause-queues g c =
    let none = listed_absent g.D.Device.seen c.self.inside.by_id.entries c.args.id _ _ c.self.invariant.0 (sym c.in_default.ensures.value) in
    let is = c.self.view_is in
    record {
      fresh = sym (without_none c.args.id _ none.0) ∙ ap (λ (t : Connections). without c.args.id t.fresh) is;
      busy = sym (without_none c.args.id _ none.1) ∙ ap (λ (t : Connections). without c.args.id t.busy) is;
      held = ap (λ (t : Connections). t.held) is;
      flag = ap (λ (t : Connections). t.is_for_busy) is;
      missed = ap (λ (t : Connections). t.missed) is;
    }

pub returns-in_default-clause-given : goal.returns-in_default-clause-given
returns-in_default-clause-given g c = sym (ap (option_map (λ (l : Connection). l.seen)) (connection_none g.D.Device.seen c.self.inside.by_id.entries c.args.id c.args.self.now (ap (λ (t : Connections). t.by_id) c.self.view_is) (sym c.in_default.ensures.value)))

pub returns-in_default-clause-gone : goal.returns-in_default-clause-gone
returns-in_default-clause-gone g c = λ other.
    puts_gone c.args.id _ _ (gone_seen g.D.Device.seen c.args.id _ _ (λ other. c.swap_remove.ensures.updates.0 other)) other ∙ ap (λ (t : Connections). cond (nat_eq c.args.id other) None (connection_of other t)) c.self.view_is

pub returns-clause-given : goal.returns-clause-given
returns-clause-given g c = sym (ap (option_map (λ (l : Connection). l.seen)) (connection_found g.D.Device.seen c.self.inside.by_id.entries c.args.id c.in-Some.entry c.args.self.now (ap (λ (t : Connections). t.by_id) c.self.view_is) (sym c.in-Some.ensures.value)))

pub returns-clause-gone : goal.returns-clause-gone
returns-clause-gone g c = λ other.
    puts_gone c.args.id _ _ (gone_seen g.D.Device.seen c.args.id _ _ (λ other. c.swap_remove.ensures.updates.0 other)) other ∙ ap (λ (t : Connections). cond (nat_eq c.args.id other) None (connection_of other t)) c.self.view_is
