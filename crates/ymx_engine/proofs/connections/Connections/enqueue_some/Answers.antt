use Rattle.std.proofs.Common.{◌≡◌, inl, inr, true, false, sym, ap, ◌∙◌, subst, arith}
use Rattle.std.specs.Prelude.{nat_eq, IsSome, get_or}
use Rattle.std.specs.List.{list_any}
use Rattle.std.proofs.lemmas.List.{take_all}
use Rattle.ymx_engine.specs.Turns.{connection_of}
use Rattle.ymx_engine.proofs.Queueing.{keeps_same, keeps_then, keeps_added, awaits_added, waited}
use Rattle.ymx_engine.proofs.Calling.{called_more, called_only}
use Rattle.ymx_engine.proofs.connections.Connections.enqueue_some.Goals as goal

pub id-init : goal.id-init
id-init g c = (keeps_same _, λ id among some. absurd (let no : false ≡ true = among in cc), λ id waits. inl waits)

pub id-preserved : goal.id-preserved
id-preserved g c =
    let i = c.id.invariant in
    let e = c.enqueue.ensures in
    let x = get_or c.args.ids.now c.id.id-index 0 in (
      keeps_then _ _ _ i.0 (keeps_added x _ _ e.connections e.turn),
      called_more (λ id. IsSome (connection_of id c.args.self.now)) c.id.self c.enqueue.new.self c.args.ids.now c.id.id-index c.id-test.true (λ other. awaits_added x other c.id.self c.enqueue.new.self e.turn) (λ some. e.awaits (subst (λ o. IsSome o) (sym (i.0.connections x)) some)) i.1,
      called_only c.args.self.now c.id.self c.enqueue.new.self c.args.ids.now c.id.id-index c.id-test.true (λ other. waited x other c.id.self c.enqueue.new.self e.turn) i.2,
    )

pub returns-clause-keeps : goal.returns-clause-keeps
returns-clause-keeps g c = c.id.invariant.0

pub returns-clause-all : goal.returns-clause-all
returns-clause-all g c = λ id among some. c.id.invariant.1 id (ap (list_any (nat_eq id)) (take_all _ _ (omega (arith, c.id-test.false))) ∙ among) some

pub returns-clause-only : goal.returns-clause-only
returns-clause-only g c = λ id waits. elim (c.id.invariant.2 id waits) [ inl before ↦ inl before | inr among ↦ inr (sym (ap (list_any (nat_eq id)) (take_all _ _ (omega (arith, c.id-test.false)))) ∙ among) ]
