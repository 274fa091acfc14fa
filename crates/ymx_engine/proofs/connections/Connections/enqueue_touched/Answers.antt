use Rattle.std.proofs.Common.{inl, inr, sym, ap, ◌∙◌, subst}
use Rattle.std.specs.Prelude.{IsSome, nat_eq}
use Rattle.std.specs.List.{list_any}
use Rattle.ymx_engine.specs.Turns.{Connections, KeepsConnections, Waits, Awaits}
use Rattle.ymx_engine.proofs.Queueing.{keeps_then}
use Rattle.ymx_engine.proofs.Calling.{second_true, first_or, second_or}
use Rattle.ymx_engine.proofs.connections.Connections.enqueue_touched.Goals as goal
use Rattle.ymx_engine.proofs.connections.Connections.enqueue_touched.Goals.{then-is_all, else-is_all}

pub returns-clause-keeps : goal.returns-clause-keeps
returns-clause-keeps g c =
    elim c.if-is_all.branch [
      | then-is_all w ↦ subst (λ (t : Connections). KeepsConnections c.args.self.now t) (sym w.self-is) (keeps_then _ _ _ c.enqueue_some.ensures.keeps w.enqueue_all.ensures.keeps)
      | else-is_all w ↦ subst (λ (t : Connections). KeepsConnections c.args.self.now t) (sym w.self-is) c.enqueue_some.ensures.keeps
    ]

pub returns-clause-all : goal.returns-clause-all
returns-clause-all g c = λ id noted some.
    elim c.if-is_all.branch [
      | then-is_all w ↦ subst (λ (t : Connections). Awaits id t) (sym w.self-is) (w.enqueue_all.ensures.all id (subst (λ o. IsSome o) (sym (c.enqueue_some.ensures.keeps.connections id)) some))
      | else-is_all w ↦ subst (λ (t : Connections). Awaits id t) (sym w.self-is) (c.enqueue_some.ensures.all id (ap (list_any (nat_eq id)) c.ids.ensures.value ∙ second_true _ _ (sym c.is_all.ensures ∙ w.if-is_all.false) noted) some)
    ]

pub returns-clause-only : goal.returns-clause-only
returns-clause-only g c = λ id waits.
    elim c.if-is_all.branch [
      | then-is_all w ↦ inr (first_or _ _ (sym c.is_all.ensures ∙ w.if-is_all.true))
      | else-is_all w ↦ elim (c.enqueue_some.ensures.only id (subst (λ (t : Connections). Waits id t) w.self-is waits)) [ inl before ↦ inl before | inr among ↦ inr (second_or _ _ (sym (ap (list_any (nat_eq id)) c.ids.ensures.value) ∙ among)) ]
    ]
