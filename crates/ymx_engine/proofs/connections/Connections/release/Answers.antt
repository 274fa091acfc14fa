use Rattle.std.proofs.Common.{◌∙◌, ℕ, List, sym, ap, length, arith}
use Rattle.ymx_engine.specs.Turns.{Connections}
use Rattle.ymx_engine.proofs.Queueing.{keeps_same, keeps_then, keeps_let_go, keeps_grown, extends_stay}
use Rattle.ymx_engine.proofs.Calling.{none_long}
use Rattle.ymx_engine.proofs.connections.Connections.release.Goals as goal

pub held-init : goal.held-init
held-init g c = (keeps_same _, grind arith)

pub held-preserved : goal.held-preserved
held-preserved g c =
    let e = c.enqueue.ensures in
    let l = c.let_go.ensures in
    let first = ap (λ (v : List ℕ). length v) c.in-Some.ensures.some in
    let rest = ap (λ (v : List ℕ). length v) e.turn.held in (
      keeps_then _ c.held.self c.enqueue.new.self c.held.invariant.0 (keeps_let_go c.in-Some.id c.held.self c.let_go.new.self c.enqueue.new.self l.connections (extends_stay c.held.self c.let_go.new.self l.turns.0 l.turns.1 l.turns.2) l.turns.3 c.in-Some.ensures.some e.connections e.turn e.awaits),
      omega (arith, first, rest, c.held.invariant.1),
    )

pub returns-in_default-clause-keeps : goal.returns-in_default-clause-keeps
returns-in_default-clause-keeps g c =
    let l = c.let_go.ensures in
    keeps_then _ c.held.self c.let_go.new.self c.held.invariant.0 (keeps_grown c.held.self c.let_go.new.self l.connections (extends_stay c.held.self c.let_go.new.self l.turns.0 l.turns.1 l.turns.2) (λ h. l.turns.3 ∙ h) (c.in_default.ensures.none.1 ∙ sym c.in_default.ensures.none.0))

pub returns-clause-keeps : goal.returns-clause-keeps
returns-clause-keeps g c = c.held.invariant.0

pub returns-clause-none : goal.returns-clause-none
returns-clause-none g c = none_long c.held.self.held (omega (arith, c.held.invariant.1, ap (λ (t : Connections). length t.held) c.self.view_is, c.len-end.ensures, c.held-test.false))
