use Rattle.std.proofs.Common.{sym, ◌∙◌, rules}
use Rattle.ymx_seats.proofs.Parts.{all_agree}
use Rattle.ymx_seats.proofs.Agreements.{agreed_parts, agreed_starts, agreed_within}
use Rattle.ymx_seats.proofs.Order.{agrees_once_sorted}
use Rattle.ymx_seats.proofs.compare.agree.Goals as goal

pub returns-clause-agree : goal.returns-clause-agree
returns-clause-agree g c = λ yes. all_agree c.arrange.new.seats c.args.all.now (c.are_numbered.ensures.0 (search rules)) (c.are_within.ensures.0 (search rules)) (c.are_parts.ensures.parts yes) (c.are_parts.ensures.rising yes)

pub returns-then-not-are_numbered-clause-exact : goal.returns-then-not-are_numbered-clause-exact
returns-then-not-are_numbered-clause-exact g c = λ r order p a.
    let b = agrees_once_sorted c.args.seats.now order c.arrange.new.seats c.args.all.now p c.arrange.ensures.permutation c.arrange.ensures.sorted a in
    sym c.if-not-are_numbered.true ∙ c.are_numbered.ensures.1 b.numbers

pub returns-then-not-are_within-clause-exact : goal.returns-then-not-are_within-clause-exact
returns-then-not-are_within-clause-exact g c = λ r order p a.
    let b = agrees_once_sorted c.args.seats.now order c.arrange.new.seats c.args.all.now p c.arrange.ensures.permutation c.arrange.ensures.sorted a in
    sym c.if-not-are_within.true ∙ c.are_within.ensures.1 (agreed_within c.arrange.new.seats c.args.all.now b)

pub returns-clause-exact : goal.returns-clause-exact
returns-clause-exact g c = λ r order p a.
    let b = agrees_once_sorted c.args.seats.now order c.arrange.new.seats c.args.all.now p c.arrange.ensures.permutation c.arrange.ensures.sorted a in
    c.are_parts.ensures.exact (agreed_parts c.arrange.new.seats c.args.all.now r b) (agreed_starts c.arrange.new.seats c.args.all.now b)
