use Rattle.std.proofs.Common.{◌≡◌, true, false, sym, ◌∙◌, refl, arith}
use Rattle.std.proofs.lemmas.Bool.Decides.{nat_tests}
use Rattle.ymx_engine.proofs.Rows.{is_row}
use Rattle.ymx_engine.proofs.row.row_of.Goals as goal

pub returns-then-fifth-clause-some : goal.returns-then-fifth-clause-some
returns-then-fifth-clause-some c =
    let p = c.in_ok-payload.payload in
    let e = sym c.passing.ensures.value ∙ c.in_ok-payload.was in
    let first = c.first-first.ensures in
    is_row _ p.missing _ _ _ _ _ _ _ e first.count first.behind first.ahead
    (_, _, _, c.next-second.ensures p e, (_, _, _, c.next-third.ensures p e, (_, _, _, c.next-fourth.ensures p e, (refl, refl))))
    (λ is. let whole = c.is_empty-then-fifth.ensures in grind (arith, nat_tests))

pub returns-else-fifth-clause-some : goal.returns-else-fifth-clause-some
returns-else-fifth-clause-some c =
    let p = c.in_ok-payload.payload in
    let e = sym c.passing.ensures.value ∙ c.in_ok-payload.was in
    let first = c.first-first.ensures in
    is_row _ p.missing _ _ _ _ _ _ _ e first.count first.behind first.ahead
    (_, _, _, c.next-second.ensures p e, (_, _, _, c.next-third.ensures p e, (_, _, _, c.next-fourth.ensures p e, (refl, refl))))
    (λ is. let no : true ≡ false = sym is ∙ c.if-fifth.false in cc)
