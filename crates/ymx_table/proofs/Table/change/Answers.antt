-- One record changes as the closure changes it, and its flag with it.
use Rattle.std.proofs.Common.{arith, refl, rules}
use Rattle.ymx_table.specs.Changes.{ReturnsLent}
use Rattle.ymx_table.proofs.Writes.{written, found-before, kept-written, counted-written, unsent-part, unsent-few}
use Rattle.ymx_table.proofs.Table.change.Goals as goal

pub invariant_of-self : goal.invariant_of-self
invariant_of-self g c =
    kept-written c.self.view_is c.in_ok-place.ensures c.index_mut-stream.ensures.value _ c.self.invariant c.is_due-is_due.ensures c.set.ensures
    (counted-written c.self.view_is c.in_ok-place.ensures c.index_mut-stream.ensures.value _ c.self.invariant (omega arith) (omega arith))

pub retotal-self-inside-requires-clause-part : goal.retotal-self-inside-requires-clause-part
retotal-self-inside-requires-clause-part g c = let p = unsent-part c.self.view_is c.in_ok-place.ensures c.index_mut-stream.ensures.value c.self.invariant in omega arith

pub retotal-self-inside-requires-clause-few : goal.retotal-self-inside-requires-clause-few
retotal-self-inside-requires-clause-few g c = unsent-few c.self.invariant

pub returns : goal.returns
returns g c =
    let after = c.change-answer.new.arg2 in
    let ran : ReturnsLent g.F.FnOnce c.args.change c.index_mut-stream.result.now c.change-answer.result after = search rules in (
      c.index_mut-stream.result.now,
      found-before c.self.view_is c.in_ok-place.ensures c.index_mut-stream.ensures.value,
      (after, ran, written c.self.view_is c.in_ok-place.ensures c.index_mut-stream.ensures.value (λ _. after) _ refl),
    )
