-- What is removed at the place of the number is its ping.
use Rattle.std.proofs.Common.{◌≡◌, ◌==◌, ap, ◌∙◌, position, Some, arith}
use Rattle.ymx_model.specs.session.Pings.{without_ping}
use Rattle.ymx_control.proofs.PendingPings.{without_ping-some, IsSound-without, table}
use Rattle.ymx_control.proofs.pings.Pings.collect.Goals as goal

pub invariant_of-self : goal.invariant_of-self
invariant_of-self c =
    let found : position (λ p. p.number == c.args.number) c.self.inside.pending.items ≡ Some c.in-Some.place =
    rw c.as_slice.ensures.value at c.in-Some.ensures.first in
    let left : c.remove.new.self.items ≡ without_ping c.args.number c.self.inside.pending.items =
    c.remove.ensures.items ∙ without_ping-some _ _ _ found in
    (rw left (IsSound-without _ _ _ c.self.invariant.0), omega (arith, c.remove.ensures.capacity, c.self.invariant.1))

pub returns-in-Some-clause-collected : goal.returns-in-Some-clause-collected
returns-in-Some-clause-collected c =
    let found : position (λ p. p.number == c.args.number) c.self.inside.pending.items ≡ Some c.in-Some.place =
    rw c.as_slice.ensures.value at c.in-Some.ensures.first in
    let left : c.remove.new.self.items ≡ without_ping c.args.number c.self.inside.pending.items =
    c.remove.ensures.items ∙ without_ping-some c.args.number c.self.inside.pending.items c.in-Some.place found in
    rw (← c.self.view_is) (ap (table c.self.inside.next) left)
