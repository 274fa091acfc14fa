-- What is written at the place of the number stages its ping; where there is none nothing changes.
use Rattle.std.proofs.Common.{◌≡◌, ◌==◌, ap, sym, position, Some, None}
use Rattle.ymx_control.proofs.PendingPings.{staged-some, staged-none, IsSound-staged, table}
use Rattle.ymx_control.proofs.pings.Pings.set_stage.Goals as goal

pub invariant_of-self : goal.invariant_of-self
invariant_of-self c =
    let found : position (λ p. p.number == c.args.number) c.self.inside.pending.items ≡ Some c.in-Some.place =
    rw c.as_slice.ensures.value at (sym c.in-Some.ensures.first) in
    (rw (staged-some c.args.stage _ _ _ found) (IsSound-staged _ _ _ _ c.self.invariant.0), c.self.invariant.1)

pub returns-in-Some : goal.returns-in-Some
returns-in-Some c =
    let found : position (λ p. p.number == c.args.number) c.self.inside.pending.items ≡ Some c.in-Some.place =
    rw c.as_slice.ensures.value at (sym c.in-Some.ensures.first) in
    rw (← c.self.view_is) (ap (table c.self.inside.next) (staged-some c.args.stage c.args.number c.self.inside.pending.items c.in-Some.place found))

pub returns-in_default : goal.returns-in_default
returns-in_default c =
    let absent : position (λ p. p.number == c.args.number) c.self.inside.pending.items ≡ None =
    rw (c.as_slice.ensures.value, c.in_default.is) at (sym c.index_of.ensures.first) in
    rw (← c.self.view_is) (sym (ap (table c.self.inside.next) (staged-none c.args.stage c.args.number c.self.inside.pending.items absent)))
