-- The number found is not pending, so that the table stays sound, and is the first such.
use Rattle.std.proofs.Common.{◌≡◌, ◌++◌, ◌∷◌, [], false, arith}
use Rattle.ymx_model.specs.declared.types.PingStage.TheVariants.{Asked}
use Rattle.ymx_model.specs.session.Pings.{Ping, is_pending}
use Rattle.ymx_control.proofs.PendingPings.{IsSound-asked}
use Rattle.ymx_control.proofs.FreeNumbers.{is_pending-found, ArePendingBefore-free_from}
use Rattle.ymx_control.proofs.pings.Pings.ask.Goals as goal

pub invariant_of-self : goal.invariant_of-self
invariant_of-self c =
    let absent : is_pending c.next_number-number.result c.self.inside.pending.items ≡ false =
    is_pending-found _ 17 c.self.inside.next _ (rw c.as_slice.ensures.value at c.next_number-number.ensures)
    c.self.invariant.0.next (omega arith) (omega (arith, c.self.invariant.0.few)) in
    let asked : Ping = record { number = c.next_number-number.result; stage = Asked } in
    let pushed : c.push.new.self.items ≡ c.self.inside.pending.items ++ asked ∷ [] = rw c.unwrap.ensures at c.push.ensures.items in (
      rw pushed (IsSound-asked c.self.inside.next _ _ c.self.invariant.0 (rw (← c.self.view_is) at c.requires) absent (omega arith)),
      omega (arith, c.push.ensures.capacity, c.self.invariant.1),
    )

pub returns-clause-skipped : goal.returns-clause-skipped
returns-clause-skipped c =
    rw (c.next_number-number.ensures, c.as_slice.ensures.value, ← c.self.view_is)
    (ArePendingBefore-free_from 17 c.self.inside.next c.self.inside.pending.items c.self.invariant.0.next)

pub returns-clause-fresh : goal.returns-clause-fresh
returns-clause-fresh c =
    rw (← c.self.view_is)
    (is_pending-found _ 17 c.self.inside.next _ (rw c.as_slice.ensures.value at c.next_number-number.ensures)
    c.self.invariant.0.next (omega arith) (omega (arith, c.self.invariant.0.few)))
