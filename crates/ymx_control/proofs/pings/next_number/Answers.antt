-- The search goes on after a number that is pending.
use Rattle.std.proofs.Common.{◌≡◌, ◌+◌, ◌-◌, true, arith, ◌∙◌}
use Rattle.ymx_model.specs.session.Pings.{is_pending}
use Rattle.ymx_control.proofs.FreeNumbers.{free_from-next}
use Rattle.ymx_control.proofs.pings.next_number.Goals as goal

pub loop-preserved : goal.loop-preserved
loop-preserved c =
    let pending : is_pending c.loop.number c.args.pending.now ≡ true = cc in
    free_from-next (17 - c.loop.counter) (17 - (c.loop.counter + 1)) c.loop.number c.args.pending.now (omega arith) pending
    ∙ c.loop.invariant
