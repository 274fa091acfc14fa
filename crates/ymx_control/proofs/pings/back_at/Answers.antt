-- Whether the answer is back stands at the place of the number.
use Rattle.std.proofs.Common.{◌≡◌, get_or, ap, sym, ◌∙◌}
use Rattle.ymx_model.specs.session.Pings.{Ping, has_back, ping_is_back}
use Rattle.ymx_control.proofs.PendingPings.{has_back-some, has_back-none, is_some-then_some}
use Rattle.ymx_control.proofs.pings.back_at.Goals as goal

pub returns-in_err-place-clause-back : goal.returns-in_err-place-clause-back
returns-in_err-place-clause-back c =
    rw c.from_residual.ensures (sym (has_back-none c.args.number c.args.pending.now (sym c.in_err-place.ensures.first)))

pub returns-clause-back : goal.returns-clause-back
returns-clause-back c =
    let at : has_back c.args.number c.args.pending.now ≡ ping_is_back (get_or c.args.pending.now c.in_ok-place.place c.index-pending-place.result).stage =
    has_back-some c.args.number c.args.pending.now c.in_ok-place.place c.index-pending-place.result (sym c.in_ok-place.ensures.first) c.in_ok-place.ensures.within in
    rw (c.then_some.ensures, is_some-then_some)
    (c.is_back.ensures ∙ (ap (λ (p : Ping). ping_is_back p.stage) (c.ping.view_is ∙ c.index-pending-place.is) ∙ sym at))
