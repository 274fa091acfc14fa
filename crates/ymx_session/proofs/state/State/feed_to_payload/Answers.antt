use Rattle.ymx_session.proofs.Passes.{whole-fed, rest-fed}
use Rattle.ymx_session.proofs.state.State.feed_to_payload.Goals.{then-taken-input, else-taken-input}
use Rattle.ymx_session.proofs.state.State.feed_to_payload.Goals as goal

pub returns-clause-feeds : goal.returns-clause-feeds
returns-clause-feeds c =
    let took = c.take_bytes-taken.ensures.took in
    elim c.if-taken-input.branch [
      | then-taken-input w ↦ whole-fed _ _ _ _ _ _ _ _ c.take_bytes-taken.ensures.within took.1 took.2 w.if-taken-input.true w.all-is c.why-why.ensures
      | else-taken-input w ↦ rest-fed _ _ _ _ _ _ _ _ _ c.take_bytes-taken.ensures.within took.1 took.2 w.if-taken-input.false w.all-is w.is_stuck.ensures c.why-why.ensures
    ]
