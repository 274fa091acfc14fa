use Rattle.ymx_session.proofs.PassesSound.{front-sound, either}
use Rattle.ymx_session.proofs.session.Session.feed_to_payload.Goals as goal

pub invariant_of-self : goal.invariant_of-self
invariant_of-self c = front-sound _ _ _ _ c.feed_to_payload.ensures.feeds c.self.invariant

pub returns-clause-stops : goal.returns-clause-stops
returns-clause-stops c = λ l. either _ _ (c.feed_to_payload.ensures.stops l)
