use Rattle.std.proofs.Common.{refl}
use Rattle.ymx_model.specs.declared.types.Event.TheVariants as event
use Rattle.ymx_machine.specs.declared.types.Reply.TheVariants as reply
use Rattle.ymx_session.proofs.Sounds.{gives-sound}
use Rattle.ymx_session.proofs.session.Session.feed_end.Goals as goal

pub invariant_of-self : goal.invariant_of-self
invariant_of-self c = gives-sound _ _ event.FeedEnd reply.Done (refl, c.feed_end.ensures) c.self.invariant
