use Rattle.ymx_machine.specs.declared.types.Call.TheVariants as call
use Rattle.ymx_session.proofs.Sounds.{call-sound}
use Rattle.ymx_session.proofs.session.Session.close.Goals as goal

pub invariant_of-self : goal.invariant_of-self
invariant_of-self c = call-sound call.Close _ _ c.close.ensures c.self.invariant
