use Rattle.std.proofs.Common.{ap}
use Rattle.ymx_machine.specs.declared.types.Call.TheVariants as call
use Rattle.ymx_session.specs.Replies.{accepted_or}
use Rattle.ymx_session.proofs.Sounds.{call-sound, call-refused}
use Rattle.ymx_session.proofs.session.Session.accept.Goals as goal

pub invariant_of-self : goal.invariant_of-self
invariant_of-self c = call-sound call.Accept _ _ c.accept.ensures.state c.self.invariant

pub returns-clause-refused : goal.returns-clause-refused
returns-clause-refused c =
    call-refused c.accept.result call.Accept (accepted_or c.accept.result) _ _ _ c.self.view_is c.accept.ensures.reply c.accept.ensures.state (λ fault e. ap accepted_or e)
