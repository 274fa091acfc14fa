use Rattle.std.proofs.Common.{ap}
use Rattle.ymx_machine.specs.declared.types.Call.TheVariants as call
use Rattle.ymx_session.specs.Replies.{done_or}
use Rattle.ymx_session.proofs.Sounds.{call-sound, call-refused}
use Rattle.ymx_session.proofs.session.Session.forget.Goals as goal

pub invariant_of-self : goal.invariant_of-self
invariant_of-self c = call-sound (call.Forget c.args.id) _ _ c.forget.ensures.state c.self.invariant

pub returns-clause-refused : goal.returns-clause-refused
returns-clause-refused c =
    call-refused c.forget.result (call.Forget c.args.id) (done_or c.forget.result) _ _ _ c.self.view_is c.forget.ensures.reply c.forget.ensures.state (λ fault e. ap done_or e)
