use Rattle.std.proofs.Common.{ap}
use Rattle.ymx_machine.specs.declared.types.Call.TheVariants as call
use Rattle.ymx_session.specs.Replies.{done_or}
use Rattle.ymx_session.proofs.Sounds.{call-sound, call-refused}
use Rattle.ymx_session.proofs.session.Session.reset.Goals as goal

pub invariant_of-self : goal.invariant_of-self
invariant_of-self c = call-sound (call.Reset c.args.id) _ _ c.reset.ensures.state c.self.invariant

pub returns-clause-refused : goal.returns-clause-refused
returns-clause-refused c =
    call-refused c.reset.result (call.Reset c.args.id) (done_or c.reset.result) _ _ _ c.self.view_is c.reset.ensures.reply c.reset.ensures.state (λ fault e. ap done_or e)
