use Rattle.std.proofs.Common.{ap}
use Rattle.ymx_machine.specs.declared.types.Call.TheVariants as call
use Rattle.ymx_session.specs.Replies.{ponged_or}
use Rattle.ymx_session.proofs.Sounds.{call-sound, call-refused}
use Rattle.ymx_session.proofs.session.Session.ponged.Goals as goal

pub invariant_of-self : goal.invariant_of-self
invariant_of-self c = call-sound (call.Ponged c.args.number) _ _ c.ponged.ensures.state c.self.invariant

pub returns-clause-refused : goal.returns-clause-refused
returns-clause-refused c =
    call-refused c.ponged.result (call.Ponged c.args.number) (ponged_or c.ponged.result) _ _ _ c.self.view_is c.ponged.ensures.reply c.ponged.ensures.state (λ fault e. ap ponged_or e)
