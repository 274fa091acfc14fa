use Rattle.std.proofs.Common.{ap}
use Rattle.ymx_machine.specs.declared.types.Call.TheVariants as call
use Rattle.ymx_session.specs.Replies.{pinged_or}
use Rattle.ymx_session.proofs.Sounds.{call-sound, call-refused}
use Rattle.ymx_session.proofs.session.Session.ping.Goals as goal

pub invariant_of-self : goal.invariant_of-self
invariant_of-self c = call-sound call.Ping _ _ c.ping.ensures.state c.self.invariant

pub returns-clause-refused : goal.returns-clause-refused
returns-clause-refused c =
    call-refused c.ping.result call.Ping (pinged_or c.ping.result) _ _ _ c.self.view_is c.ping.ensures.reply c.ping.ensures.state (λ fault e. ap pinged_or e)
