use Rattle.std.proofs.Common.{ap}
use Rattle.ymx_machine.specs.declared.types.Call.TheVariants as call
use Rattle.ymx_session.specs.Replies.{done_or}
use Rattle.ymx_session.proofs.Sounds.{call-sound, call-refused}
use Rattle.ymx_session.proofs.session.Session.go_away.Goals as goal

pub invariant_of-self : goal.invariant_of-self
invariant_of-self c = call-sound call.GoAway _ _ c.go_away.ensures.state c.self.invariant

pub returns-clause-refused : goal.returns-clause-refused
returns-clause-refused c =
    call-refused c.go_away.result call.GoAway (done_or c.go_away.result) _ _ _ c.self.view_is c.go_away.ensures.reply c.go_away.ensures.state (λ fault e. ap done_or e)
