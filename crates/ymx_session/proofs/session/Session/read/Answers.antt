use Rattle.std.proofs.Common.{ap, length}
use Rattle.ymx_machine.specs.declared.types.Call.TheVariants as call
use Rattle.ymx_session.specs.Replies.{read_or}
use Rattle.ymx_session.proofs.Sounds.{call-sound, call-refused}
use Rattle.ymx_session.proofs.session.Session.read.Goals as goal

pub invariant_of-self : goal.invariant_of-self
invariant_of-self c = call-sound (call.Read c.args.id (length c.args.buffer.now)) _ _ c.read.ensures.state c.self.invariant

pub returns-clause-refused : goal.returns-clause-refused
returns-clause-refused c =
    call-refused c.read.result (call.Read c.args.id (length c.args.buffer.now)) (read_or c.read.result c.read.new.buffer) _ _ _ c.self.view_is c.read.ensures.reply c.read.ensures.state (λ fault e. ap (λ r. read_or r c.read.new.buffer) e)
