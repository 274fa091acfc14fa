use Rattle.std.proofs.Common.{ap, take}
use Rattle.ymx_machine.specs.declared.types.Call.TheVariants as call
use Rattle.ymx_session.specs.Replies.{read_or}
use Rattle.ymx_session.specs.Streams.{waiting}
use Rattle.ymx_session.proofs.Sounds.{call-sound, call-refused}
use Rattle.ymx_session.proofs.session.Session.consume.Goals as goal

pub invariant_of-self : goal.invariant_of-self
invariant_of-self c = call-sound (call.Read c.args.id c.args.count) _ _ c.consume.ensures.state c.self.invariant

pub returns-clause-refused : goal.returns-clause-refused
returns-clause-refused c =
    call-refused c.consume.result (call.Read c.args.id c.args.count) (read_or c.consume.result (take c.args.count (waiting c.args.id c.self.inside.state))) _ _ _ c.self.view_is c.consume.ensures.reply c.consume.ensures.state (λ fault e. ap (λ r. read_or r (take c.args.count (waiting c.args.id c.self.inside.state))) e)
