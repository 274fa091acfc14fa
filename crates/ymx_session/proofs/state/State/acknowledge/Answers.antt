use Rattle.std.proofs.Common.{sym, ◌∙◌}
use Rattle.ymx_model.specs.session.Sessions.{is_own}
use Rattle.ymx_session.proofs.Heads.{ack-fits, acked-is, unacked-is}
use Rattle.ymx_session.proofs.state.State.acknowledge.Goals as goal

pub receive_head-requires : goal.receive_head-requires
receive_head-requires c = ack-fits c.args.header.now.id _ _ c.self.view_is c.requires

pub returns-then-acknowledges : goal.returns-then-acknowledges
returns-then-acknowledges c =
    acked-is c.args.header.now (is_own c.args.self.now.role c.args.header.now.id) _ _ _ c.self.view_is (sym c.acknowledges.ensures ∙ c.if-acknowledges.true) c.receive_head.ensures

pub returns-else-acknowledges : goal.returns-else-acknowledges
returns-else-acknowledges c =
    unacked-is c.args.header.now (is_own c.args.self.now.role c.args.header.now.id) c.args.self.now (sym c.acknowledges.ensures ∙ c.if-acknowledges.false)
