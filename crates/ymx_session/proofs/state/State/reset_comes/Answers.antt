use Rattle.std.proofs.Common.{sym, ◌∙◌}
use Rattle.ymx_model.specs.session.Sessions.{is_own}
use Rattle.ymx_session.proofs.Heads.{reset-offered, reset-rest, there-acked, not_offered-acked}
use Rattle.ymx_session.proofs.state.State.reset_comes.Goals as goal

pub receive_rst-requires-clause-there : goal.receive_rst-requires-clause-there
receive_rst-requires-clause-there c = there-acked c.args.header.now.id _ _ _ _ c.self-2.view_is c.acknowledge.ensures c.requires.there

pub receive_rst-requires-clause-not_offered : goal.receive_rst-requires-clause-not_offered
receive_rst-requires-clause-not_offered c =
    not_offered-acked c.args.header.now (is_own c.args.self.now.role c.args.header.now.id) c.is_offered.result _ _ c.args.self.now c.self-2.view_is c.acknowledge.ensures c.is_offered.ensures c.if-is_offered.false

pub returns-then-is_offered : goal.returns-then-is_offered
returns-then-is_offered c e there =
    rw (c.remove-then-is_offered.ensures, c.remove.ensures)
    (reset-offered c.args.header.now (is_own c.args.self.now.role c.args.header.now.id) e _ _ c.self.view_is (sym (c.is_offered.ensures e there) ∙ c.if-is_offered.true))

pub returns : goal.returns
returns c e there =
    reset-rest c.args.header.now.id e _ _ _ _ _ _ c.self-2.view_is c.acknowledge.ensures c.receive_rst.ensures c.drop_if_done.ensures (sym (c.is_offered.ensures e there) ∙ c.if-is_offered.false)
