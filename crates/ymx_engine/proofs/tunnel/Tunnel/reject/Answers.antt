use Rattle.ymx_engine.proofs.Entering.{comes_taken, runs_dropped, runs_left, runs_offers_none, only_session, drops_out, leaves_out, is_free, is_there}
use Rattle.ymx_engine.proofs.tunnel.Tunnel.reject.Goals as goal

pub returns-in_default-clause-runs : goal.returns-in_default-clause-runs
returns-in_default-clause-runs g c = runs_offers_none _ _ c.in_default.ensures.none (only_session _ _ c.take_offered.ensures.same)

pub returns-then-contains-clause-runs : goal.returns-then-contains-clause-runs
returns-then-contains-clause-runs g c =
    let id = c.in-Some.id in
    runs_left id c.args.self.now c.take_offered.new.self c.leave.new.self (comes_taken _ _ id c.in-Some.ensures.accepted (only_session _ _ c.take_offered.ensures.same)) (leaves_out id _ _ (is_there id _ _ c.contains.result c.self.view_is c.contains.ensures c.if-contains.true) c.leave.ensures.forgotten (only_session _ _ c.leave.ensures.same))

pub returns-else-contains-clause-runs : goal.returns-else-contains-clause-runs
returns-else-contains-clause-runs g c =
    let id = c.in-Some.id in
    runs_dropped id c.args.self.now c.take_offered.new.self c.drop_stream.new.self (comes_taken _ _ id c.in-Some.ensures.accepted (only_session _ _ c.take_offered.ensures.same))
    (drops_out id _ _ (is_free id _ _ c.contains.result c.self.view_is c.contains.ensures c.if-contains.false) c.drop_stream.ensures.given_up (only_session _ _ c.drop_stream.ensures.same))
