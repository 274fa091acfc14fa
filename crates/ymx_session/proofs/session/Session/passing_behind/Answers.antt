use Rattle.ymx_session.proofs.Behind.{looked-behind, looked-few}
use Rattle.ymx_session.proofs.session.Session.passing_behind.Goals as goal

pub returns-clause-behind : goal.returns-clause-behind
returns-clause-behind c = looked-behind c.args.ahead c.args.header.now _ _ _ c.self.view_is c.self.invariant.within c.passing_behind.ensures.value

pub returns-clause-few : goal.returns-clause-few
returns-clause-few c = looked-few c.args.ahead c.args.header.now _ _ c.self.invariant.within c.passing_behind.ensures.value
