use Rattle.std.proofs.Common.{subst}
use Rattle.ymx_law_session.specs.Limits.{IsWithin}
use Rattle.ymx_session.proofs.session.Session.due.Goals as goal

pub returns-clause-within : goal.returns-clause-within
returns-clause-within c = subst IsWithin c.self.view_is c.self.invariant.within
