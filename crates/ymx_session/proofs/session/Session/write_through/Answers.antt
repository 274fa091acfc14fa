use Rattle.std.proofs.Common.{sym, subst}
use Rattle.ymx_session.specs.Sound.{IsSound}
use Rattle.ymx_session.proofs.StraightSound.{writes-sound}
use Rattle.ymx_session.proofs.session.Session.write_through.Goals as goal

pub invariant_of-self-2 : goal.invariant_of-self-2
invariant_of-self-2 c = writes-sound _ _ _ _ _ _ c.put_through.ensures.event (subst IsSound (sym c.goes_through.ensures.same) c.self.invariant)
