-- The numbers are distinct, so that the first ping found is the one of its number.
use Rattle.ymx_control.proofs.PendingPings.{first_asked-due}
use Rattle.ymx_control.proofs.pings.Pings.next_due.Goals as goal

pub returns-clause-due : goal.returns-clause-due
returns-clause-due c = rw (c.first_asked.ensures, c.as_slice.ensures.value, ← c.self.view_is) (first_asked-due c.self.inside.pending.items c.self.invariant.0.distinct)
