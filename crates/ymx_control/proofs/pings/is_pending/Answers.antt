-- A number is pending exactly if it has a place.
use Rattle.ymx_control.proofs.PendingPings.{is_some-position}
use Rattle.ymx_control.proofs.pings.is_pending.Goals as goal

pub returns : goal.returns
returns c = rw (c.is_some.ensures, c.index_of.ensures.first) (is_some-position c.args.number c.args.pending.now)
