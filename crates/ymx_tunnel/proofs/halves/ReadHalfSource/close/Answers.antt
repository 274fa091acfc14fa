use Rattle.ymx_tunnel.proofs.Telling.{close_kept, close_still_ended, close_still_refused}
use Rattle.ymx_tunnel.proofs.halves.ReadHalfSource.close.Goals as goal

pub returns-clause-kept : goal.returns-clause-kept
returns-clause-kept g c = close_kept _ _ _ _ _ c.close.ensures.booked

pub returns-clause-ended : goal.returns-clause-ended
returns-clause-ended g c = close_still_ended _ _ _ _ _ c.close.ensures.booked

pub returns-clause-refused : goal.returns-clause-refused
returns-clause-refused g c = close_still_refused _ _ _ _ _ c.close.ensures.booked
