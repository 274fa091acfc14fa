use Rattle.ymx_tunnel.proofs.Telling.{source_refused, source_gave, source_ended}
use Rattle.ymx_tunnel.proofs.halves.ReadHalfSource.read.Goals as goal

pub returns-clause-gave : goal.returns-clause-gave
returns-clause-gave g c = source_gave _ _ _ _ _ _ _ c.read.ensures.booked

pub returns-clause-ended : goal.returns-clause-ended
returns-clause-ended g c = source_ended _ _ _ _ _ _ _ c.read.ensures.booked

pub returns-clause-refused : goal.returns-clause-refused
returns-clause-refused g c = source_refused _ _ _ _ _ _ _ c.read.ensures.booked
