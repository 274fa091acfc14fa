-- The caller opened the stream.
use Rattle.std.proofs.Common.{rules}
use Rattle.ymx_connect.proofs.Told.{extends_stands}
use Rattle.yamux.proofs.callers.Session+W+S+Witnessed+J.open_at.Goals as goal

pub returns-in-Ok-clause-grows : goal.returns-in-Ok-clause-grows
returns-in-Ok-clause-grows g c = extends_stands _ _ _ _ c.open_at_seat.ensures.booked.extends

pub returns-in-Err-clause-grows : goal.returns-in-Err-clause-grows
returns-in-Err-clause-grows g c = extends_stands _ _ _ _ c.open_at_seat.ensures.booked.extends

pub returns-in-Ok-clause-opened : goal.returns-in-Ok-clause-opened
returns-in-Ok-clause-opened g c = (c.in-Ok.halves.0, search rules, search rules)
