use Rattle.ymx_tunnel.proofs.Telling.{sink_refused, sink_took}
use Rattle.ymx_tunnel.proofs.halves.WriteHalfSink.write_all.Goals as goal

pub returns-clause-took : goal.returns-clause-took
returns-clause-took g c = sink_took _ _ _ _ _ _ c.write_all.ensures.booked

pub returns-clause-refused : goal.returns-clause-refused
returns-clause-refused g c = sink_refused _ _ _ _ _ _ c.write_all.ensures.booked
