use Rattle.ymx_tunnel.proofs.Moving.{HasFilled}
use Rattle.ymx_tunnel.proofs.copying.fill.Given as goal

abbrev pub invariant-round : goal.invariant-round
invariant-round g l =
    HasFilled (g.I.Inlet.remaining l.initial.reader) (g.I.Inlet.remaining l.reader) (g.S.Sink.taken l.initial.sink) (g.S.Sink.taken l.sink) l.bytes
    (g.I.Inlet.failures l.initial.reader) (g.I.Inlet.failures l.reader)
