use Rattle.ymx_tunnel.proofs.Moving.{HasEmptied}
use Rattle.ymx_tunnel.proofs.copying.empty.Given as goal

abbrev pub invariant-round : goal.invariant-round
invariant-round g l =
    HasEmptied (g.S.Source.given l.initial.source) (g.S.Source.given l.source) (g.O.Outlet.contents l.initial.writer) (g.O.Outlet.contents l.writer) l.bytes
    (g.O.Outlet.failures l.initial.writer) (g.O.Outlet.failures l.writer)
