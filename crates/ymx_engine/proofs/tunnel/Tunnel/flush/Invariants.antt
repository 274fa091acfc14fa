use Rattle.ymx_engine.proofs.Flushing.{WritesOn}
use Rattle.ymx_engine.proofs.tunnel.Tunnel.flush.Given as goal

abbrev pub invariant-write : goal.invariant-write
invariant-write g l = WritesOn l.turn l.initial.self l.self
