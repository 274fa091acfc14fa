use Rattle.std.proofs.Common.{ap}
use Rattle.ymx_engine.proofs.Attending.{runs_then}
use Rattle.ymx_loop.proofs.Going.{runs_behind}
use Rattle.ymx_loop.specs.declared.session.SessionLoop.{SessionLoop}
use Rattle.ymx_loop.proofs.session.SessionLoop.ask.Goals as goal
use Rattle.ymx_loop.proofs.session.SessionLoop.ask.Goals.{in_default-via-in-None-1, in_default-via-in-Some+else-matches-2}

pub returns-2 : goal.returns-2
returns-2 g c = elim c.in_default.branch [ in_default-via-in-None-1 w ↦ runs_behind _ _ _ (ap (λ (v : SessionLoop _ _). v.tunnel) w.self-is) c.ping.ensures.runs | in_default-via-in-Some+else-matches-2 w ↦ runs_then _ _ _ w.ponged.ensures.runs (runs_behind _ _ _ (ap (λ (v : SessionLoop _ _). v.tunnel) w.self-is) c.ping.ensures.runs) ]
