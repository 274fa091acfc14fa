use Rattle.std.proofs.Common.{refl}
use Rattle.ymx_engine.proofs.Attending.{runs_from}
use Rattle.ymx_engine.proofs.Entering.{runs_connection_noted, stays_connection_noted, stays_from}
use Rattle.ymx_engine.proofs.tunnel.Tunnel.note_connection.Goals as goal

pub returns-clause-runs : goal.returns-clause-runs
returns-clause-runs g c = runs_from _ _ _ c.self.view_is (runs_connection_noted _ _ c.args.id c.args.ready refl refl c.note.ensures.noted c.note.ensures.none)

pub returns-clause-stays : goal.returns-clause-stays
returns-clause-stays g c = stays_from _ _ _ c.self.view_is (stays_connection_noted _ _ c.args.id c.args.ready refl c.note.ensures.noted c.note.ensures.none)
