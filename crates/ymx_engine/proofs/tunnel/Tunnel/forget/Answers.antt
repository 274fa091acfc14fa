use Rattle.std.proofs.Common.{refl, ap, ◌∙◌, sym, subst}
use Rattle.ymx_session.specs.Replies.{done_or}
use Rattle.ymx_engine.specs.Tunnels.{Tunnel}
use Rattle.ymx_engine.proofs.Attending.{IsDone, runs_from}
use Rattle.ymx_engine.proofs.Entering.{runs_forgot}
use Rattle.ymx_engine.proofs.Tending.{forgotten_status}
use Rattle.ymx_engine.proofs.tunnel.Tunnel.forget.Goals as goal

pub returns-clause-runs : goal.returns-clause-runs
returns-clause-runs g c = runs_from _ _ _ c.self.view_is (runs_forgot _ _ c.args.id (done_or c.forget.result) (subst (λ (t : Tunnel). IsDone c.args.id t) (sym c.self.view_is) c.requires.over) c.forget.ensures.event (record { outgoing = refl; incoming = refl }) refl refl c.remove-device.ensures.gone c.remove-device.ensures.queues)

pub returns-clause-status : goal.returns-clause-status
returns-clause-status g c = forgotten_status c.args.id (done_or c.forget.result) _ _ c.forget.ensures.event ∙ ap (λ (t : Tunnel). t.engine.session.status) c.self.view_is
