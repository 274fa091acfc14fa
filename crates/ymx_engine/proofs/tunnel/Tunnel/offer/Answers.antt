use Rattle.std.proofs.Common.{refl, subst}
use Rattle.ymx_engine.specs.Steps.{StaysOver}
use Rattle.ymx_engine.specs.Tunnels.{Tunnel}
use Rattle.ymx_engine.proofs.Attending.{reads_on_from}
use Rattle.ymx_engine.proofs.InPlace.{offers_row}
use Rattle.ymx_engine.proofs.Readings.{runs_offered, rests_offered, closed_offered, rests_from}
use Rattle.ymx_engine.proofs.tunnel.Tunnel.offer.Goals as goal

pub returns-clause-runs : goal.returns-clause-runs
returns-clause-runs g c =
    let x = c.offer-taken.ensures in
    reads_on_from _ _ _ c.self.view_is (runs_offered c.args.row.id c.offer-taken.result _ _ _ c.waiting.ensures x.passed x.others x.status c.drop_front.ensures refl refl refl)

pub returns-clause-rests : goal.returns-clause-rests
returns-clause-rests g c = rests_from _ _ _ c.self.view_is (rests_offered c.args.row.id c.offer-taken.result _ _ _ _ _ c.offer-taken.ensures.passed refl)

pub returns-clause-closed : goal.returns-clause-closed
returns-clause-closed g c = subst (λ (t : Tunnel). StaysOver t.connections c.offer-taken.new.self) c.self.view_is (closed_offered c.args.row.id c.offer-taken.result _ _ _ _ _ c.offer-taken.ensures.passed)

pub returns-clause-passed : goal.returns-clause-passed
returns-clause-passed g c =
    let x = c.offer-taken.ensures in
    let runs = runs_offered c.args.row.id c.offer-taken.result _ _ _ c.waiting.ensures x.passed x.others x.status c.drop_front.ensures refl refl refl in
    offers_row c.args.row c.offer-taken.result _ _ _ _ c.self.view_is c.waiting.ensures c.requires.row x.in_row c.drop_front.ensures x.passed x.place (((runs.runs).attends).serves)
