use Rattle.ymx_engine.proofs.Sharing.{among, paced}
use Rattle.ymx_engine.proofs.Turned.{FirstHasTurn, first_has_turn, none_runs}
use Rattle.ymx_engine.proofs.tunnel.Tunnel.serve_next.Goals as goal

pub returns-in_err-id-clause-runs : goal.returns-in_err-id-clause-runs
returns-in_err-id-clause-runs g c = let n = c.in_err-id.ensures in none_runs _ c.args.self.now c.next.new.self c.self.view_is c.next.ensures.connections n.none.2

served : (g : _) (c : goal.After-serve-gave g) → FirstHasTurn c.in_ok-id.id c.serve-gave.result c.args.self.now c.serve-gave.new.self
served g c =
    let s = c.serve-gave.ensures in
    first_has_turn c.in_ok-id.id c.serve-gave.result _ c.args.self.now c.serve-gave.new.self c.next.new.self c.self.view_is (record {
      connections = c.next.ensures.connections;
      first = c.in_ok-id.ensures.some;
      there = c.in_ok-id.ensures.there;
      missed = c.next.ensures.missed;
      held = c.next.ensures.held;
      turned = record { served = s.served; none = s.none; others = s.others; incoming = s.incoming; wire = s.wire; serves = s.serves };
    })

pub returns-clause-runs : goal.returns-clause-runs
returns-clause-runs g c = (served g c).runs

pub returns-clause-stays : goal.returns-clause-stays
returns-clause-stays g c = (served g c).stays

pub returns-clause-rests : goal.returns-clause-rests
returns-clause-rests g c = (served g c).rests

pub returns-clause-turn : goal.returns-clause-turn
returns-clause-turn g c = (served g c).turn

pub returns-clause-among : goal.returns-clause-among
returns-clause-among g c = λ id waits. among c.in_ok-id.id c.serve-gave.result _ _ (served g c).turn id waits

pub returns-clause-paced : goal.returns-clause-paced
returns-clause-paced g c = λ slow. paced c.in_ok-id.id c.serve-gave.result _ _ (served g c).turn slow
