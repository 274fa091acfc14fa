use Rattle.std.proofs.Common.{◌≡◌, ◌==◌, ℕ, List, [], length, true, false, refl, sym, ap, ◌∙◌}
use Rattle.ymx_engine.specs.Tunnels.{Tunnel}
use Rattle.ymx_engine.proofs.Attending.{keeps_from, runs_from, runs_keep, runs_same, runs_then}
use Rattle.ymx_engine.proofs.Carrying.{empty_of, not_empty}
use Rattle.ymx_engine.proofs.Placing.{keeps_waits}
use Rattle.ymx_engine.proofs.InPlace.{pulls_from, pulls_gave, pulls_lost}
use Rattle.ymx_engine.proofs.Readings.{reads_none, reads_from, rests_from, reads_gave, reads_lost, reads_anew, rests_on, none_to_read, over_to_read}
use Rattle.ymx_engine.proofs.tunnel.Tunnel.pull_wire.Goals as goal
use Rattle.ymx_engine.proofs.tunnel.Tunnel.pull_wire.Goals.{then-not-is_empty-via-then-not-is_empty, then-not-is_empty-via-else-not-is_empty+then-not-may_pull, then-not-is_empty-via-else-not-is_empty+else-not-may_pull+then-self}

pub returns-then-not-is_empty-clause-runs : goal.returns-then-not-is_empty-clause-runs
returns-then-not-is_empty-clause-runs g c = runs_same _

pub returns-then-not-is_empty-clause-reads : goal.returns-then-not-is_empty-clause-reads
returns-then-not-is_empty-clause-reads g c =
    reads_none c.args.self.now (λ fed may. elim c.then-not-is_empty.branch [
      | then-not-is_empty-via-then-not-is_empty w ↦
          let all : c.waiting.result.now ≡ [] = c.waiting.ensures ∙ ap (λ (t : Tunnel). t.engine.incoming) c.self.view_is ∙ fed in
          let yes : c.is_empty.result ≡ true = c.is_empty.ensures ∙ ap (λ (xs : List ℕ). length xs == 0) all in
          let no : true ≡ false = sym yes ∙ w.if-not-is_empty.true in absurd cc
      | then-not-is_empty-via-else-not-is_empty+then-not-may_pull w ↦
          let off = sym (w.may_pull.ensures ∙ ap (λ (t : Tunnel). t.wire.marks.may_pull) c.self.view_is) ∙ w.if-not-may_pull.true in
          let no : true ≡ false = sym may ∙ none_to_read c.args.self.now off in absurd cc
      | then-not-is_empty-via-else-not-is_empty+else-not-may_pull+then-self w ↦
          let over = sym (ap (λ (t : Tunnel). t.is_wire_over) c.self.view_is) ∙ w.if-self.true in
          let no : true ≡ false = sym may ∙ over_to_read c.args.self.now over in absurd cc
    ])

pub returns-in-Gave-clause-runs : goal.returns-in-Gave-clause-runs
returns-in-Gave-clause-runs g c =
    let none = empty_of c.waiting.result.now c.self.inside.incoming c.is_empty.result c.is_empty.ensures c.waiting.ensures c.if-not-is_empty.false in
    let x = c.pull_from.ensures in
    runs_from _ _ _ c.self.view_is (reads_gave c.pull_from.result x.0 _ _ none x.2 x.1 refl refl x.3 c.in-Gave.is c.count_turns.ensures refl refl).1

pub returns-in-Gave-clause-reads : goal.returns-in-Gave-clause-reads
returns-in-Gave-clause-reads g c =
    let none = empty_of c.waiting.result.now c.self.inside.incoming c.is_empty.result c.is_empty.ensures c.waiting.ensures c.if-not-is_empty.false in
    let x = c.pull_from.ensures in
    reads_from _ _ _ c.self.view_is (reads_gave c.pull_from.result x.0 _ _ none x.2 x.1 refl refl x.3 c.in-Gave.is c.count_turns.ensures refl refl).0

pub returns-in-Ended-clause-runs : goal.returns-in-Ended-clause-runs
returns-in-Ended-clause-runs g c =
    let none = empty_of c.waiting.result.now c.self.inside.incoming c.is_empty.result c.is_empty.ensures c.waiting.ensures c.if-not-is_empty.false in
    let x = c.pull_from.ensures in
    let l = c.lose.ensures in
    let k = (keeps_from _ _ _ c.self-in-Ended.view_is (keeps_waits _ c.count_turns-in-Ended.new.self _ c.count_turns-in-Ended.ensures)) in
    runs_then _ _ _ (runs_from _ _ _ c.self.view_is (reads_lost c.pull_from.result x.0 _ _ _ none x.2 x.1 refl refl x.3 c.in-Ended.is refl l.wire l.over l.event l.bytes l.connections l.serves l.memory l.lost).1.0) (runs_keep _ _ k)

pub returns-in-Ended-clause-rests : goal.returns-in-Ended-clause-rests
returns-in-Ended-clause-rests g c =
    let none = empty_of c.waiting.result.now c.self.inside.incoming c.is_empty.result c.is_empty.ensures c.waiting.ensures c.if-not-is_empty.false in
    let x = c.pull_from.ensures in
    let l = c.lose.ensures in
    let k = (keeps_from _ _ _ c.self-in-Ended.view_is (keeps_waits _ c.count_turns-in-Ended.new.self _ c.count_turns-in-Ended.ensures)) in
    rests_on _ _ _ (rests_from _ _ _ c.self.view_is (reads_lost c.pull_from.result x.0 _ _ _ none x.2 x.1 refl refl x.3 c.in-Ended.is refl l.wire l.over l.event l.bytes l.connections l.serves l.memory l.lost).1.1) k.wire k.connections.connections

pub returns-in-Ended-clause-reads : goal.returns-in-Ended-clause-reads
returns-in-Ended-clause-reads g c =
    let none = empty_of c.waiting.result.now c.self.inside.incoming c.is_empty.result c.is_empty.ensures c.waiting.ensures c.if-not-is_empty.false in
    let x = c.pull_from.ensures in
    let l = c.lose.ensures in
    let k = (keeps_from _ _ _ c.self-in-Ended.view_is (keeps_waits _ c.count_turns-in-Ended.new.self _ c.count_turns-in-Ended.ensures)) in
    reads_anew _ _ _ (reads_from _ _ _ c.self.view_is (reads_lost c.pull_from.result x.0 _ _ _ none x.2 x.1 refl refl x.3 c.in-Ended.is refl l.wire l.over l.event l.bytes l.connections l.serves l.memory l.lost).0) k

pub returns-in-Gave-clause-full : goal.returns-in-Gave-clause-full
returns-in-Gave-clause-full g c = λ some. let no : ⊥ = not_empty _ _ (empty_of c.waiting.result.now c.self.inside.incoming c.is_empty.result c.is_empty.ensures c.waiting.ensures c.if-not-is_empty.false) (ap (λ (t : Tunnel). t.engine.incoming) c.self.view_is) some in absurd no

pub returns-in-Ended-clause-full : goal.returns-in-Ended-clause-full
returns-in-Ended-clause-full g c = λ some. let no : ⊥ = not_empty _ _ (empty_of c.waiting.result.now c.self.inside.incoming c.is_empty.result c.is_empty.ensures c.waiting.ensures c.if-not-is_empty.false) (ap (λ (t : Tunnel). t.engine.incoming) c.self.view_is) some in absurd no

pub returns-in-Gave-clause-pulls : goal.returns-in-Gave-clause-pulls
returns-in-Gave-clause-pulls g c =
    let none = empty_of c.waiting.result.now c.self.inside.incoming c.is_empty.result c.is_empty.ensures c.waiting.ensures c.if-not-is_empty.false in
    let x = c.pull_from.ensures in
    pulls_from _ _ _ c.self.view_is (pulls_gave c.pull_from.result x.0 _ _ none x.2 refl x.3 c.count_turns.ensures)

pub returns-in-Ended-clause-pulls : goal.returns-in-Ended-clause-pulls
returns-in-Ended-clause-pulls g c =
    let none = empty_of c.waiting.result.now c.self.inside.incoming c.is_empty.result c.is_empty.ensures c.waiting.ensures c.if-not-is_empty.false in
    let x = c.pull_from.ensures in
    let l = c.lose.ensures in
    let now = c.self-in-Ended.view_is in
    let k = keeps_from _ _ _ now (keeps_waits _ c.count_turns-in-Ended.new.self _ c.count_turns-in-Ended.ensures) in
    let lost = reads_lost c.pull_from.result x.0 _ _ _ none x.2 x.1 refl refl x.3 c.in-Ended.is refl l.wire l.over l.event l.bytes l.connections l.serves l.memory l.lost in
    pulls_from _ _ _ c.self.view_is (pulls_lost c.pull_from.result x.0 _ _ _ _ _ _ none x.2 x.3 now l.wire l.bytes l.lost l.event l.connections (((lost.1).0).attends).serves k c.count_turns-in-Ended.ensures refl)
