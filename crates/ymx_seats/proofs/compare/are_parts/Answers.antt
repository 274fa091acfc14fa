use Rattle.std.proofs.Common.{◌≡◌, All, subst, arith}
use Rattle.std.proofs.lemmas.Grind.{common_steps}
use Rattle.std.proofs.lemmas.List.{take_all}
use Rattle.ymx_seats.specs.Journals.{part}
use Rattle.ymx_seats.specs.Tallies.{RisesFrom}
use Rattle.ymx_seats.proofs.Parts.{parts_on, risings_on}
use Rattle.ymx_seats.proofs.compare.are_parts.Goals as goal

pub loop-seat-preserved : goal.loop-seat-preserved
loop-seat-preserved g c = record {
  parts = parts_on c.args.seats.now c.args.all.now c.loop-seat.seat-index c.seat-item.result (omega arith) c.seat-item.is c.loop-seat.invariant.parts (grind (arith, common_steps));
  rising = risings_on c.args.seats.now c.loop-seat.seat-index c.seat-item.result (omega arith) c.seat-item.is c.loop-seat.invariant.rising (grind (arith, common_steps));
}

pub returns-clause-parts : goal.returns-clause-parts
returns-clause-parts g c = λ _. subst (All (λ s. s.entries ≡ part s.number c.args.all.now)) (take_all c.loop-seat.seat-index c.args.seats.now (omega arith)) c.loop-seat.invariant.parts

pub returns-clause-rising : goal.returns-clause-rising
returns-clause-rising g c = λ _. subst (All (λ s. RisesFrom s.start s.entries)) (take_all c.loop-seat.seat-index c.args.seats.now (omega arith)) c.loop-seat.invariant.rising
