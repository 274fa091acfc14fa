use Rattle.std.proofs.Common.{arith}
use Rattle.std.proofs.lemmas.Grind.{common_steps}
use Rattle.ymx_seats.proofs.Parts.{numbered_on, numbered_next}
use Rattle.ymx_seats.proofs.compare.are_numbered.Goals as goal

pub loop-seat-preserved : goal.loop-seat-preserved
loop-seat-preserved g c = record {
  numbered = numbered_on c.args.seats.now c.loop-seat.seat-index c.seat-item.result (omega arith) c.seat-item.is c.loop-seat.invariant.numbered (grind (arith, common_steps));
  next = omega (arith, c.loop-seat.invariant.next);
}

pub returns-then-number-next : goal.returns-then-number-next
returns-then-number-next g c = (λ t. absurd (cc), λ n. absurd (let q = numbered_next c.args.seats.now c.loop-seat.seat-index c.seat-item.result (omega arith) c.seat-item.is n in grind (arith, common_steps, q, c.number.ensures, c.loop-seat.invariant.next)))
