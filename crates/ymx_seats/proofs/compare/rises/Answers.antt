use Rattle.std.proofs.Common.{arith}
use Rattle.ymx_seats.proofs.Parts.{rises_on, after_on, rises_next}
use Rattle.ymx_seats.proofs.compare.rises.Goals as goal

pub loop-entry-preserved : goal.loop-entry-preserved
loop-entry-preserved c = record {
  rising = rises_on c.args.mine.now c.loop-entry.entry-index c.entry-item.result c.args.start (omega arith) c.entry-item.is c.loop-entry.invariant.rising (omega (arith, c.loop-entry.invariant.next));
  next = after_on c.args.mine.now c.loop-entry.entry-index c.entry-item.result c.args.start (omega arith) c.entry-item.is;
}

pub returns-then-entry-next : goal.returns-then-entry-next
returns-then-entry-next c = (λ t. absurd (cc), λ r. absurd (omega (arith, rises_next c.args.mine.now c.loop-entry.entry-index c.entry-item.result c.args.start (omega arith) c.entry-item.is r, c.loop-entry.invariant.next)))
