-- The other bits stay.
use Rattle.ymx_table.proofs.Bits.{bit-set, bit-clear}
use Rattle.ymx_table.proofs.flags.with_bit.Goals as goal

pub returns-then-is_set : goal.returns-then-is_set
returns-then-is_set c k h = rw c.if-is_set.true (bit-set c.args.word c.args.at k c.requires)

pub returns-else-is_set : goal.returns-else-is_set
returns-else-is_set c k h = rw c.if-is_set.false (bit-clear c.args.word c.args.at k c.requires h)
