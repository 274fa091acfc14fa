-- One word more.
use Rattle.std.proofs.Common.{arith}
use Rattle.ymx_table.proofs.FlagWords.{taken_out_more}
use Rattle.ymx_table.proofs.flags.take_flag_out.Goals as goal

pub loop-i-preserved : goal.loop-i-preserved
loop-i-preserved c = taken_out_more c.args.words.now c.loop-i.words c.args.place c.loop-i.i c.without_bit.result (omega arith) (omega arith) c.loop-i.invariant
    (rw (c.saturating_sub-at.ensures, c.has_flag-top.ensures) at c.without_bit.ensures)
