-- The lowest bit of what is left.
use Rattle.std.proofs.Common.{arith}
use Rattle.ymx_table.proofs.Bits.{bit-none, bit-first, bit-within}
use Rattle.ymx_table.proofs.flags.first_bit.Goals as goal

pub returns-then-rest-eq0-clause-first : goal.returns-then-rest-eq0-clause-first
returns-then-rest-eq0-clause-first c = bit-none c.args.word c.args.from c.if-rest-eq0.true

pub returns-else-rest-eq0-clause-first : goal.returns-else-rest-eq0-clause-first
returns-else-rest-eq0-clause-first c = bit-first c.args.word c.args.from (omega arith) (omega arith)

pub returns-else-rest-eq0-clause-within : goal.returns-else-rest-eq0-clause-within
returns-else-rest-eq0-clause-within c =
    bit-within c.args.word _ (omega arith) (bit-first c.args.word c.args.from (omega arith) (omega arith)).passes
