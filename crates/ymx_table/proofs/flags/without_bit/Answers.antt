-- The bits above the one that goes move down.
use Rattle.std.proofs.Common.{◌≡◌, ◌+◌, ◌<◌, Bool, true, false, arith, ap, refl, ◌∙◌, eqb, nat_lt, if◌then◌else◌}
use Rattle.std.specs.Prelude.{◌==◌}
use mir.Val.{bool_byte}
use Rattle.ymx_table.specs.Flags.{bit}
use Rattle.ymx_table.proofs.Bits.{bit-taken_out}
use Rattle.ymx_table.proofs.flags.without_bit.Goals as goal

small : (b : Bool) → bool_byte b < 2
small true = omega arith
small false = omega arith

is_one : (b : Bool) → eqb (bool_byte b) 1 ≡ b
is_one true = refl
is_one false = refl

pub returns : goal.returns
returns c k h =
    rw c.from.ensures
    (bit-taken_out c.args.word c.args.at k (bool_byte c.args.top) (omega arith) c.requires h (small c.args.top)
    ∙ ap (λ b. if nat_lt k c.args.at then bit c.args.word k else if k == 63 then b else bit c.args.word (k + 1)) (is_one c.args.top))
