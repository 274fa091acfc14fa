-- Bytes that are counted.
use Rattle.std.proofs.Common.{◌≡◌, ℕ, ◌+◌, ◌-◌, ◌^◌, List, [], ◌++◌, length, min, arith}
use Rattle.std.proofs.lemmas.Grind.{common_steps}
use Rattle.ymx_connect.specs.Pumps.{byte_count}

pub counted_none : 0 ≡ byte_count []
counted_none = omega arith

-- more bytes are counted on
pub counted_on : (xs ys : List ℕ) (moved n now : ℕ) → moved ≡ byte_count xs → length ys ≡ n → now ≡ min (moved + n) (2 ^ 64 - 1) → now ≡ byte_count (xs ++ ys)
counted_on xs ys moved n now e l s = grind (arith, common_steps)
