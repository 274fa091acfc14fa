-- A bit of the flags, tested by a mask.
use Rattle.std.proofs.Common.{◌≡◌, ℕ, ◌/◌, ◌%◌, ◌*◌, ◌<◌, not, ◌==◌, nat_eq, bit_and, arith}
use Rattle.std.proofs.lemmas.Bool.Decides.{nat_tests}
use Rattle.std.proofs.lemmas.Nat.Bits.{and_high}

-- a bit is set exactly if its worth isn't 0
bit_test : (bit worth : ℕ) → 0 < worth → bit < 2 → not (nat_eq (bit * worth) 0) ≡ (bit == 1)
bit_test bit worth some small = grind (arith, nat_tests)

pub mask_ack : (n : ℕ) → not (nat_eq (bit_and n 2) 0) ≡ (n / 2 % 2 == 1)
mask_ack n = rw (and_high n 1 1) (bit_test (n / 2 % 2) 2 (omega arith) (omega arith))

pub mask_fin : (n : ℕ) → not (nat_eq (bit_and n 4) 0) ≡ (n / 4 % 2 == 1)
mask_fin n = rw (and_high n 1 2) (bit_test (n / 4 % 2) 4 (omega arith) (omega arith))

pub mask_rst : (n : ℕ) → not (nat_eq (bit_and n 8) 0) ≡ (n / 8 % 2 == 1)
mask_rst n = rw (and_high n 1 3) (bit_test (n / 8 % 2) 8 (omega arith) (omega arith))
