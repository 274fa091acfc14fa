-- The bits of one word.
use Rattle.std.proofs.Common.{◌≡◌, ℕ, ◌+◌, ◌-◌, ◌*◌, ◌/◌, ◌%◌, ◌^◌, ◌<◌, ◌≤◌, true, false, eqb, if◌then◌else◌, nat_lt, refl, sym, ◌∙◌, ap, inl, inr, arith, eq-eqb, ne_eqb, lt-ltb, le-ltb, w64, add-one, min, max}
use Rattle.std.specs.Prelude.{bit_and, bit_or, ◌==◌}
use Rattle.std.specs.Int.{bit_at, bit_not, trailing_zeros}
use Rattle.std.proofs.lemmas.Bool.{cases_eq, cases_lt, both_ways}
use Rattle.std.proofs.lemmas.Nat.{one_shl, shl_whole, shr-shr, shr_le}
use Rattle.std.proofs.lemmas.Nat.Bits.{bit_at_set_same, bit_at_set_other, bit_at_clear_same, bit_at_clear_other, bit_at_or, bit_at_and, bit_at_not, bit_at-suc, bit_at-zero, bit_at-lt, bit_at_ones, bit_at_ones_above, bit_at_above, bit_at_cat_low, bit_at_cat_high, bit_at-trailing_zeros, bit_at_lowest}
use Rattle.ymx_table.specs.Flags.{bit, IsFirst}

-- `word | 1 << at`
pub bit-set : (word at k : ℕ) → at < 64 → bit (bit_or word (1 * 2 ^ at % 2 ^ 64)) k ≡ (if k == at then true else bit word k)
bit-set word at k h =
    elim (cases_eq k at) [
      | inl same ↦ rw (same, eq-eqb at at refl) (eq-eqb _ 1 (bit_at_set_same w64 word at h))
      | inr other ↦ rw (ne_eqb k at other) (ap (λ n. eqb n 1) (bit_at_set_other w64 word at h k other))
    ]

-- `word & !(1 << at)`
pub bit-clear : (word at k : ℕ) → at < 64 → k < 64
    → bit (bit_and word (bit_not w64 (1 * 2 ^ at % 2 ^ 64))) k ≡ (if k == at then false else bit word k)
bit-clear word at k h l =
    elim (cases_eq k at) [
      | inl same ↦ rw (same, eq-eqb at at refl) (ap (λ n. eqb n 1) (bit_at_clear_same w64 word at h))
      | inr other ↦ rw (ne_eqb k at other) (ap (λ n. eqb n 1) (bit_at_clear_other w64 word at h k l other))
    ]

plus_none : (n : ℕ) → n + 0 ≡ n
plus_none n = omega arith

-- the bits of `t << 63`
top_below : (t k : ℕ) → t < 2 → k < 63 → bit_at (t * 2 ^ 63 % 2 ^ 64) k ≡ 0
top_below t k h l =
    ap (λ n. bit_at n k) (shl_whole t 1 63 64 h (omega arith))
    ∙ ap (λ n. bit_at n k) (sym (plus_none (t * 2 ^ 63)))
    ∙ bit_at_cat_low t 63 0 k l ∙ bit_at-zero k

top_at : (t : ℕ) → t < 2 → bit_at (t * 2 ^ 63 % 2 ^ 64) 63 ≡ t
top_at t h =
    ap (λ n. bit_at n 63) (shl_whole t 1 63 64 h (omega arith))
    ∙ ap (λ n. bit_at n 63) (sym (plus_none (t * 2 ^ 63)))
    ∙ bit_at_cat_high t 63 0 63 (omega arith) (omega arith) ∙ bit_at_lowest t ∙ omega arith

-- the bits of `(word & m) | ((word >> 1) & !m) | s`
pub bit_at-merged : (word m s k : ℕ) → m < 2 ^ 64 → k < 64
    → bit_at (bit_or (bit_or (bit_and word m) (bit_and (word / 2) (bit_not w64 m))) s) k
    ≡ max (max (min (bit_at word k) (bit_at m k)) (min (bit_at word (k + 1)) (1 - bit_at m k))) (bit_at s k)
bit_at-merged word m s k h l =
    bit_at_or _ s k
    ∙ ap (λ n. max n (bit_at s k))
    (bit_at_or (bit_and word m) _ k
    ∙ ap2 (bit_at_and word m k)
    (bit_at_and (word / 2) (bit_not w64 m) k ∙ ap3 (sym (bit_at-suc word k) ∙ ap (bit_at word) (sym (add-one k))) (bit_at_not w64 m k h l)))
  where
    ap2 : {a b c d : ℕ} → a ≡ b → c ≡ d → max a c ≡ max b d
    ap2 e f = cc

    ap3 : {a b c d : ℕ} → a ≡ b → c ≡ d → min a c ≡ min b d
    ap3 e f = cc

module _ (word at k t : ℕ) (fits : word < 2 ^ 64) (h : at < 64) (l : k < 64) (one : t < 2) where
  mask : 1 * 2 ^ at % 2 ^ 64 - 1 ≡ 2 ^ at - 1
  mask = ap (λ n. n - 1) (one_shl at 64 h)

  mask_fits : 1 * 2 ^ at % 2 ^ 64 - 1 < 2 ^ 64
  mask_fits = omega arith

  all : bit_at (bit_or (bit_or (bit_and word (1 * 2 ^ at % 2 ^ 64 - 1)) (bit_and (word / 2) (bit_not w64 (1 * 2 ^ at % 2 ^ 64 - 1)))) (t * 2 ^ 63 % 2 ^ 64)) k
      ≡ max (max (min (bit_at word k) (bit_at (2 ^ at - 1) k)) (min (bit_at word (k + 1)) (1 - bit_at (2 ^ at - 1) k))) (bit_at (t * 2 ^ 63 % 2 ^ 64) k)
  all =
      bit_at-merged word (1 * 2 ^ at % 2 ^ 64 - 1) (t * 2 ^ 63 % 2 ^ 64) k mask_fits l
      ∙ ap (λ m. max (max (min (bit_at word k) (bit_at m k)) (min (bit_at word (k + 1)) (1 - bit_at m k))) (bit_at (t * 2 ^ 63 % 2 ^ 64) k)) mask

  -- bit `at` taken out of a word, with t above
  pub bit-taken_out : bit (bit_or (bit_or (bit_and word (1 * 2 ^ at % 2 ^ 64 - 1)) (bit_and (word / 2) (bit_not w64 (1 * 2 ^ at % 2 ^ 64 - 1)))) (t * 2 ^ 63 % 2 ^ 64)) k
      ≡ (if nat_lt k at then bit word k else if k == 63 then eqb t 1 else bit word (k + 1))
  bit-taken_out =
      elim (cases_lt k at) [
        | inl below ↦
            let m : bit_at (2 ^ at - 1) k ≡ 1 = bit_at_ones at k below in
            let s : bit_at (t * 2 ^ 63 % 2 ^ 64) k ≡ 0 = top_below t k one (omega arith) in
            let b = bit_at-lt word k in
            let b' = bit_at-lt word (k + 1) in
            rw (lt-ltb k at below) (ap (λ n. eqb n 1) (all ∙ rw (m, s) (omega arith)))
        | inr above ↦
            let m : bit_at (2 ^ at - 1) k ≡ 0 = bit_at_ones_above at k above in
            let b' = bit_at-lt word (k + 1) in
            rw (le-ltb k at above)
            (elim (cases_eq k 63) [
              | inl last ↦
                  let s : bit_at (t * 2 ^ 63 % 2 ^ 64) k ≡ t = ap (bit_at (t * 2 ^ 63 % 2 ^ 64)) last ∙ top_at t one in
                  let none : bit_at word (k + 1) ≡ 0 = bit_at_above word 64 (k + 1) fits (omega arith) in
                  rw (eq-eqb k 63 last) (ap (λ n. eqb n 1) (all ∙ rw (m, s, none) (omega arith)))
              | inr other ↦
                  let s : bit_at (t * 2 ^ 63 % 2 ^ 64) k ≡ 0 = top_below t k one (omega arith) in
                  rw (ne_eqb k 63 other) (ap (λ n. eqb n 1) (all ∙ rw (m, s) (omega arith)))
            ])
      ]

-- the bits of `word >> from`
pub bit_at-shr : (word from j : ℕ) → bit_at (word / 2 ^ from) j ≡ bit_at word (from + j)
bit_at-shr word from j = ap (λ n. n % 2) (shr-shr word from j)

-- where nothing is left, no bit is set
pub bit-none : (word from : ℕ) → word / 2 ^ from ≡ 0 → (k : ℕ) → from ≤ k → bit word k ≡ false
bit-none word from h k le =
    let e : from + (k - from) ≡ k = omega arith in
    ap (λ n. eqb n 1) (ap (bit_at word) (sym e) ∙ sym (bit_at-shr word from (k - from)) ∙ ap (λ n. bit_at n (k - from)) h ∙ bit_at-zero (k - from))

-- and else the lowest that is left is the first
pub bit-first : (word from : ℕ) → word < 2 ^ 64 → 0 < word / 2 ^ from → IsFirst (bit word) from (from + trailing_zeros w64 (word / 2 ^ from))
bit-first word from fits some =
    let rest : ℕ = word / 2 ^ from in
    let low = bit_at-trailing_zeros w64 rest some (omega (arith, shr_le word from)) in
    let at : ℕ = trailing_zeros w64 rest in
    let here : bit_at word (from + at) ≡ 1 = sym (bit_at-shr word from at) ∙ low.1 in
    record {
      behind = omega arith;
      passes = ap (λ n. eqb n 1) here;
      none_between = λ k le lt.
          let e : from + (k - from) ≡ k = omega arith in
          ap (λ n. eqb n 1) (ap (bit_at word) (sym e) ∙ sym (bit_at-shr word from (k - from)) ∙ low.2 (k - from) (omega arith));
    }

pub bit-within : (word k : ℕ) → word < 2 ^ 64 → bit word k ≡ true → k < 64
bit-within word k fits h =
    elim (cases_lt k 64) [
      | inl lt ↦ lt
      | inr ge ↦ let zero : bit word k ≡ false = ap (λ n. eqb n 1) (bit_at_above word 64 k fits ge) in absurd (both_ways _ zero h)
    ]
