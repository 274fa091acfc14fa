-- Seats in another order: those that are numbered 0, 1, 2, .. in some order are so once they are sorted.
use Rattle.std.proofs.Common.{◌≡◌, ℕ, suc, ◌==◌, ◌+◌, ◌≤◌, ◌<◌, List, [], ◌∷◌, length, Bool, true, false, cond, All, sum_by, IsPermutation, refl, sym, ap, ◌∙◌, arith}
use Rattle.std.specs.List.Sorted.{IsNonDecreasingBy}
use Rattle.std.proofs.lemmas.Bool.Decides.{nat_tests}
use Rattle.std.proofs.lemmas.List.Sums.{sum_by-cons}
use Rattle.std.proofs.lemmas.List.Sorted.{IsPermutation-sym, IsPermutation-trans, length_permutation, All-permutation, sum_by-IsPermutation}
use Rattle.std.proofs.lemmas.List.Elements.{All-cons, All-nil, All-head, All-tail, All-weaker}
use Rattle.ymx_model.specs.declared.types.Entry.{Entry}
use Rattle.ymx_seats.specs.Views.{SeatView}
use Rattle.ymx_seats.specs.Tallies.{NumberedFrom, IsOwn, Tallies}
use Rattle.ymx_seats.proofs.Parts.{hits}

abbrev one_where : Bool → ℕ
one_where b = cond b 1 0

-- how many seats have this number
abbrev count_numbered : ℕ → List SeatView → ℕ
count_numbered n ss = sum_by (λ s. one_where (n == s.number)) ss

first_numbered : (n : ℕ) (s : SeatView) (ss : List SeatView) → count_numbered n (s ∷ ss) ≡ one_where (n == s.number) + count_numbered n ss
first_numbered n s ss = sum_by-cons (λ (s : SeatView). one_where (n == s.number)) s ss

-- none where each number is above it
too_low : (ss : List SeatView) (n : ℕ) → All (λ s. n < s.number) ss → count_numbered n ss ≡ 0
too_low [] n a = refl
too_low (s ∷ ss) n a =
    let h : n < s.number = All-head (λ (s : SeatView). n < s.number) s ss a in
    let d : (n == s.number) ≡ false = grind (arith, nat_tests) in
    let here : one_where (n == s.number) ≡ 0 = ap one_where d in
    omega (arith, here, too_low ss n (All-tail (λ (s : SeatView). n < s.number) s ss a), first_numbered n s ss)

above_by : (b : Bool) (s : SeatView) (n : ℕ) → (n == s.number) ≡ b → n ≤ s.number → one_where b < 1 → n < s.number
above_by true s n d h z = absurd (omega arith)
above_by false s n d h z = grind (arith, nat_tests)

-- if none has this number, and none is below it, all are above
all_above : (ss : List SeatView) (n : ℕ) → All (λ s. n ≤ s.number) ss → count_numbered n ss ≡ 0 → All (λ s. n + 1 ≤ s.number) ss
all_above [] n a z = All-nil (λ s. n + 1 ≤ s.number)
all_above (s ∷ ss) n a z =
    let c = first_numbered n s ss in
    let h : n ≤ s.number = All-head (λ (s : SeatView). n ≤ s.number) s ss a in
    All-cons (λ s. n + 1 ≤ s.number) s ss
    (let k = above_by (n == s.number) s n refl h (omega (arith, c)) in omega (arith, k))
    (all_above ss n (All-tail (λ (s : SeatView). n ≤ s.number) s ss a) (omega (arith, c)))

first_by : (b : Bool) (s : SeatView) (ss : List SeatView) (from : ℕ) → (from == s.number) ≡ b → from ≤ s.number → All (λ t. s.number ≤ t.number) ss → count_numbered from (s ∷ ss) ≡ 1 → s.number ≡ from
first_by true s ss from d h a one = grind (arith, nat_tests)
first_by false s ss from d h a one =
    let k : from < s.number = grind (arith, nat_tests) in
    let none = too_low ss from (All-weaker (λ (t : SeatView). s.number ≤ t.number) (λ t. from < t.number) (λ t q. omega (arith, q)) ss a) in
    let here : one_where (from == s.number) ≡ 0 = ap one_where d in
    absurd (omega (arith, none, here, first_numbered from s ss))

-- the numbers do not fall, and each from `from` on is there once
numbered_in_order : (ss : List SeatView) (from : ℕ) → IsNonDecreasingBy (λ s. s.number) ss → All (λ s. from ≤ s.number) ss → ((n : ℕ) → from ≤ n → n < from + length ss → count_numbered n ss ≡ 1) → NumberedFrom from ss
numbered_in_order [] from up a once = tt
numbered_in_order (s ∷ ss) from up a once =
    let low : All (λ t. s.number ≤ t.number) ss = λ k d h. up 0 (suc k) d (omega arith) (omega arith) in
    let h : from ≤ s.number = All-head (λ (s : SeatView). from ≤ s.number) s ss a in
    let one = once from (omega arith) (omega arith) in
    let e = first_by (from == s.number) s ss from refl h low one in
    let d : (from == s.number) ≡ true = grind (arith, nat_tests, e) in
    let here : one_where (from == s.number) ≡ 1 = ap one_where d in (
      e,
      numbered_in_order ss (from + 1) (λ i j d k l. up (suc i) (suc j) d (omega arith) (omega arith))
          (all_above ss from (All-tail (λ (s : SeatView). from ≤ s.number) s ss a) (omega (arith, one, here, first_numbered from s ss)))
          (λ n k l.
          let q : (n == s.number) ≡ false = grind (arith, nat_tests, e) in
          let none : one_where (n == s.number) ≡ 0 = ap one_where q in
          omega (arith, once n (omega arith) (omega arith), none, first_numbered n s ss)),
    )

from_first : (ss : List SeatView) (from : ℕ) → NumberedFrom from ss → All (λ s. from ≤ s.number) ss
from_first [] from n = All-nil (λ s. from ≤ s.number)
from_first (s ∷ ss) from n =
    All-cons (λ s. from ≤ s.number) s ss (let e : s.number ≡ from = n.0 in omega arith)
    (All-weaker (λ (t : SeatView). from + 1 ≤ t.number) (λ t. from ≤ t.number) (λ t h. omega (arith, h)) ss (from_first ss (from + 1) n.1))

-- what is numbered in some order is so once it is sorted
pub numbered_once_sorted : (order ss : List SeatView) → IsPermutation order ss → IsNonDecreasingBy (λ s. s.number) ss → NumberedFrom 0 order → NumberedFrom 0 ss
numbered_once_sorted order ss p up n =
    numbered_in_order ss 0 up (All-permutation (λ s. 0 ≤ s.number) order ss p (from_first order 0 n))
    (λ k h l. sum_by-IsPermutation (λ s. one_where (k == s.number)) order ss p ∙ hits order 0 k 1 n h (omega (arith, length_permutation order ss p)))

-- what agrees in some order does so once it is sorted
pub agrees_once_sorted : (given order ss : List SeatView) (es : List Entry) → IsPermutation given order → IsPermutation given ss → IsNonDecreasingBy (λ s. s.number) ss → Tallies order es → Tallies ss es
agrees_once_sorted given order ss es p q up a =
    let r = IsPermutation-trans order given ss (IsPermutation-sym given order p) q in
    record {
      numbers = numbered_once_sorted order ss r up a.numbers;
      counted = λ weight. a.counted weight ∙ sym (sum_by-IsPermutation (λ s. sum_by weight s.entries) order ss r);
      own = All-permutation IsOwn order ss r a.own;
    }
