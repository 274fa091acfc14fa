-- How many bytes several pieces have.
use Rattle.std.proofs.Common.{◌≡◌, ℕ, ◌+◌, ◌-◌, ◌<◌, ◌≤◌, List, [], ◌∷◌, ◌++◌, true, false, nat_le, length, take, drop, get_or, sym, ap, ◌∙◌, arith, append-nil, length-append, take-append-drop}
use Rattle.std.proofs.lemmas.Bool.Decides.{nat_tests}
use Rattle.std.proofs.lemmas.Grind.{flat_map-append, take_at_read}
use Rattle.std.proofs.lemmas.List.{take_all}
use Rattle.std.specs.declared.io.slices.IoSlice.{IoSlice}
use Rattle.std.specs.Io.Slices.{io_slice_bytes, io_slices_bytes}

-- the bytes of one piece more
next_is : (xs : List IoSlice) (at : ℕ) (piece : IoSlice) → at < length xs → io_slices_bytes (take (at + 1) xs) ≡ io_slices_bytes (take at xs) ++ io_slice_bytes (get_or xs at piece)
next_is xs at piece within =
    ap io_slices_bytes ((take_at_read xs at piece within).1) ∙ flat_map-append io_slice_bytes (take at xs) (get_or xs at piece ∷ [])
    ∙ ap (λ (v : List ℕ). io_slices_bytes (take at xs) ++ v) (append-nil (io_slice_bytes (get_or xs at piece)))

next_count : (xs : List IoSlice) (at : ℕ) (piece : IoSlice) (bytes : List ℕ) → at < length xs → bytes ≡ io_slice_bytes (get_or xs at piece) → length (io_slices_bytes (take (at + 1) xs)) ≡ length (io_slices_bytes (take at xs)) + length bytes
next_count xs at piece bytes within is = rw is (ap length (next_is xs at piece within) ∙ length-append (io_slices_bytes (take at xs)) (io_slice_bytes (get_or xs at piece)))

whole : (xs : List IoSlice) (n : ℕ) → length (io_slices_bytes xs) ≡ length (io_slices_bytes (take n xs)) + length (io_slices_bytes (drop n xs))
whole xs n =
    ap (λ (v : List IoSlice). length (io_slices_bytes v)) (sym (take-append-drop n xs)) ∙ ap length (flat_map-append io_slice_bytes (take n xs) (drop n xs))
    ∙ length-append (io_slices_bytes (take n xs)) (io_slices_bytes (drop n xs))

more_than : (all count : ℕ) → count < all → nat_le all count ≡ false
more_than all count h = grind (arith, nat_tests, h)

as_many : (all count : ℕ) → all ≤ count → nat_le all count ≡ true
as_many all count h = grind (arith, nat_tests, h)

-- this piece has more bytes than are left of so many
pub too_many : (xs : List IoSlice) (at : ℕ) (piece : IoSlice) (bytes : List ℕ) (left count : ℕ) → at < length xs → bytes ≡ io_slice_bytes (get_or xs at piece) → left + length (io_slices_bytes (take at xs)) ≡ count → left < length bytes → false ≡ nat_le (length (io_slices_bytes xs)) count
too_many xs at piece bytes left count within is so more =
    let next = next_count xs at piece bytes within is in
    let all = whole xs (at + 1) in
    sym (more_than (length (io_slices_bytes xs)) count (omega (arith, next, all, so, more)))

-- this piece has no more
pub one_more_fits : (xs : List IoSlice) (at : ℕ) (piece : IoSlice) (bytes : List ℕ) (left count : ℕ) → at < length xs → bytes ≡ io_slice_bytes (get_or xs at piece) → left + length (io_slices_bytes (take at xs)) ≡ count → length bytes ≤ left → (left - length bytes) + length (io_slices_bytes (take (at + 1) xs)) ≡ count
one_more_fits xs at piece bytes left count within is so few =
    let next = next_count xs at piece bytes within is in
    omega (arith, next, so, few)

all_taken : (xs : List IoSlice) (n : ℕ) → length xs ≤ n → take n xs ≡ xs
all_taken xs n h = take_all n xs h

-- none has more
pub all_fit : (xs : List IoSlice) (at left count : ℕ) → length xs ≤ at → left + length (io_slices_bytes (take at xs)) ≡ count → true ≡ nat_le (length (io_slices_bytes xs)) count
all_fit xs at left count end so =
    let same : length (io_slices_bytes (take at xs)) ≡ length (io_slices_bytes xs) = ap (λ (v : List IoSlice). length (io_slices_bytes v)) (all_taken xs at end) in
    sym (as_many (length (io_slices_bytes xs)) count (omega (arith, same, so)))
