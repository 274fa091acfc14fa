-- A frame in a buffer: a header, and a payload after it.
use Rattle.std.proofs.Common.{◌≡◌, ℕ, ◌+◌, ◌-◌, ◌≤◌, List, [], ◌++◌, length, take, drop, min, arith}
use Rattle.std.proofs.lemmas.Grind.{common_steps}
use Rattle.ymx_header.specs.Headers.{spelling}
use Rattle.ymx_header.specs.declared.header.Header.{Header}
use borrow.Rule.Slice.PartMut.{put_mid, mid_of, post_of}

-- a header has twelve bytes
pub length-spelling : (h : Header) → length (spelling h) ≡ 12
length-spelling h = grind (arith, common_steps)

-- a part of a buffer that is filled with the first of the bytes that wait
pub put_mid-filled : (at count taken : ℕ) (buffer waiting part : List ℕ) → at + count ≤ length buffer → count ≤ length waiting →
    taken ≡ min (length (mid_of at (at + count - at) buffer)) (length waiting) →
    part ≡ take taken waiting ++ drop taken (mid_of at (at + count - at) buffer) →
    put_mid at (at + count - at) buffer part ≡ take at buffer ++ take count waiting ++ drop (at + count) buffer
put_mid-filled at count taken buffer waiting part fits there number is = grind (arith, common_steps)

-- a payload that is put after its header, which has `at` bytes
pub put-behind : (at : ℕ) (head bytes buffer put new : List ℕ) → length head ≡ at → put ≡ head ++ drop at buffer → new ≡ bytes → at + length bytes ≤ length buffer →
    take at put ++ (new ++ post_of at (at + length bytes - at) put) ≡ head ++ (bytes ++ drop (at + length bytes) buffer)
put-behind at head bytes buffer put new l p n fits = grind (arith, common_steps)

-- after all bytes there are none
pub drop-all : (n : ℕ) (xs : List ℕ) → length xs ≤ n → drop n xs ≡ []
drop-all n xs l = grind (arith, common_steps)
