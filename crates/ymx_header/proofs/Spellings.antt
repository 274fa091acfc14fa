-- A header and its twelve bytes are each other's only reading.
use Rattle.std.proofs.Common.{◌≡◌, ℕ, zero, suc, ◌+◌, ◌*◌, ◌^◌, ◌<◌, List, [], ◌∷◌, ◌++◌, length, drop, get_or, arith, refl, sym, ◌∙◌, ap, drop-cons}
use Rattle.std.proofs.lemmas.Grind.{common_steps}
use Rattle.byteorder.specs.Endian.{big_bytes}
use Rattle.ymx_header.specs.Headers.{spelling, header_of, IsInRange}
use Rattle.ymx_header.specs.declared.header.Header.{Header}

pub length-spelling : (h : Header) → length (spelling h) ≡ 12
length-spelling h = refl

pub header_of-spelling : (h : Header) → IsInRange h → header_of (spelling h) ≡ h
header_of-spelling h r = grind (arith, common_steps)

-- the n elements from place i on
abbrev elements : ℕ → ℕ → List ℕ → List ℕ
elements i zero xs = []
elements i (suc n) xs = get_or xs i 0 ∷ elements (suc i) n xs

elements-all : (i n : ℕ) (xs : List ℕ) → i + n ≡ length xs → elements i n xs ≡ drop i xs
elements-all i zero xs e = grind (arith, common_steps)
elements-all i (suc n) xs e =
    let more : i < length xs = omega arith in
    let rest : suc i + n ≡ length xs = omega arith in
    ap (λ ys. get_or xs i 0 ∷ ys) (elements-all (suc i) n xs rest) ∙ sym (drop-cons xs i 0 more)

-- the bytes of the number that two and four bytes make
two-back : (a b : ℕ) → a < 256 → b < 256 → big_bytes 2 (a * 256 ^ 1 + (b * 256 ^ 0 + 0)) ≡ a ∷ b ∷ []
two-back a b p q = grind arith

four-back : (a b c d : ℕ) → a < 256 → b < 256 → c < 256 → d < 256 →
    big_bytes 4 (a * 256 ^ 3 + (b * 256 ^ 2 + (c * 256 ^ 1 + (d * 256 ^ 0 + 0)))) ≡ a ∷ b ∷ c ∷ d ∷ []
four-back a b c d p q r s = grind arith

fields_join : (v k : ℕ) (f f' i i' l l' : List ℕ) → f ≡ f' → i ≡ i' → l ≡ l' → v ∷ k ∷ (f ++ i ++ l) ≡ v ∷ k ∷ (f' ++ i' ++ l')
fields_join v k f f' i i' l l' p q r = cc

pub spelling-header_of : (bytes : List ℕ) → length bytes ≡ 12 → ((k : ℕ) → get_or bytes k 0 < 256) → spelling (header_of bytes) ≡ bytes
spelling-header_of bytes twelve small =
    fields_join _ _ _ _ _ _ _ _
    (two-back (get_or bytes 2 0) (get_or bytes 3 0) (small 2) (small 3))
    (four-back (get_or bytes 4 0) (get_or bytes 5 0) (get_or bytes 6 0) (get_or bytes 7 0) (small 4) (small 5) (small 6) (small 7))
    (four-back (get_or bytes 8 0) (get_or bytes 9 0) (get_or bytes 10 0) (get_or bytes 11 0) (small 8) (small 9) (small 10) (small 11))
    ∙ elements-all 0 12 bytes (sym twelve)

pub read_back : (bytes : List ℕ) (h : Header) → h ≡ header_of bytes → length bytes ≡ 12 → ((k : ℕ) → get_or bytes k 0 < 256) → spelling h ≡ bytes
read_back bytes h e twelve small = ap spelling e ∙ spelling-header_of bytes twelve small

pub only_one : (bytes : List ℕ) (h read : Header) → read ≡ header_of bytes → IsInRange h → spelling h ≡ bytes → h ≡ read
only_one bytes h read e r s = sym (header_of-spelling h r) ∙ ap header_of s ∙ sym e
