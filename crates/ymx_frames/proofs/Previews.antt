-- What a line shows of a payload that comes in pieces.
use Rattle.std.proofs.Common.{◌≡◌, ℕ, zero, suc, ◌+◌, ◌-◌, nat_lt, ◌||◌, min, List, [], ◌∷◌, ◌++◌, length, take, Bool, Result, Ok, Err, IsOk, OnOk, arith, refl, sym, ◌∙◌, ap, length-append}
use Rattle.std.proofs.lemmas.Bool.Decides.{nat_tests}
use Rattle.std.proofs.lemmas.List.{length-take, take_min}
use Rattle.ymx_frames.specs.Lines.{Preview, preview}

-- the first n of two lists
take-both : (n : ℕ) (xs ys : List ℕ) → take n (xs ++ ys) ≡ take n xs ++ take (n - length xs) ys
take-both zero xs ys = let e : 0 - length xs ≡ 0 = omega arith in rw e refl
take-both (suc n) [] ys = let e : suc n - 0 ≡ suc n = omega arith in rw e refl
take-both (suc n) (x ∷ xs) ys =
    let e : suc n - length (x ∷ xs) ≡ n - length xs = omega arith in
    rw e (ap (λ (l : List ℕ). x ∷ l) (take-both n xs ys))

-- of a second list as many as there is room for
take-room : (n room fits : ℕ) (xs ys : List ℕ) → room + length (take n xs) ≡ n → fits ≡ min (length ys) room → take n (xs ++ ys) ≡ take n xs ++ take fits ys
take-room n room fits xs ys p q =
    let left : n - length xs ≡ room = omega (arith, length-take n xs) in
    let enough : fits ≡ min room (length ys) = omega arith in
    take-both n xs ys ∙ ap (λ (l : List ℕ). take n xs ++ l) (ap (λ (k : ℕ). take k ys) left ∙ sym (take_min room ys) ∙ ap (λ (k : ℕ). take k ys) (sym enough))

more-both : (n room : ℕ) (xs ys : List ℕ) → room + length (take n xs) ≡ n → (nat_lt n (length xs) || nat_lt room (length ys)) ≡ nat_lt n (length (xs ++ ys))
more-both n room xs ys p = grind (arith, nat_tests, length-take, length-append)

-- what is known on success, where there is success
pub was_ok : {E : Type 0} (r : Result (Unit {0}) E) (P : Type 0) → IsOk r → OnOk r P → P
was_ok (Ok u) P p q = q
was_ok (Err e) P p q = cc

abbrev pub shown : List ℕ → Bool → Preview
shown bytes more = record { bytes = bytes; more = more }

alike : (a b : List ℕ) (m n : Bool) → a ≡ b → m ≡ n → shown a m ≡ shown b n
alike a b m n p q = λ i. record { bytes = p i; more = q i }

-- a piece of a payload adds to what is shown as many bytes as there is room for
pub preview_added : (payload piece old new : List ℕ) (more : Bool) (room fits : ℕ) → shown old more ≡ preview payload → room + length old ≡ 16 → fits ≡ min (length piece) room →
    new ≡ old ++ take fits piece → shown new (more || nat_lt room (length piece)) ≡ preview (payload ++ piece)
preview_added payload piece old new more room fits was r f e =
    let bytes : old ≡ take 16 payload = ap (λ (p : Preview). p.bytes) was in
    let others : more ≡ nat_lt 16 (length payload) = ap (λ (p : Preview). p.more) was in
    let room_is : room + length (take 16 payload) ≡ 16 = rw bytes at r in
    alike _ _ _ _
    (e ∙ ap (λ (l : List ℕ). l ++ take fits piece) bytes ∙ sym (take-room 16 room fits payload piece room_is f))
    (ap (λ (b : Bool). b || nat_lt room (length piece)) others ∙ more-both 16 room payload piece room_is)
