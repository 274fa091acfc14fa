-- The first line feed of some bytes.
use Rattle.std.proofs.Common.{◌≡◌, ℕ, ◌+◌, ◌<◌, ◌==◌, List, [], ◌∷◌, ◌++◌, length, take, drop, Bool, true, false, not, ◌||◌, nat_lt, Option, None, Some, cond, refl, sym, ap, subst, ◌∙◌, arith}
use Rattle.std.proofs.lemmas.Grind.{common_steps}
use Rattle.std.specs.List.{position, position_or_len}
use Rattle.ymx_script.specs.Scripts.{has_feed, EndsLine}

-- how many bytes stand before the first line feed
abbrev pub line_len : List ℕ → ℕ
line_len bytes = position_or_len (λ b. b == 10) bytes

front_step : (b : ℕ) (bs : List ℕ) (is : Bool) → (b == 10) ≡ is → has_feed (take (line_len bs) bs) ≡ false →
    has_feed (take (cond (not is) (1 + line_len bs) 0) (b ∷ bs)) ≡ false
front_step b bs true e h = grind (arith, common_steps)
front_step b bs false e h =
    let front : take (1 + line_len bs) (b ∷ bs) ≡ b ∷ take (line_len bs) bs = grind (arith, common_steps) in
    ap has_feed front ∙ ap (λ t. t || has_feed (take (line_len bs) bs)) e ∙ h

-- what stands before the first line feed has none
pub front_one : (bytes : List ℕ) → has_feed (take (line_len bytes) bytes) ≡ false
front_one [] = refl
front_one (b ∷ bs) = front_step b bs (b == 10) refl (front_one bs)

feed_step : (b : ℕ) (bs : List ℕ) (is : Bool) → (b == 10) ≡ is → (line_len bs < length bs → bs ≡ take (line_len bs) bs ++ 10 ∷ drop (line_len bs + 1) bs) →
    cond (not is) (1 + line_len bs) 0 < length (b ∷ bs) →
    b ∷ bs ≡ take (cond (not is) (1 + line_len bs) 0) (b ∷ bs) ++ 10 ∷ drop (cond (not is) (1 + line_len bs) 0 + 1) (b ∷ bs)
feed_step b bs true e g h =
    let same : b ≡ 10 = grind arith in
    ap (λ x. x ∷ bs) same ∙ grind (arith, common_steps)
feed_step b bs false e g h =
    let short : line_len bs < length bs = grind arith in
    let front : take (1 + line_len bs) (b ∷ bs) ≡ b ∷ take (line_len bs) bs = grind (arith, common_steps) in
    let rest : drop (1 + line_len bs + 1) (b ∷ bs) ≡ drop (line_len bs + 1) bs = grind (arith, common_steps) in
    ap (λ (zs : List ℕ). b ∷ zs) (g short) ∙ sym (ap (λ (zs : List ℕ). zs ++ 10 ∷ drop (1 + line_len bs + 1) (b ∷ bs)) front ∙ ap (λ (zs : List ℕ). (b ∷ take (line_len bs) bs) ++ 10 ∷ zs) rest)

-- at the first line feed the bytes are cut in two
pub at_feed : (bytes : List ℕ) → line_len bytes < length bytes → bytes ≡ take (line_len bytes) bytes ++ 10 ∷ drop (line_len bytes + 1) bytes
at_feed [] h = absurd (omega (arith, h))
at_feed (b ∷ bs) h = feed_step b bs (b == 10) refl (at_feed bs) h

-- a place that is told only where there is one
pub not_found : (t : Bool) (n : ℕ) → cond t (Some n) None ≡ None → t ≡ false
not_found true n h = cc
not_found false n h = refl

pub found_at : (t : Bool) (n i : ℕ) → cond t (Some n) None ≡ Some i → (t ≡ true) × (n ≡ i)
found_at true n i h = (refl, cc)
found_at false n i h = cc

-- where there is none it is one line
pub found_none : (bytes : List ℕ) (found : Option ℕ) → found ≡ position (λ b. b == 10) bytes → found ≡ None → has_feed bytes ≡ false
found_none bytes found is none =
    let t = not_found (nat_lt (line_len bytes) (length bytes)) (line_len bytes) (sym is ∙ none) in
    let whole : take (line_len bytes) bytes ≡ bytes = grind (arith, common_steps) in
    subst (λ (zs : List ℕ). has_feed zs ≡ false) whole (front_one bytes)

-- where there is one, a line ends there
pub found_some : (bytes : List ℕ) (found : Option ℕ) (i : ℕ) → found ≡ position (λ b. b == 10) bytes → found ≡ Some i → EndsLine bytes i
found_some bytes found i is some =
    let h = found_at (nat_lt (line_len bytes) (length bytes)) (line_len bytes) i (sym is ∙ some) in
    let within : line_len bytes < length bytes = grind arith in
    subst (λ (n : ℕ). EndsLine bytes n) h.1 (record { within = within; one = front_one bytes; cut = at_feed bytes within })

-- a line of two parts
pub one_of_parts : (xs ys : List ℕ) → has_feed xs ≡ false → has_feed ys ≡ false → has_feed (xs ++ ys) ≡ false
one_of_parts [] ys h k = k
one_of_parts (x ∷ xs) ys h k = grind (arith, one_of_parts xs ys)
