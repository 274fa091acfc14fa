-- The first word of a line, and those after it.
use Rattle.std.proofs.Common.{◌≡◌, ℕ, ◌+◌, ◌==◌, List, [], ◌∷◌, length, take, drop, Bool, true, false, not, nat_lt, Option, None, Some, cond, refl, sym, ap, ◌∙◌, arith}
use Rattle.std.proofs.lemmas.Grind.{common_steps}
use Rattle.std.specs.List.{position, position_or_len}
use Rattle.ymx_script.specs.Words.{words, onto}
use Rattle.ymx_script.proofs.Feeds.{not_found, found_at}

-- how many bytes stand before the first space
abbrev pub word_len : List ℕ → ℕ
word_len bytes = position_or_len (λ b. b == 32) bytes

-- the words after the first space, if there is one
abbrev pub words_behind : List ℕ → ℕ → List (List ℕ)
words_behind bytes n = cond (nat_lt n (length bytes)) (words (drop (n + 1) bytes)) []

behind_step : (b : ℕ) (bs : List ℕ) (n : ℕ) → words_behind (b ∷ bs) (1 + n) ≡ words_behind bs n
behind_step b bs n =
    let test : nat_lt (1 + n) (length (b ∷ bs)) ≡ nat_lt n (length bs) = grind arith in
    let rest : drop (1 + n + 1) (b ∷ bs) ≡ drop (n + 1) bs = grind (arith, common_steps) in
    ap (λ t. cond t (words (drop (1 + n + 1) (b ∷ bs))) []) test ∙ ap (λ zs. cond (nat_lt n (length bs)) (words zs) []) rest

cut_step : (b : ℕ) (bs : List ℕ) (is_space : Bool) → words bs ≡ take (word_len bs) bs ∷ words_behind bs (word_len bs) →
    cond is_space ([] ∷ words bs) (onto b (words bs))
    ≡ take (cond (not is_space) (1 + word_len bs) 0) (b ∷ bs) ∷ words_behind (b ∷ bs) (cond (not is_space) (1 + word_len bs) 0)
cut_step b bs true e = grind (arith, common_steps)
cut_step b bs false e =
    let front : take (1 + word_len bs) (b ∷ bs) ≡ b ∷ take (word_len bs) bs = grind (arith, common_steps) in
    ap (onto b) e ∙ ap (λ zs. (b ∷ take (word_len bs) bs) ∷ zs) (sym (behind_step b bs (word_len bs)))
    ∙ ap (λ zs. zs ∷ words_behind (b ∷ bs) (1 + word_len bs)) (sym front)

-- the words of a line are what stands before its first space, and the words after it
pub cut_at : (bytes : List ℕ) → words bytes ≡ take (word_len bytes) bytes ∷ words_behind bytes (word_len bytes)
cut_at [] = refl
cut_at (b ∷ bs) = cut_step b bs (b == 32) (cut_at bs)

take_short : (bytes : List ℕ) (n : ℕ) → nat_lt n (length bytes) ≡ false → take n bytes ≡ bytes
take_short bytes n h = grind (arith, common_steps)

-- without a space the line is one word
pub cut_none : (bytes : List ℕ) (found : Option ℕ) → found ≡ position (λ b. b == 32) bytes → found ≡ None → words bytes ≡ bytes ∷ []
cut_none bytes found is none =
    let short = not_found (nat_lt (word_len bytes) (length bytes)) (word_len bytes) (sym is ∙ none) in
    cut_at bytes ∙ ap (λ t. take (word_len bytes) bytes ∷ cond t (words (drop (word_len bytes + 1) bytes)) []) short
    ∙ ap (λ zs. zs ∷ []) (take_short bytes (word_len bytes) short)

-- at a space the first word ends, and the others stand after it
pub cut_some : (bytes : List ℕ) (found : Option ℕ) (i : ℕ) → found ≡ position (λ b. b == 32) bytes → found ≡ Some i →
    words bytes ≡ take i bytes ∷ words (drop (i + 1) bytes)
cut_some bytes found i is some =
    let h = found_at (nat_lt (word_len bytes) (length bytes)) (word_len bytes) i (sym is ∙ some) in
    cut_at bytes ∙ ap (λ t. take (word_len bytes) bytes ∷ cond t (words (drop (word_len bytes + 1) bytes)) []) h.0
    ∙ ap (λ n. take n bytes ∷ words (drop (n + 1) bytes)) h.1

-- ---- the words that are left

pub last_word : (over : Bool) (bytes : List ℕ) (left : List (List ℕ)) (found : Option ℕ) → cond over [] (words bytes) ≡ left → over ≡ false →
    found ≡ position (λ b. b == 32) bytes → found ≡ None → left ≡ bytes ∷ []
last_word over bytes left found view open_still is none =
    sym view ∙ ap (λ t. cond t [] (words bytes)) open_still ∙ cut_none bytes found is none

pub next_word : (over : Bool) (bytes : List ℕ) (left : List (List ℕ)) (found : Option ℕ) (i : ℕ) → cond over [] (words bytes) ≡ left → over ≡ false →
    found ≡ position (λ b. b == 32) bytes → found ≡ Some i → left ≡ take i bytes ∷ cond over [] (words (drop (i + 1) bytes))
next_word over bytes left found i view open_still is some =
    sym view ∙ ap (λ t. cond t [] (words bytes)) open_still ∙ cut_some bytes found i is some
    ∙ ap (λ t. take i bytes ∷ cond t [] (words (drop (i + 1) bytes))) (sym open_still)
