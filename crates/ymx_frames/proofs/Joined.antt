-- Lists put together in parts.
use Rattle.std.proofs.Common.{◌≡◌, List, ℕ, ◌++◌, if◌then◌else◌, is_ok, Result, Ok, Err, OnOk, sym, ◌∙◌, ap, append_assoc}

-- three parts, the last of which may fail
pub three_parts : {T E : Type 0} (r : Result T E) (old a b c one two new : List ℕ) → one ≡ old ++ a → two ≡ one ++ b → new ≡ (if is_ok r then two ++ c else two) → OnOk r (new ≡ old ++ (a ++ b ++ c))
three_parts (Ok x) old a b c one two new p q e =
    e ∙ ap (λ (l : List ℕ). l ++ c) (q ∙ ap (λ (l : List ℕ). l ++ b) p) ∙ append_assoc (old ++ a) b c ∙ append_assoc old a (b ++ c)
    ∙ ap (λ (l : List ℕ). old ++ l) (sym (append_assoc a b c))
three_parts (Err x) old a b c one two new p q e = tt
