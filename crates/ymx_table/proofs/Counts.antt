-- How many records have something due.
use Rattle.std.proofs.Common.{◌≡◌, ℕ, ◌+◌, List, [], ◌∷◌, Bool, cond, if◌then◌else◌, refl, sym, ap, ◌∙◌, map}
use Rattle.std.specs.Prelude.{count_by}
use Rattle.std.proofs.lemmas.List.Sums.{sum_by-cons}
use Rattle.ymx_table.specs.Flags.{set_count}

module _ {X : Type 0} (test : X → Bool) where
  -- how many records pass
  pub count : List (ℕ × X) → ℕ
  count ps = count_by (λ p. test p.1) ps

  pub count_is : (ps : List (ℕ × X)) → count ps ≡ count_by (λ p. test p.1) ps
  unfolding count
  count_is ps = refl

  pub count-none : count [] ≡ 0
  unfolding count
  count-none = refl

  pub count-cons : (p : ℕ × X) (ps : List (ℕ × X)) → count (p ∷ ps) ≡ (if test p.1 then 1 else 0) + count ps
  unfolding count
  count-cons p ps = sum_by-cons (λ q. cond (test q.1) 1 0) p ps

  -- how many of the answers are yes
  pub set_count-map : (ps : List (ℕ × X)) → set_count (map (λ p. test p.1) ps) ≡ count ps
  set_count-map [] = sym count-none
  set_count-map (p ∷ ps) =
      sum_by-cons (λ b. cond b 1 0) (test p.1) (map (λ q. test q.1) ps)
      ∙ ap (λ n. cond (test p.1) 1 0 + n) (set_count-map ps)
      ∙ sym (count-cons p ps)
