-- Flags over the bits of words.
use Rattle.std.proofs.Common.{◌≡◌, ℕ, ◌+◌, ◌-◌, ◌*◌, ◌/◌, ◌%◌, ◌<◌, ◌≤◌, if◌then◌else◌, nat_lt, List, length, set, get_or, refl, sym, ◌∙◌, ap, inl, inr, arith, eq-eqb, ne_eqb, lt-ltb, le-ltb, get_or-set_same, get_or-set_other}
use Rattle.std.specs.Prelude.{◌==◌}
use Rattle.std.proofs.lemmas.Bool.{cases_eq, cases_lt}
use Rattle.ymx_table.specs.Flags.{bit, flag}

-- one word more
pub taken_out_more : (old words : List ℕ) (place i r : ℕ) → i < length words → place < (i + 1) * 64
    → ((k : ℕ) → flag words k ≡ (if nat_lt k (i * 64) then (if nat_lt k place then flag old k else flag old (k + 1)) else flag old k))
    → ((k : ℕ) → k < 64 → bit r k ≡ (if nat_lt k (place - i * 64) then bit (get_or words i 0) k else if k == 63 then flag words ((i + 1) * 64) else bit (get_or words i 0) (k + 1)))
    → (k : ℕ) → flag (set words i r) k ≡ (if nat_lt k ((i + 1) * 64) then (if nat_lt k place then flag old k else flag old (k + 1)) else flag old k)
taken_out_more old words place i r within near so_far word k =
    elim (cases_eq (k / 64) i) [
      | inl row ↦
          let here : flag (set words i r) k ≡ bit r (k % 64) =
          ap (λ j. bit (get_or (set words i r) j 0) (k % 64)) row ∙ ap (λ w. bit w (k % 64)) (get_or-set_same words i r 0 within) in
          let now : (j : ℕ) → i * 64 ≤ j → flag words j ≡ flag old j = λ j h. so_far j ∙ rw (le-ltb j (i * 64) h) refl in
          here ∙ word (k % 64) (omega arith)
          ∙ rw (lt-ltb k ((i + 1) * 64) (omega arith))
          (elim (cases_lt k place) [
            | inl below ↦
                rw (lt-ltb (k % 64) (place - i * 64) (omega arith), lt-ltb k place below)
                (ap (λ j. bit (get_or words j 0) (k % 64)) (sym row) ∙ now k (omega arith))
            | inr above ↦
                rw (le-ltb (k % 64) (place - i * 64) (omega arith), le-ltb k place above)
                (elim (cases_eq (k % 64) 63) [
                  | inl last ↦
                      rw (eq-eqb (k % 64) 63 last)
                      (now ((i + 1) * 64) (omega arith) ∙ ap (flag old) (omega arith))
                  | inr other ↦
                      let row' : (k + 1) / 64 ≡ i = omega arith in
                      let column : (k + 1) % 64 ≡ k % 64 + 1 = omega arith in
                      rw (ne_eqb (k % 64) 63 other)
                      (sym (ap (λ j. bit (get_or words j 0) ((k + 1) % 64)) row' ∙ ap (bit (get_or words i 0)) column)
                      ∙ now (k + 1) (omega arith))
                ])
          ])
      | inr apart ↦
          ap (λ w. bit w (k % 64)) (get_or-set_other words i (k / 64) r 0 apart)
          ∙ so_far k
          ∙ (elim (cases_lt k (i * 64)) as (λ _. (if nat_lt k (i * 64) then (if nat_lt k place then flag old k else flag old (k + 1)) else flag old k) ≡ (if nat_lt k ((i + 1) * 64) then (if nat_lt k place then flag old k else flag old (k + 1)) else flag old k)) [
            | inl below ↦ rw (lt-ltb k (i * 64) below, lt-ltb k ((i + 1) * 64) (omega arith)) refl
            | inr above ↦ rw (le-ltb k (i * 64) above, le-ltb k ((i + 1) * 64) (omega arith)) refl
          ])
    ]
