-- Of more numbers in a row than there are pings, one is not pending, and the search finds the first.
use Rattle.std.proofs.Common.{◌≡◌, ◌≢◌, ◌<◌, ◌==◌, ◌^◌, ◌%◌, ℕ, ◌+◌, zero, suc, List, [], ◌∷◌, length, Bool, true, false, cond, refl, ap, sym, ◌∙◌, arith}
use Rattle.std.proofs.lemmas.Bool.Decides.{nat_tests}
use Rattle.ymx_model.specs.session.Pings.{Ping, is_pending, without_ping, free_from, number_after}
use Rattle.ymx_control.specs.Numbers.{steps_up, ArePendingBefore}

-- the number so many steps after another, after one step more
pub number_after-ahead : (n k : ℕ) → number_after ((n + k) % 2 ^ 32) ≡ (n + suc k) % 2 ^ 32
number_after-ahead n k = omega arith

-- fewer than 2^32 steps don't lead back
pub ahead_elsewhere : (n k : ℕ) → n < 2 ^ 32 → 0 < k → k < 2 ^ 32 → (n + k) % 2 ^ 32 ≡ n → ⊥
ahead_elsewhere n k fits some few same = omega arith

-- the other numbers stay pending
pub is_pending-others : (m n : ℕ) (ps : List Ping) → (m ≡ n → ⊥) → is_pending m (without_ping n ps) ≡ is_pending m ps
is_pending-others m n [] other = refl
is_pending-others m n (p ∷ ps) other = grind (arith, nat_tests, is_pending-others m n ps other)

pub length-without_pending : (n : ℕ) (ps : List Ping) → is_pending n ps ≡ true → length (without_ping n ps) + 1 ≡ length ps
length-without_pending n [] pending = cc
length-without_pending n (p ∷ ps) pending = grind (arith, nat_tests, length-without_pending n ps)

-- the search from a number ahead of n meets n neither on its way nor at its end
pub free_from-without : (tries n k : ℕ) (ps : List Ping) → n < 2 ^ 32 → 0 < k → k + tries < 2 ^ 32
    → free_from tries ((n + k) % 2 ^ 32) (without_ping n ps) ≡ free_from tries ((n + k) % 2 ^ 32) ps
free_from-without zero n k ps fits some few = refl
free_from-without (suc tries) n k ps fits some few =
    rw (is_pending-others ((n + k) % 2 ^ 32) n ps (ahead_elsewhere n k fits some (omega arith)), number_after-ahead n k)
    (ap (λ rest. cond (is_pending ((n + k) % 2 ^ 32) ps) rest ((n + k) % 2 ^ 32)) (free_from-without tries n (suc k) ps fits (omega arith) (omega arith)))

pub free_from_elsewhere : (tries n k : ℕ) (ps : List Ping) → n < 2 ^ 32 → 0 < k → k + tries < 2 ^ 32
    → free_from tries ((n + k) % 2 ^ 32) ps ≡ n → ⊥
free_from_elsewhere zero n k ps fits some few = ahead_elsewhere n k fits some (omega arith)
free_from_elsewhere (suc tries) n k ps fits some few =
    rw (number_after-ahead n k)
    (chosen (is_pending ((n + k) % 2 ^ 32) ps) _ _ n (free_from_elsewhere tries n (suc k) ps fits (omega arith) (omega arith)) (ahead_elsewhere n k fits some (omega arith)))
  where
    chosen : (b : Bool) (x y n : ℕ) → (x ≡ n → ⊥) → (y ≡ n → ⊥) → cond b x y ≡ n → ⊥
    chosen true x y n at_x at_y = at_x
    chosen false x y n at_x at_y = at_y

pub is_pending-free_from : (tries n : ℕ) (ps : List Ping) → n < 2 ^ 32 → tries < 2 ^ 32 → length ps < tries → is_pending (free_from tries n ps) ps ≡ false
is_pending-free_from zero n ps fits few more = absurd (omega arith)
is_pending-free_from (suc tries) n ps fits few more =
    by_test (is_pending n ps) refl
    (λ fewer. is_pending-free_from tries ((n + 1) % 2 ^ 32) (without_ping n ps) (omega arith) (omega arith) fewer)
  where
    by_test : (b : Bool) → is_pending n ps ≡ b
        → (length (without_ping n ps) < tries → is_pending (free_from tries ((n + 1) % 2 ^ 32) (without_ping n ps)) (without_ping n ps) ≡ false)
        → is_pending (cond b (free_from tries (number_after n) ps) n) ps ≡ false
    by_test true pending goes_on =
        let shorter : length (without_ping n ps) + 1 ≡ length ps = length-without_pending n ps pending in
        let free : is_pending (free_from tries ((n + 1) % 2 ^ 32) (without_ping n ps)) (without_ping n ps) ≡ false = goes_on (omega arith) in
        let same : free_from tries ((n + 1) % 2 ^ 32) (without_ping n ps) ≡ free_from tries ((n + 1) % 2 ^ 32) ps =
        free_from-without tries n 1 ps fits (omega arith) (omega arith) in
        let elsewhere : free_from tries ((n + 1) % 2 ^ 32) ps ≡ n → ⊥ = free_from_elsewhere tries n 1 ps fits (omega arith) (omega arith) in
        sym (is_pending-others _ n ps elsewhere) ∙ (rw same at free)
    by_test false absent goes_on = absent

-- one number further, where this one is pending
pub free_from-next : (tries rest n : ℕ) (ps : List Ping) → tries ≡ suc rest → is_pending n ps ≡ true → free_from rest (number_after n) ps ≡ free_from tries n ps
free_from-next tries rest n ps more pending = rw (more, pending) refl

-- the number that the search gives
pub is_pending-found : (found tries n : ℕ) (ps : List Ping) → found ≡ free_from tries n ps → n < 2 ^ 32 → tries < 2 ^ 32 → length ps < tries → is_pending found ps ≡ false
is_pending-found found tries n ps is fits few more = ap (λ m. is_pending m ps) is ∙ is_pending-free_from tries n ps fits few more

-- ---- the first

free_from-fits : (tries n : ℕ) (ps : List Ping) → n < 2 ^ 32 → free_from tries n ps < 2 ^ 32
free_from-fits zero n ps fits = fits
free_from-fits (suc tries) n ps fits = of (is_pending n ps) (free_from-fits tries (number_after n) ps (omega arith))
  where
    of : (b : Bool) → free_from tries (number_after n) ps < 2 ^ 32 → cond b (free_from tries (number_after n) ps) n < 2 ^ 32
    of true further = further
    of false further = fits

-- no number comes before the one counted from
steps_up-self : (m n : ℕ) → n < 2 ^ 32 → steps_up n m < steps_up n n → ⊥
steps_up-self m n fits before = omega arith

-- counted from the next one on, the others keep their order
steps_up-after : (m f n : ℕ) → m < 2 ^ 32 → f < 2 ^ 32 → n < 2 ^ 32 → m ≢ n → steps_up n m < steps_up n f → steps_up (number_after n) m < steps_up (number_after n) f
steps_up-after m f n small found fits other before = omega arith

-- the search leaves out only numbers that are pending
pub ArePendingBefore-free_from : (tries n : ℕ) (ps : List Ping) → n < 2 ^ 32 → ArePendingBefore n (free_from tries n ps) ps
ArePendingBefore-free_from zero n ps fits = λ m small before. absurd (steps_up-self m n fits before)
ArePendingBefore-free_from (suc tries) n ps fits =
    of (is_pending n ps) refl (ArePendingBefore-free_from tries (number_after n) ps (omega arith))
  where
    of : (b : Bool) → is_pending n ps ≡ b → ArePendingBefore (number_after n) (free_from tries (number_after n) ps) ps
        → ArePendingBefore n (cond b (free_from tries (number_after n) ps) n) ps
    of false absent further m small before = absurd (steps_up-self m n fits before)
    of true pending further m small before = by_place (m == n) refl
      where
        by_place : (same : Bool) → m == n ≡ same → is_pending m ps ≡ true
        by_place true same = let at : m ≡ n = grind (arith, nat_tests) in rw at pending
        by_place false apart =
            let other : m ≢ n = grind (arith, nat_tests) in
            further m small (steps_up-after m _ n small (free_from-fits tries (number_after n) ps (omega arith)) fits other before)

-- only one number that isn't pending has none but pending ones before it
pub first_free-unique : (start a b : ℕ) (ps : List Ping) → start < 2 ^ 32 → a < 2 ^ 32 → b < 2 ^ 32
    → ArePendingBefore start a ps → is_pending a ps ≡ false → ArePendingBefore start b ps → is_pending b ps ≡ false → a ≡ b
first_free-unique start a b ps fits a_fits b_fits before_a a_free before_b b_free =
    let no_sooner : steps_up start a < steps_up start b → ⊥ = λ sooner. (let pending = before_b a a_fits sooner in cc) in
    let no_later : steps_up start b < steps_up start a → ⊥ = λ later. (let pending = before_a b b_fits later in cc) in
    omega arith
