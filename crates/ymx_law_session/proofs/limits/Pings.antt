-- The numbers of the own pings.
use Rattle.std.proofs.Common.{◌≡◌, ◌≢◌, ℕ, zero, suc, ◌+◌, ◌%◌, ◌^◌, ◌<◌, ◌≤◌, List, [], ◌∷◌, ◌++◌, length, true, false, ◌||◌, ◌==◌, if◌then◌else◌, Option, Some, refl, sym, ◌∙◌, arith, length-append}
use Rattle.std.specs.Prelude.{is_some}
use Rattle.std.proofs.lemmas.Bool.Decides.{nat_tests}
use Rattle.ymx_model.specs.declared.types.PingStage.{PingStage}
use Rattle.ymx_model.specs.declared.types.PingStage.TheVariants.{Asked}
use Rattle.ymx_model.specs.session.Pings.{Ping, Pings, is_pending, ping_is_asked, has_asked, staged, without_ping, number_after, free_from, next_number, ask, collect, first_asked}
use Rattle.ymx_machine.specs.shared.Limits.{most_pings}
use Rattle.ymx_law_session.specs.Limits.{OncePending, IsPingsWithin}
use Rattle.ymx_machine.proofs.Tests.{split, differs}

-- ---- which numbers are pending

pub pending-staged : (stage : PingStage) (n j : ℕ) (ps : List Ping) → is_pending j (staged stage n ps) ≡ is_pending j ps
pending-staged stage n j [] = refl
pending-staged stage n j (p ∷ ps) = let h = pending-staged stage n j ps in grind (arith, nat_tests)

pub pending-without_other : (n j : ℕ) (ps : List Ping) → j ≢ n → is_pending j (without_ping n ps) ≡ is_pending j ps
pending-without_other n j [] a = refl
pending-without_other n j (p ∷ ps) a = let h = pending-without_other n j ps a in grind (arith, nat_tests)

pub pending-added : (n j : ℕ) (stage : PingStage) (ps : List Ping) → is_pending j (ps ++ record { number = n; stage = stage } ∷ []) ≡ (is_pending j ps || n == j)
pending-added n j stage [] = grind (arith, nat_tests)
pending-added n j stage (p ∷ ps) = let h = pending-added n j stage ps in grind (arith, nat_tests)

length-staged : (stage : PingStage) (n : ℕ) (ps : List Ping) → length (staged stage n ps) ≡ length ps
length-staged stage n [] = refl
length-staged stage n (p ∷ ps) = let h = length-staged stage n ps in grind (arith, nat_tests)

length-without_ping : (n : ℕ) (ps : List Ping) → length (without_ping n ps) ≤ length ps
length-without_ping n [] = omega arith
length-without_ping n (p ∷ ps) = let h = length-without_ping n ps in grind (arith, nat_tests)

fewer : (n : ℕ) (ps : List Ping) → is_pending n ps ≡ true → length (without_ping n ps) + 1 ≡ length ps
fewer n [] t = cc
fewer n (p ∷ ps) t = let h = fewer n ps in grind (arith, nat_tests)

once-staged : (stage : PingStage) (n : ℕ) (ps : List Ping) → OncePending ps → OncePending (staged stage n ps)
once-staged stage n [] o = tt
once-staged stage n (p ∷ ps) o =
    split OncePending (p.number == n) (record { number = p.number; stage = stage } ∷ ps) (p ∷ staged stage n ps) (λ t. o)
    (λ f. (pending-staged stage n p.number ps ∙ o.0, once-staged stage n ps o.1))

once-without : (n : ℕ) (ps : List Ping) → OncePending ps → OncePending (without_ping n ps)
once-without n [] o = tt
once-without n (p ∷ ps) o =
    split OncePending (p.number == n) ps (p ∷ without_ping n ps) (λ t. o.1)
    (λ f. (pending-without_other n p.number ps (differs p.number n f) ∙ o.0, once-without n ps o.1))

once-added : (n : ℕ) (stage : PingStage) (ps : List Ping) → is_pending n ps ≡ false → OncePending ps → OncePending (ps ++ record { number = n; stage = stage } ∷ [])
once-added n stage [] a o = (refl, tt)
once-added n stage (p ∷ ps) a o =
    let e = o.0 in
    let h = pending-added n p.number stage ps in
    let first : is_pending p.number (ps ++ record { number = n; stage = stage } ∷ []) ≡ false = grind (arith, nat_tests) in
    let rest : is_pending n ps ≡ false = grind (arith, nat_tests) in
    (first, once-added n stage ps rest o.1)

-- ---- the number of the next ping isn't pending

-- the number k places after n
abbrev ahead : (k n : ℕ) → ℕ
ahead k n = (n + k) % 2 ^ 32

ahead_after : (k n : ℕ) → (number_after n + k) % 2 ^ 32 ≡ (n + (k + 1)) % 2 ^ 32
ahead_after k n = omega arith

-- numbers tried before the m is reached again
free-without : (tries n m : ℕ) (ps : List Ping) → ((k : ℕ) → k < tries → ahead k n ≢ m) → n < 2 ^ 32 → free_from tries n (without_ping m ps) ≡ free_from tries n ps
free-without zero n m ps apart small = refl
free-without (suc tries) n m ps apart small =
    let here : n ≢ m = (let a = apart 0 (omega arith) in λ e. a (omega arith)) in
    let same = pending-without_other m n ps here in
    let rest = free-without tries (number_after n) m ps (λ k l e. apart (k + 1) (omega arith) (sym (ahead_after k n) ∙ e)) (omega arith) in
    rw (same, rest) refl

result : (tries n m : ℕ) (ps : List Ping) → ((k : ℕ) → k ≤ tries → ahead k n ≢ m) → n < 2 ^ 32 → free_from tries n ps ≢ m
result zero n m ps apart small = let a = apart 0 (omega arith) in λ e. a (omega arith)
result (suc tries) n m ps apart small =
    let P : ℕ → Type 0 = λ r. r ≢ m in
    let rest = result tries (number_after n) m ps (λ k l e. apart (k + 1) (omega arith) (sym (ahead_after k n) ∙ e)) (omega arith) in
    split P (is_pending n ps) (free_from tries (number_after n) ps) n (λ t. rest) (λ f. let a = apart 0 (omega arith) in λ e. a (omega arith))

pub free : (tries n : ℕ) (ps : List Ping) → length ps < tries → tries < 2 ^ 32 → n < 2 ^ 32 → is_pending (free_from tries n ps) ps ≡ false
free zero n ps l m small = absurd (omega arith)
free (suc tries) n ps l m small =
    let P : ℕ → Type 0 = λ r. is_pending r ps ≡ false in
    split P (is_pending n ps) (free_from tries (number_after n) ps) n (λ t.
    let less = fewer n ps t in
    let apart = λ (k : ℕ) (q : k ≤ tries). wraps k n (omega arith) small in
    let same = free-without tries (number_after n) n ps (λ k q. apart k (omega arith)) (omega arith) in
    let h = free tries (number_after n) (without_ping n ps) (omega arith) (omega arith) (omega arith) in
    let h2 : is_pending (free_from tries (number_after n) ps) (without_ping n ps) ≡ false = rw same at h in
    let other : free_from tries (number_after n) ps ≢ n = result tries (number_after n) n ps (λ k q. apart k q) (omega arith) in
    sym (pending-without_other n (free_from tries (number_after n) ps) ps other) ∙ h2) (λ f. f)
  where
    wraps : (k n : ℕ) → k + 1 < 2 ^ 32 → n < 2 ^ 32 → ahead k (number_after n) ≢ n
    wraps k n l small e = absurd (omega arith)

-- ---- the limits

pub staged-within : (stage : PingStage) (n : ℕ) (p : Pings) → IsPingsWithin p → IsPingsWithin (record p { pending = staged stage n p.pending })
staged-within stage n p h = record { count = omega (arith, h.count, length-staged stage n p.pending); once = once-staged stage n p.pending h.once; next = h.next }

pub collected-within : (n : ℕ) (p : Pings) → IsPingsWithin p → IsPingsWithin (collect n p)
collected-within n p h = record { count = omega (arith, h.count, length-without_ping n p.pending); once = once-without n p.pending h.once; next = h.next }

pub number-free : (p : Pings) → length p.pending ≤ most_pings → IsPingsWithin p → is_pending (next_number p) p.pending ≡ false
number-free p l h = free 17 p.next p.pending (omega arith) (omega arith) h.next

pub pinged-within : (p : Pings) → length p.pending < most_pings → IsPingsWithin p → IsPingsWithin (ask p)
pinged-within p l h = record {
  count = omega (arith, length-append {A = Ping});
  once = once-added (next_number p) Asked p.pending (number-free p h.count h) h.once;
  next = omega arith;
}

-- ---- which frames are due

asked-pending : (n : ℕ) (ps : List Ping) → has_asked n ps ≡ true → is_pending n ps ≡ true
asked-pending n [] h = h
asked-pending n (p ∷ ps) h = let i = asked-pending n ps in grind (arith, nat_tests)

-- the ping that was asked first has its frame due
pub asked-first : (n : ℕ) (ps : List Ping) → OncePending ps → first_asked ps ≡ Some n → has_asked n ps ≡ true
asked-first n [] o f = cc
asked-first n (p ∷ ps) o f =
    let Goal = (if p.number == n then ping_is_asked p.stage else has_asked n ps) ≡ true in
    let P : Option ℕ → Type 0 = λ x. x ≡ Some n → Goal in
    split P (ping_is_asked p.stage) (Some p.number) (first_asked ps) (λ t e. let same : p.number ≡ n = cc in grind (arith, nat_tests)) (λ t e.
    let h = asked-first n ps o.1 e in
    let q = asked-pending n ps h in
    let z = o.0 in grind (arith, nat_tests)) f

pub asked-some : (n : ℕ) (ps : List Ping) → has_asked n ps ≡ true → is_some (first_asked ps) ≡ true
asked-some n [] h = cc
asked-some n (p ∷ ps) h = let i = asked-some n ps in grind (arith, nat_tests)
