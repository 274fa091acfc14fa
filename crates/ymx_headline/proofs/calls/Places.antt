-- The machine's places of pings and the session's pings pending are of the same numbers.
use Rattle.std.proofs.Common.{◌≡◌, ◌≢◌, ℕ, zero, suc, ◌<◌, ◌^◌, List, [], ◌∷◌, ◌++◌, map, Bool, true, false, ◌==◌, ◌||◌, if◌then◌else◌, Option, None, Some, refl, sym, ap, ◌∙◌, arith, inl, inr}
use Rattle.std.specs.Prelude.{is_some}
use Rattle.std.proofs.lemmas.Bool.Decides.{nat_tests}
use Rattle.ymx_model.specs.declared.types.PingStage.{PingStage}
use Rattle.ymx_model.specs.declared.types.PingStage.TheVariants.{Asked, Sent, Back}
use Rattle.ymx_model.specs.session.Pings.{Ping, ping_is_asked, ping_is_back, is_pending, has_asked, has_back, staged, without_ping, number_after, free_from}
use Rattle.ymx_machine.specs.shared.Lists.{look, without, Distinct}
use Rattle.ymx_machine.specs.machine.Machines.{PingPlace}
use Rattle.ymx_machine.specs.machine.CallRules.{free_number}
use Rattle.ymx_law_session.specs.Limits.{OncePending}
use Rattle.ymx_machine.proofs.Tests.{split, same_or_not}
use Rattle.ymx_headline.specs.Agrees.{number_of, entry_number}

pub placed : (places : List (ℕ × PingPlace)) (ps : List Ping) → map entry_number places ≡ map number_of ps → (n : ℕ) → is_some (look n places) ≡ is_pending n ps
placed [] [] e n = refl
placed [] (p ∷ ps) e n = absurd cc
placed (q ∷ qs) [] e n = absurd cc
placed (q ∷ qs) (p ∷ ps) e n =
    let k : q.0 ≡ p.number = cc in
    let tails : map entry_number qs ≡ map number_of ps = cc in
    let r = placed qs ps tails n in
    rw k (of (p.number == n) (look n qs) (is_pending n ps) r)
  where
    of : (b : Bool) (o : Option PingPlace) (c : Bool) → is_some o ≡ c → is_some (if b then Some q.1 else o) ≡ (b || c)
    of true o c h = refl
    of false o c h = h

pub placed-pending : (places : List (ℕ × PingPlace)) (ps : List Ping) → map entry_number places ≡ map number_of ps → (n : ℕ) (z : PingPlace) → look n places ≡ Some z → is_pending n ps ≡ true
placed-pending places ps e n z l = sym (placed places ps e n) ∙ ap is_some l

pub asked-pending : (n : ℕ) (ps : List Ping) → has_asked n ps ≡ true → is_pending n ps ≡ true
asked-pending n [] h = h
asked-pending n (p ∷ ps) h = let i = asked-pending n ps in grind (arith, nat_tests)

-- ---- the frame of a ping that is due has gone out

pub staged-numbers : (stage : PingStage) (n : ℕ) (ps : List Ping) → map number_of (staged stage n ps) ≡ map number_of ps
staged-numbers stage n [] = refl
staged-numbers stage n (p ∷ ps) = of (p.number == n) (staged-numbers stage n ps)
  where
    of : (b : Bool) → map number_of (staged stage n ps) ≡ map number_of ps → map number_of (if b then record { number = p.number; stage = stage } ∷ ps else p ∷ staged stage n ps) ≡ p.number ∷ map number_of ps
    of true h = refl
    of false h = ap (λ xs. p.number ∷ xs) h

-- of an asked ping, the answer isn't back
asked-not_back : (s : PingStage) → ping_is_asked s ≡ true → ping_is_back s ≡ false
asked-not_back Asked e = refl
asked-not_back Sent e = cc
asked-not_back Back e = cc

pub sent-back : (n x : ℕ) (ps : List Ping) → has_asked n ps ≡ true → has_back x (staged Sent n ps) ≡ has_back x ps
sent-back n x [] h = refl
sent-back n x (p ∷ ps) h = let i = sent-back n x ps in let k = asked-not_back p.stage in grind (arith, nat_tests)

pub sent-asked : (n : ℕ) (ps : List Ping) → has_asked n (staged Sent n ps) ≡ false
sent-asked n [] = refl
sent-asked n (p ∷ ps) = let i = sent-asked n ps in grind (arith, nat_tests)

pub staged-asked_other : (stage : PingStage) (n x : ℕ) (ps : List Ping) → x ≢ n → has_asked x (staged stage n ps) ≡ has_asked x ps
staged-asked_other stage n x [] d = refl
staged-asked_other stage n x (p ∷ ps) d = let i = staged-asked_other stage n x ps d in grind (arith, nat_tests)

-- ---- a ping is asked

pub place-asked : (test : Option PingPlace → Bool) (k : ℕ) (z : PingPlace) (n : ℕ) (places : List (ℕ × PingPlace)) → test (Some z) ≡ test None → test (look n (places ++ (k, z) ∷ [])) ≡ test (look n places)
place-asked test k z n [] e = of (k == n)
  where
    of : (b : Bool) → test (if b then Some z else None) ≡ test None
    of true = e
    of false = refl
place-asked test k z n (q ∷ qs) e = of (q.0 == n) (place-asked test k z n qs e)
  where
    of : (b : Bool) → test (look n (qs ++ (k, z) ∷ [])) ≡ test (look n qs) → test (if b then Some q.1 else look n (qs ++ (k, z) ∷ [])) ≡ test (if b then Some q.1 else look n qs)
    of true i = refl
    of false i = i

pub asked-back : (k n : ℕ) (ps : List Ping) → has_back n (ps ++ record { number = k; stage = Asked } ∷ []) ≡ has_back n ps
asked-back k n [] = grind (arith, nat_tests)
asked-back k n (p ∷ ps) = let i = asked-back k n ps in grind (arith, nat_tests)

pub asked-asked_other : (k n : ℕ) (ps : List Ping) → n ≢ k → has_asked n (ps ++ record { number = k; stage = Asked } ∷ []) ≡ has_asked n ps
asked-asked_other k n [] d = grind (arith, nat_tests)
asked-asked_other k n (p ∷ ps) d = let i = asked-asked_other k n ps d in grind (arith, nat_tests)

pub asked-asked_same : (k : ℕ) (ps : List Ping) → is_pending k ps ≡ false → has_asked k (ps ++ record { number = k; stage = Asked } ∷ []) ≡ true
asked-asked_same k [] d = grind (arith, nat_tests)
asked-asked_same k (p ∷ ps) d = let i = asked-asked_same k ps in grind (arith, nat_tests)

-- the same number is free in both
pub free-same : (tries n : ℕ) (places : List (ℕ × PingPlace)) (ps : List Ping) → map entry_number places ≡ map number_of ps → free_number tries n places ≡ free_from tries n ps
free-same zero n places ps e = refl
free-same (suc tries) n places ps e = rw (placed places ps e n, free-same tries (number_after n) places ps e) refl

pub free-fits : (tries n : ℕ) (ps : List Ping) → n < 2 ^ 32 → free_from tries n ps < 2 ^ 32
free-fits zero n ps l = l
free-fits (suc tries) n ps l =
    let i = free-fits tries (number_after n) ps (omega arith) in
    split (λ z. z < 2 ^ 32) (is_pending n ps) (free_from tries (number_after n) ps) n (λ t. i) (λ f. l)

-- ---- a ping is collected

pub collected-numbers : (k : ℕ) (places : List (ℕ × PingPlace)) (ps : List Ping) → map entry_number places ≡ map number_of ps → map entry_number (without k places) ≡ map number_of (without_ping k ps)
collected-numbers k [] [] e = refl
collected-numbers k [] (p ∷ ps) e = absurd cc
collected-numbers k (q ∷ qs) [] e = absurd cc
collected-numbers k (q ∷ qs) (p ∷ ps) e =
    let first : q.0 ≡ p.number = cc in
    let tails : map entry_number qs ≡ map number_of ps = cc in
    of (q.0 == k) (p.number == k) (ap (λ n. n == k) first) first tails (collected-numbers k qs ps tails)
  where
    of : (b c : Bool) → b ≡ c → q.0 ≡ p.number → map entry_number qs ≡ map number_of ps → map entry_number (without k qs) ≡ map number_of (without_ping k ps) →
        map entry_number (if b then qs else q ∷ without k qs) ≡ map number_of (if c then ps else p ∷ without_ping k ps)
    of true true z first tails i = tails
    of true false z first tails i = absurd cc
    of false true z first tails i = absurd cc
    of false false z first tails i = cc

pub places-distinct : (places : List (ℕ × PingPlace)) (ps : List Ping) → map entry_number places ≡ map number_of ps → OncePending ps → Distinct places
places-distinct [] ps e o = tt
places-distinct (q ∷ qs) [] e o = absurd cc
places-distinct (q ∷ qs) (p ∷ ps) e o =
    let first : q.0 ≡ p.number = cc in
    let tails : map entry_number qs ≡ map number_of ps = cc in
    (no-place q.0 (look q.0 qs) (placed qs ps tails q.0 ∙ (ap (λ n. is_pending n ps) first ∙ o.0)), places-distinct qs ps tails o.1)
  where
    no-place : (n : ℕ) (o : Option PingPlace) → is_some o ≡ false → o ≡ None
    no-place n None e = refl
    no-place n (Some z) e = absurd cc

not_pending-back : (n : ℕ) (ps : List Ping) → is_pending n ps ≡ false → has_back n ps ≡ false
not_pending-back n [] e = refl
not_pending-back n (p ∷ ps) e = let i = not_pending-back n ps in grind (arith, nat_tests)

not_pending-asked : (n : ℕ) (ps : List Ping) → is_pending n ps ≡ false → has_asked n ps ≡ false
not_pending-asked n [] e = refl
not_pending-asked n (p ∷ ps) e = let i = not_pending-asked n ps in grind (arith, nat_tests)

gone-pending : (k : ℕ) (ps : List Ping) → OncePending ps → is_pending k (without_ping k ps) ≡ false
gone-pending k [] o = refl
gone-pending k (p ∷ ps) o = let i = gone-pending k ps o.1 in let z = o.0 in grind (arith, nat_tests)

pub collected-back : (k : ℕ) (ps : List Ping) → OncePending ps → has_back k (without_ping k ps) ≡ false
collected-back k ps o = not_pending-back k (without_ping k ps) (gone-pending k ps o)

pub collected-back_other : (k n : ℕ) (ps : List Ping) → n ≢ k → has_back n (without_ping k ps) ≡ has_back n ps
collected-back_other k n [] d = refl
collected-back_other k n (p ∷ ps) d = let i = collected-back_other k n ps d in grind (arith, nat_tests)

pub collected-asked_other : (k n : ℕ) (ps : List Ping) → n ≢ k → has_asked n (without_ping k ps) ≡ has_asked n ps
collected-asked_other k n [] d = refl
collected-asked_other k n (p ∷ ps) d = let i = collected-asked_other k n ps d in grind (arith, nat_tests)

-- one whose answer is back isn't asked
pub back-not_asked : (k : ℕ) (ps : List Ping) → has_back k ps ≡ true → has_asked k ps ≡ false
back-not_asked k [] h = refl
back-not_asked k (p ∷ ps) h = let i = back-not_asked k ps in let s = asked-not_back p.stage in grind (arith, nat_tests)

pub collected-asked : (k n : ℕ) (ps : List Ping) → OncePending ps → has_back k ps ≡ true → has_asked n (without_ping k ps) ≡ has_asked n ps
collected-asked k n ps o b = elim (same_or_not n k) [
  | inl q ↦ rw q (not_pending-asked k (without_ping k ps) (gone-pending k ps o) ∙ sym (back-not_asked k ps b))
  | inr d ↦ collected-asked_other k n ps d
]

pub collected-pending : (k n : ℕ) (ps : List Ping) → is_pending n (without_ping k ps) ≡ true → is_pending n ps ≡ true
collected-pending k n [] h = h
collected-pending k n (p ∷ ps) h = let i = collected-pending k n ps in grind (arith, nat_tests)
