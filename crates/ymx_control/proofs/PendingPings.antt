-- The table of pings after a change: at the place of its number, and sound.
use Rattle.std.proofs.Common.{◌≡◌, ◌<◌, ◌≤◌, ◌^◌, ◌%◌, ℕ, ◌+◌, List, [], ◌∷◌, ◌++◌, length, set, get_or, Bool, true, false, cond, nat_lt, ◌==◌, Option, None, Some, IfSome, is_some, remove, position, refl, sym, ◌∙◌, arith}
use Rattle.std.specs.List.{position_or_len}
use Rattle.std.specs.Bool.{then_some}
use Rattle.std.proofs.lemmas.List.{length_push}
use Rattle.std.proofs.lemmas.Grind.{common_steps}
use Rattle.std.proofs.lemmas.Bool.Decides.{nat_tests}
use Rattle.ymx_model.specs.declared.types.PingStage.{PingStage}
use Rattle.ymx_model.specs.declared.types.PingStage.TheVariants.{Asked}
use Rattle.ymx_model.specs.session.Pings.{Ping, Pings, is_pending, has_back, has_asked, ping_is_back, first_asked, staged, without_ping}
use Rattle.ymx_machine.specs.shared.Limits.{most_pings}
use Rattle.ymx_control.specs.PendingPings.{AreDistinct, AreNumbers, ArePingsSound}
use Rattle.ymx_control.proofs.Places.{cond-remove, position-place, position-none}

-- the place of a number
abbrev pub place : ℕ → List Ping → ℕ
place n ps = position_or_len (λ p. p.number == n) ps

-- ---- what stands at the place

pub staged-set : (stage : PingStage) (n : ℕ) (ps : List Ping) → staged stage n ps ≡ set ps (place n ps) (record { number = n; stage = stage })
staged-set stage n [] = refl
staged-set stage n (p ∷ ps) = grind (arith, nat_tests, common_steps, staged-set stage n ps)

pub without_ping-remove : (n : ℕ) (ps : List Ping) → without_ping n ps ≡ remove ps (place n ps)
without_ping-remove n [] = refl
without_ping-remove n (p ∷ ps) = rw (without_ping-remove n ps) (cond-remove (p.number == n) p ps _)

pub has_back-at : (n : ℕ) (ps : List Ping) (d : Ping) → place n ps < length ps → has_back n ps ≡ ping_is_back (get_or ps (place n ps) d).stage
has_back-at n [] d within = grind arith
has_back-at n (p ∷ ps) d within = grind (arith, nat_tests, common_steps, has_back-at n ps d)

pub has_back-past : (n : ℕ) (ps : List Ping) → length ps ≤ place n ps → has_back n ps ≡ false
has_back-past n [] past = refl
has_back-past n (p ∷ ps) past = grind (arith, nat_tests, has_back-past n ps)

pub is_pending-place : (n : ℕ) (ps : List Ping) → is_pending n ps ≡ nat_lt (place n ps) (length ps)
is_pending-place n [] = refl
is_pending-place n (p ∷ ps) = grind (arith, nat_tests, is_pending-place n ps)

-- ---- the numbers, after a ping changes its stage

pub is_pending-staged : (m : ℕ) (stage : PingStage) (n : ℕ) (ps : List Ping) → is_pending m (staged stage n ps) ≡ is_pending m ps
is_pending-staged m stage n [] = refl
is_pending-staged m stage n (p ∷ ps) = grind (arith, nat_tests, is_pending-staged m stage n ps)

pub length-staged : (stage : PingStage) (n : ℕ) (ps : List Ping) → length (staged stage n ps) ≡ length ps
length-staged stage n [] = refl
length-staged stage n (p ∷ ps) = grind (arith, nat_tests, length-staged stage n ps)

pub AreDistinct-staged : (stage : PingStage) (n : ℕ) (ps : List Ping) → AreDistinct ps → AreDistinct (staged stage n ps)
AreDistinct-staged stage n [] distinct = tt
AreDistinct-staged stage n (p ∷ ps) distinct = grind (arith, nat_tests, AreDistinct-staged stage n ps distinct.1, is_pending-staged p.number stage n ps)

pub AreNumbers-staged : (stage : PingStage) (n : ℕ) (ps : List Ping) → AreNumbers ps → AreNumbers (staged stage n ps)
AreNumbers-staged stage n [] numbers = tt
AreNumbers-staged stage n (p ∷ ps) numbers = grind (arith, nat_tests, AreNumbers-staged stage n ps numbers.1)

-- ---- the numbers, after a ping goes

pub is_pending-without : (m n : ℕ) (ps : List Ping) → is_pending m ps ≡ false → is_pending m (without_ping n ps) ≡ false
is_pending-without m n [] absent = refl
is_pending-without m n (p ∷ ps) absent = grind (arith, nat_tests, is_pending-without m n ps)

pub length-without : (n : ℕ) (ps : List Ping) → length (without_ping n ps) ≤ length ps
length-without n [] = omega arith
length-without n (p ∷ ps) = grind (arith, nat_tests, length-without n ps)

pub AreDistinct-without : (n : ℕ) (ps : List Ping) → AreDistinct ps → AreDistinct (without_ping n ps)
AreDistinct-without n [] distinct = tt
AreDistinct-without n (p ∷ ps) distinct = grind (arith, nat_tests, AreDistinct-without n ps distinct.1, is_pending-without p.number n ps)

pub AreNumbers-without : (n : ℕ) (ps : List Ping) → AreNumbers ps → AreNumbers (without_ping n ps)
AreNumbers-without n [] numbers = tt
AreNumbers-without n (p ∷ ps) numbers = grind (arith, nat_tests, AreNumbers-without n ps numbers.1)

-- ---- the numbers, after a ping is asked

pub is_pending-push : (m : ℕ) (ps : List Ping) (p : Ping) → is_pending m ps ≡ false → p.number == m ≡ false → is_pending m (ps ++ p ∷ []) ≡ false
is_pending-push m [] p absent other = grind (arith, nat_tests)
is_pending-push m (q ∷ ps) p absent other = grind (arith, nat_tests, is_pending-push m ps p)

pub AreDistinct-push : (ps : List Ping) (p : Ping) → AreDistinct ps → is_pending p.number ps ≡ false → AreDistinct (ps ++ p ∷ [])
AreDistinct-push [] p distinct absent = (refl, tt)
AreDistinct-push (q ∷ ps) p distinct absent = grind (arith, nat_tests, AreDistinct-push ps p distinct.1, is_pending-push q.number ps p)

pub AreNumbers-push : (ps : List Ping) (p : Ping) → AreNumbers ps → p.number < 2 ^ 32 → AreNumbers (ps ++ p ∷ [])
AreNumbers-push [] p numbers fits = (fits, tt)
AreNumbers-push (q ∷ ps) p numbers fits = (numbers.0, AreNumbers-push ps p numbers.1 fits)

-- ---- the whole table

pub IsSound-staged : (next : ℕ) (ps : List Ping) (stage : PingStage) (n : ℕ) → ArePingsSound (record { next = next; pending = ps }) → ArePingsSound (record { next = next; pending = staged stage n ps })
IsSound-staged next ps stage n sound = record {
  few = omega (arith, length-staged stage n ps, sound.few);
  next = sound.next;
  distinct = AreDistinct-staged stage n ps sound.distinct;
  numbers = AreNumbers-staged stage n ps sound.numbers;
}

pub IsSound-without : (next : ℕ) (ps : List Ping) (n : ℕ) → ArePingsSound (record { next = next; pending = ps }) → ArePingsSound (record { next = next; pending = without_ping n ps })
IsSound-without next ps n sound = record {
  few = omega (arith, length-without n ps, sound.few);
  next = sound.next;
  distinct = AreDistinct-without n ps sound.distinct;
  numbers = AreNumbers-without n ps sound.numbers;
}

pub IsSound-asked : (next : ℕ) (ps : List Ping) (n : ℕ) → ArePingsSound (record { next = next; pending = ps }) → length ps < most_pings → is_pending n ps ≡ false → n < 2 ^ 32
    → ArePingsSound (record { next = (n + 1) % 2 ^ 32; pending = ps ++ record { number = n; stage = Asked } ∷ [] })
IsSound-asked next ps n sound room absent fits = record {
  few = omega (arith, length_push ps (let p : Ping = record { number = n; stage = Asked } in p));
  next = omega arith;
  distinct = AreDistinct-push ps _ sound.distinct absent;
  numbers = AreNumbers-push ps _ sound.numbers fits;
}

-- ---- at the place that `position` finds, or where it finds none

pub staged-some : (stage : PingStage) (n : ℕ) (ps : List Ping) (i : ℕ) → position (λ p. p.number == n) ps ≡ Some i
    → set ps i (record { number = n; stage = stage }) ≡ staged stage n ps
staged-some stage n ps i found = rw (sym (position-place _ ps i found)) (sym (staged-set stage n ps))

pub staged-none : (stage : PingStage) (n : ℕ) (ps : List Ping) → position (λ p. p.number == n) ps ≡ None → staged stage n ps ≡ ps
staged-none stage n ps absent =
    let past : length ps ≤ place n ps = position-none _ ps absent in
    staged-set stage n ps ∙ grind (arith, common_steps)

pub without_ping-some : (n : ℕ) (ps : List Ping) (i : ℕ) → position (λ p. p.number == n) ps ≡ Some i → remove ps i ≡ without_ping n ps
without_ping-some n ps i found = rw (sym (position-place _ ps i found)) (sym (without_ping-remove n ps))

pub is_some-position : (n : ℕ) (ps : List Ping) → is_some (position (λ p. p.number == n) ps) ≡ is_pending n ps
is_some-position n ps = rw (is_pending-place n ps) (is_some-cond (nat_lt (place n ps) (length ps)) (place n ps))
  where
    is_some-cond : (b : Bool) (i : ℕ) → is_some (cond b (Some i) None) ≡ b
    is_some-cond true i = refl
    is_some-cond false i = refl

pub has_back-some : (n : ℕ) (ps : List Ping) (i : ℕ) (d : Ping) → position (λ p. p.number == n) ps ≡ Some i → i < length ps → has_back n ps ≡ ping_is_back (get_or ps i d).stage
has_back-some n ps i d found within =
    let at : place n ps ≡ i = position-place _ ps i found in
    rw at at (has_back-at n ps d (omega arith))

pub has_back-none : (n : ℕ) (ps : List Ping) → position (λ p. p.number == n) ps ≡ None → has_back n ps ≡ false
has_back-none n ps absent = has_back-past n ps (position-none _ ps absent)

-- ---- the ping that was asked first

is_pending-asked : (n : ℕ) (ps : List Ping) → has_asked n ps ≡ true → is_pending n ps ≡ true
is_pending-asked n [] asked = cc
is_pending-asked n (p ∷ ps) asked = grind (arith, nat_tests, is_pending-asked n ps)

has_asked-first : (n : ℕ) (ps : List Ping) → AreDistinct ps → first_asked ps ≡ Some n → has_asked n ps ≡ true
has_asked-first n [] distinct first = cc
has_asked-first n (p ∷ ps) distinct first = grind (arith, nat_tests, has_asked-first n ps distinct.1, is_pending-asked n ps)

-- its frame is due
pub first_asked-due : (ps : List Ping) → AreDistinct ps → IfSome (first_asked ps) (λ n. has_asked n ps ≡ true)
first_asked-due ps distinct = of (first_asked ps) refl
  where
    of : (o : Option ℕ) → first_asked ps ≡ o → IfSome o (λ n. has_asked n ps ≡ true)
    of None first = tt
    of (Some n) first = has_asked-first n ps distinct first

pub is_some-then_some : {X : Type 0} (b : Bool) (x : X) → is_some (then_some b x) ≡ b
is_some-then_some true x = refl
is_some-then_some false x = refl

-- a table, made of its parts
abbrev pub table : ℕ → List Ping → Pings
table next ps = record { next = next; pending = ps }
