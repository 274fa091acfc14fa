-- The next turn: the first with something due, going round.
use Rattle.std.proofs.Common.{◌≡◌, ℕ, zero, suc, ◌+◌, ◌-◌, ◌<◌, inl, inr, map, List, [], ◌∷◌, ◌++◌, take, drop, zero-add, Bool, true, false, not, if◌then◌else◌, None, Some, refl, sym, ap, ◌∙◌, arith, slice_get, nat_eq, get_or, eq-eqb}
use Rattle.std.specs.Prelude.{Option, MatchOption}
use Rattle.std.proofs.lemmas.Bool.{cases_lt, both_ways}
use Rattle.std.proofs.lemmas.List.{take-map, drop-map, get_or-drop, get_or-take}
use Rattle.std.proofs.lemmas.Bool.Decides.{nat_tests}
use Rattle.std.proofs.lemmas.Option.{same_Some}
use Rattle.ymx_model.specs.session.Records.{End}
use Rattle.ymx_model.specs.session.FramesDue.{is_due}
use Rattle.ymx_model.specs.session.Tables.{Table, due_ids, any_due}
use Rattle.ymx_model.specs.session.Emissions.{is_first}
use Rattle.ymx_table.specs.Turns.{IsTurn}
use Rattle.ymx_table.specs.Kept.{due_flags}
use Rattle.ymx_table.specs.Flags.{IsFirst, IsNoneFrom}
use Rattle.ymx_table.proofs.Counts.{count, count-none, count-cons}

-- the first of two lists, one after the other
first-append : (id : ℕ) (xs ys : List ℕ) → is_first id xs ≡ true → is_first id (xs ++ ys) ≡ true
first-append id [] ys h = cc
first-append id (x ∷ xs) ys h = h

module _ (window : ℕ) where
  pub any_due-count : (ps : List (ℕ × End)) → any_due window ps ≡ not (nat_eq (count (is_due window) ps) 0)
  any_due-count [] = rw (count-none (is_due window)) refl
  any_due-count (p ∷ ps) = by (is_due window p.1) refl (any_due-count ps) (count-cons (is_due window) p ps)
    where
      by : (b : Bool) → is_due window p.1 ≡ b → any_due window ps ≡ not (nat_eq (count (is_due window) ps) 0)
          → count (is_due window) (p ∷ ps) ≡ (if is_due window p.1 then 1 else 0) + count (is_due window) ps
          → any_due window (p ∷ ps) ≡ not (nat_eq (count (is_due window) (p ∷ ps)) 0)
      by true e rest c = let d = rw e at c in rw (e, d) (one_more (count (is_due window) ps))
        where
          one_more : (n : ℕ) → true ≡ not (nat_eq (1 + n) 0)
          one_more n = grind (arith, nat_tests)
      by false e rest c = let d = rw (e, zero-add) at c in rw (e, d) rest

  -- the record at a place whose flag is set
  due-at : (ps : List (ℕ × End)) (at : ℕ) → get_or (map (λ q. is_due window q.1) ps) at false ≡ true
      → (p : ℕ × End) × (slice_get ps at ≡ Some p) × (is_due window p.1 ≡ true)
  due-at [] at set = cc
  due-at (p ∷ ps) zero set = (p, refl, set)
  due-at (p ∷ ps) (suc at) set = due-at ps at set

  -- the first record with something due
  first-at : (ps : List (ℕ × End)) (at : ℕ) (p : ℕ × End) → slice_get ps at ≡ Some p → is_due window p.1 ≡ true
      → ((k : ℕ) → k < at → get_or (map (λ q. is_due window q.1) ps) k false ≡ false) → is_first p.0 (due_ids window ps) ≡ true
  first-at [] at p here due before = cc
  first-at (q ∷ ps) zero p here due before =
      let e : q ≡ p = same_Some q p here in
      let d : is_due window q.1 ≡ true = ap (λ (r : ℕ × End). is_due window r.1) e ∙ due in
      rw d (eq-eqb q.0 p.0 (ap (λ (r : ℕ × End). r.0) e))
  first-at (q ∷ ps) (suc at) p here due before =
      let d : is_due window q.1 ≡ false = before 0 (omega arith) in
      rw d (first-at ps at p here due (λ k lt. before (suc k) (omega arith)))

  any-none : (ps : List (ℕ × End)) → ((k : ℕ) → get_or (map (λ q. is_due window q.1) ps) k false ≡ false) → any_due window ps ≡ false
  any-none [] h = refl
  any-none (p ∷ ps) h = let d : is_due window p.1 ≡ false = h 0 in rw d (any-none ps (λ k. h (suc k)))

  none-at : (ps : List (ℕ × End)) → ((k : ℕ) → get_or (map (λ q. is_due window q.1) ps) k false ≡ false) → due_ids window ps ≡ []
  none-at [] h = refl
  none-at (p ∷ ps) h = let d : is_due window p.1 ≡ false = h 0 in rw d (none-at ps (λ k. h (suc k)))

slice_get-drop : {X : Type 0} (n : ℕ) (xs : List X) (k : ℕ) → slice_get (drop n xs) k ≡ slice_get xs (n + k)
slice_get-drop zero xs k = let e : 0 + k ≡ k = omega arith in rw e refl
slice_get-drop (suc n) [] k = refl
slice_get-drop (suc n) (x ∷ xs) k = let e : suc (n + k) ≡ suc n + k = omega arith in rw (← e) (slice_get-drop n xs k)

slice_get-take : {X : Type 0} (n : ℕ) (xs : List X) (k : ℕ) → k < n → slice_get (take n xs) k ≡ slice_get xs k
slice_get-take zero xs k h = absurd (omega arith)
slice_get-take (suc n) [] k h = refl
slice_get-take (suc n) (x ∷ xs) zero h = refl
slice_get-take (suc n) (x ∷ xs) (suc k) h = slice_get-take n xs k (omega arith)

-- whose turn it is, by the flags of the records
module _ (t : Table) (flags : List Bool) (is : flags ≡ due_flags t) where
  flag_behind : (k : ℕ) → get_or (map (λ q. is_due t.window q.1) (drop t.turn t.entries)) k false ≡ get_or flags (t.turn + k) false
  flag_behind k =
      ap (λ bs. get_or bs k false) (sym (drop-map (λ (q : ℕ × End). is_due t.window q.1) t.turn t.entries))
      ∙ get_or-drop t.turn (due_flags t) k false ∙ ap (λ bs. get_or bs (t.turn + k) false) (sym is)

  flag_before : (k : ℕ) → k < t.turn → get_or (map (λ q. is_due t.window q.1) (take t.turn t.entries)) k false ≡ get_or flags k false
  flag_before k lt =
      ap (λ bs. get_or bs k false) (sym (take-map (λ (q : ℕ × End). is_due t.window q.1) t.turn t.entries))
      ∙ get_or-take t.turn (due_flags t) k false lt ∙ ap (λ bs. get_or bs k false) (sym is)

  due_here : (at : ℕ) → get_or flags at false ≡ true → (p : ℕ × End) × (slice_get t.entries at ≡ Some p) × (is_due t.window p.1 ≡ true)
  due_here at set = due-at t.window t.entries at (ap (λ bs. get_or bs at false) (sym is) ∙ set)

  -- the first from the place of the turn on
  pub turn-behind : (at : ℕ) → IsFirst (λ k. get_or flags k false) t.turn at → IsTurn at t
  turn-behind at first =
      let here = due_here at first.passes in
      let e : t.turn + (at - t.turn) ≡ at = let h = first.behind in omega arith in
      record {
        entry = here.0;
        stands = here.1;
        due = here.2;
        first =
            first-append here.0.0 _ _
            (first-at t.window (drop t.turn t.entries) (at - t.turn) here.0
            (slice_get-drop t.turn t.entries (at - t.turn) ∙ ap (slice_get t.entries) e ∙ here.1)
            here.2
            (λ k lt. flag_behind k ∙ first.none_between (t.turn + k) (omega arith) (omega arith)));
      }

  none_behind : IsNoneFrom (λ k. get_or flags k false) t.turn → due_ids t.window (drop t.turn t.entries) ≡ []
  none_behind none = none-at t.window (drop t.turn t.entries) (λ k. flag_behind k ∙ none (t.turn + k) (omega arith))

  -- or else the first before it
  turn-before : (at : ℕ) → IsNoneFrom (λ k. get_or flags k false) t.turn → IsFirst (λ k. get_or flags k false) 0 at → IsTurn at t
  turn-before at none first =
      let here = due_here at first.passes in
      elim (cases_lt at t.turn) [
        | inl lt ↦ record {
          entry = here.0;
          stands = here.1;
          due = here.2;
          first =
              rw (none_behind none)
              (first-at t.window (take t.turn t.entries) at here.0
              (slice_get-take t.turn t.entries at lt ∙ here.1)
              here.2
              (λ k l. flag_before k (omega arith) ∙ first.none_between k (omega arith) l));
        }
        | inr ge ↦ absurd (both_ways _ (none at ge) first.passes)
      ]

  -- and where that finds none, one from the first place on
  pub found-before : IsNoneFrom (λ k. get_or flags k false) t.turn → (o : Option ℕ)
      → MatchOption o (IsNoneFrom (λ k. get_or flags k false) 0) (IsFirst (λ k. get_or flags k false) 0)
      → MatchOption o (any_due t.window t.entries ≡ false) (λ at. IsTurn at t)
  found-before none None all = any-none t.window t.entries (λ k. ap (λ bs. get_or bs k false) (sym is) ∙ all k (omega arith))
  found-before none (Some at) first = turn-before at none first
