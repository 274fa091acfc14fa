-- The flags of a table, after one is added, changed or removed.
use Rattle.std.proofs.Common.{◌≡◌, ℕ, ◌+◌, ◌-◌, ◌/◌, ◌%◌, ◌<◌, ◌≤◌, eqb, replicate, Bool, true, false, cond, if◌then◌else◌, nat_lt, List, [], ◌∷◌, ◌++◌, length, set, get_or, remove, refl, sym, ◌∙◌, ap, inl, inr, arith, eq-eqb, ne_eqb, lt-ltb, le-ltb, ext_get_or, length-set, get_or-set_same, get_or-set_other, Option, None, Some}
use Rattle.std.specs.Prelude.{◌==◌, MatchOption}
use Rattle.std.specs.Int.{bit_at}
use Rattle.std.proofs.lemmas.Nat.Bits.{bit_at-zero}
use Rattle.std.proofs.lemmas.Bool.{cases_eq, cases_lt}
use Rattle.std.proofs.lemmas.List.{get_or_past, get_or-replicate, length-replicate}
use Rattle.std.proofs.lemmas.List.Edits.{length-remove, get_or-remove_below, get_or-remove_above}
use Rattle.std.proofs.lemmas.List.FromFn.{length-map-range_with_len, get_or-map-range_with_len, map-range_with_len_more}
use Rattle.std.proofs.lemmas.List.Sums.{sum_by-set, sum_by-remove, sum_by_push, get_or-le-sum_by, count_by-le-length}
use Rattle.ymx_table.specs.Flags.{flag, flags_of, IsFirst, IsNoneFrom, AreFlags}

pub length-flags_of : (words : List ℕ) (len : ℕ) → length (flags_of words len) ≡ len
unfolding flags_of
length-flags_of words len = length-map-range_with_len (flag words) 0 len

pub get_or-flags_of : (words : List ℕ) (len k : ℕ) → k < len → get_or (flags_of words len) k false ≡ flag words k
unfolding flags_of
get_or-flags_of words len k h = get_or-map-range_with_len (flag words) 0 len k k false h (omega arith)

-- a place of the flags is one of the words
pub below_len : (words : List ℕ) (len : ℕ) (flags : List Bool) → flags_of words len ≡ flags → (k : ℕ) → k < length flags → k < len
below_len words len flags view k h = omega (arith, length-flags_of words len, ap length view)

flags_of-more : (words : List ℕ) (len : ℕ) → flags_of words (len + 1) ≡ flags_of words len ++ flag words len ∷ []
unfolding flags_of
flags_of-more words len = map-range_with_len_more (flag words) 0 len len (omega arith)

-- words with the same flags in front
flags_of-same : (words words' : List ℕ) (len : ℕ) → ((k : ℕ) → k < len → flag words' k ≡ flag words k) → flags_of words' len ≡ flags_of words len
flags_of-same words words' len same =
    ext_get_or false _ _ (length-flags_of words' len ∙ sym (length-flags_of words len))
    (λ k h.
    let within : k < len = rw length-flags_of at h in
    get_or-flags_of words' len k within ∙ same k within ∙ sym (get_or-flags_of words len k within))

-- one flag is put
module _ (words words' : List ℕ) (place : ℕ) (b : Bool) (put : (k : ℕ) → flag words' k ≡ (if k == place then b else flag words k)) where
  put_here : flag words' place ≡ b
  put_here = put place ∙ rw (eq-eqb place place refl) refl

  put_other : (k : ℕ) → (k ≡ place → ⊥) → flag words' k ≡ flag words k
  put_other k other = put k ∙ rw (ne_eqb k place other) refl

  pub flags_of-set : (len : ℕ) → place < len → flags_of words' len ≡ set (flags_of words len) place b
  flags_of-set len within =
      ext_get_or false _ _
      (length-flags_of words' len ∙ sym (length-set (flags_of words len) place b ∙ length-flags_of words len))
      (λ k h.
      let k_within : k < len = rw length-flags_of at h in
      let there : place < length (flags_of words len) = rw length-flags_of within in
      get_or-flags_of words' len k k_within
      ∙ (elim (cases_eq k place) as (λ _. flag words' k ≡ get_or (set (flags_of words len) place b) k false) [
        | inl same ↦ rw same (put_here ∙ sym (get_or-set_same (flags_of words len) place b false there))
        | inr other ↦ put_other k other ∙ sym (get_or-set_other (flags_of words len) place k b false other ∙ get_or-flags_of words len k k_within)
      ]))

  pub flags_of-push : flags_of words' (place + 1) ≡ flags_of words place ++ b ∷ []
  flags_of-push =
      flags_of-more words' place
      ∙ ap (λ fs. fs ++ flag words' place ∷ []) (flags_of-same words words' place (λ k h. put_other k (λ e. absurd (omega arith))))
      ∙ ap (λ x. flags_of words place ++ x ∷ []) put_here

-- one flag is taken out
module _ (words words' : List ℕ) (place len : ℕ) (within : place < len)
    (taken : (k : ℕ) → flag words' k ≡ (if nat_lt k place then flag words k else flag words (k + 1))) where
  pub flags_of-remove : flags_of words' (len - 1) ≡ remove (flags_of words len) place
  flags_of-remove =
      let there : place < length (flags_of words len) = rw length-flags_of within in
      let shorter = length-remove (flags_of words len) place there in
      let n = length-flags_of words len in
      ext_get_or false _ _
      (length-flags_of words' (len - 1) ∙ omega arith)
      (λ k h.
      let k_within : k < len - 1 = rw length-flags_of at h in
      get_or-flags_of words' (len - 1) k k_within ∙ taken k
      ∙ (elim (cases_lt k place) as (λ _. (if nat_lt k place then flag words k else flag words (k + 1)) ≡ get_or (remove (flags_of words len) place) k false) [
        | inl below ↦
            rw (lt-ltb k place below)
            (sym (get_or-remove_below (flags_of words len) place false k below there ∙ get_or-flags_of words len k (omega arith)))
        | inr above ↦
            rw (le-ltb k place above)
            (sym (get_or-remove_above (flags_of words len) place false k above there ∙ get_or-flags_of words len (k + 1) (omega arith)))
      ]))

-- a flag that is set is counted, and no more are counted than there are
module _ {words : List ℕ} {len count : ℕ} (are : AreFlags words len count) where
  pub count_few : count ≤ 1024
  count_few =
      let c = are.counted in
      let f = are.few in
      let l = length-flags_of words len in
      let m = count_by-le-length (λ b. b) (flags_of words len) in
      omega arith

  -- `flags` as they are seen
  pub count_some : (flags : List Bool) → flags_of words len ≡ flags → (place : ℕ) → place < length flags → flag words place ≡ true → 0 < count
  count_some flags view place seen set_ =
      let within = below_len words len flags view place seen in
      let c = are.counted in
      let there : place < length (flags_of words len) = rw length-flags_of within in
      let here : get_or (flags_of words len) place false ≡ true = get_or-flags_of words len place within ∙ set_ in
      let m = get_or-le-sum_by (λ b. cond b 1 0) (flags_of words len) place false there in
      let m' = rw here at m in
      omega arith

  -- what stands at any place, with false after the last
  pub all_flags : (k : ℕ) → get_or (flags_of words len) k false ≡ flag words k
  all_flags k =
      elim (cases_lt k len) [
        | inl lt ↦ get_or-flags_of words len k lt
        | inr ge ↦ get_or_past (flags_of words len) k false (rw length-flags_of ge) ∙ sym (are.clear_behind k ge)
      ]

-- the words once a flag was put or taken out, where `count'` counts it
module _ {words : List ℕ} {len count : ℕ} (words' : List ℕ) (place count' : ℕ) (was is : Bool) (are : AreFlags words len count) where
  pub kept-set : (flags : List Bool) → flags_of words len ≡ flags → place < length flags → was ≡ flag words place → ((k : ℕ) → flag words' k ≡ (if k == place then is else flag words k))
      → count' + (if was then 1 else 0) ≡ count + (if is then 1 else 0) → AreFlags words' len count'
  kept-set flags view seen read put c =
      let within = below_len words len flags view place seen in record {
        few = are.few;
        clear_behind = λ k le. put_other words words' place is put k (λ e. absurd (omega arith)) ∙ are.clear_behind k le;
        counted =
            let there : place < length (flags_of words len) = rw length-flags_of within in
            let s = sum_by-set (λ b. cond b 1 0) (flags_of words len) place is false there in
            let s' = rw (get_or-flags_of words len place within, ← read) at s in
            let old = are.counted in
            rw (flags_of-set words words' place is put len within) (omega arith);
      }

  pub kept-push : len ≡ place → place < 1024 → ((k : ℕ) → flag words' k ≡ (if k == place then is else flag words k))
      → count' + 0 ≡ count + (if is then 1 else 0) → AreFlags words' (place + 1) count'
  kept-push end room put c = record {
    few = omega arith;
    clear_behind = λ k le. put_other words words' place is put k (λ e. absurd (omega arith)) ∙ are.clear_behind k (omega arith);
    counted =
        let s = sum_by_push (λ b. cond b 1 0) (flags_of words place) is in
        let old = rw end at are.counted in
        rw (flags_of-push words words' place is put) (omega arith);
  }

  pub kept-remove : (flags : List Bool) → flags_of words len ≡ flags → place < length flags → was ≡ flag words place → ((k : ℕ) → flag words' k ≡ (if nat_lt k place then flag words k else flag words (k + 1)))
      → count' + (if was then 1 else 0) ≡ count + 0 → AreFlags words' (len - 1) count'
  kept-remove flags view seen read taken c =
      let within = below_len words len flags view place seen in record {
        few = let f = are.few in omega arith;
        clear_behind = λ k le. taken k ∙ rw (le-ltb k place (omega arith)) (are.clear_behind (k + 1) (omega arith));
        counted =
            let there : place < length (flags_of words len) = rw length-flags_of within in
            let s = sum_by-remove (λ b. cond b 1 0) (flags_of words len) place false there in
            let s' = rw (get_or-flags_of words len place within, ← read) at s in
            let old = are.counted in
            rw (flags_of-remove words words' place len within taken) (omega arith);
      }

-- a search by two tests that agree
pub first_same : (f g : ℕ → Bool) → ((k : ℕ) → g k ≡ f k) → (from at : ℕ) → IsFirst f from at → IsFirst g from at
first_same f g same from at h = record {
  behind = h.behind;
  passes = same at ∙ h.passes;
  none_between = λ k le lt. same k ∙ h.none_between k le lt;
}

-- what a search over the flags finds, from what a search over the words found
pub first_view : (words : List ℕ) (len count : ℕ) (flags : List Bool) → flags_of words len ≡ flags → AreFlags words len count
    → (from : ℕ) (o : Option ℕ) → MatchOption o (IsNoneFrom (flag words) from) (IsFirst (flag words) from)
    → MatchOption o (IsNoneFrom (λ k. get_or flags k false) from) (IsFirst (λ k. get_or flags k false) from)
first_view words len count flags view are from None h =
    λ k le. rw (← view) (all_flags are k ∙ h k le)
first_view words len count flags view are from (Some at) h =
    first_same (flag words) (λ k. get_or flags k false) (λ k. rw (← view) (all_flags are k)) from at h

-- words of which no bit is set
abbrev zeros : ℕ → List ℕ
zeros n = replicate n 0

get_or-zeros : (n k : ℕ) → get_or (zeros n) k 0 ≡ 0
get_or-zeros n k =
    elim (cases_lt k n) [
      | inl lt ↦ get_or-replicate n k 0 0 lt
      | inr ge ↦ get_or_past (zeros n) k 0 (rw length-replicate ge)
    ]

pub are-none : (n : ℕ) → AreFlags (zeros n) 0 0
unfolding flags_of
are-none n = record {
  few = omega arith;
  clear_behind = λ k le. ap (λ w. eqb (bit_at w (k % 64)) 1) (get_or-zeros n (k / 64)) ∙ ap (λ b. eqb b 1) (bit_at-zero (k % 64));
  counted = refl;
}
