-- Each step of a journal keeps its rule.
use Rattle.std.proofs.Common.{◌≡◌, ◌≢◌, ℕ, zero, suc, ◌==◌, List, [], ◌∷◌, ◌++◌, length, set, Bool, true, false, true≢false, if◌then◌else◌, refl, sym, ap, ◌∙◌, subst, ⊎_elim, arith, append_assoc, append-nil}
use Rattle.std.specs.Prelude.{slice_get, Some}
use Rattle.std.proofs.lemmas.List.{length-append, length-set}
use Rattle.std.proofs.lemmas.Option.{slice_get_within}
use Rattle.std.proofs.lemmas.Bool.Decides.{nat_tests}
use mathlib.Core.Option.{some, some-ne-none, some-injective}
use mathlib.Core.List.{IsPrefix}
use lib.ListN.{get_elem?}
use Rattle.atomic_table.proofs.Lists.{at_set}
use Rattle.atomic_table.specs.Table.{State, Allows, Splits, Joins}
use Rattle.atomic_table.specs.Table.Act.{keeps}
use Rattle.ymx_model.specs.declared.types.Entry.{Entry}
use Rattle.ymx_seats.specs.declared.plays.Knowledge.{Knowledge}
use Rattle.ymx_seats.specs.declared.plays.Right.{Right}
use Rattle.ymx_seats.specs.Journals.{part, release_of, knower, caller, nobody, visited, visitor, shown, having_released, Fits, IsKept, IsBehind, HasAdded, HasShown, HasReleased, HasCounted}
use Rattle.ymx_seats.proofs.Places.{got_before, got_last, got_same, got_other}

off : false ≡ true → ⊥
off e = true≢false (sym e)

-- ---- the list of what is known

-- what holds of all the others, and of the one that is new
others_too : (P : ℕ → Knowledge → Type 0) (views : List Knowledge) (id : ℕ) (w : Knowledge) → ((j : ℕ) (u : Knowledge) → j ≢ id → get_elem? views j ≡ some u → P j u) → P id w → (j : ℕ) (u : Knowledge) → get_elem? (set views id w) j ≡ some u → P j u
others_too P views id w others mine j u e =
    ⊎_elim
    (λ (x : (j ≡ id) × (w ≡ u)). subst (λ (y : ℕ × Knowledge). P y.0 y.1) (λ i. (sym x.0 i, x.1 i)) mine)
    (λ (x : (j ≢ id) × (get_elem? views j ≡ some u)). others j u x.0 x.1)
    (at_set views id j w u e)

-- and of one that comes after all
behind_too : (P : ℕ → Knowledge → Type 0) (views : List Knowledge) (w : Knowledge) → ((j : ℕ) (u : Knowledge) → get_elem? views j ≡ some u → P j u) → P (length views) w → (j : ℕ) (u : Knowledge) → get_elem? (views ++ w ∷ []) j ≡ some u → P j u
behind_too P [] w others mine zero u e = subst (P 0) (some-injective w u e) mine
behind_too P [] w others mine (suc j) u e = absurd (some-ne-none u (sym e))
behind_too P (v ∷ vs) w others mine zero u e = others zero u e
behind_too P (v ∷ vs) w others mine (suc j) u e = behind_too (λ i. P (suc i)) vs w (λ i x. others (suc i) x) mine j u e

-- ---- entries of one caller

picked : (b : Bool) (e : Entry) (xs ys zs : List Entry) → xs ≡ ys ++ zs → (if b then e ∷ xs else xs) ≡ (if b then e ∷ ys else ys) ++ zs
picked true e xs ys zs p = ap (λ w. e ∷ w) p
picked false e xs ys zs p = p

pub part-append : (n : ℕ) (xs ys : List Entry) → part n (xs ++ ys) ≡ part n xs ++ part n ys
part-append n [] ys = refl
part-append n (e ∷ xs) ys = picked (e.seat == n) e (part n (xs ++ ys)) (part n xs) (part n ys) (part-append n xs ys)

none_of : (n : ℕ) (e : Entry) (b : Bool) → (e.seat == n) ≡ b → (e.seat ≡ n → ⊥) → (if b then e ∷ [] else []) ≡ []
none_of n e true is apart = absurd (apart (grind (arith, nat_tests)))
none_of n e false is apart = refl

part_of_other : (n : ℕ) (log : List Entry) (e : Entry) → (e.seat ≡ n → ⊥) → part n (log ++ e ∷ []) ≡ part n log
part_of_other n log e apart = part-append n log (e ∷ []) ∙ (ap (λ es. part n log ++ es) (none_of n e (e.seat == n) refl apart) ∙ append-nil (part n log))

prefix_more : (xs ys zs : List Entry) → IsPrefix xs ys → IsPrefix xs (ys ++ zs)
prefix_more xs ys zs p = (p.0 ++ zs, sym (append_assoc xs p.0 zs) ∙ ap (λ es. es ++ zs) p.1)

prefix_same : (xs ys : List Entry) → xs ≡ ys → IsPrefix xs ys
prefix_same xs ys e = ([], append-nil xs ∙ e)

-- ---- the steps

fits_nobody : (keeper : ℕ) (owner : ℕ → ℕ) (rights : List Right) (log : List Entry) (id : ℕ) → Fits keeper owner rights log id nobody
fits_nobody keeper owner rights log id = record { keeps = λ k. absurd (off k); speaks = λ k. absurd (off k) }

pub begins : IsKept (knower [] [] ∷ [])
begins = record { keeper = 0; owner = λ _. 0; rights = []; log = []; fits = one; unmade = λ n _. refl }
  where
    one : (id : ℕ) (v : Knowledge) → get_elem? (knower [] [] ∷ []) id ≡ some v → Fits 0 (λ _. 0) [] [] id v
    one zero v e = subst (Fits 0 (λ _. 0) [] [] 0) (some-injective (knower [] []) v e) (record { keeps = λ _. (refl, refl, refl); speaks = λ k. absurd (off k) })
    one (suc id) v e = absurd (some-ne-none v (sym e))

-- the keeper with a caller
abbrev with_caller : List Entry → List Right → ℕ → Right → List Entry → Knowledge
with_caller whole rights number right seen = visited (knower whole rights) (caller number right seen)

-- what both of them know is so
both_stand : (views : List Knowledge) (id : ℕ) (whole : List Entry) (rights : List Right) (number : ℕ) (right : Right) (seen : List Entry) → (h : IsKept views) → get_elem? views id ≡ some (with_caller whole rights number right seen)
    → ((id ≡ h.keeper) × (whole ≡ h.log) × (rights ≡ h.rights)) × ((h.owner number ≡ id) × (slice_get h.rights number ≡ Some right) × IsPrefix seen h.log × (part number h.log ≡ part number seen))
both_stand views id whole rights number right seen h at = let mine = h.fits id (with_caller whole rights number right seen) at in (mine.keeps refl, mine.speaks refl)

adds_to : (views : List Knowledge) (id : ℕ) (e : Entry) (whole : List Entry) (rights : List Right) (number : ℕ) (right : Right) (seen : List Entry) → e.seat ≡ number → IsKept views → get_elem? views id ≡ some (with_caller whole rights number right seen)
    → IsKept (set views id (shown (whole ++ e ∷ []) (with_caller whole rights number right seen)))
adds_to views id e whole rights number right seen by h at =
    let (k, s) = both_stand views id whole rights number right seen h at in record {
      keeper = h.keeper;
      owner = h.owner;
      rights = h.rights;
      log = h.log ++ e ∷ [];
      fits = others_too (Fits h.keeper h.owner h.rights (h.log ++ e ∷ [])) views id (shown (whole ++ e ∷ []) (with_caller whole rights number right seen))
          (λ j u apart there. record {
            keeps = λ b. absurd (apart (((h.fits j u there).keeps b).0 ∙ sym k.0));
            speaks = λ b.
                let t = (h.fits j u there).speaks b in (
                  t.0,
                  t.1,
                  prefix_more u.seen h.log (e ∷ []) t.2,
                  part_of_other u.number h.log e (λ same. apart (sym t.0 ∙ ap h.owner (sym same ∙ by) ∙ s.0)) ∙ t.3,
                );
          })
          (record {
            keeps = λ _. (k.0, ap (λ es. es ++ e ∷ []) k.1, k.2);
            speaks = λ _. (
              s.0,
              s.1,
              prefix_same (whole ++ e ∷ []) (h.log ++ e ∷ []) (ap (λ es. es ++ e ∷ []) k.1),
              ap (λ es. part number (es ++ e ∷ [])) (sym k.1),
            );
          });
      unmade = λ n le. part_of_other n h.log e (λ same. let within = slice_get_within h.rights number right s.1 in omega (arith, le, within, same, by)) ∙ h.unmade n le;
    }

behind : (views : List Knowledge) (id : ℕ) (whole : List Entry) (rights : List Right) (number : ℕ) (right : Right) (seen : List Entry) → IsKept views → get_elem? views id ≡ some (with_caller whole rights number right seen) → IsBehind (with_caller whole rights number right seen)
behind views id whole rights number right seen h at =
    let (k, s) = both_stand views id whole rights number right seen h at in
    (subst (λ es. IsPrefix seen es) (sym k.1) s.2, ap (λ es. part number es) k.1 ∙ s.3, ap (λ (xs : List Right). slice_get xs number) k.2 ∙ s.1)

shows_to : (views : List Knowledge) (id : ℕ) (whole : List Entry) (rights : List Right) (number : ℕ) (right : Right) (seen : List Entry) → IsKept views → get_elem? views id ≡ some (with_caller whole rights number right seen)
    → IsKept (set views id (shown whole (with_caller whole rights number right seen)))
shows_to views id whole rights number right seen h at =
    let (k, s) = both_stand views id whole rights number right seen h at in record {
      keeper = h.keeper;
      owner = h.owner;
      rights = h.rights;
      log = h.log;
      fits = others_too (Fits h.keeper h.owner h.rights h.log) views id (shown whole (with_caller whole rights number right seen))
          (λ j u apart there. h.fits j u there)
          (record { keeps = λ _. k; speaks = λ _. (s.0, s.1, prefix_same whole h.log k.1, ap (λ es. part number es) (sym k.1)) });
      unmade = h.unmade;
    }

releases_to : (views : List Knowledge) (id : ℕ) (whole : List Entry) (rights : List Right) (number : ℕ) (right : Right) (seen : List Entry) → IsKept views → get_elem? views id ≡ some (with_caller whole rights number right seen)
    → IsKept (set views id (having_released (with_caller whole rights number right seen)))
releases_to views id whole rights number right seen h at =
    let (k, s) = both_stand views id whole rights number right seen h at in
    let next = set h.rights number (release_of right) in record {
      keeper = h.keeper;
      owner = h.owner;
      rights = next;
      log = h.log;
      fits = others_too (Fits h.keeper h.owner next h.log) views id (having_released (with_caller whole rights number right seen))
          (λ j u apart there. record {
            keeps = λ b. absurd (apart (((h.fits j u there).keeps b).0 ∙ sym k.0));
            speaks = λ b.
                let t = (h.fits j u there).speaks b in
                (t.0, got_other h.rights number u.number (release_of right) u.right (λ same. apart (sym t.0 ∙ ap h.owner same ∙ s.0)) t.1, t.2, t.3);
          })
          (record {
            keeps = λ _. (k.0, k.1, ap (λ (xs : List Right). set xs number (release_of right)) k.2);
            speaks = λ _. (s.0, got_same h.rights number right (release_of right) s.1, s.2, s.3);
          });
      unmade = λ n le. let long = length-set h.rights number (release_of right) in h.unmade n (omega (arith, le, long));
    }

-- the owner of one number is another now
abbrev passed : (ℕ → ℕ) → ℕ → ℕ → ℕ → ℕ
passed owner n id m = if m == n then id else owner m

passed_here : (owner : ℕ → ℕ) (n id m : ℕ) (b : Bool) → (m == n) ≡ b → m ≡ n → (if b then id else owner m) ≡ id
passed_here owner n id m true is same = refl
passed_here owner n id m false is same = absurd (grind (arith, nat_tests))

passed_else : (owner : ℕ → ℕ) (n id m : ℕ) (b : Bool) → (m == n) ≡ b → (m ≡ n → ⊥) → (if b then id else owner m) ≡ owner m
passed_else owner n id m true is apart = absurd (apart (grind (arith, nat_tests)))
passed_else owner n id m false is apart = refl

joins_in : (views : List Knowledge) (id other : ℕ) (whole : List Entry) (rights : List Right) (number : ℕ) (right : Right) (seen : List Entry) → IsKept views → get_elem? views id ≡ some (knower whole rights) → (other ≡ id → ⊥)
    → get_elem? (set views id (with_caller whole rights number right seen)) other ≡ some (caller number right seen) → IsKept (set (set views id (with_caller whole rights number right seen)) other nobody)
joins_in views id other whole rights number right seen h at apart there =
    let w = with_caller whole rights number right seen in
    let k = (h.fits id (knower whole rights) at).keeps refl in
    let theirs = ⊎_elim (λ (t : (other ≡ id) × (w ≡ caller number right seen)). absurd (apart t.0)) (λ (t : (other ≢ id) × (get_elem? views other ≡ some (caller number right seen))). h.fits other (caller number right seen) t.1) (at_set views id other w (caller number right seen) there) in
    let s = theirs.speaks refl in
    let owner = passed h.owner number id in record {
      keeper = h.keeper;
      owner = owner;
      rights = h.rights;
      log = h.log;
      fits = others_too (Fits h.keeper owner h.rights h.log) (set views id w) other nobody
          (λ j u away was.
          others_too (λ i x. i ≢ other → Fits h.keeper owner h.rights h.log i x) views id w
          (λ i x alone here far. record {
            keeps = (h.fits i x here).keeps;
            speaks = λ b.
                let t = (h.fits i x here).speaks b in (
                  passed_else h.owner number id x.number (x.number == number) refl (λ same. far (sym t.0 ∙ ap h.owner same ∙ s.0)) ∙ t.0,
                  t.1,
                  t.2,
                  t.3,
                );
          })
          (λ _. record { keeps = λ _. k; speaks = λ _. (passed_here h.owner number id number (number == number) refl refl, s.1, s.2, s.3) })
          j u was away)
          (fits_nobody h.keeper owner h.rights h.log other);
      unmade = h.unmade;
    }

splits_off : (views : List Knowledge) (id : ℕ) (whole : List Entry) (rights : List Right) (number : ℕ) (right : Right) (seen : List Entry) → IsKept views → get_elem? views id ≡ some (with_caller whole rights number right seen)
    → IsKept (set views id (knower whole rights) ++ caller number right seen ∷ [])
splits_off views id whole rights number right seen h at =
    let (k, s) = both_stand views id whole rights number right seen h at in
    let left = set views id (knower whole rights) in
    let owner = passed h.owner number (length left) in record {
      keeper = h.keeper;
      owner = owner;
      rights = h.rights;
      log = h.log;
      fits = behind_too (Fits h.keeper owner h.rights h.log) left (caller number right seen)
          (others_too (Fits h.keeper owner h.rights h.log) views id (knower whole rights)
          (λ j u apart there. record {
            keeps = (h.fits j u there).keeps;
            speaks = λ b.
                let t = (h.fits j u there).speaks b in (
                  passed_else h.owner number (length left) u.number (u.number == number) refl (λ same. apart (sym t.0 ∙ ap h.owner same ∙ s.0)) ∙ t.0,
                  t.1,
                  t.2,
                  t.3,
                );
          })
          (record { keeps = λ _. k; speaks = λ b. absurd (off b) }))
          (record { keeps = λ b. absurd (off b); speaks = λ _. (passed_here h.owner number (length left) number (number == number) refl refl, s.1, s.2, s.3) });
      unmade = h.unmade;
    }

numbers_one : (views : List Knowledge) (id : ℕ) (whole : List Entry) (rights : List Right) (right : Right) → IsKept views → get_elem? views id ≡ some (knower whole rights)
    → IsKept (set views id (knower whole (rights ++ right ∷ [])) ++ caller (length rights) right whole ∷ [])
numbers_one views id whole rights right h at =
    let k = (h.fits id (knower whole rights) at).keeps refl in
    let made = length rights in
    let next = rights ++ right ∷ [] in
    let left = set views id (knower whole next) in
    let owner = passed h.owner made (length left) in record {
      keeper = h.keeper;
      owner = owner;
      rights = next;
      log = h.log;
      fits = behind_too (Fits h.keeper owner next h.log) left (caller made right whole)
          (others_too (Fits h.keeper owner next h.log) views id (knower whole next)
          (λ j u apart there. record {
            keeps = λ b. absurd (apart (((h.fits j u there).keeps b).0 ∙ sym k.0));
            speaks = λ b.
                let t = (h.fits j u there).speaks b in
                let known : slice_get rights u.number ≡ Some u.right = ap (λ (xs : List Right). slice_get xs u.number) k.2 ∙ t.1 in
                let within = slice_get_within rights u.number u.right known in (
                  passed_else h.owner made (length left) u.number (u.number == made) refl (λ same. omega (arith, same, within)) ∙ t.0,
                  got_before rights right u.number u.right known,
                  t.2,
                  t.3,
                );
          })
          (record { keeps = λ _. (k.0, k.1, refl); speaks = λ b. absurd (off b) }))
          (record {
            keeps = λ b. absurd (off b);
            speaks = λ _. (passed_here h.owner made (length left) made (made == made) refl refl, got_last rights right, prefix_same whole h.log k.1, ap (λ es. part made es) (sym k.1));
          });
      unmade = λ n le. let long = length-append rights (right ∷ []) in let same = ap (λ (xs : List Right). length xs) k.2 in h.unmade n (omega (arith, le, long, same));
    }

counts_all : (views : List Knowledge) (id : ℕ) (whole : List Entry) (rights : List Right) → IsKept views → get_elem? views id ≡ some (knower whole rights) → part (length rights) whole ≡ []
counts_all views id whole rights h at =
    let k = (h.fits id (knower whole rights) at).keeps refl in
    let same = ap (λ (xs : List Right). length xs) k.2 in
    ap (λ es. part (length rights) es) k.1 ∙ h.unmade (length rights) (omega (arith, same))

same_again : (views : List Knowledge) (id : ℕ) (v : Knowledge) → IsKept views → get_elem? views id ≡ some v → IsKept (set views id v)
same_again views id v h at = record {
  keeper = h.keeper;
  owner = h.owner;
  rights = h.rights;
  log = h.log;
  fits = others_too (Fits h.keeper h.owner h.rights h.log) views id v (λ j u apart there. h.fits j u there) (h.fits id v at);
  unmade = h.unmade;
}

-- ---- the steps, as the table asks for them

-- the rule of the table
abbrev pub Rules : State ℕ Knowledge → Type 0
Rules s = IsKept s.views

-- what a pass with no slot knows
abbrev pub knows : Knowledge → Knowledge × List (ℕ × ℕ)
knows v = (v, [])

abbrev pub keeper_of : List Entry → List Right → ℕ → Right → List Entry → Knowledge
keeper_of whole rights number right seen = visited (knower whole rights) (caller number right seen)

adds_at : (slots id : ℕ) (e : Entry) (whole : List Entry) (rights : List Right) (number : ℕ) (right : Right) (seen : List Entry) → e.seat ≡ number
    → Allows Rules slots id (knows (keeper_of whole rights number right seen)) 0 (λ n. n) (λ n w. HasAdded e (knows (keeper_of whole rights number right seen)) w)
adds_at slots id e whole rights number right seen by s h homes at less = (
  shown (whole ++ e ∷ []) (keeper_of whole rights number right seen),
  keeps,
  tt,
  adds_to s.views id e whole rights number right seen by h at,
  (behind s.views id whole rights number right seen h at, refl),
)

pub adds : (slots id : ℕ) (e : Entry) (me : Knowledge × List (ℕ × ℕ)) (whole : List Entry) (rights : List Right) (number : ℕ) (right : Right) (seen : List Entry) → me ≡ knows (keeper_of whole rights number right seen) → e.seat ≡ number
    → Allows Rules slots id me 0 (λ n. n) (λ n w. HasAdded e me w)
adds slots id e me whole rights number right seen is by =
    subst (λ (m : Knowledge × List (ℕ × ℕ)). Allows Rules slots id m 0 (λ n. n) (λ n w. HasAdded e m w)) (sym is) (adds_at slots id e whole rights number right seen by)

shows_at : (slots id : ℕ) (whole : List Entry) (rights : List Right) (number : ℕ) (right : Right) (seen : List Entry)
    → Allows Rules slots id (knows (keeper_of whole rights number right seen)) 0 (λ n. n) (λ n w. HasShown (knows (keeper_of whole rights number right seen)) w)
shows_at slots id whole rights number right seen s h homes at less = (
  shown whole (keeper_of whole rights number right seen),
  keeps,
  tt,
  shows_to s.views id whole rights number right seen h at,
  (behind s.views id whole rights number right seen h at, refl),
)

pub shows : (slots id : ℕ) (me : Knowledge × List (ℕ × ℕ)) (whole : List Entry) (rights : List Right) (number : ℕ) (right : Right) (seen : List Entry) → me ≡ knows (keeper_of whole rights number right seen)
    → Allows Rules slots id me 0 (λ n. n) (λ n w. HasShown me w)
shows slots id me whole rights number right seen is =
    subst (λ (m : Knowledge × List (ℕ × ℕ)). Allows Rules slots id m 0 (λ n. n) (λ n w. HasShown m w)) (sym is) (shows_at slots id whole rights number right seen)

releases_at : (slots id : ℕ) (whole : List Entry) (rights : List Right) (number : ℕ) (right : Right) (seen : List Entry)
    → Allows Rules slots id (knows (keeper_of whole rights number right seen)) 0 (λ n. n) (λ n w. HasReleased (knows (keeper_of whole rights number right seen)) w)
releases_at slots id whole rights number right seen s h homes at less = (
  having_released (keeper_of whole rights number right seen),
  keeps,
  tt,
  releases_to s.views id whole rights number right seen h at,
  (behind s.views id whole rights number right seen h at, refl),
)

pub releases : (slots id : ℕ) (me : Knowledge × List (ℕ × ℕ)) (whole : List Entry) (rights : List Right) (number : ℕ) (right : Right) (seen : List Entry) → me ≡ knows (keeper_of whole rights number right seen)
    → Allows Rules slots id me 0 (λ n. n) (λ n w. HasReleased me w)
releases slots id me whole rights number right seen is =
    subst (λ (m : Knowledge × List (ℕ × ℕ)). Allows Rules slots id m 0 (λ n. n) (λ n w. HasReleased m w)) (sym is) (releases_at slots id whole rights number right seen)

counts_at : (slots id : ℕ) (whole : List Entry) (rights : List Right) → Allows Rules slots id (knows (knower whole rights)) 0 (λ n. n) (λ n w. HasCounted (knows (knower whole rights)) w)
counts_at slots id whole rights s h homes at less =
    (knower whole rights, keeps, tt, same_again s.views id (knower whole rights) h at, (counts_all s.views id whole rights h at, refl))

pub counts : (slots id : ℕ) (me : Knowledge × List (ℕ × ℕ)) (whole : List Entry) (rights : List Right) → me ≡ knows (knower whole rights) → Allows Rules slots id me 0 (λ n. n) (λ n w. HasCounted me w)
counts slots id me whole rights is =
    subst (λ (m : Knowledge × List (ℕ × ℕ)). Allows Rules slots id m 0 (λ n. n) (λ n w. HasCounted m w)) (sym is) (counts_at slots id whole rights)

joins_at : (id other : ℕ) (whole : List Entry) (rights : List Right) (number : ℕ) (right : Right) (seen : List Entry) → Joins Rules id (knower whole rights) other (caller number right seen) (keeper_of whole rights number right seen) nobody
joins_at id other whole rights number right seen s h at apart there = joins_in s.views id other whole rights number right seen h at apart there

pub joins : (id other : ℕ) (v w : Knowledge) (whole : List Entry) (rights : List Right) (number : ℕ) (right : Right) (seen : List Entry) → v ≡ knower whole rights → w ≡ caller number right seen → Joins Rules id v other w (visited v w) nobody
joins id other v w whole rights number right seen is are =
    subst (λ (x : Knowledge × Knowledge). Joins Rules id x.0 other x.1 (visited x.0 x.1) nobody) (λ i. (sym is i, sym are i)) (joins_at id other whole rights number right seen)

splits_at : (id : ℕ) (whole : List Entry) (rights : List Right) (number : ℕ) (right : Right) (seen : List Entry) → Splits Rules id (keeper_of whole rights number right seen) (knower whole rights) (caller number right seen)
splits_at id whole rights number right seen s h at = splits_off s.views id whole rights number right seen h at

pub splits : (id : ℕ) (v : Knowledge) (whole : List Entry) (rights : List Right) (number : ℕ) (right : Right) (seen : List Entry) → v ≡ keeper_of whole rights number right seen → Splits Rules id v (knower v.whole v.rights) (visitor v)
splits id v whole rights number right seen is =
    subst (λ (u : Knowledge). Splits Rules id u (knower u.whole u.rights) (visitor u)) (sym is) (splits_at id whole rights number right seen)

numbers_at : (id : ℕ) (whole : List Entry) (rights : List Right) (right : Right) → Splits Rules id (knower whole rights) (knower whole (rights ++ right ∷ [])) (caller (length rights) right whole)
numbers_at id whole rights right s h at = numbers_one s.views id whole rights right h at

pub numbers : (id : ℕ) (v : Knowledge) (whole : List Entry) (rights : List Right) (right : Right) → v ≡ knower whole rights → Splits Rules id v (knower v.whole (v.rights ++ right ∷ [])) (caller (length v.rights) right v.whole)
numbers id v whole rights right is =
    subst (λ (u : Knowledge). Splits Rules id u (knower u.whole (u.rights ++ right ∷ [])) (caller (length u.rights) right u.whole)) (sym is) (numbers_at id whole rights right)

pub alone : (x y : Knowledge) → x ∷ [] ≡ y ∷ [] → x ≡ y
alone x y e = cc (e)
