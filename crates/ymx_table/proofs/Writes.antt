-- A table after one record was written at its place.
use Rattle.std.proofs.Common.{◌≡◌, ℕ, zero, suc, map, set, take, drop, ◌+◌, ◌*◌, ◌<◌, ◌≤◌, ◌^◌, List, [], ◌∷◌, ◌++◌, length, Bool, false, if◌then◌else◌, Option, None, Some, is_some, position, refl, sym, ap, ◌∙◌, subst, arith, slice_get, ◌-◌, remove, nat_lt, nat_eq, get_or, length-append}
use Rattle.std.specs.Prelude.{IsSome, All, MatchOption}
use Rattle.std.specs.List.{IsDistinct}
use Rattle.std.specs.Map.{values_of, keys_of}
use Rattle.std.proofs.lemmas.Bool.Decides.{nat_tests}
use Rattle.std.proofs.lemmas.List.{map-append, length-map, take-map, drop-map}
use Rattle.std.proofs.lemmas.List.Elements.{All-push, All-get_or}
use Rattle.std.proofs.lemmas.Map.Views.{All-map-remove_entry}
use Rattle.indexmap.specs.IndexMap.{set_value_at, insert_entry}
use Rattle.ymx_model.specs.session.Records.{End}
use Rattle.ymx_model.specs.session.FramesDue.{is_due}
use Rattle.ymx_model.specs.session.Tables.{Table, with_record, pass_turn, remove_record, insert_record}
use Rattle.ymx_machine.specs.shared.Lists.{look, change, without, place}
use Rattle.ymx_machine.specs.shared.Limits.{most_records}
use Rattle.ymx_table.specs.Unsent.{unsent_counts, IsTotal}
use Rattle.ymx_table.specs.Kept.{IsKept}
use Rattle.ymx_table.specs.Changes.{ChangesRecord}
use Rattle.ymx_table.specs.Standing.{StandsAt}
use Rattle.ymx_table.proofs.Places.{look-at, place-only, set_value_at-place, look-place, place-lt, remove-place, remove_entry_is, insert_entry-new, place-position}
use Rattle.ymx_table.proofs.Totals.{part, few_total, total-set, total-push, total-remove, get_or-map-values}
use Rattle.ymx_table.proofs.Others.{change-none, change-known, change-nothing, length-change, keys-change, place-change, length-without}

-- how many bytes of a stream are unsent
abbrev unsent_of : End → ℕ
unsent_of e = length e.writer.unsent

-- what is told of each of a table's records, after one is written or removed
module _ {Y : Type 0} (f : ℕ × End → Y) (g : End → Y) (same : (id : ℕ) (e : End) → f (id, e) ≡ g e) where
  map-set_value_at : (ps : List (ℕ × End)) (at : ℕ) (x : End) → map f (set_value_at ps at x) ≡ set (map f ps) at (g x)
  map-set_value_at [] at x = refl
  map-set_value_at (p ∷ ps) zero x = ap (λ y. y ∷ map f ps) (same p.0 x)
  map-set_value_at (p ∷ ps) (suc at) x = ap (λ ys. f p ∷ ys) (map-set_value_at ps at x)

map-remove : {X Y : Type 0} (f : X → Y) (xs : List X) (at : ℕ) → map f (remove xs at) ≡ remove (map f xs) at
map-remove f xs at =
    map-append f (take at xs) (drop (suc at) xs)
    ∙ (λ i. sym (take-map f at xs) i ++ sym (drop-map f (suc at) xs) i)

-- where a record that is there stands
pub stands-at : (t : Table) (id at : ℕ) → IsSome (look id t.entries) → at ≡ place id t.entries → StandsAt id t at
stands-at t id at there p = record {
  at_place = p;
  within = rw p (place-lt id t.entries there);
  stands = ap (slice_get (values_of t.entries)) p ∙ look-place id t.entries;
}

-- a record whose id is found at a place stands there
pub stands-there : (t : Table) (id at : ℕ) (p : ℕ × End) → IsDistinct nat_eq (keys_of t.entries) → slice_get t.entries at ≡ Some p → p.0 ≡ id → StandsAt id t at
stands-there t id at p d here same = stands-at t id at (look-at id t.entries at p here same) (place-only id t.entries at p d here same)

-- what a search for the place of a record finds
pub stands-found : (t : Table) (id : ℕ) (o : Option ℕ) → is_some o ≡ is_some (look id t.entries) → o ≡ position (nat_eq id) (keys_of t.entries)
    → MatchOption o (look id t.entries ≡ None) (StandsAt id t)
stands-found t id None there found = of (look id t.entries) there
  where
    of : (o : Option End) → false ≡ is_some o → o ≡ None
    of None e = refl
    of (Some x) e = absurd cc
stands-found t id (Some at) there found = stands-at t id at (sym there) (place-position id t.entries at (sym found))

-- where there is no record, none changes
pub untouched : (id : ℕ) (f : End → End) (t : Table) → look id t.entries ≡ None → t ≡ with_record id f t
untouched id f t absent = sym (ap (λ ps. record t { entries = ps }) (change-none id f t.entries absent))

-- a change by which each record becomes what a function makes of it
pub changed : {R : Type 0} (step : End → R → End → Type 0) (id : ℕ) (f : End → End) (old new : Table) (o : Option R)
    → ChangesRecord step id old o new → ((e after : End) (answer : R) → step e answer after → after ≡ f e) → new ≡ with_record id f old
changed step id f old new None h is = h.1 ∙ untouched id f old h.0
changed step id f old new (Some answer) h is =
    h.2.2 ∙ ap (λ x. with_record id (λ _. x) old) (is h.0 h.2.0 answer h.2.1)
    ∙ ap (λ ps. record old { entries = ps }) (change-known id f h.0 old.entries h.1)

-- the flags are as many as the records
pub flags_within : {t u : Table} → t ≡ u → {flags : List Bool} {unsent : ℕ} → IsKept t flags unsent → {id at : ℕ} → StandsAt id u at → at < length flags
flags_within {t} {u} same {flags} {unsent} k s =
    let n : length flags ≡ length t.entries = ap length k.flagged ∙ length-map t.entries (λ p. is_due t.window p.1) in
    let m : length t.entries ≡ length u.entries = ap (λ (v : Table). length v.entries) same in
    let w = s.within in
    omega arith

-- the unsent bytes are told of each record, and all are not many
counts-long : (t : Table) → length (unsent_counts t) ≡ length t.entries
counts-long t = length-map t.entries (λ p. unsent_of p.1)

pub unsent-few : {t : Table} {flags : List Bool} {unsent : ℕ} → IsKept t flags unsent → unsent ≤ most_records * 2 ^ 64
unsent-few {t} k = few_total k.counted (let m = counts-long t in let f = k.few in omega arith)

-- `t` is the table before the write, as its fields show it, and `u` the same as its callers see it
module _ {t u : Table} (same : t ≡ u) {id at : ℕ} {before : End} (s : StandsAt id u at)
    (here : slice_get (values_of t.entries) at ≡ Some before) where
  found : look id t.entries ≡ Some before
  found = ap (λ (v : Table). look id v.entries) same ∙ sym s.stands ∙ ap (λ (v : Table). slice_get (values_of v.entries) at) (sym same) ∙ here

  entries-written : (after : End) → set_value_at t.entries at after ≡ change id (λ _. after) t.entries
  entries-written after =
      ap (λ i. set_value_at t.entries i after) (s.at_place ∙ ap (λ (v : Table). place id v.entries) (sym same))
      ∙ set_value_at-place id t.entries after

  pub found-before : look id u.entries ≡ Some before
  found-before = ap (λ (v : Table). look id v.entries) (sym same) ∙ found

  -- the table is the same but for the one record
  pub written : (f : End → End) (after : End) → after ≡ f before → record t { entries = set_value_at t.entries at after } ≡ with_record id f u
  written f after e =
      ap (λ ps. record t { entries = ps })
      (entries-written after ∙ ap (λ x. change id (λ _. x) t.entries) e ∙ change-known id f before t.entries found)
      ∙ ap (with_record id f) same

  counts-within : at < length (unsent_counts t)
  counts-within =
      let w = s.within in
      let n : length t.entries ≡ length u.entries = ap (λ (v : Table). length v.entries) same in
      let m = counts-long t in
      omega arith

  counts-before : get_or (unsent_counts t) at 0 ≡ unsent_of before
  counts-before = get_or-map-values unsent_of t.entries at before here

  -- the record's unsent bytes are a part of all
  pub unsent-part : {flags : List Bool} {unsent : ℕ} → IsKept t flags unsent → unsent_of before ≤ unsent
  unsent-part k = let p = part k.counted at counts-within in let b = counts-before in omega arith

  -- their sum, once the record changed
  pub counted-written : {flags : List Bool} {unsent unsent' : ℕ} (after : End) → IsKept t flags unsent → unsent_of after < 2 ^ 64
      → unsent' + unsent_of before ≡ unsent + unsent_of after → IsTotal (unsent_counts (record t { entries = set_value_at t.entries at after })) unsent'
  counted-written {flags} {unsent} {unsent'} after k fits e =
      subst (λ ns. IsTotal ns unsent') (sym (map-set_value_at (λ p. unsent_of p.1) unsent_of (λ j x. refl) t.entries at after))
      (total-set k.counted at (unsent_of after) unsent' counts-within fits (let b = counts-before in omega arith))

  -- the same where the record has as many as before
  pub counted-same : {flags : List Bool} {unsent : ℕ} (after : End) → IsKept t flags unsent → unsent_of after ≡ unsent_of before
      → IsTotal (unsent_counts (record t { entries = set_value_at t.entries at after })) unsent
  counted-same {flags} {unsent} after k e =
      counted-written after k
      (let f = All-get_or (λ n. n < 2 ^ 64) (unsent_counts t) at 0 counts-within k.counted.each_fits in let b = counts-before in omega arith)
      (omega arith)

  -- and it is as every table is, once the record's flag and the sum are right
  pub kept-written : {flags flags' : List Bool} {unsent unsent' : ℕ} {is : Bool} (after : End) → IsKept t flags unsent → is ≡ is_due t.window after
      → flags' ≡ set flags at is → IsTotal (unsent_counts (record t { entries = set_value_at t.entries at after })) unsent'
      → IsKept (record t { entries = set_value_at t.entries at after }) flags' unsent'
  kept-written {flags} after k i d total = record {
    narrowest = k.narrowest;
    widest = k.widest;
    flagged =
        d ∙ ap (λ b. set flags at b) i ∙ ap (λ bs. set bs at (is_due t.window after)) k.flagged
        ∙ sym (map-set_value_at (λ p. is_due t.window p.1) (is_due t.window) (λ j e. refl) t.entries at after);
    counted = total;
    few = let e = length-change id (λ _. after) t.entries in rw (entries-written after, e) k.few;
    turn_within = let e = length-change id (λ _. after) t.entries in rw (entries-written after, e) k.turn_within;
    ids_fit = let e = keys-change id (λ _. after) t.entries in rw (entries-written after, e) k.ids_fit;
  }

  -- the same where the stream was served
  pub written-served : (f : End → End) (after : End) → after ≡ f before
      → record t { entries = set_value_at t.entries at after; turn = at + 1 } ≡ pass_turn id (with_record id f u)
  written-served f after e = λ i. record (written f after e i) { turn = (ap (λ n. n + 1) (s.at_place ∙ sym (place-change id id f u.entries))) i }

  pub kept-served : {flags : List Bool} {unsent : ℕ} (after : End) → IsKept (record t { entries = set_value_at t.entries at after }) flags unsent
      → IsKept (record t { entries = set_value_at t.entries at after; turn = at + 1 }) flags unsent
  kept-served after k = record {
    narrowest = k.narrowest;
    widest = k.widest;
    flagged = k.flagged;
    counted = k.counted;
    few = k.few;
    turn_within =
        let w = s.within in
        let n : length t.entries ≡ length u.entries = ap (λ (v : Table). length v.entries) same in
        let e = length-change id (λ _. after) t.entries in
        rw (entries-written after, e) (omega arith);
    ids_fit = k.ids_fit;
  }

  -- where the record stayed, the table did
  pub unwritten : (after : End) → after ≡ before → record t { entries = set_value_at t.entries at after } ≡ u
  unwritten after e = written (λ x. x) after e ∙ ap (λ ps. record u { entries = ps }) (change-nothing id u.entries)

-- a removal at the place of a record; `turn` is the place of the next turn after it
module _ (t u : Table) (same : t ≡ u) (id at : ℕ) (s : StandsAt id u at) (there : IsSome (look id u.entries))
    (es : List (ℕ × End)) (gone : es ≡ remove t.entries at) (turn : ℕ) (moved : turn ≡ (if nat_lt at t.turn then t.turn - 1 else t.turn)) where
  at-place : at ≡ place id t.entries
  at-place = s.at_place ∙ ap (λ (v : Table). place id v.entries) (sym same)

  there-still : IsSome (look id t.entries)
  there-still = subst (λ (v : Table). IsSome (look id v.entries)) (sym same) there

  entries-removed : es ≡ without id t.entries
  entries-removed = gone ∙ ap (remove t.entries) at-place ∙ remove-place id t.entries there-still

  pub removed-is : record t { entries = es; turn = turn } ≡ remove_record id u
  removed-is =
      (λ i. record t { entries = entries-removed i; turn = (moved ∙ ap (λ k. if nat_lt k t.turn then t.turn - 1 else t.turn) at-place) i })
      ∙ ap (remove_record id) same

  pub kept-removed : (flags flags' : List Bool) (unsent unsent' : ℕ) (e : End) → slice_get (values_of t.entries) at ≡ Some e → IsKept t flags unsent → flags' ≡ remove flags at
      → unsent' + unsent_of e ≡ unsent + 0 → IsKept (record t { entries = es; turn = turn }) flags' unsent'
  kept-removed flags flags' unsent unsent' e here k d total = record {
    narrowest = k.narrowest;
    widest = k.widest;
    flagged =
        d ∙ ap (λ bs. remove bs at) k.flagged ∙ sym (map-remove (λ p. is_due t.window p.1) t.entries at)
        ∙ sym (ap (map (λ p. is_due t.window p.1)) gone);
    counted =
        subst (λ ns. IsTotal ns unsent') (sym (ap (map (λ p. unsent_of p.1)) gone ∙ map-remove (λ p. unsent_of p.1) t.entries at))
        (total-remove k.counted at unsent'
        (counts-within same s here)
        (let b = counts-before same s here in omega arith));
    few = let e = length-without id t.entries there-still in let f = k.few in rw entries-removed (omega arith);
    turn_within =
        let e = length-without id t.entries there-still in
        let f = k.turn_within in
        let w = place-lt id t.entries there-still in
        let p = at-place in
        rw entries-removed (grind (arith, nat_tests));
    ids_fit =
        rw entries-removed
        (subst (λ ps. All (λ i. i < 2 ^ 32) (keys_of ps)) (remove_entry_is id t.entries)
        (All-map-remove_entry (nat_eq id) (λ (p : ℕ × End). p.0) (λ i. i < 2 ^ 32) t.entries k.ids_fit));
  }

-- a record under a new id
module _ (t u : Table) (same : t ≡ u) (id : ℕ) (x : End) (absent : look id u.entries ≡ None)
    (es : List (ℕ × End)) (put : es ≡ insert_entry nat_eq t.entries id x) where
  entries-added : es ≡ t.entries ++ (id, x) ∷ []
  entries-added = put ∙ insert_entry-new id t.entries x (ap (λ (v : Table). look id v.entries) same ∙ absent)

  pub added-is : record t { entries = es } ≡ insert_record id x u
  added-is = ap (λ ps. record t { entries = ps }) entries-added ∙ ap (insert_record id x) same

  pub kept-added : (flags flags' : List Bool) (unsent unsent' : ℕ) (is : Bool) → IsKept t flags unsent → length u.entries < most_records → id < 2 ^ 32 → is ≡ is_due t.window x
      → flags' ≡ flags ++ is ∷ [] → unsent_of x < 2 ^ 64 → unsent' + 0 ≡ unsent + unsent_of x → IsKept (record t { entries = es }) flags' unsent'
  kept-added flags flags' unsent unsent' is k few fits i d short total = rw entries-added (record {
    narrowest = k.narrowest;
    widest = k.widest;
    flagged =
        d ∙ ap (λ b. flags ++ b ∷ []) i ∙ ap (λ bs. bs ++ is_due t.window x ∷ []) k.flagged
        ∙ sym (map-append (λ p. is_due t.window p.1) t.entries ((id, x) ∷ []));
    counted =
        subst (λ ns. IsTotal ns unsent') (sym (map-append (λ p. unsent_of p.1) t.entries ((id, x) ∷ [])))
        (total-push k.counted (unsent_of x) unsent' short total);
    few = let e = length-append t.entries ((id, x) ∷ []) in let f = subst (λ (v : Table). length v.entries < most_records) (sym same) few in omega arith;
    turn_within = let e = length-append t.entries ((id, x) ∷ []) in let f = k.turn_within in omega arith;
    ids_fit =
        rw (map-append (λ (p : ℕ × End). p.0) t.entries ((id, x) ∷ []))
        (All-push (λ j. j < 2 ^ 32) (keys_of t.entries) id k.ids_fit fits);
  })
