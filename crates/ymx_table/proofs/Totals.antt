-- The unsent bytes of a table, after one record is added, changed or removed.
use Rattle.std.proofs.Common.{◌≡◌, ℕ, zero, suc, ◌+◌, ◌*◌, ◌<◌, ◌≤◌, ◌^◌, List, [], ◌∷◌, ◌++◌, length, map, set, remove, take, drop, get_or, Some, refl, ap, ◌∙◌, arith, slice_get, Bool, true, false, if◌then◌else◌}
use Rattle.std.specs.Prelude.{All}
use Rattle.std.specs.Map.{values_of}
use Rattle.std.proofs.lemmas.List.Elements.{All-set, All-push, All-append, All-take, All-drop, All-weaker}
use Rattle.std.proofs.lemmas.List.Sums.{sum_by-set, sum_by-remove, sum_by_push, get_or-le-sum_by, sum_by-le}
use Rattle.ymx_machine.specs.shared.Limits.{most_records}
use Rattle.ymx_model.specs.session.Records.{End, takes_payload, receive_data, receive_fin, receive_piece, reader_arrive, reader_end}
use Rattle.ymx_table.specs.Unsent.{IsTotal}

module _ {counts : List ℕ} {total : ℕ} (is : IsTotal counts total) where
  -- each of the numbers is a part of the sum
  pub part : (at : ℕ) → at < length counts → get_or counts at 0 ≤ total
  part at within =
      let t = is.total_is in
      let p = get_or-le-sum_by (λ n. n) counts at 0 within in
      omega arith

  -- and of so few numbers it is not great
  pub few_total : length counts ≤ most_records → total ≤ most_records * 2 ^ 64
  few_total few =
      let t = is.total_is in
      let each : All (λ n. n ≤ 2 ^ 64) counts = All-weaker (λ n. n < 2 ^ 64) (λ n. n ≤ 2 ^ 64) (λ n h. omega arith) counts is.each_fits in
      let m = sum_by-le (λ n. n) (2 ^ 64) counts each in
      omega arith

  pub total-set : (at now total' : ℕ) → at < length counts → now < 2 ^ 64 → total' + get_or counts at 0 ≡ total + now → IsTotal (set counts at now) total'
  total-set at now total' within fits e = record {
    total_is =
        let t = is.total_is in
        let s = sum_by-set (λ n. n) counts at now 0 within in
        omega arith;
    each_fits = All-set (λ n. n < 2 ^ 64) counts at now fits is.each_fits;
  }

  pub total-push : (now total' : ℕ) → now < 2 ^ 64 → total' + 0 ≡ total + now → IsTotal (counts ++ now ∷ []) total'
  total-push now total' fits e = record {
    total_is =
        let t = is.total_is in
        let s = sum_by_push (λ n. n) counts now in
        omega arith;
    each_fits = All-push (λ n. n < 2 ^ 64) counts now is.each_fits fits;
  }

  pub total-remove : (at total' : ℕ) → at < length counts → total' + get_or counts at 0 ≡ total + 0 → IsTotal (remove counts at) total'
  total-remove at total' within e = record {
    total_is =
        let t = is.total_is in
        let s = sum_by-remove (λ n. n) counts at 0 within in
        omega arith;
    each_fits =
        All-append (λ n. n < 2 ^ 64) (take at counts) (drop (suc at) counts)
        (All-take (λ n. n < 2 ^ 64) at counts is.each_fits) (All-drop (λ n. n < 2 ^ 64) (suc at) counts is.each_fits);
  }

-- the number of the record at a place
pub get_or-map-values : {X : Type 0} (f : X → ℕ) (ps : List (ℕ × X)) (at : ℕ) (x : X) → slice_get (values_of ps) at ≡ Some x → get_or (map (λ p. f p.1) ps) at 0 ≡ f x
get_or-map-values f [] at x h = absurd cc
get_or-map-values f (p ∷ ps) zero x h = let e : p.1 ≡ x = cc in ap f e
get_or-map-values f (p ∷ ps) (suc at) x h = get_or-map-values f ps at x h

-- what comes leaves the sending half
receive_data-writer : (bytes : List ℕ) (e : End) → (receive_data bytes e).writer ≡ e.writer
receive_data-writer bytes e = elim (takes_payload e) as (λ b. (if b then record e { reader = reader_arrive bytes e.reader } else e).writer ≡ e.writer) [ true ↦ refl | false ↦ refl ]

receive_fin-writer : (e : End) → (receive_fin e).writer ≡ e.writer
receive_fin-writer e =
    elim (takes_payload e) as (λ b. (if b then record e { reader = reader_end e.reader; marks = record e.marks { credit_at_once = false } } else e).writer ≡ e.writer) [ true ↦ refl | false ↦ refl ]

pub receive_piece-writer : (fin : Bool) (bytes : List ℕ) (e : End) → (receive_piece fin bytes e).writer ≡ e.writer
receive_piece-writer true bytes e = receive_fin-writer (receive_data bytes e) ∙ receive_data-writer bytes e
receive_piece-writer false bytes e = receive_data-writer bytes e
