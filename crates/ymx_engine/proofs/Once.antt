-- That each connection stands in the queues once at most, so that no more wait for a turn than there are.
use Rattle.std.proofs.Common.{◌≡◌, ℕ, zero, suc, ◌+◌, ◌<◌, ◌≤◌, List, [], ◌∷◌, ◌++◌, length, Bool, true, false, Option, None, Some, refl, sym, ap, ◌∙◌, cond, arith, length-append}
use Rattle.std.specs.Prelude.{nat_eq, not, Contains, slice_get, if◌then◌else◌, option_map}
use Rattle.std.specs.List.{filter}
use Rattle.std.specs.Map.{lookup}
use Rattle.std.proofs.lemmas.List.Elements.{Contains-append_right}
use Rattle.std.proofs.lemmas.Option.{slice_get_within, slice_get-get_or, get_or_from_slice_get}
use Rattle.std.proofs.lemmas.Bool.Decides.{nat_tests}
use Rattle.ymx_engine.specs.Turns.{Entry, AreListed, times, once_if, without}
use Rattle.ymx_engine.proofs.Entries.{eq_ids, same_id, some_is, no_some}

pub turn_round : (id other : ℕ) → nat_eq id other ≡ false → nat_eq other id ≡ false
turn_round id other ne = grind (arith, nat_tests)

-- ---- how often one stands in a queue

pub times-behind : (id x : ℕ) (xs : List ℕ) → times id (xs ++ x ∷ []) ≡ times id xs + (if nat_eq id x then 1 else 0)
times-behind id x [] = omega arith
times-behind id x (y ∷ xs) = let e = times-behind id x xs in omega arith

pub times-self : (id : ℕ) (xs : List ℕ) → times id (xs ++ id ∷ []) ≡ times id xs + 1
times-self id xs = times-behind id id xs ∙ ap (λ (b : Bool). times id xs + (if b then 1 else 0)) (same_id id)

pub times-other : (id x : ℕ) (xs : List ℕ) → nat_eq id x ≡ false → times id (xs ++ x ∷ []) ≡ times id xs
times-other id x xs ne =
    let e : times id (xs ++ x ∷ []) ≡ times id xs + 0 = times-behind id x xs ∙ ap (λ (b : Bool). times id xs + (if b then 1 else 0)) ne in
    omega (arith, e)

pub times-first : (id : ℕ) (xs : List ℕ) → times id (id ∷ xs) ≡ 1 + times id xs
times-first id xs = ap (λ (b : Bool). (if b then 1 else 0) + times id xs) (same_id id)

pub times-behind-first : (id x : ℕ) (xs : List ℕ) → nat_eq id x ≡ false → times id (x ∷ xs) ≡ times id xs
times-behind-first id x xs ne =
    let e : times id (x ∷ xs) ≡ 0 + times id xs = ap (λ (b : Bool). (if b then 1 else 0) + times id xs) ne in
    omega (arith, e)

pub times-append : (id : ℕ) (xs ys : List ℕ) → times id (xs ++ ys) ≡ times id xs + times id ys
times-append id [] ys = omega arith
times-append id (x ∷ xs) ys = let e = times-append id xs ys in omega arith

-- one that stands there is there
pub times-stands : (id : ℕ) (xs : List ℕ) → 0 < times id xs → Contains xs id
times-stands id [] some = absurd (omega arith)
times-stands id (x ∷ xs) some = by (λ more. times-stands id xs more) (nat_eq id x) refl
  where
    by : (0 < times id xs → Contains xs id) → (b : Bool) → nat_eq id x ≡ b → Contains (x ∷ xs) id
    by rest true t = (zero, omega arith, eq_ids id x t)
    by rest false t = let e = times-behind-first id x xs t in Contains-append_right (x ∷ []) xs id (rest (omega arith))

-- ---- one that leaves

-- it is as a filter leaves it
pub filter_without : (id : ℕ) (xs : List ℕ) → filter (λ x. not (nat_eq x id)) xs ≡ without id xs
filter_without id [] = refl
filter_without id (x ∷ xs) = by (filter_without id xs) (nat_eq id x) refl
  where
    keeps : List ℕ → Bool → List ℕ
    keeps rest b = cond (not b) (x ∷ rest) rest

    round : (b : Bool) → nat_eq id x ≡ b → nat_eq x id ≡ b
    round true t = ap (λ (n : ℕ). nat_eq n id) (eq_ids id x t) ∙ same_id id
    round false t = turn_round id x t

    by : filter (λ x. not (nat_eq x id)) xs ≡ without id xs → (b : Bool) → nat_eq id x ≡ b → filter (λ x. not (nat_eq x id)) (x ∷ xs) ≡ without id (x ∷ xs)
    by rest true t = ap (keeps (filter (λ x. not (nat_eq x id)) xs)) (round true t) ∙ rest ∙ sym (ap (λ (b : Bool). if b then without id xs else x ∷ without id xs) t)
    by rest false t = ap (keeps (filter (λ x. not (nat_eq x id)) xs)) (round false t) ∙ ap (λ (v : List ℕ). x ∷ v) rest ∙ sym (ap (λ (b : Bool). if b then without id xs else x ∷ without id xs) t)

-- one that stands nowhere leaves the queue as it is
pub without_none : (id : ℕ) (xs : List ℕ) → times id xs ≡ 0 → without id xs ≡ xs
without_none id [] none = refl
without_none id (x ∷ xs) none = by (λ rest. without_none id xs rest) (nat_eq id x) refl
  where
    by : (times id xs ≡ 0 → without id xs ≡ xs) → (b : Bool) → nat_eq id x ≡ b → without id (x ∷ xs) ≡ x ∷ xs
    by rest true t =
        let one : times id (x ∷ xs) ≡ 1 + times id xs = ap (λ (b : Bool). (if b then 1 else 0) + times id xs) t in
        absurd (omega (arith, one, none))
    by rest false t =
        let e = times-behind-first id x xs t in
        ap (λ (b : Bool). if b then without id xs else x ∷ without id xs) t ∙ ap (λ (v : List ℕ). x ∷ v) (rest (omega (arith, e, none)))

pub times-gone : (k : ℕ) (xs : List ℕ) → times k (without k xs) ≡ 0
times-gone k [] = refl
times-gone k (x ∷ xs) = by (times-gone k xs) (nat_eq k x) refl
  where
    by : times k (without k xs) ≡ 0 → (b : Bool) → nat_eq k x ≡ b → times k (without k (x ∷ xs)) ≡ 0
    by rest true t = ap (λ (b : Bool). times k (if b then without k xs else x ∷ without k xs)) t ∙ rest
    by rest false t = ap (λ (b : Bool). times k (if b then without k xs else x ∷ without k xs)) t ∙ times-behind-first k x (without k xs) t ∙ rest

pub times-kept : (k id : ℕ) (xs : List ℕ) → nat_eq k id ≡ false → times id (without k xs) ≡ times id xs
times-kept k id [] ne = refl
times-kept k id (x ∷ xs) ne = by (times-kept k id xs ne) (nat_eq k x) refl
  where
    by : times id (without k xs) ≡ times id xs → (b : Bool) → nat_eq k x ≡ b → times id (without k (x ∷ xs)) ≡ times id (x ∷ xs)
    by rest true t =
        let away : nat_eq id x ≡ false = ap (nat_eq id) (eq_ids k x t) ∙ turn_round k id ne in
        ap (λ (b : Bool). times id (if b then without k xs else x ∷ without k xs)) t ∙ rest ∙ sym (times-behind-first id x xs away)
    by rest false t = ap (λ (b : Bool). times id (if b then without k xs else x ∷ without k xs)) t ∙ ap (λ (n : ℕ). (if nat_eq id x then 1 else 0) + n) rest

pub length-without : (k : ℕ) (xs : List ℕ) → length xs ≡ length (without k xs) + times k xs
length-without k [] = refl
length-without k (x ∷ xs) = by (length-without k xs) (nat_eq k x) refl
  where
    by : length xs ≡ length (without k xs) + times k xs → (b : Bool) → nat_eq k x ≡ b → length (x ∷ xs) ≡ length (without k (x ∷ xs)) + times k (x ∷ xs)
    by rest true t =
        let left : length (without k (x ∷ xs)) ≡ length (without k xs) = ap (λ (b : Bool). length (if b then without k xs else x ∷ without k xs)) t in
        let one : times k (x ∷ xs) ≡ 1 + times k xs = ap (λ (b : Bool). (if b then 1 else 0) + times k xs) t in
        omega (arith, left, one, rest)
    by rest false t =
        let left : length (without k (x ∷ xs)) ≡ length (x ∷ without k xs) = ap (λ (b : Bool). length (if b then without k xs else x ∷ without k xs)) t in
        let none = times-behind-first k x xs t in
        omega (arith, left, none, rest)

-- ---- places

pub stands_at : (xs : List ℕ) (id : ℕ) → Contains xs id → (place : ℕ) × (slice_get xs place ≡ Some id)
stands_at xs id (place, within, same) = (place, slice_get-get_or xs place id within ∙ ap (λ (n : ℕ). Some n) same)

pub at_stands : (xs : List ℕ) (id place : ℕ) → slice_get xs place ≡ Some id → Contains xs id
at_stands xs id place at = (place, slice_get_within xs place id at, get_or_from_slice_get xs place id id at)

-- where another left, one stands no further back
pub without_place : (k id : ℕ) (xs : List ℕ) (place : ℕ) → nat_eq k id ≡ false → slice_get xs place ≡ Some id → (p : ℕ) × (p ≤ place) × (slice_get (without k xs) p ≡ Some id)
without_place k id [] place ne at = no_some (sym at)
without_place k id (x ∷ xs) zero ne at =
    let other : nat_eq k x ≡ false = ap (nat_eq k) (some_is at) ∙ ne in
    (zero, omega arith, ap (λ (b : Bool). slice_get (if b then without k xs else x ∷ without k xs) zero) other ∙ at)
without_place k id (x ∷ xs) (suc place) ne at = by (without_place k id xs place ne at) (nat_eq k x) refl
  where
    by : ((p : ℕ) × (p ≤ place) × (slice_get (without k xs) p ≡ Some id)) → (b : Bool) → nat_eq k x ≡ b → (p : ℕ) × (p ≤ suc place) × (slice_get (without k (x ∷ xs)) p ≡ Some id)
    by (p, before, there) true t = (p, omega (arith, before), ap (λ (b : Bool). slice_get (if b then without k xs else x ∷ without k xs) p) t ∙ there)
    by (p, before, there) false t = (suc p, omega (arith, before), ap (λ (b : Bool). slice_get (if b then without k xs else x ∷ without k xs) (suc p)) t ∙ there)

pub without_stands : (k id : ℕ) (xs : List ℕ) → nat_eq k id ≡ false → Contains xs id → Contains (without k xs) id
without_stands k id xs ne h =
    let at = stands_at xs id h in
    let still = without_place k id xs at.0 ne at.1 in
    at_stands (without k xs) id still.0 still.2

-- ---- no more wait than there are

abbrev pub mark : ℕ → List (ℕ × Entry) → Option Bool
mark id es = option_map (λ (e : Entry). e.is_queued) (lookup (nat_eq id) es)

pub at_most_once : (o : Option Bool) → once_if o ≤ 1
at_most_once None = omega arith
at_most_once (Some true) = omega arith
at_most_once (Some false) = omega arith

few : (es : List (ℕ × Entry)) (xs : List ℕ) → ((id : ℕ) → times id xs ≤ once_if (mark id es)) → length xs ≤ length es
few [] [] h = omega arith
few [] (x ∷ xs) h = let one = times-first x xs in let none : times x (x ∷ xs) ≤ 0 = h x in absurd (omega (arith, one, none))
few (e ∷ es) xs h =
    let rest = few es (without e.0 xs) (λ id. others id (nat_eq e.0 id) refl) in
    let all = length-without e.0 xs in
    let one = at_most_once (mark e.0 (e ∷ es)) in
    let own = h e.0 in
    omega (arith, rest, all, one, own)
  where
    others : (id : ℕ) (b : Bool) → nat_eq e.0 id ≡ b → times id (without e.0 xs) ≤ once_if (mark id es)
    others id true t =
        let none : times id (without e.0 xs) ≡ 0 = ap (λ (n : ℕ). times n (without e.0 xs)) (eq_ids e.0 id t) ∙ times-gone e.0 xs in
        omega (arith, none)
    others id false t =
        let kept = times-kept e.0 id xs t in
        let own = h id in
        let behind : once_if (mark id (e ∷ es)) ≡ once_if (mark id es) = ap (λ (b : Bool). once_if (option_map (λ (x : Entry). x.is_queued) (cond b (Some e.1) (lookup (nat_eq id) es)))) (turn_round e.0 id t) in
        omega (arith, kept, own, behind)

pub few_wait : (es : List (ℕ × Entry)) (f g : List ℕ) → AreListed es f g → length f + length g ≤ length es
few_wait es f g all =
    let both = few es (f ++ g) (λ id. let h = all id in let e = times-append id f g in omega (arith, h, e)) in
    let e = length-append f g in
    omega (arith, both, e)
