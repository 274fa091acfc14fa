-- What an agreement says of the seats' lists: where the positions of the transcript rise, each list is its part of it.
use Rattle.std.proofs.Common.{◌≡◌, ℕ, ◌==◌, ◌+◌, ◌≤◌, ◌<◌, ◌≢◌, List, [], ◌∷◌, length, Bool, true, false, cond, ltb, All, sum_by, refl, sym, ap, ap₂, ◌∙◌, ⊎_elim, arith}
use Rattle.std.proofs.lemmas.Bool.{cases_lt}
use Rattle.std.proofs.lemmas.Bool.Decides.{nat_tests}
use Rattle.std.proofs.lemmas.List.Sums.{sum_by-cons}
use Rattle.std.proofs.lemmas.List.Elements.{All-cons, All-nil, All-head, All-tail, All-weaker}
use Rattle.ymx_model.specs.declared.types.Entry.{Entry}
use Rattle.ymx_seats.specs.Views.{SeatView}
use Rattle.ymx_seats.specs.Journals.{part}
use Rattle.ymx_seats.specs.Tallies.{NumberedFrom, RisesFrom, IsOwn, Tallies}
use Rattle.ymx_seats.proofs.Equality.{is_same, same_is, same_as_itself, not_same}
use Rattle.ymx_seats.proofs.Parts.{one_by}

-- ---- two lists whose positions rise are equal if all weights find them so

-- this entry weighs 1, all others nothing
abbrev only_entry : Entry → Entry → ℕ
only_entry e z = cond (is_same e z) 1 0

weighs_by : (b : Bool) (e z : Entry) → is_same e z ≡ b → b ≡ false → only_entry e z ≡ 0
weighs_by b e z d f = rw (d, f) refl

no_weight : (e z : Entry) → e.position ≢ z.position → only_entry e z ≡ 0
no_weight e z h = weighs_by false e z (not_same e z h) refl

own_weight : (e : Entry) → only_entry e e ≡ 1
own_weight e = rw (same_as_itself e) refl

-- an entry is not in a list that begins above its position
absent : (ys : List Entry) (from : ℕ) (e : Entry) → RisesFrom from ys → e.position < from → sum_by (only_entry e) ys ≡ 0
absent [] from e r h = refl
absent (y ∷ ys) from e r h =
    let above : from ≤ y.position = r.0 in
    let rest = absent ys (y.position + 1) e r.1 (omega arith) in
    let here = no_weight e y (λ q. absurd (omega arith)) in
    omega (arith, rest, here, sum_by-cons (only_entry e) y ys)

-- all weights find the lists equal
record Weighs (xs ys : List Entry) : Type 0 where
  pub alike : (weight : Entry → ℕ) → sum_by weight xs ≡ sum_by weight ys

heads_by : (b : Bool) (x y : Entry) (xs ys : List Entry) → is_same x y ≡ b → RisesFrom (x.position + 1) xs → RisesFrom (y.position + 1) ys → Weighs (x ∷ xs) (y ∷ ys) → x ≡ y
heads_by true x y xs ys d p q w = same_is x y d
heads_by false x y xs ys d p q w =
    let n : only_entry x y ≡ 0 = rw d refl in
    ⊎_elim
    (λ (h : y.position < x.position). absurd (omega (arith, own_weight y, no_weight y x (λ e. absurd (omega arith)), absent xs (x.position + 1) y p (omega arith), w.alike (only_entry y), sum_by-cons (only_entry y) x xs, sum_by-cons (only_entry y) y ys)))
    (λ (h : x.position ≤ y.position). absurd (omega (arith, n, own_weight x, absent ys (y.position + 1) x q (omega arith), w.alike (only_entry x), sum_by-cons (only_entry x) x xs, sum_by-cons (only_entry x) y ys)))
    (cases_lt y.position x.position)

same_lists : (xs ys : List Entry) (from low : ℕ) → RisesFrom from xs → RisesFrom low ys → Weighs xs ys → xs ≡ ys
same_lists [] [] from low p q w = refl
same_lists [] (y ∷ ys) from low p q w = absurd (omega (arith, w.alike (λ _. 1), sum_by-cons (λ (_ : Entry). 1) y ys))
same_lists (x ∷ xs) [] from low p q w = absurd (omega (arith, w.alike (λ _. 1), sum_by-cons (λ (_ : Entry). 1) x xs))
same_lists (x ∷ xs) (y ∷ ys) from low p q w =
    let e = heads_by (is_same x y) x y xs ys refl p.1 q.1 w in
    let rest : Weighs xs ys = record { alike = λ weight. omega (arith, w.alike weight, sum_by-cons weight x xs, sum_by-cons weight y ys, ap weight e) } in
    ap₂ (λ (z : Entry) (zs : List Entry). z ∷ zs) e (same_lists xs ys (x.position + 1) (y.position + 1) p.1 q.1 rest)

-- ---- a part rises

rises_lower : (es : List Entry) (low from : ℕ) → low ≤ from → RisesFrom from es → RisesFrom low es
rises_lower [] low from h r = tt
rises_lower (e ∷ es) low from h r = (let k : from ≤ e.position = r.0 in omega arith, r.1)

part_rises_by : (b : Bool) (e : Entry) (es : List Entry) (from : ℕ) → from ≤ e.position → RisesFrom (e.position + 1) es → RisesFrom from (cond b (e ∷ es) es)
part_rises_by true e es from h r = (h, r)
part_rises_by false e es from h r = rises_lower es from (e.position + 1) (omega arith) r

part_rises : (n : ℕ) (es : List Entry) (from : ℕ) → RisesFrom from es → RisesFrom from (part n es)
part_rises n [] from r = tt
part_rises n (e ∷ es) from r = part_rises_by (e.seat == n) e (part n es) from r.0 (part_rises n es (e.position + 1) r.1)

-- ---- what the entries of one seat weigh

-- the entries that name this seat weigh what they weigh, all others nothing
abbrev of_seat : ℕ → (Entry → ℕ) → Entry → ℕ
of_seat n weight e = cond (e.seat == n) (weight e) 0

part_weighs : (es : List Entry) (n : ℕ) (weight : Entry → ℕ) → sum_by weight (part n es) ≡ sum_by (of_seat n weight) es
part_weighs [] n weight = refl
part_weighs (e ∷ es) n weight = omega (arith, one_by (e.seat == n) e (part n es) weight, part_weighs es n weight, sum_by-cons (of_seat n weight) e es)

own_weighs : (es : List Entry) (n : ℕ) (weight : Entry → ℕ) → All (λ e. e.seat ≡ n) es → sum_by (of_seat n weight) es ≡ sum_by weight es
own_weighs [] n weight a = refl
own_weighs (e ∷ es) n weight a =
    let q : e.seat ≡ n = All-head (λ (e : Entry). e.seat ≡ n) e es a in
    let d : (e.seat == n) ≡ true = grind (arith, nat_tests) in
    let here : of_seat n weight e ≡ weight e = ap (λ b. cond b (weight e) 0) d in
    omega (arith, here, own_weighs es n weight (All-tail (λ (e : Entry). e.seat ≡ n) e es a), sum_by-cons (of_seat n weight) e es, sum_by-cons weight e es)

other_weighs : (es : List Entry) (n m : ℕ) (weight : Entry → ℕ) → m ≢ n → All (λ e. e.seat ≡ m) es → sum_by (of_seat n weight) es ≡ 0
other_weighs [] n m weight h a = refl
other_weighs (e ∷ es) n m weight h a =
    let q : e.seat ≡ m = All-head (λ (e : Entry). e.seat ≡ m) e es a in
    let d : (e.seat == n) ≡ false = grind (arith, nat_tests) in
    let here : of_seat n weight e ≡ 0 = ap (λ b. cond b (weight e) 0) d in
    omega (arith, here, other_weighs es n m weight h (All-tail (λ (e : Entry). e.seat ≡ m) e es a), sum_by-cons (of_seat n weight) e es)

-- what the entries of one seat weigh in all lists
abbrev in_lists : ℕ → (Entry → ℕ) → List SeatView → ℕ
in_lists n weight ss = sum_by (λ s. sum_by (of_seat n weight) s.entries) ss

none_above : (ss : List SeatView) (from n : ℕ) (weight : Entry → ℕ) → NumberedFrom from ss → All IsOwn ss → n < from → in_lists n weight ss ≡ 0
none_above [] from n weight k a h = refl
none_above (s ∷ ss) from n weight k a h =
    let e : s.number ≡ from = k.0 in
    let o = All-head IsOwn s ss a in
    let here = other_weighs s.entries n s.number weight (λ q. absurd (omega arith)) o.named in
    let rest = none_above ss (from + 1) n weight k.1 (All-tail IsOwn s ss a) (omega arith) in
    omega (arith, here, rest, sum_by-cons (λ (s : SeatView). sum_by (of_seat n weight) s.entries) s ss)

-- of all lists only the seat's own has entries that name it
record IsAlone (ss : List SeatView) (from : ℕ) (s : SeatView) : Type 0 where
  pub above : from ≤ s.number
  pub alone : (weight : Entry → ℕ) → in_lists s.number weight ss ≡ sum_by weight s.entries

alone_in : (ss : List SeatView) (from : ℕ) → NumberedFrom from ss → All IsOwn ss → All (IsAlone ss from) ss
alone_in [] from k a = All-nil (IsAlone [] from)
alone_in (s ∷ ss) from k a =
    let e : s.number ≡ from = k.0 in
    let o = All-head IsOwn s ss a in
    let b = All-tail IsOwn s ss a in
    All-cons (IsAlone (s ∷ ss) from) s ss
    (record {
      above = omega arith;
      alone = λ weight. omega (arith, own_weighs s.entries s.number weight o.named, none_above ss (from + 1) s.number weight k.1 b (omega arith), sum_by-cons (λ (t : SeatView). sum_by (of_seat s.number weight) t.entries) s ss);
    })
    (All-weaker (IsAlone ss (from + 1)) (IsAlone (s ∷ ss) from)
    (λ t i. record {
      above = omega (arith, i.above);
      alone = λ weight. omega (arith, other_weighs s.entries t.number s.number weight (λ q. absurd (omega (arith, i.above))) o.named, i.alone weight, sum_by-cons (λ (u : SeatView). sum_by (of_seat t.number weight) u.entries) s ss);
    })
    ss (alone_in ss (from + 1) k.1 b))

-- ---- each seat's list is its part

pub agreed_parts : (ss : List SeatView) (es : List Entry) → RisesFrom 0 es → Tallies ss es → All (λ s. s.entries ≡ part s.number es) ss
agreed_parts ss es r a = λ k d h.
    let i = alone_in ss 0 a.numbers a.own k d h in
    let o = a.own k d h in
    same_lists _ (part _ es) _ 0 o.rising (part_rises _ es 0 r)
    (record { alike = λ weight. sym (i.alone weight) ∙ (sym (a.counted (of_seat _ weight)) ∙ sym (part_weighs es _ weight)) })

pub agreed_starts : (ss : List SeatView) (es : List Entry) → Tallies ss es → All (λ s. RisesFrom s.start s.entries) ss
agreed_starts ss es a = λ k d h. (a.own k d h).rising

-- ---- each entry names a seat that is there

-- the entries that name no seat below this number weigh 1
abbrev unseated : ℕ → Entry → ℕ
unseated count e = cond (ltb e.seat count) 0 1

none_unseated : (es : List Entry) (n count : ℕ) → n < count → All (λ e. e.seat ≡ n) es → sum_by (unseated count) es ≡ 0
none_unseated [] n count h a = refl
none_unseated (e ∷ es) n count h a =
    let q : e.seat ≡ n = All-head (λ (e : Entry). e.seat ≡ n) e es a in
    let d : ltb e.seat count ≡ true = grind (arith, nat_tests) in
    let here : unseated count e ≡ 0 = ap (λ b. cond b 0 1) d in
    omega (arith, here, none_unseated es n count h (All-tail (λ (e : Entry). e.seat ≡ n) e es a), sum_by-cons (unseated count) e es)

lists_within : (ss : List SeatView) (from count : ℕ) → NumberedFrom from ss → All IsOwn ss → from + length ss ≤ count → sum_by (λ s. sum_by (unseated count) s.entries) ss ≡ 0
lists_within [] from count k a h = refl
lists_within (s ∷ ss) from count k a h =
    let e : s.number ≡ from = k.0 in
    let o = All-head IsOwn s ss a in
    let here = none_unseated s.entries s.number count (omega arith) o.named in
    let rest = lists_within ss (from + 1) count k.1 (All-tail IsOwn s ss a) (omega arith) in
    omega (arith, here, rest, sum_by-cons (λ (s : SeatView). sum_by (unseated count) s.entries) s ss)

within_by : (b : Bool) (e : Entry) (count z : ℕ) → ltb e.seat count ≡ b → cond b 0 1 ≡ z → z ≡ 0 → e.seat < count
within_by true e count z d w k = grind (arith, nat_tests)
within_by false e count z d w k = absurd (omega arith)

within_all : (es : List Entry) (count : ℕ) → sum_by (unseated count) es ≡ 0 → All (λ e. e.seat < count) es
within_all [] count z = All-nil (λ e. e.seat < count)
within_all (e ∷ es) count z =
    let c = sum_by-cons (unseated count) e es in
    All-cons (λ e. e.seat < count) e es (within_by (ltb e.seat count) e count (unseated count e) refl refl (omega (arith, c))) (within_all es count (omega (arith, c)))

pub agreed_within : (ss : List SeatView) (es : List Entry) → Tallies ss es → All (λ e. e.seat < length ss) es
agreed_within ss es a = within_all es (length ss) (a.counted (unseated (length ss)) ∙ lists_within ss 0 (length ss) a.numbers a.own (omega arith))
