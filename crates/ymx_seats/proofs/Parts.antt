-- The parts of a transcript.
use Rattle.std.proofs.Common.{◌≡◌, ℕ, ◌==◌, ◌+◌, ◌≤◌, ◌<◌, List, [], ◌∷◌, ◌++◌, length, Bool, true, false, cond, All, sum_by, take, drop, get_or, length-append, length-take-le, take-append-drop, drop-cons, add-one, refl, sym, ap, subst, ◌≢◌, ◌∙◌, arith}
use Rattle.std.proofs.lemmas.Grind.{common_steps}
use Rattle.std.proofs.lemmas.Bool.Decides.{nat_tests}
use Rattle.std.proofs.Math.Seq.{get_or-append_seam}
use Rattle.std.proofs.lemmas.List.{take_more}
use Rattle.std.proofs.lemmas.List.Sums.{sum_by-cons}
use Rattle.std.proofs.lemmas.List.Elements.{All-cons, All-nil, All-head, All-tail, All-push, filter-append}
use Rattle.ymx_model.specs.declared.types.Entry.{Entry}
use Rattle.ymx_seats.specs.Views.{SeatView}
use Rattle.ymx_seats.specs.Journals.{part}
use Rattle.ymx_seats.specs.Tallies.{NumberedFrom, RisesFrom, behind_all, IsOwn, Tallies}

pub rises_more : (es : List Entry) (from : ℕ) (e : Entry) → RisesFrom from es → behind_all from es ≤ e.position → RisesFrom from (es ++ e ∷ [])
rises_more [] from e r h = (h, tt)
rises_more (x ∷ xs) from e r h = (r.0, rises_more xs (x.position + 1) e r.1 h)

pub after_more : (es : List Entry) (from : ℕ) (e : Entry) → behind_all from (es ++ e ∷ []) ≡ e.position + 1
after_more [] from e = refl
after_more (x ∷ xs) from e = after_more xs (x.position + 1) e

-- an entry at the end whose position is how many there were
pub rises_pushed : (es fs : List Entry) (e : Entry) (n : ℕ) → fs ≡ es ++ e ∷ [] → e.position ≡ n → RisesFrom 0 es × (behind_all 0 es ≤ n) → RisesFrom 0 fs × (behind_all 0 fs ≤ n + 1)
rises_pushed es fs e n is at r = rw is (rises_more es 0 e r.0 (omega (arith, r.1)), omega (arith, after_more es 0 e))

pub numbered_more : (ss : List SeatView) (from : ℕ) (s : SeatView) → NumberedFrom from ss → s.number ≡ from + length ss → NumberedFrom from (ss ++ s ∷ [])
numbered_more [] from s n e = (omega (arith, e), tt)
numbered_more (x ∷ xs) from s n e = (n.0, numbered_more xs (from + 1) s n.1 (omega (arith, e)))

-- what an entry weighs at the seats that it does not name
misses : (ss : List SeatView) (from x w : ℕ) → NumberedFrom from ss → x < from → sum_by (λ s. cond (x == s.number) w 0) ss ≡ 0
misses [] from x w n h = refl
misses (s ∷ ss) from x w n h =
    let i = misses ss (from + 1) x w n.1 (omega arith) in
    let e : s.number ≡ from = n.0 in
    let d : (x == s.number) ≡ false = grind (arith, nat_tests) in
    rw d i

-- at the first seat, or after it
hits_by : (b : Bool) (s : SeatView) (ss : List SeatView) (from x w : ℕ) → (x == s.number) ≡ b → s.number ≡ from → NumberedFrom (from + 1) ss → (from + 1 ≤ x → sum_by (λ s. cond (x == s.number) w 0) ss ≡ w) → from ≤ x → sum_by (λ s. cond (x == s.number) w 0) (s ∷ ss) ≡ w
hits_by true s ss from x w d e n i h =
    let q : x ≡ s.number = grind (arith, nat_tests) in
    let m = misses ss (from + 1) x w n (omega arith) in
    let c = sum_by-cons (λ (s : SeatView). cond (x == s.number) w 0) s ss in
    let h : cond (x == s.number) w 0 ≡ w = ap (λ (b : Bool). cond b w 0) d in
    omega (arith, c, h, m)
hits_by false s ss from x w d e n i h =
    let q : x ≢ s.number = grind (arith, nat_tests) in
    rw d (i (omega arith))

-- an entry weighs what it weighs at the one seat that it names
pub hits : (ss : List SeatView) (from x w : ℕ) → NumberedFrom from ss → from ≤ x → x < from + length ss → sum_by (λ s. cond (x == s.number) w 0) ss ≡ w
hits [] from x w n h k = absurd (omega arith)
hits (s ∷ ss) from x w n h k = hits_by (x == s.number) s ss from x w refl n.0 n.1 (λ q. hits ss (from + 1) x w n.1 q (omega arith)) h

pub one_by : (b : Bool) (e : Entry) (es : List Entry) (weight : Entry → ℕ) → sum_by weight (cond b (e ∷ es) es) ≡ cond b (weight e) 0 + sum_by weight es
one_by true e es weight = sum_by-cons weight e es
one_by false e es weight = omega arith

one_more : (ss : List SeatView) (e : Entry) (es : List Entry) (weight : Entry → ℕ) → sum_by (λ s. sum_by weight (part s.number (e ∷ es))) ss ≡ sum_by (λ s. cond (e.seat == s.number) (weight e) 0) ss + sum_by (λ s. sum_by weight (part s.number es)) ss
one_more [] e es weight = refl
one_more (s ∷ ss) e es weight =
    let o = one_by (e.seat == s.number) e (part s.number es) weight in
    let r = one_more ss e es weight in
    let all = sum_by-cons (λ (s : SeatView). sum_by weight (part s.number (e ∷ es))) s ss in
    let here = sum_by-cons (λ (s : SeatView). cond (e.seat == s.number) (weight e) 0) s ss in
    let rest = sum_by-cons (λ (s : SeatView). sum_by weight (part s.number es)) s ss in
    omega (arith, o, r, all, here, rest)

none : (ss : List SeatView) → sum_by (λ s. 0) ss ≡ 0
none [] = refl
none (s ∷ ss) = none ss

-- the parts together weigh what the transcript weighs
pub parts_weigh : (es : List Entry) (ss : List SeatView) (weight : Entry → ℕ) → NumberedFrom 0 ss → All (λ e. e.seat < length ss) es → sum_by (λ s. sum_by weight (part s.number es)) ss ≡ sum_by weight es
parts_weigh [] ss weight n a = none ss
parts_weigh (e ∷ es) ss weight n a =
    let o = one_more ss e es weight in
    let r = parts_weigh es ss weight n (All-tail (λ (e : Entry). e.seat < length ss) e es a) in
    let w = hits ss 0 e.seat (weight e) n (omega arith) (let h = All-head (λ (e : Entry). e.seat < length ss) e es a in omega (arith, h)) in
    let c = sum_by-cons weight e es in
    omega (arith, o, r, w, c)

lists_weigh : (ss : List SeatView) (es : List Entry) (weight : Entry → ℕ) → All (λ s. s.entries ≡ part s.number es) ss → sum_by (λ s. sum_by weight s.entries) ss ≡ sum_by (λ s. sum_by weight (part s.number es)) ss
lists_weigh [] es weight p = refl
lists_weigh (s ∷ ss) es weight p =
    let e = ap (sum_by weight) (All-head (λ (s : SeatView). s.entries ≡ part s.number es) s ss p) in
    let r = lists_weigh ss es weight (All-tail (λ (s : SeatView). s.entries ≡ part s.number es) s ss p) in
    let all = sum_by-cons (λ (s : SeatView). sum_by weight s.entries) s ss in
    let rest = sum_by-cons (λ (s : SeatView). sum_by weight (part s.number es)) s ss in
    omega (arith, e, r, all, rest)

named_by : (b : Bool) (n : ℕ) (e : Entry) (es : List Entry) → (e.seat == n) ≡ b → All (λ e. e.seat ≡ n) es → All (λ e. e.seat ≡ n) (cond b (e ∷ es) es)
named_by true n e es d a = All-cons (λ e. e.seat ≡ n) e es (grind (arith, nat_tests)) a
named_by false n e es d a = a

named : (n : ℕ) (es : List Entry) → All (λ e. e.seat ≡ n) (part n es)
named n [] = All-nil (λ e. e.seat ≡ n)
named n (e ∷ es) = named_by (e.seat == n) n e (part n es) refl (named n es)

all_own : (ss : List SeatView) (es : List Entry) → All (λ s. s.entries ≡ part s.number es) ss → All (λ s. RisesFrom s.start s.entries) ss → All IsOwn ss
all_own [] es p r = All-nil IsOwn
all_own (s ∷ ss) es p r =
    All-cons IsOwn s ss
    (record {
      named = subst (λ (xs : List Entry). All (λ e. e.seat ≡ s.number) xs) (sym (All-head (λ s. s.entries ≡ part s.number es) s ss p)) (named s.number es);
      rising = All-head (λ s. RisesFrom s.start s.entries) s ss r;
    })
    (all_own ss es (All-tail (λ (s : SeatView). s.entries ≡ part s.number es) s ss p) (All-tail (λ (s : SeatView). RisesFrom s.start s.entries) s ss r))

pub all_agree : (ss : List SeatView) (es : List Entry) → NumberedFrom 0 ss → All (λ e. e.seat < length ss) es → All (λ s. s.entries ≡ part s.number es) ss → All (λ s. RisesFrom s.start s.entries) ss → Tallies ss es
all_agree ss es n a p r =
    record {
      numbers = n;
      counted = λ weight. sym (lists_weigh ss es weight p ∙ parts_weigh es ss weight n a);
      own = all_own ss es p r;
    }

-- ---- loops that go on by one

pub more_seats : (xs : List SeatView) (i : ℕ) (d : SeatView) → i < length xs → d ≡ get_or xs i d → take (i + 1) xs ≡ take i xs ++ d ∷ []
more_seats xs i d h e = take_more xs i d h ∙ ap (λ (s : SeatView). take i xs ++ s ∷ []) (sym e)

pub more_entries : (xs : List Entry) (i : ℕ) (d : Entry) → i < length xs → d ≡ get_or xs i d → take (i + 1) xs ≡ take i xs ++ d ∷ []
more_entries xs i d h e = take_more xs i d h ∙ ap (λ (s : Entry). take i xs ++ s ∷ []) (sym e)

pub numbered_on : (xs : List SeatView) (i : ℕ) (d : SeatView) → i < length xs → d ≡ get_or xs i d → NumberedFrom 0 (take i xs) → d.number ≡ i → NumberedFrom 0 (take (i + 1) xs)
numbered_on xs i d h e n k =
    subst (NumberedFrom 0) (sym (more_seats xs i d h e)) (numbered_more (take i xs) 0 d n (k ∙ grind (arith, common_steps)))

pub rises_on : (xs : List Entry) (i : ℕ) (d : Entry) (from : ℕ) → i < length xs → d ≡ get_or xs i d → RisesFrom from (take i xs) → behind_all from (take i xs) ≤ d.position → RisesFrom from (take (i + 1) xs)
rises_on xs i d from h e r k = subst (RisesFrom from) (sym (more_entries xs i d h e)) (rises_more (take i xs) from d r k)

pub after_on : (xs : List Entry) (i : ℕ) (d : Entry) (from : ℕ) → i < length xs → d ≡ get_or xs i d → d.position + 1 ≡ behind_all from (take (i + 1) xs)
after_on xs i d from h e = sym (ap (behind_all from) (more_entries xs i d h e) ∙ after_more (take i xs) from d)

pub parts_on : (xs : List SeatView) (es : List Entry) (i : ℕ) (d : SeatView) → i < length xs → d ≡ get_or xs i d → All (λ s. s.entries ≡ part s.number es) (take i xs) → d.entries ≡ part d.number es → All (λ s. s.entries ≡ part s.number es) (take (i + 1) xs)
parts_on xs es i d h e a p = subst (All (λ s. s.entries ≡ part s.number es)) (sym (more_seats xs i d h e)) (All-push (λ s. s.entries ≡ part s.number es) (take i xs) d a p)

pub risings_on : (xs : List SeatView) (i : ℕ) (d : SeatView) → i < length xs → d ≡ get_or xs i d → All (λ s. RisesFrom s.start s.entries) (take i xs) → RisesFrom d.start d.entries → All (λ s. RisesFrom s.start s.entries) (take (i + 1) xs)
risings_on xs i d h e a p = subst (All (λ s. RisesFrom s.start s.entries)) (sym (more_seats xs i d h e)) (All-push (λ s. RisesFrom s.start s.entries) (take i xs) d a p)

-- ---- loops that stop

split_at : {X : Type 0} (xs : List X) (i : ℕ) (d : X) → i < length xs → d ≡ get_or xs i d → take i xs ++ d ∷ drop (i + 1) xs ≡ xs
split_at xs i d h e = ap (λ ys. take i xs ++ ys) (ap (λ x. x ∷ drop (i + 1) xs) e ∙ sym (rw add-one (drop-cons xs i d h))) ∙ take-append-drop i xs

rises_at : (es : List Entry) (e : Entry) (fs : List Entry) (from : ℕ) → RisesFrom from (es ++ e ∷ fs) → behind_all from es ≤ e.position
rises_at [] e fs from r = r.0
rises_at (x ∷ xs) e fs from r = rises_at xs e fs (x.position + 1) r.1

-- the next position is not below what is after the positions so far
pub rises_next : (xs : List Entry) (i : ℕ) (d : Entry) (from : ℕ) → i < length xs → d ≡ get_or xs i d → RisesFrom from xs → behind_all from (take i xs) ≤ d.position
rises_next xs i d from h e r = rises_at (take i xs) d (drop (i + 1) xs) from (subst (RisesFrom from) (sym (split_at xs i d h e)) r)

numbered_at : (ss : List SeatView) (s : SeatView) (ts : List SeatView) (from : ℕ) → NumberedFrom from (ss ++ s ∷ ts) → s.number ≡ from + length ss
numbered_at [] s ts from n = omega (arith, n.0)
numbered_at (x ∷ xs) s ts from n = omega (arith, numbered_at xs s ts (from + 1) n.1)

-- the next number is how many seats there were
pub numbered_next : (xs : List SeatView) (i : ℕ) (d : SeatView) → i < length xs → d ≡ get_or xs i d → NumberedFrom 0 xs → d.number ≡ i
numbered_next xs i d h e n = omega (arith, numbered_at (take i xs) d (drop (i + 1) xs) 0 (subst (NumberedFrom 0) (sym (split_at xs i d h e)) n), length-take-le i xs (omega arith))

part_at : (es : List Entry) (e : Entry) (fs : List Entry) (n : ℕ) → e.seat ≡ n → part n (es ++ e ∷ fs) ≡ part n es ++ e ∷ part n fs
part_at es e fs n q = filter-append (λ (e : Entry). e.seat == n) es (e ∷ fs) ∙ ap (λ b. part n es ++ cond b (e ∷ part n fs) (part n fs)) (let t : (e.seat == n) ≡ true = grind (arith, nat_tests) in t)

-- what stands in a part after the entries so far is the next entry of the seat
pub part_next : (mine all : List Entry) (at i n : ℕ) (e : Entry) → at ≤ length mine → take at mine ≡ part n (take i all) → i < length all → e ≡ get_or all i e → e.seat ≡ n → mine ≡ part n all → (at < length mine) × ((d : Entry) → get_or mine at d ≡ e)
part_next mine all at i n e w t h k q m =
    let rest = part n (drop (i + 1) all) in
    let is : mine ≡ take at mine ++ e ∷ rest = m ∙ (ap (part n) (sym (split_at all i e h k)) ∙ (part_at (take i all) e (drop (i + 1) all) n q ∙ ap (λ ys. ys ++ e ∷ rest) (sym t))) in
    let long = length-take-le at mine w in (
      omega (arith, ap length is, length-append (take at mine) (e ∷ rest)),
      λ d. ap (λ ys. get_or ys at d) is ∙ (ap (λ j. get_or (take at mine ++ e ∷ rest) j d) (sym long) ∙ get_or-append_seam (take at mine) e rest d),
    )
