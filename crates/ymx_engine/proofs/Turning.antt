-- Whose turn it is, and that each that waits comes nearer to its own.
use Rattle.std.proofs.Common.{◌≡◌, ◌⊎◌, inl, inr, ℕ, zero, suc, ◌+◌, ◌-◌, ◌*◌, ◌<◌, ◌≤◌, ◌==◌, List, [], ◌∷◌, ◌++◌, length, Bool, true, false, ◌&&◌, ◌||◌, not, Option, None, Some, min, refl, sym, ap, ◌∙◌, subst, arith}
use Rattle.std.specs.Prelude.{nat_eq, slice_get, Contains, if◌then◌else◌, option_map}
use Rattle.std.specs.Bool.{then_some}
use Rattle.std.specs.Option.{option_map_or}
use Rattle.std.proofs.lemmas.Grind.{common_steps}
use Rattle.std.proofs.lemmas.Option.{slice_get_within}
use Rattle.std.proofs.lemmas.Bool.Decides.{nat_tests}
use Rattle.ymx_engine.specs.Turns.{Connections, Waits, IsIdle, IsBehind, IsDue, HasTurnSoon, IsFirst, TakesTurn, takes_busy, turns_of_all, turns_left, Extends, LeavesQueues}
use Rattle.ymx_engine.proofs.Entries.{some_is, no_some}
use Rattle.ymx_engine.proofs.Marking.{Taken}
use Rattle.ymx_engine.proofs.Once.{stands_at, without_place, without_stands}

-- it stands so far back in two queues that take turns
abbrev Behind : (for_busy : Bool) (fresh busy : List ℕ) (id others : ℕ) → Type 0
Behind flag f g id n = (place : ℕ) × (((slice_get f place ≡ Some id) × (n ≡ 2 * place + (if flag then 1 else 0))) ⊎ ((slice_get g place ≡ Some id) × (n ≡ 2 * place + (if flag then 0 else 1))))

-- it is this one, or has fewer before it
abbrev Sooner : (for_busy : Bool) (fresh busy : List ℕ) (id other others : ℕ) → Type 0
Sooner flag f g id other n = (other ≡ id) ⊎ ((m : ℕ) × (m < n) × Behind flag f g other m)

-- one that has an item is not empty
holds_some : (xs : List ℕ) (place x : ℕ) → slice_get xs place ≡ Some x → (length xs == 0) ≡ false
holds_some xs place x at = let within : place < length xs = slice_get_within xs place x at in grind (arith, nat_tests)

is_for_busy : (flag empty none : Bool) → none ≡ false → ((flag && not empty) || none) ≡ true → flag ≡ true
is_for_busy true empty none h turn = refl
is_for_busy false empty none h turn = sym h ∙ turn

is_for_fresh : (flag empty none : Bool) → empty ≡ false → ((flag && not empty) || none) ≡ false → flag ≡ false
is_for_fresh true true none h turn = h
is_for_fresh true false none h turn = turn
is_for_fresh false empty none h turn = refl

-- the first of those that move much had its turn
busy_taken : (flag : Bool) (f g rest : List ℕ) (id other n : ℕ) → ((flag && not (length g == 0)) || (length f == 0)) ≡ true → g ≡ id ∷ rest → Behind flag f g other n → Sooner false f rest id other n
busy_taken flag f g rest id other n turn first (place, inl (at, is)) =
    let on : flag ≡ true = is_for_busy flag (length g == 0) (length f == 0) (holds_some f place other at) turn in
    let far : n ≡ 2 * place + 1 = is ∙ ap (λ (b : Bool). 2 * place + (if b then 1 else 0)) on in
    inr (2 * place + 0, omega (arith, far), (place, inl (at, refl)))
busy_taken flag f g rest id other n turn first (zero, inr (at, is)) = inl (sym (some_is (ap (λ (v : List ℕ). slice_get v zero) (sym first) ∙ at)))
busy_taken flag f g rest id other n turn first (suc place, inr (at, is)) =
    inr (2 * place + 1, omega (arith, is), (place, inr (ap (λ (v : List ℕ). slice_get v (suc place)) (sym first) ∙ at, refl)))

-- the first of the others had its turn
fresh_taken : (flag : Bool) (f g rest : List ℕ) (id other n : ℕ) → ((flag && not (length g == 0)) || (length f == 0)) ≡ false → f ≡ id ∷ rest → Behind flag f g other n → Sooner true rest g id other n
fresh_taken flag f g rest id other n turn first (place, inr (at, is)) =
    let off : flag ≡ false = is_for_fresh flag (length g == 0) (length f == 0) (holds_some g place other at) turn in
    let far : n ≡ 2 * place + 1 = is ∙ ap (λ (b : Bool). 2 * place + (if b then 0 else 1)) off in
    inr (2 * place + 0, omega (arith, far), (place, inr (at, refl)))
fresh_taken flag f g rest id other n turn first (zero, inl (at, is)) = inl (sym (some_is (ap (λ (v : List ℕ). slice_get v zero) (sym first) ∙ at)))
fresh_taken flag f g rest id other n turn first (suc place, inl (at, is)) =
    inr (2 * place + 1, omega (arith, is), (place, inl (ap (λ (v : List ℕ). slice_get v (suc place)) (sym first) ∙ at, refl)))

at_most_one : (b : Bool) → ((if b then 1 else 0) < 2) × ((if b then 0 else 1) < 2)
at_most_one true = (omega arith, omega arith)
at_most_one false = (omega arith, omega arith)

-- it has its turn within so many turns as there stand in both queues, each counted twice
pub behind_few : (id n : ℕ) (t : Connections) → IsBehind id n t → n < 2 * (length t.fresh + length t.busy)
behind_few id n t (place, inl (at, is)) =
    let within : place < length t.fresh = slice_get_within t.fresh place id at in omega (arith, within, is, (at_most_one t.is_for_busy).0)
behind_few id n t (place, inr (at, is)) =
    let within : place < length t.busy = slice_get_within t.busy place id at in omega (arith, within, is, (at_most_one t.is_for_busy).1)

-- a connection that waits has its turn after so many others
waits_behind : (id : ℕ) (t : Connections) → Waits id t → (n : ℕ) × IsBehind id n t
waits_behind id t (inl h) = let at = stands_at t.fresh id h in (2 * at.0 + (if t.is_for_busy then 1 else 0), (at.0, inl (at.1, refl)))
waits_behind id t (inr h) = let at = stands_at t.busy id h in (2 * at.0 + (if t.is_for_busy then 0 else 1), (at.0, inr (at.1, refl)))

-- fewer turns come before it
fewer_left : (n m all : ℕ) (turns : Option ℕ) → n < min all (option_map_or (λ k. k) turns all) → m < n → (rest : ℕ) → m < rest → m < min rest (option_map_or (λ k. k) (option_map (λ k. k - 1) turns) rest)
fewer_left n m all None few less rest within = omega arith
fewer_left n m all (Some k) few less rest within = omega arith

due_on : (id : ℕ) (old new : Connections) → new.turns_to_place ≡ option_map (λ n. n - 1) old.turns_to_place → ((other n : ℕ) → IsBehind other n old → (other ≡ id) ⊎ ((m : ℕ) × (m < n) × IsBehind other m new)) →
    (other : ℕ) → IsDue other old → (other ≡ id) ⊎ IsDue other new
due_on id old new counted comes other (n, far, few) = by (comes other n far)
  where
    by : ((other ≡ id) ⊎ ((m : ℕ) × (m < n) × IsBehind other m new)) → (other ≡ id) ⊎ IsDue other new
    by (inl same) = inl same
    by (inr (m, less, nearer)) =
        let within = behind_few other m new nearer in
        let few_left = fewer_left n m (turns_of_all old) old.turns_to_place few less (turns_of_all new) within in
        inr (m, nearer, subst (λ (k : Option ℕ). m < min (turns_of_all new) (option_map_or (λ j. j) k (turns_of_all new))) (sym counted) few_left)

-- the queue whose turn it is was said, and its first was taken
pub takes_turn : (id : ℕ) (old new : Connections) → (takes_busy old ≡ true → (old.busy ≡ id ∷ new.busy) × (new.fresh ≡ old.fresh) × (new.is_for_busy ≡ false)) →
    (takes_busy old ≡ false → (old.fresh ≡ id ∷ new.fresh) × (new.busy ≡ old.busy) × (new.is_for_busy ≡ true)) → new.turns_to_place ≡ option_map (λ n. n - 1) old.turns_to_place → TakesTurn id old new
takes_turn id old new busy fresh counted = by (takes_busy old) refl
  where
    by : (b : Bool) → takes_busy old ≡ b → TakesTurn id old new
    by true t =
        let took = busy t in
        let comes : (other n : ℕ) → IsBehind other n old → (other ≡ id) ⊎ ((m : ℕ) × (m < n) × IsBehind other m new) = λ other n far. subst (λ (b : Bool). Sooner b new.fresh new.busy id other n) (sym took.2) (subst (λ (v : List ℕ). Sooner false v new.busy id other n) (sym took.1)
        (busy_taken old.is_for_busy old.fresh old.busy new.busy id other n t took.0 far)) in
        record {
          first = subst (λ (b : Bool). IsFirst b id old new) (sym t) (took.0, took.1);
          comes = comes;
          counted = counted;
          due = due_on id old new counted comes;
        }
    by false t =
        let took = fresh t in
        let comes : (other n : ℕ) → IsBehind other n old → (other ≡ id) ⊎ ((m : ℕ) × (m < n) × IsBehind other m new) = λ other n far. subst (λ (b : Bool). Sooner b new.fresh new.busy id other n) (sym took.2) (subst (λ (v : List ℕ). Sooner true new.fresh v id other n) (sym took.1)
        (fresh_taken old.is_for_busy old.fresh old.busy new.fresh id other n t took.0 far)) in
        record {
          first = subst (λ (b : Bool). IsFirst b id old new) (sym t) (took.0, took.1);
          comes = comes;
          counted = counted;
          due = due_on id old new counted comes;
        }

-- a frame that waits for a place waits as before where the turns are counted that it waits for
capped : (q n : ℕ) → min q (min q n) ≡ min q n
capped q n = grind (arith, common_steps)

pub turns_kept : (a : Connections) → turns_left (record a { turns_to_place = Some (turns_left a) }) ≡ turns_left a
turns_kept a = capped (turns_of_all a) (option_map_or (λ n. n) a.turns_to_place (turns_of_all a))

-- and who waits as a frame comes to wait has its turn before that, as has who was to have it before
capped_below : (n q m : ℕ) → n < min q m → n < min q (min q m)
capped_below n q m h = omega arith

due_at : (lacks : Bool) (a : Connections) (id : ℕ) → IsDue id a → IsDue id (record a { turns_to_place = if lacks then Some (turns_left a) else None })
due_at true a id (n, far, few) = (n, far, capped_below n (turns_of_all a) (option_map_or (λ k. k) a.turns_to_place (turns_of_all a)) few)
due_at false a id (n, far, few) = (n, far, omega (arith, few))

pub due_kept : (lacks : Bool) (a b : Connections) → b ≡ record a { turns_to_place = if lacks then Some (turns_left a) else None } → (id : ℕ) → IsDue id a → IsDue id b
due_kept lacks a b e id due = subst (IsDue id) (sym e) (due_at lacks a id due)

-- with none counted each that waits is due
pub due_first : (a : Connections) → a.turns_to_place ≡ None → (id : ℕ) → Waits id a → IsDue id a
due_first a none id waits =
    let far = waits_behind id a waits in
    let few = behind_few id far.0 a far.1 in
    (far.0, far.1, subst (λ (k : Option ℕ). far.0 < min (turns_of_all a) (option_map_or (λ j. j) k (turns_of_all a))) (sym none) (omega (arith, few)))

due_begun : (lacks : Bool) (a b : Connections) → b ≡ record a { turns_to_place = if lacks then Some (turns_left a) else None } → a.turns_to_place ≡ None → (id : ℕ) → Waits id a → IsDue id b
due_begun lacks a b e none id waits = due_kept lacks a b e id (due_first a none id waits)

pub due_counted : (lacks : Bool) (left : ℕ) (turns : Option ℕ) (a b : Connections) → left ≡ turns_left a → turns ≡ then_some lacks left → b ≡ record a { turns_to_place = turns } → a.turns_to_place ≡ None → (id : ℕ) → Waits id a → IsDue id b
due_counted true left turns a b l t e none id waits = due_begun true a b (e ∙ ap (λ (k : Option ℕ). record a { turns_to_place = k }) (t ∙ ap Some l)) none id waits
due_counted false left turns a b l t e none id waits = due_begun false a b (e ∙ ap (λ (k : Option ℕ). record a { turns_to_place = k }) t) none id waits

pub turn_from : (id : ℕ) (a b c : Connections) → a ≡ b → TakesTurn id a c → TakesTurn id b c
turn_from id a b c e x = subst (λ (t : Connections). TakesTurn id t c) e x

-- the first of a queue was taken
pub turned_taken : (id : ℕ) (b : Bool) (f g f2 g2 : List ℕ) {P Q : Type 0} → (b ≡ true → (g ≡ id ∷ g2) × (f2 ≡ f) × P) → (b ≡ false → (f ≡ id ∷ f2) × (g2 ≡ g) × Q) → Taken id f g f2 g2
turned_taken id true f g f2 g2 busy fresh = let took = busy refl in inr (took.1, took.0)
turned_taken id false f g f2 g2 busy fresh = let took = fresh refl in inl (took.0, took.1)

-- ---- how far back one stands

slice_get_on : (xs more : List ℕ) (place x : ℕ) → slice_get xs place ≡ Some x → slice_get (xs ++ more) place ≡ Some x
slice_get_on [] more place x at = let no : ⊥ = cc in absurd no
slice_get_on (y ∷ xs) more zero x at = at
slice_get_on (y ∷ xs) more (suc place) x at = slice_get_on xs more place x at

-- others that came to wait stand after it
pub extends_behind : (id n : ℕ) (a b : Connections) → Extends a b → IsBehind id n a → IsBehind id n b
extends_behind id n a b x far =
    subst (λ (f : Bool). Behind f b.fresh b.busy id n) (sym x.flag)
    (subst (λ (v : List ℕ). Behind a.is_for_busy v b.busy id n) (sym x.fresh)
    (subst (λ (v : List ℕ). Behind a.is_for_busy (a.fresh ++ x.more_fresh) v id n) (sym x.busy) (at far.0 far.1)))
  where
    at : (place : ℕ) → (((slice_get a.fresh place ≡ Some id) × (n ≡ 2 * place + (if a.is_for_busy then 1 else 0))) ⊎ ((slice_get a.busy place ≡ Some id) × (n ≡ 2 * place + (if a.is_for_busy then 0 else 1)))) →
        Behind a.is_for_busy (a.fresh ++ x.more_fresh) (a.busy ++ x.more_busy) id n
    at place (inl (there, is)) = (place, inl (slice_get_on a.fresh x.more_fresh place id there, is))
    at place (inr (there, is)) = (place, inr (slice_get_on a.busy x.more_busy place id there, is))

-- where another left, one stands no further back
pub left_behind : (id other n : ℕ) (a b : Connections) → nat_eq id other ≡ false → LeavesQueues id a b → IsBehind other n a → (m : ℕ) × (m + 0 ≤ n) × IsBehind other m b
left_behind id other n a b ne x (place, inl (at, is)) =
    let still = without_place id other a.fresh place ne at in (
      2 * still.0 + (if a.is_for_busy then 1 else 0),
      omega (arith, still.1, is),
      (still.0, inl (ap (λ (v : List ℕ). slice_get v still.0) x.fresh ∙ still.2, ap (λ (f : Bool). 2 * still.0 + (if f then 1 else 0)) (sym x.flag))),
    )
left_behind id other n a b ne x (place, inr (at, is)) =
    let still = without_place id other a.busy place ne at in (
      2 * still.0 + (if a.is_for_busy then 0 else 1),
      omega (arith, still.1, is),
      (still.0, inr (ap (λ (v : List ℕ). slice_get v still.0) x.busy ∙ still.2, ap (λ (f : Bool). 2 * still.0 + (if f then 0 else 1)) (sym x.flag))),
    )

-- one that waited waits on
pub left_waits : (id other : ℕ) (a b : Connections) → nat_eq id other ≡ false → LeavesQueues id a b → Waits other a → Waits other b
left_waits id other a b ne x (inl h) = inl (subst (λ (v : List ℕ). Contains v other) (sym x.fresh) (without_stands id other a.fresh ne h))
left_waits id other a b ne x (inr h) = inr (subst (λ (v : List ℕ). Contains v other) (sym x.busy) (without_stands id other a.busy ne h))

-- where none waits, none stands anywhere
pub none_behind : {A : Type 0} (id n : ℕ) (t : Connections) → IsIdle t → IsBehind id n t → A
none_behind id n t idle (place, inl (at, is)) = no_some (sym (ap (λ (v : List ℕ). slice_get v place) (sym idle.0) ∙ at))
none_behind id n t idle (place, inr (at, is)) = no_some (sym (ap (λ (v : List ℕ). slice_get v place) (sym idle.1) ∙ at))

-- no more wait than there are
soon_at : (id n : ℕ) (t : Connections) → length t.fresh + length t.busy ≤ length t.by_id → IsBehind id n t → HasTurnSoon id t
soon_at id n t few far = let most = behind_few id n t far in (n, far, omega (arith, most, few))

pub waits_soon : (id : ℕ) (t : Connections) → length t.fresh + length t.busy ≤ length t.by_id → Waits id t → HasTurnSoon id t
waits_soon id t few waits = let far = waits_behind id t waits in soon_at id far.0 t few far.1
