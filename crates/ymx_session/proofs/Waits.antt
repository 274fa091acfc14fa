-- How long a stream with something due waits for its turn.
use Rattle.std.proofs.Common.{◌≡◌, ℕ, zero, suc, ◌+◌, ◌-◌, ◌<◌, ◌≤◌, ◌==◌, nat_lt, List, [], ◌∷◌, ◌++◌, length, take, drop, Bool, true, false, ◌||◌, cond, if◌then◌else◌, Option, None, Some, refl, sym, ap, ◌∙◌, subst, arith, append_assoc, length-append}
use Rattle.std.specs.Prelude.{count_by}
use Rattle.std.proofs.lemmas.Bool.Decides.{nat_tests}
use Rattle.std.proofs.lemmas.List.{drop-append-le, take-append-le, take-append-drop}
use Rattle.std.proofs.Math.Seq.{drop-append-add, take-append-add}
use Rattle.std.proofs.lemmas.List.Recursion.{is_count_by}
use Rattle.ymx_model.specs.session.Records.{End}
use Rattle.ymx_model.specs.session.FramesDue.{is_due}
use Rattle.ymx_model.specs.session.Tables.{Table, with_record, remove_record, pass_turn, due_ids, due_count, round}
use Rattle.ymx_machine.specs.shared.Lists.{look, change, without, place, Distinct}
use Rattle.ymx_model.specs.session.Sessions.{Session}
use Rattle.ymx_model.specs.session.Emissions.{is_first}
use Rattle.ymx_law_session.specs.Limits.{is_listed}
use Rattle.ymx_machine.proofs.Tests.{agrees, is_lt, not_lt}
use Rattle.ymx_machine.proofs.Lists.{place-change}
use Rattle.ymx_session.specs.Turns.{own_frames, before, turn, HasDue}

-- ---- a record among the others

-- the records around one
pub record Around (id : ℕ) (e : End) (ps : List (ℕ × End)) : Type 0 where
  pub front : List (ℕ × End)
  pub back : List (ℕ × End)
  pub is : ps ≡ front ++ (id, e) ∷ back
  pub place : place id ps ≡ length front
  pub changed : (f : End → End) → change id f ps ≡ front ++ (id, f e) ∷ back
  pub gone : without id ps ≡ front ++ back
  pub none_front : look id front ≡ None
  pub none_back : look id back ≡ None

around : (id : ℕ) (e : End) (ps : List (ℕ × End)) → look id ps ≡ Some e → Distinct ps → Around id e ps
around id e [] l d = cc
around id e (p ∷ ps) l d = of (p.0 == id) refl (around id e ps)
  where
    of : (b : Bool) → (p.0 == id) ≡ b → (look id ps ≡ Some e → Distinct ps → Around id e ps) → Around id e (p ∷ ps)
    of true t more =
        let i : p.0 ≡ id = agrees p.0 id t in
        let m : Some p.1 ≡ Some e = rw t at l in
        let k : p.1 ≡ e = cc in
        let n : look p.0 ps ≡ None = d.0 in
        let pair : p ≡ (id, e) = ap (λ (x : ℕ). (x, p.1)) i ∙ ap (λ (x : End). (id, x)) k in
        record {
          front = [];
          back = ps;
          is = ap (λ (x : ℕ × End). x ∷ ps) pair;
          place = rw t refl;
          changed = λ f. rw (t, i, k) refl;
          gone = rw t refl;
          none_front = refl;
          none_back = rw (← i) n;
        }
    of false t more =
        let m : look id ps ≡ Some e = rw t at l in
        let a = more m d.1 in
        record {
          front = p ∷ a.front;
          back = a.back;
          is = ap (λ (xs : List (ℕ × End)). p ∷ xs) a.is;
          place = (let k = a.place in grind (arith, nat_tests));
          changed = λ f. rw (t, a.changed f) refl;
          gone = rw (t, a.gone) refl;
          none_front = rw (t, a.none_front) refl;
          none_back = a.none_back;
        }

look-drop : (id k : ℕ) (ps : List (ℕ × End)) → look id ps ≡ None → look id (drop k ps) ≡ None
look-drop id zero ps n = n
look-drop id (suc k) [] n = refl
look-drop id (suc k) (p ∷ ps) n = look-drop id k ps (of (p.0 == id) p.1 (look id ps) n)
  where
    of : (b : Bool) (x : End) (o : Option End) → (if b then Some x else o) ≡ None → o ≡ None
    of true x o h = cc
    of false x o h = h

-- ---- who has something due

module _ (w : ℕ) where
  due-append : (a b : List (ℕ × End)) → due_ids w (a ++ b) ≡ due_ids w a ++ due_ids w b
  due-append [] b = refl
  due-append (p ∷ ps) b = of (is_due w p.1) refl (due-append ps b)
    where
      of : (c : Bool) → is_due w p.1 ≡ c → due_ids w (ps ++ b) ≡ due_ids w ps ++ due_ids w b → due_ids w (p ∷ ps ++ b) ≡ due_ids w (p ∷ ps) ++ due_ids w b
      of true t h = rw (t, h) refl
      of false t h = rw (t, h) refl

  -- where the first is of another, none of these is due
  none-first : (id : ℕ) (ps : List (ℕ × End)) (rest : List ℕ) → look id ps ≡ None → is_first id (due_ids w ps ++ rest) ≡ true → due_ids w ps ≡ []
  none-first id [] rest n f = refl
  none-first id (p ∷ ps) rest n f = of (is_due w p.1) refl (p.0 == id) refl (none-first id ps rest)
    where
      of : (c : Bool) → is_due w p.1 ≡ c → (b : Bool) → (p.0 == id) ≡ b → (look id ps ≡ None → is_first id (due_ids w ps ++ rest) ≡ true → due_ids w ps ≡ []) → due_ids w (p ∷ ps) ≡ []
      of c t true u h = let x : Some p.1 ≡ None = rw u at n in cc
      of true t false u h = let g : (p.0 == id) ≡ true = rw t at f in let x : true ≡ false = sym g ∙ u in cc
      of false t false u h = let m : look id ps ≡ None = rw u at n in let g : is_first id (due_ids w ps ++ rest) ≡ true = rw t at f in rw t (h m g)

  -- the round from a place
  abbrev round-at : ℕ → List (ℕ × End) → List ℕ
  round-at k ps = due_ids w (drop k ps) ++ due_ids w (take k ps)

  -- from a place up to the record, and from one after it
  round-front : (k id : ℕ) (e : End) (front back : List (ℕ × End)) → k ≤ length front →
      round-at k (front ++ (id, e) ∷ back) ≡ due_ids w (drop k front) ++ due_ids w ((id, e) ∷ back) ++ due_ids w (take k front)
  round-front k id e front back l = rw (drop-append-le k front ((id, e) ∷ back) l, take-append-le k front ((id, e) ∷ back) l, due-append (drop k front) ((id, e) ∷ back)) refl

  round-back : (m id : ℕ) (e : End) (front back : List (ℕ × End)) →
      round-at (length front + suc m) (front ++ (id, e) ∷ back) ≡ due_ids w (drop m back) ++ (due_ids w front ++ due_ids w ((id, e) ∷ take m back))
  round-back m id e front back =
      rw (drop-append-add front ((id, e) ∷ back) (suc m), take-append-add front ((id, e) ∷ back) (suc m), due-append front ((id, e) ∷ take m back)) refl

  due-halves : (k : ℕ) (ps : List (ℕ × End)) → due_ids w ps ≡ due_ids w (take k ps) ++ due_ids w (drop k ps)
  due-halves k ps = ap (due_ids w) (sym (take-append-drop k ps)) ∙ due-append (take k ps) (drop k ps)

no-more : (xs : List ℕ) → xs ++ [] ≡ xs
no-more [] = refl
no-more (x ∷ xs) = ap (λ (ys : List ℕ). x ∷ ys) (no-more xs)

behind-of : (k n : ℕ) → n < k → k ≡ n + suc (k - (n + 1))
behind-of k n l = omega arith

-- a stream that stands first, is served and changes
pub record Served (id : ℕ) (t u : Table) : Type 0 where
  pub rest : List ℕ
  pub tail : List ℕ
  pub was : round t ≡ id ∷ rest
  pub now : round u ≡ rest ++ tail

pub served-round : (id : ℕ) (f : End → End) (e : End) (t : Table) → look id t.entries ≡ Some e → Distinct t.entries → is_due t.window e ≡ true → is_first id (round t) ≡ true →
    Served id t (pass_turn id (with_record id f t))
served-round id f e t l d due first =
    let a = around id e t.entries l d in
    let w = t.window in
    let tail = due_ids w ((id, f e) ∷ []) in
    let place-same : place id (change id f t.entries) ≡ length a.front = place-change id id f t.entries ∙ a.place in
    let after : round (pass_turn id (with_record id f t)) ≡ due_ids w a.back ++ (due_ids w a.front ++ tail) =
    rw (place-same, a.changed f) (round-back w 0 id (f e) a.front a.back) in
    let before_ : round t ≡ round-at w t.turn (a.front ++ (id, e) ∷ a.back) = ap (λ (ps : List (ℕ × End)). round-at w t.turn ps) a.is in
    of (nat_lt (length a.front) t.turn) refl after before_
  where
    of : (b : Bool) → nat_lt (length (around id e t.entries l d).front) t.turn ≡ b →
        round (pass_turn id (with_record id f t)) ≡ due_ids t.window (around id e t.entries l d).back ++ (due_ids t.window (around id e t.entries l d).front ++ due_ids t.window ((id, f e) ∷ [])) →
        round t ≡ round-at t.window t.turn ((around id e t.entries l d).front ++ (id, e) ∷ (around id e t.entries l d).back) → Served id t (pass_turn id (with_record id f t))
    of true b after was =
        let a = around id e t.entries l d in
        let w = t.window in
        let m = t.turn - (length a.front + 1) in
        let k : t.turn ≡ length a.front + suc m = behind-of t.turn (length a.front) (is_lt (length a.front) t.turn b) in
        let r : round t ≡ due_ids w (drop m a.back) ++ (due_ids w a.front ++ due_ids w ((id, e) ∷ take m a.back)) =
        was ∙ (ap (λ (n : ℕ). round-at w n (a.front ++ (id, e) ∷ a.back)) k ∙ round-back w m id e a.front a.back) in
        let f1 : is_first id (due_ids w (drop m a.back) ++ (due_ids w a.front ++ due_ids w ((id, e) ∷ take m a.back))) ≡ true = subst (λ (xs : List ℕ). is_first id xs ≡ true) r first in
        let n1 = none-first w id (drop m a.back) (due_ids w a.front ++ due_ids w ((id, e) ∷ take m a.back)) (look-drop id m a.back a.none_back) f1 in
        let f2 : is_first id (due_ids w a.front ++ due_ids w ((id, e) ∷ take m a.back)) ≡ true = rw n1 at f1 in
        let n2 = none-first w id a.front (due_ids w ((id, e) ∷ take m a.back)) a.none_front f2 in
        let half : due_ids w a.back ≡ due_ids w (take m a.back) = due-halves w m a.back ∙ rw n1 (no-more (due_ids w (take m a.back))) in
        record { rest = due_ids w (take m a.back); tail = due_ids w ((id, f e) ∷ []); was = r ∙ rw (n1, n2, due) refl; now = after ∙ rw (n2, half) refl }
    of false b after was =
        let a = around id e t.entries l d in
        let w = t.window in
        let k = t.turn in
        let r : round t ≡ due_ids w (drop k a.front) ++ due_ids w ((id, e) ∷ a.back) ++ due_ids w (take k a.front) =
        was ∙ round-front w k id e a.front a.back (not_lt (length a.front) k b) in
        let r2 : round t ≡ due_ids w (drop k a.front) ++ (due_ids w ((id, e) ∷ a.back) ++ due_ids w (take k a.front)) =
        r ∙ append_assoc (due_ids w (drop k a.front)) (due_ids w ((id, e) ∷ a.back)) (due_ids w (take k a.front)) in
        let f1 : is_first id (due_ids w (drop k a.front) ++ (due_ids w ((id, e) ∷ a.back) ++ due_ids w (take k a.front))) ≡ true = subst (λ (xs : List ℕ). is_first id xs ≡ true) r2 first in
        let n1 = none-first w id (drop k a.front) _ (look-drop id k a.front a.none_front) f1 in
        let half : due_ids w a.front ≡ due_ids w (take k a.front) = due-halves w k a.front ∙ rw n1 (no-more (due_ids w (take k a.front))) in
        record {
          rest = due_ids w a.back ++ due_ids w (take k a.front);
          tail = due_ids w ((id, f e) ∷ []);
          was = r2 ∙ rw (n1, due) refl;
          now = after ∙ rw half (sym (append_assoc (due_ids w a.back) (due_ids w (take k a.front)) (due_ids w ((id, f e) ∷ []))));
        }

-- a record of which nothing is due goes, and the round stays
pub removed-round : (id : ℕ) (e : End) (t : Table) → look id t.entries ≡ Some e → Distinct t.entries → is_due t.window e ≡ false → round (remove_record id t) ≡ round t
removed-round id e t l d none = of (nat_lt (place id t.entries) t.turn) refl
  where
    w : ℕ
    w = t.window

    a : Around id e t.entries
    a = around id e t.entries l d

    of : (b : Bool) → nat_lt (place id t.entries) t.turn ≡ b → round (remove_record id t) ≡ round t
    of true b =
        let lt : length a.front < t.turn = is_lt (length a.front) t.turn (ap (λ (n : ℕ). nat_lt n t.turn) (sym a.place) ∙ b) in
        let m = t.turn - (length a.front + 1) in
        let k : t.turn ≡ length a.front + suc m = behind-of t.turn (length a.front) lt in
        let j : t.turn - 1 ≡ length a.front + m = omega (arith, lt) in
        let now : round (remove_record id t) ≡ due_ids t.window (drop m a.back) ++ (due_ids t.window a.front ++ due_ids t.window (take m a.back)) =
        rw (b, a.gone, j, drop-append-add a.front a.back m, take-append-add a.front a.back m, due-append t.window a.front (take m a.back)) refl in
        let was : round t ≡ due_ids t.window (drop m a.back) ++ (due_ids t.window a.front ++ due_ids t.window ((id, e) ∷ take m a.back)) =
        ap (λ (ps : List (ℕ × End)). round-at t.window t.turn ps) a.is ∙ (ap (λ (n : ℕ). round-at t.window n (a.front ++ (id, e) ∷ a.back)) k ∙ round-back t.window m id e a.front a.back) in
        now ∙ sym (was ∙ rw none refl)
    of false b =
        let le : t.turn ≤ length a.front = not_lt (length a.front) t.turn (ap (λ (n : ℕ). nat_lt n t.turn) (sym a.place) ∙ b) in
        let now : round (remove_record id t) ≡ due_ids t.window (drop t.turn a.front) ++ due_ids t.window a.back ++ due_ids t.window (take t.turn a.front) =
        rw (b, a.gone, drop-append-le t.turn a.front a.back le, take-append-le t.turn a.front a.back le, due-append t.window (drop t.turn a.front) a.back) refl in
        let was : round t ≡ due_ids t.window (drop t.turn a.front) ++ due_ids t.window ((id, e) ∷ a.back) ++ due_ids t.window (take t.turn a.front) =
        ap (λ (ps : List (ℕ × End)). round-at t.window t.turn ps) a.is ∙ round-front t.window t.turn id e a.front a.back le in
        now ∙ sym (was ∙ rw none refl)

-- ---- who stands before whom

listed-append : (id : ℕ) (xs ys : List ℕ) → is_listed id (xs ++ ys) ≡ (is_listed id xs || is_listed id ys)
listed-append id [] ys = refl
listed-append id (x ∷ xs) ys = of (x == id) (is_listed id xs) (is_listed id (xs ++ ys)) (listed-append id xs ys)
  where
    of : (a b c : Bool) → c ≡ (b || is_listed id ys) → (a || c) ≡ ((a || b) || is_listed id ys)
    of true b c h = refl
    of false b c h = h

or-swap : (a b : Bool) → (a || b) ≡ (b || a)
or-swap true true = refl
or-swap true false = refl
or-swap false true = refl
or-swap false false = refl

listed-due : (w id : ℕ) (e : End) (ps : List (ℕ × End)) → look id ps ≡ Some e → is_due w e ≡ true → is_listed id (due_ids w ps) ≡ true
listed-due w id e [] l d = cc
listed-due w id e (p ∷ ps) l d = of (p.0 == id) refl (is_due w p.1) refl (λ m. listed-due w id e ps m d)
  where
    of : (b : Bool) → (p.0 == id) ≡ b → (c : Bool) → is_due w p.1 ≡ c → (look id ps ≡ Some e → is_listed id (due_ids w ps) ≡ true) → is_listed id (due_ids w (p ∷ ps)) ≡ true
    of true t true u h = rw (u, t) refl
    of true t false u h = let m : Some p.1 ≡ Some e = rw t at l in let k : p.1 ≡ e = cc in let g : is_due w e ≡ false = ap (is_due w) (sym k) ∙ u in let x : true ≡ false = sym d ∙ g in cc
    of false t true u h = let m : look id ps ≡ Some e = rw t at l in rw (u, t) (h m)
    of false t false u h = let m : look id ps ≡ Some e = rw t at l in rw u (h m)

pub listed-round : (id : ℕ) (e : End) (t : Table) → look id t.entries ≡ Some e → is_due t.window e ≡ true → is_listed id (round t) ≡ true
listed-round id e t l d =
    let h : is_listed id (due_ids t.window (take t.turn t.entries) ++ due_ids t.window (drop t.turn t.entries)) ≡ true = ap (is_listed id) (sym (due-halves t.window t.turn t.entries)) ∙ listed-due t.window id e t.entries l d in
    listed-append id (due_ids t.window (drop t.turn t.entries)) (due_ids t.window (take t.turn t.entries))
    ∙ (or-swap (is_listed id (due_ids t.window (drop t.turn t.entries))) (is_listed id (due_ids t.window (take t.turn t.entries)))
    ∙ (sym (listed-append id (due_ids t.window (take t.turn t.entries)) (due_ids t.window (drop t.turn t.entries))) ∙ h))

before-append : (id : ℕ) (xs ys : List ℕ) → is_listed id xs ≡ true → before id (xs ++ ys) ≡ before id xs
before-append id [] ys l = cc
before-append id (x ∷ xs) ys l = let h = before-append id xs ys in grind (arith, nat_tests)

before-less : (id : ℕ) (xs : List ℕ) → is_listed id xs ≡ true → before id xs < length xs
before-less id [] l = cc
before-less id (x ∷ xs) l = let h = before-less id xs in grind (arith, nat_tests)

-- once the first was served, each other that is due comes one earlier
pub served-before : (id other : ℕ) (t u : Table) → Served other t u → (other == id) ≡ false → is_listed id (round t) ≡ true → before id (round u) < before id (round t)
served-before id other t u v n l =
    let m : is_listed id (other ∷ v.rest) ≡ true = ap (is_listed id) (sym v.was) ∙ l in
    let k : is_listed id v.rest ≡ true = rw n at m in
    let x : before id (round u) ≡ before id v.rest = ap (before id) v.now ∙ before-append id v.rest v.tail k in
    let y : before id (round t) ≡ before id v.rest + 1 = ap (before id) v.was ∙ rw n refl in
    omega arith

due-count : (w : ℕ) (ps : List (ℕ × End)) → length (due_ids w ps) ≡ count_by (λ p. is_due w p.1) ps
due-count w ps = is_count_by (λ (qs : List (ℕ × End)). length (due_ids w qs)) (λ p. is_due w p.1) refl (λ p qs. of p qs (is_due w p.1) refl) ps
  where
    of : (p : ℕ × End) (qs : List (ℕ × End)) (b : Bool) → is_due w p.1 ≡ b → length (due_ids w (p ∷ qs)) ≡ cond (is_due w p.1) (1 + length (due_ids w qs)) (length (due_ids w qs))
    of p qs true t = rw t (omega arith)
    of p qs false t = rw t refl

pub turn-few : (id : ℕ) (s : Session) → HasDue id s → turn id s < own_frames s + due_count s.table
turn-few id s h =
    let l = before-less id (round s.table) (listed-round id h.end s.table h.there h.due) in
    let a = length-append (due_ids s.table.window (drop s.table.turn s.table.entries)) (due_ids s.table.window (take s.table.turn s.table.entries)) in
    let b = length-append (due_ids s.table.window (take s.table.turn s.table.entries)) (due_ids s.table.window (drop s.table.turn s.table.entries)) in
    let c : length (due_ids s.table.window s.table.entries) ≡ length (due_ids s.table.window (take s.table.turn s.table.entries) ++ due_ids s.table.window (drop s.table.turn s.table.entries)) = ap length (due-halves s.table.window s.table.turn s.table.entries) in
    let d = due-count s.table.window s.table.entries in
    omega (arith, l, a, b, c, d)
