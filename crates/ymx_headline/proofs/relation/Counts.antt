-- Two lists by number in which the same numbers pass a test count alike.
use Rattle.std.proofs.Common.{◌≡◌, ◌≢◌, ℕ, ◌+◌, List, [], ◌∷◌, length, Bool, true, false, not, ◌&&◌, ◌==◌, if◌then◌else◌, Option, None, Some, refl, sym, ap, subst, ◌∙◌, arith, inl, inr}
use Rattle.std.specs.Prelude.{count_by}
use Rattle.std.proofs.lemmas.Bool.Decides.{nat_tests}
use Rattle.std.proofs.lemmas.List.Recursion.{is_count_by}
use Rattle.ymx_model.specs.declared.types.Role.{Role}
use Rattle.ymx_model.specs.declared.types.Role.TheVariants.{Client, Server}
use Rattle.ymx_model.specs.declared.types.Response.{Response}
use Rattle.ymx_machine.specs.stream.Lanes.{is_here}
use Rattle.ymx_machine.specs.shared.Phases.{Phase, is_live, is_recorded}
use Rattle.ymx_machine.specs.stream.Streams.{Stream}
use Rattle.ymx_machine.specs.shared.Phases.Phase.{Unborn}
use Rattle.ymx_model.specs.session.Records.{End}
use Rattle.ymx_machine.specs.shared.Lists.{look, without, Distinct}
use Rattle.ymx_model.specs.session.Sessions.{is_own}
use Rattle.ymx_model.specs.session.Calls.{is_unacknowledged}
use Rattle.ymx_model.specs.world.Worlds.{World}
use Rattle.ymx_machine.specs.machine.Machines.{Machine, recorded, unacknowledged}
use Rattle.ymx_headline.specs.stream.Worlds.{StreamWorld as Streams, AreOne, parts_of_stream}
use Rattle.ymx_headline.proofs.stream.OneStream.{one-shows}
use Rattle.ymx_headline.specs.machine.Numbers.{NumbersOnce, HasNumber, HasNumberAt}
use Rattle.ymx_machine.proofs.Lists.{look-without_other, look-without_same, distinct-without}
use Rattle.ymx_machine.proofs.Tests.{same_or_not, agrees, when}
use Rattle.ymx_headline.specs.Agrees.{AgreesAs, Keeps, is_absent}

-- ---- counting by number

abbrev total : {X : Type 0} → ((ℕ × X) → Bool) → List (ℕ × X) → ℕ
total test [] = 0
total test (p ∷ ps) = if test p then 1 + total test ps else total test ps

abbrev passes : {X : Type 0} → ((ℕ × X) → Bool) → ℕ → Option X → Bool
passes test id None = false
passes test id (Some x) = test (id, x)

total-is : {X : Type 0} (test : (ℕ × X) → Bool) (ps : List (ℕ × X)) → total test ps ≡ count_by test ps
total-is test ps = is_count_by (total test) test refl (λ p ps. refl) ps

look-head : {X : Type 0} (p : ℕ × X) (ps : List (ℕ × X)) → look p.0 (p ∷ ps) ≡ Some p.1
look-head p ps = grind (arith, nat_tests)

look-tail : {X : Type 0} (id : ℕ) (p : ℕ × X) (ps : List (ℕ × X)) → id ≢ p.0 → look id (p ∷ ps) ≡ look id ps
look-tail id p ps n = grind (arith, nat_tests)

-- without the number that stands first, whose tail has none of it
tail-passes : {X : Type 0} (test : (ℕ × X) → Bool) (id : ℕ) (p : ℕ × X) (ps : List (ℕ × X)) → look p.0 ps ≡ None → id ≡ p.0 → passes test id (look id ps) ≡ false
tail-passes test id p ps d e = rw (e, d) refl

none-pass : {X : Type 0} (test : (ℕ × X) → Bool) (ps : List (ℕ × X)) → Distinct ps → ((id : ℕ) → passes test id (look id ps) ≡ false) → total test ps ≡ 0
none-pass test [] d h = refl
none-pass test (p ∷ ps) d h =
    let first : test p ≡ false = subst (λ o. passes test p.0 o ≡ false) (look-head p ps) (h p.0) in
    rw first (none-pass test ps d.1 (λ id. elim (same_or_not id p.0) [
      | inl e ↦ tail-passes test id p ps d.0 e
      | inr n ↦ subst (λ o. passes test id o ≡ false) (look-tail id p ps n) (h id)
    ]))

total-without : {X : Type 0} (test : (ℕ × X) → Bool) (id : ℕ) (ps : List (ℕ × X)) → passes test id (look id ps) ≡ true → total test ps ≡ 1 + total test (without id ps)
total-without test id [] h = cc
total-without test id (p ∷ ps) h = elim (when (p.0 == id)) [
  | inl e ↦ (let k : passes test id (Some p.1) ≡ true = rw e at h in let q : test p ≡ true = subst (λ z. test (z, p.1) ≡ true) (sym (agrees p.0 id e)) k in rw (e, q) refl)
  | inr e ↦ (let k : passes test id (look id ps) ≡ true = rw e at h in let r = total-without test id ps k in rw e (step (test p) (total test ps) (total test (without id ps)) r))
]
  where
    step : (b : Bool) (x y : ℕ) → x ≡ 1 + y → (if b then 1 + x else x) ≡ 1 + (if b then 1 + y else y)
    step true x y e = omega arith
    step false x y e = e

pub count-alike : {X Y : Type 0} (p : (ℕ × X) → Bool) (q : (ℕ × Y) → Bool) (xs : List (ℕ × X)) (ys : List (ℕ × Y)) → Distinct xs → Distinct ys →
    ((id : ℕ) → passes p id (look id xs) ≡ passes q id (look id ys)) → total p xs ≡ total q ys
count-alike p q [] ys d e h = sym (none-pass q ys e (λ id. sym (h id)))
count-alike p q (x ∷ xs) ys d e h = elim (when (p x)) [
  | inl t ↦ (
      let at : passes q x.0 (look x.0 ys) ≡ true = sym (h x.0) ∙ (ap (passes p x.0) (look-head x xs) ∙ t) in
      let r = count-alike p q xs (without x.0 ys) d.1 (distinct-without x.0 ys e) (λ id. elim (same_or_not id x.0) [
        | inl z ↦ tail-passes p id x xs d.0 z ∙ sym (rw (z, look-without_same x.0 ys e) refl)
        | inr n ↦ ap (passes p id) (sym (look-tail id x xs n)) ∙ (h id ∙ ap (passes q id) (sym (look-without_other x.0 id ys n)))
      ]) in
      rw t (ap (λ n. 1 + n) r ∙ sym (total-without q x.0 ys at)))
  | inr f ↦ (
      let at : passes q x.0 (look x.0 ys) ≡ false = sym (h x.0) ∙ (ap (passes p x.0) (look-head x xs) ∙ f) in
      rw f (count-alike p q xs ys d.1 e (λ id. elim (same_or_not id x.0) [
        | inl z ↦ tail-passes p id x xs d.0 z ∙ sym (rw z at)
        | inr n ↦ ap (passes p id) (sym (look-tail id x xs n)) ∙ h id
      ])))
]

-- ---- records and streams

once-distinct : (xs : List (ℕ × Stream)) → NumbersOnce xs → Distinct xs
once-distinct [] h = tt
once-distinct (p ∷ ps) h = (h.0, once-distinct ps h.1)

total-all : {X : Type 0} (ps : List (ℕ × X)) → total (λ p. true) ps ≡ length ps
total-all [] = refl
total-all (p ∷ ps) = ap (λ n. 1 + n) (total-all ps) ∙ omega arith

absent-not_recorded : (p : Phase) → is_absent p ≡ true → is_recorded p ≡ false
absent-not_recorded p e = grind arith

absent-not_live : (p : Phase) → is_absent p ≡ true → is_live p ≡ false
absent-not_live p e = grind arith

pub no-record : (p : Phase) → p ≡ Unborn → is_recorded p ≡ true → ⊥
no-record p e h = let no : false ≡ true = rw e at h in absurd cc

pub record Stands (mine yours : ℕ) (answers : List Response) (id : ℕ) (g : Streams) (o : Option Stream) (r : Option End) : Type 0 where
  pub one : AreOne g.a.over g.b.over mine yours (g.a.ends id) (g.b.ends id) (parts_of_stream id g.ab) (parts_of_stream id g.ba) o
  pub keeps : Keeps answers id r (g.a.ends id)
  pub recorded : (e : End) → r ≡ Some e → is_recorded e.phase ≡ true

at-recorded : (mine yours : ℕ) (answers : List Response) (id : ℕ) (g : Streams) (o : Option Stream) (r : Option End) → Stands mine yours answers id g o r →
    passes (λ p. is_recorded p.1.me) id o ≡ passes (λ p. true) id r
at-recorded mine yours answers id g None None h = refl
at-recorded mine yours answers id g None (Some e) h = absurd (no-record e.phase (ap (λ (z : End). z.phase) (h.keeps.0 ∙ h.one.mine)) (h.recorded e refl))
at-recorded mine yours answers id g (Some s) None h = let k = (one-shows _ _ _ _ _ _ _ _ s h.one).phase in rw k (absent-not_recorded (g.a.ends id).phase h.keeps.0)
at-recorded mine yours answers id g (Some s) (Some e) h =
    let k = (one-shows _ _ _ _ _ _ _ _ s h.one).phase in rw k (subst (λ z. is_recorded z.phase ≡ true) h.keeps.0 (h.recorded e refl))

-- who opened a stream is told by its number
own-is : (x y : Role) (a b id : ℕ) (own : Bool) → x ≢ y → is_own x a ≡ true → is_own y b ≡ true → HasNumber a b id own → own ≡ is_own x id
own-is Client Client a b id own d p q h = absurd (d refl)
own-is Server Server a b id own d p q h = absurd (d refl)
own-is Client Server a b id true d p q h = let k = (h.mine refl).1 in grind (arith, nat_tests)
own-is Client Server a b id false d p q h = let k = (h.yours refl).1 in grind (arith, nat_tests)
own-is Server Client a b id true d p q h = let k = (h.mine refl).1 in grind (arith, nat_tests)
own-is Server Client a b id false d p q h = let k = (h.yours refl).1 in grind (arith, nat_tests)

and-same : (a b c d : Bool) → (b ≡ true → a ≡ true → c ≡ d) → (a && b && not c) ≡ (a && b && not d)
and-same true true c d h = rw (h refl refl) refl
and-same true false c d h = refl
and-same false b c d h = refl

and-none : (a b c : Bool) → b ≡ false → (a && b && c) ≡ false
and-none true b c e = rw e refl
and-none false b c e = refl

at-unacknowledged : (mine yours : ℕ) (answers : List Response) (id : ℕ) (g : Streams) (role : Role) (o : Option Stream) (r : Option End) → Stands mine yours answers id g o r →
    ((s : Stream) → o ≡ Some s → s.own ≡ is_own role id) → passes (λ p. p.1.own && is_live p.1.me && not (is_here p.1.ack)) id o ≡ passes (is_unacknowledged role) id r
at-unacknowledged mine yours answers id g role None None h own = refl
at-unacknowledged mine yours answers id g role None (Some e) h own = absurd (no-record e.phase (ap (λ (z : End). z.phase) (h.keeps.0 ∙ h.one.mine)) (h.recorded e refl))
at-unacknowledged mine yours answers id g role (Some s) None h own =
    let k = (one-shows _ _ _ _ _ _ _ _ s h.one).phase in and-none s.own (is_live s.me) (not (is_here s.ack)) (rw k (absent-not_live (g.a.ends id).phase h.keeps.0))
at-unacknowledged mine yours answers id g role (Some s) (Some e) h own =
    let k = one-shows _ _ _ _ _ _ _ _ s h.one in
    let q : s.me ≡ e.phase = k.phase ∙ ap (λ (z : End). z.phase) (sym h.keeps.0) in
    and-same s.own (is_live s.me) (is_here s.ack) e.marks.acked (λ l n. k.acked (ap is_live (sym k.phase) ∙ l) n ∙ ap (λ (z : End). z.marks.acked) (sym h.keeps.0))
    ∙ rw (own s refl, q) refl

-- ---- of what agrees

pub stands : (x y : Role) (w : World) (m : Machine) (h : AgreesAs x y w m) (id : ℕ) →
    Stands h.streams.a.window h.streams.b.window w.a.answers id h.streams (look id m.streams) (look id w.a.table.entries)
stands x y w m h id = record { one = h.refines.streams id; keeps = h.a.records.each id; recorded = λ e l. (h.a.within.table.records id e l).phase }

pub same-recorded : (x y : Role) (w : World) (m : Machine) (h : AgreesAs x y w m) → recorded m ≡ length w.a.table.entries
same-recorded x y w m h =
    sym (total-is (λ p. is_recorded p.1.me) m.streams)
    ∙ (count-alike (λ p. is_recorded p.1.me) (λ p. true) m.streams w.a.table.entries (once-distinct m.streams h.order.order.once) h.a.within.table.distinct
    (λ id. at-recorded _ _ _ id h.streams _ _ (stands x y w m h id)) ∙ total-all w.a.table.entries)

pub own-at : (x y : Role) (w : World) (m : Machine) (h : AgreesAs x y w m) (id : ℕ) (s : Stream) → look id m.streams ≡ Some s → s.own ≡ is_own x id
own-at x y w m h id s l =
    own-is x y m.me.next m.you.next id s.own h.roles
    (subst (λ n. is_own x n ≡ true) (sym h.a.whole.next) (subst (λ r. is_own r w.a.next ≡ true) h.a.whole.role h.a.within.next.parity))
    (subst (λ n. is_own y n ≡ true) (sym h.b.whole.next) (subst (λ r. is_own r w.b.next ≡ true) h.b.whole.role h.b.within.next.parity))
    (subst (HasNumberAt m.me.next m.you.next id) l (h.order.order.numbered id))

pub same-unacknowledged : (x y : Role) (w : World) (m : Machine) (h : AgreesAs x y w m) → unacknowledged m ≡ count_by (is_unacknowledged w.a.role) w.a.table.entries
same-unacknowledged x y w m h =
    rw h.a.whole.role (
    sym (total-is (λ p. p.1.own && is_live p.1.me && not (is_here p.1.ack)) m.streams)
    ∙ (count-alike (λ p. p.1.own && is_live p.1.me && not (is_here p.1.ack)) (is_unacknowledged x) m.streams w.a.table.entries (once-distinct m.streams h.order.order.once) h.a.within.table.distinct
    (λ id. at-unacknowledged _ _ _ id h.streams x _ _ (stands x y w m h id) (own-at x y w m h id)) ∙ total-is (is_unacknowledged x) w.a.table.entries))
