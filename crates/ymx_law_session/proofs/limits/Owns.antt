-- The own streams that the peer has not acknowledged, and the next own id.
use Rattle.std.proofs.Common.{◌≡◌, ◌≢◌, ◌⊎◌, inl, inr, ℕ, ◌+◌, ◌<◌, ◌≤◌, List, [], ◌∷◌, ◌++◌, Bool, true, false, not, ◌&&◌, ◌==◌, if◌then◌else◌, None, Some, refl, sym, subst, arith}
use Rattle.std.specs.Prelude.{count_by}
use Rattle.std.proofs.lemmas.List.Recursion.{is_count_by}
use Rattle.std.proofs.lemmas.Bool.Decides.{nat_tests}
use Rattle.ymx_model.specs.declared.types.Role.{Role}
use Rattle.ymx_machine.specs.shared.Phases.{is_offered, is_live}
use Rattle.ymx_model.specs.session.Records.{End}
use Rattle.ymx_machine.specs.shared.Lists.{look, change, without, Distinct}
use Rattle.ymx_model.specs.session.Sessions.{is_own}
use Rattle.ymx_machine.specs.shared.Limits.{most_unacknowledged}
use Rattle.ymx_model.specs.session.Calls.{is_unacknowledged}
use Rattle.ymx_law_session.specs.Limits.{IsNextWithin}
use Rattle.ymx_machine.proofs.Tests.{agrees, both_of}
use Rattle.ymx_machine.proofs.Lists.{look_before, look-added_before, look-without_before}

-- the count, by recursion
abbrev pending : Role → List (ℕ × End) → ℕ
pending role [] = 0
pending role (p ∷ ps) = if is_unacknowledged role p then 1 + pending role ps else pending role ps

counted : (role : Role) (ps : List (ℕ × End)) → pending role ps ≡ count_by (is_unacknowledged role) ps
counted role ps = is_count_by (pending role) (is_unacknowledged role) refl (λ p ps. refl) ps

if_less : (a b : Bool) (m n : ℕ) → (a ≡ true → b ≡ true) → m ≤ n → (if a then 1 + m else m) ≤ (if b then 1 + n else n)
if_less true true m n i l = omega arith
if_less true false m n i l = let z = i refl in cc
if_less false true m n i l = omega arith
if_less false false m n i l = l

pending-change : (role : Role) (id : ℕ) (f : End → End) (ps : List (ℕ × End)) →
    ((e : End) → look id ps ≡ Some e → is_unacknowledged role (id, f e) ≡ true → is_unacknowledged role (id, e) ≡ true) → pending role (change id f ps) ≤ pending role ps
pending-change role id f [] keeps = omega arith
pending-change role id f (p ∷ ps) keeps =
    of (λ k. pending-change role id f ps k) (p.0 == id) refl
  where
    of : (((e : End) → look id ps ≡ Some e → is_unacknowledged role (id, f e) ≡ true → is_unacknowledged role (id, e) ≡ true) → pending role (change id f ps) ≤ pending role ps) →
        (b : Bool) → (p.0 == id) ≡ b → pending role (if b then (p.0, f p.1) ∷ ps else p ∷ change id f ps) ≤ pending role (p ∷ ps)
    of more true t =
        let same : p.0 ≡ id = agrees p.0 id t in
        let l : look id (p ∷ ps) ≡ Some p.1 = rw t refl in
        if_less (is_unacknowledged role (p.0, f p.1)) (is_unacknowledged role p) (pending role ps) (pending role ps)
        (let P : ℕ → Type 0 = λ i. is_unacknowledged role (i, f p.1) ≡ true → is_unacknowledged role (i, p.1) ≡ true in subst P (sym same) (keeps p.1 l)) (omega arith)
    of more false t =
        if_less (is_unacknowledged role p) (is_unacknowledged role p) (pending role (change id f ps)) (pending role ps) (λ u. u)
        (more (λ e l u. keeps e (rw t l) u))

pending-added : (role : Role) (id : ℕ) (e : End) (ps : List (ℕ × End)) → pending role (ps ++ (id, e) ∷ []) ≤ pending role ps + 1
pending-added role id e [] = grind (arith, nat_tests)
pending-added role id e (p ∷ ps) = let h = pending-added role id e ps in grind (arith, nat_tests)

pending-added_other : (role : Role) (id : ℕ) (e : End) (ps : List (ℕ × End)) → is_unacknowledged role (id, e) ≡ false → pending role (ps ++ (id, e) ∷ []) ≡ pending role ps
pending-added_other role id e [] n = rw n refl
pending-added_other role id e (p ∷ ps) n = let h = pending-added_other role id e ps n in grind (arith, nat_tests)

pending-without : (role : Role) (id : ℕ) (ps : List (ℕ × End)) → pending role (without id ps) ≤ pending role ps
pending-without role id [] = omega arith
pending-without role id (p ∷ ps) = let h = pending-without role id ps in grind (arith, nat_tests)

-- ---- the limits

unacked_of : (role : Role) (id : ℕ) (d e : End) → (is_own role id ≡ true → is_live d.phase ≡ true → not d.marks.acked ≡ true → (is_live e.phase ≡ true) × (not e.marks.acked ≡ true)) →
    is_unacknowledged role (id, d) ≡ true → is_unacknowledged role (id, e) ≡ true
unacked_of role id d e keeps u =
    let a = both_of (is_own role id && is_live d.phase) (not d.marks.acked) u in
    let b = both_of (is_own role id) (is_live d.phase) a.0 in
    let k = keeps b.0 b.1 a.1 in rw (b.0, k.0, k.1) refl

-- a record changes: what was not offered isn't offered after it, what was acknowledged stays so
pub next-on : (id : ℕ) (f : End → End) (role : Role) (next : ℕ) (ps : List (ℕ × End)) →
    ((e : End) → look id ps ≡ Some e → is_offered (f e).phase ≡ true → is_offered e.phase ≡ true) →
    ((e : End) → look id ps ≡ Some e → is_own role id ≡ true → is_live (f e).phase ≡ true → not (f e).marks.acked ≡ true → (is_live e.phase ≡ true) × (not e.marks.acked ≡ true)) →
    IsNextWithin role next ps → IsNextWithin role next (change id f ps)
next-on id f role next ps off keeps h = record {
  parity = h.parity;
  some = h.some;
  fits = h.fits;
  above = λ j e l. let b = look_before id j f ps e l in h.above j b.0 b.1;
  peers = λ j e l. of j e (look_before id j f ps e l);
  unacknowledged = rw (← counted role (change id f ps)) (omega (arith, pending-change role id f ps (λ e l. unacked_of role id (f e) e (keeps e l)), counted role ps, h.unacknowledged));
}
  where
    of : (j : ℕ) (e : End) → ((d : End) × (look j ps ≡ Some d) × (((j ≡ id) × (e ≡ f d)) ⊎ ((j ≢ id) × (e ≡ d)))) → is_offered e.phase ≡ true → is_own role j ≡ false
    of j e (d, was, inl (same, now)) o =
        let l : look id ps ≡ Some d = rw (← same) was in
        h.peers j d was (off d l (rw (← now) o))
    of j e (d, was, inr (n, now)) o = h.peers j d was (rw (← now) o)

-- a record goes
pub next-removed : (id : ℕ) (role : Role) (next : ℕ) (ps : List (ℕ × End)) → Distinct ps → IsNextWithin role next ps → IsNextWithin role next (without id ps)
next-removed id role next ps d h = record {
  parity = h.parity;
  some = h.some;
  fits = h.fits;
  above = λ j e l. h.above j e (look-without_before id j e ps d l).1;
  peers = λ j e l. h.peers j e (look-without_before id j e ps d l).1;
  unacknowledged = rw (← counted role (without id ps)) (omega (arith, pending-without role id ps, counted role ps, h.unacknowledged));
}

-- an own stream is opened
pub next-opened : (role : Role) (next : ℕ) (e : End) (ps : List (ℕ × End)) → is_own role (next + 2) ≡ true → next < 4294967294 → is_offered e.phase ≡ false →
    count_by (is_unacknowledged role) ps < most_unacknowledged → IsNextWithin role next ps → IsNextWithin role (next + 2) (ps ++ (next, e) ∷ [])
next-opened role next e ps own small off few h = record {
  parity = own;
  some = omega arith;
  fits = omega arith;
  above = λ j d k o. of j d o (look-added_before next j e d ps k);
  peers = λ j d k. at j d (look-added_before next j e d ps k);
  unacknowledged = rw (← counted role (ps ++ (next, e) ∷ [])) (omega (arith, pending-added role next e ps, counted role ps, few));
}
  where
    of : (j : ℕ) (d : End) → is_own role j ≡ true → (look j ps ≡ Some d) ⊎ ((look j ps ≡ None) × (j ≡ next) × (d ≡ e)) → j < next + 2
    of j d o (inl was) = let k = h.above j d was o in omega arith
    of j d o (inr (n, same, now)) = omega arith

    at : (j : ℕ) (d : End) → (look j ps ≡ Some d) ⊎ ((look j ps ≡ None) × (j ≡ next) × (d ≡ e)) → is_offered d.phase ≡ true → is_own role j ≡ false
    at j d (inl was) = h.peers j d was
    at j d (inr (n, same, now)) = λ o. let z : is_offered e.phase ≡ true = rw (← now) o in absurd cc

-- a stream of the peer's is offered
pub next-offered : (id : ℕ) (role : Role) (next : ℕ) (e : End) (ps : List (ℕ × End)) → is_own role id ≡ false → IsNextWithin role next ps → IsNextWithin role next (ps ++ (id, e) ∷ [])
next-offered id role next e ps own h = record {
  parity = h.parity;
  some = h.some;
  fits = h.fits;
  above = λ j d k o. of j d o (look-added_before id j e d ps k);
  peers = λ j d k. at j d (look-added_before id j e d ps k);
  unacknowledged = rw (← counted role (ps ++ (id, e) ∷ [])) (omega (arith, pending-added_other role id e ps not_own, counted role ps, h.unacknowledged));
}
  where
    not_own : is_unacknowledged role (id, e) ≡ false
    not_own = rw own refl

    of : (j : ℕ) (d : End) → is_own role j ≡ true → (look j ps ≡ Some d) ⊎ ((look j ps ≡ None) × (j ≡ id) × (d ≡ e)) → j < next
    of j d o (inl was) = h.above j d was o
    of j d o (inr (n, same, now)) = let k : is_own role id ≡ true = rw (← same) o in absurd cc

    at : (j : ℕ) (d : End) → (look j ps ≡ Some d) ⊎ ((look j ps ≡ None) × (j ≡ id) × (d ≡ e)) → is_offered d.phase ≡ true → is_own role j ≡ false
    at j d (inl was) = h.peers j d was
    at j d (inr (n, same, now)) = λ o. rw same own
