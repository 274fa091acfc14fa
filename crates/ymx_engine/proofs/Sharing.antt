-- While another connection waits that moves little, the one that has its turn gives one frame at most.
use Rattle.std.proofs.Common.{◌≡◌, ◌⊎◌, inl, inr, ℕ, zero, suc, ◌<◌, ◌≤◌, ◌==◌, ◌∷◌, List, if◌then◌else◌, length, Bool, true, false, ◌&&◌, not, refl, sym, subst, arith}
use Rattle.std.specs.Prelude.{Contains}
use Rattle.std.proofs.lemmas.Bool.Decides.{nat_tests}
use Rattle.ymx_engine.specs.Devices.{one_frame, one_turn}
use Rattle.ymx_engine.specs.Tunnels.{Tunnel}
use Rattle.ymx_engine.specs.Turns.{Connections, IsFirst, takes_busy}
use Rattle.ymx_engine.specs.Work.{ServesFirst, takes_more}

is_some : (count : ℕ) → 0 < count → (count == 0) ≡ false
is_some count some = by (count == 0) refl
  where
    by : (x : Bool) → (count == 0) ≡ x → x ≡ false
    by false e = refl
    by true e = absurd (grind (arith, nat_tests))

or_slow : (none slow : Bool) → (none ≡ false) ⊎ (slow ≡ true) → (none && not slow) ≡ false
or_slow false slow e = refl
or_slow true true e = refl
or_slow true false (inl e) = let no : true ≡ false = e in absurd cc
or_slow true false (inr e) = let no : false ≡ true = e in absurd cc

few_of : (takes none : Bool) (gave : ℕ) → gave ≤ (if takes then (if none then one_turn else one_frame) else 0) → none ≡ false → gave ≤ one_frame
few_of true true gave h e = let no : true ≡ false = e in absurd cc
few_of true false gave h e = h
few_of false none gave h e = omega (arith, h)

or_behind : (first other : ℕ) (rest : List ℕ) → Contains (first ∷ rest) other → (other ≡ first) ⊎ Contains rest other
or_behind first other rest (zero, less, e) = inl (sym e)
or_behind first other rest (suc k, less, e) = inr (k, omega (arith, less), e)

waits_on : (busy : Bool) (id other : ℕ) (old new : Connections) → IsFirst busy id old new → Contains old.fresh other → (other ≡ id) ⊎ Contains new.fresh other
waits_on true id other old new x waits = inr (subst (λ (v : List ℕ). Contains v other) (sym x.1) waits)
waits_on false id other old new x waits = or_behind id other new.fresh (subst (λ (v : List ℕ). Contains v other) x.0 waits)

pub among : (id gave : ℕ) (a b : Tunnel) → ServesFirst id gave a b → (other : ℕ) → Contains a.connections.fresh other → (other ≡ id) ⊎ (gave ≤ one_frame)
among id gave a b x other waits = by (waits_on (takes_busy a.connections) id other a.connections x.taken x.first.first waits)
  where
    by : ((other ≡ id) ⊎ Contains x.taken.fresh other) → (other ≡ id) ⊎ (gave ≤ one_frame)
    by (inl same) = inl same
    by (inr (k, less, e)) = inr (few_of (takes_more a) (length x.taken.fresh == 0 && not a.is_slow) gave x.served.turn.within (or_slow (length x.taken.fresh == 0) a.is_slow (inl (is_some (length x.taken.fresh) (omega (arith, less))))))

-- on a slow wire it does so in each turn
pub paced : (id gave : ℕ) (a b : Tunnel) → ServesFirst id gave a b → a.is_slow ≡ true → gave ≤ one_frame
paced id gave a b x slow = few_of (takes_more a) (length x.taken.fresh == 0 && not a.is_slow) gave x.served.turn.within (or_slow (length x.taken.fresh == 0) a.is_slow (inr slow))
