-- What a part adds at the back of what is under way.
use Rattle.std.proofs.Common.{◌≡◌, ◌+◌, List, [], ◌∷◌, ◌++◌, Bool, true, false, ◌||◌, refl, append_assoc, append-nil, arith}
use Rattle.std.specs.List.{list_any}
use Rattle.std.proofs.lemmas.List.Folds.{list_any-append}
use Rattle.ymx_model.specs.session.Parts.{Part}
use Rattle.ymx_model.specs.session.Parts.Part.{Syn, Ack, Data, Credit, Fin, Rst}
use Rattle.ymx_headline.specs.stream.Flight.{load, loads, gift, gifts, part_is_syn, part_is_ack, part_is_fin, holds_ack, holds_fin, holds_rst, Behind, Ordered}

pub no_list : {f : Part} {fs : List Part} → f ∷ fs ≡ [] → ⊥
no_list e = cc

pub loads_push : (fs : List Part) (f : Part) → loads (fs ++ f ∷ []) ≡ loads fs ++ load f
loads_push [] f = simp append-nil
loads_push (g ∷ fs) f = rw (loads_push fs f) (grind (arith, append_assoc))

pub gifts_push : (fs : List Part) (f : Part) → gifts (fs ++ f ∷ []) ≡ gifts fs + gift f
gifts_push [] f = omega arith
gifts_push (g ∷ fs) f = omega (arith, gifts_push fs f)

pub or_false : (a : Bool) → (a || false) ≡ a
or_false a = grind arith

pub has_push : (test : Part → Bool) (fs : List Part) (f : Part) → list_any test (fs ++ f ∷ []) ≡ (list_any test fs || test f)
has_push test fs f = rw (list_any-append test fs (f ∷ []), or_false (test f))

pub ruleset pushes = (loads_push, gifts_push, has_push)

-- what the next part must keep
pub record Fits (fs : List Part) (f : Part) : Type 0 where
  pub no_rst : holds_rst fs ≡ false
  pub syn : part_is_syn f ≡ false
  pub ack : holds_ack fs ≡ true → part_is_ack f ≡ false
  pub fin : holds_fin fs ≡ true → (load f ≡ []) × (part_is_fin f ≡ false)

fits_tail : (g f : Part) (fs : List Part) → Fits (g ∷ fs) f → Fits fs f
fits_tail g f fs c = grind arith

behind_push : (g f : Part) (fs : List Part) → Fits (g ∷ fs) f → Behind g fs → Behind g (fs ++ f ∷ [])
behind_push (Syn d) f fs c a = tt
behind_push (Ack d) f fs c a = grind (arith, pushes, c.ack)
behind_push (Data b) f fs c a = tt
behind_push (Credit d) f fs c a = tt
behind_push Fin f fs c a = grind (arith, pushes, c.fin refl, append-nil)
behind_push Rst f fs c a = grind (arith, c.no_rst)

pub ordered_push : (fs : List Part) (f : Part) → Fits fs f → Ordered fs → Ordered (fs ++ f ∷ [])
ordered_push [] f c o = grind (arith, c.syn)
ordered_push (g ∷ fs) f c o = (grind (arith, pushes, c.syn, o.0), behind_push g f fs c o.1, ordered_push fs f (fits_tail g f fs c) o.2)
