-- The machine value of a `Made`, put together and taken apart, and what it hands to C. Assumes `Logic`.
use Rattle.std.proofs.Common.{◌≡◌, ◌⊎◌, inl, inr, ℕ, ℤ, List, [], lit<, ◌∷◌, ◌++◌, refl, sym, ap, subst, ◌∙◌, w64}
use seplogic.Ra.Ura.{Ura}
use base.Fraction.{full_share}
use base.Fml.{Lft, Share, ftrue, flft, fobs, fauth, fobor}
use lib.Dec.{T}
use mir.Syntax.{Place, Rv as RValue, Body as Code, ty_ptr, named, seq, assign}
use mir.Val.{Val, WT, vint, vstruct, vcons, vnil, of_list, of_z, has_ty}
use prog.Wp.{Env, Calls, Loops}
use types.Logic.{Logic}
use types.Kit.{Item, Goal, Post, Seq, Step, step, runs, ‵, ◌$◌, move, drop, fsplit, fsplit3, fjoin, fpick, fpack, feq_i, feq_l, rewrite}
use types.Run.{Rv, Finds, store, assigns}
use types.SemTy.{Body}
use denote.Builtin.{i64, RawPtr}
use denote.RattleType.{RattleType, Valss}
use denote.Laws.{Is, shows}
use denote.Memory.{lone, mem, cell_at}
use denote.RawPtr.{Ptr, block_ptr, null_ptr, ptr_val, rawptr_Lawful}
use denote.Ref.{MutBor, MutRef, mut_at, mut_vals, at_last}
use denote.Steps.{nothing, peeks, opens, closes}
use denote.Struct.Owning.{shape}
use denote.Struct.Struct.{within}
use Rattle.std.specs.Box.Ownership.{box_owns}
use Rattle.std.specs.Prelude.{Option, Some, None}
use Rattle.std.specs.Ptr.{if_non_null}
use Rattle.libc.specs.Heap.{chunk}
use Rattle.ymx_c.specs.Handed.{handed, owned_if_made}
use Rattle.ymx_c.specs.NewAnswers.{IsSomewhere}
use Rattle.ymx_c.specs.contracts.made.Made as made

abbrev pub word : Ptr → Val → Val
word p n = vstruct (vcons (ptr_val p) (vcons n vnil))

abbrev pub number : ℤ → Val
number n = vint w64 (of_z w64 n)

pub made_typed : (R : RattleType) (p : Ptr) (k : ℕ) → WT (vint w64 k) → T (has_ty (lone (made.the_row R).mir) (word p (vint w64 k))) × WT (word p (vint w64 k))
made_typed R (block_ptr b o) k fits = (tt, (tt, (fits, tt)))
made_typed R null_ptr k fits = (tt, (record { fits = lit< tt }, (fits, tt)))

module _ (R : RattleType) {M : Type 1} {𝓤 : Ura M} {𝓛 : Logic 𝓤} {K : Type 0} {Γ : List (Item 𝓤)} {G : Goal 𝓤 𝓛.H} where
  pub made_in : K → (p : Ptr) (n : ℤ) (o : Option R.Denot) (v : Val)
      → Step K 𝓛 (‵ ((made.the_row R).own_val (record { at = p; answer = n; value = o }) (word p v ∷ [])) ∷ Γ) G
      (‵ (owned_if_made R p o) ∷ ‵ (i64.own_val n (v ∷ [])) ∷ Γ) G
  made_in t p n o v = step (λ s.
      nothing t $ move t (2 ∷ 0 ∷ []) $ fjoin t $ feq_i t (List Val) (ptr_val p ∷ []) (ptr_val p ∷ []) refl $ fjoin t $
      feq_i t (List Val) (word p v ∷ []) (word p v ∷ []) refl $ fjoin t $
      fpack t (Valss (RawPtr ∷ i64 ∷ [])) (within (shape (made.the_type R)) (p, (n, tt)) (word p v ∷ [])) (ptr_val p ∷ [], (v ∷ [], tt)) $ fjoin t $ s)

  pub made_out : K → (m : (made.the_row R).Denot) (vs : List Val)
      → (Is i64 m.answer (number m.answer ∷ []) → vs ≡ word m.at (number m.answer) ∷ [] → Seq K 𝓛 (‵ (i64.own_val m.answer (number m.answer ∷ [])) ∷ ‵ (owned_if_made R m.at m.value) ∷ Γ) G)
      → Seq K 𝓛 (‵ ((made.the_row R).own_val m vs) ∷ Γ) G
  made_out t m vs k =
      fsplit t $ fpick t (λ vss. fsplit t $ feq_l t (λ ev. fsplit t $ feq_l t (λ ep. fsplit t $
      peeks t i64 (Is i64) (shows 𝓛 i64) m.answer vss.1.0 (λ is. rewrite t 0 (λ (ns : List Val). ‵ (i64.own_val m.answer ns)) is.0 refl $ move t (1 ∷ []) $ drop t $
      k (refl, is.1) (ev ∙ (λ j. vstruct (of_list (ep j ++ (is.0 j ++ []))) ∷ []))))))

-- what there is while a reference to a pointer is open
abbrev opened : {M : Type 1} {𝓤 : Ura M} → Lft → Share → MutBor Ptr → List (Item 𝓤) → List (Item 𝓤)
opened κ s r Γ = ‵ (cell_at full_share RawPtr.mir (ptr_val r.now ∷ []) r.ref_ptr.0 r.ref_ptr.1) ∷ ‵ (fobor κ s (Body (mem RawPtr) r.ref_ptr.0 r.ref_ptr.1 r.ghost_name)) ∷ ‵ (fobs r.ghost_name (RawPtr.coded.code r.now)) ∷ ‵ (fauth r.ghost_name (RawPtr.coded.code r.now)) ∷ ‵ (mut_at r (mut_vals r)) ∷ Γ

-- an address is written through it
module _ {M : Type 1} {𝓤 : Ura M} {𝓛 : Logic 𝓤} {K : Type 0} {Γ : List (Item 𝓤)} {E : Env 𝓤 𝓛.H} {C : Calls 𝓤 𝓛.H} {Λ : Loops 𝓤 𝓛.H} {q : Post 𝓤 𝓛.H} {place : Place} {rv : RValue} {rest : Code} where
  pub writes : K → {κ : Lft} {s : Share} (r : MutBor Ptr) (p : Ptr) → Rv K 𝓛 (opened κ s r Γ) E rv (ptr_val p) → Finds K 𝓛 (opened κ s r Γ) E place (ty_ptr, r.ref_ptr.0, r.ref_ptr.1)
      → Step K 𝓛 (‵ ((MutRef (named 0) κ RawPtr).own_val (at_last r p) (mut_vals r)) ∷ ‵ (flft κ s) ∷ Γ) (runs C Λ E rest q) (‵ ((MutRef (named 0) κ RawPtr).own_val r (mut_vals r)) ∷ ‵ (flft κ s) ∷ Γ) (runs C Λ E (seq (assign place rv) rest) q)
  writes t r p value found = let b = r.ref_ptr.0 in let o = r.ref_ptr.1 in step (λ k.
      fsplit3 t $ move t (1 ∷ 2 ∷ 3 ∷ []) $ opens t tt RawPtr b o (λ us. move t (1 ∷ []) $ feq_l t (λ was. rewrite t 0 (λ (ws : List Val). ‵ (cell_at full_share RawPtr.mir ws b o)) was refl $
      assigns t value found (store t 0 refl ((rawptr_Lawful 𝓛).typed p (ptr_val p ∷ []) refl).0) $ feq_i t (List Val) (ptr_val p ∷ []) (ptr_val p ∷ []) refl $ move t (1 ∷ 0 ∷ []) $ closes t tt RawPtr p (ptr_val p ∷ []) b o $
      fjoin t $ move t (2 ∷ 0 ∷ []) $ fjoin t $ k)))

-- `Made` and `Refused` are what is said of an answer and an address where a y was made, and where not.
module _ (R : RattleType) (Made Refused : ℤ → Ptr → Type 0) (y : R.Denot) where
  abbrev pub Told : (made.the_row R).Denot → Type 0
  Told m = (Made m.answer m.at × (m.value ≡ Some y)) ⊎ (Refused m.answer m.at × (m.value ≡ None))

  pub said : (m : (made.the_row R).Denot) → Told m → Made m.answer m.at ⊎ Refused m.answer m.at
  said m (inl is) = inl is.0
  said m (inr is) = inr is.0

  -- unless it is NULL, the value that was made lies there
  pub settled : (m : (made.the_row R).Denot) → (Made m.answer m.at → IsSomewhere m.at) → (Refused m.answer m.at → m.at ≡ null_ptr) → Told m → owned_if_made R m.at m.value ≡ handed R m.at y
  settled m somewhere null (inl is) = ap (owned_if_made R m.at) is.1 ∙ subst (λ (p : Ptr). box_owns chunk R p y ≡ if_non_null p (box_owns chunk R p y)) (sym (somewhere is.0).2) refl
  settled m somewhere null (inr is) = ap (owned_if_made R m.at) is.1 ∙ subst (λ (p : Ptr). ftrue ≡ if_non_null p (box_owns chunk R p y)) (sym (null is.0)) refl
