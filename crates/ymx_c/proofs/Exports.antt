-- Whole exports, one lemma for each shape: what lies at the pointer is lent to a callee for a lifetime made for the call, and comes back. Assumes `Logic`.
use Rattle.std.proofs.Common.{ℕ, ℤ, List, [], ◌∷◌, ◌++◌, ◌+◌, refl, ap, w8, w32, w64}
use Rattle.std.proofs.raw_atomic.Walks.{proved}
use seplogic.Ra.Ura.{Ura}
use base.Fraction.{full_share}
use base.Logic.{SProp, emp, id⊢, sep, ex}
use base.Fml.{GName, ftrue, fat, flft, flent}
use lib.Dec.{T as Holds}
use mir.Syntax.{Lifetime, Mutability, Opd as Operand, Ty, ty_int, ty_unit, opd_unit, ty_ptr, ty_ref, named, erased, imm, mut, place, field, deref, copy, rv_opd, addr_of, aggregate, Callee, Body, seq, assign, block, return, call, local, Local, value_local, Fn}
use mir.Val.{Val, WT, has_ty, vptr, vunit}
use contract.Lifetimes.{Lfts, Shares, Within, lft_at}
use contract.Monad.{fact}
use contract.Running.{Running, MachineTables, tables}
use prog.Model.{Model}
use prog.Wp.{WpFn, Closed}
use types.Logic.{Logic, sem}
use types.Kit.{Item, Sq, ‵, raw, ◌⊛◌, some, later, prop, ◌$◌, ◌∵◌, !, qed, by, at_ret, done, drop, move, keep, use1, use2, use3, split, join, fsplit, fjoin, feq_i, feq_l, await, pick, frame, group, regoal, suffices, show}
use types.Part.{agg, sub, whole}
use types.Tokens.{lft_new, lft_end}
use types.SemTy.{Body as Stored}
use types.Run.{enter, of_opd, addr, from, fld, hop, load, look, forget, unit_lit, stop, no_more, and_then, first, blocks, exec, returns}
use types.ByLocal.{alloc_all, pass_all, free_all, look_at, look_in_at, get, get_in, through, sets, sets_last, lands_as, env}
use borrow.Table.OneValue.{One, part_out}
use denote.Builtin.{i64, u8, u32, unit}
use denote.Exit.{yes}
use denote.Laws.{Is, Spells, valss, Tellss, Ises, Are, shows}
use denote.Lend.{lends_ref, ref_back}
use denote.Memory.{lone, part_at, mem}
use denote.Plain.{uint_vals, uint_Tells}
use denote.RattleType.{RattleType, Denots, Valss, flat}
use denote.RawPtr.{Ptr, RawPtr, block_ptr, lies_at, room_at, in_a_block, rawptr_vals, rawptr_Tells}
use denote.Ref.{MutRef}
use denote.Signature.{Slot, plain, mut_ref, mut_slice, shr_slice, types_at}
use denote.Signed.{sint_Lawful}
use denote.Slice.{ShrSlice, slice_ty, shr_slice_vals, shr_slice_Tells, mut_slice_vals, mut_slice_Tells}
use denote.Steps.{nothing, heard, peeks, only}
use denote.Triple.Call.{calls_at}
use denote.Triple.Clauses.{Ended, Clauses, closing, lasts}
use denote.Triple.End.{Kepts, Fins, Outs, outs}
use denote.Triple.Entry.{Args, on_entry}
use denote.Triple.Spec.{Meets, triple_of}
use denote.Triple.Statement.{Contract, Triple}
use denote.Triple.Table.{framed, enters}
use denote.Triple.Walked.{says, Stays, stay_dropped, Goes-dropped, walk_of, ends_at}
use Rattle.ymx_c.proofs.Lending.{all_left, all_go, at_block, held, calls_lent}

-- The parameters after a pointer, in a signature of n lifetimes, and how they are spelled.
record Others (n : ℕ) : Type 2 where
  params : List (Slot n)
  kept : Kepts params
  spells : (κs : Lfts n) → Spells (types_at params κs)
  tells : (κs : Lfts n) → Tellss (types_at params κs) (Ises (types_at params κs)) (spells κs)

abbrev none : (n : ℕ) → Others n
none n = record { params = []; kept = tt; spells = λ κs. tt; tells = λ κs. tt }

module _ {n : ℕ} where
  abbrev number : Others n → Others n
  number O = record { params = plain (λ κs. u32) ∷ O.params; kept = (yes, O.kept); spells = λ κs. (uint_vals w32, O.spells κs); tells = λ κs. (uint_Tells w32, O.tells κs) }

  -- bytes that are borrowed for the lifetime j, and a buffer
  abbrev bytes : (j : ℕ) → Within n j → Others n → Others n
  bytes j ok O = record { params = shr_slice j ok (λ κs. u8) ∷ O.params; kept = (yes, O.kept); spells = λ κs. (shr_slice_vals, O.spells κs); tells = λ κs. (shr_slice_Tells (named j) (lft_at n j ok κs) u8, O.tells κs) }

  abbrev buffer : (E : RattleType) (j : ℕ) → Within n j → Others n → Others n
  buffer E j ok O = record { params = mut_slice j ok (λ κs. E) ∷ O.params; kept = (yes, O.kept); spells = λ κs. (mut_slice_vals, O.spells κs); tells = λ κs. (mut_slice_Tells (named j) (lft_at n j ok κs) E, O.tells κs) }

module _ (R : RattleType) {n : ℕ} (O : Others n) where
  -- what is said of the others, of what lay at the pointer, of the answer, of what lies there then, and of the others at exit
  abbrev Sayings : Type 1
  Sayings = (κs : Lfts n) → Denots (types_at O.params κs) → R.Denot → ℤ → R.Denot → Outs κs O.params O.kept → Type 0

  -- the signature of an export, and of its callee, which has a reference for the pointer
  abbrev exported : Ended
  exported = record { signature = record { lifetimes = n; outlives = []; params = plain (λ κs. RawPtr) ∷ O.params; result = plain (λ κs. i64) }; kept = (yes, O.kept) }

  abbrev called : Within n 0 → Ended
  called ok = record { signature = record { lifetimes = n; outlives = []; params = mut_ref 0 ok (λ κs. R) ∷ O.params; result = plain (λ κs. i64) }; kept = (yes, O.kept) }

  module _ (Says : Sayings) {M : Type 1} {𝓤 : Ura M} (𝓛 : Logic 𝓤) where
    -- A value of R lies at the pointer, and another one in the end, of which `Says` is true.
    abbrev exported_says : Clauses 𝓤 exported
    exported_says κs a = record {
      ghost = R.Denot;
      requires = λ old. sem 𝓛 (lies_at R full_share a.0 old);
      ensures = λ old u e. ex 𝓤 (λ (m : R.Denot). sep 𝓤 (sem 𝓛 (lies_at R full_share a.0 m)) (fact 𝓤 (Says κs a.1 old u m e.1)));
    }

    abbrev called_says : (ok : Within n 0) → Clauses 𝓤 (called ok)
    called_says ok κs a = record { ghost = Unit {0}; requires = λ _. emp 𝓤; ensures = λ _ u e. fact 𝓤 (Says κs a.1 a.0.now u e.0.now e.1) }

-- ---- a pointer to an R, bytes, and a pointer to an R'
module _ (R R' : RattleType) where
  abbrev exported_both : Ended
  exported_both = record { signature = record { lifetimes = 1; outlives = []; params = plain (λ κs. RawPtr) ∷ shr_slice 0 tt (λ κs. u8) ∷ plain (λ κs. RawPtr) ∷ []; result = plain (λ κs. i64) }; kept = (yes, (yes, (yes, tt))) }

  abbrev called_both : Ended
  called_both = record { signature = record { lifetimes = 3; outlives = []; params = mut_ref 0 tt (λ κs. R) ∷ shr_slice 1 tt (λ κs. u8) ∷ mut_ref 2 tt (λ κs. R') ∷ []; result = plain (λ κs. i64) }; kept = (yes, (yes, (yes, tt))) }

  abbrev both_lie : {M : Type 1} {𝓤 : Ura M} (𝓛 : Logic 𝓤) → Ptr → Ptr → R.Denot × R'.Denot → SProp 𝓤 → SProp 𝓤
  both_lie {𝓤 = 𝓤} 𝓛 p r m P = sep 𝓤 (sem 𝓛 (lies_at R full_share p m.0)) (sep 𝓤 (sem 𝓛 (lies_at R' full_share r m.1)) P)

  module _ (Says : R.Denot → R'.Denot → List ℕ → ℤ → R.Denot → R'.Denot → Type 0) {M : Type 1} {𝓤 : Ura M} (𝓛 : Logic 𝓤) where
    abbrev exported_both_says : Clauses 𝓤 exported_both
    exported_both_says κs a = record {
      ghost = R.Denot × R'.Denot;
      requires = λ old. sep 𝓤 (sem 𝓛 (lies_at R full_share a.0 old.0)) (sem 𝓛 (lies_at R' full_share a.1.1.0 old.1));
      ensures = λ old u e. ex 𝓤 (λ (m : R.Denot × R'.Denot). both_lie 𝓛 a.0 a.1.1.0 m (fact 𝓤 (Says old.0 old.1 a.1.0.now u m.0 m.1)));
    }

    abbrev called_both_says : Clauses 𝓤 called_both
    called_both_says κs a = record { ghost = Unit {0}; requires = λ _. emp 𝓤; ensures = λ _ u e. fact 𝓤 (Says a.0.now a.1.1.0.now a.1.0.now u e.0.now e.1.1.0.now) }

-- ---- a pointer to an R that is ended there
abbrev ended : RattleType → Ended
ended P = record { signature = record { lifetimes = 0; outlives = []; params = plain (λ κs. P) ∷ []; result = plain (λ κs. unit) }; kept = (yes, tt) }

module _ {M : Type 1} {𝓤 : Ura M} (𝓛 : Logic 𝓤) (R : RattleType) where
  -- What lay there is gone, and its place is room again.
  abbrev ending_says : Clauses 𝓤 (ended RawPtr)
  ending_says κs a = record { ghost = R.Denot; requires = λ old. sem 𝓛 (lies_at R full_share a.0 old); ensures = λ old u e. sem 𝓛 (room_at R a.0) }

  abbrev ended_says : Clauses 𝓤 (ended R)
  ended_says κs a = record { ghost = Unit {0}; requires = λ _. emp 𝓤; ensures = λ _ u e. emp 𝓤 }

-- ---- the code of each shape, which is named for what stands after the pointer: in `through` it is a number, bytes and a buffer
abbrev function : (lifetimes params : ℕ) → List Local → Body → Fn
function lifetimes params locals body = record { lifetimes = lifetimes; outlives = []; ty_params = []; givens = 0; params = params; locals = locals; body = body }

abbrev value : Ty → Local
value τ = local τ value_local

abbrev u32_local : Local
u32_local = value (ty_int w32)

abbrev reference : Ty → Local
reference T = value (ty_ref erased mut T)

abbrev slice : Lifetime → Mutability → Ty → Local
slice ℓ μ τ = value (slice_ty (ty_ref ℓ μ τ))

-- what runs after the first statement
abbrev behind : Body → Body
behind (seq first rest) = rest
behind body = body

-- to = from
abbrev copies : (from to : ℕ) → Body
copies from to = assign (place to []) (rv_opd (copy (place from [])))

-- to = &mut *(at as *mut R), by way of the locals i and i + 1
abbrev lends_to : RattleType → (at i to : ℕ) → Body
lends_to R at i to = block (seq (copies at i) (seq (copies i (i + 1)) (assign (place to []) (addr_of (place (i + 1) (deref (lone R.mir) ∷ []))))))

-- to + 1 = &mut *from, a buffer with elements of the type τ
abbrev lends_buffer : Ty → (from to : ℕ) → Body → Body
lends_buffer τ from to rest = seq (assign (place to []) (addr_of (place from (field 0 ∷ deref τ ∷ [])))) (seq (assign (place (to + 1) []) (aggregate (copy (place to []) ∷ copy (place from (field 1 ∷ [])) ∷ []))) rest)

-- T names the type whose values are R's, and τ that of an element.
module _ (R : RattleType) (T : Ty) (k : Callee) where
  -- k(unsafe { &mut *(at as *mut R) }, ..), of p parameters
  abbrev lends_code : (n p : ℕ) (others passed : List Local) (passes : Body → Body) → List Operand → Fn
  lends_code n p others passed passes xs = function n p (value (ty_int w64) ∷ value ty_ptr ∷ (others ++ (reference T ∷ reference T ∷ value ty_ptr ∷ value ty_ptr ∷ passed)))
      (seq (lends_to R 1 (p + 3) (p + 2)) (seq (copies (p + 2) (p + 1)) (passes (seq (call k (copy (place (p + 1) []) ∷ xs) (place 0 [])) return))))

  abbrev alone_code : Fn
  alone_code = lends_code 0 1 [] [] (λ rest. rest) []

  abbrev numbered_code : Fn
  numbered_code = lends_code 0 2 (u32_local ∷ []) (u32_local ∷ []) (seq (copies 2 7)) (copy (place 7 []) ∷ [])

  abbrev twice_numbered_code : Fn
  twice_numbered_code = lends_code 0 3 (u32_local ∷ u32_local ∷ []) (u32_local ∷ u32_local ∷ []) (λ rest. seq (copies 2 8) (seq (copies 3 9) rest)) (copy (place 8 []) ∷ copy (place 9 []) ∷ [])

  abbrev sliced_code : Fn
  sliced_code = lends_code 1 2 (slice (named 0) imm (ty_int w8) ∷ []) (slice erased imm (ty_int w8) ∷ []) (seq (copies 2 7)) (copy (place 7 []) ∷ [])

  abbrev numbered_sliced_code : Fn
  numbered_sliced_code = lends_code 1 3 (u32_local ∷ slice (named 0) imm (ty_int w8) ∷ []) (u32_local ∷ slice erased imm (ty_int w8) ∷ []) (λ rest. seq (copies 2 8) (seq (copies 3 9) rest)) (copy (place 8 []) ∷ copy (place 9 []) ∷ [])

  abbrev filled_code : Ty → Fn
  filled_code τ = lends_code 1 2 (slice (named 0) mut τ ∷ []) (reference τ ∷ slice erased mut τ ∷ []) (lends_buffer τ 2 7) (copy (place 8 []) ∷ [])

  abbrev numbered_filled_code : Ty → Fn
  numbered_filled_code τ = lends_code 1 3 (u32_local ∷ slice (named 0) mut τ ∷ []) (u32_local ∷ reference τ ∷ slice erased mut τ ∷ []) (λ rest. seq (copies 2 8) (lends_buffer τ 3 9 rest)) (copy (place 8 []) ∷ copy (place 10 []) ∷ [])

  abbrev through_code : Ty → Fn
  through_code τ = lends_code 2 4 (u32_local ∷ slice (named 0) imm (ty_int w8) ∷ slice (named 1) mut τ ∷ []) (u32_local ∷ slice erased imm (ty_int w8) ∷ reference τ ∷ slice erased mut τ ∷ []) (λ rest. seq (copies 2 9) (seq (copies 3 10) (lends_buffer τ 4 11 rest))) (copy (place 9 []) ∷ copy (place 10 []) ∷ copy (place 12 []) ∷ [])

  -- k(unsafe { (at as *mut R).read() });
  abbrev ending_code : Fn
  ending_code = function 0 1 (value ty_unit ∷ value ty_ptr ∷ value ty_unit ∷ value T ∷ value T ∷ value ty_ptr ∷ value ty_ptr ∷ []) (seq (block (seq (copies 1 5) (seq (copies 5 6) (assign (place 4 []) (rv_opd (copy (place 6 (deref (lone R.mir) ∷ [])))))))) (seq (copies 4 3) (seq (call k (copy (place 3 []) ∷ []) (place 2 [])) (seq (assign (place 0 []) (rv_opd opd_unit)) return))))

module _ (R R' : RattleType) (T T' : Ty) (k : Callee) where
  -- k(unsafe { &mut *(at as *mut R) }, bytes, unsafe { &mut *(noted as *mut R') })
  abbrev both_code : Fn
  both_code = function 1 3 (value (ty_int w64) ∷ value ty_ptr ∷ slice (named 0) imm (ty_int w8) ∷ value ty_ptr ∷ reference T ∷ reference T ∷ value ty_ptr ∷ value ty_ptr ∷ slice erased imm (ty_int w8) ∷ reference T' ∷ reference T' ∷ value ty_ptr ∷ value ty_ptr ∷ []) (seq (lends_to R 1 6 5) (seq (copies 5 4) (seq (copies 2 8) (seq (lends_to R' 3 11 10) (seq (copies 10 9) (seq (call k (copy (place 4 []) ∷ copy (place 8 []) ∷ copy (place 9 []) ∷ []) (place 0 [])) return))))))

module _ {M : Type 1} {𝓤 : Ura M} (𝓛 : Logic 𝓤) (𝓜 : Model 𝓤 𝓛.H) (𝓡 : Running 𝓤 𝓛.H 𝓜) where
  abbrev 𝓣 : MachineTables 𝓤 𝓛.H 𝓜
  𝓣 = tables 𝓤 𝓛.H 𝓜 𝓡 𝓡.env

  module _ (R : RattleType) {n : ℕ} (O : Others n) (Says : Sayings R O) where
    abbrev S : Ended
    S = exported R O

    abbrev c : Clauses 𝓤 S
    c = exported_says R O Says 𝓛

    abbrev stayed : Stays S.signature.params S.kept
    stayed = all_left S.signature.params S.kept

    abbrev W : Contract 𝓤
    W = walk_of 𝓛 S stayed c

    abbrev words : (κs : Lfts n) → Denots (types_at O.params κs) → Valss (types_at O.params κs)
    words κs = valss (types_at O.params κs) (O.spells κs)

    abbrev start : (κs : Lfts n) (qs : Shares n) (a : Args S.signature κs) (x : R.Denot) → Ptr → W.Ghost
    start κs qs a x p = ((κs, qs, tt, (p, a.1), (rawptr_vals p, words κs a.1)), x)

    abbrev Told : (κs : Lfts n) (a : Denots (types_at O.params κs)) → R.Denot → ℤ → R.Denot → Fins κs O.params O.kept a → Type 0
    Told κs a x u m w = Says κs a x u m (outs κs O.params O.kept a w)

    abbrev holding : (κs : Lfts n) (qs : Shares n) (a : Args S.signature κs) → R.Denot → ℕ → ℕ → Item 𝓤
    holding κs qs a x b o = held 𝓛 R x n O.params O.kept κs qs a.1 (words κs a.1) b o

    -- from a walk that begins where the pointer is known not to be NULL
    by_walk : (name : Callee) (code : Fn) → Closed 𝓤 𝓛.H 𝓣.C 𝓣.Λ name code
        → ((κs : Lfts n) (qs : Shares n) (a : Args S.signature κs) (x : R.Denot) (b o : ℕ) → Are (types_at O.params κs) (Ises (types_at O.params κs)) a.1 (words κs a.1)
        → Sq 𝓛 (holding κs qs a x b o ∷ []) (prop (WpFn 𝓤 𝓛.H 𝓣.C 𝓣.Λ code (vptr b o ∷ flat (types_at O.params κs) (words κs a.1)) (W.post (start κs qs a x (block_ptr b o))))))
        → Meets 𝓛 S.signature (𝓣.C name) (closing 𝓛 S c)
    by_walk name code closed walk =
        proved 𝓛 S stayed c 𝓜 𝓡 (all_go 𝓛 n S.signature.params S.kept) name code closed (λ κs. (rawptr_vals, O.spells κs)) (λ κs. (rawptr_Tells, O.tells κs)) (λ κs qs bounds a x are.
        at_block 𝓛 R x n O.params O.kept κs qs a.1 (words κs a.1) a.0 (λ p. WpFn 𝓤 𝓛.H 𝓣.C 𝓣.Λ code (flat (types_at S.signature.params κs) (rawptr_vals p, words κs a.1)) (W.post (start κs qs a x p))) (λ b o.
        qed 𝓛 (holding κs qs a x b o ∷ []) ∵ walk κs qs a x b o are.1))

  abbrev callee : (R : RattleType) {n : ℕ} (O : Others n) → Within n 0 → Sayings R O → Contract 𝓤
  callee R O ok Says = triple_of 𝓛 (called R O ok).signature (closing 𝓛 (called R O ok) (called_says R O Says 𝓛 ok))

  -- An export of this code meets its contract if its callee does.
  abbrev Lends : (R : RattleType) {n m : ℕ} (O : Others n) (O' : Others m) → Within m 0 → Sayings R O → Sayings R O' → Callee → Fn → Callee → Type 2
  Lends R O O' ok Says Says' name code k = Closed 𝓤 𝓛.H 𝓣.C 𝓣.Λ name code → Triple 𝓤 (𝓣.C k) (callee R O' ok Says') → Meets 𝓛 (exported R O).signature (𝓣.C name) (closing 𝓛 (exported R O) (exported_says R O Says 𝓛))

  pub lends_alone : (R : RattleType) (T : Ty) (name k : Callee) (Says : R.Denot → ℤ → R.Denot → Type 0) → Lends R (none 0) (none 1) tt (λ κs a x u m e. Says x u m) (λ κs a x u m e. Says x u m) name (alone_code R T k) k
  lends_alone R T name k Says closed met =
      let O = none 0 in let Y : Sayings R O = λ κs a x u m e. Says x u m in by_walk R O Y name (alone_code R T k) closed (λ κs qs a x b o are.
      enter ! _ _ _ _ _ $ alloc_all ! (λ l. pass_all ! refl ((tt, tt), tt) $ first ! $ blocks ! $ sets ! (of_opd ! (get ! refl)) refl (tt, tt) $ sets ! (of_opd ! (get ! refl)) refl (tt, tt) $ sets_last ! (addr ! (through ! refl (stop !))) refl (tt, tt) $
      exec ! 𝓣.C 𝓣.Λ (env (alone_code R T k).locals l) (behind (alone_code R T k).body) (at_ret _ _) $ sets ! (of_opd ! (get ! refl)) refl (tt, tt) $
      calls_lent 𝓛 R x 0 O.params O.kept κs qs a.1 (words R O Y κs a.1) (Told R O Y κs a.1 x) b o ! (framed 𝓤 𝓛.H 𝓜 𝓣) (enters 𝓤 𝓛.H 𝓜 𝓣 _) (flat (types_at O.params κs) (words R O Y κs a.1)) _ met (λ α δ. (((α ∷ [], κs), (full_share, qs), tt, (record { ref_ptr = (b, o); ghost_name = δ; now = x }, a.1), (vptr b o ∷ [], words R O Y κs a.1)), tt)) (λ α δ. refl) (λ α δ. id⊢ 𝓤 _) (λ α δ v. id⊢ 𝓤 _) (and_then ! (get ! refl) (no_more !)) (λ v u w is.
      lands_as ! refl refl ((sint_Lawful 𝓛 w64).typed u _ is).0 $ returns ! (look_at ! 0 refl) $ free_all ! refl $ by ! (ends_at 𝓛 (exported R O) (stayed R O Y) (exported_says R O Y 𝓛) (start R O Y κs qs a x (block_ptr b o)) v u (tt, w) (tt, tt)))))

  pub lends_numbered : (R : RattleType) (T : Ty) (name k : Callee) (Says : R.Denot → ℕ → ℤ → R.Denot → Type 0) → Lends R (number (none 0)) (number (none 1)) tt (λ κs a x u m e. Says x a.0 u m) (λ κs a x u m e. Says x a.0 u m) name (numbered_code R T k) k
  lends_numbered R T name k Says closed met =
      let O = number (none 0) in let Y : Sayings R O = λ κs a x u m e. Says x a.0 u m in by_walk R O Y name (numbered_code R T k) closed (λ κs qs a x b o are.
      enter ! _ _ _ _ _ $ alloc_all ! (λ l. pass_all ! refl ((tt, tt), ((tt, record { fits = are.0.1 }), tt)) $ first ! $ blocks ! $ sets ! (of_opd ! (get ! refl)) refl (tt, tt) $ sets ! (of_opd ! (get ! refl)) refl (tt, tt) $ sets_last ! (addr ! (through ! refl (stop !))) refl (tt, tt) $
      exec ! 𝓣.C 𝓣.Λ (env (numbered_code R T k).locals l) (behind (numbered_code R T k).body) (at_ret _ _) $ sets ! (of_opd ! (get ! refl)) refl (tt, tt) $ sets ! (of_opd ! (get ! refl)) refl (tt, record { fits = are.0.1 }) $
      calls_lent 𝓛 R x 0 O.params O.kept κs qs a.1 (words R O Y κs a.1) (Told R O Y κs a.1 x) b o ! (framed 𝓤 𝓛.H 𝓜 𝓣) (enters 𝓤 𝓛.H 𝓜 𝓣 _) (flat (types_at O.params κs) (words R O Y κs a.1)) _ met (λ α δ. (((α ∷ [], κs), (full_share, qs), tt, (record { ref_ptr = (b, o); ghost_name = δ; now = x }, a.1), (vptr b o ∷ [], words R O Y κs a.1)), tt)) (λ α δ. refl) (λ α δ. id⊢ 𝓤 _) (λ α δ v. id⊢ 𝓤 _) (and_then ! (get ! refl) (and_then ! (get ! refl) (no_more !))) (λ v u w is.
      lands_as ! refl refl ((sint_Lawful 𝓛 w64).typed u _ is).0 $ returns ! (look_at ! 0 refl) $ free_all ! refl $ by ! (ends_at 𝓛 (exported R O) (stayed R O Y) (exported_says R O Y 𝓛) (start R O Y κs qs a x (block_ptr b o)) v u (tt, w) (tt, (tt, tt))))))

  pub lends_twice_numbered : (R : RattleType) (T : Ty) (name k : Callee) (Says : R.Denot → ℕ → ℕ → ℤ → R.Denot → Type 0) → Lends R (number (number (none 0))) (number (number (none 1))) tt (λ κs a x u m e. Says x a.0 a.1.0 u m) (λ κs a x u m e. Says x a.0 a.1.0 u m) name (twice_numbered_code R T k) k
  lends_twice_numbered R T name k Says closed met =
      let O = number (number (none 0)) in let Y : Sayings R O = λ κs a x u m e. Says x a.0 a.1.0 u m in by_walk R O Y name (twice_numbered_code R T k) closed (λ κs qs a x b o are.
      enter ! _ _ _ _ _ $ alloc_all ! (λ l. pass_all ! refl ((tt, tt), ((tt, record { fits = are.0.1 }), ((tt, record { fits = are.1.0.1 }), tt))) $ first ! $ blocks ! $ sets ! (of_opd ! (get ! refl)) refl (tt, tt) $ sets ! (of_opd ! (get ! refl)) refl (tt, tt) $ sets_last ! (addr ! (through ! refl (stop !))) refl (tt, tt) $
      exec ! 𝓣.C 𝓣.Λ (env (twice_numbered_code R T k).locals l) (behind (twice_numbered_code R T k).body) (at_ret _ _) $ sets ! (of_opd ! (get ! refl)) refl (tt, tt) $ sets ! (of_opd ! (get ! refl)) refl (tt, record { fits = are.0.1 }) $ sets ! (of_opd ! (get ! refl)) refl (tt, record { fits = are.1.0.1 }) $
      calls_lent 𝓛 R x 0 O.params O.kept κs qs a.1 (words R O Y κs a.1) (Told R O Y κs a.1 x) b o ! (framed 𝓤 𝓛.H 𝓜 𝓣) (enters 𝓤 𝓛.H 𝓜 𝓣 _) (flat (types_at O.params κs) (words R O Y κs a.1)) _ met (λ α δ. (((α ∷ [], κs), (full_share, qs), tt, (record { ref_ptr = (b, o); ghost_name = δ; now = x }, a.1), (vptr b o ∷ [], words R O Y κs a.1)), tt)) (λ α δ. refl) (λ α δ. id⊢ 𝓤 _) (λ α δ v. id⊢ 𝓤 _) (and_then ! (get ! refl) (and_then ! (get ! refl) (and_then ! (get ! refl) (no_more !)))) (λ v u w is.
      lands_as ! refl refl ((sint_Lawful 𝓛 w64).typed u _ is).0 $ returns ! (look_at ! 0 refl) $ free_all ! refl $ by ! (ends_at 𝓛 (exported R O) (stayed R O Y) (exported_says R O Y 𝓛) (start R O Y κs qs a x (block_ptr b o)) v u (tt, w) (tt, (tt, (tt, tt)))))))

  pub lends_sliced : (R : RattleType) (T : Ty) (name k : Callee) (Says : R.Denot → List ℕ → ℤ → R.Denot → Type 0) → Lends R (bytes 0 tt (none 1)) (bytes 1 tt (none 2)) tt (λ κs a x u m e. Says x a.0.now u m) (λ κs a x u m e. Says x a.0.now u m) name (sliced_code R T k) k
  lends_sliced R T name k Says closed met =
      let O = bytes 0 tt (none 1) in let Y : Sayings R O = λ κs a x u m e. Says x a.0.now u m in by_walk R O Y name (sliced_code R T k) closed (λ κs qs a x b o are.
      enter ! _ _ _ _ _ $ alloc_all ! (λ l. pass_all ! refl ((tt, tt), ((tt, (tt, (record { fits = are.0.0.1.0 }, tt))), tt)) $ first ! $ blocks ! $ sets ! (of_opd ! (get ! refl)) refl (tt, tt) $ sets ! (of_opd ! (get ! refl)) refl (tt, tt) $ sets_last ! (addr ! (through ! refl (stop !))) refl (tt, tt) $
      exec ! 𝓣.C 𝓣.Λ (env (sliced_code R T k).locals l) (behind (sliced_code R T k).body) (at_ret _ _) $ sets ! (of_opd ! (get ! refl)) refl (tt, tt) $ sets ! (of_opd ! (get ! refl)) refl (tt, (tt, (record { fits = are.0.0.1.0 }, tt))) $
      calls_lent 𝓛 R x 1 O.params O.kept κs qs a.1 (words R O Y κs a.1) (Told R O Y κs a.1 x) b o ! (framed 𝓤 𝓛.H 𝓜 𝓣) (enters 𝓤 𝓛.H 𝓜 𝓣 _) (flat (types_at O.params κs) (words R O Y κs a.1)) _ met (λ α δ. (((α ∷ [], κs), (full_share, qs), tt, (record { ref_ptr = (b, o); ghost_name = δ; now = x }, a.1), (vptr b o ∷ [], words R O Y κs a.1)), tt)) (λ α δ. refl) (λ α δ. id⊢ 𝓤 _) (λ α δ v. id⊢ 𝓤 _) (and_then ! (get ! refl) (and_then ! (get ! refl) (no_more !))) (λ v u w is.
      lands_as ! refl refl ((sint_Lawful 𝓛 w64).typed u _ is).0 $ returns ! (look_at ! 0 refl) $ free_all ! refl $ by ! (ends_at 𝓛 (exported R O) (stayed R O Y) (exported_says R O Y 𝓛) (start R O Y κs qs a x (block_ptr b o)) v u (tt, w) (tt, (tt, tt))))))

  pub lends_numbered_sliced : (R : RattleType) (T : Ty) (name k : Callee) (Says : R.Denot → ℕ → List ℕ → ℤ → R.Denot → Type 0) → Lends R (number (bytes 0 tt (none 1))) (number (bytes 1 tt (none 2))) tt (λ κs a x u m e. Says x a.0 a.1.0.now u m) (λ κs a x u m e. Says x a.0 a.1.0.now u m) name (numbered_sliced_code R T k) k
  lends_numbered_sliced R T name k Says closed met =
      let O = number (bytes 0 tt (none 1)) in let Y : Sayings R O = λ κs a x u m e. Says x a.0 a.1.0.now u m in by_walk R O Y name (numbered_sliced_code R T k) closed (λ κs qs a x b o are.
      enter ! _ _ _ _ _ $ alloc_all ! (λ l. pass_all ! refl ((tt, tt), ((tt, record { fits = are.0.1 }), ((tt, (tt, (record { fits = are.1.0.0.1.0 }, tt))), tt))) $ first ! $ blocks ! $ sets ! (of_opd ! (get ! refl)) refl (tt, tt) $ sets ! (of_opd ! (get ! refl)) refl (tt, tt) $ sets_last ! (addr ! (through ! refl (stop !))) refl (tt, tt) $
      exec ! 𝓣.C 𝓣.Λ (env (numbered_sliced_code R T k).locals l) (behind (numbered_sliced_code R T k).body) (at_ret _ _) $ sets ! (of_opd ! (get ! refl)) refl (tt, tt) $ sets ! (of_opd ! (get ! refl)) refl (tt, record { fits = are.0.1 }) $ sets ! (of_opd ! (get ! refl)) refl (tt, (tt, (record { fits = are.1.0.0.1.0 }, tt))) $
      calls_lent 𝓛 R x 1 O.params O.kept κs qs a.1 (words R O Y κs a.1) (Told R O Y κs a.1 x) b o ! (framed 𝓤 𝓛.H 𝓜 𝓣) (enters 𝓤 𝓛.H 𝓜 𝓣 _) (flat (types_at O.params κs) (words R O Y κs a.1)) _ met (λ α δ. (((α ∷ [], κs), (full_share, qs), tt, (record { ref_ptr = (b, o); ghost_name = δ; now = x }, a.1), (vptr b o ∷ [], words R O Y κs a.1)), tt)) (λ α δ. refl) (λ α δ. id⊢ 𝓤 _) (λ α δ v. id⊢ 𝓤 _) (and_then ! (get ! refl) (and_then ! (get ! refl) (and_then ! (get ! refl) (no_more !)))) (λ v u w is.
      lands_as ! refl refl ((sint_Lawful 𝓛 w64).typed u _ is).0 $ returns ! (look_at ! 0 refl) $ free_all ! refl $ by ! (ends_at 𝓛 (exported R O) (stayed R O Y) (exported_says R O Y 𝓛) (start R O Y κs qs a x (block_ptr b o)) v u (tt, w) (tt, (tt, (tt, tt)))))))

  pub lends_filled : (E : RattleType) (τ : Ty) (R : RattleType) (T : Ty) (name k : Callee) (Says : R.Denot → (old new : List E.Denot) → ℤ → R.Denot → Type 0) → Lends R (buffer E 0 tt (none 1)) (buffer E 1 tt (none 2)) tt (λ κs a x u m e. Says x a.0.now e.0.now u m) (λ κs a x u m e. Says x a.0.now e.0.now u m) name (filled_code R T k τ) k
  lends_filled E τ R T name k Says closed met =
      let O = buffer E 0 tt (none 1) in let Y : Sayings R O = λ κs a x u m e. Says x a.0.now e.0.now u m in by_walk R O Y name (filled_code R T k τ) closed (λ κs qs a x b o are.
      enter ! _ _ _ _ _ $ alloc_all ! (λ l. pass_all ! refl ((tt, tt), ((tt, (tt, (record { fits = are.0.0.1.0 }, tt))), tt)) $ first ! $ blocks ! $ sets ! (of_opd ! (get ! refl)) refl (tt, tt) $ sets ! (of_opd ! (get ! refl)) refl (tt, tt) $ sets_last ! (addr ! (through ! refl (stop !))) refl (tt, tt) $
      exec ! 𝓣.C 𝓣.Λ (env (filled_code R T k τ).locals l) (behind (filled_code R T k τ).body) (at_ret _ _) $ sets ! (of_opd ! (get ! refl)) refl (tt, tt) $
      sets ! (addr ! (from ! (fld ! refl (hop ! (look_in_at ! 2 (sub ! 0 refl (whole !))) (stop !))))) refl (tt, tt) $ sets ! (agg ! (and_then ! (get ! refl) (and_then ! (get_in ! (fld ! refl (stop !)) (sub ! 1 refl (whole !))) (no_more !)))) refl (tt, (tt, (record { fits = are.0.0.1.0 }, tt))) $
      calls_lent 𝓛 R x 1 O.params O.kept κs qs a.1 (words R O Y κs a.1) (Told R O Y κs a.1 x) b o ! (framed 𝓤 𝓛.H 𝓜 𝓣) (enters 𝓤 𝓛.H 𝓜 𝓣 _) (flat (types_at O.params κs) (words R O Y κs a.1)) _ met (λ α δ. (((α ∷ [], κs), (full_share, qs), tt, (record { ref_ptr = (b, o); ghost_name = δ; now = x }, a.1), (vptr b o ∷ [], words R O Y κs a.1)), tt)) (λ α δ. refl) (λ α δ. id⊢ 𝓤 _) (λ α δ v. id⊢ 𝓤 _) (and_then ! (get ! refl) (and_then ! (get ! refl) (no_more !))) (λ v u w is.
      lands_as ! refl refl ((sint_Lawful 𝓛 w64).typed u _ is).0 $ returns ! (look_at ! 0 refl) $ free_all ! refl $ by ! (ends_at 𝓛 (exported R O) (stayed R O Y) (exported_says R O Y 𝓛) (start R O Y κs qs a x (block_ptr b o)) v u (tt, w) (tt, (tt, tt))))))

  pub lends_numbered_filled : (E : RattleType) (τ : Ty) (R : RattleType) (T : Ty) (name k : Callee) (Says : R.Denot → ℕ → (old new : List E.Denot) → ℤ → R.Denot → Type 0) → Lends R (number (buffer E 0 tt (none 1))) (number (buffer E 1 tt (none 2))) tt (λ κs a x u m e. Says x a.0 a.1.0.now e.1.0.now u m) (λ κs a x u m e. Says x a.0 a.1.0.now e.1.0.now u m) name (numbered_filled_code R T k τ) k
  lends_numbered_filled E τ R T name k Says closed met =
      let O = number (buffer E 0 tt (none 1)) in let Y : Sayings R O = λ κs a x u m e. Says x a.0 a.1.0.now e.1.0.now u m in by_walk R O Y name (numbered_filled_code R T k τ) closed (λ κs qs a x b o are.
      enter ! _ _ _ _ _ $ alloc_all ! (λ l. pass_all ! refl ((tt, tt), ((tt, record { fits = are.0.1 }), ((tt, (tt, (record { fits = are.1.0.0.1.0 }, tt))), tt))) $ first ! $ blocks ! $ sets ! (of_opd ! (get ! refl)) refl (tt, tt) $ sets ! (of_opd ! (get ! refl)) refl (tt, tt) $ sets_last ! (addr ! (through ! refl (stop !))) refl (tt, tt) $
      exec ! 𝓣.C 𝓣.Λ (env (numbered_filled_code R T k τ).locals l) (behind (numbered_filled_code R T k τ).body) (at_ret _ _) $ sets ! (of_opd ! (get ! refl)) refl (tt, tt) $ sets ! (of_opd ! (get ! refl)) refl (tt, record { fits = are.0.1 }) $
      sets ! (addr ! (from ! (fld ! refl (hop ! (look_in_at ! 3 (sub ! 0 refl (whole !))) (stop !))))) refl (tt, tt) $ sets ! (agg ! (and_then ! (get ! refl) (and_then ! (get_in ! (fld ! refl (stop !)) (sub ! 1 refl (whole !))) (no_more !)))) refl (tt, (tt, (record { fits = are.1.0.0.1.0 }, tt))) $
      calls_lent 𝓛 R x 1 O.params O.kept κs qs a.1 (words R O Y κs a.1) (Told R O Y κs a.1 x) b o ! (framed 𝓤 𝓛.H 𝓜 𝓣) (enters 𝓤 𝓛.H 𝓜 𝓣 _) (flat (types_at O.params κs) (words R O Y κs a.1)) _ met (λ α δ. (((α ∷ [], κs), (full_share, qs), tt, (record { ref_ptr = (b, o); ghost_name = δ; now = x }, a.1), (vptr b o ∷ [], words R O Y κs a.1)), tt)) (λ α δ. refl) (λ α δ. id⊢ 𝓤 _) (λ α δ v. id⊢ 𝓤 _) (and_then ! (get ! refl) (and_then ! (get ! refl) (and_then ! (get ! refl) (no_more !)))) (λ v u w is.
      lands_as ! refl refl ((sint_Lawful 𝓛 w64).typed u _ is).0 $ returns ! (look_at ! 0 refl) $ free_all ! refl $ by ! (ends_at 𝓛 (exported R O) (stayed R O Y) (exported_says R O Y 𝓛) (start R O Y κs qs a x (block_ptr b o)) v u (tt, w) (tt, (tt, (tt, tt)))))))

  pub lends_through : (E : RattleType) (τ : Ty) (R : RattleType) (T : Ty) (name k : Callee) (Says : R.Denot → ℕ → List ℕ → (old new : List E.Denot) → ℤ → R.Denot → Type 0) → Lends R (number (bytes 0 tt (buffer E 1 tt (none 2)))) (number (bytes 1 tt (buffer E 2 tt (none 3)))) tt (λ κs a x u m e. Says x a.0 a.1.0.now a.1.1.0.now e.1.1.0.now u m) (λ κs a x u m e. Says x a.0 a.1.0.now a.1.1.0.now e.1.1.0.now u m) name (through_code R T k τ) k
  lends_through E τ R T name k Says closed met =
      let O = number (bytes 0 tt (buffer E 1 tt (none 2))) in let Y : Sayings R O = λ κs a x u m e. Says x a.0 a.1.0.now a.1.1.0.now e.1.1.0.now u m in by_walk R O Y name (through_code R T k τ) closed (λ κs qs a x b o are.
      enter ! _ _ _ _ _ $ alloc_all ! (λ l. pass_all ! refl ((tt, tt), ((tt, record { fits = are.0.1 }), ((tt, (tt, (record { fits = are.1.0.0.1.0 }, tt))), ((tt, (tt, (record { fits = are.1.1.0.0.1.0 }, tt))), tt)))) $ first ! $ blocks ! $ sets ! (of_opd ! (get ! refl)) refl (tt, tt) $ sets ! (of_opd ! (get ! refl)) refl (tt, tt) $ sets_last ! (addr ! (through ! refl (stop !))) refl (tt, tt) $
      exec ! 𝓣.C 𝓣.Λ (env (through_code R T k τ).locals l) (behind (through_code R T k τ).body) (at_ret _ _) $ sets ! (of_opd ! (get ! refl)) refl (tt, tt) $ sets ! (of_opd ! (get ! refl)) refl (tt, record { fits = are.0.1 }) $ sets ! (of_opd ! (get ! refl)) refl (tt, (tt, (record { fits = are.1.0.0.1.0 }, tt))) $
      sets ! (addr ! (from ! (fld ! refl (hop ! (look_in_at ! 4 (sub ! 0 refl (whole !))) (stop !))))) refl (tt, tt) $ sets ! (agg ! (and_then ! (get ! refl) (and_then ! (get_in ! (fld ! refl (stop !)) (sub ! 1 refl (whole !))) (no_more !)))) refl (tt, (tt, (record { fits = are.1.1.0.0.1.0 }, tt))) $
      calls_lent 𝓛 R x 2 O.params O.kept κs qs a.1 (words R O Y κs a.1) (Told R O Y κs a.1 x) b o ! (framed 𝓤 𝓛.H 𝓜 𝓣) (enters 𝓤 𝓛.H 𝓜 𝓣 _) (flat (types_at O.params κs) (words R O Y κs a.1)) _ met (λ α δ. (((α ∷ [], κs), (full_share, qs), tt, (record { ref_ptr = (b, o); ghost_name = δ; now = x }, a.1), (vptr b o ∷ [], words R O Y κs a.1)), tt)) (λ α δ. refl) (λ α δ. id⊢ 𝓤 _) (λ α δ v. id⊢ 𝓤 _) (and_then ! (get ! refl) (and_then ! (get ! refl) (and_then ! (get ! refl) (and_then ! (get ! refl) (no_more !))))) (λ v u w is.
      lands_as ! refl refl ((sint_Lawful 𝓛 w64).typed u _ is).0 $ returns ! (look_at ! 0 refl) $ free_all ! refl $ by ! (ends_at 𝓛 (exported R O) (stayed R O Y) (exported_says R O Y 𝓛) (start R O Y κs qs a x (block_ptr b o)) v u (tt, w) (tt, (tt, (tt, (tt, tt))))))))

  pub lends_both : (R R' : RattleType) (T T' : Ty) (name k : Callee) (Says : R.Denot → R'.Denot → List ℕ → ℤ → R.Denot → R'.Denot → Type 0) → Closed 𝓤 𝓛.H 𝓣.C 𝓣.Λ name (both_code R R' T T' k)
      → Meets 𝓛 (called_both R R').signature (𝓣.C k) (closing 𝓛 (called_both R R') (called_both_says R R' Says 𝓛)) → Meets 𝓛 (exported_both R R').signature (𝓣.C name) (closing 𝓛 (exported_both R R') (exported_both_says R R' Says 𝓛))
  lends_both R R' T T' name k Says closed met =
      let S = exported_both R R' in let S' = called_both R R' in let c = exported_both_says R R' Says 𝓛 in let code = both_code R R' T T' k in
      let G = triple_of 𝓛 S'.signature (closing 𝓛 S' (called_both_says R R' Says 𝓛)) in
      let stayed : Stays S.signature.params S.kept = (stay_dropped _ yes, (stay_dropped _ yes, (stay_dropped _ yes, tt))) in let W = walk_of 𝓛 S stayed c in
      proved 𝓛 S stayed c 𝓜 𝓡 (Goes-dropped 𝓛 1 (plain (λ _. RawPtr)) yes (λ κs x w. refl), (Goes-dropped 𝓛 1 (shr_slice 0 tt (λ _. u8)) yes (λ κs x w. refl), (Goes-dropped 𝓛 1 (plain (λ _. RawPtr)) yes (λ κs x w. refl), tt))) name code closed
      (λ κs. (rawptr_vals, (shr_slice_vals, (rawptr_vals, tt)))) (λ κs. (rawptr_Tells, (shr_slice_Tells (named 0) κs.0 u8, (rawptr_Tells, tt)))) (λ κs qs bounds a x are.
      let κ = κs.0 in let q = qs.0 in let s = a.1.0 in let ss = shr_slice_vals s in
      let y : Ptr → Ptr → W.Ghost = λ p r. ((κs, qs, bounds, (p, (s, (r, tt))), (rawptr_vals p, (ss, (rawptr_vals r, tt)))), x) in
      qed 𝓛 (((‵ (flft κ q) ⊛ ‵ ftrue) ⊛ (‵ (RawPtr.own_val a.0 (rawptr_vals a.0)) ⊛ ‵ ((ShrSlice (named 0) κ u8).own_val s ss) ⊛ ‵ (RawPtr.own_val a.1.1.0 (rawptr_vals a.1.1.0)) ⊛ ‵ ftrue)) ∷ (‵ (lies_at R full_share a.0 x.0) ⊛ ‵ (lies_at R' full_share a.1.1.0 x.1)) ∷ []) ∵
      split ! $ split ! $ move ! (2 ∷ []) $ split ! $ move ! (1 ∷ []) $ split ! $ keep ! (5 ∷ 0 ∷ 3 ∷ []) $ split ! $
      -- what lies at each pointer, the slice and its token
      in_a_block ! a.0 (λ p. lies_at R full_share p x.0) (id⊢ 𝓤 _) (λ b o e.
      regoal ! (λ p. prop (WpFn 𝓤 𝓛.H 𝓣.C 𝓣.Λ code (rawptr_vals p ++ (ss ++ (rawptr_vals a.1.1.0 ++ []))) (W.post (y p a.1.1.0)))) e refl $ move ! (1 ∷ []) $
      in_a_block ! a.1.1.0 (λ p. lies_at R' full_share p x.1) (id⊢ 𝓤 _) (λ d i e₂.
      regoal ! (λ p. prop (WpFn 𝓤 𝓛.H 𝓣.C 𝓣.Λ code (rawptr_vals (block_ptr b o) ++ (ss ++ (rawptr_vals p ++ []))) (W.post (y (block_ptr b o) p)))) e₂ refl $ move ! (1 ∷ []) $
      enter ! _ _ _ _ _ $ alloc_all ! (λ l. pass_all ! refl ((tt, tt), ((tt, (tt, (record { fits = are.1.0.0.1.0 }, tt))), ((tt, tt), tt))) $
      first ! $ blocks ! $ sets ! (of_opd ! (get ! refl)) refl (tt, tt) $ sets ! (of_opd ! (get ! refl)) refl (tt, tt) $ sets_last ! (addr ! (through ! refl (stop !))) refl (tt, tt) $
      exec ! 𝓣.C 𝓣.Λ (env code.locals l) (behind code.body) (at_ret (env code.locals l) (W.post (y (block_ptr b o) (block_ptr d i)))) $ sets ! (of_opd ! (get ! refl)) refl (tt, tt) $ sets ! (of_opd ! (get ! refl)) refl (tt, (tt, (record { fits = are.1.0.0.1.0 }, tt))) $
      first ! $ blocks ! $ sets ! (of_opd ! (get ! refl)) refl (tt, tt) $ sets ! (of_opd ! (get ! refl)) refl (tt, tt) $ sets_last ! (addr ! (through ! refl (stop !))) refl (tt, tt) $
      exec ! 𝓣.C 𝓣.Λ (env code.locals l) (behind (behind (behind (behind code.body)))) (at_ret (env code.locals l) (W.post (y (block_ptr b o) (block_ptr d i)))) $ sets ! (of_opd ! (get ! refl)) refl (tt, tt) $
      -- each is lent for a new lifetime
      lft_new ! tt (λ α. move ! (1 ∷ []) $
      use1 𝓛 (later (some (λ (δ : GName). ‵ ((MutRef (named 0) (α ∷ []) R).own_val (record { ref_ptr = (b, o); ghost_name = δ; now = x.0 }) (vptr b o ∷ [])) ⊛ ‵ (flent (α ∷ []) (Stored (mem R) b o δ))))) (lends_ref 𝓛 R (named 0) (α ∷ []) x.0 b o) $ await ! tt $ pick ! (λ δ. split ! $
      lft_new ! tt (λ β. move ! (4 ∷ []) $
      use1 𝓛 (later (some (λ (ε : GName). ‵ ((MutRef (named 0) (β ∷ []) R').own_val (record { ref_ptr = (d, i); ghost_name = ε; now = x.1 }) (vptr d i ∷ [])) ⊛ ‵ (flent (β ∷ []) (Stored (mem R') d i ε))))) (lends_ref 𝓛 R' (named 0) (β ∷ []) x.1 d i) $ await ! tt $ pick ! (λ ε. split ! $
      let z : G.Ghost = (((α ∷ [], (κ, (β ∷ [], tt))), (full_share, (q, (full_share, tt))), tt, (record { ref_ptr = (b, o); ghost_name = δ; now = x.0 }, (s, (record { ref_ptr = (d, i); ghost_name = ε; now = x.1 }, tt))), (vptr b o ∷ [], (ss, (vptr d i ∷ [], tt)))), tt) in
      -- [the note's reference; its loan; β; the session's reference; its loan; α; the slice; its token]
      nothing ! $ move ! (1 ∷ []) $ join ! $ move ! (6 ∷ []) $ join ! $ move ! (3 ∷ []) $ join ! $
      nothing ! $ move ! (3 ∷ []) $ join ! $ move ! (5 ∷ []) $ join ! $ move ! (4 ∷ []) $ join ! $ join ! $ nothing ! $ move ! (1 ∷ 0 ∷ []) $ use2 𝓛 (raw (G.pre z)) (id⊢ 𝓤 _) $
      calls_at ! (framed 𝓤 𝓛.H 𝓜 𝓣) G met z (and_then ! (get ! refl) (and_then ! (get ! refl) (and_then ! (get ! refl) (no_more !)))) (λ v.
      use1 𝓛 (later (some (λ (u : ℤ). ((‵ (flft (α ∷ []) full_share) ⊛ ‵ (flft κ q) ⊛ ‵ (flft (β ∷ []) full_share) ⊛ ‵ ftrue) ⊛ ‵ (i64.own_val u (v ∷ []))) ⊛ some (λ (ws : R.Denot × (Unit {0} × (R'.Denot × Unit {0}))). ‵ (lasts S' z.0.0 z.0.3 ws) ⊛ raw (fact 𝓤 (Says x.0 x.1 s.now u ws.0 ws.1.1.0)))))) (id⊢ 𝓤 _) $
      await ! tt $ pick ! (λ u. split ! $ split ! $ split ! $ lft_end ! tt $ move ! (1 ∷ []) $ split ! $ move ! (1 ∷ []) $ split ! $ lft_end ! tt $
      -- [β has ended; nothing; the slice's token; α has ended; the answer; the rest; the note's loan; the session's]
      move ! (4 ∷ []) $ peeks ! i64 (Is i64) (shows 𝓛 i64) u (v ∷ []) (λ is. lands_as ! refl refl ((sint_Lawful 𝓛 w64).typed u _ is).0 $
      -- and both come back
      move ! (5 ∷ []) $ pick ! (λ ws. split ! $ fsplit ! $ fsplit ! $
      move ! (8 ∷ 10 ∷ 0 ∷ []) $ use3 𝓛 (later (‵ (part_at R full_share ws.0 b o))) (ref_back 𝓛 R (α ∷ []) δ ws.0 b o) $ await ! tt $
      move ! (2 ∷ []) $ fsplit ! $ move ! (1 ∷ []) $ fsplit ! $ fsplit ! $
      move ! (8 ∷ 11 ∷ 0 ∷ []) $ use3 𝓛 (later (‵ (part_at R' full_share ws.1.1.0 d i))) (ref_back 𝓛 R' (β ∷ []) ε ws.1.1.0 d i) $ await ! tt $
      returns ! (look_at ! 0 refl) $ free_all ! refl $ keep ! (6 ∷ 7 ∷ 8 ∷ 9 ∷ 4 ∷ 0 ∷ []) $ heard ! (Says x.0 x.1 s.now u ws.0 ws.1.1.0) (λ says_so.
      move ! (2 ∷ 1 ∷ []) $ join ! $ move ! (1 ∷ []) $ suffices ! _ (ends_at 𝓛 S stayed c (y (block_ptr b o) (block_ptr d i)) v u (tt, (tt, (tt, tt))) (tt, (tt, (tt, tt)))) $
      nothing ! $ nothing ! $ join ! $ nothing ! $ join ! $ nothing ! $ join ! $ move ! (2 ∷ 0 ∷ 1 ∷ []) $ group ! 3 $ frame ! $
      show ! (λ (m : R.Denot × R'.Denot). both_lie R R' 𝓛 (block_ptr b o) (block_ptr d i) m (fact 𝓤 (Says x.0 x.1 s.now u m.0 m.1))) (ws.0, ws.1.1.0) $ frame ! $ says ! says_so $ done !)))))))))))))

  pub ends : (R : RattleType) (T : Ty) (name k : Callee) → One R → ((x : R.Denot) (v : Val) → Is R x (v ∷ []) → Holds (has_ty T v) × WT v) → Closed 𝓤 𝓛.H 𝓣.C 𝓣.Λ name (ending_code R T k)
      → Meets 𝓛 (ended R).signature (𝓣.C k) (closing 𝓛 (ended R) (ended_says 𝓛 R)) → Meets 𝓛 (ended RawPtr).signature (𝓣.C name) (closing 𝓛 (ended RawPtr) (ending_says 𝓛 R))
  ends R T name k one typed_as closed met =
      let S = ended RawPtr in let c = ending_says 𝓛 R in let stays : Stays S.signature.params S.kept = (stay_dropped _ yes, tt) in let W = walk_of 𝓛 S stays c in
      let s = closing 𝓛 (ended R) (ended_says 𝓛 R) in let G = triple_of 𝓛 (ended R).signature s in
      proved 𝓛 S stays c 𝓜 𝓡 (Goes-dropped 𝓛 0 (plain (λ _. RawPtr)) yes (λ κs x w. refl), tt) name (ending_code R T k) closed (λ κs. (rawptr_vals, tt)) (λ κs. (rawptr_Tells, tt)) (λ κs qs bounds a x are.
      let y : Ptr → W.Ghost = λ p. ((κs, qs, bounds, (p, tt), (rawptr_vals p, tt)), x) in
      qed 𝓛 (raw (on_entry 𝓛 S.signature κs qs a (y a.0).0.4) ∷ ‵ (lies_at R full_share a.0 x) ∷ []) ∵ drop ! $
      in_a_block ! a.0 (λ p. lies_at R full_share p x) (id⊢ 𝓤 _) (λ b o e.
      regoal ! (λ p. prop (WpFn 𝓤 𝓛.H 𝓣.C 𝓣.Λ (ending_code R T k) (rawptr_vals p ++ []) (W.post (y p)))) e refl $
      use1 𝓛 (some (λ (v : Val). ‵ (fat full_share (lone R.mir) b o v) ⊛ ‵ (R.own_val x (v ∷ [])))) (part_out 𝓛 R one full_share x b o) $ pick ! (λ v. split ! $
      move ! (1 ∷ []) $ peeks ! R (Is R) (shows 𝓛 R) x (v ∷ []) (λ is. move ! (1 ∷ []) $
      -- [the cell; what the value owns]
      enter ! _ _ _ _ _ $ alloc_all ! (λ l. pass_all ! refl ((tt, tt), tt) $
      first ! $ blocks ! $ sets ! (of_opd ! (get ! refl)) refl (tt, tt) $ sets ! (of_opd ! (get ! refl)) refl (tt, tt) $
      sets_last ! (of_opd ! (load ! (through ! refl (stop !)) (look ! 0 refl))) refl (typed_as x v is) $
      exec ! 𝓣.C 𝓣.Λ (env (ending_code R T k).locals l) (behind (ending_code R T k).body) (at_ret _ (W.post (y (block_ptr b o)))) $
      sets ! (of_opd ! (get ! refl)) refl (typed_as x v is) $ forget ! 0 refl $
      let z : G.Ghost = ((tt, tt, tt, (x, tt), (v ∷ [], tt)), tt) in
      nothing ! $ move ! (2 ∷ []) $ fjoin ! $ nothing ! $ join ! $ nothing ! $ move ! (1 ∷ 0 ∷ []) $ use2 𝓛 (raw (G.pre z)) (id⊢ 𝓤 _) $
      calls_at ! (framed 𝓤 𝓛.H 𝓜 𝓣) G met z (and_then ! (get ! refl) (no_more !)) (λ u.
      use1 𝓛 (later (some (λ (r : Unit {0}). (‵ ftrue ⊛ ‵ (unit.own_val r (u ∷ []))) ⊛ raw ((s tt (x, tt)).ensures tt r)))) (id⊢ 𝓤 _) $
      await ! tt $ pick ! (λ r. split ! $ split ! $ drop ! $ feq_l ! (λ is_unit. lands_as ! (ap only is_unit) refl (tt, tt) $
      sets ! (of_opd ! (unit_lit !)) refl (tt, tt) $
      returns ! (look_at ! 0 refl) $ free_all ! refl $ keep ! (1 ∷ []) $
      suffices ! _ (ends_at 𝓛 S stays c (y (block_ptr b o)) vunit tt (tt, tt) (tt, tt)) $
      feq_i ! _ (vunit ∷ []) _ refl $ nothing ! $ nothing ! $ join ! $ nothing ! $ group ! 3 $ done !))))))))
