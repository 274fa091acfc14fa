-- `address` returns the pointer of the slice.
use Rattle.std.proofs.Common.{List, [], ◌∷◌, refl}
use Rattle.std.proofs.raw_atomic.Walks.{proved}
use base.Fml.{ftrue, flft}
use mir.Syntax.{named}
use mir.Val.{Val, vptr}
use contract.Running.{tables}
use types.Kit.{‵, raw, ◌⊛◌, ◌$◌, ◌∵◌, !, qed, done, move, keep, split, join, fjoin, feq_i, suffices}
use types.Part.{sub, whole}
use types.Run.{enter, addr, from, fld, hop, stop, returns}
use types.ByLocal.{alloc_all, pass_all, free_all, look_at, look_in_at, sets}
use denote.Builtin.{u8, SliceRefOf}
use denote.Exit.{yes}
use denote.RawPtr.{block_ptr}
use denote.Signature.{plain}
use denote.Slice.{ShrSlice, shr_slice_vals, shr_slice_Tells}
use denote.Steps.{nothing}
use denote.Triple.Walked.{says, Stays, walk_of, stay_dropped, Goes-dropped, ends_at}
use Rattle.ymx_c.specs.contracts.face.address as f
use Rattle.ymx_c.proofs.face.address.Statement.{statement}
use Rattle.ymx_c.proofs.face.address.Code as code

abbrev stayed : Stays f.ended.signature.params f.ended.kept
stayed = (stay_dropped _ yes, tt)

pub address_spec : {M : Type 1} → statement M
address_spec 𝓤 𝓛 𝓜 𝓡 wired =
    let c = f.clauses 𝓛 𝓜.mem 𝓡.returns in let W = walk_of 𝓛 f.ended stayed c in let 𝓣 = tables 𝓤 𝓛.H 𝓜 𝓡 𝓡.env in
    proved 𝓛 f.ended stayed c 𝓜 𝓡 (Goes-dropped 𝓛 1 (SliceRefOf (0 ∷ []) tt (plain (λ _. u8)) (λ κs. tt)) yes (λ κs x w. refl), tt)
    f.Key.name code.function (code.unfolded 𝓤 𝓛.H 𝓜 𝓡 wired)
    (λ κs. (shr_slice_vals, tt)) (λ κs. (shr_slice_Tells (named 0) κs.0 u8, tt)) (λ κs qs bounds a x are.
    let κ = κs.0 in let q = qs.0 in let s = a.0 in let ss = shr_slice_vals s in let b = s.ref_ptr.0 in let o = s.ref_ptr.1 in
    let y : W.Ghost = ((κs, qs, bounds, a, (ss, tt)), x) in
    qed 𝓛 (((‵ (flft κ q) ⊛ ‵ ftrue) ⊛ (‵ ((ShrSlice (named 0) κ u8).own_val s ss) ⊛ ‵ ftrue)) ∷ raw ((c κs a).requires x) ∷ []) ∵
    keep ! (0 ∷ []) $ split ! $ keep ! (0 ∷ []) $
    enter ! _ _ _ _ _ $ alloc_all ! (λ l. pass_all ! refl ((tt, (tt, (record { fits = are.0.0.1.0 }, tt))), tt) $
    sets ! (addr ! (from ! (fld ! refl (hop ! (look_in_at ! 1 (sub ! 0 refl (whole !))) (stop !))))) refl (tt, tt) $
    returns ! (look_at ! 0 refl) $ free_all ! refl $ feq_i ! (List Val) (vptr b o ∷ []) (vptr b o ∷ []) refl $
    suffices ! _ (ends_at 𝓛 f.ended stayed c y (vptr b o) (block_ptr b o) (tt, tt) (tt, tt)) $ says ! refl $
    nothing ! $ nothing ! $ fjoin ! $ move ! (0 ∷ 1 ∷ []) $ join ! $ move ! (1 ∷ 0 ∷ []) $ join ! $ done !))
