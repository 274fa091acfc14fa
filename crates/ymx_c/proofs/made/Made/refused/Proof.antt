-- `refused` makes a `Made` of NULL, which owns nothing.
use Rattle.std.proofs.Common.{[], ◌∷◌, refl, w64, lit<}
use Rattle.std.proofs.raw_atomic.Walks.{proved}
use base.Fml.{ftrue, flft}
use contract.Running.{tables}
use mir.MapTy.{inst_fn}
use mir.Syntax.{a_type, dcons, dnil}
use mir.Val.{vint, of_z}
use types.Kit.{‵, raw, ◌⊛◌, ◌$◌, ◌∵◌, !, qed, done, move, keep, split, join, suffices}
use types.Part.{agg}
use types.Run.{enter, lit, no_more, and_then, returns}
use types.ByLocal.{alloc_all, pass_all, free_all, look_at, get, sets}
use denote.Builtin.{i64}
use denote.Exit.{yes}
use denote.Param.{param, bounded}
use denote.RattleType.{RattleType}
use denote.RawPtr.{null_ptr}
use denote.Signature.{plain}
use denote.Signed.{sint_vals, sint_Tells, sint_Lawful}
use denote.Steps.{nothing}
use denote.Triple.Walked.{says, Stays, stay_dropped, walk_of, Goes-dropped, ends_at}
use Rattle.std.specs.Prelude.{None, ℤ}
use Rattle.ymx_c.proofs.Handing.{made_in, word}
use Rattle.ymx_c.specs.contracts.made.Made.refused as f
use Rattle.ymx_c.specs.contracts.made.Made.refused.Key.{name as #self}
use Rattle.ymx_c.proofs.made.Made.refused.Statement.{statement}
use Rattle.ymx_c.proofs.made.Made.refused.Code as code

pub refused_spec : {M : Type 1} → statement M
refused_spec 𝓤 𝓛 𝓜 𝓡 wired T L dx glued =
    let H = 𝓛.H in let 𝓣 = tables 𝓤 H 𝓜 𝓡 𝓡.env in let R : RattleType = param 0 T in
    let En = f.ended T dx in let c = f.clauses T dx 𝓛 𝓜.mem 𝓡.returns in
    let inst = bounded (a_type ∷ []) (T, tt) (dcons dx dnil) in let fn = inst_fn inst code.function in
    let hs : Stays En.signature.params En.kept = (stay_dropped (plain (λ _. i64)) yes, tt) in
    proved 𝓛 En hs c 𝓜 𝓡 (Goes-dropped 𝓛 1 (plain (λ _. i64)) yes (λ κs x w. refl), tt) (#self inst) fn (code.unfolded 𝓤 H 𝓜 𝓡 wired (T, tt) dx)
    (λ κs. (sint_vals w64, tt)) (λ κs. (sint_Tells w64, tt)) (λ κs qs bounds a g are.
    let n : ℤ = a.0 in let v = vint w64 (of_z w64 n) in let toks = ‵ (flft κs.0 qs.0) ⊛ ‵ ftrue in
    let y : (walk_of 𝓛 En hs c).Ghost = ((κs, qs, bounds, a, (v ∷ [], tt)), g) in let typed = ((sint_Lawful 𝓛 w64).typed n _ are.0).0 in
    qed 𝓛 ((toks ⊛ (‵ (i64.own_val n (v ∷ [])) ⊛ ‵ ftrue)) ∷ raw ((c κs a).requires g) ∷ []) ∵
    split ! $ move ! (1 ∷ []) $ split ! $ keep ! (0 ∷ 2 ∷ []) $
    enter ! _ _ _ _ _ $ alloc_all ! (λ l. pass_all ! refl (typed, tt) $
    sets ! (agg ! (and_then ! (lit ! tt) (and_then ! (get ! refl) (no_more !)))) refl (tt, (record { fits = lit< tt }, (typed.1, tt))) $
    returns ! (look_at ! 0 refl) $ free_all ! refl $
    nothing ! $ made_in R ! null_ptr n None v $
    suffices ! _ (ends_at 𝓛 En hs c y (word null_ptr v) (record { at = null_ptr; answer = n; value = None }) (tt, tt) (tt, tt)) $ says ! (refl, refl, refl) $
    nothing ! $ nothing ! $ join ! $ move ! (2 ∷ 0 ∷ 1 ∷ []) $ done !))
