-- `ymx_core_touched_new` meets its contract: what `face::make_touched` made is taken apart, and its address is written.
use Rattle.std.proofs.Common.{◌⊎◌, List, [], ◌∷◌, refl, ap, w64}
use Rattle.std.proofs.raw_atomic.Walks.{proved}
use Rattle.std.proofs.alloc.Global.TheLaws as heap_laws
use Rattle.std.specs.contracts.alloc.Global as heap
use base.Logic.{emp, id⊢}
use base.Fml.{Fml, ftrue, flft}
use mir.Syntax.{named}
use mir.Val.{Val, of_z}
use contract.Monad.{fact, fact_i}
use contract.Running.{tables}
use types.Kit.{‵, raw, ◌⊛◌, some, later, ◌$◌, ◌∵◌, !, qed, done, move, keep, drop, use0, use1, use2, split, join, pick, await, rewrite, suffices, group}
use types.Part.{sub, whole}
use types.Run.{enter, of_opd, fld, stop, no_more, and_then, returns}
use types.ByLocal.{alloc_all, pass_all, free_all, look_at, get, get_in, through, sets, lands_as}
use denote.Exit.{yes}
use denote.RawPtr.{RawPtr, ptr_val, rawptr_Lawful}
use denote.Ref.{MutRef, mut_vals, mut_Tells}
use denote.Signature.{plain}
use denote.Signed.{sint_Lawful}
use denote.Steps.{nothing, heard, only}
use denote.Struct.Laws.{val, tells}
use denote.Triple.Call.{calls_at}
use denote.Triple.Clauses.{lasts}
use denote.Triple.Spec.{triple_of}
use denote.Triple.Table.{framed}
use denote.Triple.Walked.{Stays, stay_dropped, Goes-dropped, stay_ref, Goes-ref, walk_of, ends_at}
use Rattle.std.specs.Prelude.{false}
use Rattle.ymx_session.specs.contracts.touched.Touched.{the_row}
use Rattle.ymx_session.specs.Touched.{nothing_noted}
use Rattle.ymx_c.specs.NewAnswers.{IsNoteMade, IsNoNote}
use Rattle.ymx_c.proofs.Handing.{made_out, made_typed, number, writes, Told, said, settled}
use Rattle.ymx_c.specs.contracts.made.Made as made
use Rattle.ymx_c.specs.contracts.ymx_core_touched_new as f
use Rattle.ymx_c.proofs.ymx_core_touched_new.Statement.{statement}
use Rattle.ymx_c.proofs.ymx_core_touched_new.Code as code
use Rattle.ymx_c.specs.contracts.face.make_touched as g
use Rattle.ymx_c.proofs.face.make_touched.Met.{met}

abbrev stayed : Stays f.ended.signature.params f.ended.kept
stayed = (stay_dropped _ yes, (stay_ref (0 ∷ []) tt (plain (λ _. RawPtr)), tt))

abbrev spelled : (heap.the_row).Denot → List Val
spelled a = val heap.the_type heap_laws.the_laws a ∷ []

pub ymx_core_touched_new_spec : {M : Type 1} → statement M
ymx_core_touched_new_spec 𝓤 𝓛 𝓜 𝓡 wired =
    let c = f.clauses 𝓛 𝓜.mem 𝓡.returns in let 𝓣 = tables 𝓤 𝓛.H 𝓜 𝓡 𝓡.env in
    proved 𝓛 f.ended stayed c 𝓜 𝓡 (Goes-dropped 𝓛 1 (plain (λ _. heap.the_row)) yes (λ κs x w. refl), (Goes-ref 𝓛 1 0 tt (plain (λ _. RawPtr)), tt))
    f.Key.name code.function (code.unfolded 𝓤 𝓛.H 𝓜 𝓡 wired)
    (λ κs. (spelled, (mut_vals, tt)))
    (λ κs. (tells heap.the_type heap_laws.the_laws, (mut_Tells (named 0) κs.0 RawPtr, tt)))
    (λ κs qs bounds a x are.
    let κ = κs.0 in let q = qs.0 in let r = a.1.0 in let b = r.ref_ptr.0 in let o = r.ref_ptr.1 in
    let y : (walk_of 𝓛 f.ended stayed c).Ghost = ((κs, qs, bounds, a, (spelled a.0, (mut_vals r, tt))), x) in
    qed 𝓛 (((‵ (flft κ q) ⊛ ‵ ftrue) ⊛ (‵ ((heap.the_row).own_val a.0 (spelled a.0)) ⊛ ‵ ((MutRef (named 0) κ RawPtr).own_val r (mut_vals r)) ⊛ ‵ ftrue)) ∷ ‵ ftrue ∷ []) ∵
    split ! $ split ! $ move ! (2 ∷ []) $ split ! $ move ! (1 ∷ []) $ split ! $
    -- [the reference; nothing; the allocator; the token; nothing]
    let G = triple_of 𝓛 g.signature (g.spec 𝓛 𝓜.mem 𝓡.returns) in
    let z : G.Ghost = ((tt, tt, tt, (a.0, tt), (spelled a.0, tt)), tt) in
    nothing ! $ move ! (3 ∷ 0 ∷ []) $ join ! $ nothing ! $ join ! $ nothing ! $ move ! (1 ∷ 0 ∷ []) $ use2 𝓛 (raw (G.pre z)) (id⊢ 𝓤 _) $
    enter ! _ _ _ _ _ $ alloc_all ! (λ l. pass_all ! refl (((heap_laws.the_row_laws.lawful 𝓛).typed a.0 _ are.0).0, ((tt, tt), tt)) $
    calls_at ! (framed 𝓤 𝓛.H 𝓜 𝓣) G (met 𝓤 𝓛 𝓜 𝓡 (code.calls-ymx_c::face::make_touched 𝓡.env wired)) z (and_then ! (get ! refl) (no_more !)) (λ v.
    use1 𝓛 (later (some (λ (m : (made.the_row the_row).Denot). (‵ ftrue ⊛ ‵ ((made.the_row the_row).own_val m (v ∷ []))) ⊛ some (λ (ws : Unit {0} × Unit {0}). ‵ (lasts g.ended z.0.0 z.0.3 ws) ⊛ raw (fact 𝓤 (Told the_row IsNoteMade IsNoNote (nothing_noted false) m)))))) (id⊢ 𝓤 _) $
    await ! tt $ pick ! (λ m. split ! $ split ! $ drop ! $ move ! (1 ∷ []) $ pick ! (λ ws. split ! $ drop ! $ heard ! (Told the_row IsNoteMade IsNoNote (nothing_noted false) m) (λ told. made_out the_row ! m (v ∷ []) (λ is e.
    let typed = ((sint_Lawful 𝓛 w64).typed m.answer _ is).0 in let pointer = ((rawptr_Lawful 𝓛).typed m.at (ptr_val m.at ∷ []) refl).0 in
    lands_as ! (ap only e) refl (made_typed the_row m.at (of_z w64 m.answer) typed.1) $
    sets ! (of_opd ! (get_in ! (fld ! refl (stop !)) (sub ! 0 refl (whole !)))) refl pointer $ sets ! (of_opd ! (get_in ! (fld ! refl (stop !)) (sub ! 1 refl (whole !)))) refl typed $ sets ! (of_opd ! (get ! refl)) refl pointer $
    move ! (2 ∷ 4 ∷ []) $ writes ! r m.at (of_opd ! (get ! refl)) (through ! refl (stop !)) $ sets ! (of_opd ! (get ! refl)) refl typed $
    returns ! (look_at ! 0 refl) $ free_all ! refl $ keep ! (0 ∷ 1 ∷ 2 ∷ 3 ∷ []) $
    suffices ! _ (ends_at 𝓛 f.ended stayed c y (number m.answer) m.answer (tt, (m.at, tt)) (tt, (tt, tt))) $
    nothing ! $ move ! (1 ∷ 0 ∷ []) $ join ! $ nothing ! $ join ! $ nothing ! $ move ! (2 ∷ 0 ∷ []) $ join ! $ group ! 3 $
    move ! (1 ∷ []) $ rewrite ! 0 (λ (F : Fml). ‵ F) (settled the_row IsNoteMade IsNoNote (nothing_noted false) m (λ is. is.1) (λ is. is.1) told) refl $
    use0 𝓛 (raw (fact 𝓤 (IsNoteMade m.answer m.at ⊎ IsNoNote m.answer m.at))) (fact_i 𝓤 (IsNoteMade m.answer m.at ⊎ IsNoNote m.answer m.at) (emp 𝓤) (said the_row IsNoteMade IsNoNote (nothing_noted false) m told)) $ move ! (2 ∷ 0 ∷ 1 ∷ []) $ done !)))))))
