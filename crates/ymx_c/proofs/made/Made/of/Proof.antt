-- `of` takes the box apart: the block, with the right to free it, is the `Made`'s.
use Rattle.std.proofs.Common.{List, [], ◌∷◌, ◌++◌, refl, sym, subst, ap, ◌∙◌, w64, lit<}
use Rattle.std.proofs.raw_atomic.Walks.{proved_at}
use base.Fraction.{full_share}
use base.Logic.{SProp, ent, emp, never, fst∗, id⊢}
use base.Fml.{ftrue, fsep, flft}
use contract.BorrowLft.{◌⊑◌}
use contract.Monad.{fact, fact_i}
use contract.Running.{tables}
use mir.MapTy.{inst_fn}
use mir.Raw.{raw as bare}
use mir.Syntax.{impl, tcons, tnil, a_type, dcons, dnil}
use mir.Val.{Val, vint}
use prog.Wp.{WpFn}
use types.Kit.{‵, raw, ◌⊛◌, some, later, ◌$◌, ◌∵◌, !, qed, done, move, keep, drop, split, split3, fsplit, fjoin, join, suffices, use0, use1, pick, await, feq_l}
use types.Logic.{sem}
use types.Part.{agg}
use types.Run.{enter, lit, of_opd, no_more, and_then, returns}
use types.ByLocal.{alloc_all, pass_all, free_all, look_at, get, sets, lands_as}
use denote.Builtin.{i64}
use denote.Exit.{no}
use denote.Param.{param, bounded, layout, arg}
use denote.Param.Laws.{arg_laws}
use denote.Param.NoDrop.{glues}
use denote.RattleType.{RattleType, owns}
use denote.RawPtr.{Ptr, RawPtr, block_ptr, null_ptr, ptr_val, in_a_block}
use denote.Signature.{types_at, plain}
use denote.Signed.{sint_Makes}
use denote.Steps.{nothing, heard, owned, only}
use denote.Triple.Call.{calls_at}
use denote.Triple.Spec.{triple_of}
use denote.Triple.Table.{framed}
use denote.Triple.Walked.{says, Stays, stay_dropped, walk_of, ends_at}
use Rattle.std.specs.Prelude.{Some, pos}
use Rattle.std.below.core.proofs.alloc.Calls.{Goes-blank}
use Rattle.std.specs.Box.Ownership.{box_owns}
use Rattle.libc.specs.Heap.{chunk}
use Rattle.std.specs.contracts.alloc.Global as heap
use Rattle.std.proofs.alloc.Global.TheLaws as heap_laws
use Rattle.std.specs.contracts.impls.GlobalAllocator.TheImpl.{ghosts, dict}
use Rattle.std.proofs.impls.GlobalAllocator.TheImpl.Met as heap_met
use Rattle.std_alloc.proofs.BoxSteps.Form as box
use Rattle.std_alloc.proofs.BoxSteps.Steps.{box_out, box_in}
use Rattle.std_alloc.specs.contracts.boxed.Box as Boxed
use Rattle.std_alloc.specs.contracts.boxed.Box.into_raw as g
use Rattle.std_alloc.proofs.boxed.Box.into_raw.Met.{met}
use Rattle.ymx_c.proofs.Handing.{made_in, word}
use Rattle.ymx_c.specs.contracts.made.Made.of as f
use Rattle.ymx_c.specs.contracts.made.Made.of.Key.{name as #self}
use Rattle.ymx_c.proofs.made.Made.of.Statement.{statement}
use Rattle.ymx_c.proofs.made.Made.of.Code as code

pub of_spec : {M : Type 1} → statement M
unfolding Rattle.ymx_c.proofs.Destruct++none.drop.Code.code
of_spec {M} 𝓤 𝓛 𝓜 𝓡 wired T L dx glued =
    let H = 𝓛.H in let 𝓣 = tables 𝓤 H 𝓜 𝓡 𝓡.env in let R : RattleType = param 0 T in let Z : RattleType = arg (bare (layout heap.the_row)) no heap.the_row in let LZ = arg_laws (bare (layout heap.the_row)) no heap.the_row heap_laws.the_row_laws refl in
    let dd = impl ("ymx_c::Destruct++none::drop" ∷ []) (tcons (layout Z) tnil) dnil in
    let E : box.Bx = record { row = T; laws = L; al = record { row = Z; laws = LZ; g = ghosts; d = dict; drops = dd } } in
    let En = f.ended T dx in let c = f.clauses T dx 𝓛 𝓜.mem 𝓡.returns in
    let inst = bounded (a_type ∷ []) (T, tt) (dcons dx dnil) in let fn = inst_fn inst code.function in
    let G = triple_of 𝓛 (g.signature T Z ghosts dict dd dx) (g.spec T Z ghosts dict dd dx 𝓛 𝓜.mem 𝓡.returns) in
    let known = met 𝓤 𝓛 𝓜 𝓡 (code.calls-std_alloc::boxed::Box::into_raw 𝓡.env wired) T Z L LZ ghosts dict dd dx
    (heap_met.passed 𝓡.env (code.calls-std_heap::GlobalAllocator::allocate 𝓡.env wired) (code.calls-std_heap::GlobalAllocator::deallocate 𝓡.env wired) (code.calls-std_heap::GlobalAllocator::grow 𝓡.env wired) (code.calls-std_heap::GlobalAllocator::shrink 𝓡.env wired) M 𝓤 𝓛 𝓜 𝓡)
    (glues "ymx_c::Destruct++none::drop" 𝓡.env (code.calls-ymx_c::Destruct++none::drop 𝓡.env wired) Z LZ M 𝓤 𝓛 𝓜 𝓡) glued in
    let hs : Stays En.signature.params En.kept = (stay_dropped (plain (λ _. Boxed.the_row R heap.the_row ghosts)) no, tt) in
    proved_at 𝓛 En hs c 𝓜 𝓡 (Goes-blank 𝓛 1 (plain (λ _. Boxed.the_row R heap.the_row ghosts)) no (λ κs x f. tt), tt) (#self inst) fn (code.unfolded 𝓤 H 𝓜 𝓡 wired (T, tt) dx) (λ z are.
    let κ = z.0.0.0 in let q = z.0.1.0 in let whole = z.0.3.0 in let inT = κ ⊑ T.lives in let inZ = [] ⊑ Z.lives in
    let toks = ‵ (flft κ q) ⊛ ‵ (flft [] full_share) ⊛ ‵ ftrue in
    let Run : List Val → SProp 𝓤 = λ vs. WpFn 𝓤 H 𝓣.C 𝓣.Λ fn vs ((walk_of 𝓛 En hs c).post z) in
    qed 𝓛 (((‵ (flft κ q) ⊛ ‵ ftrue) ⊛ ‵ (owns (types_at En.signature.params z.0.0) z.0.3 z.0.4)) ∷ raw (fact 𝓤 inT) ∷ ‵ ftrue ∷ []) ∵
    move ! (1 ∷ []) $ heard ! inT (λ leT. split ! $ split ! $ move ! (2 ∷ []) $ fsplit ! $ box_out E ! whole z.0.4.0 (λ b o hv e ws fits. box_in E ! whole b o whole.value e refl $ keep ! (0 ∷ 2 ∷ []) $
    -- [the box; the token]
    let w = box.word E hv b o in let typed = box.box_typed E hv b o fits in
    let y : G.Ghost = (((κ, ([], tt)), (q, (full_share, tt)), tt, (whole, tt), (w ∷ [], tt)), tt) in
    nothing ! $ move ! (1 ∷ 0 ∷ []) $ fjoin ! $ nothing ! $ use0 𝓛 (‵ (flft [] full_share)) (𝓛.lfts.lft-nil full_share) $ join ! $ move ! (2 ∷ 0 ∷ []) $ join ! $ join ! $
    nothing ! $ use0 𝓛 (raw (fact 𝓤 inZ)) (fact_i 𝓤 inZ (emp 𝓤) (heap_laws.the_within [])) $ join ! $ use0 𝓛 (raw (fact 𝓤 inT)) (fact_i 𝓤 inT (emp 𝓤) leT) $ join ! $ move ! (1 ∷ 0 ∷ []) $ join ! $ use1 𝓛 (raw (G.pre y)) (id⊢ 𝓤 _) $
    suffices ! (Run (w ∷ [])) (subst (λ (us : List Val). ent 𝓤 (Run (w ∷ [])) (Run us)) (sym (λ i. ws i ++ [])) (id⊢ 𝓤 (Run (w ∷ [])))) $
    enter ! 𝓣.C 𝓣.Λ fn (w ∷ []) _ $ alloc_all ! (λ l. pass_all ! refl (typed, tt) $ sets ! (of_opd ! (get ! refl)) refl typed $
    calls_at ! (framed 𝓤 H 𝓜 𝓣) G known y (and_then ! (get ! refl) (no_more !)) (λ u.
    use1 𝓛 (later (some (λ (r : Ptr). (toks ⊛ ‵ (RawPtr.own_val r (u ∷ []))) ⊛ some (λ (_ : (Unit {0} × (Unit {0} × Unit {0})) × Unit {0}). ‵ (fsep (fsep ftrue (fsep ftrue ftrue)) ftrue) ⊛ ‵ (box_owns chunk R r whole.value))))) (id⊢ 𝓤 _) $
    await ! tt $ pick ! (λ r. split ! $ move ! (1 ∷ []) $ pick ! (λ _. split ! $ drop ! $
    in_a_block ! r (λ p. box_owns chunk R p whole.value) (fst∗ 𝓤 (never 𝓤) (sem 𝓛 (chunk (bare (layout T)) null_ptr))) (λ b' o' at.
    move ! (1 ∷ []) $ split ! $ move ! (1 ∷ []) $ feq_l ! (λ is. lands_as ! (ap only is ∙ ap ptr_val at) refl (tt, tt) $
    sets ! (agg ! (and_then ! (get ! refl) (and_then ! (lit ! tt) (no_more !)))) refl (tt, (tt, (record { fits = lit< tt }, tt))) $
    owned ! i64 _ (sint_Makes 𝓛 w64) (pos 0) _ (refl, lit< tt) $ move ! (2 ∷ 0 ∷ []) $ made_in R ! (block_ptr b' o') (pos 0) (Some whole.value) (vint w64 0) $
    returns ! (look_at ! 0 refl) $ free_all ! refl $ move ! (1 ∷ []) $ split3 ! $ keep ! (0 ∷ 2 ∷ 3 ∷ []) $
    suffices ! _ (ends_at 𝓛 En hs c z (word (block_ptr b' o') (vint w64 0)) (record { at = block_ptr b' o'; answer = pos 0; value = Some whole.value }) (tt, tt) (tt, tt)) $ says ! (refl, (b', o', refl), refl) $
    join ! $ nothing ! $ nothing ! $ join ! $ move ! (1 ∷ 0 ∷ []) $ done !)))))))))
