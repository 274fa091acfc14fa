-- How an export calls its namesake: what lies at the pointer is lent for a lifetime made for the call, and comes back. Assumes `Logic`.
use Rattle.std.proofs.Common.{◌≡◌, ℕ, ℤ, List, [], ◌∷◌, refl, subst}
use seplogic.Ra.Ura.{Ura}
use base.Fraction.{full_share}
use base.Logic.{SProp, ent, emp, ex, id⊢, sep}
use base.Fml.{Fml, GName, ftrue, fsep, flft, flent, fres, fbor}
use mir.Syntax.{named, Callee, Place, Opd as Operand, Body as Code, seq, call}
use mir.Val.{Val, vptr}
use contract.Lifetimes.{Lfts, Shares, toks}
use contract.Monad.{fact, fact_i, Fun}
use prog.Wp.{Env, Calls, Loops}
use sound.WpLaws.{FmC}
use types.Logic.{Logic, sem}
use types.Kit.{Item, Seq, Post, ‵, raw, ◌⊛◌, some, later, prop, runs, lands, ◌$◌, ◌∵◌, !, qed, by, done, move, keep, use0, use1, use2, use3, split, join, fsplit, fjoin, pick, await, frame, group, updating, now as at_once, regoal, suffices, show}
use types.Tokens.{lft_new, lft_end}
use types.SemTy.{Body}
use types.Run.{Opds}
use denote.Builtin.{i64}
use denote.Exit.{left}
use denote.Laws.{Is, shows}
use denote.Lend.{lends_ref, ref_back}
use denote.Memory.{part_at, mem}
use denote.RattleType.{RattleType, Denots, Valss, owns}
use denote.RawPtr.{Ptr, RawPtr, block_ptr, lies_at, in_a_block, rawptr_vals}
use denote.Ref.{MutRef}
use denote.Signature.{Slot, types_at}
use denote.Steps.{nothing, peeks, heard}
use denote.Triple.Call.{calls_from}
use denote.Triple.End.{Kepts, Fins, lasts_of}
use denote.Triple.Statement.{Contract, Triple, FmF}
use denote.Triple.Table.{Enters}
use denote.Triple.Walked.{says, Stays, AllGo}

-- of each parameter an export has at exit what its contract says of it, and no more
abbrev pub all_left : {n : ℕ} (ss : List (Slot n)) (ks : Kepts ss) → Stays ss ks
all_left [] ks = tt
all_left (s ∷ ss) ks = (record { fit = λ κs x f. Unit {0}; has = λ κs x f vs. left ((s.row κs).exit ks.0) x f }, all_left ss ks.1)

pub all_go : {M : Type 1} {𝓤 : Ura M} (𝓛 : Logic 𝓤) (n : ℕ) (ss : List (Slot n)) (ks : Kepts ss) → AllGo 𝓛 n ss ks (all_left ss ks)
all_go 𝓛 n [] ks = tt
all_go 𝓛 n (s ∷ ss) ks = ((λ κs x f vs ok. 𝓛.laws.⇛_intro _), all_go 𝓛 n ss ks.1)

-- The value x of R lies at a pointer; the other parameters are `others`, with the machine values vs. `Says` is what the callee's
-- contract says of its answer, of what lies there then, and of the others' last values.
module _ {M : Type 1} {𝓤 : Ura M} (𝓛 : Logic 𝓤) (R : RattleType) (x : R.Denot) (n : ℕ) (ss : List (Slot n)) (ks : Kepts ss) (κs : Lfts n) (qs : Shares n) (others : Denots (types_at ss κs)) (vs : Valss (types_at ss κs)) where
  open 𝓛 use {H}

  abbrev T : SProp 𝓤
  T = toks 𝓛 n κs qs

  abbrev O : Fml
  O = owns (types_at ss κs) others vs

  abbrev W : Type 0
  W = Fins κs ss ks others

  abbrev L : W → Fml
  L w = lasts_of κs ss ks others w

  -- what an export has once it knows that its pointer isn't NULL
  abbrev pub held : ℕ → ℕ → Item 𝓤
  held b o = ‵ (part_at R full_share x b o) ⊛ (raw T ⊛ ‵ O)

  pub at_block : (p : Ptr) (F : Ptr → SProp 𝓤) → ((b o : ℕ) → ent 𝓤 (sep 𝓤 (sem 𝓛 (part_at R full_share x b o)) (sep 𝓤 T (sem 𝓛 O))) (F (block_ptr b o)))
      → ent 𝓤 (sep 𝓤 (sep 𝓤 T (sem 𝓛 (fsep (RawPtr.own_val p (rawptr_vals p)) O))) (sem 𝓛 (lies_at R full_share p x))) (F p)
  at_block p F k =
      qed 𝓛 ((raw T ⊛ ‵ (fsep (RawPtr.own_val p (rawptr_vals p)) O)) ∷ ‵ (lies_at R full_share p x) ∷ []) ∵ split ! $ move ! (2 ∷ []) $
      in_a_block ! p (λ q. lies_at R full_share q x) (id⊢ 𝓤 _) (λ b o e. regoal ! (λ q. prop (F q)) e refl $ move ! (2 ∷ []) $ fsplit ! $ keep ! (2 ∷ 3 ∷ 1 ∷ []) $ by ! (k b o))

  module _ (Says : ℤ → R.Denot → W → Type 0) (b o : ℕ) where
    abbrev reference : ℕ → GName → Fml
    reference α δ = (MutRef (named 0) (α ∷ []) R).own_val (record { ref_ptr = (b, o); ghost_name = δ; now = x }) (vptr b o ∷ [])

    abbrev loan : ℕ → GName → Fml
    loan α δ = flent (α ∷ []) (Body (mem R) b o δ)

    -- what the callee is handed, and what it gives
    abbrev pub Brought : ℕ → GName → SProp 𝓤
    Brought α δ = sep 𝓤 (sep 𝓤 (sep 𝓤 (sem 𝓛 (flft (α ∷ []) full_share)) T) (sem 𝓛 (fsep (reference α δ) O))) (emp 𝓤)

    abbrev last : ℕ → GName → R.Denot × W → Fml
    last α δ ws = fsep (fsep (fres δ (R.coded.code ws.0)) (fbor (α ∷ []) (Body (mem R) b o δ))) (L ws.1)

    abbrev pub Given : ℕ → GName → Val → SProp 𝓤
    Given α δ v = ex 𝓤 (λ (u : ℤ). sep 𝓤 (sep 𝓤 (sep 𝓤 (sem 𝓛 (flft (α ∷ []) full_share)) T) (sem 𝓛 (i64.own_val u (v ∷ [])))) (ex 𝓤 (λ (ws : R.Denot × W). sep 𝓤 (sem 𝓛 (last α δ ws)) (fact 𝓤 (Says u ws.0 ws.1)))))

    -- what an export owes at its end
    abbrev There : ℤ → W → R.Denot → SProp 𝓤
    There u w m = sep 𝓤 (sem 𝓛 (lies_at R full_share (block_ptr b o) m)) (fact 𝓤 (Says u m w))

    abbrev pub Owed : Val → ℤ → W → SProp 𝓤
    Owed v u w = sep 𝓤 (sep 𝓤 T (sep 𝓤 (sem 𝓛 (fsep ftrue (L w))) (sem 𝓛 (i64.own_val u (v ∷ []))))) (ex 𝓤 (There u w))

    abbrev Ends : Val → ℤ → W → SProp 𝓤
    Ends v u w = sep 𝓤 (fact 𝓤 (Is i64 u (v ∷ []))) (Owed v u w)

    comes_back : (α : ℕ) (δ : GName) (v : Val) (P : SProp 𝓤) → ent 𝓤 P (H.⇛ (Given α δ v)) → ent 𝓤 (sep 𝓤 P (sem 𝓛 (loan α δ))) (H.⇛ (ex 𝓤 (λ (u : ℤ). ex 𝓤 (Ends v u))))
    comes_back α δ v P gives =
        qed 𝓛 (raw P ∷ ‵ (loan α δ) ∷ []) ∵ updating ! $
        use1 𝓛 (later (some (λ (u : ℤ). ((‵ (flft (α ∷ []) full_share) ⊛ raw T) ⊛ ‵ (i64.own_val u (v ∷ []))) ⊛ some (λ (ws : R.Denot × W). ‵ (last α δ ws) ⊛ raw (fact 𝓤 (Says u ws.0 ws.1)))))) gives $
        await ! tt $ pick ! (λ u. split ! $ split ! $ split ! $ lft_end ! tt $ move ! (3 ∷ []) $ pick ! (λ ws. split ! $ fsplit ! $ fsplit ! $
        -- [its last value; the borrow; the others' last; what is said; the end of α; the tokens; the answer; the loan]
        move ! (4 ∷ 7 ∷ 0 ∷ []) $ use3 𝓛 (later (‵ (part_at R full_share ws.0 b o))) (ref_back 𝓛 R (α ∷ []) δ ws.0 b o) $ await ! tt $ at_once ! $
        -- [it lies there; the borrow; the others' last; what is said; the tokens; the answer]
        move ! (5 ∷ []) $ peeks ! i64 (Is i64) (shows 𝓛 i64) u (v ∷ []) (λ is. show ! (λ (u' : ℤ). ex 𝓤 (Ends v u')) u $ show ! (Ends v u) ws.1 $
        move ! (4 ∷ []) $ heard ! (Says u ws.0 ws.1) (λ so.
        use0 𝓛 (raw (fact 𝓤 (Is i64 u (v ∷ [])))) (fact_i 𝓤 (Is i64 u (v ∷ [])) (emp 𝓤) is) $ frame ! $
        -- [the answer; it lies there; the borrow; the others' last; the tokens]
        move ! (3 ∷ []) $ nothing ! $ fjoin ! $ keep ! (4 ∷ 0 ∷ 1 ∷ 2 ∷ []) $ group ! 3 $ frame ! $ show ! (There u ws.1) ws.0 $ says ! so $ done !))))

    lends : (run : Fun 𝓤) → FmF 𝓤 run → Enters 𝓤 H run → (us : List Val) (c : Contract 𝓤) → Triple 𝓤 run c → (z : ℕ → GName → c.Ghost)
        → ((α : ℕ) (δ : GName) → c.args (z α δ) ≡ vptr b o ∷ us) → ((α : ℕ) (δ : GName) → ent 𝓤 (Brought α δ) (c.pre (z α δ))) → ((α : ℕ) (δ : GName) (v : Val) → ent 𝓤 (c.post (z α δ) v) (H.⇛ (Given α δ v)))
        → ent 𝓤 (sep 𝓤 (sem 𝓛 (part_at R full_share x b o)) (sep 𝓤 T (sem 𝓛 O))) (run (vptr b o ∷ us) (λ v. H.⇛ (ex 𝓤 (λ (u : ℤ). ex 𝓤 (Ends v u)))))
    lends run fm enters us c met z args brings gives =
        let K : Val → SProp 𝓤 = λ v. H.⇛ (ex 𝓤 (λ (u : ℤ). ex 𝓤 (Ends v u))) in
        qed 𝓛 (‵ (part_at R full_share x b o) ∷ (raw T ⊛ ‵ O) ∷ []) ∵ suffices ! (H.⇛ (run (vptr b o ∷ us) K)) (enters (vptr b o ∷ us) K) $ updating ! $
        lft_new ! tt (λ α. move ! (1 ∷ []) $
        use1 𝓛 (later (some (λ (δ : GName). ‵ (reference α δ) ⊛ ‵ (loan α δ)))) (lends_ref 𝓛 R (named 0) (α ∷ []) x b o) $ await ! tt $ pick ! (λ δ. split ! $ at_once ! $
        suffices ! (sep 𝓤 (run (vptr b o ∷ us) (c.post (z α δ))) (sem 𝓛 (loan α δ))) (fm (vptr b o ∷ us) (c.post (z α δ)) K (sem 𝓛 (loan α δ)) (λ v. comes_back α δ v (c.post (z α δ) v) (gives α δ v))) $
        move ! (3 ∷ []) $ split ! $ move ! (2 ∷ 1 ∷ []) $ fjoin ! $ move ! (3 ∷ 1 ∷ []) $ join ! $ join ! $ nothing ! $ move ! (1 ∷ 0 ∷ []) $ use2 𝓛 (raw (c.pre (z α δ))) (brings α δ) $
        use1 𝓛 (raw (run (vptr b o ∷ us) (c.post (z α δ)))) (subst (λ (ns : List Val). ent 𝓤 (c.pre (z α δ)) (run ns (c.post (z α δ)))) (args α δ) (met (z α δ))) $ done !))

    -- the call itself, in a walk
    module _ {K : Type 0} {Γ : List (Item 𝓤)} {E : Env 𝓤 H} {C : Calls 𝓤 H} {Λ : Loops 𝓤 H} {q : Post 𝓤 H} {d : Place} {f : Callee} {xs : List Operand} {rest : Code} where
      pub calls_lent : K → FmC 𝓤 H 𝓛.laws C → Enters 𝓤 H (C f) → (us : List Val) (c : Contract 𝓤) → Triple 𝓤 (C f) c → (z : ℕ → GName → c.Ghost)
          → ((α : ℕ) (δ : GName) → c.args (z α δ) ≡ vptr b o ∷ us) → ((α : ℕ) (δ : GName) → ent 𝓤 (Brought α δ) (c.pre (z α δ))) → ((α : ℕ) (δ : GName) (v : Val) → ent 𝓤 (c.post (z α δ) v) (H.⇛ (Given α δ v)))
          → Opds K 𝓛 (held b o ∷ Γ) E xs (vptr b o ∷ us) → ((v : Val) (u : ℤ) (w : W) → Is i64 u (v ∷ []) → Seq K 𝓛 (raw (Owed v u w) ∷ Γ) (lands C Λ E d v rest q)) → Seq K 𝓛 (held b o ∷ Γ) (runs C Λ E (seq (call f xs d) rest) q)
      calls_lent t fm enters us c met z args brings gives os k =
          calls_from t fm (held b o) (vptr b o ∷ us) (λ v. H.⇛ (ex 𝓤 (λ (u : ℤ). ex 𝓤 (Ends v u)))) (lends (C f) (fm f) enters us c met z args brings gives) os (λ v.
          use1 𝓛 (later (some (λ (u : ℤ). some (λ (w : W). raw (fact 𝓤 (Is i64 u (v ∷ []))) ⊛ raw (Owed v u w))))) (id⊢ 𝓤 _) $ await t tt $ pick t (λ u. pick t (λ w. split t $ heard t (Is i64 u (v ∷ [])) (λ is. k v u w is))))
