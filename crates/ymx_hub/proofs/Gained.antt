-- The log and a seat's list gain the same entries.
use Rattle.std.proofs.Common.{◌≡◌, ℕ, List, [], ◌++◌, ◌==◌, Bool, true, false, if◌then◌else◌, refl, sym, ap, ◌∙◌, append-nil, append_assoc}
use Rattle.ymx_model.specs.declared.types.Entry.{Entry}
use Rattle.ymx_hub.specs.Booked.{BookedView, is_half_spent, spent}
use Rattle.ymx_hub.specs.Gained.{GainedAlike}

-- both stay
pub gained_none : (log log' list list' : List Entry) → log' ≡ log → list' ≡ list → GainedAlike log log' list list'
gained_none log log' list list' e f = record { added = []; logged = e ∙ sym (append-nil log); listed = f ∙ sym (append-nil list) }

-- both stay, and then the same is added
pub gained_one : (log kept log' list held list' added : List Entry) → kept ≡ log → log' ≡ kept ++ added → held ≡ list → list' ≡ held ++ added → GainedAlike log log' list list'
gained_one log kept log' list held list' added k e h f = record {
  added = added;
  logged = e ∙ ap (λ (v : List Entry). v ++ added) k;
  listed = f ∙ ap (λ (v : List Entry). v ++ added) h;
}

-- twice
pub gained_on : (log log' log'' list list' list'' : List Entry) → GainedAlike log log' list list' → GainedAlike log' log'' list' list'' → GainedAlike log log'' list list''
gained_on log log' log'' list list' list'' g h = record {
  added = g.added ++ h.added;
  logged = h.logged ∙ ap (λ (v : List Entry). v ++ h.added) g.logged ∙ append_assoc log g.added h.added;
  listed = h.listed ∙ ap (λ (v : List Entry). v ++ h.added) g.listed ∙ append_assoc list g.added h.added;
}

either : (b : Bool) (es : List Entry) (h k : BookedView) → h.entries ≡ es → k.entries ≡ es → (if b then h else k).entries ≡ es
either true es h k e f = e
either false es h k e f = f

-- a half that is spent adds nothing
pub spent_adds_none : (id : ℕ) (old new : BookedView) → spent id old ≡ new → new.entries ≡ old.entries
spent_adds_none id old new e =
    ap (λ (h : BookedView). h.entries) (sym e) ∙ either (is_half_spent id old) old.entries _ _ refl (either (old.unspent == 0) old.entries _ _ refl refl)
