-- A change of one record (this project's own).
use Rattle.std.specs.Prelude.{ℕ, ◌≡◌, None, Some, Option}
use Rattle.std.specs.Borrow.{MutBor}
use Rattle.std.specs.Fn.{Once}
use Rattle.ymx_model.specs.session.Records.{End}
use Rattle.ymx_model.specs.session.Tables.{Table, with_record}
use Rattle.ymx_machine.specs.shared.Lists.{look}

-- where there is a record, it became another to which `step` leads, and the answer came with it; where there
-- is none, nothing changed
abbrev pub ChangesRecord : {R : Type 0} → (step : End → R → End → Type 0) → ℕ → Table → Option R → Table → Type 0
ChangesRecord step id old None new = (look id old.entries ≡ None) × (new ≡ old)
ChangesRecord step id old (Some answer) new = (before : End) × (look id old.entries ≡ Some before) × ((after : End) × step before answer after × (new ≡ with_record id (λ _. after) old))

-- f may be called once at a `&mut` to x, and one to whatever is lent to it
abbrev pub TakesLent : {F T L R : Type 0} → Once F (MutBor T × (MutBor L × Unit {0})) R → F → T → Type 0
TakesLent {F} {T} {L} g f x = (p : MutBor T) → (q : MutBor L) → p.now ≡ x → g.pre f (p, (q, tt))

-- such a call may give r, and leave x' for x
pub record ReturnsLent {F T L R : Type 0} (g : Once F (MutBor T × (MutBor L × Unit {0})) (R × (MutBor T × (MutBor L × Unit {0})))) (f : F) (x : T) (r : R) (x' : T) : Type 0 where
  pub shown : MutBor T
  pub shows : shown.now ≡ x
  pub lent : MutBor L
  pub left : MutBor T × (MutBor L × Unit {0})
  pub met : g.post f (shown, (lent, tt)) (r, left)
  pub leaves : left.0.now ≡ x'
