-- Runs of the world, and worlds reached by them.
use Rattle.std.proofs.Common.{◌≡◌, ℕ, ◌+◌, ◌<◌, List, [], ◌∷◌, ◌++◌, length, take, get_or, Bool, Result, Ok, Err, IfOk, OnErr, refl, subst, sym, arith}
use Rattle.std.proofs.lemmas.Grind.{common_steps}
use Rattle.ymx_machine.specs.declared.types.Step.{Step}
use Rattle.ymx_machine.specs.declared.types.Answer.{Answer}
use Rattle.ymx_model.specs.session.Sessions.{Session}
use Rattle.ymx_model.specs.session.Emissions.{Choice, in_turn}
use Rattle.ymx_model.specs.world.Worlds.{World, Steps, Runs}
use Rattle.ymx_headline.proofs.audit.Orders.{runs-on}
use Rattle.ymx_world.specs.Reached.{IsReached}

-- a run goes on by one more step
pub run_more : (may : Choice → Session → Bool) (steps : List Step) (answers : List Answer) (st : Step) (given : Answer) (w x v : World) →
    Runs may steps answers w x → Steps may st given x v → Runs may (steps ++ st ∷ []) (answers ++ given ∷ []) w v
run_more may [] [] st given w x v run one = (v, subst (λ (z : World). Steps may st given z v) run one, refl)
run_more may [] (y ∷ ys) st given w x v run one = absurd run
run_more may (z ∷ zs) [] st given w x v run one = absurd run
run_more may (z ∷ zs) (y ∷ ys) st given w x v run one = (run.0, run.1, run_more may zs ys st given run.0 x v run.2 one)

-- a run leads to a world that can be
pub reached_along : (steps : List Step) (answers : List Answer) (w v : World) → IsReached w → Runs in_turn steps answers w v → IsReached v
reached_along steps answers w v r run = record { window_a = r.window_a; first_a = r.first_a; window_b = r.window_b; first_b = r.first_b; good = r.good; steps = r.steps ++ steps; answers = r.answers ++ answers; runs = runs-on in_turn r.steps steps r.answers answers _ w v r.runs run }

-- so does one more step
pub reached_on : (st : Step) (given : Answer) (w v : World) → IsReached w → Steps in_turn st given w v → IsReached v
reached_on st given w v r one = reached_along (st ∷ []) (given ∷ []) w v r (v, one, refl)

-- a step that is made, or not, leads to a world that can be
pub reached_if : {E : Type 0} (given : Result Answer E) (st : Step) (w v : World) → IsReached w →
    IfOk given (λ (answer : Answer). Steps in_turn st answer w v) → OnErr given (v ≡ w) → IsReached v
reached_if (Ok given) st w v r one same = reached_on st given w v r one
reached_if (Err fault) st w v r one same = subst IsReached (sym same) r

-- the run so far goes on by the step at its end
pub run_at : (may : Choice → Session → Bool) (steps : List Step) (answers : List Answer) (i : ℕ) (st : Step) (given : Answer) (w x v : World) →
    i < length steps → st ≡ get_or steps i st → Runs may (take i steps) answers w x → Steps may st given x v →
    Runs may (take (i + 1) steps) (answers ++ given ∷ []) w v
run_at may steps answers i st given w x v within is run one =
    let e : take (i + 1) steps ≡ take i steps ++ st ∷ [] = grind (arith, common_steps) in
    subst (λ (zs : List Step). Runs may zs (answers ++ given ∷ []) w v) (sym e) (run_more may (take i steps) answers st given w x v run one)
