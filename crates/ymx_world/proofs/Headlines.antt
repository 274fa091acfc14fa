-- What the headline says of a world that was reached by steps.
use Rattle.std.proofs.Common.{Result, Ok, Err, IfOk, IfErr, Option, Some, None, IfSome, List, [], ◌∷◌, false, ◌≡◌, refl, arith}
use Rattle.std.specs.List.{All}
use Rattle.ymx_model.specs.declared.types.Role.TheVariants.{Client, Server}
use Rattle.ymx_model.specs.session.Emissions.{in_turn}
use Rattle.ymx_model.specs.world.Worlds.{World, Steps, Runs, new_world}
use Rattle.ymx_machine.specs.declared.types.Step.{Step}
use Rattle.ymx_machine.specs.declared.types.Answer.{Answer}
use Rattle.ymx_headline.specs.Laws.{breaks_off}
use Rattle.ymx_headline.proofs.runs.Runs.{run-alike, runs-alike, none-breaks}
use Rattle.ymx_law_session.proofs.limits.HistoriesKeep.{new-keeps, odd_some}
use Rattle.ymx_headline.specs.world.Texts.{AreWithin, AreFrames}
use Rattle.ymx_headline.proofs.world.Worlds.{run-frames, new-frames}
use Rattle.ymx_world.specs.Reached.{IsReached}

pub ok-then : {A E : Type 0} (r : Result A E) (P Q : A → Type 0) → ((x : A) → P x → Q x) → IfOk r P → IfOk r Q
ok-then (Ok x) P Q f p = f x p
ok-then (Err e) P Q f p = p

pub err-then : {A E : Type 0} (r : Result A E) (P Q : E → Type 0) → ((x : E) → P x → Q x) → IfErr r P → IfErr r Q
err-then (Ok x) P Q f p = p
err-then (Err e) P Q f p = f e p

pub some-then : {A : Type 0} (o : Option A) (P Q : A → Type 0) → ((x : A) → P x → Q x) → IfSome o P → IfSome o Q
some-then (Some x) P Q f p = f x p
some-then None P Q f p = p

-- what holds where a run was made holds where it stopped too
pub either-way : {A E : Type 0} (r : Result A E) (P : A → Type 0) (Q : E → Type 0) (C : Type 0) → ((x : A) → P x → C) → ((e : E) → Q e → C) → IfOk r P → IfErr r Q → C
either-way (Ok x) P Q C f g p q = f x p
either-way (Err e) P Q C f g p q = g e q

-- both sessions of a world that was reached keep their limits, and frames are under way in what carries
pub reached-frames : (w : World) → IsReached w → AreWithin w × AreFrames w
reached-frames w r =
    let g = r.good in
    let start = new_world r.window_a r.first_a r.window_b r.first_b in
    run-frames in_turn r.steps r.answers start w r.runs
    (record { a = new-keeps Client r.window_a r.first_a g.low_a g.high_a g.client (odd_some r.first_a g.client) g.small_a; b = new-keeps Server r.window_b r.first_b g.low_b g.high_b g.server g.some_b g.small_b })
    (new-frames start refl refl refl refl refl refl)

pub reached-within : (w : World) → IsReached w → AreWithin w
reached-within w r = (reached-frames w r).0

-- no answer of a run from such a world tells of a fault
pub reached-sound : (steps : List Step) (answers : List Answer) (w v : World) → IsReached w → Runs in_turn steps answers w v → All (λ given. breaks_off given ≡ false) answers
reached-sound steps answers w v r run =
    let before = run-alike in_turn r.steps r.answers r.window_a r.first_a r.window_b r.first_b w r.good r.runs in
    let after = runs-alike in_turn steps answers w v before.0 run before.2 in
    none-breaks in_turn steps answers w v before.0 after.0 after.1

-- nor does the answer of a step
pub step-sound : (st : Step) (given : Answer) (w v : World) → IsReached w → Steps in_turn st given w v → breaks_off given ≡ false
step-sound st given w v r s = reached-sound (st ∷ []) (given ∷ []) w v r (v, s, refl) 0 given (omega arith)
