-- Emissions and deliveries of a world that was reached by steps.
use Rattle.std.proofs.Common.{◌≡◌, ℕ, ◌+◌, List, [], ◌∷◌, true, refl}
use Rattle.std.specs.List.{All}
use Rattle.std.proofs.lemmas.List.Elements.{All-head, All-tail}
use Rattle.ymx_machine.specs.declared.types.Step.{Step}
use Rattle.ymx_machine.specs.declared.types.Answer.{Answer}
use Rattle.ymx_model.specs.session.Emissions.{in_turn}
use Rattle.ymx_model.specs.world.Worlds.{World, Runs}
use Rattle.ymx_headline.specs.Laws.{IsOpenWorld, Carries, is_carriage, fed_by}
use Rattle.ymx_machine.specs.shared.Limits.{data_limit}
use Rattle.ymx_headline.proofs.bounds.Loads.{turn-order}
use Rattle.ymx_headline.proofs.bounds.Bound.{bound}
use Rattle.ymx_headline.proofs.emissions.Begun.{runs-open}
use Rattle.ymx_headline.specs.world.Texts.{is_open}
use Rattle.ymx_world.proofs.Headlines.{reached-frames}
use Rattle.ymx_world.specs.Reached.{IsReached}
use Rattle.ymx_world.specs.Bounds.{IsBoundedRun}

abbrev IsCarriage : Step → Type 0
IsCarriage st = is_carriage st ≡ true

-- a run of emissions and deliveries feeds some frames wholly
counts : (steps : List Step) (answers : List Answer) (w v : World) → All IsCarriage steps → Runs in_turn steps answers w v → (count : ℕ) × Carries in_turn steps answers w v count
counts [] [] w v each run = (0, (run, refl))
counts [] (given ∷ more) w v each run = absurd run
counts (st ∷ sts) [] w v each run = absurd run
counts (st ∷ sts) (given ∷ more) w v each run =
    let rest = counts sts more run.0 v (All-tail IsCarriage st sts each) run.2 in
    (fed_by st given w + rest.0, (All-head IsCarriage st sts each, run.0, rest.0, run.1, refl, rest.1))

-- they are at most twice the load
pub is-bounded : (steps : List Step) (answers : List Answer) (w v : World) → IsReached w → IsOpenWorld w → All IsCarriage steps → Runs in_turn steps answers w v →
    IsBoundedRun steps answers w v
is-bounded steps answers w v reached on each run =
    let h = reached-frames w reached in
    let open_ab : is_open w.b w.ab w.a ≡ true = rw (on.ab.on, on.b, runs-open w.a.status on.a) refl in
    let open_ba : is_open w.a w.ba w.b ≡ true = rw (on.ba.on, on.a, runs-open w.b.status on.b) refl in
    let ab = (h.1).ab open_ab in
    let ba = (h.1).ba open_ba in
    record {
      frames = (ab.0, ba.0, record { ab = ab.1; ba = ba.1 });
      fed = counts steps answers w v each run;
      most = λ frames_ab frames_ba count under c. bound data_limit in_turn turn-order steps answers w v frames_ab frames_ba count h.0 on under.ab under.ba c;
    }
