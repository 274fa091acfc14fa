-- Runs from two new sessions, step by step, and what holds of them.
use Rattle.std.proofs.Common.{◌≡◌, ℕ, ◌+◌, ◌<◌, ◌≤◌, ◌^◌, List, [], ◌∷◌, ◌++◌, length, take, get_or, Bool, None, refl, ap, subst, arith}
use Rattle.std.proofs.lemmas.Grind.{common_steps}
use Rattle.ymx_model.specs.declared.types.Config.{Config}
use Rattle.ymx_model.specs.declared.types.Role.TheVariants.{Client, Server}
use Rattle.ymx_machine.specs.declared.types.Step.{Step}
use Rattle.ymx_machine.specs.declared.types.Answer.{Answer}
use Rattle.ymx_model.specs.session.Sessions.{Session}
use Rattle.ymx_model.specs.session.Emissions.{Choice, in_turn}
use Rattle.ymx_model.specs.world.Worlds.{World, Steps, is_quiet}
use Rattle.ymx_machine.specs.machine.Machines.{Machine}
use Rattle.ymx_session.specs.NewSessions.{first_id, new_fault}
use Rattle.ymx_headline.specs.machine.Arrivals.{AllArrive, AllAreGiven, AllAreOffered, AllTakeEnough}
use Rattle.ymx_headline.specs.machine.Faces.{FitWindows}
use Rattle.ymx_headline.specs.machine.Runs.{StillRun}
use Rattle.ymx_headline.specs.QuietRuns.{QuietRuns}
use Rattle.ymx_headline.proofs.relation.Begins.{begins}
use Rattle.ymx_headline.proofs.machine.faces.RunFaces.{odd-even}
use Rattle.ymx_headline.proofs.machine.arrivals.RunArrivals.{arrives, are-given, are-offered, take-enough}
use Rattle.ymx_headline.proofs.runs.Runs.{run-faces, client-odd, server-even}
use Rattle.ymx_headline.proofs.runs.QuietRuns.{still-run, told-run}
use Rattle.ymx_world.specs.declared.played.Played.{Played}
use Rattle.ymx_world.specs.Played.{machine_of, world_of, IsOneMore, IsSamePlay}
use Rattle.ymx_world.proofs.NewWorlds.{good_world}
use Rattle.ymx_machine.specs.Promise.{AllDeliverInOrder}

-- a run that tells goes on by one more step
quiet_more : (may : Choice → Session → Bool) (steps : List Step) (answers : List Answer) (told : List Bool) (st : Step) (given : Answer) (now : Bool) (w x v : World) →
    QuietRuns may steps answers told w x → Steps may st given x v → now ≡ is_quiet v → QuietRuns may (steps ++ st ∷ []) (answers ++ given ∷ []) (told ++ now ∷ []) w v
quiet_more may [] [] [] st given now w x v run one e = (v, subst (λ (z : World). Steps may st given z v) run one, e, refl)
quiet_more may (z ∷ zs) (y ∷ ys) (k ∷ ks) st given now w x v run one e = (run.0, run.1, run.2, quiet_more may zs ys ks st given now run.0 x v run.3 one e)
quiet_more may _ _ _ st given now w x v run one e = absurd run

-- the first so many steps were made from w
pub record IsPlayedTo (steps : List Step) (w : World) (made : ℕ) (p : Played) : Type 0 where
  pub counted : length p.answers.items ≡ made
  pub run : QuietRuns in_turn (take made steps) p.answers.items p.quiet.items w p.world

pub played_none : (steps : List Step) (w : World) (p : Played) → p.answers.items ≡ [] → p.quiet.items ≡ [] → p.world ≡ w → IsPlayedTo steps w 0 p
played_none steps w p answers quiet world = record {
  counted = ap length answers;
  run = rw (answers, quiet) world;
}

pub played_on : (steps : List Step) (w : World) (i : ℕ) (st : Step) (p q : Played) → i < length steps → st ≡ get_or steps i st → IsPlayedTo steps w i p → IsOneMore st p q → IsPlayedTo steps w (i + 1) q
played_on steps w i st p q within is so one =
    let e : take (i + 1) steps ≡ take i steps ++ st ∷ [] = grind (arith, common_steps) in
    let n = so.counted in
    let m = one.answered in
    record {
      counted = grind (arith, common_steps);
      run = rw (e, one.answered, one.told) (quiet_more in_turn (take i steps) p.answers.items p.quiet.items st one.given (is_quiet q.world) w p.world q.world so.run one.steps refl);
    }

-- what holds of such a run
pub record IsTopRun (a b : Config) (steps : List Step) (answers : List Answer) (quiet : List Bool) : Type 0 where
  pub face : AllDeliverInOrder steps answers
  pub arrives : AllArrive steps answers quiet
  pub accepts : AllAreGiven steps answers quiet
  pub offers : AllAreOffered steps answers quiet
  pub writes : AllTakeEnough a.window b.window steps answers quiet
  pub windows : FitWindows a.window b.window steps answers
  pub queues : (m : Machine) × StillRun steps answers quiet (machine_of a b) m

pub top_run : (a b : Config) → new_fault Client a ≡ None → new_fault Server b ≡ None → a.first < 2 ^ 32 → b.first < 2 ^ 32 → (steps : List Step) (answers : List Answer) (quiet : List Bool) (w : World) →
    QuietRuns in_turn steps answers quiet (world_of a b) w → IsTopRun a b steps answers quiet
top_run a b fine_a fine_b small_a small_b steps answers quiet w run =
    let g = good_world a b fine_a fine_b small_a small_b in
    let fa = first_id Client a.first in
    let fb = first_id Server b.first in
    let still = still-run in_turn steps answers quiet (world_of a b) w (machine_of a b) run (begins a.window fa b.window fb g.low_a g.high_a g.low_b g.high_b g.client g.server g.small_a g.some_b g.small_b) in
    let parity = odd-even fa fb (client-odd fa g.client) (server-even fb g.server) in
    let within = run-faces in_turn steps answers a.window fa b.window fb w g (told-run in_turn steps answers quiet (world_of a b) w run) in
    record {
      face = within.faces;
      arrives = arrives a.window fa b.window fb steps answers quiet still.0 g.low_a g.low_b parity still.1;
      accepts = are-given a.window fa b.window fb steps answers quiet still.0 g.low_a g.low_b parity still.1;
      offers = are-offered a.window fa b.window fb steps answers quiet still.0 g.low_a g.low_b parity still.1;
      writes = take-enough a.window fa b.window fb steps answers quiet still.0 g.low_a g.low_b parity still.1;
      windows = within.windows;
      queues = still;
    }

-- where it stopped, of the steps before
pub played_so_far : (steps : List Step) (w : World) (i : ℕ) (p q : Played) → IsPlayedTo steps w i p → IsSamePlay p q → QuietRuns in_turn (take (length q.answers.items) steps) q.answers.items q.quiet.items w q.world
played_so_far steps w i p q so same = rw (same.answers, so.counted, same.quiet, same.world) so.run

-- at its end, of all steps
pub played_all : (steps : List Step) (w : World) (i : ℕ) (p : Played) → length steps ≤ i → IsPlayedTo steps w i p → QuietRuns in_turn steps p.answers.items p.quiet.items w p.world
played_all steps w i p end so =
    let e : take i steps ≡ steps = grind (arith, common_steps) in
    subst (λ (zs : List Step). QuietRuns in_turn zs p.answers.items p.quiet.items w p.world) e so.run

-- what holds of the steps made so far, where the next one was refused
pub stopped_run : (a b : Config) → new_fault Client a ≡ None → new_fault Server b ≡ None → a.first < 2 ^ 32 → b.first < 2 ^ 32 → (steps : List Step) (i : ℕ) (p q : Played) →
    IsPlayedTo steps (world_of a b) i p → IsSamePlay p q → IsTopRun a b (take (length q.answers.items) steps) q.answers.items q.quiet.items
stopped_run a b fine_a fine_b small_a small_b steps i p q so same =
    top_run a b fine_a fine_b small_a small_b (take (length q.answers.items) steps) q.answers.items q.quiet.items q.world
    (played_so_far steps (world_of a b) i p q so same)

-- and of all steps
pub finished_run : (a b : Config) → new_fault Client a ≡ None → new_fault Server b ≡ None → a.first < 2 ^ 32 → b.first < 2 ^ 32 → (steps : List Step) (i : ℕ) (p : Played) →
    length steps ≤ i → IsPlayedTo steps (world_of a b) i p → IsTopRun a b steps p.answers.items p.quiet.items
finished_run a b fine_a fine_b small_a small_b steps i p end so =
    top_run a b fine_a fine_b small_a small_b steps p.answers.items p.quiet.items p.world (played_all steps (world_of a b) i p end so)
