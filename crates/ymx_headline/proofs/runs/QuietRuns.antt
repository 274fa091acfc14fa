-- Runs that tell when they are quiet: the machine is still wherever they do.
use Rattle.std.proofs.Common.{◌≡◌, List, [], ◌∷◌, Bool, true, false, refl, sym, ◌∙◌, arith}
use Rattle.ymx_machine.specs.declared.types.Step.{Step}
use Rattle.ymx_machine.specs.declared.types.Answer.{Answer}
use Rattle.ymx_model.specs.declared.types.Status.{Status}
use Rattle.ymx_model.specs.session.Sessions.{Session, is_running, is_closed, is_lost}
use Rattle.ymx_machine.proofs.Tests.{both_of}
use Rattle.ymx_model.specs.session.Emissions.{Choice}
use Rattle.ymx_model.specs.world.Worlds.{World, Runs, is_quiet}
use Rattle.ymx_machine.specs.machine.Machines.{Machine}
use Rattle.ymx_headline.specs.machine.Runs.{StillRun, IsOpenMachine}
use Rattle.ymx_headline.specs.Agrees.{Agrees}
use Rattle.ymx_headline.specs.QuietRuns.{QuietRuns}
use Rattle.ymx_headline.proofs.runs.Runs.{follows}

-- in a quiet world both sessions run, so neither side of the machine is closed, nor has its input ended
runs-open : (t : Status) → is_running t ≡ true → (is_closed t ≡ false) × (is_lost t ≡ false)
runs-open t e = grind arith

quiet-open : (w : World) (m : Machine) → Agrees w m → is_quiet w ≡ true → IsOpenMachine m
quiet-open w m h q =
    let p = both_of _ _ (both_of _ _ (both_of _ _ q).0).0 in
    let a = runs-open w.a.status (both_of _ _ p.0).1 in
    let b = runs-open w.b.status p.1 in
    record {
      me_open = h.a.whole.closed ∙ a.0;
      you_open = h.b.whole.closed ∙ b.0;
      me_hears = h.a.whole.lost a.0 ∙ a.1;
      you_hears = h.b.whole.lost b.0 ∙ b.1;
    }

-- the machine has a run with the same answers
pub still-run : (may : Choice → Session → Bool) (sts : List Step) (given : List Answer) (told : List Bool) (w v : World) (m : Machine) →
    QuietRuns may sts given told w v → Agrees w m → (n : Machine) × StillRun sts given told m n
still-run may [] [] [] w v m r h = (m, refl)
still-run may (st ∷ sts) (given ∷ more) (quiet ∷ rest) w v m r h =
    let k = follows may st given w r.0 m r.1 h in
    let on = still-run may sts more rest r.0 v k.0 r.3 k.2 in
    (on.0, (k.0, k.1, λ e. (let q = sym r.2 ∙ e in (k.3 q, quiet-open r.0 k.0 k.2 q)), on.1))
still-run may _ _ _ w v m r h = absurd r

-- it is a run
pub told-run : (may : Choice → Session → Bool) (sts : List Step) (given : List Answer) (told : List Bool) (w v : World) → QuietRuns may sts given told w v → Runs may sts given w v
told-run may [] [] [] w v r = r
told-run may (st ∷ sts) (given ∷ more) (quiet ∷ rest) w v r = (r.0, r.1, told-run may sts more rest r.0 v r.3)
told-run may _ _ _ w v r = absurd r
