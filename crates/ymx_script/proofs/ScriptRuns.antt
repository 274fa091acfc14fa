-- A script is a run of its world.
use Rattle.std.proofs.Common.{◌≡◌, ℕ, List, [], ◌∷◌, ◌++◌, Bool, true, false, Option, Some, None, cond, is_none, refl, sym, ap, subst, ◌∙◌}
use Rattle.ymx_machine.specs.declared.types.Answer.{Answer}
use Rattle.ymx_model.specs.declared.types.Config.{Config}
use Rattle.ymx_model.specs.declared.types.Role.TheVariants.{Client, Server}
use Rattle.ymx_machine.specs.declared.types.Side.{Side}
use Rattle.ymx_machine.specs.declared.types.Side.TheVariants.{A, B}
use Rattle.ymx_machine.specs.declared.types.Step.{Step}
use Rattle.ymx_model.specs.session.Emissions.{in_turn}
use Rattle.ymx_model.specs.world.Worlds.{World, Steps, Runs}
use Rattle.ymx_session.specs.NewSessions.{new_fault}
use Rattle.ymx_script.specs.declared.command.Command.{Command}
use Rattle.ymx_script.specs.declared.command.Command.TheVariants.{Nothing, First, Window, Do, Skip, Quiet, Due, Show}
use Rattle.ymx_script.specs.Scripts.{Position, Says, SaysAt, Plays, config_of, in_world, unless_late, with_config, world_at, world_or_new}
use Rattle.ymx_script.specs.Runs.{steps_of, steps_said}

-- ---- settings come before the world is there

-- a setting that was made: the world wasn't there, and isn't there after it
set_if : (t : Bool) (q r : Position) → cond t (Some q) None ≡ Some r → q ≡ r
set_if true q r e = cc
set_if false q r e = cc

set_world : (side : Side) (c : Config) (p q : Position) → with_config side c p ≡ Some q → q.world ≡ p.world
set_world A c p q e = sym (ap (λ (z : Position). z.world) (set_if (is_none (new_fault Client c)) (record p { a = c }) q e))
set_world B c p q e = sym (ap (λ (z : Position). z.world) (set_if (is_none (new_fault Server c)) (record p { b = c }) q e))

not_late : (w : Option World) (q : Option Position) (r : Position) → unless_late w q ≡ Some r → (w ≡ None) × (q ≡ Some r)
not_late None q r e = (refl, e)
not_late (Some w) q r e = cc

-- a setting leaves the world as it was, which is not there
setting_world : (side : Side) (c : Config) (p q : Position) → unless_late p.world (with_config side c p) ≡ Some q → (p.world ≡ None) × (q.world ≡ None)
setting_world side c p q e =
    let h = not_late p.world (with_config side c p) q e in
    (h.0, set_world side c p q h.1 ∙ h.0)

-- ---- the settings stay once the world is there

-- at the place q the world is there, and the settings are those of p
abbrev Stays : Position → Position → Type 0
Stays p q = (w : World) × (q.world ≡ Some w) × (q.a ≡ p.a) × (q.b ≡ p.b)

asked_stays : (c : Command) (p q : Position) (text : List ℕ) → SaysAt c p text q → Stays p q
asked_stays c p q text (v, said, is) = (v, ap (λ (z : Position). z.world) is, ap (λ (z : Position). z.a) is, ap (λ (z : Position). z.b) is)

no_setting : {X : Type 0} (o : Option World) (w : World) → o ≡ Some w → o ≡ None → X
no_setting o w e n = cc

line_stays : (c : Command) (p q : Position) (text : List ℕ) (w : World) → p.world ≡ Some w → Says c p text q → Stays p q
line_stays Nothing p q text w e h = (w, ap (λ (z : Position). z.world) h.1 ∙ e, ap (λ (z : Position). z.a) h.1, ap (λ (z : Position). z.b) h.1)
line_stays (First side n) p q text w e h = no_setting p.world w e (setting_world side (record (config_of side p) { first = n }) p q h.1).0
line_stays (Window side n) p q text w e h = no_setting p.world w e (setting_world side (record (config_of side p) { window = n }) p q h.1).0
line_stays (Do step) p q text w e h = asked_stays (Do step) p q text h
line_stays (Skip step) p q text w e h = asked_stays (Skip step) p q text h
line_stays Quiet p q text w e h = asked_stays Quiet p q text h
line_stays (Due side) p q text w e h = asked_stays (Due side) p q text h
line_stays (Show direction) p q text w e h = asked_stays (Show direction) p q text h

-- lines after the first that needs the world leave the settings
lines_stay : (lines : List (List ℕ)) (p q : Position) (text : List ℕ) (w : World) → p.world ≡ Some w → Plays lines p text q → (q.a ≡ p.a) × (q.b ≡ p.b)
lines_stay [] p q text w e h = (ap (λ (z : Position). z.a) h.1, ap (λ (z : Position). z.b) h.1)
lines_stay (bytes ∷ more) p q text w e (now, rest, mid, played, then, printed) =
    let one = line_stays played.says p mid now w e played.printed in
    let others = lines_stay more mid q rest one.0 one.1 then in
    (others.0 ∙ one.2, others.1 ∙ one.3)

-- ---- the run

-- the world from which these lines, which end at q, go on at p
abbrev from_world : Position → Position → World
from_world p q = world_or_new q.a q.b p.world

-- these steps go on from p to q
abbrev RunsOn : List Step → Position → Position → Type 0
RunsOn steps p q = (answers : List Answer) × Runs in_turn steps answers (from_world p q) (world_at q)

same_world : (p q : Position) → q.a ≡ p.a → q.b ≡ p.b → from_world p q ≡ world_at p
same_world p q a b = ap (λ (c : Config). world_or_new c q.b p.world) a ∙ ap (λ (c : Config). world_or_new p.a c p.world) b

-- after a line that asks something of the world, which it leaves as v
behind : (p mid q : Position) (v : World) (steps : List Step) → mid ≡ in_world p v → (q.a ≡ mid.a) × (q.b ≡ mid.b) → RunsOn steps mid q →
    (from_world p q ≡ world_at p) × ((answers : List Answer) × Runs in_turn steps answers v (world_at q))
behind p mid q v steps is (a, b) (answers, runs) = (
  same_world p q (a ∙ ap (λ (z : Position). z.a) is) (b ∙ ap (λ (z : Position). z.b) is),
  (answers, subst (λ (w : World). Runs in_turn steps answers w (world_at q)) (ap (λ (z : Position). world_or_new q.a q.b z.world) is) runs),
)

line_runs : (c : Command) (p mid q : Position) (now : List ℕ) (steps : List Step) → Says c p now mid →
    ((w : World) → mid.world ≡ Some w → (q.a ≡ mid.a) × (q.b ≡ mid.b)) → RunsOn steps mid q → RunsOn (steps_of (Some c) ++ steps) p q
line_runs Nothing p mid q now steps h stays runs = subst (λ (z : Position). RunsOn steps z q) h.1 runs
line_runs (First side n) p mid q now steps h stays runs =
    let none = setting_world side (record (config_of side p) { first = n }) p mid h.1 in
    (runs.0, subst (λ (o : Option World). Runs in_turn steps runs.0 (world_or_new q.a q.b o) (world_at q)) (none.1 ∙ sym none.0) runs.1)
line_runs (Window side n) p mid q now steps h stays runs =
    let none = setting_world side (record (config_of side p) { window = n }) p mid h.1 in
    (runs.0, subst (λ (o : Option World). Runs in_turn steps runs.0 (world_or_new q.a q.b o) (world_at q)) (none.1 ∙ sym none.0) runs.1)
line_runs (Do step) p mid q now steps (v, (given, made, text), is) stays runs =
    let on = behind p mid q v steps is (stays v (ap (λ (z : Position). z.world) is)) runs in
    (given ∷ on.1.0, (v, subst (λ (w : World). Steps in_turn step given w v) (sym on.0) made, on.1.1))
line_runs (Skip step) p mid q now steps (v, (given, made, text), is) stays runs =
    let on = behind p mid q v steps is (stays v (ap (λ (z : Position). z.world) is)) runs in
    (given ∷ on.1.0, (v, subst (λ (w : World). Steps in_turn step given w v) (sym on.0) made, on.1.1))
line_runs Quiet p mid q now steps (v, said, is) stays runs =
    let on = behind p mid q v steps is (stays v (ap (λ (z : Position). z.world) is)) runs in
    (on.1.0, subst (λ (w : World). Runs in_turn steps on.1.0 w (world_at q)) (said.1 ∙ sym on.0) on.1.1)
line_runs (Due side) p mid q now steps (v, said, is) stays runs =
    let on = behind p mid q v steps is (stays v (ap (λ (z : Position). z.world) is)) runs in
    (on.1.0, subst (λ (w : World). Runs in_turn steps on.1.0 w (world_at q)) (said.1 ∙ sym on.0) on.1.1)
line_runs (Show direction) p mid q now steps (v, said, is) stays runs =
    let on = behind p mid q v steps is (stays v (ap (λ (z : Position). z.world) is)) runs in
    (on.1.0, subst (λ (w : World). Runs in_turn steps on.1.0 w (world_at q)) (said.1 ∙ sym on.0) on.1.1)

-- the steps that some lines say are a run
pub lines_run : (lines : List (List ℕ)) (p q : Position) (text : List ℕ) → Plays lines p text q → RunsOn (steps_said lines) p q
lines_run [] p q text h = ([], ap (λ (z : Position). world_or_new q.a q.b z.world) h.1)
lines_run (bytes ∷ more) p q text (now, rest, mid, played, then, printed) =
    let steps : RunsOn (steps_of (Some played.says) ++ steps_said more) p q =
    line_runs played.says p mid q now (steps_said more) played.printed (λ w e. lines_stay more mid q rest w e then) (lines_run more mid q rest then) in
    subst (λ (o : Option Command). RunsOn (steps_of o ++ steps_said more) p q) (sym played.meant) steps
