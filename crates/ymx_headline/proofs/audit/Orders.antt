-- The replies of two histories in a joint order are the answers of a run of the world.
use Rattle.std.proofs.Common.{◌≡◌, ℕ, ◌+◌, List, [], ◌∷◌, ◌++◌, Bool, true, false, refl, sym, subst, ◌∙◌}
use Rattle.ymx_machine.specs.declared.types.Side.TheVariants.{A, B}
use Rattle.ymx_machine.specs.declared.types.Step.{Step}
use Rattle.ymx_machine.specs.declared.types.Answer.{Answer}
use Rattle.ymx_model.specs.declared.types.Entry.{Entry}
use Rattle.ymx_model.specs.session.Sessions.{Session}
use Rattle.ymx_model.specs.session.Emissions.{Choice}
use Rattle.ymx_model.specs.session.Histories.{ReplaysFrom}
use Rattle.ymx_model.specs.world.Worlds.{World, Pipe, Runs, new_pipe}
use Rattle.ymx_headline.proofs.runs.Runs.{runs-alike}
use Rattle.ymx_headline.specs.audit.Joints.{sent_into, world_steps, IsJoint}
use Rattle.ymx_headline.specs.audit.Told.{answers_of, is_ended_behind, told_from, fresh_world, AreAnswered}
use Rattle.ymx_headline.proofs.audit.Over.{IsOver}
use Rattle.ymx_headline.proofs.audit.Events.{world, event-a, event-b, gets-ended, put-ended, over-behind}

-- a run goes on by another
pub runs-on : (may : Choice → Session → Bool) (steps more : List Step) (answers given : List Answer) (w x v : World) →
    Runs may steps answers w x → Runs may more given x v → Runs may (steps ++ more) (answers ++ given) w v
runs-on may [] more [] given w x v r k = subst (λ (z : World). Runs may more given z v) r k
runs-on may [] more (y ∷ ys) given w x v r k = absurd r
runs-on may (z ∷ zs) more [] given w x v r k = absurd r
runs-on may (z ∷ zs) more (y ∷ ys) given w x v r k = (r.0, r.1, runs-on may zs more ys given r.0 x v r.2 k)

-- such a run, from sessions and pipes as they are
record RunsFrom (may : Choice → Session → Bool) (steps : List Step) (answers : List Answer) (w : World) (s t : Session) : Type 0 where
  behind : World
  runs : Runs may steps answers w behind
  side_a : behind.a ≡ s
  side_b : behind.b ≡ t

joint-runs : (may : Choice → Session → Bool) (turns : List Bool) (ab ba : Pipe) (xs ys : List Entry) (steps : List Step) (i j : ℕ) (a b s t : Session) →
    IsJoint turns ab ba xs ys steps → ReplaysFrom may i xs a s → ReplaysFrom may j ys b t → (ba.ended ≡ true → IsOver a) → (ab.ended ≡ true → IsOver b) →
    RunsFrom may steps (told_from turns ba.ended ab.ended xs ys) (world a b ab ba) s t
joint-runs may [] ab ba xs ys steps i j a b s t g r k over_a over_b = record {
  behind = world a b ab ba;
  runs = subst (λ (zs : List Step). Runs may zs [] (world a b ab ba) (world a b ab ba)) (sym g.2) refl;
  side_a = sym (subst (λ (zs : List Entry). ReplaysFrom may i zs a s) g.0 r);
  side_b = sym (subst (λ (zs : List Entry). ReplaysFrom may j zs b t) g.1 k);
}
joint-runs may (true ∷ turns) ab ba xs ys steps i j a b s t (x, more, q, rest, is, gets, counted, g) r k over_a over_b =
    let first : ReplaysFrom may i (x ∷ more) a s = subst (λ (zs : List Entry). ReplaysFrom may i zs a s) is r in
    let next : Session = (first.1).0 in
    let kept : (sent_into x.event x.reply ab).ended ≡ ab.ended = put-ended x.event x.reply ab in
    let told : q.ended ≡ is_ended_behind ba.ended x.event = gets-ended x.event x.reply ba q gets in
    let one = event-a may x.event x.reply a b next ab ba q (first.1).1 gets over_a in
    let h = joint-runs may turns (sent_into x.event x.reply ab) q more ys rest (i + 1) j next b s t g (first.1).2 k
    (over-behind may x.event x.reply a next ba q (first.1).1 gets over_a) (λ e. over_b (sym kept ∙ e)) in
    let more_runs : Runs may rest (told_from turns (is_ended_behind ba.ended x.event) ab.ended more ys) (world next b (sent_into x.event x.reply ab) q) h.behind =
    subst (λ (e : Bool). Runs may rest (told_from turns e ab.ended more ys) (world next b (sent_into x.event x.reply ab) q) h.behind) told
    (subst (λ (e : Bool). Runs may rest (told_from turns q.ended e more ys) (world next b (sent_into x.event x.reply ab) q) h.behind) kept h.runs) in
    let all : Runs may (world_steps A ba x.event ++ rest) (told_from (true ∷ turns) ba.ended ab.ended (x ∷ more) ys) (world a b ab ba) h.behind =
    runs-on may (world_steps A ba x.event) rest (answers_of ba.ended x.event x.reply) _ (world a b ab ba) _ h.behind one more_runs in
    record {
      behind = h.behind;
      runs = subst (λ (zs : List Entry). Runs may steps (told_from (true ∷ turns) ba.ended ab.ended zs ys) (world a b ab ba) h.behind) (sym is)
          (subst (λ (zs : List Step). Runs may zs (told_from (true ∷ turns) ba.ended ab.ended (x ∷ more) ys) (world a b ab ba) h.behind) (sym counted) all);
      side_a = h.side_a;
      side_b = h.side_b;
    }
joint-runs may (false ∷ turns) ab ba xs ys steps i j a b s t (y, more, q, rest, is, gets, counted, g) r k over_a over_b =
    let first : ReplaysFrom may j (y ∷ more) b t = subst (λ (zs : List Entry). ReplaysFrom may j zs b t) is k in
    let next : Session = (first.1).0 in
    let kept : (sent_into y.event y.reply ba).ended ≡ ba.ended = put-ended y.event y.reply ba in
    let told : q.ended ≡ is_ended_behind ab.ended y.event = gets-ended y.event y.reply ab q gets in
    let one = event-b may y.event y.reply a b next ab ba q (first.1).1 gets over_b in
    let h = joint-runs may turns q (sent_into y.event y.reply ba) xs more rest i (j + 1) a next s t g r (first.1).2 (λ e. over_a (sym kept ∙ e))
    (over-behind may y.event y.reply b next ab q (first.1).1 gets over_b) in
    let more_runs : Runs may rest (told_from turns ba.ended (is_ended_behind ab.ended y.event) xs more) (world a next q (sent_into y.event y.reply ba)) h.behind =
    subst (λ (e : Bool). Runs may rest (told_from turns ba.ended e xs more) (world a next q (sent_into y.event y.reply ba)) h.behind) told
    (subst (λ (e : Bool). Runs may rest (told_from turns e q.ended xs more) (world a next q (sent_into y.event y.reply ba)) h.behind) kept h.runs) in
    let all : Runs may (world_steps B ab y.event ++ rest) (told_from (false ∷ turns) ba.ended ab.ended xs (y ∷ more)) (world a b ab ba) h.behind =
    runs-on may (world_steps B ab y.event) rest (answers_of ab.ended y.event y.reply) _ (world a b ab ba) _ h.behind one more_runs in
    record {
      behind = h.behind;
      runs = subst (λ (zs : List Entry). Runs may steps (told_from (false ∷ turns) ba.ended ab.ended xs zs) (world a b ab ba) h.behind) (sym is)
          (subst (λ (zs : List Step). Runs may zs (told_from (false ∷ turns) ba.ended ab.ended xs (y ∷ more)) (world a b ab ba) h.behind) (sym counted) all);
      side_a = h.side_a;
      side_b = h.side_b;
    }

pub are-answered : (may : Choice → Session → Bool) (xs ys : List Entry) (steps : List Step) → AreAnswered may xs ys steps
are-answered may xs ys steps turns a b s t g r k =
    let h = joint-runs may turns new_pipe new_pipe xs ys steps 0 0 a b s t g r k (λ e. absurd cc) (λ e. absurd cc) in
    record {
      world = h.behind;
      runs = h.runs;
      side_a = h.side_a;
      side_b = h.side_b;
      machine = λ m alike. runs-alike may steps (told_from turns false false xs ys) (fresh_world a b) h.behind m h.runs alike;
    }
