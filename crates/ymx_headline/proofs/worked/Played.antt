-- What is computed of a world's steps is a run of them.
use Rattle.std.proofs.Common.{◌≡◌, ℕ, ◌^◌, ◌<◌, ◌≤◌, List, [], ◌∷◌, take, Bool, true, false, refl}
use Rattle.ymx_machine.specs.declared.types.Step.{Step}
use Rattle.ymx_machine.specs.declared.types.Step.TheVariants as step
use Rattle.ymx_machine.specs.declared.types.Reply.TheVariants as reply
use Rattle.ymx_model.specs.declared.types.Event.TheVariants as event
use Rattle.ymx_model.specs.declared.types.Role.TheVariants.{Client, Server}
use Rattle.ymx_machine.specs.shared.Limits.{first_credit}
use Rattle.ymx_model.specs.session.Histories.CallGives.{Outcome}
use Rattle.ymx_model.specs.session.Sessions.{Session, is_own}
use Rattle.ymx_model.specs.session.Calls.{outcome, feed_end}
use Rattle.ymx_model.specs.session.Emissions.{in_turn}
use Rattle.ymx_model.specs.session.Histories.{Gives}
use Rattle.ymx_model.specs.world.Worlds.{World, new_world, StepOfA, Steps, Runs, mirror_world}
use Rattle.ymx_machine.specs.shared.Steps.{is_of_a}
use Rattle.ymx_law_session.specs.Limits.{IsWithin}
use Rattle.ymx_law_session.proofs.limits.HistoriesKeep.{gives-keep, new-keeps, odd_some}
use Rattle.ymx_headline.specs.worked.Plays.{Moved, play_emit, play_feed, step_of_a, play_step, play}
use Rattle.ymx_headline.proofs.worked.Emitted.{emits}
use Rattle.ymx_headline.proofs.worked.FedByBlocks.{feeds}

-- both sessions keep their limits
pub record BothWithin (w : World) : Type 0 where
  pub a : IsWithin w.a
  pub b : IsWithin w.b

pub record MovedWell (st : Step) (w : World) (m : Moved) : Type 0 where
  pub is : StepOfA in_turn st m.answer w m.world
  pub keeps : BothWithin m.world

ended : (s : Session) → IsWithin s → IsWithin (feed_end s)
ended s w = gives-keep in_turn s (feed_end s) event.FeedEnd reply.Done (refl, refl) w

of_a : (st : Step) (w : World) → BothWithin w → MovedWell st w (step_of_a st w)
of_a (step.At side call) w h =
    let g : Gives in_turn w.a (event.Call call) (outcome call w.a).reply (outcome call w.a).next = Outcome refl refl in record {
      is = ((outcome call w.a).reply, (outcome call w.a).next, g, refl, refl);
      keeps = record { a = gives-keep in_turn w.a _ (event.Call call) _ g h.a; b = h.b };
    }
of_a (step.Emit side room) w h =
    let e = emits room w.a h.a in
    let g : Gives in_turn w.a (event.Emit room) (reply.Emitted (play_emit room w.a).out) (play_emit room w.a).state = ((play_emit room w.a).out, refl, e) in record {
      is = ((play_emit room w.a).out, (play_emit room w.a).state, g, refl, refl);
      keeps = record { a = gives-keep in_turn w.a _ (event.Emit room) _ g h.a; b = h.b };
    }
of_a (step.Deliver direction n) w h =
    let f = feeds (take n w.ab.bytes) w.b h.b in
    let d = play_feed (take n w.ab.bytes) w.b in
    let g : Gives in_turn w.b (event.Feed (take n w.ab.bytes)) (reply.Fed d.fed) d.state = (d.fed, refl, f) in record {
      is = (reply.Fed d.fed, d.state, g, refl, refl);
      keeps = record { a = h.a; b = gives-keep in_turn w.b _ (event.Feed (take n w.ab.bytes)) _ g h.b };
    }
of_a (step.Stop direction) w h = record { is = (refl, refl); keeps = record { a = h.a; b = h.b } }
of_a (step.End direction) w h = of w.ab.stopped refl
  where
    of : (b : Bool) → w.ab.stopped ≡ b → MovedWell (step.End direction) w (step_of_a (step.End direction) w)
    of true e = record { is = rw e (refl, refl); keeps = rw e (record { a = h.a; b = ended w.b h.b }) }
    of false e = record { is = rw e (refl, refl); keeps = rw e (record { a = h.a; b = h.b }) }

pub record SteppedWell (st : Step) (w : World) (m : Moved) : Type 0 where
  pub is : Steps in_turn st m.answer w m.world
  pub keeps : BothWithin m.world

stepped : (st : Step) (w : World) → BothWithin w → SteppedWell st w (play_step st w)
stepped st w h = of (is_of_a st) refl
  where
    of : (b : Bool) → is_of_a st ≡ b → SteppedWell st w (play_step st w)
    of true e = let m = of_a st w h in record { is = rw e m.is; keeps = rw e m.keeps }
    of false e =
        let m = of_a st (mirror_world w) (record { a = h.b; b = h.a }) in
        record { is = rw e m.is; keeps = rw e (record { a = m.keeps.b; b = m.keeps.a }) }

-- The answers that are played are those of a run, with frames in turn.
pub plays : (sts : List Step) (w : World) → BothWithin w → Runs in_turn sts (play sts w).answers w (play sts w).world
plays [] w h = refl
plays (st ∷ sts) w h = let s = stepped st w h in ((play_step st w).world, s.is, plays sts (play_step st w).world s.keeps)

-- two new sessions keep them
pub new-within : (window_a first_a window_b first_b : ℕ) → first_credit ≤ window_a → window_a ≤ 16777216 → first_credit ≤ window_b → window_b ≤ 16777216 →
    is_own Client first_a ≡ true → is_own Server first_b ≡ true → first_a < 2 ^ 32 → 0 < first_b → first_b < 2 ^ 32 → BothWithin (new_world window_a first_a window_b first_b)
new-within window_a first_a window_b first_b la ha lb hb pa pb sa z sb = record { a = new-keeps Client window_a first_a la ha pa (odd_some first_a pa) sa; b = new-keeps Server window_b first_b lb hb pb z sb }
