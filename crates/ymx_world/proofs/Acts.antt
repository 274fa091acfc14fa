-- Steps of the world, from what was done with one session and one pipe.
use Rattle.std.proofs.Common.{◌≡◌, ℕ, ◌≤◌, List, ◌++◌, length, drop, false, Bool, Result, Ok, Err, IfOk, refl, sym, ap, ◌∙◌, subst, arith}
use Rattle.std.proofs.lemmas.Grind.{common_steps}
use Rattle.ymx_machine.specs.declared.types.Step.TheVariants as step
use Rattle.ymx_machine.specs.declared.types.Answer.TheVariants as answer
use Rattle.ymx_machine.specs.declared.types.Reply.TheVariants as reply
use Rattle.ymx_machine.specs.declared.types.Direction.{Direction}
use Rattle.ymx_machine.specs.declared.types.Direction.TheVariants.{AB, BA}
use Rattle.ymx_machine.specs.declared.types.Fed.{Fed}
use Rattle.ymx_model.specs.session.Sessions.{Session}
use Rattle.ymx_model.specs.session.Emissions.{in_turn}
use Rattle.ymx_model.specs.world.Worlds.{World, Pipe, Steps}
use Rattle.ymx_world.specs.Acts.{IsAppended, IsEmitted, IsFed}

-- what went after the bytes of a pipe, of which the first were delivered, went onto the pipe
pub appended_goes : {E : Type 0} (result : Result ℕ E) (room : ℕ) (s t : Session) (before after : List ℕ) (at : ℕ) (stopped ended : Bool) (p : Pipe) →
    record { bytes = drop at before; stopped = stopped; ended = ended } ≡ p → p.stopped ≡ false → at ≤ length before →
    IfOk result (λ count. IsAppended room count s t before after) →
    IfOk result (λ count. IsEmitted room count s t p (record { bytes = drop at after; stopped = stopped; ended = ended }))
appended_goes (Err fault) room s t before after at stopped ended p is runs within h = h
appended_goes (Ok count) room s t before after at stopped ended p is runs within h =
    let open_still : stopped ≡ false = ap (λ (z : Pipe). z.stopped) is ∙ runs in
    let rest : drop at after ≡ drop at before ++ h.out = subst (λ (zs : List ℕ). drop at zs ≡ drop at before ++ h.out) (sym h.goes) (grind (arith, common_steps)) in
    record {
      out = h.out;
      gives = h.gives;
      counted = h.counted;
      goes = grind (arith, common_steps);
    }

-- a delivery in this direction, which is that one
delivers : (d e : Direction) (n : ℕ) (fed : Fed) (w0 w v : World) → d ≡ e → w0 ≡ w → Steps in_turn (step.Deliver e n) (answer.Fed fed) w0 v → Steps in_turn (step.Deliver d n) (answer.Fed fed) w v
delivers d e n fed w0 w v way world one =
    subst (λ (z : World). Steps in_turn (step.Deliver d n) (answer.Fed fed) z v) world (subst (λ (k : Direction). Steps in_turn (step.Deliver k n) (answer.Fed fed) w0 v) (sym way) one)

-- a delivery is a step of the world
pub delivers_ab : (d : Direction) (n : ℕ) (fed : Fed) (a b t : Session) (ab q ba : Pipe) (w : World) →
    d ≡ AB → record { a = a; b = b; ab = ab; ba = ba } ≡ w → IsFed n fed b t ab q →
    Steps in_turn (step.Deliver d n) (answer.Fed fed) w (record { a = a; b = t; ab = q; ba = ba })
delivers_ab d n fed a b t ab q ba w way world h =
    delivers d AB n fed (record { a = a; b = b; ab = ab; ba = ba }) w (record { a = a; b = t; ab = q; ba = ba }) way world
    (reply.Fed fed, t, h.gives, refl, ap (λ (z : Pipe). record { a = a; b = t; ab = z; ba = ba }) h.leaves)

pub delivers_ba : (d : Direction) (n : ℕ) (fed : Fed) (a b t : Session) (ab q ba : Pipe) (w : World) →
    d ≡ BA → record { a = a; b = b; ab = ab; ba = ba } ≡ w → IsFed n fed a t ba q →
    Steps in_turn (step.Deliver d n) (answer.Fed fed) w (record { a = t; b = b; ab = ab; ba = q })
delivers_ba d n fed a b t ab q ba w way world h =
    delivers d BA n fed (record { a = a; b = b; ab = ab; ba = ba }) w (record { a = t; b = b; ab = ab; ba = q }) way world
    (reply.Fed fed, t, h.gives, refl, ap (λ (z : Pipe). record { a = b; b = t; ab = z; ba = ab }) h.leaves)
