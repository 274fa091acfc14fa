-- Driving the bytes of an open world comes to an end.
use Rattle.std.proofs.Common.{◌≡◌, ◌≤◌, List, [], ◌∷◌, length, Bool, true, false, refl, arith}
use Rattle.ymx_model.specs.declared.types.Role.TheVariants.{Client, Server}
use Rattle.ymx_machine.specs.declared.types.Step.{Step}
use Rattle.ymx_machine.specs.declared.types.Step.TheVariants as step
use Rattle.ymx_machine.specs.declared.types.Answer.{Answer}
use Rattle.ymx_model.specs.session.Sessions.{Session}
use Rattle.ymx_model.specs.session.Emissions.{Choice}
use Rattle.ymx_model.specs.world.Worlds.{World, Steps}
use Rattle.ymx_machine.specs.machine.Machines.{Machine}
use Rattle.ymx_headline.specs.world.Texts.{AreWithin, AreFrames, is_open}
use Rattle.ymx_headline.proofs.world.Worlds.{step-frames}
use Rattle.ymx_headline.specs.Agrees.{Agrees}
use Rattle.ymx_headline.specs.Laws.{IsOpenWorld, KeepsCarrying, is_carriage, carries_bytes, breaks_off}
use Rattle.ymx_headline.proofs.relation.Still.{still}
use Rattle.ymx_headline.proofs.emissions.Begun.{runs-open}
use Rattle.ymx_headline.proofs.bounds.Potential.{potential_of, Lowers, lowers, some-carried}
use Rattle.ymx_headline.proofs.runs.Runs.{follows, none-breaks}

pub carries-carriage : (st : Step) (given : Answer) → carries_bytes st given ≡ true → is_carriage st ≡ true
carries-carriage (step.Emit side room) given e = refl
carries-carriage (step.Deliver direction n) given e = refl
carries-carriage st given e = absurd cc

-- the number of an open world falls by the bytes that are carried
pub lowers-open : (may : Choice → Session → Bool) (st : Step) (given : Answer) (w v : World) → AreWithin w → AreFrames w → IsOpenWorld w → is_carriage st ≡ true → breaks_off given ≡ false → Steps may st given w v → Lowers st given w v
lowers-open may st given w v h fr o c sound s =
    let open_ab : is_open w.b w.ab w.a ≡ true = rw (o.ab.on, o.b, runs-open w.a.status o.a) refl in
    let open_ba : is_open w.a w.ba w.b ≡ true = rw (o.ba.on, o.a, runs-open w.b.status o.b) refl in
    let ab = fr.ab open_ab in
    let ba = fr.ba open_ba in
    lowers may st given w v ab.0 ba.0 h o ab.1 ba.1 c sound s

pub ends : (may : Choice → Session → Bool) (sts : List Step) (given : List Answer) (w v : World) (m : Machine) → Agrees w m → AreFrames w → IsOpenWorld w → KeepsCarrying may sts given w v → length sts ≤ potential_of w
ends may [] [] w v m a fr o k = omega arith
ends may (st ∷ sts) (given ∷ more) w v m a fr o (c, x, s, rest) =
    let n = follows may st given w x m s a in
    let sound : breaks_off given ≡ false = none-breaks may (st ∷ []) (given ∷ []) w x m n.0 (x, n.0, s, n.1, still Client Server x n.0 n.2, (refl, refl)) 0 given (omega arith) in
    let h : AreWithin w = record { a = a.a.within; b = a.b.within } in
    let l = lowers-open may st given w x h fr o (carries-carriage st given c) sound s in
    let fall = l.lower in
    let some = some-carried st given c in
    let on = ends may sts more x v n.0 n.2 (step-frames may st given w x s h fr) l.on rest in
    omega (arith, fall, some, on)
ends may _ _ w v m a fr o k = absurd k
