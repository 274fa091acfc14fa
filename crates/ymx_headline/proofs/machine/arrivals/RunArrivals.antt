-- What reads and accepts answer at rest, over all runs.
use Rattle.std.proofs.Common.{◌≡◌, ◌≢◌, inl, inr, ℕ, zero, suc, ◌%◌, ◌≤◌, List, [], ◌∷◌, take, Bool, true, false, ◌&&◌, ◌||◌, Option, None, Some, refl, sym, subst, add-one, ◌+◌, not, arith}
use Rattle.std.specs.Prelude.{slice_get}
use Rattle.ymx_machine.specs.declared.types.Side.{Side}
use Rattle.ymx_machine.specs.declared.types.Side.TheVariants.{A, B}
use Rattle.ymx_machine.specs.shared.Events.{Call}
use Rattle.ymx_machine.specs.declared.types.Call.TheVariants as call
use Rattle.ymx_machine.specs.declared.types.Step.{Step}
use Rattle.ymx_machine.specs.declared.types.Step.TheVariants as step
use Rattle.ymx_machine.specs.declared.types.Answer.{Answer}
use Rattle.ymx_machine.specs.declared.types.Answer.TheVariants as answer
use Rattle.ymx_machine.specs.shared.Limits.{first_credit}
use Rattle.ymx_machine.specs.shared.Lists.{look}
use Rattle.ymx_machine.specs.shared.Steps.{is_of_a, answer_of}
use Rattle.ymx_machine.specs.stream.Streams.{Stream}
use Rattle.ymx_machine.specs.machine.Machines.{Machine, mirror_machine, new_machine}
use Rattle.ymx_machine.specs.machine.FreeMoves.{FreeMove, MayMove, moved_by}
use Rattle.ymx_machine.specs.machine.Runs.{MachineStep, MachineStepOfA, MachineRun, IsStillMachine}
use Rattle.ymx_machine.specs.Promise.{is_same_side}
use Rattle.ymx_machine.proofs.Tests.{when, both_of, one_some, none_of, is_le}
use Rattle.ymx_headline.specs.machine.Arrivals.{began_by, left_by, any_step, only_takes, is_at_rest, AllArrive, AllAreOffered, AllTakeEnough, AllAreGiven, away_by, lacked_by, opened}
use Rattle.ymx_headline.specs.machine.Runs.{StillRun, IsOpenMachine}
use Rattle.ymx_headline.proofs.machine.lanes.StreamFacts.{if-so_true, if-so_false}
use Rattle.ymx_headline.proofs.machine.order.Cores.{core, Sound, kept-moves, kept-releases}
use Rattle.ymx_headline.proofs.machine.faces.Pasts.{Past}
use Rattle.ymx_headline.proofs.machine.faces.Effects.{effect, tell_outbound, tell_inbound}
use Rattle.ymx_headline.proofs.machine.faces.MachineFaces.{Faced, faced-effect, faced-move, faced-mirror}
use Rattle.ymx_headline.proofs.machine.faces.RunFaces.{other, other-side, or-false, or-assoc, same, grown, faced-step, run_past, run-step, blank, faced-new, Speaks, speaks-a, speaks-b}
use Rattle.ymx_headline.proofs.machine.arrivals.Rests.{IsRestingMachine, still-machine, rests-step, rests-mirror}
use Rattle.ymx_headline.proofs.machine.arrivals.Tales.{Tale}
use Rattle.ymx_headline.proofs.machine.arrivals.Told.{FitsAt, longer, told-move, told-mirror, told-unmirror, told-call}
use Rattle.ymx_headline.proofs.machine.arrivals.Reads.{gives, comes, none-waits, all-given}
use Rattle.ymx_headline.proofs.machine.arrivals.Writes.{still-mirror, open-mirror, takes}
use Rattle.ymx_headline.proofs.machine.lanes.MachineLaws.{law, obeys-mirror, Lawful, lawful-step, lawful-new}
use Rattle.ymx_headline.proofs.machine.arrivals.Places.{PlacesOfMe, PlacesOfYou, one, me-same, you-same, places-of_a, places-of_b, to-you}

-- ---- a step

-- a step of one side tells the other side nothing
none-began : (a : Side) (i : ℕ) (c : Call) (given : Answer) → began_by (other a) i (step.At a c) given ≡ false
none-began a i c (answer.Opened id) = rw (other-side a) refl
none-began a i c (answer.OpenedWith id n) = rw (other-side a) refl
none-began a i c (answer.Accepted (Some id)) = rw (other-side a) refl
none-began a i c (answer.Accepted None) = refl
none-began a i c _ = refl

none-left : (a : Side) (i : ℕ) (c : Call) (given : Answer) → left_by (other a) i (step.At a c) given ≡ false
none-left a i (call.Reset id) answer.Done = rw (other-side a) refl
none-left a i (call.Forget id) answer.Done = rw (other-side a) refl
none-left a i _ _ = refl

untold : (b c : Bool) (x : Tale) → b ≡ false → c ≡ false → record { began = x.began || b; left = x.left || c } ≡ x
untold b c x e f = rw (e, f, or-false, or-false) refl

other-told : (a : Side) (i : ℕ) (c : Call) (given : Answer) (x : Tale) → longer (other a) i (step.At a c) given x ≡ x
other-told a i c given x = untold _ _ x (none-began a i c given) (none-left a i c given)

-- the face of a stream, and what was told of it
pub record Stands (mine yours i : ℕ) (past_out past_inbound : Past) (tale_me tale_you : Tale) (m : Machine) : Type 0 where
  pub faced : Faced mine yours i past_out past_inbound (core m)
  pub fits : FitsAt tale_me tale_you (look i m.streams)

stands-move : (mine yours i : ℕ) (po pi : Past) (x y : Tale) (v : FreeMove) (m : Machine) → MayMove v m → Stands mine yours i po pi x y m → Stands mine yours i po pi x y (moved_by v m)
stands-move mine yours i po pi x y v m a k =
    record { faced = faced-move mine yours i po pi v m a k.faced; fits = told-move mine yours i po pi x y v m a k.faced k.fits }

stands-mirror : (mine yours i : ℕ) (po pi : Past) (x y : Tale) (m : Machine) → Stands mine yours i po pi x y m → Stands yours mine i pi po y x (mirror_machine m)
stands-mirror mine yours i po pi x y m k = record { faced = faced-mirror mine yours i po pi m k.faced; fits = told-mirror x y i m k.fits }

fits-at : (mine yours i : ℕ) (a : Side) (po pi : Past) (x y : Tale) (c : Call) (given : Answer) (m n : Machine) → first_credit ≤ mine → first_credit ≤ yours →
    MachineStepOfA (step.At a c) given m n → Stands mine yours i po pi x y m → FitsAt (longer a i (step.At a c) given x) y (look i n.streams)
fits-at mine yours i a po pi x y c given m n w v h k =
    let z = longer a i (step.At a c) (answer_of h.0) x in
    let mid : Stands mine yours i (tell_outbound i c h.0 po) (tell_inbound i c h.0 pi) z y h.1 = record {
      faced = faced-effect mine yours i po pi c m h.0 h.1 w v (effect c m h.0 h.1 h.4) k.faced;
      fits = told-call mine yours a i c x y m h.0 h.1 k.faced.sound k.faced.numbered h.4 k.fits;
    } in
    let end = kept-releases (λ (u : Machine). Stands mine yours i (tell_outbound i c h.0 po) (tell_inbound i c h.0 pi) z y u) (stands-move mine yours i _ _ z y) h.2 h.1 n h.5 mid in
    subst (λ (g : Answer). FitsAt (longer a i (step.At a c) g x) y (look i n.streams)) (sym h.3) end.fits

-- what happens at neither caller tells nothing
quiet-told : (x : Tale) → record { began = x.began || false; left = x.left || false } ≡ x
quiet-told x = untold false false x refl refl

fits-quiet : (x y : Tale) (o : Option Stream) → FitsAt x y o → FitsAt (record { began = x.began || false; left = x.left || false }) (record { began = y.began || false; left = y.left || false }) o
fits-quiet x y o h = rw (quiet-told x, quiet-told y) h

fits-step_of : (mine yours i : ℕ) (a : Side) (po pi : Past) (x y : Tale) (st : Step) (given : Answer) (m n : Machine) → first_credit ≤ mine → first_credit ≤ yours → Speaks a st →
    MachineStepOfA st given m n → Stands mine yours i po pi x y m → FitsAt (longer a i st given x) (longer (other a) i st given y) (look i n.streams)
fits-step_of mine yours i a po pi x y (step.At sd c) given m n w v e h k =
    subst (λ (s : Side). FitsAt (longer a i (step.At s c) given x) (longer (other a) i (step.At s c) given y) (look i n.streams)) (sym e)
    (subst (λ (z : Tale). FitsAt (longer a i (step.At a c) given x) z (look i n.streams)) (sym (other-told a i c given y))
    (fits-at mine yours i a po pi x y c given m n w v (subst (λ (s : Side). MachineStepOfA (step.At s c) given m n) e h) k))
fits-step_of mine yours i a po pi x y (step.Emit sd room) given m n w v e h k =
    fits-quiet x y (look i n.streams) (kept-releases (λ (u : Machine). Stands mine yours i po pi x y u) (stands-move mine yours i po pi x y) h.1 m n h.3 k).fits
fits-step_of mine yours i a po pi x y (step.Deliver direction count) given m n w v e h k =
    let end = kept-moves (λ (u : Machine). Stands yours mine i pi po y x u) (stands-move yours mine i pi po y x) h.1 (mirror_machine m) h.2 (mirror_machine n) h.6 (stands-mirror mine yours i po pi x y m k) in
    fits-quiet x y (look i n.streams) (told-unmirror y x i n end.fits)
fits-step_of mine yours i a po pi x y (step.Stop direction) given m n w v e h k =
    fits-quiet x y (look i n.streams) (subst (λ (u : Machine). FitsAt x y (look i u.streams)) (sym h.1) k.fits)
fits-step_of mine yours i a po pi x y (step.End direction) given m n w v e h k = fits-quiet x y (look i n.streams) (elim (when m.outbound_stopped) [
  | inl s ↦ subst (λ (u : Machine). FitsAt x y (look i u.streams)) (sym (if-so_true _ _ _ s h).1) k.fits
  | inr s ↦ subst (λ (u : Machine). FitsAt x y (look i u.streams)) (sym (if-so_false _ _ _ s h).1) k.fits
])

stands-step : (mine yours i : ℕ) (po pi : Past) (x y : Tale) (st : Step) (given : Answer) (m n : Machine) → first_credit ≤ mine → first_credit ≤ yours →
    MachineStep st given m n → Stands mine yours i po pi x y m → Stands mine yours i (grown A B i st given po) (grown B A i st given pi) (longer A i st given x) (longer B i st given y) n
stands-step mine yours i po pi x y st given m n w v h k = record {
  faced = faced-step mine yours i po pi st given m n w v h k.faced;
  fits = elim (when (is_of_a st)) [
    | inl s ↦ fits-step_of mine yours i A po pi x y st given m n w v (speaks-a st s) (if-so_true _ _ _ s h) k
    | inr s ↦ told-unmirror _ _ i n
        (fits-step_of yours mine i B pi po y x st given (mirror_machine m) (mirror_machine n) v w (speaks-b st s) (if-so_false _ _ _ s h) (stands-mirror mine yours i po pi x y m k))
  ];
}

-- ---- a run

abbrev pub run_tale : Side → ℕ → List Step → List Answer → Tale → Tale
run_tale side i sts given x = record { began = x.began || any_step (began_by side i) sts given; left = x.left || any_step (left_by side i) sts given }

tale-step : (side : Side) (i : ℕ) (st : Step) (sts : List Step) (given : Answer) (more : List Answer) (x : Tale) → run_tale side i (st ∷ sts) (given ∷ more) x ≡ run_tale side i sts more (longer side i st given x)
tale-step side i st sts given more x = rw (or-assoc, or-assoc) refl

none-there : {X : Type 0} (x : X) (o : Option X) → o ≡ None → o ≡ Some x → ⊥
none-there x o e f = absurd (cc)

-- whether the last of so many steps left all quiet; `before`: it was so before them
abbrev pub was_quiet : (before : Bool) → (made : ℕ) → List Bool → Bool
was_quiet before zero told = before
was_quiet before (suc made) [] = false
was_quiet before (suc made) (q ∷ told) = was_quiet q made told

told-quiet : (before : Bool) (made : ℕ) (told : List Bool) → slice_get told made ≡ Some true → was_quiet before (suc made) told ≡ true
told-quiet before made [] e = absurd (none-there true (slice_get [] made) refl e)
told-quiet before zero (q ∷ told) e = one_some q true e
told-quiet before (suc made) (q ∷ told) e = told-quiet q made told e

-- Where a run from m has come after so many steps, and the step after them.
pub record ComesTo (mine yours i : ℕ) (at_rest quiet : Bool) (sts : List Step) (given : List Answer) (po pi : Past) (x y : Tale) (m : Machine) (st : Step) (answered : Answer) : Type 0 where
  pub here : Machine
  pub next : Machine
  pub stands : Stands mine yours i (run_past A B i sts given po) (run_past B A i sts given pi) (run_tale A i sts given x) (run_tale B i sts given y) here
  pub rests : at_rest ≡ true → IsRestingMachine here
  pub still : quiet ≡ true → IsStillMachine here × IsOpenMachine here
  pub run : MachineRun sts given m here
  pub steps : MachineStep st answered here next

-- and the one after that, if there is one
pub record GoesOn (sts : List Step) (given : List Answer) (made : ℕ) (n : Machine) : Type 0 where
  pub on : (st : Step) (answered : Answer) → slice_get sts (suc made) ≡ Some st → slice_get given (suc made) ≡ Some answered → (k : Machine) × MachineStep st answered n k

abbrev pub ComesBy : (mine yours i made : ℕ) (now before : Bool) (sts : List Step) (given : List Answer) (told : List Bool) (po pi : Past) (x y : Tale) (m : Machine) (st : Step) (answered : Answer) → Type 0
ComesBy mine yours i made now before sts given told po pi x y m st answered =
    (c : ComesTo mine yours i (is_at_rest now (take made sts) (take made told)) (was_quiet before made told) (take made sts) (take made given) po pi x y m st answered) × GoesOn sts given made c.next

first-on : (sts : List Step) (given : List Answer) (told : List Bool) (m n : Machine) (st : Step) (answered : Answer) → StillRun sts given told m n →
    slice_get sts zero ≡ Some st → slice_get given zero ≡ Some answered → (k : Machine) × MachineStep st answered m k
first-on (s ∷ sts) (g ∷ given) (q ∷ told) m n st answered h e f =
    (h.0, subst (λ (t : Step). MachineStep t answered m h.0) (one_some s st e) (subst (λ (t : Answer). MachineStep s t m h.0) (one_some g answered f) h.1))
first-on [] [] [] m n st answered h e f = absurd (none-there st (slice_get [] zero) refl e)
first-on _ _ _ m n st answered h e f = absurd h

stands-is : (mine yours i : ℕ) (po qo pi qi : Past) (x u y v : Tale) (m : Machine) → qo ≡ po → qi ≡ pi → u ≡ x → v ≡ y → Stands mine yours i po pi x y m → Stands mine yours i qo qi u v m
stands-is mine yours i po qo pi qi x u y v m a b c d h = rw (a, b, c, d) h

-- a world that only takes what has come stays at rest
rests-on : (mine yours : ℕ) (now q : Bool) (st : Step) (given : Answer) (m n : Machine) → (q ≡ true → IsStillMachine n × IsOpenMachine n) → (now ≡ true → IsRestingMachine m) →
    Sound mine yours (core m) → MachineStep st given m n → (q || (now && only_takes st)) ≡ true → IsRestingMachine n
rests-on mine yours now true st given m n s r so h e = let k = s refl in still-machine n k.0 k.1
rests-on mine yours now false st given m n s r so h e = let k = both_of now (only_takes st) e in rests-step mine yours st given m n k.1 so h (r k.0)

pub comes-by : (mine yours i made : ℕ) (now before : Bool) (sts : List Step) (given : List Answer) (told : List Bool) (po pi : Past) (x y : Tale) (st : Step) (answered : Answer) (m n : Machine) → first_credit ≤ mine → first_credit ≤ yours →
    StillRun sts given told m n → Stands mine yours i po pi x y m → (now ≡ true → IsRestingMachine m) → (before ≡ true → IsStillMachine m × IsOpenMachine m) → slice_get sts made ≡ Some st → slice_get given made ≡ Some answered →
    ComesBy mine yours i made now before sts given told po pi x y m st answered
comes-by mine yours i zero now before (s ∷ sts) (g ∷ given) (q ∷ told) po pi x y st answered m n w v h k r u e f = (
  record {
    here = m;
    next = h.0;
    stands = stands-is mine yours i po _ pi _ x _ y _ m (same po) (same pi) (quiet-told x) (quiet-told y) k;
    rests = r;
    still = u;
    run = refl;
    steps = subst (λ (t : Step). MachineStep t answered m h.0) (one_some s st e) (subst (λ (t : Answer). MachineStep s t m h.0) (one_some g answered f) h.1);
  },
  record { on = λ st2 g2 e2 f2. first-on sts given told h.0 n st2 g2 h.3 e2 f2 },
)
comes-by mine yours i (suc made) now before (s ∷ sts) (g ∷ given) (q ∷ told) po pi x y st answered m n w v h k r u e f =
    let c = comes-by mine yours i made (q || (now && only_takes s)) q sts given told (grown A B i s g po) (grown B A i s g pi) (longer A i s g x) (longer B i s g y) st answered h.0 n w v h.3
    (stands-step mine yours i po pi x y s g m h.0 w v h.1 k) (rests-on mine yours now q s g m h.0 h.2 r k.faced.sound h.1) h.2 e f in (
      record {
        here = c.0.here;
        next = c.0.next;
        stands = stands-is mine yours i _ _ _ _ _ _ _ _ c.0.here (run-step A B i s (take made sts) g (take made given) po) (run-step B A i s (take made sts) g (take made given) pi)
            (tale-step A i s (take made sts) g (take made given) x) (tale-step B i s (take made sts) g (take made given) y) c.0.stands;
        rests = c.0.rests;
        still = c.0.still;
        run = (h.0, h.1, c.0.run);
        steps = c.0.steps;
      },
      record { on = c.1.on },
    )
comes-by mine yours i made now before [] [] [] po pi x y st answered m n w v h k r u e f = absurd (none-there st (slice_get [] made) refl e)
comes-by mine yours i made now before _ _ _ po pi x y st answered m n w v h k r u e f = absurd h

-- ---- from a new machine

-- nothing was told yet
abbrev untaught : Tale
untaught = record { began = false; left = false }

stands-new : (wa fa wb fb i : ℕ) → fa % 2 ≢ fb % 2 → Stands wa wb i blank blank untaught untaught (new_machine wa fa wb fb)
stands-new wa fa wb fb i p = record { faced = faced-new wa fa wb fb i p; fits = (refl, refl) }

rests-new : (wa fa wb fb : ℕ) → IsRestingMachine (new_machine wa fa wb fb)
rests-new wa fa wb fb = record { each = λ i. tt; open_ = record { me_open = refl; you_open = refl; me_hears = refl; you_hears = refl } }

from-new : (wa fa wb fb i made : ℕ) (sts : List Step) (given : List Answer) (told : List Bool) (n : Machine) (st : Step) (answered : Answer) → first_credit ≤ wa → first_credit ≤ wb → fa % 2 ≢ fb % 2 →
    StillRun sts given told (new_machine wa fa wb fb) n → slice_get sts made ≡ Some st → slice_get given made ≡ Some answered → ComesBy wa wb i made true false sts given told blank blank untaught untaught (new_machine wa fa wb fb) st answered
from-new wa fa wb fb i made sts given told n st answered w v p h e f =
    comes-by wa wb i made true false sts given told blank blank untaught untaught st answered (new_machine wa fa wb fb) n w v h (stands-new wa fa wb fb i p) (λ _. rests-new wa fa wb fb) (λ k. absurd cc) e f

one-side : (s : Side) → is_same_side s s ≡ false → ⊥
one-side A e = absurd (cc)
one-side B e = absurd (cc)

-- each read at rest gives all
pub arrives : (wa fa wb fb : ℕ) (sts : List Step) (given : List Answer) (told : List Bool) (n : Machine) → first_credit ≤ wa → first_credit ≤ wb → fa % 2 ≢ fb % 2 →
    StillRun sts given told (new_machine wa fa wb fb) n → AllArrive sts given told
arrives wa fa wb fb sts given told n w v p h made i room A A g d q e f = absurd (one-side A d)
arrives wa fa wb fb sts given told n w v p h made i room B B g d q e f = absurd (one-side B d)
arrives wa fa wb fb sts given told n w v p h made i room B A g d q e f =
    let c = from-new wa fa wb fb i made sts given told n (step.At A (call.Read i room)) g w v p h e f in
    gives wa wb room i A _ _ _ _ c.0.here c.0.next g c.0.stands.faced c.0.stands.fits (c.0.rests q) c.0.steps
arrives wa fa wb fb sts given told n w v p h made i room A B g d q e f =
    let c = from-new wa fa wb fb i made sts given told n (step.At B (call.Read i room)) g w v p h e f in
    let k = stands-mirror wa wb i _ _ _ _ c.0.here c.0.stands in
    gives wb wa room i B _ _ _ _ (mirror_machine c.0.here) (mirror_machine c.0.next) g k.faced k.fits (rests-mirror c.0.here (c.0.rests q)) c.0.steps

-- what the opener may read has come to the other side
pub are-offered : (wa fa wb fb : ℕ) (sts : List Step) (given : List Answer) (told : List Bool) (n : Machine) → first_credit ≤ wa → first_credit ≤ wb → fa % 2 ≢ fb % 2 →
    StillRun sts given told (new_machine wa fa wb fb) n → AllAreOffered sts given told
are-offered wa fa wb fb sts given told n w v p h made i room A A g d q e f ae af = absurd (one-side A d)
are-offered wa fa wb fb sts given told n w v p h made i room B B g d q e f ae af = absurd (one-side B d)
are-offered wa fa wb fb sts given told n w v p h made i room A B g d q e f ae af =
    let c = from-new wa fa wb fb i made sts given told n (step.At A (call.Read i room)) g w v p h e f in
    let then = c.1.on (step.At B call.Accept) (answer.Accepted None) (rw add-one at ae) (rw add-one at af) in
    let r = rests-step wa wb (step.At A (call.Read i room)) g c.0.here c.0.next refl c.0.stands.faced.sound c.0.steps (c.0.rests q) in
    comes wa wb room i A _ _ _ _ c.0.here c.0.next g c.0.stands.faced c.0.stands.fits (c.0.rests q) c.0.steps
    (none-waits B (mirror_machine c.0.next) (mirror_machine then.0) r.open_.you_open r.open_.you_hears then.1)
are-offered wa fa wb fb sts given told n w v p h made i room B A g d q e f ae af =
    let c = from-new wa fa wb fb i made sts given told n (step.At B (call.Read i room)) g w v p h e f in
    let then = c.1.on (step.At A call.Accept) (answer.Accepted None) (rw add-one at ae) (rw add-one at af) in
    let r = rests-step wa wb (step.At B (call.Read i room)) g c.0.here c.0.next refl c.0.stands.faced.sound c.0.steps (c.0.rests q) in
    let k = stands-mirror wa wb i _ _ _ _ c.0.here c.0.stands in
    comes wb wa room i B _ _ _ _ (mirror_machine c.0.here) (mirror_machine c.0.next) g k.faced k.fits (rests-mirror c.0.here (c.0.rests q)) c.0.steps
    (none-waits A c.0.next then.0 r.open_.me_open r.open_.me_hears then.1)

-- a write where all is quiet goes on while half of the window is free
pub take-enough : (wa fa wb fb : ℕ) (sts : List Step) (given : List Answer) (told : List Bool) (n : Machine) → first_credit ≤ wa → first_credit ≤ wb → fa % 2 ≢ fb % 2 →
    StillRun sts given told (new_machine wa fa wb fb) n → AllTakeEnough wa wb sts given told
take-enough wa fa wb fb sts given told n w v p h made i bytes A A g d q e f = absurd (one-side A d)
take-enough wa fa wb fb sts given told n w v p h made i bytes B B g d q e f = absurd (one-side B d)
take-enough wa fa wb fb sts given told n w v p h made i bytes A B g d q e f = rw add-one (λ x y u.
    let c = from-new wa fa wb fb i (suc made) sts given told n (step.At A (call.Write i bytes)) g w v p h (rw add-one at e) (rw add-one at f) in
    let s = c.0.still (told-quiet false made told q) in
    takes wa wb i A bytes _ _ _ _ c.0.here c.0.next g c.0.stands.faced c.0.stands.fits s.0 s.1 (law wa fa wb fb _ _ c.0.here i w v c.0.run) x y u c.0.steps)
take-enough wa fa wb fb sts given told n w v p h made i bytes B A g d q e f = rw add-one (λ x y u.
    let c = from-new wa fa wb fb i (suc made) sts given told n (step.At B (call.Write i bytes)) g w v p h (rw add-one at e) (rw add-one at f) in
    let s = c.0.still (told-quiet false made told q) in
    let k = stands-mirror wa wb i _ _ _ _ c.0.here c.0.stands in
    takes wb wa i B bytes _ _ _ _ (mirror_machine c.0.here) (mirror_machine c.0.next) g k.faced k.fits (still-mirror c.0.here s.0) (open-mirror c.0.here s.1)
    (obeys-mirror wa wb i c.0.here (law wa fa wb fb _ _ c.0.here i w v c.0.run)) x y u c.0.steps)

-- ---- where no stream was refused

no-cause : (a b c : Bool) → (not a && not b && c) ≡ true → (a ≡ false) × (b ≡ false) × (c ≡ true)
no-cause a b c e = grind arith

opened-more : (given : Answer) (more : List Answer) → opened (given ∷ more) ≡ one given + opened more
opened-more (answer.Opened id) more = omega arith
opened-more (answer.OpenedWith id n) more = omega arith
opened-more _ more = omega arith

-- of a side, over a run
places-run : (K : ℕ → Machine → Type 0) (side : Side) (mine yours : ℕ) →
    ((op : ℕ) (st : Step) (given : Answer) (m n : Machine) → op ≤ 256 → Sound mine yours (core m) → away_by side st given ≡ false → lacked_by st given ≡ false → MachineStep st given m n → K op m → K (op + one given) n) →
    (op : ℕ) (sts : List Step) (given : List Answer) (m n : Machine) → first_credit ≤ mine → first_credit ≤ yours → op + opened given ≤ 256 → any_step (away_by side) sts given ≡ false →
    any_step lacked_by sts given ≡ false → Lawful mine yours (core m) → MachineRun sts given m n → K op m → K (op + opened given) n
places-run K side mine yours keep op [] [] m n u v few w l so h k =
    let e : op ≡ op + 0 = omega arith in subst (λ (x : ℕ). K x n) e (subst (K op) (sym h) k)
places-run K side mine yours keep op (st ∷ sts) (g ∷ given) m n u v few w l so h k =
    let more = opened-more g given in
    let a = none_of _ _ w in
    let b = none_of _ _ l in
    let on = keep op st g m h.0 (omega (arith, few)) so.sound a.0 b.0 h.1 k in
    let all = places-run K side mine yours keep (op + one g) sts given h.0 n u v (omega (arith, few, more)) a.1 b.1 (lawful-step mine yours st g m h.0 u v h.1 so) h.2 on in
    let e : op + opened (g ∷ given) ≡ (op + one g) + opened given = omega (arith, more) in
    subst (λ (x : ℕ). K x n) (sym e) all
places-run K side mine yours keep op [] (g ∷ given) m n u v few w l so h k = absurd h
places-run K side mine yours keep op (st ∷ sts) [] m n u v few w l so h k = absurd h

places-new_me : (wa fa wb fb : ℕ) → PlacesOfMe 0 (new_machine wa fa wb fb)
places-new_me wa fa wb fb = record { room = omega arith; few = omega arith; stays = refl; none = λ i. refl }

places-new_you : (wa fa wb fb : ℕ) → PlacesOfYou 0 (new_machine wa fa wb fb)
places-new_you wa fa wb fb = record { room = omega arith; few = omega arith; stays = refl; none = λ i. refl }

-- each stream of the other side was given
pub are-given : (wa fa wb fb : ℕ) (sts : List Step) (given : List Answer) (told : List Bool) (n : Machine) → first_credit ≤ wa → first_credit ≤ wb → fa % 2 ≢ fb % 2 →
    StillRun sts given told (new_machine wa fa wb fb) n → AllAreGiven sts given told
are-given wa fa wb fb sts given told n w v p h made i A A d q e f z has_it = absurd (one-side A d)
are-given wa fa wb fb sts given told n w v p h made i B B d q e f z has_it = absurd (one-side B d)
are-given wa fa wb fb sts given told n w v p h made i B A d q e f z has_it =
    let c = from-new wa fa wb fb i made sts given told n (step.At B call.Accept) (answer.Accepted None) w v p h e f in
    let r = c.0.rests q in
    let no = no-cause _ _ _ z in
    let few = is_le (opened (take made given)) 256 no.2 in
    let places = places-run PlacesOfYou B wa wb (places-of_b wa wb) 0 (take made sts) (take made given) (new_machine wa fa wb fb) c.0.here w v (omega (arith, few)) no.0 no.1 (lawful-new wa fa wb fb) c.0.run (places-new_you wa fa wb fb) in
    all-given wa wb _ i _ _ c.0.here (none-waits B (mirror_machine c.0.here) (mirror_machine c.0.next) r.open_.you_open r.open_.you_hears c.0.steps) c.0.stands.faced.sound places c.0.stands.fits r has_it
are-given wa fa wb fb sts given told n w v p h made i A B d q e f z has_it =
    let c = from-new wa fa wb fb i made sts given told n (step.At A call.Accept) (answer.Accepted None) w v p h e f in
    let r = c.0.rests q in
    let no = no-cause _ _ _ z in
    let few = is_le (opened (take made given)) 256 no.2 in
    let places = places-run PlacesOfMe A wa wb (places-of_a wa wb) 0 (take made sts) (take made given) (new_machine wa fa wb fb) c.0.here w v (omega (arith, few)) no.0 no.1 (lawful-new wa fa wb fb) c.0.run (places-new_me wa fa wb fb) in
    let k = stands-mirror wa wb i _ _ _ _ c.0.here c.0.stands in
    all-given wb wa _ i _ _ (mirror_machine c.0.here) (none-waits A c.0.here c.0.next r.open_.me_open r.open_.me_hears c.0.steps) k.faced.sound (to-you _ c.0.here places) k.fits (rests-mirror c.0.here r) has_it
