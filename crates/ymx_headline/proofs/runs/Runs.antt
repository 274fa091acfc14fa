-- Runs of a world: step by step a run of the machine, and what follows from the machine's laws.
use Rattle.std.proofs.Common.{◌≡◌, ℕ, zero, suc, ◌%◌, List, [], ◌∷◌, length, take, Bool, true, false, not, ◌&&◌, ◌||◌, ◌==◌, nat_le, Option, None, Some, refl, sym, ap, subst, ◌∙◌, inl, inr, arith}
use Rattle.std.specs.Prelude.{count_by}
use Rattle.std.specs.List.{All}
use Rattle.std.proofs.lemmas.Bool.Decides.{nat_tests}
use Rattle.std.proofs.lemmas.List.Elements.{All-nil, All-cons}
use Rattle.ymx_model.specs.declared.types.Role.{Role}
use Rattle.ymx_model.specs.declared.types.Role.TheVariants.{Client, Server}
use Rattle.ymx_machine.specs.declared.types.Side.TheVariants.{A, B}
use Rattle.ymx_machine.specs.declared.types.Step.{Step}
use Rattle.ymx_machine.specs.declared.types.Step.TheVariants as step
use Rattle.ymx_machine.specs.declared.types.Answer.{Answer}
use Rattle.ymx_machine.specs.shared.Events.{Reply}
use Rattle.ymx_machine.specs.declared.types.Reply.TheVariants.{Done}
use Rattle.ymx_machine.specs.shared.Events.{Call}
use Rattle.ymx_machine.specs.declared.types.Call.TheVariants as call
use Rattle.ymx_model.specs.declared.types.Response.{Response}
use Rattle.ymx_machine.specs.shared.Phases.{Phase, is_live, is_reset}
use Rattle.ymx_machine.specs.stream.Streams.{Stream}
use Rattle.ymx_machine.specs.shared.Replies.{unless_refused, write_reply, read_reply}
use Rattle.ymx_machine.specs.shared.Limits.{most_pings, most_records, most_unacknowledged}
use Rattle.ymx_model.specs.session.Pings.{has_back}
use Rattle.ymx_model.specs.session.Records.{End}
use Rattle.ymx_machine.specs.shared.Lists.{look}
use Rattle.ymx_model.specs.session.Sessions.{Session, is_own, is_lost, is_closed}
use Rattle.ymx_model.specs.session.Calls.{Outcome, outcome, open_or, accept_of, at_stream, at_record, is_unacknowledged}
use Rattle.ymx_model.specs.session.Histories.{CallGives}
use Rattle.ymx_model.specs.session.Histories.CallGives.{Outcome as HasOutcome, NoMemory}
use Rattle.ymx_machine.proofs.Tests.{split, when}
use Rattle.ymx_model.specs.session.Emissions.{Choice}
use Rattle.ymx_model.specs.world.Worlds.{World, Steps, Runs, StepOfA, new_world, mirror_world as world_mirror}
use Rattle.ymx_machine.specs.shared.Steps.{answer_of, is_of_a}
use Rattle.ymx_machine.specs.machine.Machines.{Machine, mirror_machine, new_machine}
use Rattle.ymx_machine.specs.machine.Runs.{MachineStep, MachineStepOfA}
use Rattle.ymx_headline.specs.stream.Worlds.{StreamWorld as Streams}
use Rattle.ymx_headline.proofs.stream.OneStream.{one-shows}
use Rattle.ymx_headline.specs.machine.Runs.{ObeysAt}
use Rattle.ymx_headline.specs.machine.Faces.{DeliversWithin, FitWindows}
use Rattle.ymx_headline.proofs.machine.order.Maps.{look-mirror, flipped}
use Rattle.ymx_headline.proofs.machine.lanes.MachineLaws.{law}
use Rattle.ymx_headline.proofs.machine.faces.RunFaces.{face, odd-even}
use Rattle.ymx_headline.proofs.machine.lanes.StreamFacts.{if-so_true, if-so_false}
use Rattle.ymx_headline.specs.Agrees.{RunsAlike, Agrees, Follows}
use Rattle.ymx_headline.specs.Laws.{AreGood, HasRun, breaks_off}
use Rattle.ymx_headline.proofs.relation.Begins.{begins}
use Rattle.ymx_headline.proofs.relation.Counts.{Stands, stands, no-record}
use Rattle.ymx_headline.proofs.relation.Mirrors.{mirrors-agree}
use Rattle.ymx_headline.proofs.deliveries.DeliverStep.{delivers}
use Rattle.ymx_headline.proofs.runs.Steps.{calls, emissions, stops, ends, both-runs}
use Rattle.ymx_machine.specs.Promise.{AllDeliverInOrder}

-- ---- every step

pub follows : (may : Choice → Session → Bool) (st : Step) (given : Answer) (w v : World) (m : Machine) → Steps may st given w v → Agrees w m → Follows st given v m
follows may (step.At side c) given w v m s h = calls may side c given w v m s h
follows may (step.Emit side room) given w v m s h = emissions may side room given w v m s h
follows may (step.Deliver d n) given w v m s h = delivers may d n given w v m s h
follows may (step.Stop d) given w v m s h = stops may d given w v m s h
follows may (step.End d) given w v m s h = ends may d given w v m s h

-- ---- every run

pub runs-alike : (may : Choice → Session → Bool) (sts : List Step) (given : List Answer) (w v : World) (m : Machine) → Runs may sts given w v → Agrees w m → HasRun may sts given w v m
runs-alike may [] [] w v m r h = (m, (r, refl), subst (λ z. Agrees z m) (sym r) h)
runs-alike may (st ∷ sts) (given ∷ more) w v m r h =
    let k = follows may st given w r.0 m r.1 h in
    let rest = runs-alike may sts more r.0 v k.0 r.2 k.2 in
    (rest.0, (r.0, k.0, r.1, k.1, k.3, rest.1), rest.2)
runs-alike may [] (given ∷ more) w v m r h = absurd r
runs-alike may (st ∷ sts) [] w v m r h = absurd r

-- ---- no answer is a fault

abbrev Sound : Outcome → Type 0
Sound o = breaks_off (answer_of o.reply) ≡ false

open-sound : (s : Session) (o : Outcome) → Sound o → Sound (open_or s o)
open-sound s o h =
    split Sound (is_closed s.status) _ _ (λ t. refl) (λ a.
    split Sound (is_lost s.status) _ _ (λ t. refl) (λ b.
    split Sound s.away.there _ _ (λ t. refl) (λ c.
    split Sound (nat_le 4294967294 s.next) _ _ (λ t. refl) (λ d.
    split Sound (nat_le most_unacknowledged (count_by (is_unacknowledged s.role) s.table.entries)) _ _ (λ t. refl) (λ e.
    split Sound (nat_le most_records (length s.table.entries)) _ _ (λ t. refl) (λ f. h))))))

abbrev SoundReply : Reply → Type 0
SoundReply r = breaks_off (answer_of r) ≡ false

unless-sound : (needs lost : Bool) (p : Phase) (said : Bool) (r : Reply) → SoundReply r → SoundReply (unless_refused needs lost p said r)
unless-sound needs lost p said r h =
    split SoundReply (is_reset p) _ _ (λ t. refl) (λ a.
    split SoundReply (not (is_live p)) _ _ (λ t. refl) (λ b.
    split SoundReply (needs && said) _ _ (λ t. refl) (λ c.
    split SoundReply lost _ _ (λ t. refl) (λ d. h))))

stream-sound : (id : ℕ) (f : End → Outcome) (s : Session) → ((e : End) → Sound (f e)) → Sound (at_stream id f s)
stream-sound id f s h = split Sound (is_closed s.status) _ _ (λ t. refl) (λ c. of (look id s.table.entries))
  where
    of : (o : Option End) → Sound (at_record f s o)
    of None = refl
    of (Some e) = h e

write-sound : (lost : Bool) (bytes : List ℕ) (p : Phase) (said : Bool) (credit : ℕ) → SoundReply (write_reply lost bytes p said credit)
write-sound lost bytes p said credit =
    unless-sound true lost p said _ (split SoundReply (length bytes == 0) _ _ (λ t. refl) (λ a. split SoundReply (credit == 0) _ _ (λ t. refl) (λ b. refl)))

read-sound : (lost : Bool) (max : ℕ) (p : Phase) (here : List ℕ) (ended : Bool) → SoundReply (read_reply lost max p here ended)
read-sound lost max p here ended =
    unless-sound false false p false _ (split SoundReply (max == 0) _ _ (λ t. refl) (λ a. split SoundReply (not (length here == 0)) _ _ (λ t. refl) (λ b.
    split SoundReply ended _ _ (λ t. refl) (λ c. split SoundReply lost _ _ (λ t. refl) (λ d. refl)))))

accept-sound : (ids : List ℕ) (s : Session) → Sound (accept_of ids s)
accept-sound [] s = split Sound (is_lost s.status) _ _ (λ t. refl) (λ f. refl)
accept-sound (id ∷ ids) s = refl

outcome-sound : (c : Call) (s : Session) → Sound (outcome c s)
outcome-sound call.Open s = open-sound s _ refl
outcome-sound (call.OpenWith bytes) s = open-sound s _ refl
outcome-sound call.Accept s = split Sound (is_closed s.status) _ _ (λ t. refl) (λ f. accept-sound s.offered s)
outcome-sound (call.Write id bytes) s = stream-sound id _ s (λ e. write-sound (is_lost s.status) bytes e.phase e.writer.finished e.writer.credit)
outcome-sound (call.Read id max) s = stream-sound id _ s (λ e. read-sound (is_lost s.status) max e.phase e.reader.unread e.reader.ended)
outcome-sound (call.Finish id) s = stream-sound id _ s (λ e. unless-sound true (is_lost s.status) e.phase e.writer.finished Done refl)
outcome-sound (call.Reset id) s = stream-sound id _ s (λ e. unless-sound false (is_lost s.status) e.phase false Done refl)
outcome-sound (call.Forget id) s = stream-sound id _ s (λ e. split SoundReply (is_live e.phase || is_reset e.phase) _ _ (λ t. refl) (λ f. refl))
outcome-sound call.Ping s =
    split Sound (is_closed s.status) _ _ (λ t. refl) (λ a. split Sound (is_lost s.status) _ _ (λ t. refl) (λ b. split Sound (nat_le most_pings (length s.pings.pending)) _ _ (λ t. refl) (λ c. refl)))
outcome-sound (call.Ponged k) s =
    split Sound (is_closed s.status) _ _ (λ t. refl) (λ a. split Sound (has_back k s.pings.pending) _ _ (λ t. refl) (λ b. split Sound (is_lost s.status) _ _ (λ t. refl) (λ c. refl)))
outcome-sound call.GoAway s = split Sound (is_closed s.status) _ _ (λ t. refl) (λ a. split Sound (is_lost s.status) _ _ (λ t. refl) (λ b. refl))
outcome-sound call.Close s = refl

call-sound : (c : Call) (s t : Session) (r : Reply) → CallGives s c r t → SoundReply r
call-sound c s t r (HasOutcome answer state) = subst SoundReply (sym answer) (outcome-sound c s)
call-sound c s t r (NoMemory needs answer state) = subst SoundReply (sym answer) refl

abbrev SoundAnswer : Answer → Type 0
SoundAnswer a = breaks_off a ≡ false

-- a step of the world that is one of the machine
step-sound : (may : Choice → Session → Bool) (st : Step) (given : Answer) (w v : World) (m n : Machine) → StepOfA may st given w v → MachineStepOfA st given m n → SoundAnswer given
step-sound may (step.At side c) given w v m n s k = subst SoundAnswer (sym s.3) (call-sound c w.a s.1 s.0 s.2)
step-sound may (step.Emit side room) given w v m n s k = subst SoundAnswer (sym s.3) refl
step-sound may (step.Deliver d count) given w v m n s k = subst SoundAnswer (sym k.3) k.4
step-sound may (step.Stop d) given w v m n s k = subst SoundAnswer (sym s.0) refl
step-sound may (step.End d) given w v m n s k = elim (when w.ab.stopped) [
  | inl t ↦ (let q = if-so_true _ _ _ t s in subst SoundAnswer (sym q.0) refl)
  | inr t ↦ (let q = if-so_false _ _ _ t s in subst SoundAnswer (sym q.0) refl)
]

steps-sound : (may : Choice → Session → Bool) (st : Step) (given : Answer) (w v : World) (m n : Machine) → Steps may st given w v → MachineStep st given m n → SoundAnswer given
steps-sound may st given w v m n s k = elim (when (is_of_a st)) [
  | inl t ↦ step-sound may st given w v m n (if-so_true _ _ _ t s) (if-so_true _ _ _ t k)
  | inr t ↦ step-sound may st given (world_mirror w) (world_mirror v) (mirror_machine m) (mirror_machine n) (if-so_false _ _ _ t s) (if-so_false _ _ _ t k)
]

pub none-breaks : (may : Choice → Session → Bool) (sts : List Step) (given : List Answer) (w v : World) (m n : Machine) → RunsAlike may sts given w m v n → All SoundAnswer given
none-breaks may [] [] w v m n r = All-nil SoundAnswer
none-breaks may (st ∷ sts) (given ∷ more) w v m n r =
    All-cons SoundAnswer given more (steps-sound may st given w r.0 m r.1 r.2 r.3) (none-breaks may sts more r.0 v r.1 n r.5)
none-breaks may [] (given ∷ more) w v m n r = absurd r
none-breaks may (st ∷ sts) [] w v m n r = absurd r

-- ---- runs from a new world

pub client-odd : (n : ℕ) → is_own Client n ≡ true → n % 2 ≡ 1
client-odd n e = grind (arith, nat_tests)

pub server-even : (n : ℕ) → is_own Server n ≡ true → n % 2 ≡ 0
server-even n e = grind (arith, nat_tests)

pub run-alike : (may : Choice → Session → Bool) (sts : List Step) (given : List Answer) (wa fa wb fb : ℕ) (w : World) → AreGood wa fa wb fb → Runs may sts given (new_world wa fa wb fb) w →
    HasRun may sts given (new_world wa fa wb fb) w (new_machine wa fa wb fb)
run-alike may sts given wa fa wb fb w g r =
    runs-alike may sts given (new_world wa fa wb fb) w (new_machine wa fa wb fb) r (begins wa fa wb fb g.low_a g.high_a g.low_b g.high_b g.client g.server g.small_a g.some_b g.small_b)

pub run-face : (may : Choice → Session → Bool) (sts : List Step) (given : List Answer) (wa fa wb fb : ℕ) (w : World) → AreGood wa fa wb fb → Runs may sts given (new_world wa fa wb fb) w → (id : ℕ) →
    DeliversWithin wb A B id sts given × DeliversWithin wa B A id sts given
run-face may sts given wa fa wb fb w g r id =
    let k = run-alike may sts given wa fa wb fb w g r in
    let both = both-runs may sts given (new_world wa fa wb fb) w (new_machine wa fa wb fb) k.0 k.1 in
    face wa fa wb fb sts given k.0 id g.low_a g.low_b (odd-even fa fb (client-odd fa g.client) (server-even fb g.server)) both.1

-- the first steps of a run are one
first-run : (may : Choice → Session → Bool) (made : ℕ) (sts : List Step) (given : List Answer) (w v : World) → Runs may sts given w v → (x : World) × Runs may (take made sts) (take made given) w x
first-run may zero sts given w v r = (w, refl)
first-run may (suc made) [] [] w v r = (w, refl)
first-run may (suc made) (st ∷ sts) (given ∷ more) w v r = let k = first-run may made sts more r.0 v r.2 in (k.0, (r.0, r.1, k.1))
first-run may (suc made) [] (given ∷ more) w v r = absurd r
first-run may (suc made) (st ∷ sts) [] w v r = absurd r

-- at every moment of a run
pub record FacesWithin (wa wb : ℕ) (sts : List Step) (given : List Answer) : Type 0 where
  pub faces : AllDeliverInOrder sts given
  pub windows : FitWindows wa wb sts given

pub run-faces : (may : Choice → Session → Bool) (sts : List Step) (given : List Answer) (wa fa wb fb : ℕ) (w : World) → AreGood wa fa wb fb → Runs may sts given (new_world wa fa wb fb) w → FacesWithin wa wb sts given
run-faces may sts given wa fa wb fb w g r =
    let at : (made id : ℕ) → DeliversWithin wb A B id (take made sts) (take made given) × DeliversWithin wa B A id (take made sts) (take made given) =
    λ made id. (let first = first-run may made sts given (new_world wa fa wb fb) w r in run-face may (take made sts) (take made given) wa fa wb fb first.0 g first.1 id) in
    record {
      faces = λ made id. ((at made id).0.face, (at made id).1.face);
      windows = λ made id. ((at made id).0.within_window, (at made id).1.within_window);
    }

pub run-lanes : (may : Choice → Session → Bool) (sts : List Step) (given : List Answer) (wa fa wb fb : ℕ) (w : World) → AreGood wa fa wb fb → Runs may sts given (new_world wa fa wb fb) w →
    (n : Machine) × RunsAlike may sts given (new_world wa fa wb fb) (new_machine wa fa wb fb) w n × Agrees w n × ((id : ℕ) → ObeysAt wa wb (look id n.streams))
run-lanes may sts given wa fa wb fb w g r =
    let k = run-alike may sts given wa fa wb fb w g r in
    let both = both-runs may sts given (new_world wa fa wb fb) w (new_machine wa fa wb fb) k.0 k.1 in
    (k.0, k.1, k.2, λ id. law wa fa wb fb sts given k.0 id g.low_a g.low_b both.1)
