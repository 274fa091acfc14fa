-- A step of the world is a step of the machine: at either side, from a step at side A.
use Rattle.std.proofs.Common.{◌≡◌, ℕ, List, [], ◌∷◌, length, Bool, true, false, not, map, refl, sym, subst, inl, inr}
use Rattle.ymx_model.specs.declared.types.Role.{Role}
use Rattle.ymx_model.specs.declared.types.Role.TheVariants.{Client, Server}
use Rattle.ymx_machine.specs.declared.types.Direction.{Direction}
use Rattle.ymx_machine.specs.declared.types.Step.{Step}
use Rattle.ymx_machine.specs.declared.types.Step.TheVariants as step
use Rattle.ymx_machine.specs.declared.types.Answer.{Answer}
use Rattle.ymx_machine.specs.stream.Streams.{Stream, flip}
use Rattle.ymx_machine.specs.declared.types.Side.{Side}
use Rattle.ymx_machine.specs.shared.Events.{Call}
use Rattle.ymx_machine.specs.declared.types.Call.TheVariants as call
use Rattle.ymx_machine.specs.shared.Events.{Reply}
use Rattle.ymx_model.specs.session.Histories.{CallGives}
use Rattle.ymx_machine.specs.stream.StreamRules.StreamCall.{Writes, Reads, Finishes, Resets, Forgets}
use Rattle.ymx_model.specs.session.Sessions.{Session}
use Rattle.ymx_machine.specs.declared.types.Reply.TheVariants.{Emitted as EmittedReply}
use Rattle.ymx_model.specs.session.Emissions.{Choice, Flows}
use Rattle.ymx_model.specs.session.Emissions.Choice.{TheErrorDue, TheGoAway, TheAnswer, ThePing, AStream}
use Rattle.ymx_model.specs.world.Worlds.{World, StepOfA, Steps, Runs, mirror_world as world_mirror}
use Rattle.ymx_machine.specs.shared.Steps.{is_of_a}
use Rattle.ymx_machine.specs.machine.Machines.{Machine, mirror_machine, flip_entry}
use Rattle.ymx_machine.specs.machine.Runs.{MachineStepOfA, MachineRun}
use Rattle.ymx_machine.proofs.Tests.{when}
use Rattle.ymx_headline.proofs.machine.lanes.StreamFacts.{if-so_true, if-so_false}
use Rattle.ymx_headline.proofs.machine.order.Maps.{flip-back}
use Rattle.ymx_headline.specs.Agrees.{RunsAlike, Agrees, AgreesAs, Follows}
use Rattle.ymx_headline.proofs.relation.Mirrors.{mirrors-agree}
use Rattle.ymx_headline.proofs.relation.Still.{still}
use Rattle.ymx_headline.proofs.calls.StreamCalls.{so-true, so-false, Called, stream-called}
use Rattle.ymx_headline.proofs.calls.Opens.{opens-called, opens_with-called}
use Rattle.ymx_headline.proofs.calls.Accepts.{accept-called}
use Rattle.ymx_headline.proofs.calls.PingCalls.{ping-called, ponged-called}
use Rattle.ymx_headline.proofs.calls.SessionCalls.{go_away-called, close-called}
use Rattle.ymx_headline.proofs.emissions.Emits.{BeginsAlike, flows-agree, stream-begins, error_due-begins}
use Rattle.ymx_headline.proofs.emissions.SessionFrames.{go_away-begins}
use Rattle.ymx_headline.proofs.emissions.PingFrames.{answer-begins, ping-begins}
use Rattle.ymx_headline.proofs.calls.Ends.{stop-step, end-step}

-- ---- a run alike is both runs

pub both-runs : (may : Choice → Session → Bool) (sts : List Step) (given : List Answer) (w v : World) (m n : Machine) → RunsAlike may sts given w m v n → Runs may sts given w v × MachineRun sts given m n
both-runs may [] [] w v m n r = r
both-runs may (st ∷ sts) (given ∷ more) w v m n r = let k = both-runs may sts more r.0 v r.1 n r.5 in ((r.0, r.2, k.0), (r.1, r.3, k.1))
both-runs may [] (given ∷ more) w v m n r = absurd r
both-runs may (st ∷ sts) [] w v m n r = absurd r

-- ---- from side A to either side

streams-back : (xs : List (ℕ × Stream)) → map flip_entry (map flip_entry xs) ≡ xs
streams-back [] = refl
streams-back (p ∷ ps) = rw (flip-back p.1, streams-back ps) refl

pub mirror-back : (m : Machine) → mirror_machine (mirror_machine m) ≡ m
mirror-back m = rw (streams-back m.streams) refl

abbrev pub AtA : (may : Choice → Session → Bool) → Step → Answer → Type 0
AtA may st given = (x y : Role) (w v : World) (m : Machine) → StepOfA may st given w v → AgreesAs x y w m → (n : Machine) × MachineStepOfA st given m n × AgreesAs x y v n

pub at-either : (may : Choice → Session → Bool) (st : Step) (given : Answer) (w v : World) (m : Machine) → AtA may st given → Steps may st given w v → Agrees w m → Follows st given v m
at-either may st given w v m f s h = elim (when (is_of_a st)) [
  | inl t ↦ (let k = f Client Server w v m (if-so_true _ _ _ t s) h in (k.0, so-true _ _ _ t k.1, k.2, still Client Server v k.0 k.2))
  | inr t ↦ (let k = f Server Client (world_mirror w) (world_mirror v) (mirror_machine m) (if-so_false _ _ _ t s) (mirrors-agree Client Server w m h) in
      let agrees = mirrors-agree Server Client (world_mirror v) k.0 k.2 in
      (mirror_machine k.0, so-false _ _ _ t (subst (MachineStepOfA st given (mirror_machine m)) (sym (mirror-back k.0)) k.1), agrees, still Client Server v (mirror_machine k.0) agrees))
]

pub stops : (may : Choice → Session → Bool) (d : Direction) (given : Answer) (w v : World) (m : Machine) → Steps may (step.Stop d) given w v → Agrees w m → Follows (step.Stop d) given v m
stops may d given w v m s h = at-either may (step.Stop d) given w v m (stop-step may d given) s h

pub ends : (may : Choice → Session → Bool) (d : Direction) (given : Answer) (w v : World) (m : Machine) → Steps may (step.End d) given w v → Agrees w m → Follows (step.End d) given v m
ends may d given w v m s h = at-either may (step.End d) given w v m (end-step may d given) s h

-- ---- an emission

bytes-same : (a b : List ℕ) → EmittedReply a ≡ EmittedReply b → b ≡ a
bytes-same a b e = cc

emit-step : ((c : Choice) → BeginsAlike c) → (may : Choice → Session → Bool) (side : Side) (room : ℕ) (given : Answer) → AtA may (step.Emit side room) given
emit-step begins may side room given x y w v m s h =
    let out = bytes-same s.0 s.2.0 s.2.1 in
    let k = flows-agree begins may s.0 x y w m h s.1 (subst (λ bs. Flows may bs w.a s.1) out s.2.2.flows) in
    (k.now, (length s.0, k.ids, s.3, k.releases), subst (λ u. AgreesAs x y u k.now) (sym s.4) k.agrees)

each-begins : (c : Choice) → BeginsAlike c
each-begins TheErrorDue = error_due-begins
each-begins TheGoAway = go_away-begins
each-begins TheAnswer = answer-begins
each-begins (ThePing n) = ping-begins n
each-begins (AStream id limit) = stream-begins id limit

pub emissions : (may : Choice → Session → Bool) (side : Side) (room : ℕ) (given : Answer) (w v : World) (m : Machine) → Steps may (step.Emit side room) given w v → Agrees w m → Follows (step.Emit side room) given v m
emissions may side room given w v m s h = at-either may (step.Emit side room) given w v m (emit-step each-begins may side room given) s h

-- ---- a call

abbrev pub CalledAlike : Call → Type 0
CalledAlike c = (x y : Role) (w : World) (m : Machine) (h : AgreesAs x y w m) (s : Session) (reply : Reply) → CallGives w.a c reply s → Called x y c reply w s m

call-step : (may : Choice → Session → Bool) (side : Side) (c : Call) (given : Answer) → CalledAlike c → AtA may (step.At side c) given
call-step may side c given f x y w v m s h =
    let k = f x y w m h s.1 s.0 s.2 in
    (k.now, (s.0, k.mid, k.ids, s.3, k.rule, k.releases), subst (λ u. AgreesAs x y u k.now) (sym s.4) k.agrees)

each-call : (c : Call) → CalledAlike c
each-call call.Open x y w m h s reply g = opens-called x y w m h s reply g
each-call (call.OpenWith bytes) x y w m h s reply g = opens_with-called bytes x y w m h s reply g
each-call call.Accept x y w m h s reply g = accept-called x y w m h s reply g
each-call (call.Write id bytes) x y w m h s reply g = stream-called x y w m h s id (Writes bytes) reply g
each-call (call.Read id max) x y w m h s reply g = stream-called x y w m h s id (Reads max) reply g
each-call (call.Finish id) x y w m h s reply g = stream-called x y w m h s id Finishes reply g
each-call (call.Reset id) x y w m h s reply g = stream-called x y w m h s id Resets reply g
each-call (call.Forget id) x y w m h s reply g = stream-called x y w m h s id Forgets reply g
each-call call.Ping x y w m h s reply g = ping-called x y w m h s reply g
each-call (call.Ponged k) x y w m h s reply g = ponged-called k x y w m h s reply g
each-call call.GoAway x y w m h s reply g = go_away-called x y w m h s reply g
each-call call.Close x y w m h s reply g = close-called x y w m h s reply g

pub calls : (may : Choice → Session → Bool) (side : Side) (c : Call) (given : Answer) (w v : World) (m : Machine) → Steps may (step.At side c) given w v → Agrees w m → Follows (step.At side c) given v m
calls may side c given w v m s h = at-either may (step.At side c) given w v m (call-step may side c given (each-call c)) s h
