-- From stage to stage: what the world answers, and where it stands then.
use Rattle.std.proofs.Common.{◌≡◌, ◌≢◌, ◌⊎◌, inl, inr, ℕ, ◌+◌, ◌<◌, ◌≤◌, List, [], length, min, true, false, None, Some, refl, sym, ap, subst, arith}
use Rattle.ymx_machine.specs.shared.Evidence.{evidence}
use Rattle.ymx_machine.specs.declared.types.Side.{Side}
use Rattle.ymx_machine.specs.declared.types.Side.TheVariants.{A, B}
use Rattle.ymx_machine.specs.declared.types.Step.{Step}
use Rattle.ymx_machine.specs.declared.types.Step.TheVariants as step
use Rattle.ymx_machine.specs.shared.Events.{Call}
use Rattle.ymx_machine.specs.declared.types.Call.TheVariants as call
use Rattle.ymx_machine.specs.declared.types.CallFault.TheVariants.{OutOfMemory}
use Rattle.ymx_machine.specs.declared.types.Wrote.TheVariants.{Took}
use Rattle.ymx_machine.specs.declared.types.Answer.{Answer}
use Rattle.ymx_machine.specs.declared.types.Answer.TheVariants as answer
use Rattle.ymx_machine.specs.shared.Limits.{first_credit, greatest_number}
use Rattle.ymx_machine.specs.stream.Streams.{Stream}
use Rattle.ymx_machine.specs.machine.Machines.{Machine, new_machine}
use Rattle.ymx_machine.specs.machine.Runs.{IsStillMachine}
use Rattle.ymx_model.specs.declared.types.Status.{Status}
use Rattle.ymx_model.specs.declared.types.Status.TheVariants.{Running, Lost, Broken, Closed}
use Rattle.ymx_model.specs.session.Sessions.{is_running, is_lost, is_broken, is_closed}
use Rattle.ymx_model.specs.session.Emissions.{in_turn}
use Rattle.ymx_model.specs.world.Worlds.{World, Steps, new_world}
use Rattle.ymx_headline.specs.Agrees.{Agrees, Follows}
use Rattle.ymx_headline.specs.Laws.{IsOpenPipe, IsOpenWorld}
use Rattle.ymx_world.specs.Driven.{no_memory_in, IsCarriedOn}
use Rattle.ymx_joined.specs.Stages.{Numbers, alone, IsWritable, IsComing, IsComingOrRefused, IsDecided, IsReadable, Stands, IsNewWorld}
use Rattle.ymx_joined.proofs.Moves.{IsAt, still-counts}
use Rattle.ymx_joined.proofs.Carriage.{carriage-run, driven-machine}
use Rattle.ymx_joined.proofs.CallSteps.{opened_numbers, open-step, write-step, finish-step, accept-step, read-step}

-- ---- an open world stays open under calls

runs : (status : Status) → false ≡ is_closed status → (is_closed status ≡ false → false ≡ is_lost status) → is_broken status ≡ false → is_running status ≡ true
runs Running c l b = refl
runs Lost c l b = let k : false ≡ true = l refl in absurd cc
runs (Broken fault) c l b = absurd cc
runs Closed c l b = absurd cc

same-ab : (side : Side) (c : Call) (given : Answer) (w v : World) → Steps in_turn (step.At side c) given w v → v.ab ≡ w.ab
same-ab A c given w v s = ap (λ (x : World). x.ab) s.4
same-ab B c given w v s = ap (λ (x : World). x.ba) s.4

same-ba : (side : Side) (c : Call) (given : Answer) (w v : World) → Steps in_turn (step.At side c) given w v → v.ba ≡ w.ba
same-ba A c given w v s = ap (λ (x : World). x.ba) s.4
same-ba B c given w v s = ap (λ (x : World). x.ab) s.4

stays-open : (side : Side) (c : Call) (given : Answer) (w v : World) (k : Numbers) (id : ℕ) (s : Stream) (offered : List ℕ) → IsOpenWorld w → Steps in_turn (step.At side c) given w v →
    Agrees v (alone k id s offered) → IsOpenWorld v
stays-open side c given w v k id s offered o st a = record {
  a = runs v.a.status a.a.whole.closed a.a.whole.lost a.a.whole.sound;
  b = runs v.b.status a.b.whole.closed a.b.whole.lost a.b.whole.sound;
  ab = subst IsOpenPipe (sym (same-ab side c given w v st)) o.ab;
  ba = subst IsOpenPipe (sym (same-ba side c given w v st)) o.ba;
}

-- where the world stands after a call
pub stands : (side : Side) (c : Call) (given : Answer) (w v : World) (n : Machine) (k : Numbers) (id : ℕ) (Stage : Stream → List ℕ → Type 0) → IsOpenWorld w → Steps in_turn (step.At side c) given w v →
    Agrees v n → IsAt k id Stage n → Stands id Stage v
stands side c given w v n k id Stage o st a at =
    let b : Agrees v (alone k id at.stream at.offered) = subst (Agrees v) at.is a in record {
      open_world = stays-open side c given w v k id at.stream at.offered o st b;
      numbers = k;
      stream = at.stream;
      offered = at.offered;
      agrees = b;
      stage = at.stage;
    }

-- each machine that agreed follows the step
abbrev pub Followed : Step → Answer → World → World → Type 0
Followed st given w v = (m : Machine) → Agrees w m → Follows st given v m

-- ---- the calls

pub opens : (given : Answer) (w v : World) → IsNewWorld w → Steps in_turn (step.At A call.Open) given w v → Followed (step.At A call.Open) given w v →
    ((given ≡ answer.Opened 1) × Stands 1 (IsWritable first_credit []) v) ⊎ (given ≡ answer.Refused (OutOfMemory evidence))
opens given w v h st follows =
    let f = follows (new_machine h.window_a 1 h.window_b 2) h.agrees in
    elim (open-step h.window_a h.window_b given f.0 f.1) [
      | inl made ↦ inl (made.0, stands A call.Open given w v f.0 (opened_numbers h.window_a h.window_b) 1 (IsWritable first_credit []) h.open_world st f.2 made.1)
      | inr none ↦ inr none
    ]

pub writes : (id : ℕ) (bytes : List ℕ) (given : Answer) (w v : World) → Stands id (IsWritable (length bytes) []) w → Steps in_turn (step.At A (call.Write id bytes)) given w v →
    Followed (step.At A (call.Write id bytes)) given w v →
    ((given ≡ answer.Wrote (Took (length bytes))) × Stands id (IsWritable 0 bytes) v) ⊎ (given ≡ answer.Refused (OutOfMemory evidence))
writes id bytes given w v h st follows =
    let f = follows (alone h.numbers id h.stream h.offered) h.agrees in
    elim (write-step h.numbers id bytes h.stream h.offered given f.0 h.stage f.1) [
      | inl made ↦ inl (made.0, stands A (call.Write id bytes) given w v f.0 h.numbers id (IsWritable 0 bytes) h.open_world st f.2 made.1)
      | inr none ↦ inr none
    ]

pub finishes : (id : ℕ) (bytes : List ℕ) (given : Answer) (w v : World) → Stands id (IsWritable 0 bytes) w → Steps in_turn (step.At A (call.Finish id)) given w v →
    Followed (step.At A (call.Finish id)) given w v → (given ≡ answer.Done) × Stands id (IsComing id bytes) v
finishes id bytes given w v h st follows =
    let f = follows (alone h.numbers id h.stream h.offered) h.agrees in
    let made = finish-step h.numbers id 0 bytes h.stream h.offered given f.0 h.stage f.1 in
    (made.0, stands A (call.Finish id) given w v f.0 h.numbers id (IsComing id bytes) h.open_world st f.2 made.1)

-- some were refused on the way, so the count isn't 0
some-counted : (total no_memory : ℕ) → no_memory ≡ min total greatest_number → 0 < total → 0 < no_memory
some-counted total no_memory e some = omega (arith, e, some)

pub drives : (no_memory id : ℕ) (bytes : List ℕ) (w v : World) → Stands id (IsComing id bytes) w → IsCarriedOn no_memory w v → ((m : Machine) → Agrees v m → IsStillMachine m) →
    Stands id (IsDecided no_memory id bytes) v
drives no_memory id bytes w v h carried still =
    let total = no_memory_in carried.answers in
    let f = carried.queues (alone h.numbers id h.stream h.offered) h.agrees in
    let all : total ≡ 0 + total = omega arith in
    let at = carriage-run h.numbers id 0 total bytes in_turn carried.steps carried.answers w v (alone h.numbers id h.stream h.offered) f.0 all carried.alone f.1
    (record { stream = h.stream; offered = h.offered; is = refl; stage = inl h.stage }) in
    let b : Agrees v (alone h.numbers id at.stream at.offered) = subst (Agrees v) at.is f.2 in
    let stage : IsComingOrRefused no_memory id bytes at.stream at.offered =
    still-counts id total no_memory bytes at.stream at.offered (some-counted total no_memory carried.counted) at.stage in record {
      open_world = carried.on h.open_world;
      numbers = h.numbers;
      stream = at.stream;
      offered = at.offered;
      agrees = b;
      stage = driven-machine h.numbers id no_memory bytes at.stream at.offered (still (alone h.numbers id at.stream at.offered) b) stage;
    }

pub accepts : (no_memory id : ℕ) (bytes : List ℕ) (given : Answer) (w v : World) → Stands id (IsDecided no_memory id bytes) w → Steps in_turn (step.At B call.Accept) given w v →
    Followed (step.At B call.Accept) given w v →
    ((given ≡ answer.Accepted (Some id)) × Stands id (IsReadable bytes) v) ⊎ ((given ≡ answer.Accepted None) × (0 < no_memory))
accepts no_memory id bytes given w v h st follows =
    let f = follows (alone h.numbers id h.stream h.offered) h.agrees in
    elim (accept-step h.numbers id no_memory bytes h.stream h.offered given f.0 h.stage f.1) [
      | inl made ↦ inl (made.0, stands B call.Accept given w v f.0 h.numbers id (IsReadable bytes) h.open_world st f.2 made.1)
      | inr none ↦ inr none
    ]

pub reads : (id max : ℕ) (rest : List ℕ) (given : Answer) (w v : World) → 0 < max → length rest ≤ max → Stands id (IsReadable rest) w → Steps in_turn (step.At B (call.Read id max)) given w v →
    Followed (step.At B (call.Read id max)) given w v →
    ((given ≡ answer.Read rest) × (rest ≢ []) × Stands id (IsReadable []) v) ⊎ ((given ≡ answer.ReadEnd) × (rest ≡ []) × Stands id (IsReadable []) v)
reads id max rest given w v some fits h st follows =
    let f = follows (alone h.numbers id h.stream h.offered) h.agrees in
    elim (read-step h.numbers id max rest h.stream h.offered given f.0 some fits h.stage f.1) [
      | inl made ↦ inl (made.0, made.1, stands B (call.Read id max) given w v f.0 h.numbers id (IsReadable []) h.open_world st f.2 made.2)
      | inr none ↦ inr (none.0, none.1, stands B (call.Read id max) given w v f.0 h.numbers id (IsReadable []) h.open_world st f.2 none.2)
    ]

-- ---- a new world

pub new-stands : (window_a window_b : ℕ) (w : World) → w ≡ new_world window_a 1 window_b 2 → Agrees w (new_machine window_a 1 window_b 2) → IsNewWorld w
new-stands window_a window_b w is a = record {
  open_world = subst IsOpenWorld (sym is) (record { a = refl; b = refl; ab = record { on = refl; untold = refl }; ba = record { on = refl; untold = refl } });
  window_a = window_a;
  window_b = window_b;
  agrees = a;
}

-- what was written is a copy
pub writes-copy : (id : ℕ) (copy bytes : List ℕ) (given : Answer) (w v : World) → copy ≡ bytes → Stands id (IsWritable (length bytes) []) w → Steps in_turn (step.At A (call.Write id copy)) given w v →
    Followed (step.At A (call.Write id copy)) given w v →
    ((given ≡ answer.Wrote (Took (length bytes))) × Stands id (IsWritable 0 bytes) v) ⊎ (given ≡ answer.Refused (OutOfMemory evidence))
writes-copy id copy bytes given w v e h st follows =
    subst (λ (z : List ℕ). ((given ≡ answer.Wrote (Took (length z))) × Stands id (IsWritable 0 z) v) ⊎ (given ≡ answer.Refused (OutOfMemory evidence))) e
    (writes id copy given w v (subst (λ (z : List ℕ). Stands id (IsWritable (length z) []) w) (sym e) h) st follows)
