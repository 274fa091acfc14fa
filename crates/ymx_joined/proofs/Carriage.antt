-- Emissions and deliveries while the bytes are under way, and where they end.
use Rattle.std.proofs.Common.{◌≡◌, inl, inr, ℕ, ◌+◌, ◌<◌, List, [], ◌∷◌, ◌++◌, Bool, true, false, min, refl, sym, ap, ◌∙◌, subst, append-nil, arith}
use Rattle.std.specs.List.{All}
use Rattle.std.proofs.lemmas.List.Elements.{All-head, All-tail}
use Rattle.std.proofs.lemmas.List.Sums.{sum_by-cons}
use Rattle.ymx_machine.specs.shared.Limits.{greatest_number}
use Rattle.ymx_machine.specs.shared.Phases.{Phase, is_unborn}
use Rattle.ymx_machine.specs.shared.Phases.Phase.{Unborn}
use Rattle.ymx_machine.specs.stream.Lanes.{Mark, is_unsaid, is_said}
use Rattle.ymx_machine.specs.stream.Lanes.Mark.{Unsaid, Said, Here}
use Rattle.ymx_machine.specs.stream.Streams.{Stream, IsStill}
use Rattle.ymx_machine.specs.declared.types.Side.TheVariants.{A, B}
use Rattle.ymx_machine.specs.declared.types.Direction.TheVariants.{AB, BA}
use Rattle.ymx_machine.specs.declared.types.Step.{Step}
use Rattle.ymx_machine.specs.declared.types.Step.TheVariants as step
use Rattle.ymx_machine.specs.declared.types.Answer.{Answer}
use Rattle.ymx_machine.specs.declared.types.Answer.TheVariants as answer
use Rattle.ymx_machine.specs.declared.types.Fed.{Fed}
use Rattle.ymx_machine.specs.machine.Machines.{Machine, mirror_machine}
use Rattle.ymx_machine.specs.machine.FreeMoves.{FreeMove, MayMove, moved_by, counted_by, FreeMoves, Releases}
use Rattle.ymx_machine.specs.machine.FreeMoves.FreeMove.{OfStream}
use Rattle.ymx_machine.specs.stream.Streams.Move.{Released}
use Rattle.ymx_machine.specs.machine.Runs.{MachineStep, IsStillMachine}
use Rattle.ymx_model.specs.session.Sessions.{Session}
use Rattle.ymx_model.specs.session.Emissions.{Choice}
use Rattle.ymx_model.specs.world.Worlds.{World}
use Rattle.ymx_headline.specs.Agrees.{RunsAlike}
use Rattle.ymx_headline.specs.Laws.{is_carriage}
use Rattle.ymx_world.specs.Driven.{no_memory_of, no_memory_in}
use Rattle.ymx_joined.specs.Stages.{Numbers, alone, IsBeforeAccept, IsComingOrRefused, IsDecided}
use Rattle.ymx_joined.proofs.Machines.{mirror-mirror, from-mirror}
use Rattle.ymx_joined.proofs.Moves.{IsAt, IsAtB, still-counts, move-a, move-b, offered-not_unborn}

pub at-b : (k : Numbers) (id : ℕ) (Stage : Stream → List ℕ → Type 0) (m : Machine) → IsAt k id Stage m → IsAtB k id Stage (mirror_machine m)
at-b k id Stage m h = record { stream = h.stream; offered = h.offered; is = ap mirror_machine h.is; stage = h.stage }

pub at-a : (k : Numbers) (id : ℕ) (Stage : Stream → List ℕ → Type 0) (m : Machine) → IsAtB k id Stage (mirror_machine m) → IsAt k id Stage m
at-a k id Stage m h = record { stream = h.stream; offered = h.offered; is = from-mirror m (alone k id h.stream h.offered) h.is; stage = h.stage }

-- ---- some moves, each of which may count

moves-count : (K : ℕ → Machine → Type 0) → ((v : FreeMove) (before : ℕ) (m : Machine) → MayMove v m → K before m → K (before + counted_by v) (moved_by v m)) →
    (vs : List FreeMove) (before now counted : ℕ) (m n : Machine) → now ≡ before + counted → FreeMoves vs m counted n → K before m → K now n
moves-count K f [] before now counted m n e h k = let same : before ≡ now = omega (arith, e, h.1) in subst (K now) (sym h.0) (subst (λ (i : ℕ). K i m) same k)
moves-count K f (v ∷ vs) before now counted m n e h k =
    let more : now ≡ before + counted_by v + h.1.0 = omega (arith, e, h.1.1) in
    moves-count K f vs (before + counted_by v) now h.1.0 (moved_by v m) n more h.1.2 (f v before m h.0 k)

-- and records that go, which count nothing
releases-count : (K : ℕ → Machine → Type 0) → ((v : FreeMove) (before : ℕ) (m : Machine) → MayMove v m → K before m → K (before + counted_by v) (moved_by v m)) →
    (ids : List ℕ) (before : ℕ) (m n : Machine) → Releases ids m n → K before m → K before n
releases-count K f [] before m n h k = subst (K before) (sym h) k
releases-count K f (id ∷ ids) before m n h k =
    let none : before + 0 ≡ before = omega arith in
    let gone : K (before + 0) (moved_by (OfStream id Released) m) = f (OfStream id Released) before m h.0 k in
    releases-count K f ids before (moved_by (OfStream id Released) m) n h.1 (subst (λ (i : ℕ). K i (moved_by (OfStream id Released) m)) none gone)

-- ---- a move, an emission, a delivery

moves-a : (k : Numbers) (id : ℕ) (bytes : List ℕ) (v : FreeMove) (before : ℕ) (m : Machine) → MayMove v m → IsAt k id (IsComingOrRefused before id bytes) m →
    IsAt k id (IsComingOrRefused (before + counted_by v) id bytes) (moved_by v m)
moves-a k id bytes v before m a h =
    subst (λ (x : Machine). IsAt k id (IsComingOrRefused (before + counted_by v) id bytes) (moved_by v x)) (sym h.is)
    (move-a k id before bytes v h.stream h.offered (subst (MayMove v) h.is a) h.stage)

moves-b : (k : Numbers) (id : ℕ) (bytes : List ℕ) (v : FreeMove) (before : ℕ) (m : Machine) → MayMove v m → IsAtB k id (IsComingOrRefused before id bytes) m →
    IsAtB k id (IsComingOrRefused (before + counted_by v) id bytes) (moved_by v m)
moves-b k id bytes v before m a h =
    subst (λ (x : Machine). IsAtB k id (IsComingOrRefused (before + counted_by v) id bytes) (moved_by v x)) (sym h.is)
    (move-b k id before bytes v h.stream h.offered (subst (MayMove v) h.is a) h.stage)

-- the refusal counts as long as the count isn't 0
at-counts : (k : Numbers) (id before now : ℕ) (bytes : List ℕ) (m : Machine) → (0 < before → 0 < now) → IsAt k id (IsComingOrRefused before id bytes) m → IsAt k id (IsComingOrRefused now id bytes) m
at-counts k id before now bytes m f h = record { stream = h.stream; offered = h.offered; is = h.is; stage = still-counts id before now bytes h.stream h.offered f h.stage }

-- a delivery that refused some tells so
told-some : (before now counted : ℕ) (given : Answer) (fed : Fed) → now ≡ before + no_memory_of given → given ≡ answer.Fed fed → fed.no_memory ≡ min counted greatest_number →
    0 < before + counted → 0 < now
told-some before now counted given fed e is told some =
    let of : no_memory_of given ≡ fed.no_memory = ap no_memory_of is in omega (arith, e, of, told, some)

-- no answer takes anything from the count
told-none : (before now : ℕ) (given : Answer) → now ≡ before + no_memory_of given → 0 < before → 0 < now
told-none before now given e some = omega (arith, e, some)

carriage-step : (k : Numbers) (id before now : ℕ) (bytes : List ℕ) (st : Step) (given : Answer) (m n : Machine) → now ≡ before + no_memory_of given → is_carriage st ≡ true → MachineStep st given m n →
    IsAt k id (IsComingOrRefused before id bytes) m → IsAt k id (IsComingOrRefused now id bytes) n
carriage-step k id before now bytes (step.Emit A room) given m n e c s h =
    at-counts k id before now bytes n (told-none before now given e)
    (releases-count (λ (i : ℕ). IsAt k id (IsComingOrRefused i id bytes)) (moves-a k id bytes) s.1 before m n s.3 h)
carriage-step k id before now bytes (step.Emit B room) given m n e c s h =
    at-counts k id before now bytes n (told-none before now given e)
    (at-a k id (IsComingOrRefused before id bytes) n
    (releases-count (λ (i : ℕ). IsAtB k id (IsComingOrRefused i id bytes)) (moves-b k id bytes) s.1 before (mirror_machine m) (mirror_machine n) s.3 (at-b k id (IsComingOrRefused before id bytes) m h)))
carriage-step k id before now bytes (step.Deliver AB count) given m n e c s h =
    at-counts k id (before + s.2) now bytes n (told-some before now s.2 given s.0 e s.3 s.5)
    (at-a k id (IsComingOrRefused (before + s.2) id bytes) n
    (moves-count (λ (i : ℕ). IsAtB k id (IsComingOrRefused i id bytes)) (moves-b k id bytes) s.1 before (before + s.2) s.2 (mirror_machine m) (mirror_machine n) refl s.6
    (at-b k id (IsComingOrRefused before id bytes) m h)))
carriage-step k id before now bytes (step.Deliver BA count) given m n e c s h =
    let moves : FreeMoves s.1 m s.2 (mirror_machine (mirror_machine n)) = subst (λ (x : Machine). FreeMoves s.1 x s.2 (mirror_machine (mirror_machine n))) (mirror-mirror m) s.6 in
    at-counts k id (before + s.2) now bytes n (told-some before now s.2 given s.0 e s.3 s.5)
    (subst (IsAt k id (IsComingOrRefused (before + s.2) id bytes)) (mirror-mirror n)
    (moves-count (λ (i : ℕ). IsAt k id (IsComingOrRefused i id bytes)) (moves-a k id bytes) s.1 before (before + s.2) s.2 m (mirror_machine (mirror_machine n)) refl moves h))
carriage-step k id before now bytes (step.At side call) given m n e c s h = absurd cc
carriage-step k id before now bytes (step.Stop direction) given m n e c s h = absurd cc
carriage-step k id before now bytes (step.End direction) given m n e c s h = absurd cc

-- all of them
pub carriage-run : (k : Numbers) (id before now : ℕ) (bytes : List ℕ) (may : Choice → Session → Bool) (sts : List Step) (given : List Answer) (w v : World) (m n : Machine) →
    now ≡ before + no_memory_in given → All (λ st. is_carriage st ≡ true) sts → RunsAlike may sts given w m v n → IsAt k id (IsComingOrRefused before id bytes) m → IsAt k id (IsComingOrRefused now id bytes) n
carriage-run k id before now bytes may [] [] w v m n e c r h =
    subst (IsAt k id (IsComingOrRefused now id bytes)) (sym r.1) (at-counts k id before now bytes m (λ some. omega (arith, e, some)) h)
carriage-run k id before now bytes may [] (given ∷ more) w v m n e c r h = absurd r
carriage-run k id before now bytes may (st ∷ sts) [] w v m n e c r h = absurd r
carriage-run k id before now bytes may (st ∷ sts) (given ∷ more) w v m n e c r h =
    let is : Step → Type 0 = λ (x : Step). is_carriage x ≡ true in
    let rest : now ≡ before + no_memory_of given + no_memory_in more = omega (arith, e, sum_by-cons no_memory_of given more) in
    carriage-run k id (before + no_memory_of given) now bytes may sts more r.0 v r.1 n rest (All-tail is st sts c) r.5
    (carriage-step k id before (before + no_memory_of given) bytes st given m r.1 refl (All-head is st sts c) r.3 h)

-- ---- the end of it

has-come : (mark : Mark) → is_unsaid mark ≡ false → is_said mark ≡ false → mark ≡ Here
has-come Unsaid e f = absurd cc
has-come Said e f = absurd cc
has-come Here e f = refl

is-offered : (id : ℕ) (s : Stream) (offered : List ℕ) → is_unborn s.you ≡ false → IsBeforeAccept id s offered → offered ≡ id ∷ []
is-offered id s offered e (inl h) = let k : is_unborn Unborn ≡ false = subst (λ (p : Phase). is_unborn p ≡ false) h.0 e in absurd cc
is-offered id s offered e (inr h) = h.1

driven : (mine yours id no_memory : ℕ) (bytes : List ℕ) (s : Stream) (offered : List ℕ) → IsStill mine yours s → IsComingOrRefused no_memory id bytes s offered → IsDecided no_memory id bytes s offered
driven mine yours id no_memory bytes s offered still (inl h) = inl (record {
  you = offered-not_unborn id s offered still.you_born h.you;
  here = sym (append-nil s.outbound.here) ∙ (ap (λ (z : List ℕ). s.outbound.here ++ z) (sym still.way_outbound) ∙ h.split);
  fin = has-come s.outbound.fin h.fin still.fin_outbound;
  offered_one = is-offered id s offered still.you_born h.you;
})
driven mine yours id no_memory bytes s offered still (inr h) = inr h

-- where nothing is under way, all has come or the stream was refused
pub driven-machine : (k : Numbers) (id no_memory : ℕ) (bytes : List ℕ) (s : Stream) (offered : List ℕ) → IsStillMachine (alone k id s offered) → IsComingOrRefused no_memory id bytes s offered →
    IsDecided no_memory id bytes s offered
driven-machine k id no_memory bytes s offered still h =
    driven k.mine k.yours id no_memory bytes s offered (All-head (λ (p : ℕ × Stream). IsStill k.mine k.yours p.1) (id, s) [] still.streams) h
