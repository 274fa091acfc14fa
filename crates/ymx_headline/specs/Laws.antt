-- What follows of a run of two sessions (this project's own).
use Rattle.std.specs.Prelude.{◌≡◌, ◌≤◌, ◌<◌, ◌^◌, ℕ, ◌+◌, ◌-◌, List, [], ◌∷◌, ◌++◌, length, take, Bool, true, false, ◌==◌, nat_lt, if◌then◌else◌, Option, None, Some}
use Rattle.ymx_header.specs.declared.header.Header.{Header}
use Rattle.ymx_header.specs.Headers.{header_of, has_fin}
use Rattle.ymx_machine.specs.declared.types.Direction.TheVariants.{AB, BA}
use Rattle.ymx_machine.specs.declared.types.Step.{Step}
use Rattle.ymx_machine.specs.declared.types.Step.TheVariants as step
use Rattle.ymx_machine.specs.declared.types.Answer.{Answer}
use Rattle.ymx_machine.specs.declared.types.Answer.TheVariants as answer
use Rattle.ymx_model.specs.declared.types.Role.TheVariants.{Client, Server}
use Rattle.ymx_machine.specs.shared.Limits.{first_credit}
use Rattle.ymx_model.specs.session.Sessions.{Session, Incoming, is_own, is_running}
use Rattle.ymx_model.specs.session.Sessions.Incoming.{Head, Payload}
use Rattle.ymx_model.specs.session.Arrivals.{payload}
use Rattle.ymx_model.specs.session.Feeds.{is_between}
use Rattle.ymx_model.specs.session.Emissions.{Choice}
use Rattle.ymx_model.specs.world.Worlds.{World, Pipe, Steps}
use Rattle.ymx_model.specs.world.Load.{one_if}
use Rattle.ymx_machine.specs.machine.Machines.{Machine}
use Rattle.ymx_machine.specs.machine.Runs.{why_is_broken}
use Rattle.ymx_headline.specs.Agrees.{RunsAlike, Agrees}

-- two sides with windows that may be chosen, and first stream numbers of their own
pub record AreGood (window_a first_a window_b first_b : ℕ) : Type 0 where
  pub low_a : first_credit ≤ window_a
  pub high_a : window_a ≤ 16777216
  pub low_b : first_credit ≤ window_b
  pub high_b : window_b ≤ 16777216
  pub client : is_own Client first_a ≡ true
  pub server : is_own Server first_b ≡ true
  pub small_a : first_a < 2 ^ 32
  pub some_b : 0 < first_b
  pub small_b : first_b < 2 ^ 32

-- The machine has a run from m that goes alike, and agrees with the world at its end.
abbrev pub HasRun : (may : Choice → Session → Bool) → List Step → List Answer → World → World → Machine → Type 0
HasRun may steps answers w v m = (n : Machine) × RunsAlike may steps answers w m v n × Agrees v n

-- a delivery that found a fault
abbrev pub breaks_off : Answer → Bool
breaks_off (answer.Fed fed) = why_is_broken fed.why
breaks_off _ = false

-- ---- nothing sticks

-- a pipe that wasn't stopped, and whose end wasn't told
pub record IsOpenPipe (p : Pipe) : Type 0 where
  pub on : p.stopped ≡ false
  pub untold : p.ended ≡ false

-- a world in which nothing was stopped, ended, closed or broken
pub record IsOpenWorld (w : World) : Type 0 where
  pub a : is_running w.a.status ≡ true
  pub b : is_running w.b.status ≡ true
  pub ab : IsOpenPipe w.ab
  pub ba : IsOpenPipe w.ba

-- an emission that gave bytes, or a delivery that took some
abbrev pub carries_bytes : Step → Answer → Bool
carries_bytes (step.Emit side room) (answer.Emitted count) = nat_lt 0 count
carries_bytes (step.Deliver direction n) (answer.Fed fed) = nat_lt 0 fed.taken
carries_bytes _ _ = false

-- ---- frames that are fed wholly

abbrev pub begins_payload : Header → Incoming
begins_payload h = if payload h == 0 then Head [] else Payload h.id (payload h) (has_fin h) false

-- what has come of a frame that isn't whole, after one byte more
abbrev pub after_byte : ℕ → Incoming → Incoming
after_byte b (Head seen) = if length seen == 11 then begins_payload (header_of (seen ++ b ∷ [])) else Head (seen ++ b ∷ [])
after_byte b (Payload id missing fin discarded) = if nat_lt 1 missing then Payload id (missing - 1) fin discarded else Head []

-- how many frames these bytes make whole
abbrev pub made_whole : List ℕ → Incoming → ℕ
made_whole [] i = 0
made_whole (b ∷ bs) i = one_if (is_between (after_byte b i)) + made_whole bs (after_byte b i)

-- how many frames a delivery feeds wholly; an emission feeds none
abbrev pub fed_by : Step → Answer → World → ℕ
fed_by (step.Deliver AB n) (answer.Fed fed) w = made_whole (take fed.taken w.ab.bytes) w.b.incoming
fed_by (step.Deliver BA n) (answer.Fed fed) w = made_whole (take fed.taken w.ba.bytes) w.a.incoming
fed_by _ _ w = 0

-- an emission or a delivery
abbrev pub is_carriage : Step → Bool
is_carriage (step.Emit side room) = true
is_carriage (step.Deliver direction n) = true
is_carriage _ = false

-- a run of emissions and deliveries, which feeds so many frames wholly
abbrev pub Carries : (may : Choice → Session → Bool) → List Step → List Answer → World → World → ℕ → Type 0
Carries may [] [] w v n = (v ≡ w) × (n ≡ 0)
Carries may (st ∷ sts) (given ∷ more) w v n =
    (is_carriage st ≡ true) × (x : World) × (rest : ℕ) × Steps may st given w x × (n ≡ fed_by st given w + rest) × Carries may sts more x v rest
Carries may [] (given ∷ more) w v n = ⊥
Carries may (st ∷ sts) [] w v n = ⊥

-- a run of emissions and deliveries, each of which carries at least one byte
abbrev pub KeepsCarrying : (may : Choice → Session → Bool) → List Step → List Answer → World → World → Type 0
KeepsCarrying may [] [] w v = v ≡ w
KeepsCarrying may (st ∷ sts) (given ∷ more) w v = (carries_bytes st given ≡ true) × (x : World) × Steps may st given w x × KeepsCarrying may sts more x v
KeepsCarrying may _ _ w v = ⊥
