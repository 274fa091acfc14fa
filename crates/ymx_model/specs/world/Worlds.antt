-- Two sessions joined by pipes (this project's own).
use Rattle.std.specs.Prelude.{ℕ, ◌+◌, ◌++◌, if◌then◌else◌, ◌≡◌, ◌∷◌, ◌&&◌, List, Bool, [], false, drop, true, length, take, not, MatchBool}
use Rattle.ymx_model.specs.session.Sessions.{Session, new_session, is_running}
use Rattle.ymx_model.specs.declared.types.Role.TheVariants.{Client, Server}
use Rattle.ymx_machine.specs.shared.Events.{Reply}
use Rattle.ymx_machine.specs.declared.types.Step.{Step}
use Rattle.ymx_machine.specs.declared.types.Answer.{Answer}
use Rattle.ymx_model.specs.session.Calls.{feed_end}
use Rattle.ymx_model.specs.session.Emissions.{Choice, is_ready}
use Rattle.ymx_model.specs.session.Histories.{Gives}
use Rattle.ymx_machine.specs.shared.Steps.{answer_of, is_of_a}
use Rattle.ymx_model.specs.session.FramesDue.{is_empty}
use Rattle.ymx_machine.specs.declared.types.Reply.TheVariants as reply
use Rattle.ymx_machine.specs.declared.types.Step.TheVariants as step
use Rattle.ymx_machine.specs.declared.types.Answer.TheVariants as answer
use Rattle.ymx_model.specs.declared.types.Event.TheVariants as event

-- One direction: the bytes emitted and not delivered, whether it was stopped, whether its end was told.
pub record Pipe : Type 0 where
  pub bytes : List ℕ
  pub stopped : Bool
  pub ended : Bool

-- A is the client and B the server; `ab` carries A's bytes.
pub record World : Type 0 where
  pub a : Session
  pub b : Session
  pub ab : Pipe
  pub ba : Pipe

abbrev pub new_pipe : Pipe
new_pipe = record { bytes = []; stopped = false; ended = false }

-- windows and first ids of the two sides
abbrev pub new_world : (window_a first_a window_b first_b : ℕ) → World
new_world window_a first_a window_b first_b = record {
  a = new_session Client window_a first_a;
  b = new_session Server window_b first_b;
  ab = new_pipe;
  ba = new_pipe;
}

-- the same world with the sides' names exchanged
abbrev pub mirror_world : World → World
mirror_world w = record { a = w.b; b = w.a; ab = w.ba; ba = w.ab }

-- bytes go onto a pipe, or vanish where it was stopped
abbrev pub pushed : List ℕ → Pipe → Pipe
pushed out p = if p.stopped then p else record p { bytes = p.bytes ++ out }

abbrev pub without_front : ℕ → Pipe → Pipe
without_front n p = record p { bytes = drop n p.bytes }

abbrev pub stopped_now : Pipe → Pipe
stopped_now p = record p { bytes = []; stopped = true }

-- ---- the steps, at side A and in the direction away from A; those of B are these of the mirrored world

-- how many bytes a feed took
abbrev pub fed_count : Reply → ℕ
fed_count (reply.Fed fed) = fed.taken
fed_count _ = 0

abbrev pub StepOfA : (may : Choice → Session → Bool) → Step → Answer → World → World → Type 0
StepOfA may (step.At side call) given w v =
    (told : Reply) × (s : Session) × Gives may w.a (event.Call call) told s × (given ≡ answer_of told) × (v ≡ record w { a = s })
-- one emission goes onto the pipe
StepOfA may (step.Emit side room) given w v =
    (out : List ℕ) × (s : Session) × Gives may w.a (event.Emit room) (reply.Emitted out) s
    × (given ≡ answer.Emitted (length out)) × (v ≡ record w { a = s; ab = pushed out w.ab })
-- the pipe's first bytes are fed at B in one feed, and those taken leave the pipe
StepOfA may (step.Deliver direction n) given w v =
    (told : Reply) × (s : Session) × Gives may w.b (event.Feed (take n w.ab.bytes)) told s
    × (given ≡ answer_of told) × (v ≡ record w { b = s; ab = without_front (fed_count told) w.ab })
StepOfA may (step.Stop direction) given w v = (given ≡ answer.Done) × (v ≡ record w { ab = stopped_now w.ab })
-- B learns that A's bytes have ended, if the pipe was stopped
StepOfA may (step.End direction) given w v =
    MatchBool w.ab.stopped ((given ≡ answer.Done) × (v ≡ record w { b = feed_end w.b; ab = record w.ab { ended = true } }))
    ((given ≡ answer.NotStopped) × (v ≡ w))

-- A step of the world with this answer.
abbrev pub Steps : (may : Choice → Session → Bool) → Step → Answer → World → World → Type 0
Steps may st given w v = MatchBool (is_of_a st) (StepOfA may st given w v) (StepOfA may st given (mirror_world w) (mirror_world v))

-- a run over a list of steps
abbrev pub Runs : (may : Choice → Session → Bool) → List Step → List Answer → World → World → Type 0
Runs may [] [] w v = v ≡ w
Runs may (st ∷ sts) (given ∷ more) w v = (mid : World) × Steps may st given w mid × Runs may sts more mid v
Runs may [] (given ∷ more) w v = ⊥
Runs may (st ∷ sts) [] w v = ⊥

-- ---- quiet

-- Nothing is due, both pipes are empty, nothing was stopped, closed or broken, and neither input was ended.
abbrev pub is_quiet_pipe : Pipe → Bool
is_quiet_pipe p = is_empty p.bytes && not p.stopped && not p.ended

abbrev pub is_quiet : World → Bool
is_quiet w =
    not (is_ready w.a) && not (is_ready w.b) && is_running w.a.status && is_running w.b.status
    && is_quiet_pipe w.ab && is_quiet_pipe w.ba
