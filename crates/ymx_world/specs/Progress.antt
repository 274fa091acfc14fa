-- That bytes go on, step by step (this project's own).
use Rattle.std.specs.Prelude.{◌≡◌, ◌⊎◌, ◌<◌, length, true}
use Rattle.ymx_machine.specs.declared.types.Direction.{Direction}
use Rattle.ymx_machine.specs.declared.types.Direction.TheVariants.{AB, BA}
use Rattle.ymx_machine.specs.declared.types.Step.{Step}
use Rattle.ymx_machine.specs.declared.types.Step.TheVariants as step
use Rattle.ymx_machine.specs.declared.types.Answer.{Answer}
use Rattle.ymx_machine.specs.declared.types.Answer.TheVariants as answer
use Rattle.ymx_machine.specs.declared.types.Fed.{Fed}
use Rattle.ymx_machine.specs.declared.types.Why.TheVariants.{Held}
use Rattle.ymx_model.specs.session.Sessions.{Session, is_running}
use Rattle.ymx_model.specs.session.Emissions.{is_ready}
use Rattle.ymx_model.specs.world.Worlds.{World}
use Rattle.ymx_headline.specs.Laws.{carries_bytes}
use Rattle.ymx_world.specs.Acts.{session_of, pipe_of}

-- the session that the bytes of a direction are fed to
abbrev pub receiver_of : Direction → World → Session
receiver_of AB w = w.b
receiver_of BA w = w.a

-- a delivery stopped before its end, as too many answers are unsent
abbrev pub IsHeld : Answer → Type 0
IsHeld given = (fed : Fed) × (given ≡ answer.Fed fed) × (fed.why ≡ Held)

-- a session that runs, with answers unsent and something due
pub record HasAnswerDue (s : Session) : Type 0 where
  pub runs : is_running s.status ≡ true
  pub unsent : 0 < length s.answers
  pub due : is_ready s ≡ true

-- An emission with room, at a side where something is due, gives bytes. A delivery of some bytes of a pipe that
-- isn't empty takes some; or its receiver is held, and has an answer due.
abbrev pub GoesForward : Step → Answer → World → Type 0
GoesForward (step.Emit side room) given w = 0 < room → is_ready (session_of side w) ≡ true → carries_bytes (step.Emit side room) given ≡ true
GoesForward (step.Deliver direction n) given w =
    0 < n → 0 < length (pipe_of direction w).bytes →
    (carries_bytes (step.Deliver direction n) given ≡ true) ⊎ (IsHeld given × HasAnswerDue (receiver_of direction w))
GoesForward (step.At side call) given w = Unit {0}
GoesForward (step.Stop direction) given w = Unit {0}
GoesForward (step.End direction) given w = Unit {0}
