-- What the world does with one session and one pipe (this project's own).
use Rattle.std.specs.Prelude.{◌≡◌, ℕ, List, ◌++◌, length, take, true, MatchBool}
use Rattle.ymx_machine.specs.shared.Events.{Call}
use Rattle.ymx_machine.specs.declared.types.Answer.{Answer}
use Rattle.ymx_machine.specs.declared.types.Answer.TheVariants as answer
use Rattle.ymx_machine.specs.shared.Events.{Reply}
use Rattle.ymx_machine.specs.declared.types.Reply.TheVariants as reply
use Rattle.ymx_model.specs.declared.types.Event.TheVariants as event
use Rattle.ymx_machine.specs.declared.types.Fed.{Fed}
use Rattle.ymx_machine.specs.declared.types.Side.{Side}
use Rattle.ymx_machine.specs.declared.types.Side.TheVariants.{A, B}
use Rattle.ymx_machine.specs.declared.types.Direction.{Direction}
use Rattle.ymx_machine.specs.declared.types.Direction.TheVariants.{AB, BA}
use Rattle.ymx_model.specs.session.Sessions.{Session}
use Rattle.ymx_model.specs.session.Calls.{feed_end}
use Rattle.ymx_model.specs.session.Emissions.{in_turn}
use Rattle.ymx_model.specs.session.Histories.{Gives}
use Rattle.ymx_model.specs.world.Worlds.{World, Pipe, pushed, without_front}
use Rattle.ymx_machine.specs.shared.Steps.{answer_of}

-- the session of a side
abbrev pub session_of : Side → World → Session
session_of A w = w.a
session_of B w = w.b

-- the pipe of a direction
abbrev pub pipe_of : Direction → World → Pipe
pipe_of AB w = w.ab
pipe_of BA w = w.ba

-- a call on the session s was answered so, and left t
pub record IsCalled (call : Call) (given : Answer) (s t : Session) : Type 0 where
  pub told : Reply
  pub gives : Gives in_turn s (event.Call call) told t
  pub answered : given ≡ answer_of told

-- an emission into so many bytes gave so many, which went after the bytes before, and left those after
pub record IsAppended (room count : ℕ) (s t : Session) (before after : List ℕ) : Type 0 where
  pub out : List ℕ
  pub gives : Gives in_turn s (event.Emit room) (reply.Emitted out) t
  pub counted : count ≡ length out
  pub goes : after ≡ before ++ out

-- an emission into so many bytes gave so many, which went onto the pipe p and left q
pub record IsEmitted (room count : ℕ) (s t : Session) (p q : Pipe) : Type 0 where
  pub out : List ℕ
  pub gives : Gives in_turn s (event.Emit room) (reply.Emitted out) t
  pub counted : count ≡ length out
  pub goes : q ≡ pushed out p

-- the first n bytes of the pipe p were fed, and those taken left it
pub record IsFed (n : ℕ) (fed : Fed) (s t : Session) (p q : Pipe) : Type 0 where
  pub gives : Gives in_turn s (event.Feed (take n p.bytes)) (reply.Fed fed) t
  pub leaves : q ≡ without_front fed.taken p

-- the receiver of a pipe learns that the bytes have ended, if the pipe was stopped
abbrev pub IsEnded : Answer → (s t : Session) → (p q : Pipe) → Type 0
IsEnded given s t p q =
    MatchBool p.stopped ((given ≡ answer.Done) × (t ≡ feed_end s) × (q ≡ record p { ended = true })) ((given ≡ answer.NotStopped) × (t ≡ s) × (q ≡ p))
