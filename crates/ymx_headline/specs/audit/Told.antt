-- The replies of two sessions' histories, in a joint order, as answers of the world (this project's own).
use Rattle.std.specs.Prelude.{◌≡◌, ℕ, List, [], ◌∷◌, ◌++◌, Bool, true, false, if◌then◌else◌}
use Rattle.ymx_model.specs.declared.types.Role.TheVariants.{Client, Server}
use Rattle.ymx_machine.specs.declared.types.Answer.{Answer}
use Rattle.ymx_machine.specs.declared.types.Answer.TheVariants as answer
use Rattle.ymx_machine.specs.shared.Events.{Reply}
use Rattle.ymx_model.specs.session.Events.{Event}
use Rattle.ymx_model.specs.declared.types.Event.TheVariants as event
use Rattle.ymx_model.specs.declared.types.Entry.{Entry}
use Rattle.ymx_machine.specs.declared.types.Step.{Step}
use Rattle.ymx_model.specs.session.Sessions.{Session, new_session}
use Rattle.ymx_model.specs.session.Emissions.{Choice}
use Rattle.ymx_model.specs.session.Histories.{Replays}
use Rattle.ymx_machine.specs.shared.Steps.{answer_of}
use Rattle.ymx_model.specs.world.Worlds.{World, Runs, new_pipe, new_world}
use Rattle.ymx_machine.specs.machine.Machines.{Machine, new_machine}
use Rattle.ymx_headline.specs.Agrees.{Agrees}
use Rattle.ymx_headline.specs.Laws.{AreGood, HasRun}
use Rattle.ymx_headline.specs.audit.Joints.{IsJoint}

-- What the world answers to the steps of an event with this reply. The end of the input is two steps; a feed
-- after it is none.
abbrev pub answers_of : (ended : Bool) → Event → Reply → List Answer
answers_of ended (event.Call c) told = answer_of told ∷ []
answers_of ended (event.Emit n) told = answer_of told ∷ []
answers_of ended (event.Feed bytes) told = if ended then [] else answer_of told ∷ []
answers_of ended event.FeedEnd told = answer.Done ∷ answer.Done ∷ []

-- whether a side's input has ended, after this event
abbrev pub is_ended_behind : (ended : Bool) → Event → Bool
is_ended_behind ended (event.Call c) = ended
is_ended_behind ended (event.Emit n) = ended
is_ended_behind ended (event.Feed bytes) = ended
is_ended_behind ended event.FeedEnd = true

-- The replies of A's and B's entries, taken by turns (true: A's next), as the world's answers.
abbrev pub told_from : List Bool → (ended_a ended_b : Bool) → List Entry → List Entry → List Answer
told_from [] ended_a ended_b xs ys = []
told_from (true ∷ turns) ended_a ended_b [] ys = []
told_from (true ∷ turns) ended_a ended_b (x ∷ xs) ys =
    answers_of ended_a x.event x.reply ++ told_from turns (is_ended_behind ended_a x.event) ended_b xs ys
told_from (false ∷ turns) ended_a ended_b xs [] = []
told_from (false ∷ turns) ended_a ended_b xs (y ∷ ys) =
    answers_of ended_b y.event y.reply ++ told_from turns ended_a (is_ended_behind ended_b y.event) xs ys

abbrev pub told : List Bool → List Entry → List Entry → List Answer
told turns xs ys = told_from turns false false xs ys

-- two sessions with nothing on its way between them
abbrev pub fresh_world : Session → Session → World
fresh_world a b = record { a = a; b = b; ab = new_pipe; ba = new_pipe }

-- The world of the sessions a and b has a run over these steps that answers so and leads to the sessions s
-- and t; and so has each queue machine that agrees with it at the start.
pub record RunsBetween (may : Choice → Session → Bool) (steps : List Step) (answers : List Answer) (a b s t : Session) : Type 0 where
  pub world : World
  pub runs : Runs may steps answers (fresh_world a b) world
  pub side_a : world.a ≡ s
  pub side_b : world.b ≡ t
  pub machine : (m : Machine) → Agrees (fresh_world a b) m → HasRun may steps answers (fresh_world a b) world m

-- Where A's entries replay from the session a to s, and B's from b to t, their replies in any joint order with
-- these steps are the answers of such a run.
abbrev pub AreAnswered : (may : Choice → Session → Bool) → List Entry → List Entry → List Step → Type 0
AreAnswered may xs ys steps =
    (turns : List Bool) (a b s t : Session) → IsJoint turns new_pipe new_pipe xs ys steps → Replays may xs a s → Replays may ys b t →
    RunsBetween may steps (told turns xs ys) a b s t

-- A's and B's entries are one run. In a joint order with these steps their replies are the answers of a run from
-- the new world of these windows and first ids, which leads to the sessions s and t; and the queue machine of these
-- two sides has a run that goes alike.
pub record IsOneRun (may : Choice → Session → Bool) (xs ys : List Entry) (steps : List Step) (window_a first_a window_b first_b : ℕ) (s t : Session) : Type 0 where
  pub turns : List Bool
  pub joint : IsJoint turns new_pipe new_pipe xs ys steps
  pub world : World
  pub runs : Runs may steps (told turns xs ys) (new_world window_a first_a window_b first_b) world
  pub side_a : world.a ≡ s
  pub side_b : world.b ≡ t
  pub machine : HasRun may steps (told turns xs ys) (new_world window_a first_a window_b first_b) world (new_machine window_a first_a window_b first_b)

-- Where A's entries replay from a client's new session, and B's from a server's, they are one run with these steps.
abbrev pub AreOneRun : (may : Choice → Session → Bool) → List Entry → List Entry → List Step → Type 0
AreOneRun may xs ys steps =
    (window_a first_a window_b first_b : ℕ) (s t : Session) → AreGood window_a first_a window_b first_b →
    Replays may xs (new_session Client window_a first_a) s → Replays may ys (new_session Server window_b first_b) t →
    IsOneRun may xs ys steps window_a first_a window_b first_b s t
