-- Joint orders of the histories of two sessions (this project's own).
use Rattle.std.specs.Prelude.{◌≡◌, ◌≤◌, ℕ, List, [], ◌∷◌, ◌++◌, length, take, Bool, true, false, if◌then◌else◌, MatchBool}
use Rattle.ymx_machine.specs.declared.types.Side.{Side}
use Rattle.ymx_machine.specs.declared.types.Side.TheVariants.{A, B}
use Rattle.ymx_machine.specs.declared.types.Direction.{Direction}
use Rattle.ymx_machine.specs.declared.types.Direction.TheVariants.{AB, BA}
use Rattle.ymx_machine.specs.declared.types.Step.{Step}
use Rattle.ymx_machine.specs.declared.types.Step.TheVariants as step
use Rattle.ymx_machine.specs.shared.Events.{Reply}
use Rattle.ymx_machine.specs.declared.types.Reply.TheVariants as reply
use Rattle.ymx_machine.specs.declared.types.Fed.{Fed}
use Rattle.ymx_model.specs.session.Events.{Event}
use Rattle.ymx_model.specs.declared.types.Event.TheVariants as event
use Rattle.ymx_model.specs.declared.types.Entry.{Entry}
use Rattle.ymx_model.specs.world.Worlds.{Pipe, new_pipe, pushed, without_front}

-- the pipe that a side reads
abbrev pub into : Side → Direction
into A = BA
into B = AB

-- a pipe that was stopped, and whose end was told
abbrev pub ended_pipe : Pipe
ended_pipe = record { bytes = []; stopped = true; ended = true }

-- what an emission gave
abbrev pub emitted_of : Reply → List ℕ
emitted_of (reply.Emitted out) = out
emitted_of _ = []

-- the pipe after what its sender did
abbrev pub sent_into : Event → Reply → Pipe → Pipe
sent_into (event.Call c) told p = p
sent_into (event.Emit n) told p = pushed (emitted_of told) p
sent_into (event.Feed bytes) told p = p
sent_into event.FeedEnd told p = p

-- these bytes are the front of the pipe, and no more of them are taken
abbrev pub TakesFront : List ℕ → Reply → Pipe → Pipe → Type 0
TakesFront bytes told p q = (fed : Fed) × (told ≡ reply.Fed fed) × (fed.taken ≤ length bytes) × (length bytes ≤ length p.bytes) × (take (length bytes) p.bytes ≡ bytes) × (q ≡ without_front fed.taken p)

-- the pipe p may be q after what its receiver did
abbrev pub Gets : Event → Reply → Pipe → Pipe → Type 0
Gets (event.Call c) told p q = q ≡ p
Gets (event.Emit n) told p q = (out : List ℕ) × (told ≡ reply.Emitted out) × (q ≡ p)
Gets (event.Feed bytes) told p q = MatchBool p.ended (q ≡ p) (TakesFront bytes told p q)
Gets event.FeedEnd told p q = q ≡ ended_pipe

-- the world's steps of an event of a side that reads this pipe
abbrev pub world_steps : Side → Pipe → Event → List Step
world_steps side p (event.Call c) = step.At side c ∷ []
world_steps side p (event.Emit n) = step.Emit side n ∷ []
world_steps side p (event.Feed bytes) = if p.ended then [] else step.Deliver (into side) (length bytes) ∷ []
world_steps side p event.FeedEnd = step.Stop (into side) ∷ step.End (into side) ∷ []

-- the first of these entries of a side came, and left more: its pipes and the steps so far, before and after
abbrev pub Advances : Side → List Entry → List Entry → (to from to_new from_new : Pipe) → (done done_new : List Step) → Type 0
Advances side xs more to from to_new from_new done done_new =
    (x : Entry) × (xs ≡ x ∷ more) × Gets x.event x.reply from from_new × (to_new ≡ sent_into x.event x.reply to) × (done_new ≡ done ++ world_steps side from x.event)

-- the first of these entries may not come now
abbrev pub IsStuck : Pipe → List Entry → Type 0
IsStuck p xs = (x : Entry) (more : List Entry) (q : Pipe) → xs ≡ x ∷ more → Gets x.event x.reply p q → ⊥

-- Taken by turns (true: A's next), the entries of both, each in its own order, go on from these pipes by these steps.
abbrev pub IsJoint : List Bool → Pipe → Pipe → List Entry → List Entry → List Step → Type 0
IsJoint [] ab ba xs ys steps = (xs ≡ []) × (ys ≡ []) × (steps ≡ [])
IsJoint (true ∷ turns) ab ba xs ys steps =
    (x : Entry) × (more : List Entry) × (q : Pipe) × (rest : List Step) × (xs ≡ x ∷ more) × Gets x.event x.reply ba q
    × (steps ≡ world_steps A ba x.event ++ rest) × IsJoint turns (sent_into x.event x.reply ab) q more ys rest
IsJoint (false ∷ turns) ab ba xs ys steps =
    (y : Entry) × (more : List Entry) × (q : Pipe) × (rest : List Step) × (ys ≡ y ∷ more) × Gets y.event y.reply ab q
    × (steps ≡ world_steps B ab y.event ++ rest) × IsJoint turns q (sent_into y.event y.reply ba) xs more rest

-- a joint order from two new pipes
abbrev pub IsJointOrder : List Entry → List Entry → List Step → Type 0
IsJointOrder a b steps = (turns : List Bool) × IsJoint turns new_pipe new_pipe a b steps
