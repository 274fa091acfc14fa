-- What a stream and its device move over many turns (this project's own).
use Rattle.std.specs.Prelude.{ℕ, ◌==◌, ◌≡◌, ◌||◌, ◌++◌, ◌∷◌, List, [], Bool, true, false, Option, None, Some, option_map, IfSome}
use Rattle.std.specs.Io.KnownBytes.{Appends, Consumes}
use Rattle.ymx_model.specs.session.Events.{Event}
use Rattle.ymx_machine.specs.shared.Events.{Reply}
use Rattle.ymx_machine.specs.declared.types.Call.TheVariants as call
use Rattle.ymx_machine.specs.declared.types.Reply.TheVariants as reply
use Rattle.ymx_model.specs.declared.types.Event.TheVariants as event
use Rattle.ymx_engine.specs.Devices.{Seen}
use Rattle.ymx_engine.specs.Events.{taken, given, has_end, has_finish, has_reset, has_stop, lacks_memory}
use Rattle.ymx_engine.specs.Exchanges.{has_bytes}

-- What a device gave, in pieces: what the stream took of each, and what was lost after it.
abbrev pub all_of : List (List ℕ × List ℕ) → List ℕ
all_of [] = []
all_of (p ∷ ps) = (p.0 ++ p.1) ++ all_of ps

abbrev pub kept_of : List (List ℕ × List ℕ) → List ℕ
kept_of [] = []
kept_of (p ∷ ps) = p.0 ++ kept_of ps

abbrev pub loses : List (List ℕ × List ℕ) → Bool
loses [] = false
loses (p ∷ ps) = has_bytes p.1 || loses ps

-- The device gave these pieces, in order, and took what the stream gave. The stream was finished exactly if the device said
-- that no more come, and this was all then. The device was ended exactly if the stream's end was read. The stream was reset
-- exactly if the device failed or bytes were lost, which happens only where a write of them was refused for lack of memory.
-- The device was shut exactly if the stream was reset, or refused a read or a write.
pub record Trades (id : ℕ) (events : List (Event × Reply)) (a b : Seen) : Type 0 where
  pub pieces : List (List ℕ × List ℕ)
  pub kept : taken id events ≡ kept_of pieces
  pub to_peer : Consumes a.left b.left (all_of pieces)
  pub from_peer : Appends a.had b.had (given id events)
  pub whole : has_finish id events ≡ true → IfSome a.left (λ all. all ≡ all_of pieces)
  pub over : b.over ≡ option_map (λ x. x || has_finish id events) a.over
  pub ended : b.ended ≡ option_map (λ x. x || has_end id events) a.ended
  pub fails : Bool
  pub failed : b.failed ≡ option_map (λ x. x || fails) a.failed
  pub reset : has_reset id events ≡ (fails || loses pieces)
  pub cause : loses pieces ≡ true → lacks_memory id events ≡ true
  pub shut : b.shut ≡ option_map (λ x. x || has_stop id events) a.shut

-- no byte of the stream moves, it isn't finished, and its end isn't read
abbrev pub IsIdle : ℕ → List (Event × Reply) → Type 0
IsIdle id events = (taken id events ≡ []) × (given id events ≡ []) × (has_finish id events ≡ false) × (has_end id events ≡ false)

-- the stream was opened, or accepted
abbrev pub opens_at : ℕ → Event → Reply → Bool
opens_at id (event.Call call.Open) (reply.Opened other) = other == id
opens_at id (event.Call call.Accept) (reply.Accepted (Some other)) = other == id
opens_at id _ told = false

-- the last of these events is that the stream was opened, or accepted
abbrev pub Opens : ℕ → List (Event × Reply) → Type 0
Opens id events = (before : List (Event × Reply)) × (e : Event × Reply) × (events ≡ before ++ e ∷ []) × (opens_at id e.0 e.1 ≡ true)

-- the last of these events is that the stream was forgotten
abbrev pub Forgets : ℕ → List (Event × Reply) → Type 0
Forgets id events = (before : List (Event × Reply)) × (told : Reply) × (events ≡ before ++ (event.Call (call.Forget id), told) ∷ [])

-- a device joins a stream, or leaves it: what happened since the change before, and what is seen of the device then
pub record Change : Type 0 where
  pub since : List (Event × Reply)
  pub seen : Seen

-- The device at the beginning, if there is one, trades until it leaves, another joins and trades, and so on; what is seen
-- of the one that is there in the end. With no device no byte of the stream moves. A device joins only a stream that was
-- just opened or accepted, and leaves it as it is forgotten.
abbrev pub Lives : ℕ → List Change → List (Event × Reply) → Option Seen → Option Seen → Type 0
Lives id [] rest None p = (p ≡ None) × IsIdle id rest
Lives id [] rest (Some a) p = (b : Seen) × (p ≡ Some b) × Trades id rest a b
Lives id (c ∷ cs) rest None p = Opens id c.since × IsIdle id c.since × Lives id cs rest (Some c.seen) p
Lives id (c ∷ cs) rest (Some a) p = Forgets id c.since × Trades id c.since a c.seen × Lives id cs rest None p

abbrev pub sinces : List Change → List (Event × Reply)
sinces [] = []
sinces (c ∷ cs) = c.since ++ sinces cs

-- the devices that a stream had, one after the other, while these events happened
pub record Life (id : ℕ) (events : List (Event × Reply)) (o p : Option Seen) : Type 0 where
  pub changes : List Change
  pub rest : List (Event × Reply)
  pub all : events ≡ sinces changes ++ rest
  pub lives : Lives id changes rest o p
