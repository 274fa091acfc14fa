-- The connections of a tunnel, and whose turns come (this project's own).
use Rattle.std.specs.Prelude.{ℕ, ◌≡◌, ◌⊎◌, ◌∷◌, ◌++◌, ◌==◌, ◌+◌, ◌-◌, ◌*◌, ◌<◌, ◌&&◌, ◌||◌, not, length, List, [], Bool, true, false, if◌then◌else◌, Option, Some, option_map, nat_eq, cond, min, Contains, IsSome, slice_get}
use Rattle.std.specs.Map.{lookup}
use Rattle.std.specs.Option.{option_map_or}
use Rattle.ymx_engine.specs.declared.device.Readiness.{Readiness}
use Rattle.ymx_engine.specs.declared.directions.Directions.{Directions}
use Rattle.ymx_engine.specs.Devices.{Seen, IsNoted}
use Rattle.ymx_engine.specs.Directions.{is_over}

-- what is seen of the device of a connection, and how its directions stand
pub record Connection : Type 0 where
  pub seen : Seen
  pub directions : Directions

-- the same, whether it is marked as one that waits for a turn, and whether as one that is held back
pub record Entry : Type 0 where
  pub connection : Connection
  pub is_queued : Bool
  pub is_held : Bool

-- The connections by stream id; those that wait for a turn, which move little, or much; those that are held back; whether the
-- next turn is of those that move much; whether one more may be queued, and one more kept, without memory; whether a turn was
-- missed, as its queue had no room and memory for it was refused; and for how many turns at most the next frame of the wire
-- waits, where it lacks a place.
pub record Connections : Type 0 where
  pub by_id : List (ℕ × Entry)
  pub fresh : List ℕ
  pub busy : List ℕ
  pub held : List ℕ
  pub is_for_busy : Bool
  pub has_room : Bool
  pub has_place : Bool
  pub missed : Bool
  pub turns_to_place : Option ℕ

-- the connection of this stream
abbrev pub connection_of : ℕ → Connections → Option Connection
connection_of id t = option_map (λ e. e.connection) (lookup (nat_eq id) t.by_id)

-- what is seen of its device
abbrev pub look : ℕ → Connections → Option Seen
look id t = option_map (λ l. l.seen) (connection_of id t)

-- how its directions stand
abbrev pub directions_of : ℕ → Connections → Option Directions
directions_of id t = option_map (λ l. l.directions) (connection_of id t)

-- the connection of this stream waits for a turn
abbrev pub Waits : ℕ → Connections → Type 0
Waits id t = Contains t.fresh id ⊎ Contains t.busy id

-- it does, or some turn was missed
abbrev pub Awaits : ℕ → Connections → Type 0
Awaits id t = Waits id t ⊎ (t.missed ≡ true)

-- it does, or is held back until nothing waits for the wire
abbrev pub Attended : ℕ → Connections → Type 0
Attended id t = Awaits id t ⊎ Contains t.held id

abbrev pub is_idle : Connections → Bool
is_idle t = (length t.fresh == 0) && (length t.busy == 0)

-- none waits for a turn
abbrev pub IsIdle : Connections → Type 0
IsIdle t = (t.fresh ≡ []) × (t.busy ≡ [])

-- ---- whose turn it is

-- the next turn is of one that moves much
abbrev pub takes_busy : Connections → Bool
takes_busy t = (t.is_for_busy && not (length t.busy == 0)) || (length t.fresh == 0)

-- The connection of this stream waits, and has its turn after at most so many others. The two queues take turns, and in each
-- those that stand before it come first.
abbrev pub IsBehind : (id others : ℕ) → Connections → Type 0
IsBehind id n t = (place : ℕ) × (((slice_get t.fresh place ≡ Some id) × (n ≡ 2 * place + (if t.is_for_busy then 1 else 0)))
    ⊎ ((slice_get t.busy place ≡ Some id) × (n ≡ 2 * place + (if t.is_for_busy then 0 else 1))))

-- It waits, and has its turn within twice as many turns as there are connections: fewer come before.
abbrev pub HasTurnSoon : ℕ → Connections → Type 0
HasTurnSoon id t = (n : ℕ) × IsBehind id n t × (n < 2 * length t.by_id)

-- this one was the first of those that move much, or else of the others
abbrev pub IsFirst : (busy : Bool) → (id : ℕ) → (old new : Connections) → Type 0
IsFirst true id old new = (old.busy ≡ id ∷ new.busy) × (new.fresh ≡ old.fresh)
IsFirst false id old new = (old.fresh ≡ id ∷ new.fresh) × (new.busy ≡ old.busy)

-- within so many turns each that waits has had its own, as the two queues take turns
abbrev pub turns_of_all : Connections → ℕ
turns_of_all t = 2 * (length t.fresh + length t.busy)

-- For how many turns a frame that lacks a place still waits: until each connection that waited for a turn as the frame came to wait has
-- had it, and for none where no connection waits.
abbrev pub turns_left : Connections → ℕ
turns_left t = min (turns_of_all t) (option_map_or (λ n. n) t.turns_to_place (turns_of_all t))

-- It waits, and has its turn before the frame comes that lacks a place.
abbrev pub IsDue : ℕ → Connections → Type 0
IsDue id t = (n : ℕ) × IsBehind id n t × (n < turns_left t)

-- This one had its turn, as the first of the queue whose turn it was. Each other that waited has fewer before it now. A frame that
-- lacks a place waits for one turn less, and still for each that is due before it.
pub record TakesTurn (id : ℕ) (old new : Connections) : Type 0 where
  pub first : IsFirst (takes_busy old) id old new
  pub comes : (other n : ℕ) → IsBehind other n old → (other ≡ id) ⊎ ((m : ℕ) × (m < n) × IsBehind other m new)
  pub counted : new.turns_to_place ≡ option_map (λ n. n - 1) old.turns_to_place
  pub due : (other : ℕ) → IsDue other old → (other ≡ id) ⊎ IsDue other new

-- ---- what changes

-- the connection of this stream is this now, and each other what it was
abbrev pub Puts : ℕ → Option Connection → Connections → Connections → Type 0
Puts id what old new = (other : ℕ) → connection_of other new ≡ cond (nat_eq id other) what (connection_of other old)

-- each connection is what it was
abbrev pub SameConnections : Connections → Connections → Type 0
SameConnections old new = (id : ℕ) → connection_of id new ≡ connection_of id old

-- Others may wait after those that waited for a turn. None of these leaves its place.
pub record Extends (old new : Connections) : Type 0 where
  pub more_fresh : List ℕ
  pub fresh : new.fresh ≡ old.fresh ++ more_fresh
  pub more_busy : List ℕ
  pub busy : new.busy ≡ old.busy ++ more_busy
  pub flag : new.is_for_busy ≡ old.is_for_busy

-- nobody waits for a turn anew
abbrev pub SameTurns : Connections → Connections → Type 0
SameTurns old new = (new.fresh ≡ old.fresh) × (new.busy ≡ old.busy)

-- a turn that was missed stays so
abbrev pub StaysMissed : Connections → Connections → Type 0
StaysMissed old new = old.missed ≡ true → new.missed ≡ true

-- the queues stay, and no turn is missed anew
pub record SameQueues (old new : Connections) : Type 0 where
  pub fresh : new.fresh ≡ old.fresh
  pub busy : new.busy ≡ old.busy
  pub held : new.held ≡ old.held
  pub flag : new.is_for_busy ≡ old.is_for_busy
  pub missed : new.missed ≡ old.missed

-- those of a queue but this one, in their order
abbrev pub without : ℕ → List ℕ → List ℕ
without id [] = []
without id (other ∷ rest) = if nat_eq id other then without id rest else other ∷ without id rest

-- this one waits for no turn any more, and each other in its order; nothing else changed
pub record LeavesQueues (id : ℕ) (old new : Connections) : Type 0 where
  pub fresh : new.fresh ≡ without id old.fresh
  pub busy : new.busy ≡ without id old.busy
  pub held : new.held ≡ old.held
  pub flag : new.is_for_busy ≡ old.is_for_busy
  pub missed : new.missed ≡ old.missed

-- a queue stays, or this id stands after the others
abbrev pub StaysOrAdds : ℕ → List ℕ → List ℕ → Type 0
StaysOrAdds id old new = (new ≡ old) ⊎ (new ≡ old ++ id ∷ [])

-- nobody waits for a turn anew but this one
abbrev pub WaitsAlone : ℕ → Connections → Connections → Type 0
WaitsAlone id old new = StaysOrAdds id old.fresh new.fresh × StaysOrAdds id old.busy new.busy

-- each that waited waits on at its place, and none other waits but this
pub record AddsTurn (id : ℕ) (old new : Connections) : Type 0 where
  pub fresh : StaysOrAdds id old.fresh new.fresh
  pub busy : StaysOrAdds id old.busy new.busy
  pub held : new.held ≡ old.held
  pub flag : new.is_for_busy ≡ old.is_for_busy
  pub missed : StaysMissed old new

-- each that is there, and waited for a turn unless some were missed, does so still
abbrev pub AwaitOn : Connections → Connections → Type 0
AwaitOn old new = (id : ℕ) → IsSome (connection_of id old) → Awaits id old → Awaits id new

-- each that is there, and was held back, is so still, or waits for a turn unless some were missed
abbrev pub HeldOn : Connections → Connections → Type 0
HeldOn old new = (id : ℕ) → IsSome (connection_of id old) → Contains old.held id → Attended id new

-- Each connection is what it was. Each that waited for a turn waits on at its place, and each that was held back is so still
-- or waits.
pub record KeepsConnections (old new : Connections) : Type 0 where
  pub connections : SameConnections old new
  pub queues : Extends old new
  pub awaits : AwaitOn old new
  pub holds : HeldOn old new

-- the same of each but this
pub record KeepsOthers (id : ℕ) (old new : Connections) : Type 0 where
  pub connections : (other : ℕ) → nat_eq id other ≡ false → connection_of other new ≡ connection_of other old
  pub queues : Extends old new
  pub awaits : (other : ℕ) → nat_eq id other ≡ false → IsSome (connection_of other old) → Awaits other old → Awaits other new
  pub holds : (other : ℕ) → nat_eq id other ≡ false → IsSome (connection_of other old) → Contains old.held other → Attended other new

-- this connection is there, and waits for a turn after the others; each other is what it was
pub record Adds (id : ℕ) (connection : Connection) (old new : Connections) : Type 0 where
  pub connections : Puts id (Some connection) old new
  pub waits : Waits id new
  pub turn : AddsTurn id old new

-- an event said this of the device of a connection, which waits for a turn then; nothing else changed
pub record Notes (id : ℕ) (ready : Readiness) (was : Connection) (old new : Connections) : Type 0 where
  pub now : Seen
  pub noted : IsNoted ready was.seen now
  pub connections : Puts id (Some (record { seen = now; directions = was.directions })) old new
  pub turn : AddsTurn id old new
  pub awaits : Awaits id new

-- ---- marks

-- how often this stream stands in a queue
abbrev pub times : ℕ → List ℕ → ℕ
times id [] = 0
times id (other ∷ rest) = (if nat_eq id other then 1 else 0) + times id rest

-- once for a connection that is marked
abbrev pub once_if : Option Bool → ℕ
once_if (Some true) = 1
once_if _ = 0

-- Each connection that is marked as queued stands in one of the queues, once. No other stream stands in one.
abbrev pub AreListed : List (ℕ × Entry) → List ℕ → List ℕ → Type 0
AreListed by_id fresh busy = (id : ℕ) → times id fresh + times id busy ≡ once_if (option_map (λ e. e.is_queued) (lookup (nat_eq id) by_id))

-- this one stands after all others in one of the queues, and the other queue stays
abbrev pub StandsBehind : ℕ → (fresh busy fresh_new busy_new : List ℕ) → Type 0
StandsBehind id f g f_new g_new = ((f_new ≡ f ++ id ∷ []) × (g_new ≡ g)) ⊎ ((f_new ≡ f) × (g_new ≡ g ++ id ∷ []))

-- whether it is marked as queued
abbrev pub queue_mark : ℕ → Connections → Option Bool
queue_mark id t = option_map (λ e. e.is_queued) (lookup (nat_eq id) t.by_id)

-- whether it is marked as held back
abbrev pub held_mark : ℕ → Connections → Option Bool
held_mark id t = option_map (λ e. e.is_held) (lookup (nat_eq id) t.by_id)

-- each that is marked as held back is so
abbrev pub AreHeld : List (ℕ × Entry) → List ℕ → Type 0
AreHeld by_id held = (id : ℕ) (e : Entry) → lookup (nat_eq id) by_id ≡ Some e → e.is_held ≡ true → Contains held id

-- neither way of this connection is open, or it isn't there
abbrev pub is_over_at : ℕ → Connections → Bool
is_over_at id t = option_map_or is_over (directions_of id t) true
