-- How the two directions of a connection stand, and that this follows what happened on its stream (this project's own).
use Rattle.std.specs.Prelude.{ℕ, ◌&&◌, ◌||◌, ◌∷◌, not, List, [], Bool, true, false}
use Rattle.ymx_machine.specs.shared.Events.{Reply}
use Rattle.ymx_model.specs.session.Events.{Event}
use Rattle.ymx_engine.specs.declared.directions.Directions.{Directions}
use Rattle.ymx_engine.specs.declared.directions.Flow.{Flow}
use Rattle.ymx_engine.specs.declared.directions.Flow.TheVariants as flow
use Rattle.ymx_engine.specs.Devices.{Marks}
use Rattle.ymx_engine.specs.Events.{finishes_at, ends_at, stops_at, lacks_memory_at}

abbrev pub is_open : Flow → Bool
is_open flow.Open = true
is_open _ = false

-- both directions are open
abbrev pub new_directions : Directions
new_directions = record { to_peer = flow.Open; from_peer = flow.Open; lacked_memory = false }

-- neither is
abbrev pub is_over : Directions → Bool
is_over w = not (is_open w.to_peer) && not (is_open w.from_peer)

-- a direction that is open ended, where this says so
abbrev pub end_if : Bool → Flow → Flow
end_if true flow.Open = flow.Ended
end_if _ f = f

-- a direction that is open broke off, where this says so
abbrev pub break_if : Bool → Flow → Flow
break_if true flow.Open = flow.Broken
break_if _ f = f

-- the directions that are open break off
abbrev pub broken_off : Directions → Directions
broken_off w = record w { to_peer = break_if true w.to_peer; from_peer = break_if true w.from_peer }

-- The direction to the peer ends as the stream is finished, and that from it as the stream's end is read. Both break off where the
-- stream is reset or refuses a call. A write that was refused for lack of memory is remembered.
abbrev pub directions_at : (id : ℕ) → Event → Reply → Directions → Directions
directions_at id e told w = record {
  to_peer = break_if (stops_at id e told) (end_if (finishes_at id e) w.to_peer);
  from_peer = break_if (stops_at id e told) (end_if (ends_at id e told) w.from_peer);
  lacked_memory = w.lacked_memory || lacks_memory_at id e told;
}

-- so it is event by event
abbrev pub directions_after : (id : ℕ) → List (Event × Reply) → Directions → Directions
directions_after id [] w = w
directions_after id (e ∷ es) w = directions_after id es (directions_at id e.0 e.1 w)

-- its device may take bytes, and the direction to it is open
abbrev pub may_push : Directions → Marks → Bool
may_push w m = m.may_push && is_open w.from_peer

-- its device may have bytes, and the direction from it is open
abbrev pub may_pull : Directions → Marks → Bool
may_pull w m = m.may_pull && is_open w.to_peer
