-- Memory found for an entry before its event.
use Rattle.std.specs.Prelude.{◌≡◌, ℕ, ◌≤◌, [], Bool, true, false, Option, Some, None, vec_capacity}
use Rattle.ymx_model.specs.session.Events.{Event}
use Rattle.ymx_seats.specs.declared.entry_room.Copies.{Copies}
use Rattle.ymx_seats.specs.declared.entry_room.EntryRoom.{EntryRoom}

-- the copies have this event twice, and room for a reply of so many bytes twice
pub record Hold (copies : Copies) (event : Event) (bytes : ℕ) : Type 0 where
  pub mine : copies.mine ≡ event
  pub theirs : copies.theirs ≡ event
  pub empty : copies.my_bytes.items ≡ []
  pub empty_too : copies.their_bytes.items ≡ []
  pub room : bytes ≤ vec_capacity copies.my_bytes
  pub room_too : bytes ≤ vec_capacity copies.their_bytes

-- a recorder that keeps has the copies, another has none
abbrev pub HoldIf : Bool → Option Copies → Event → ℕ → Type 0
HoldIf true (Some c) event bytes = Hold c event bytes
HoldIf true None event bytes = ⊥
HoldIf false (Some c) event bytes = ⊥
HoldIf false None event bytes = Unit {0}

-- the room has what this recorder needs for the entry of such an event
abbrev pub IsReady : Bool → EntryRoom → Event → ℕ → Type 0
IsReady keeps room event bytes = HoldIf keeps room.copies event bytes
