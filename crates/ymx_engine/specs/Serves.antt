-- What a connection moves in one turn (this project's own).
use Rattle.std.specs.Prelude.{ℕ, ◌≡◌, ◌⊎◌, ◌+◌, ◌<◌, ◌≤◌, ◌++◌, List, [], length, min, Bool, true, false}
use Rattle.std.specs.List.{list_all}
use Rattle.ymx_model.specs.session.Events.{Event}
use Rattle.ymx_model.specs.declared.types.Event.TheVariants as event
use Rattle.ymx_machine.specs.shared.Events.{Reply}
use Rattle.ymx_machine.specs.declared.types.Reply.TheVariants as reply
use Rattle.ymx_model.specs.session.Sessions.{Session}
use Rattle.ymx_model.specs.session.Sessions.{is_running}
use Rattle.ymx_model.specs.session.Calls.{read_from, write_to}
use Rattle.ymx_law_session.specs.Limits.{IsWithin}
use Rattle.ymx_session.specs.Streams.{waiting, room_of}
use Rattle.ymx_engine.specs.declared.directions.Directions.{Directions}
use Rattle.ymx_engine.specs.Devices.{Seen, Marks, one_read}
use Rattle.ymx_engine.specs.Events.{Happen, is_on, taken, given, has_end, has_finish, has_reset, is_stop, has_stop}
use Rattle.ymx_engine.specs.Exchanges.{has_bytes}
use Rattle.ymx_engine.specs.Lives.{Trades, all_of}
use Rattle.ymx_engine.specs.Directions.{is_open, directions_after, may_push, may_pull}
use Rattle.ymx_engine.specs.Wires.{emitted}

-- a write, a read or an end of this stream, or an emission
abbrev pub is_of_turn : ℕ → Event → Bool
is_of_turn id (event.Call call) = is_on id (event.Call call)
is_of_turn id (event.Feed bytes) = false
is_of_turn id event.FeedEnd = false
is_of_turn id (event.Emit room) = true

-- an emission
abbrev pub is_emission : Event → Bool
is_emission (event.Call call) = false
is_emission (event.Feed bytes) = false
is_emission event.FeedEnd = false
is_emission (event.Emit room) = true

-- Between s and t nothing happened but these events of one stream, and emissions, which wait after what waited for the
-- wire. The stream and its device moved what `Trades` says.
pub record Exchanges (id : ℕ) (s t : Session) (out out_new : List ℕ) (before after : Seen) : Type 0 where
  pub events : List (Event × Reply)
  pub happen : Happen events s t
  pub own : list_all (λ e. is_of_turn id e.0) events ≡ true
  pub trades : Trades id events before after
  pub to_wire : out ++ emitted events ≡ out_new

-- no more comes, as the end was read, or a read was refused
abbrev pub tells_end : Reply → Bool
tells_end reply.ReadEnd = true
tells_end (reply.Refused fault) = true
tells_end _ = false

-- a read of the stream would say that no more comes
abbrev pub is_silent : ℕ → Session → Bool
is_silent id s = tells_end (read_from id 1 s).reply

-- the stream takes no bytes any more, though it was not finished here
abbrev pub is_stopped : ℕ → Session → Bool
is_stopped id s = is_stop (write_to id [] s).reply

-- A device that may have more still, on whose stream there is room for more, gave so much at least, unless its end is near.
abbrev pub GivesWhole : (gave least room : ℕ) → Directions → Marks → Type 0
GivesWhole gave least room now m = may_pull now m ≡ true → m.is_closing ≡ false → 0 < room → least ≤ gave

-- One turn of a connection, in which it gives so many bytes at most, and isn't read where that is none. Nothing happened but what
-- `Exchanges` says, in at most eight calls of the device, and its directions follow that. Where bytes waited that the device might
-- take, it took all, or may take none now. Where it might have bytes and was to be read, it gave some, or may have none now, or
-- the stream takes none; and where it may have more still, and the stream takes more, it gave as much as it might or a whole read,
-- unless its end is near. No mark went on, unless the device was shut. It has more to do at least where bytes wait still that the device may
-- take, or no more come; where it may have bytes that the stream takes, and was to be read; where the stream takes none any more,
-- though it was not finished here, and where the session is over, while its direction to the peer is open. It has more to do only where
-- the device took bytes and may take more, gave bytes and may have more, or where the session is over and its direction to the peer
-- open: a turn in which no byte moved is the last in a session that runs.
pub record Turn (id most : ℕ) (s t : Session) (out out_new : List ℕ) (before after : Seen) (was now : Directions) (more : Bool) (gave : ℕ) : Type 0 where
  pub moved : Exchanges id s t out out_new before after
  pub few : after.calls ≤ before.calls + 8
  pub directions : now ≡ directions_after id moved.events was
  pub gives : gave ≡ length (all_of moved.trades.pieces)
  pub within : gave ≤ most
  pub delivers : may_push was before.marks ≡ true → (length (waiting id s) ≤ length (given id moved.events)) ⊎ (may_push now after.marks ≡ false)
  pub collects : 0 < most → may_pull was before.marks ≡ true → (0 < gave) ⊎ ((may_pull now after.marks ≡ false) ⊎ (room_of id t ≡ 0))
  pub fills : 0 < most → GivesWhole gave (min most one_read) (room_of id t) now after.marks
  pub pull_on : after.marks.may_pull ≡ true → (before.marks.may_pull ≡ true) ⊎ (has_stop id moved.events ≡ true)
  pub push_on : after.marks.may_push ≡ true → (before.marks.may_push ≡ true) ⊎ (has_stop id moved.events ≡ true)
  pub stays : IsWithin s → may_push now after.marks ≡ true → 0 < length (waiting id t) → more ≡ true
  pub asks_on : 0 < most → may_pull now after.marks ≡ true → 0 < room_of id t → more ≡ true
  pub hears : is_running t.status ≡ false → is_open now.to_peer ≡ true → more ≡ true
  pub ends_on : may_push now after.marks ≡ true → is_silent id t ≡ true → more ≡ true
  pub stops_on : is_open now.to_peer ≡ true → is_stopped id t ≡ true → more ≡ true
  pub rests : more ≡ true → ((may_push now after.marks ≡ true) × (has_bytes (given id moved.events) ≡ true)) ⊎ (((may_pull now after.marks ≡ true) × (0 < gave)) ⊎ ((is_running t.status ≡ false) × (is_open now.to_peer ≡ true)))

-- ---- a part of it

-- Nothing happened but what `Exchanges` says, in at most so many calls of the device, which gave so many bytes; and the directions
-- follow that. No mark went on, unless the device was shut.
pub record Part (id : ℕ) (s t : Session) (out out_new : List ℕ) (before after : Seen) (was now : Directions) (calls gave : ℕ) : Type 0 where
  pub moved : Exchanges id s t out out_new before after
  pub few : after.calls ≤ before.calls + calls
  pub directions : now ≡ directions_after id moved.events was
  pub gives : gave ≡ length (all_of moved.trades.pieces)
  pub pull_on : after.marks.may_pull ≡ true → (before.marks.may_pull ≡ true) ⊎ (has_stop id moved.events ≡ true)
  pub push_on : after.marks.may_push ≡ true → (before.marks.may_push ≡ true) ⊎ (has_stop id moved.events ≡ true)

-- A part in which the device gave nothing. Where bytes waited that the device might take, it took all, or may take none now.
pub record Delivers (id : ℕ) (s t : Session) (out out_new : List ℕ) (before after : Seen) (was now : Directions) (calls : ℕ) : Type 0 where
  pub part : Part id s t out out_new before after was now calls 0
  pub delivers : may_push was before.marks ≡ true → (length (waiting id s) ≤ length (given id part.moved.events)) ⊎ (may_push now after.marks ≡ false)

-- Nothing happened but writes and reads of this stream, which took and gave just these bytes, and emissions, which wait after what
-- waited.
pub record TakesAndGives (id : ℕ) (took gave : List ℕ) (s t : Session) (out out_new : List ℕ) : Type 0 where
  pub events : List (Event × Reply)
  pub happen : Happen events s t
  pub own : list_all (λ e. is_of_turn id e.0) events ≡ true
  pub takes : taken id events ≡ took
  pub gives : given id events ≡ gave
  pub ends : has_end id events ≡ false
  pub finishes : has_finish id events ≡ false
  pub resets : has_reset id events ≡ false
  pub stops : has_stop id events ≡ false
  pub to_wire : out ++ emitted events ≡ out_new

-- what is due may have been emitted, and waits after what waited
pub record PutsDue (s t : Session) (out out_new : List ℕ) : Type 0 where
  pub events : List (Event × Reply)
  pub happen : Happen events s t
  pub own : list_all (λ e. is_emission e.0) events ≡ true
  pub to_wire : out ++ emitted events ≡ out_new

-- ---- what a device hears

-- the direction to it is not open, or its stream says that more may come
abbrev pub HearsEnd : ℕ → Session → Directions → Type 0
HearsEnd id s now = (is_open now.from_peer ≡ false) ⊎ ((read_from id 1 s).reply ≡ reply.ReadWait)

-- where the direction from it is open, its stream takes bytes still, or was finished here
abbrev pub HearsStop : ℕ → Session → Directions → Type 0
HearsStop id s now = is_open now.to_peer ≡ true → is_stopped id s ≡ false
