-- What an engine passes from its wire straight on to the device of a connection (this project's own).
use Rattle.std.specs.Prelude.{ℕ, ⊤, ◌≡◌, ◌==◌, ◌+◌, ◌-◌, ◌<◌, ◌≤◌, ◌++◌, ◌∷◌, ◌||◌, ◌⊎◌, List, [], length, take, drop, min, sum, if◌then◌else◌, Bool, true, false, option_map, Some}
use Rattle.std.specs.List.{list_all}
use Rattle.std.specs.Io.KnownBytes.{Appends}
use Rattle.ymx_machine.specs.declared.types.Call.TheVariants as call
use Rattle.ymx_machine.specs.shared.Events.{Reply}
use Rattle.ymx_model.specs.session.Events.{Event}
use Rattle.ymx_model.specs.declared.types.Event.TheVariants as event
use Rattle.ymx_model.specs.session.Sessions.{Session}
use Rattle.ymx_session.specs.declared.passing.Passing.{Passing}
use Rattle.ymx_session.specs.Passing.{passing, IsPlainHeader, PassesBehind}
use Rattle.ymx_engine.specs.declared.row.Row.{Row}
use Rattle.ymx_engine.specs.declared.directions.Directions.{Directions}
use Rattle.ymx_engine.specs.Devices.{Seen}
use Rattle.ymx_engine.specs.Events.{Happen, given, has_end, has_reset, has_stop}
use Rattle.ymx_engine.specs.Engines.{Engine}
use Rattle.ymx_engine.specs.Exchanges.{has_bytes}
use Rattle.ymx_engine.specs.Directions.{directions_after, may_push}
use Rattle.ymx_engine.specs.Wires.{fed, rejections, FeedsFront}

-- the first so many of the bytes that wait are payload of this stream, and may be passed on
pub record IsPayload (id count : ℕ) (e : Engine) : Type 0 where
  pub payload : Passing
  pub next : passing e.session ≡ Some payload
  pub same : payload.id ≡ id
  pub missing : count ≤ payload.missing
  pub waits : count ≤ length e.incoming

-- a feed, or a read or a reset of this stream
abbrev pub is_of_pass : ℕ → Event → Bool
is_of_pass id (event.Call (call.Read other room)) = other == id
is_of_pass id (event.Call (call.Reset other)) = other == id
is_of_pass id (event.Feed bytes) = true
is_of_pass id _ = false

-- a feed, that the peer's bytes have ended, or a read or a reset of a stream
abbrev pub is_of_reading : Event → Bool
is_of_reading (event.Call (call.Read id room)) = true
is_of_reading (event.Call (call.Reset id)) = true
is_of_reading (event.Feed bytes) = true
is_of_reading event.FeedEnd = true
is_of_reading _ = false

-- Nothing happened but feeds of what waited, and reads and a reset of this stream. Each feed offers the front of what
-- waits; the session took a beginning, and the rest waits. The device took just what the stream gave, in order, and gave
-- nothing. It was ended exactly if the stream's end was read, and the stream was reset exactly if the device failed. The
-- device was shut exactly if the stream was reset, or refused a read. No feed lacked memory. Nothing went to the wire. The directions
-- of the connection follow that, and no mark of the device went on, unless it was shut.
pub record PassesOn (id : ℕ) (old new : Engine) (before after : Seen) (calls : ℕ) (was now : Directions) : Type 0 where
  pub events : List (Event × Reply)
  pub happen : Happen events old.session new.session
  pub own : list_all (λ e. is_of_pass id e.0) events ≡ true
  pub fronts : FeedsFront old.incoming events
  pub starves : rejections events ≡ 0
  pub from_wire : old.incoming ≡ fed events ++ new.incoming
  pub from_peer : Appends before.had after.had (given id events)
  pub fails : Bool
  pub failed : after.failed ≡ option_map (λ b. b || fails) before.failed
  pub reset : has_reset id events ≡ fails
  pub outgoing : new.outgoing ≡ old.outgoing
  pub left : after.left ≡ before.left
  pub over : after.over ≡ before.over
  pub ended : after.ended ≡ option_map (λ b. b || has_end id events) before.ended
  pub shut : after.shut ≡ option_map (λ b. b || has_stop id events) before.shut
  pub few : after.calls ≤ before.calls + calls
  pub directions : now ≡ directions_after id events was
  pub pull_on : after.marks.may_pull ≡ true → (before.marks.may_pull ≡ true) ⊎ (has_stop id events ≡ true)
  pub push_on : after.marks.may_push ≡ true → (before.marks.may_push ≡ true) ⊎ (has_stop id events ≡ true)

-- ---- a part of it

-- Of these bytes the first `count` came, payload of this stream and headers between; the payload was read at once, and the
-- device took just that: some, or it may take none now. Or the device failed, and the stream was reset. The directions of the
-- connection follow that, no feed lacked memory, and no mark of the device went on, unless it was shut.
pub record OffersOnce (id : ℕ) (bytes : List ℕ) (count : ℕ) (s t : Session) (before after : Seen) (was now : Directions) : Type 0 where
  pub events : List (Event × Reply)
  pub happen : Happen events s t
  pub own : list_all (λ e. is_of_pass id e.0) events ≡ true
  pub fronts : FeedsFront bytes events
  pub starves : rejections events ≡ 0
  pub within : count ≤ length bytes
  pub took : fed events ≡ take count bytes
  pub from_peer : Appends before.had after.had (given id events)
  pub fails : Bool
  pub failed : after.failed ≡ option_map (λ b. b || fails) before.failed
  pub reset : has_reset id events ≡ fails
  pub left : after.left ≡ before.left
  pub over : after.over ≡ before.over
  pub ended : after.ended ≡ option_map (λ b. b || has_end id events) before.ended
  pub shut : after.shut ≡ option_map (λ b. b || has_stop id events) before.shut
  pub few : after.calls ≤ before.calls + 2
  pub directions : now ≡ directions_after id events was
  pub delivers : (has_bytes (given id events) ≡ true) ⊎ (may_push now after.marks ≡ false)
  pub pull_on : after.marks.may_pull ≡ true → (before.marks.may_pull ≡ true) ⊎ (has_stop id events ≡ true)
  pub push_on : after.marks.may_push ≡ true → (before.marks.may_push ≡ true) ⊎ (has_stop id events ≡ true)

-- ---- frames in a row

-- how many bytes of each of its frames wait
abbrev pub counts_of : Row → List ℕ
counts_of r = r.first ∷ r.second ∷ r.third ∷ r.fourth ∷ []

-- how many these are
abbrev pub row_len : Row → ℕ
row_len r = r.first + r.second + r.third + r.fourth

-- so many bytes of each frame, where a header of 12 bytes stands before each but the first
abbrev pub payload_in : List ℕ → List ℕ → List ℕ
payload_in [] waits = []
payload_in (n ∷ ns) waits = take n waits ++ payload_in ns (drop (n + 12) waits)

-- the payload that waits in a row
abbrev pub payload_of : Row → List ℕ → List ℕ
payload_of r waits = payload_in (counts_of r) waits

-- So many bytes of each frame wait in a row. Of the first `missing` bytes are missing, and at most these wait. Where bytes of
-- a further frame do, all do, and after them its header, of the same stream and without flags; and so on. The headers say
-- `said` bytes of payload at most.
abbrev pub InRow : (id missing said : ℕ) → List ℕ → (waits : List ℕ) → Type 0
InRow id missing said [] waits = ⊤
InRow id missing said (n ∷ ns) waits = (n ≤ missing) × (n ≤ length waits)
    × (0 < sum ns → (n ≡ missing) × ((next : ℕ) × IsPlainHeader id next (take 12 (drop n waits)) × (next ≤ said) × InRow id next (said - next) ns (drop (n + 12) waits)))

-- what waits after so many bytes of each frame of a row
unfoldable pub behind_row : List ℕ → List ℕ → List ℕ
behind_row [] waits = waits
behind_row (n ∷ ns) waits = if sum ns == 0 then drop n waits else behind_row ns (drop (n + 12) waits)

-- What waits begins with this payload of one stream in a row, all of its first frame that waits. All of it may be passed on.
-- Something else waits after it, where it is whole.
pub record IsRow (row : Row) (waits : List ℕ) (s : Session) : Type 0 where
  pub missing : ℕ
  pub said : ℕ
  pub first : row.first ≡ min missing (length waits)
  pub in_row : InRow row.id missing said (counts_of row) waits
  pub passes : PassesBehind row.id missing said s
  pub whole : row.is_whole ≡ true → 0 < length (behind_row (counts_of row) waits)

-- After a row whose headers say `ahead` bytes stands one frame more: its header, and so many bytes of its payload, all that
-- wait.
pub record Follows (id missing ahead count : ℕ) (waits behind : List ℕ) (next : ℕ) (s : Session) : Type 0 where
  pub said : ℕ
  pub plain : IsPlainHeader id said (take 12 waits)
  pub least : count ≡ min said (length waits - 12)
  pub rest : behind ≡ drop (12 + count) waits
  pub sums : next ≡ ahead + said
  pub passes : PassesBehind id missing next s

-- one frame more, unless the row ended before; or none, and then it ends
abbrev pub MayFollow : (id missing : ℕ) → (ended : Bool) → (ahead : ℕ) → (waits : List ℕ) → (count : ℕ) → (behind : List ℕ) → (next : ℕ) → (ends : Bool) → (s : Session) → Type 0
MayFollow id missing ended ahead waits count behind next ends s =
    ((count ≡ 0) × (next ≡ ahead) × (ends ≡ true) × (behind ≡ waits)) ⊎ ((ended ≡ false) × Follows id missing ahead count waits behind next s)

-- Nothing happened but feeds of the front of what waited, none of which lacked memory, and reads of this stream, which gave just
-- these bytes. What was fed waits no more.
pub record Commits (id : ℕ) (bytes waits rest : List ℕ) (s t : Session) : Type 0 where
  pub events : List (Event × Reply)
  pub happen : Happen events s t
  pub own : list_all (λ e. is_of_pass id e.0) events ≡ true
  pub fronts : FeedsFront waits events
  pub starves : rejections events ≡ 0
  pub took : waits ≡ fed events ++ rest
  pub gave : given id events ≡ bytes
  pub some : length bytes ≤ length (fed events)
  pub ends : has_end id events ≡ false
  pub resets : has_reset id events ≡ false
  pub stops : has_stop id events ≡ false
