-- What an engine and its wire move (this project's own).
use Rattle.std.specs.Prelude.{ℕ, ⊤, ◌≡◌, ◌+◌, ◌-◌, ◌^◌, min, ◌≤◌, ◌++◌, ◌∷◌, ◌||◌, List, [], length, take, drop, Bool, true, false, option_map}
use Rattle.std.specs.List.{list_all}
use Rattle.std.specs.Io.KnownBytes.{Appends, Consumes}
use Rattle.ymx_model.specs.session.Events.{Event}
use Rattle.ymx_model.specs.declared.types.Event.TheVariants as event
use Rattle.ymx_machine.specs.shared.Events.{Reply}
use Rattle.ymx_machine.specs.declared.types.Reply.TheVariants as reply
use Rattle.ymx_engine.specs.declared.device.Pulled.{Pulled}
use Rattle.ymx_engine.specs.declared.device.Pushed.{Pushed}
use Rattle.ymx_engine.specs.Devices.{Seen, pulled_count, pushed_count, IsPulled, IsPushed}
use Rattle.ymx_engine.specs.Events.{Happen}
use Rattle.ymx_engine.specs.Engines.{Engine}

-- the bytes that were emitted at an event
abbrev pub emitted_at : Event → Reply → List ℕ
emitted_at (event.Emit room) (reply.Emitted out) = out
emitted_at _ told = []

abbrev pub emitted : List (Event × Reply) → List ℕ
emitted [] = []
emitted (e ∷ es) = emitted_at e.0 e.1 ++ emitted es

-- the bytes that the session took at an event
abbrev pub fed_at : Event → Reply → List ℕ
fed_at (event.Feed bytes) (reply.Fed fed) = take fed.taken bytes
fed_at _ told = []

abbrev pub fed : List (Event × Reply) → List ℕ
fed [] = []
fed (e ∷ es) = fed_at e.0 e.1 ++ fed es

-- a feed, or that the peer's bytes have ended
abbrev pub is_of_read : Event → Bool
is_of_read (event.Call call) = false
is_of_read (event.Feed bytes) = true
is_of_read event.FeedEnd = true
is_of_read (event.Emit room) = false

-- an emission, or that the peer's bytes have ended
abbrev pub is_of_flush : Event → Bool
is_of_flush (event.Call call) = false
is_of_flush (event.Feed bytes) = false
is_of_flush event.FeedEnd = true
is_of_flush (event.Emit room) = true

-- the session heard that the peer's bytes have ended
abbrev pub ends_feed : Event → Bool
ends_feed (event.Call call) = false
ends_feed (event.Feed bytes) = false
ends_feed event.FeedEnd = true
ends_feed (event.Emit room) = false

abbrev pub has_feed_end : List (Event × Reply) → Bool
has_feed_end [] = false
has_feed_end (e ∷ es) = ends_feed e.0 || has_feed_end es

-- how many streams of the peer's were rejected at a feed, as there was no memory for them
abbrev pub rejected_at : Event → Reply → ℕ
rejected_at (event.Feed bytes) (reply.Fed fed) = fed.no_memory
rejected_at _ told = 0

abbrev pub rejections : List (Event × Reply) → ℕ
rejections [] = 0
rejections (e ∷ es) = rejected_at e.0 e.1 + rejections es

-- so many more, as long as a `u64` can count them
abbrev pub count_on : ℕ → ℕ → ℕ
count_on n added = n + min added (2 ^ 64 - 1 - n)

-- a feed offers the front of what waits
abbrev pub OffersFront : List ℕ → Event → Type 0
OffersFront waits (event.Feed bytes) = (rest : List ℕ) × (waits ≡ bytes ++ rest)
OffersFront waits _ = ⊤

-- Each feed offers the front of what waits, and what it takes waits no more.
abbrev pub FeedsFront : List ℕ → List (Event × Reply) → Type 0
FeedsFront waits [] = ⊤
FeedsFront waits (e ∷ es) = OffersFront waits e.0 × FeedsFront (drop (length (fed_at e.0 e.1)) waits) es

-- Nothing happened but these feeds, and that the session heard of an end. What the wire gave waits after what waited
-- before; each feed offers the front of what waits; the session took a beginning, and the rest waits. The session heard
-- of an end exactly if the wire said that no more bytes come, or failed. Nothing went to the wire.
pub record ReadsWire (old new : Engine) (before after : Seen) (calls : ℕ) : Type 0 where
  pub events : List (Event × Reply)
  pub happen : Happen events old.session new.session
  pub own : list_all (λ e. is_of_read e.0) events ≡ true
  pub came : List ℕ
  pub gave : Consumes before.left after.left came
  pub fronts : FeedsFront (old.incoming ++ came) events
  pub from_wire : old.incoming ++ came ≡ fed events ++ new.incoming
  pub said_end : Bool
  pub over : after.over ≡ option_map (λ b. b || said_end) before.over
  pub fails : Bool
  pub failed : after.failed ≡ option_map (λ b. b || fails) before.failed
  pub lost : has_feed_end events ≡ (said_end || fails)
  pub outgoing : new.outgoing ≡ old.outgoing
  pub had : after.had ≡ before.had
  pub ended : after.ended ≡ before.ended
  pub shut : after.shut ≡ before.shut
  pub few : after.calls ≤ before.calls + calls

-- whether the wire said that no more bytes come, and whether it failed, is known
abbrev pub ReadsWireSo : (said_end fails : Bool) → (old new : Engine) → (before after : Seen) → (calls : ℕ) → Type 0
ReadsWireSo said_end fails old new before after calls =
    (moved : ReadsWire old new before after calls) × (moved.said_end ≡ said_end) × (moved.fails ≡ fails)

-- Nothing happened but these emissions, and that the session heard of an end. Each emission waits after what waited
-- before; of all this the wire took a beginning, and the rest waits. The session heard of an end exactly if the wire
-- failed. Nothing came from the wire.
pub record FlushesWire (old new : Engine) (before after : Seen) (calls : ℕ) : Type 0 where
  pub events : List (Event × Reply)
  pub happen : Happen events old.session new.session
  pub own : list_all (λ e. is_of_flush e.0) events ≡ true
  pub sent : List ℕ
  pub took : Appends before.had after.had sent
  pub to_wire : old.outgoing ++ emitted events ≡ sent ++ new.outgoing
  pub fails : Bool
  pub failed : after.failed ≡ option_map (λ b. b || fails) before.failed
  pub lost : has_feed_end events ≡ fails
  pub incoming : new.incoming ≡ old.incoming
  pub left : after.left ≡ before.left
  pub over : after.over ≡ before.over
  pub ended : after.ended ≡ before.ended
  pub shut : after.shut ≡ before.shut
  pub few : after.calls ≤ before.calls + calls

-- whether the wire failed is known
abbrev pub FlushesWireSo : (fails : Bool) → (old new : Engine) → (before after : Seen) → (calls : ℕ) → Type 0
FlushesWireSo fails old new before after calls = (moved : FlushesWire old new before after calls) × (moved.fails ≡ fails)

-- ---- the parts of a turn

-- Nothing happened but these feeds of what waited. `lost` says whether the session heard of an end.
pub record HandlesIn (lost : Bool) (old new : Engine) : Type 0 where
  pub events : List (Event × Reply)
  pub happen : Happen events old.session new.session
  pub own : list_all (λ e. is_of_read e.0) events ≡ true
  pub fronts : FeedsFront old.incoming events
  pub from_wire : old.incoming ≡ fed events ++ new.incoming
  pub outgoing : new.outgoing ≡ old.outgoing
  pub heard : has_feed_end events ≡ lost

-- Nothing happened but these emissions, which wait. `lost` says whether the session heard of an end.
pub record HandlesOut (lost : Bool) (old new : Engine) : Type 0 where
  pub events : List (Event × Reply)
  pub happen : Happen events old.session new.session
  pub own : list_all (λ e. is_of_flush e.0) events ≡ true
  pub to_wire : old.outgoing ++ emitted events ≡ new.outgoing
  pub incoming : new.incoming ≡ old.incoming
  pub heard : has_feed_end events ≡ lost

-- the wire was called for bytes, and what it gave waits
pub record TakesIn (result : Pulled) (old new : Engine) (before after : Seen) : Type 0 where
  pub buffer : List ℕ
  pub pulled : IsPulled result buffer before after
  pub incoming : new.incoming ≡ take (pulled_count result) buffer
  pub outgoing : new.outgoing ≡ old.outgoing
  pub session : new.session ≡ old.session

-- the wire was called with the bytes that waited, and what it didn't take waits
pub record GivesOut (result : Pushed) (old new : Engine) (before after : Seen) : Type 0 where
  pub pushed : IsPushed result old.outgoing before after
  pub outgoing : new.outgoing ≡ drop (pushed_count result) old.outgoing
  pub incoming : new.incoming ≡ old.incoming
  pub session : new.session ≡ old.session
