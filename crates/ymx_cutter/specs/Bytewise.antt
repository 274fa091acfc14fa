-- The same cutter, one byte after the other (this project's own).
use Rattle.std.specs.Prelude.{ℕ, ◌+◌, ◌-◌, ◌==◌, List, [], ◌∷◌, ◌++◌, length, Bool, false, if◌then◌else◌, Option, None, Some}
use Rattle.std.specs.List.{flat_map}
use Rattle.ymx_header.specs.declared.header.Header.{Header}
use Rattle.ymx_header.specs.declared.fault.Fault.{Fault}
use Rattle.ymx_header.specs.Headers.{header_of}
use Rattle.ymx_cutter.specs.declared.item.Item.{Item}
use Rattle.ymx_cutter.specs.declared.item.Item.TheVariants as item
use Rattle.ymx_header.specs.Frames.{payload_length, fault_of}
use Rattle.ymx_cutter.specs.Cutters.{Seen, seen_after, payload_seen}
use Rattle.ymx_cutter.specs.Cutters.Seen.{InHeader, Payload, Broken}
use Rattle.ymx_cutter.specs.Calls.{Call}

-- what one byte tells: a header is whole, or has a fault, or a byte of payload came, the last one or not
pub data Event : Type 0 where
  Header_came : (header : Header) → Event
  Fault_came : (fault : Fault) → Event
  Payload_came : (byte : ℕ) (last : Bool) → Event

abbrev pub header_event : Option Fault → Header → Event
header_event None h = Header_came h
header_event (Some fault) h = Fault_came fault

-- what is seen after one more byte
abbrev pub byte_seen : ℕ → Seen → ℕ → Seen
byte_seen limit (InHeader bytes) b =
    if length bytes == 11
    then seen_after (fault_of limit (header_of (bytes ++ b ∷ []))) (payload_length (header_of (bytes ++ b ∷ [])))
    else InHeader (bytes ++ b ∷ [])
byte_seen limit (Payload came missing) b = payload_seen (came + 1) (missing - 1)
byte_seen limit (Broken fault) b = Broken fault

-- what it tells
abbrev pub byte_events : ℕ → Seen → ℕ → List Event
byte_events limit (InHeader bytes) b =
    if length bytes == 11
    then header_event (fault_of limit (header_of (bytes ++ b ∷ []))) (header_of (bytes ++ b ∷ [])) ∷ []
    else []
byte_events limit (Payload came missing) b = Payload_came b (missing == 1) ∷ []
byte_events limit (Broken fault) b = []

-- what is seen after all these bytes
abbrev pub seen_in : ℕ → Seen → List ℕ → Seen
seen_in limit seen [] = seen
seen_in limit seen (b ∷ bs) = seen_in limit (byte_seen limit seen b) bs

-- what they tell, in order
abbrev pub events_in : ℕ → Seen → List ℕ → List Event
events_in limit seen [] = []
events_in limit seen (b ∷ bs) = byte_events limit seen b ++ events_in limit (byte_seen limit seen b) bs

-- the bytes of a piece, the last of which ends the payload or not
abbrev pub piece_events : List ℕ → Bool → List Event
piece_events [] last = []
piece_events (b ∷ []) last = Payload_came b last ∷ []
piece_events (b ∷ c ∷ bytes) last = Payload_came b false ∷ piece_events (c ∷ bytes) last

-- what an item tells, given the bytes that its call took. A fault that is repeated takes none, and tells nothing new
abbrev pub item_events : Option Item → List ℕ → List Event
item_events None bytes = []
item_events (Some (item.Head h)) bytes = Header_came h ∷ []
item_events (Some (item.Piece len last)) bytes = piece_events bytes last
item_events (Some (item.Fault fault)) [] = []
item_events (Some (item.Fault fault)) (b ∷ bytes) = Fault_came fault ∷ []

-- what the items of calls tell, in order
abbrev pub events_of : List Call → List Event
events_of calls = flat_map (λ call. item_events call.item call.bytes) calls
