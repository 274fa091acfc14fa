-- A cutter: what it has seen of the frame begun, and what a call gives (this project's own).
use Rattle.std.specs.Prelude.{◌≡◌, ℕ, ◌+◌, ◌-◌, ◌<◌, ◌==◌, nat_lt, min, List, [], ◌++◌, length, take, if◌then◌else◌, Option, None, Some, All, ⊤}
use Rattle.ymx_header.specs.declared.header.Header.{Header}
use Rattle.ymx_header.specs.declared.fault.Fault.{Fault}
use Rattle.ymx_header.specs.Headers.{spelling, header_of, IsInRange}
use Rattle.ymx_cutter.specs.declared.item.Item.{Item}
use Rattle.ymx_cutter.specs.declared.item.Item.TheVariants as item
use Rattle.ymx_header.specs.Frames.{payload_length, fault_of}
use Rattle.ymx_cutter.specs.Frames.{joined, IsGoodFrame, IsBytes}
use Rattle.ymx_cutter.specs.Gathered.{Gathered}

-- what has come of the frame begun: the bytes of its header so far; or, of its payload, how many bytes came and how many are missing; or the fault of its header
pub data Seen : Type 0 where
  InHeader : (bytes : List ℕ) → Seen
  Payload : (came : ℕ) (missing : ℕ) → Seen
  Broken : (fault : Fault) → Seen

-- the header isn't whole, or the payload isn't
abbrev pub IsUnfinished : Seen → Type 0
IsUnfinished (InHeader bytes) = length bytes < 12
IsUnfinished (Payload came missing) = 0 < missing
IsUnfinished (Broken fault) = ⊤

-- the value of a cutter: the longest payload that it takes, and what it has seen
pub record Cutting : Type 0 where
  pub limit : ℕ
  pub seen : Seen

-- what a call gives: how many bytes it took, its item, and what is seen after it
pub record Cut : Type 0 where
  pub taken : ℕ
  pub item : Option Item
  pub seen : Seen

-- a header that is whole is handed out, or its fault
abbrev pub item_of : Option Fault → Header → Item
item_of None h = item.Head h
item_of (Some fault) h = item.Fault fault

-- so many bytes of payload have come and so many are missing: if none, the next frame begins
abbrev pub payload_seen : ℕ → ℕ → Seen
payload_seen came missing = if missing == 0 then InHeader [] else Payload came missing

-- what is seen after a header that is whole, and that so many bytes of payload follow
abbrev pub seen_after : Option Fault → ℕ → Seen
seen_after None n = payload_seen 0 n
seen_after (Some fault) n = Broken fault

-- a header that ends after so many bytes of the input
abbrev pub header_cut : ℕ → ℕ → Header → Cut
header_cut limit taken h =
    record { taken = taken; item = Some (item_of (fault_of limit h) h); seen = seen_after (fault_of limit h) (payload_length h) }

-- a piece of the payload
abbrev pub piece_cut : ℕ → ℕ → ℕ → Cut
piece_cut came missing len =
    record { taken = len; item = Some (item.Piece len (len == missing)); seen = payload_seen (came + len) (missing - len) }

-- One call. Inside a header it takes bytes up to the header's end, inside a payload as much as there is of it, and after a fault nothing.
abbrev pub next_of : ℕ → Seen → List ℕ → Cut
next_of limit (InHeader bytes) input =
    if nat_lt (length bytes + length input) 12
    then record { taken = length input; item = None; seen = InHeader (bytes ++ input) }
    else header_cut limit (12 - length bytes) (header_of (bytes ++ take (12 - length bytes) input))
next_of limit (Payload came missing) input =
    if length input == 0 then record { taken = 0; item = None; seen = Payload came missing }
    else piece_cut came missing (min (length input) missing)
next_of limit (Broken fault) input = record { taken = 0; item = Some (item.Fault fault); seen = Broken fault }

-- the bytes of the frame begun, 0 between frames; a header with a fault stays begun
abbrev pub begun_of : Seen → ℕ
begun_of (InHeader bytes) = length bytes
begun_of (Payload came missing) = 12 + came
begun_of (Broken fault) = 12

-- how many bytes of the payload begun are missing, 0 in a header
abbrev pub missing_of : Seen → ℕ
missing_of (InHeader bytes) = 0
missing_of (Payload came missing) = missing
missing_of (Broken fault) = 0

-- how many bytes an item takes of the input: none at all only where all were taken, or where the fault is repeated
abbrev pub TakesFor : List ℕ → ℕ → Option Item → Type 0
TakesFor input taken None = taken ≡ length input
TakesFor input taken (Some (item.Head h)) = 0 < taken
TakesFor input taken (Some (item.Piece len last)) = (taken ≡ len) × (0 < len)
TakesFor input taken (Some (item.Fault fault)) = ⊤

-- These bytes are what was seen of the frame begun.
abbrev pub IsBegun : ℕ → Gathered → List ℕ → Seen → Type 0
IsBegun limit g begun (InHeader bytes) = (begun ≡ bytes) × (length bytes < 12)
IsBegun limit g begun (Payload came missing) =
    (begun ≡ spelling g.header ++ g.payload) × IsInRange g.header × (fault_of limit g.header ≡ None)
    × (length g.payload ≡ came) × (payload_length g.header ≡ came + missing) × (0 < missing)
IsBegun limit g begun (Broken fault) = (length begun ≡ 12) × (fault_of limit (header_of begun) ≡ Some fault)

-- The text so far is the frames that were gathered, and then what was seen of the next.
pub record Gathers (limit : ℕ) (text : List ℕ) (g : Gathered) (seen : Seen) : Type 0 where
  pub bytes : IsBytes text
  pub each : All (IsGoodFrame limit) g.frames
  pub begun : List ℕ
  pub whole : text ≡ joined g.frames ++ begun
  pub is_begun : IsBegun limit g begun seen
