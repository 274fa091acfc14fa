-- A frame: a header, and as many bytes of payload as it says (framing).
use Rattle.std.specs.Prelude.{◌≡◌, ℕ, ◌+◌, ◌≤◌, ◌==◌, nat_lt, List, ◌++◌, length, if◌then◌else◌, Option, None, Some, Result, Ok, Err}
use Rattle.ymx_header.specs.declared.header.Header.{Header}
use Rattle.ymx_header.specs.declared.header.Kind.{Kind}
use Rattle.ymx_header.specs.declared.fault.Fault.{Fault}
use Rattle.ymx_header.specs.declared.fault.Fault.TheVariants.{WindowExceeded}
use Rattle.ymx_header.specs.Headers.{spelling, header_of}
use Rattle.ymx_header.specs.Faults.{check_of}

-- how many bytes follow a header: as many as it says if its type is Data, and else none
abbrev pub payload_length : Header → ℕ
payload_length h = if h.kind == 0 then h.length else 0

-- the fault that the check of a header found, or else this one
abbrev pub checked_or : Result Kind Fault → Option Fault → Option Fault
checked_or (Ok kind) otherwise = otherwise
checked_or (Err fault) otherwise = Some fault

-- The first fault of a header by itself: its version, then its type, then a payload longer than the limit (framing, flow control).
abbrev pub fault_of : ℕ → Header → Option Fault
fault_of limit h = checked_or (check_of h) (if nat_lt limit (payload_length h) then Some WindowExceeded else None)

-- a header, and the bytes that follow it
pub record Frame : Type 0 where
  pub header : Header
  pub payload : List ℕ

-- the twelve bytes of the header, then the payload
abbrev pub frame_spelling : Frame → List ℕ
frame_spelling f = spelling f.header ++ f.payload

-- These bytes are one frame: the twelve of a header, of this version and of one of the four types, and
-- as many more as it says, at most so many as the limit.
pub record IsFrame (limit : ℕ) (bytes : List ℕ) : Type 0 where
  pub header : 12 ≤ length bytes
  pub whole : length bytes ≡ 12 + payload_length (header_of bytes)
  pub version : (header_of bytes).version ≡ 0
  pub kind : (header_of bytes).kind ≤ 3
  pub short : payload_length (header_of bytes) ≤ limit
