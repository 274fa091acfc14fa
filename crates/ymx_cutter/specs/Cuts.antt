-- What a text of bytes says, for any reader: its frames, or where a fault stands (framing).
use Rattle.std.specs.Prelude.{◌≡◌, ℕ, List, ◌++◌, length, Some, All}
use Rattle.ymx_header.specs.declared.header.Header.{Header}
use Rattle.ymx_header.specs.declared.fault.Fault.{Fault}
use Rattle.ymx_header.specs.Headers.{spelling, IsInRange}
use Rattle.ymx_header.specs.Frames.{Frame, frame_spelling, fault_of}
use Rattle.ymx_cutter.specs.Frames.{joined, IsGoodFrame}

-- The text is these frames and then a rest, which doesn't begin with a frame.
pub record Cuts (limit : ℕ) (text : List ℕ) (frames : List Frame) (rest : List ℕ) : Type 0 where
  pub whole : text ≡ joined frames ++ rest
  pub each : All (IsGoodFrame limit) frames
  pub no_more : (f : Frame) (more : List ℕ) → IsGoodFrame limit f → rest ≡ frame_spelling f ++ more → ⊥

-- Frames fill the text up to the offset, and the twelve bytes there are a header with this fault, however the text goes on.
pub record FaultStands (limit : ℕ) (text : List ℕ) (offset : ℕ) (fault : Fault) : Type 0 where
  pub before : List Frame
  pub header : Header
  pub more : List ℕ
  pub each : All (IsGoodFrame limit) before
  pub fills : length (joined before) ≡ offset
  pub in_range : IsInRange header
  pub has_fault : fault_of limit header ≡ Some fault
  pub whole : text ≡ joined before ++ (spelling header ++ more)
