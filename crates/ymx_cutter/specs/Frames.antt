-- Frames one after the other (framing).
use Rattle.std.specs.Prelude.{ℕ, ◌<◌, List, All}
use Rattle.std.specs.List.{flat_map}
use Rattle.ymx_header.specs.Headers.{IsInRange}
use Rattle.ymx_header.specs.Frames.{Frame, frame_spelling, IsFrame}

-- a frame that a receiver with this limit takes
pub record IsGoodFrame (limit : ℕ) (f : Frame) : Type 0 where
  pub in_range : IsInRange f.header
  pub is_frame : IsFrame limit (frame_spelling f)

-- the spellings of frames, one after the other
abbrev pub joined : List Frame → List ℕ
joined frames = flat_map frame_spelling frames

-- a text is a list of bytes
abbrev pub IsBytes : List ℕ → Type 0
IsBytes text = All (λ byte. byte < 256) text
