-- What a reader of items puts together from them (this project's own).
use Rattle.std.specs.Prelude.{ℕ, ◌==◌, List, [], ◌∷◌, ◌++◌, Bool, true, false, if◌then◌else◌, Option, None, Some}
use Rattle.ymx_header.specs.declared.header.Header.{Header}
use Rattle.ymx_header.specs.Headers.{header_of}
use Rattle.ymx_cutter.specs.declared.item.Item.{Item}
use Rattle.ymx_cutter.specs.declared.item.Item.TheVariants as item
use Rattle.ymx_header.specs.Frames.{Frame, payload_length}

-- the frames that are whole, the header that was handed out last, and the payload that has come since
pub record Gathered : Type 0 where
  pub frames : List Frame
  pub header : Header
  pub payload : List ℕ

-- at the beginning: no frames, and no header yet, so any serves
abbrev pub nothing : Gathered
nothing = record { frames = []; header = header_of []; payload = [] }

-- with this frame too, which is whole now
abbrev pub with_frame : Gathered → Header → List ℕ → Gathered
with_frame g h payload = record { frames = g.frames ++ record { header = h; payload = payload } ∷ []; header = h; payload = [] }

-- a header begins a frame, which is whole if no payload follows
abbrev pub with_header : Gathered → Header → Gathered
with_header g h = if payload_length h == 0 then with_frame g h [] else record { frames = g.frames; header = h; payload = [] }

-- a piece of payload goes on with the frame, and the last one makes it whole
abbrev pub with_piece : Gathered → List ℕ → Bool → Gathered
with_piece g bytes true = with_frame g g.header (g.payload ++ bytes)
with_piece g bytes false = record { frames = g.frames; header = g.header; payload = g.payload ++ bytes }

-- after a call that took these bytes and gave this item
abbrev pub gathers : Gathered → List ℕ → Option Item → Gathered
gathers g bytes None = g
gathers g bytes (Some (item.Head h)) = with_header g h
gathers g bytes (Some (item.Piece len last)) = with_piece g bytes last
gathers g bytes (Some (item.Fault fault)) = g
