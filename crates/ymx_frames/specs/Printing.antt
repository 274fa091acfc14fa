-- What a printer keeps of a text that comes in pieces (this project's own).
use Rattle.std.specs.Prelude.{◌≡◌, ℕ, ◌-◌, ◌^◌, min, List, length, ⊤}
use Rattle.ymx_cutter.specs.Frames.{joined}
use Rattle.ymx_cutter.specs.Gathered.{Gathered}
use Rattle.ymx_cutter.specs.Cutters.{Gathers, Seen}
use Rattle.ymx_cutter.specs.Cutters.Seen.{InHeader, Payload, Broken}
use Rattle.ymx_frames.specs.declared.printer.Printer.{Printer}
use Rattle.ymx_frames.specs.Lines.{lines, preview}

-- Of this text the frames that are whole were printed. The printer keeps what it needs of the frame begun, and its place in the text.
pub record HasPrinted (limit : ℕ) (text output : List ℕ) (p : Printer) : Type 0 where
  pub gathered : Gathered
  pub reads : Gathers limit text gathered p.cutter.seen
  pub limited : p.cutter.limit ≡ limit
  pub header : p.header ≡ gathered.header
  pub shown : p.preview ≡ preview gathered.payload
  pub placed : p.offset ≡ min (length (joined gathered.frames)) (2 ^ 64 - 1)
  pub printed : output ≡ lines gathered.frames

-- no fault was seen
abbrev pub NoFault : Seen → Type 0
NoFault (InHeader bytes) = ⊤
NoFault (Payload came missing) = ⊤
NoFault (Broken fault) = ⊥

-- So it goes on, as long as no fault was seen.
pub record IsPrinting (limit : ℕ) (text output : List ℕ) (p : Printer) : Type 0 where
  pub so_far : HasPrinted limit text output p
  pub no_fault : NoFault p.cutter.seen
