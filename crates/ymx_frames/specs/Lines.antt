-- The lines that are printed of a text of frames (this project's own; the frames are those of yamux, framing).
use Rattle.std.specs.Prelude.{ℕ, ◌-◌, ◌^◌, ◌==◌, nat_lt, min, List, [], ◌++◌, length, take, Bool, if◌then◌else◌, codes, decimal}
use Rattle.std.specs.List.{flat_map}
use Rattle.hex.specs.Hex.{encode_lower}
use Rattle.std.specs.Int.{bytes_high_first}
use Rattle.ymx_header.specs.declared.header.Header.{Header}
use Rattle.ymx_header.specs.declared.fault.Fault.{Fault}
use Rattle.ymx_header.specs.Faults.{fault_number}
use Rattle.ymx_header.specs.Frames.{Frame}

-- the word for a type of frame
abbrev pub kind_word : ℕ → List ℕ
kind_word kind =
    if kind == 0 then codes "data"
    else if kind == 1 then codes "window"
    else if kind == 2 then codes "ping"
    else codes "away"

-- what a line shows of a payload: its first bytes, and whether there are more
pub record Preview : Type 0 where
  pub bytes : List ℕ
  pub more : Bool

-- a line shows the first sixteen bytes
abbrev pub preview : List ℕ → Preview
preview payload = record { bytes = take 16 payload; more = nat_lt 16 (length payload) }

-- nothing where there is no payload; else a space and the bytes in hexadecimal, with two dots if there are more
abbrev pub preview_text : Preview → List ℕ
preview_text p =
    if length p.bytes == 0 then []
    else codes " " ++ encode_lower p.bytes ++ (if p.more then codes ".." else [])

-- the flags: their two bytes in hexadecimal
abbrev pub flags_text : ℕ → List ℕ
flags_text flags = codes " flags=" ++ encode_lower (bytes_high_first 2 flags)

-- the fields of a header: its type, its flags, and in decimal its stream id and length
abbrev pub fields_text : Header → List ℕ
fields_text h = kind_word h.kind ++ flags_text h.flags ++ codes " id=" ++ decimal h.id ++ codes " len=" ++ decimal h.length

-- a line of these fields and this much of the payload
abbrev pub line_text : Header → Preview → List ℕ
line_text h p = fields_text h ++ preview_text p ++ codes "\n"

-- the line of a frame
abbrev pub line : Frame → List ℕ
line f = line_text f.header (preview f.payload)

-- the lines of frames
abbrev pub lines : List Frame → List ℕ
lines frames = flat_map line frames

-- the line of a fault: its number, and the place of the bad frame's first byte, as far as 64 bits go
abbrev pub fault_line : Fault → ℕ → List ℕ
fault_line fault offset = codes "fault B" ++ decimal (fault_number fault) ++ codes " at " ++ decimal (min offset (2 ^ 64 - 1)) ++ codes "\n"

-- the line of a rest of so many bytes
abbrev pub rest_line : ℕ → List ℕ
rest_line count = codes "rest " ++ decimal count ++ codes "\n"
