-- What a frame says, in the parts of the law of one stream (flags, flow control).
use Rattle.std.specs.Prelude.{ℕ, List, [], ◌∷◌, ◌++◌, drop, ◌&&◌, ◌||◌, ◌==◌, if◌then◌else◌}
use Rattle.ymx_header.specs.declared.header.Header.{Header}
use Rattle.ymx_header.specs.Headers.{header_of, has_syn, has_ack, has_fin, has_rst}
use Rattle.ymx_model.specs.session.Parts.{Part}
use Rattle.ymx_model.specs.session.Parts.Part.{Syn, Ack, Data, Credit, Fin, Rst}
use Rattle.ymx_model.specs.session.Arrivals.{is_data, delta}

-- how a frame begins: a SYN and an ACK carry its delta, and so does a Window Update without them, unless
-- it is there for its FIN alone
abbrev pub opening : Header → List Part
opening h =
    if has_syn h then Syn (delta h) ∷ []
    else if has_ack h then Ack (delta h) ∷ []
    else if is_data h || (has_fin h && delta h == 0) then []
    else Credit (delta h) ∷ []

-- what follows: the payload, and the end
abbrev pub rest_parts : Header → (payload : List ℕ) → List Part
rest_parts h payload = (if is_data h then Data payload ∷ [] else []) ++ (if has_fin h then Fin ∷ [] else [])

-- A frame of a stream says, in this order: SYN, ACK or credit; its payload; the end. A reset says
-- besides itself only an acknowledgement.
abbrev pub frame_says : Header → (payload : List ℕ) → List Part
frame_says h payload =
    if has_rst h then (if has_ack h then Ack 0 ∷ [] else []) ++ Rst ∷ []
    else opening h ++ rest_parts h payload

-- the same of its bytes
abbrev pub bytes_say : List ℕ → List Part
bytes_say bytes = frame_says (header_of bytes) (drop 12 bytes)
