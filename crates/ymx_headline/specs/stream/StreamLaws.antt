-- The laws of one stream by itself: whatever happens to it, its two ends and what is under way stay one stream of the machine.
use Rattle.std.specs.Prelude.{ℕ, ◌≤◌, ◌≡◌, ◌⊎◌, List, [], ◌∷◌, ◌++◌, length, Bool, true, false, None, Some}
use Rattle.ymx_machine.specs.shared.Limits.{first_credit}
use Rattle.ymx_machine.specs.stream.Streams.{Stream, flip, Allowed, after_move, IsStill, opened_stream, stream_write, stream_accept}
use Rattle.ymx_machine.specs.shared.Phases.Phase.{Unborn, Offered, Live, Lingering}
use Rattle.ymx_machine.specs.stream.Streams.Move.{Released}
use Rattle.ymx_machine.specs.stream.StreamRules.{StreamCall, StreamRule}
use Rattle.ymx_machine.specs.shared.Events.{Reply}
use Rattle.ymx_model.specs.session.Records.{End, new_end, end_write, end_accept, receive_data}
use Rattle.ymx_model.specs.declared.types.FrameKind.{FrameKind}
use Rattle.ymx_model.specs.session.FramesDue.{next_kind, begin_frame}
use Rattle.ymx_model.specs.session.Parts.{Part, parts_of}
use Rattle.ymx_model.specs.session.Parts.Part.{Data}
use Rattle.ymx_headline.specs.stream.Arrivals.{comes_to, Goes}
use Rattle.ymx_headline.specs.stream.Answers.{EndRule, end_released}
use Rattle.ymx_headline.specs.stream.OneStream.{IsOneStream, EndShows, IsQuiet}

-- A stream that this side opens, with these first bytes (none, if it is opened without data).
abbrev pub Begins : Type 0
Begins = (bytes : List ℕ) (with_data over_y : Bool) (wx wy : ℕ) → first_credit ≤ wx → first_credit ≤ wy → length bytes ≤ first_credit →
    IsOneStream false over_y wx wy (end_write bytes (new_end wx Live true with_data)) (new_end wy Unborn false false) [] [] (stream_write bytes (opened_stream wx wy))

-- What holds as one side sees it holds as the other does.
abbrev pub Flips : Type 0
Flips = (over_x over_y : Bool) (wx wy : ℕ) (x y : End) (xy yx : List Part) (s : Stream) →
    IsOneStream over_x over_y wx wy x y xy yx s → IsOneStream over_y over_x wy wx y x yx xy (flip s)

-- A call on an end gives an answer that the machine may give, and the stream goes as the machine's does.
abbrev pub Calls : Type 0
Calls = (lost : Bool) (call : StreamCall) (r : Reply) (over_y : Bool) (wx wy : ℕ) (x next y : End) (xy yx : List Part) (s : Stream) →
    IsOneStream lost over_y wx wy x y xy yx s → EndRule lost call x r next →
    (t : Stream) × StreamRule lost call s r t × IsOneStream lost over_y wx wy next y xy yx t

-- An offered stream is accepted.
abbrev pub Accepts : Type 0
Accepts = (lost over_y : Bool) (wx wy : ℕ) (x y : End) (xy yx : List Part) (s : Stream) →
    x.phase ≡ Offered → IsOneStream lost over_y wx wy x y xy yx s →
    IsOneStream lost over_y wx wy (end_accept lost x) y xy yx (stream_accept lost s)

-- What an end has of the stream is what the machine has, as far as answers need it.
abbrev pub Showing : Type 0
Showing = (over_x over_y : Bool) (wx wy : ℕ) (x y : End) (xy yx : List Part) (s : Stream) → IsOneStream over_x over_y wx wy x y xy yx s → EndShows x s

-- The frame that is due goes out, with any limit of its payload: no move of the machine.
abbrev pub Sends : Type 0
Sends = (k : FrameKind) (limit : ℕ) (over_y : Bool) (wx wy : ℕ) (x y : End) (xy yx : List Part) (s : Stream) →
    next_kind wx x ≡ Some k → IsOneStream false over_y wx wy x y xy yx s →
    IsOneStream false over_y wx wy (begin_frame wx limit k x) y (xy ++ parts_of k wx limit x) yx s

-- A part comes whole: the machine makes its moves. A SYN may be refused.
abbrev pub Comes : Type 0
Comes = (refuse : Bool) (f : Part) (over_y : Bool) (wx wy : ℕ) (x y : End) (xy yx : List Part) (s : Stream) →
    IsOneStream false over_y wx wy x y xy (f ∷ yx) s →
    (t : Stream) × Goes refuse f s t × IsOneStream false over_y wx wy (comes_to refuse wx f x) y xy yx t

-- A beginning of a payload comes, and the rest is still under way.
abbrev pub ComesInPieces : Type 0
ComesInPieces = (bytes rest : List ℕ) (over_y : Bool) (wx wy : ℕ) (x y : End) (xy yx : List Part) (s : Stream) →
    IsOneStream false over_y wx wy x y xy (Data (bytes ++ rest) ∷ yx) s →
    (t : Stream) × Goes false (Data bytes) s t × IsOneStream false over_y wx wy (receive_data bytes x) y xy (Data rest ∷ yx) t

-- A payload of which nothing is left has come.
abbrev pub PayloadOver : Type 0
PayloadOver = (over_x over_y : Bool) (wx wy : ℕ) (x y : End) (xy yx : List Part) (s : Stream) →
    IsOneStream over_x over_y wx wy x y xy (Data [] ∷ yx) s → IsOneStream over_x over_y wx wy x y xy yx s

-- An end given up that has nothing left to send goes; at a side that is over, at any time.
abbrev pub ReleaseLaw : Type 0
ReleaseLaw = (over_x over_y : Bool) (wx wy : ℕ) (x y : End) (xy yx : List Part) (s : Stream) →
    x.phase ≡ Lingering → (over_x ≡ true) ⊎ (next_kind wx x ≡ None) → IsOneStream over_x over_y wx wy x y xy yx s →
    Allowed Released s × IsOneStream over_x over_y wx wy (end_released x) y xy yx (after_move Released s)

-- A side is lost or closed.
abbrev pub Loses : Type 0
Loses = (over_y : Bool) (wx wy : ℕ) (x y : End) (xy yx : List Part) (s : Stream) →
    IsOneStream false over_y wx wy x y xy yx s → IsOneStream true over_y wx wy x y xy yx s

-- Where nothing is due and nothing under way, the stream is still.
abbrev pub QuietIsStill : Type 0
QuietIsStill = (wx wy : ℕ) (x y : End) (s : Stream) → IsQuiet wx x → IsQuiet wy y → IsOneStream false false wx wy x y [] [] s → IsStill wx wy s
