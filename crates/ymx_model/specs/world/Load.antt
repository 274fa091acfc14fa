-- Load: what two sessions have still to send (this project's own).
use Rattle.std.specs.Prelude.{ℕ, ◌+◌, ◌/◌, ◌&&◌, Bool, true, false, length, not, sum_by, count_by, List, [], ◌∷◌}
use Rattle.ymx_model.specs.session.Records.{End}
use Rattle.ymx_model.specs.session.FramesDue.{credit_due, fin_due}
use Rattle.ymx_model.specs.session.Pings.{ping_is_asked}
use Rattle.ymx_model.specs.session.GoAway.{away_due}
use Rattle.ymx_model.specs.session.Sessions.{Session, Incoming}
use Rattle.ymx_model.specs.session.Sessions.Incoming.{Head, Payload}
use Rattle.ymx_model.specs.world.Worlds.{World}

abbrev pub one_if : Bool → ℕ
one_if true = 1
one_if false = 0

-- How many frames carry these unsent bytes, each but the last so many: a byte, where frames go in any order, or
-- 16,384, where they go in turn.
abbrev pub frames_of : (least : ℕ) → List ℕ → ℕ
frames_of least [] = 0
frames_of least (b ∷ bs) = length bs / least + 1

-- of a record: the frames of its unsent bytes, and each mark that is due; a SYN or ACK may be followed by a credit
abbrev pub record_load : (least window : ℕ) → End → ℕ
record_load least window e =
    frames_of least e.writer.unsent + one_if e.marks.syn + one_if e.marks.syn + one_if e.marks.ack + one_if e.marks.ack + one_if e.marks.rst
    + one_if (credit_due window e && not e.marks.syn && not e.marks.ack) + one_if (fin_due e)

abbrev pub session_load : (least : ℕ) → Session → ℕ
session_load least s =
    sum_by (λ p. record_load least s.table.window p.1) s.table.entries
    + length s.answers + one_if (away_due s.away.here) + count_by (λ p. ping_is_asked p.stage) s.pings.pending + one_if s.error_due

-- inside the payload of a frame
abbrev pub is_inside : Incoming → Bool
is_inside (Head bytes) = false
is_inside (Payload id missing fin discarded) = true

-- of the world, in which these frames are under way: also each frame begun and not yet wholly fed
abbrev pub world_load : (least : ℕ) → World → (frames_ab frames_ba : List (List ℕ)) → ℕ
world_load least w frames_ab frames_ba =
    session_load least w.a + session_load least w.b + length frames_ab + length frames_ba
    + one_if (is_inside w.a.incoming) + one_if (is_inside w.b.incoming)
