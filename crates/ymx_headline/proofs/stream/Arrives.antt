-- A part that comes is moves of the machine.
use Rattle.std.proofs.Common.{◌≡◌, ℕ, List, [], ◌∷◌, ◌++◌, length, true, false, refl, append_assoc, zero-add, arith}
use Rattle.ymx_machine.specs.stream.Lanes.{lane_arrive, lane_vanish, lane_return, lane_fin}
use Rattle.ymx_machine.specs.stream.Lanes.Mark.{Here}
use Rattle.ymx_machine.specs.stream.Streams.{Stream, Allowed, after_move}
use Rattle.ymx_machine.specs.shared.Phases.{takes, is_up}
use Rattle.ymx_machine.specs.shared.Phases.Phase.{Unborn, Offered}
use Rattle.ymx_machine.specs.stream.Streams.Move.{EndArrives, SynOffered, SynRefused, AckArrives, ResetArrives}
use Rattle.ymx_model.specs.session.Records.{End, new_end, reader_arrive, writer_grant, reader_end, receive_ack, receive_rst}
use Rattle.ymx_model.specs.session.Parts.{Part}
use Rattle.ymx_model.specs.session.Parts.Part.{Syn, Ack, Data, Credit, Fin, Rst}
use Rattle.ymx_headline.specs.stream.Flight.{loads, gifts, part_is_syn, holds_fin}
use Rattle.ymx_headline.specs.stream.Links.{Alive, Heard}
use Rattle.ymx_headline.specs.stream.Arrivals.{refused_end}
use Rattle.ymx_headline.proofs.stream.Marks.{born-sleeps, spoke, born-offered, acks-got, acks-opener}
use Rattle.ymx_headline.proofs.stream.Directions.{lists, kept-arrive, kept-vanish, kept-given, kept-dropped, ends-arrive, ends-comes, ends-ignored}
use Rattle.ymx_headline.proofs.stream.Phases.{takes-up, takes-born}

-- a part that isn't a SYN finds an end that is born
pub syn-only : (wx wy : ℕ) (x y : End) (xy : List Part) (f : Part) (yx : List Part) (s : Stream) →
    part_is_syn f ≡ false → Alive wx wy x y xy (f ∷ yx) s → x.phase ≡ Unborn → ⊥
syn-only wx wy x y xy f yx s n c u = let k = c.outbound.born.own_late in let b = c.inbound.born.opener in let o = c.inbound.born.first in let q = c.inbound.ordered.0 in grind arith

-- a piece of a payload that an end takes
pub taken : (bytes rest : List ℕ) (wx wy : ℕ) (x y : End) (xy yx : List Part) (s : Stream) →
    takes x.phase ≡ true → Alive wx wy x y xy (Data (bytes ++ rest) ∷ yx) s →
    Alive wx wy (record x { reader = reader_arrive bytes x.reader }) y xy (Data rest ∷ yx) (record s { inbound = lane_arrive (length bytes) s.inbound })
taken bytes rest wx wy x y xy yx s t c = assumption (
  kept-arrive bytes t (rw (append_assoc bytes rest (loads yx)) at c.inbound.holds),
  ends-arrive bytes (rw (append_assoc bytes rest (loads yx)) at c.inbound.finishes),
  spoke (Data rest ∷ yx) c.inbound,
  born-sleeps wx (record x { reader = reader_arrive bytes x.reader }) xy (takes-born x.phase t),
)

-- one that it doesn't take
pub vanished : (bytes rest : List ℕ) (wx wy : ℕ) (x y : End) (xy yx : List Part) (s : Stream) →
    is_up x.phase ≡ false → Alive wx wy x y xy (Data (bytes ++ rest) ∷ yx) s →
    Alive wx wy x y xy (Data rest ∷ yx) (record s { inbound = lane_vanish (length bytes) s.inbound })
vanished bytes rest wx wy x y xy yx s u c = assumption (
  kept-vanish bytes u (rw (append_assoc bytes rest (loads yx)) at c.inbound.holds),
  ends-arrive bytes (rw (append_assoc bytes rest (loads yx)) at c.inbound.finishes),
  spoke (Data rest ∷ yx) c.inbound,
)

-- a piece of no bytes, and one after the end, which has none
pub data-nothing : (bytes rest : List ℕ) (wx wy : ℕ) (x y : End) (xy yx : List Part) (s : Stream) →
    bytes ≡ [] → Alive wx wy x y xy (Data (bytes ++ rest) ∷ yx) s → Alive wx wy x y xy (Data rest ∷ yx) s
data-nothing bytes rest wx wy x y xy yx s e c = rw e at c

-- its last byte has come
pub data-over : (wx wy : ℕ) (x y : End) (xy yx : List Part) (s : Stream) →
    Alive wx wy x y xy (Data [] ∷ yx) s → Alive wx wy x y xy yx s
data-over wx wy x y xy yx s c = assumption (rw zero-add at c.outbound.holds, spoke yx c.inbound)

-- credit that comes to an end that takes it
pub credited : (d : ℕ) (wx wy : ℕ) (x y : End) (xy yx : List Part) (s : Stream) →
    takes x.phase ≡ true → Alive wx wy x y xy (Credit d ∷ yx) s →
    Alive wx wy (record x { writer = writer_grant d x.writer }) y xy yx (record s { outbound = lane_return d s.outbound })
credited d wx wy x y xy yx s t c = assumption (
  kept-given d {due = gifts yx} (takes-up x.phase t) c.outbound.holds,
  spoke yx c.inbound,
  born-sleeps wx (record x { writer = writer_grant d x.writer }) xy (takes-born x.phase t),
)

-- credit that comes to an end that is over
pub credit-lapses : (d : ℕ) (wx wy : ℕ) (x y : End) (xy yx : List Part) (s : Stream) →
    is_up x.phase ≡ false → Alive wx wy x y xy (Credit d ∷ yx) s → Alive wx wy x y xy yx s
credit-lapses d wx wy x y xy yx s u c = assumption (kept-dropped d {due = gifts yx} u c.outbound.holds, spoke yx c.inbound)

-- the ACK, whose credit counts as credit that comes after it
pub acknowledged : (d : ℕ) (wx wy : ℕ) (x y : End) (xy yx : List Part) (s : Stream) →
    Alive wx wy x y xy (Ack d ∷ yx) s → Allowed AckArrives s × Alive wx wy (receive_ack x) y xy (Credit d ∷ yx) (after_move AckArrives s)
acknowledged d wx wy x y xy yx s c = (
  grind arith,
  assumption (
    tt,
    acks-opener Here (grind arith) c.outbound.acks,
    acks-got c.inbound.ordered.1 c.inbound.acks,
    spoke (Credit d ∷ yx) c.inbound,
    born-sleeps wx (receive_ack x) xy (syn-only wx wy x y xy (Ack d) yx s refl c),
  ),
)

pub rst-comes : (wx wy : ℕ) (x y : End) (xy yx : List Part) (s : Stream) →
    Alive wx wy x y xy (Rst ∷ yx) s → Allowed ResetArrives s × Heard wx wy (receive_rst x) y xy yx (after_move ResetArrives s)
rst-comes wx wy x y xy yx s c = grind (arith, lists)

-- a SYN finds an end that isn't born, and isn't the opener's
pub syn-finds : (d : ℕ) (wx wy : ℕ) (x y : End) (xy yx : List Part) (s : Stream) →
    Alive wx wy x y xy (Syn d ∷ yx) s → (x.phase ≡ Unborn) × (s.own ≡ false)
syn-finds d wx wy x y xy yx s c = grind (arith, lists)

-- the FIN comes to an end that takes it
pub fin-taken : (wx wy : ℕ) (x y : End) (xy yx : List Part) (s : Stream) →
    takes x.phase ≡ true → Alive wx wy x y xy (Fin ∷ yx) s →
    Alive wx wy (record x { reader = reader_end x.reader; marks = record x.marks { credit_at_once = false } }) y xy yx (record s { inbound = lane_fin Here s.inbound })
fin-taken wx wy x y xy yx s t c = assumption (
  rw zero-add at c.outbound.holds,
  ends-comes (holds_fin yx) c.inbound.ordered.1.0 c.inbound.ordered.1.1 c.inbound.finishes,
  spoke yx c.inbound,
  born-sleeps wx (record x { reader = reader_end x.reader; marks = record x.marks { credit_at_once = false } }) xy (takes-born x.phase t),
)

-- the FIN comes to an end that is over
pub fin-ignored : (wx wy : ℕ) (x y : End) (xy yx : List Part) (s : Stream) →
    is_up x.phase ≡ false → Alive wx wy x y xy (Fin ∷ yx) s → Alive wx wy x y xy yx (record s { inbound = lane_fin Here s.inbound })
fin-ignored wx wy x y xy yx s u c = assumption (
  rw zero-add at c.outbound.holds,
  ends-ignored (holds_fin yx) u c.inbound.ordered.1.0 c.inbound.ordered.1.1 c.inbound.finishes,
  spoke yx c.inbound,
)

pub fin-allowed : (wx wy : ℕ) (x y : End) (xy yx : List Part) (s : Stream) → (x.phase ≡ Unborn → ⊥) → Alive wx wy x y xy (Fin ∷ yx) s → Allowed EndArrives s
fin-allowed wx wy x y xy yx s n c = let o = c.inbound.ordered in let f = c.inbound.finishes in let i = c.inbound.holds in let m = c.outbound.phase in grind (arith, lists)

-- a stream is offered, and the credit of its SYN counts as credit that comes after it
pub offered : (d : ℕ) (wx wy : ℕ) (y : End) (xy yx : List Part) (s : Stream) →
    Alive wx wy (new_end wx Unborn false false) y xy (Syn d ∷ yx) s →
    Allowed SynOffered s × Alive wx wy (new_end wx Offered false false) y xy (Credit d ∷ yx) (after_move SynOffered s)
offered d wx wy y xy yx s c = (
  grind arith,
  assumption (
    tt,
    born-offered c.inbound.ordered.0 c.inbound.born,
    spoke (Credit d ∷ yx) c.inbound,
    born-sleeps wx (new_end wx Offered false false) xy (takes-born Offered refl),
  ),
)

-- a stream is refused, and the credit of its SYN lapses
pub refused : (d : ℕ) (wx wy : ℕ) (y : End) (xy yx : List Part) (s : Stream) →
    Alive wx wy (new_end wx Unborn false false) y xy (Syn d ∷ yx) s →
    Allowed SynRefused s × Alive wx wy refused_end y xy yx (after_move SynRefused s)
refused d wx wy y xy yx s c = (grind arith, record { outbound = grind (arith, lists); inbound = grind (arith, lists) })
