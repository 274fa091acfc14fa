-- What an end has said of its SYN, ACK and RST, as its frames come and go.
use Rattle.std.proofs.Common.{◌≡◌, ℕ, List, [], ◌∷◌, ◌++◌, Bool, true, false, not, ◌||◌, if◌then◌else◌, Some, subst, arith}
use Rattle.ymx_machine.specs.stream.Lanes.{Mark, taken_back}
use Rattle.ymx_machine.specs.stream.Lanes.Mark.{Said, Here}
use Rattle.ymx_machine.specs.shared.Phases.{Phase, is_up, is_unborn}
use Rattle.ymx_machine.specs.stream.Streams.{Stream}
use Rattle.ymx_machine.specs.shared.Phases.Phase.{Unborn, Offered, Live}
use Rattle.ymx_model.specs.session.Records.{End, Writer, dead_writer, new_end}
use Rattle.ymx_model.specs.declared.types.FrameKind.{FrameKind}
use Rattle.ymx_model.specs.session.FramesDue.{next_kind}
use Rattle.ymx_model.specs.session.Parts.{Part}
use Rattle.ymx_model.specs.session.Parts.Part.{Syn, Ack, Credit, Rst}
use Rattle.ymx_headline.specs.stream.Flight.{part_is_syn, part_is_ack, part_is_rst, holds_syn, holds_ack, holds_rst}
use Rattle.ymx_headline.specs.stream.Directions.{mark_if}
use Rattle.ymx_headline.specs.stream.Links.{Stops, Born, Sleeps, Acks, Direction}
use Rattle.ymx_headline.proofs.stream.Flight.{no_list, pushes}

-- ---- unborn ends

pub born-sleeps : (window : ℕ) (e : End) (fs : List Part) → (e.phase ≡ Unborn → ⊥) → Sleeps window e fs
born-sleeps window e fs n = record { new = λ h. absurd (n h); idle = λ h. absurd (n h) }

-- after a part under way an end isn't unborn, and has no SYN to send
pub spoke : {wx wy : ℕ} {x y : End} {xy yx : List Part} {f : Part} {s : Stream} (fs : List Part) →
    Direction wx wy x y (f ∷ xy) yx s → (x.marks.syn ≡ true → fs ≡ []) × (x.phase ≡ Unborn → fs ≡ [])
spoke fs c = (λ h. absurd (no_list (c.born.first h)), λ h. absurd (no_list (c.sleeps.idle h)))

pub fresh-none : (window : ℕ) (k : FrameKind) → next_kind window (new_end window Unborn false false) ≡ Some k → ⊥
fresh-none window k h = grind arith

-- an end that has something to send is born
pub due-born : (k : FrameKind) {window : ℕ} {e : End} {fs : List Part} → next_kind window e ≡ Some k → Sleeps window e fs → e.phase ≡ Unborn → ⊥
due-born k {window = window} h c u = fresh-none window k (subst (λ z. next_kind window z ≡ Some k) (c.new u) h)

-- ---- the SYN

pub born-offered : {own : Bool} {p : Phase} {syn : Bool} {d : ℕ} {fs : List Part} →
    holds_syn fs ≡ false → Born own p Unborn syn (Syn d ∷ fs) → Born own p Offered syn (Credit d ∷ fs)
born-offered n c = grind arith

-- this end is over, or the other goes on
pub born-down : (p' : Phase) {own : Bool} {p q : Phase} {syn : Bool} {fs : List Part} → is_up p' ≡ false → Born own p q syn fs → Born own p' q syn fs
born-down p' d c = grind arith

pub born-other : (q' : Phase) {own : Bool} {p q : Phase} {syn : Bool} {fs : List Part} → is_unborn q' ≡ is_unborn q → Born own p q syn fs → Born own p q' syn fs
born-other q' e c = grind arith

pub born-sent : (d : ℕ) (fs : List Part) {own : Bool} {p q : Phase} {syn : Bool} → syn ≡ true → holds_syn fs ≡ false → Born own p q syn [] → Born own p q false (Syn d ∷ fs)
born-sent d fs l n c = grind arith

pub born-more : (f : Part) {own : Bool} {p q : Phase} {syn : Bool} {fs : List Part} →
    part_is_syn f ≡ false → syn ≡ false → Born own p q syn fs → Born own p q syn (fs ++ f ∷ [])
born-more f e n c = grind (arith, pushes)

-- ---- the ACK

pub acks-got : {own acked : Bool} {p : Phase} {ack : Bool} {d : ℕ} {fs : List Part} {m : Mark} →
    holds_ack fs ≡ false → Acks own acked p ack (Ack d ∷ fs) m → Acks own true p ack fs Here
acks-got n c = grind arith

-- the end that opened the stream says none, whatever becomes of the mark
pub acks-opener : (m' : Mark) {own acked : Bool} {p : Phase} {ack : Bool} {fs : List Part} {m : Mark} →
    own ≡ true → Acks own acked p ack fs m → Acks own acked p ack fs m'
acks-opener m' o c = grind arith

pub acks-accepted : (lost : Bool) {own acked ack : Bool} {fs : List Part} {m : Mark} →
    own ≡ false → Acks own acked Offered ack fs m → Acks own acked Live (not lost) fs (if lost then m else Said)
acks-accepted lost o c = grind arith

pub acks-down : (p' : Phase) {own acked : Bool} {p : Phase} {ack : Bool} {fs : List Part} {m : Mark} →
    is_up p' ≡ false → Acks own acked p ack fs m → Acks own acked p' ack fs m
acks-down p' d c = grind arith

-- an end that resets takes its ACK back, which is the only one
pub acks-reset : (p' : Phase) {own acked : Bool} {p : Phase} {ack : Bool} {fs : List Part} {m : Mark} →
    is_up p' ≡ false → Acks own acked p ack fs m → Acks own acked p' false fs (if ack then taken_back m else m)
acks-reset p' d c = grind arith

pub acks-other : (due : Bool) {own acked : Bool} {p : Phase} {ack : Bool} {fs : List Part} {m : Mark} →
    (own ≡ false → due ≡ false) → Acks own acked p ack fs m → Acks own acked p ack fs (if due then taken_back m else m)
acks-other due n c = grind arith

pub acks-sent : (d : ℕ) {own acked : Bool} {p : Phase} {ack : Bool} {fs : List Part} {m : Mark} →
    ack ≡ true → Acks own acked p ack fs m → Acks own acked p false (fs ++ Ack d ∷ []) m
acks-sent d e c = grind (arith, pushes)

pub acks-more : (f : Part) {own acked : Bool} {p : Phase} {ack : Bool} {fs : List Part} {m : Mark} →
    part_is_ack f ≡ false → Acks own acked p ack fs m → Acks own acked p ack (fs ++ f ∷ []) m
acks-more f e c = grind (arith, pushes)

-- ---- the RST

-- an end that is up has said none
pub stops-up : (p' : Phase) (w' : Writer) (ack' : Bool) {p : Phase} {w : Writer} {syn ack rst : Bool} {fs : List Part} →
    is_up p ≡ true → Stops p w syn ack rst fs → Stops p' w' syn ack' rst fs
stops-up p' w' ack' u c = grind arith

pub stops-none : (p : Phase) (w : Writer) (syn ack : Bool) (fs : List Part) {rst : Bool} → rst ≡ false → holds_rst fs ≡ false → Stops p w syn ack rst fs
stops-none p w syn ack fs a b = grind arith

pub stops-down : (p' : Phase) {p : Phase} {w : Writer} {syn ack rst : Bool} {fs : List Part} →
    is_up p' ≡ false → Stops p w syn ack rst fs → Stops p' w syn ack rst fs
stops-down p' d c = grind arith

pub stops-reset : (p' : Phase) {p : Phase} {w : Writer} {syn ack rst : Bool} {fs : List Part} →
    is_up p ≡ true → is_up p' ≡ false → Stops p w syn ack rst fs → Stops p' dead_writer syn false true fs
stops-reset p' u d c = grind arith

pub stops-sent : {p : Phase} {w : Writer} {syn ack rst : Bool} {fs : List Part} →
    syn ≡ false → rst ≡ true → Stops p w syn ack rst fs → Stops p w syn ack false (fs ++ Rst ∷ [])
stops-sent n l c = grind (arith, pushes)

pub stops-more : (f : Part) {p : Phase} {w : Writer} {syn ack rst : Bool} {fs : List Part} →
    part_is_rst f ≡ false → Stops p w syn ack rst fs → Stops p w syn ack rst (fs ++ f ∷ [])
stops-more f e c = grind (arith, pushes)

pub reset-sent : {m : Mark} {rst : Bool} (fs : List Part) → rst ≡ true → m ≡ mark_if (rst || holds_rst fs) → m ≡ mark_if (holds_rst (fs ++ Rst ∷ []))
reset-sent fs l c = grind (arith, pushes)

pub reset-more : (f : Part) {m : Mark} (rst : Bool) (fs : List Part) → part_is_rst f ≡ false → m ≡ mark_if (rst || holds_rst fs) → m ≡ mark_if (rst || holds_rst (fs ++ f ∷ []))
reset-more f rst fs e c = grind (arith, pushes)
