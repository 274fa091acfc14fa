-- After a reset has arrived nothing of the other direction means anything.
use Rattle.std.proofs.Common.{◌≡◌, ℕ, List, [], ◌∷◌, ◌++◌, true, false, Some, arith}
use Rattle.ymx_machine.specs.stream.Streams.{Stream, flip, after_move, stream_forget}
use Rattle.ymx_machine.specs.shared.Phases.{is_up, is_live}
use Rattle.ymx_machine.specs.shared.Phases.Phase.{Lingering, Gone}
use Rattle.ymx_machine.specs.stream.Streams.Move.{Released}
use Rattle.ymx_model.specs.session.Records.{End, Reader, receive_data, receive_credit, receive_ack, receive_fin, receive_rst}
use Rattle.ymx_model.specs.declared.types.FrameKind.{FrameKind}
use Rattle.ymx_model.specs.session.FramesDue.{next_kind, begin_frame}
use Rattle.ymx_model.specs.declared.types.FrameKind.TheVariants.{Reset}
use Rattle.ymx_model.specs.session.Parts.{Part}
use Rattle.ymx_model.specs.session.Parts.Part.{Ack, Data, Credit, Fin, Rst}
use Rattle.ymx_headline.specs.stream.Links.{Heard, Spent}
use Rattle.ymx_headline.specs.stream.Answers.{end_released}
use Rattle.ymx_headline.proofs.stream.Flight.{pushes}
use Rattle.ymx_headline.proofs.stream.Directions.{lists}

pub heard-rst : (limit wx wy : ℕ) (x y : End) (xy yx : List Part) (s : Stream) →
    Heard wx wy x y xy yx s → Heard wx wy (begin_frame wx limit Reset x) y (xy ++ Rst ∷ []) yx s
heard-rst limit wx wy x y xy yx s c = grind (arith, lists, pushes)

down-not_live : (e : End) → is_up e.phase ≡ false → is_live e.phase ≡ false
down-not_live e h = grind arith

pub spent-next : (window : ℕ) (e : End) (k : FrameKind) → Spent e → next_kind window e ≡ Some k → (e.marks.rst ≡ true) × (k ≡ Reset)
spent-next window e k c h = let l = down-not_live e c.down in grind arith

-- what comes to the side whose reset has arrived is dropped there
pub said-ack : (d wx wy : ℕ) (x y : End) (xy yx : List Part) (s : Stream) → Heard wx wy x y (Ack d ∷ xy) yx s → Heard wx wy x (receive_credit d (receive_ack y)) xy yx s
said-ack d wx wy x y xy yx s c = grind (arith, lists)

pub said-piece : (b rest more : List ℕ) (wx wy : ℕ) (x y : End) (xy yx : List Part) (s : Stream) → Heard wx wy x y (Data rest ∷ xy) yx s → Heard wx wy x (receive_data b y) (Data more ∷ xy) yx s
said-piece b rest more wx wy x y xy yx s c = grind (arith, lists)

pub said-credit : (d wx wy : ℕ) (x y : End) (xy yx : List Part) (s : Stream) → Heard wx wy x y (Credit d ∷ xy) yx s → Heard wx wy x (receive_credit d y) xy yx s
said-credit d wx wy x y xy yx s c = grind (arith, lists)

pub said-fin : (wx wy : ℕ) (x y : End) (xy yx : List Part) (s : Stream) → Heard wx wy x y (Fin ∷ xy) yx s → Heard wx wy x (receive_fin y) xy yx s
said-fin wx wy x y xy yx s c = grind (arith, lists)

pub said-rst : (wx wy : ℕ) (x y : End) (xy yx : List Part) (s : Stream) → Heard wx wy x y (Rst ∷ xy) yx s → Heard wx wy x (receive_rst y) xy yx s
said-rst wx wy x y xy yx s c = grind (arith, lists)

pub said-over : (wx wy : ℕ) (x y : End) (xy yx : List Part) (s : Stream) → Heard wx wy x y (Data [] ∷ xy) yx s → Heard wx wy x y xy yx s
said-over wx wy x y xy yx s c = grind (arith, lists)

-- ---- calls

pub heard-forgets : (r : Reader) (wx wy : ℕ) (x y : End) (xy yx : List Part) (s : Stream) →
    Heard wx wy x y xy yx s → Heard wx wy (record x { phase = Lingering; reader = r }) y xy yx (stream_forget s)
heard-forgets r wx wy x y xy yx s c = grind (arith, lists)

pub said-forgets : (r : Reader) (wx wy : ℕ) (x y : End) (xy yx : List Part) (s : Stream) →
    Heard wx wy x y xy yx s → Heard wx wy x (record y { phase = Lingering; reader = r }) xy yx (flip (stream_forget (flip s)))
said-forgets r wx wy x y xy yx s c = grind (arith, lists)

pub heard-goes : (wx wy : ℕ) (x y : End) (xy yx : List Part) (s : Stream) →
    Heard wx wy x y xy yx s → Heard wx wy (record x { phase = Gone }) y xy yx (after_move Released s)
heard-goes wx wy x y xy yx s c = grind (arith, lists)

pub said-goes : (wx wy : ℕ) (x y : End) (xy yx : List Part) (s : Stream) →
    Heard wx wy x y xy yx s → Heard wx wy x (record y { phase = Gone }) xy yx (flip (after_move Released (flip s)))
said-goes wx wy x y xy yx s c = grind (arith, lists)

pub heard-released : (wx wy : ℕ) (x y : End) (xy yx : List Part) (s : Stream) →
    Heard wx wy x y xy yx s → Heard wx wy (end_released x) y xy yx (after_move Released s)
heard-released wx wy x y xy yx s c = grind (arith, lists)

pub said-released : (wx wy : ℕ) (x y : End) (xy yx : List Part) (s : Stream) →
    Heard wx wy x y xy yx s → Heard wx wy x (end_released y) xy yx (flip (after_move Released (flip s)))
said-released wx wy x y xy yx s c = grind (arith, lists)
