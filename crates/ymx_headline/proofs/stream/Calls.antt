-- What a call does to an end is what the machine's rule does to the stream.
use Rattle.std.proofs.Common.{◌≡◌, ℕ, ◌≤◌, List, [], length, Bool, true, false, not, ◌&&◌, ◌⊎◌, inl, inr, if◌then◌else◌, None, refl, ap, subst, arith}
use Rattle.ymx_machine.specs.stream.Lanes.{Mark, taken_back}
use Rattle.ymx_machine.specs.stream.Lanes.Mark.{Said}
use Rattle.ymx_machine.specs.shared.Phases.{Phase, is_up, is_live}
use Rattle.ymx_machine.specs.stream.Streams.{Stream, flip, TakesBack, after_move, stream_write, stream_read, stream_finish, stream_accept, stream_reset, stream_forget}
use Rattle.ymx_machine.specs.shared.Phases.Phase.{Offered, Live, Lingering, Gone}
use Rattle.ymx_machine.specs.stream.Streams.Move.{Released}
use Rattle.ymx_model.specs.session.Records.{End, Reader, dead_reader, writer_write, writer_finish, end_write, end_read, end_finish, end_accept, end_reset}
use Rattle.ymx_model.specs.session.FramesDue.{next_kind}
use Rattle.ymx_model.specs.session.Parts.{Part}
use Rattle.ymx_headline.specs.stream.Flight.{loads}
use Rattle.ymx_headline.specs.stream.Directions.{fin_waits, to_announce}
use Rattle.ymx_headline.specs.stream.Links.{Alive, Related}
use Rattle.ymx_headline.proofs.stream.Links.{not_not}
use Rattle.ymx_headline.proofs.stream.Heard.{heard-goes, said-goes, heard-released, said-released}
use Rattle.ymx_headline.specs.stream.Answers.{end_released}
use Rattle.ymx_headline.proofs.stream.Directions.{lists, kept-less, kept-write, kept-read, kept-stopped, kept-emptied, kept-down, ends-write, ends-finish, ends-stopped, ends-given_up, ends-down}
use Rattle.ymx_headline.proofs.stream.Marks.{born-sleeps, born-down, born-other, acks-opener, acks-accepted, acks-down, acks-reset, acks-other, stops-up, stops-down, stops-reset}
use Rattle.ymx_headline.proofs.stream.Phases.{down-born, live-takes, live-up, live-born}

pub alive-writes : (bytes : List ℕ) (wx wy : ℕ) (x y : End) (xy yx : List Part) (s : Stream) →
    x.phase ≡ Live → x.writer.finished ≡ false → length bytes ≤ x.writer.credit → Alive wx wy x y xy yx s → Alive wx wy (end_write bytes x) y xy yx (stream_write bytes s)
alive-writes bytes wx wy x y xy yx s l o fits c = assumption (
  kept-write bytes (live-up x.phase l) fits c.outbound.holds,
  ends-write bytes (live-up x.phase l) o c.outbound.finishes,
  stops-up x.phase (writer_write bytes x.writer) x.marks.ack (live-up x.phase l) c.outbound.stops,
  born-sleeps wx (end_write bytes x) xy (live-born x.phase l),
)

pub alive-reads : (n : ℕ) (wx wy : ℕ) (x y : End) (xy yx : List Part) (s : Stream) →
    x.phase ≡ Live → Alive wx wy x y xy yx s → Alive wx wy (end_read n x) y xy yx (stream_read n s)
alive-reads n wx wy x y xy yx s l c = assumption (
  kept-read n (live-takes x.phase l) c.inbound.holds,
  born-sleeps wx (end_read n x) xy (live-born x.phase l),
)

pub alive-finishes : (wx wy : ℕ) (x y : End) (xy yx : List Part) (s : Stream) →
    x.phase ≡ Live → x.writer.finished ≡ false → Alive wx wy x y xy yx s → Alive wx wy (end_finish x) y xy yx (stream_finish s)
alive-finishes wx wy x y xy yx s l o c = assumption (
  ends-finish (live-up x.phase l) o c.outbound.finishes,
  stops-up x.phase (writer_finish x.writer) x.marks.ack (live-up x.phase l) c.outbound.stops,
  born-sleeps wx (end_finish x) xy (live-born x.phase l),
)

-- the same end, whose phase is known
in-phase : (p : Phase) (wx wy : ℕ) (x y : End) (xy yx : List Part) (s : Stream) →
    x.phase ≡ p → Alive wx wy x y xy yx s → Alive wx wy (record x { phase = p }) y xy yx s
in-phase p wx wy x y xy yx s l c = subst (λ e. Alive wx wy e y xy yx s) (ap (λ (q : Phase). record x { phase = q }) l) c

pub alive-accepts : (lost : Bool) (wx wy : ℕ) (x y : End) (xy yx : List Part) (s : Stream) →
    x.phase ≡ Offered → Alive wx wy x y xy yx s → Alive wx wy (end_accept lost x) y xy yx (stream_accept lost s)
alive-accepts lost wx wy x y xy yx s l a =
    let c = in-phase Offered wx wy x y xy yx s l a in
    let acceptor : s.own ≡ false = let o = c.outbound.born.own_late in grind arith in
    assumption (
      stops-up Live x.writer (not lost) refl c.outbound.stops,
      acks-accepted lost acceptor c.outbound.acks,
      born-sleeps wx (end_accept lost x) xy (live-born Live refl),
      kept-less (to_announce wx Live x.marks.syn x.marks.with_data (not lost)) (grind arith) c.inbound.holds,
      acks-opener (if lost then s.ack else Said) (rw acceptor refl) c.inbound.acks,
    )

-- the end mark and the acknowledgement that a reset leaves
abbrev pub kept_fin : End → Stream → Mark
kept_fin x s = if fin_waits x.writer then taken_back s.outbound.fin else s.outbound.fin

abbrev pub kept_ack : End → Stream → Mark
kept_ack x s = if x.marks.ack then taken_back s.ack else s.ack

pub alive-resets : (p : Phase) (wx wy : ℕ) (x y : End) (xy yx : List Part) (s : Stream) →
    x.phase ≡ Live → is_up p ≡ false → Alive wx wy x y xy yx s →
    Alive wx wy (end_reset p x) y xy yx (stream_reset p (length (loads xy)) (kept_fin x s) (kept_ack x s) s)
alive-resets p wx wy x y xy yx s l d c =
    let up = live-up x.phase l in
    assumption (
      kept-stopped (kept_fin x s) p d c.outbound.holds,
      ends-stopped p d c.outbound.finishes,
      stops-reset p up d c.outbound.stops,
      born-down p d c.outbound.born,
      acks-reset p d c.outbound.acks,
      born-sleeps wx (end_reset p x) xy (down-born p d),
      kept-emptied p (to_announce wx p x.marks.syn (x.marks.syn && x.marks.with_data) false) dead_reader d refl (grind arith) c.inbound.holds,
      ends-down p dead_reader d c.inbound.finishes,
      born-other p (grind arith) c.inbound.born,
      acks-other x.marks.ack (let o = c.outbound.acks.none in grind arith) c.inbound.acks,
    )

pub resets-allowed : (wx wy : ℕ) (x y : End) (xy yx : List Part) (s : Stream) →
    x.phase ≡ Live → Alive wx wy x y xy yx s → TakesBack (length (loads xy)) (kept_fin x s) (kept_ack x s) s
resets-allowed wx wy x y xy yx s l c = grind (arith, lists)

-- given up, what it has unsent still goes; whatever the reader then keeps, it has no bytes
pub alive-given_up : (r : Reader) (wx wy : ℕ) (x y : End) (xy yx : List Part) (s : Stream) →
    r.unread ≡ [] → (is_live x.phase ≡ true) ⊎ (is_up x.phase ≡ false) → Alive wx wy x y xy yx s →
    Alive wx wy (record x { phase = Lingering; reader = r }) y xy yx (stream_forget s)
alive-given_up r wx wy x y xy yx s e l c = assumption (
  kept-down Lingering refl c.outbound.holds,
  ends-given_up Lingering refl c.outbound.finishes,
  stops-down Lingering refl c.outbound.stops,
  born-down Lingering refl c.outbound.born,
  acks-down Lingering refl c.outbound.acks,
  born-sleeps wx (record x { phase = Lingering; reader = r }) xy (down-born Lingering refl),
  kept-emptied Lingering (to_announce wx Lingering x.marks.syn x.marks.with_data x.marks.ack) r refl e (grind arith) c.inbound.holds,
  ends-down Lingering r refl c.inbound.finishes,
  born-other Lingering (grind arith) c.inbound.born,
)

-- what was given up goes, whatever it still has to send
pub alive-goes : (wx wy : ℕ) (x y : End) (xy yx : List Part) (s : Stream) →
    x.phase ≡ Lingering → Alive wx wy x y xy yx s → Alive wx wy (record x { phase = Gone }) y xy yx (after_move Released s)
alive-goes wx wy x y xy yx s l a =
    let c = in-phase Lingering wx wy x y xy yx s l a in
    assumption (born-sleeps wx (record x { phase = Gone }) xy (down-born Gone refl))

-- nothing is left to send
pub record NothingDue (e : End) : Type 0 where
  pub syn : e.marks.syn ≡ false
  pub ack : e.marks.ack ≡ false
  pub rst : e.marks.rst ≡ false
  pub unsent : e.writer.unsent ≡ []
  pub fin : fin_waits e.writer ≡ false

pub none-done : (window : ℕ) (e : End) → next_kind window e ≡ None → NothingDue e
none-done window e h = grind arith

-- what was given up and has nothing left to send goes, and nothing of it is kept
pub alive-released : (wx wy : ℕ) (x y : End) (xy yx : List Part) (s : Stream) →
    x.phase ≡ Lingering → NothingDue x → Alive wx wy x y xy yx s → Alive wx wy (end_released x) y xy yx (after_move Released s)
alive-released wx wy x y xy yx s l n c = record { outbound = grind (arith, lists); inbound = grind (arith, lists) }

-- ---- whatever state the stream is in

pub related-accepts : (lost : Bool) (wx wy : ℕ) (x y : End) (xy yx : List Part) (s : Stream) →
    x.phase ≡ Offered → Related wx wy x y xy yx s → Related wx wy (end_accept lost x) y xy yx (stream_accept lost s)
related-accepts lost wx wy x y xy yx s l (inl c) = inl (alive-accepts lost wx wy x y xy yx s l c)
related-accepts lost wx wy x y xy yx s l (inr (inl c)) = absurd (let d = c.spent_x in grind arith)
related-accepts lost wx wy x y xy yx s l (inr (inr c)) = absurd (let d = c.spent_y in grind arith)

pub related-goes : (wx wy : ℕ) (x y : End) (xy yx : List Part) (s : Stream) →
    x.phase ≡ Lingering → Related wx wy x y xy yx s → Related wx wy (record x { phase = Gone }) y xy yx (after_move Released s)
related-goes wx wy x y xy yx s l (inl c) = inl (alive-goes wx wy x y xy yx s l c)
related-goes wx wy x y xy yx s l (inr (inl c)) = inr (inl (heard-goes wx wy x y xy yx s c))
related-goes wx wy x y xy yx s l (inr (inr c)) = inr (inr (simp not_not at (said-goes wy wx y x yx xy (flip s) c)))

pub related-releases : (wx wy : ℕ) (x y : End) (xy yx : List Part) (s : Stream) →
    x.phase ≡ Lingering → NothingDue x → Related wx wy x y xy yx s → Related wx wy (end_released x) y xy yx (after_move Released s)
related-releases wx wy x y xy yx s l n (inl c) = inl (alive-released wx wy x y xy yx s l n c)
related-releases wx wy x y xy yx s l n (inr (inl c)) = inr (inl (heard-released wx wy x y xy yx s c))
related-releases wx wy x y xy yx s l n (inr (inr c)) = inr (inr (simp not_not at (said-released wy wx y x yx xy (flip s) c)))
