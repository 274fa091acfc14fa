-- A frame that goes out is no move of the machine.
use Rattle.std.proofs.Common.{◌≡◌, ℕ, ◌+◌, ◌-◌, List, [], ◌∷◌, ◌++◌, take, Bool, true, false, ◌||◌, inl, inr, Some, refl, sym, subst, append-nil, add-zero, arith}
use Rattle.ymx_machine.specs.shared.Limits.{first_credit}
use Rattle.ymx_machine.specs.stream.Lanes.{Lane}
use Rattle.ymx_machine.specs.stream.Streams.{Stream}
use Rattle.ymx_machine.specs.shared.Phases.{Phase, is_live}
use Rattle.ymx_machine.specs.shared.Phases.Phase.{Unborn}
use Rattle.ymx_model.specs.session.Records.{End, Writer, Reader, reader_announce, writer_send, writer_begin_fin}
use Rattle.ymx_model.specs.declared.types.FrameKind.{FrameKind}
use Rattle.ymx_model.specs.session.FramesDue.{next_kind, begin_frame, is_empty}
use Rattle.ymx_model.specs.declared.types.FrameKind.TheVariants.{Open, OpenWith, Accept, Reset, Credit as CreditFrame, Data as DataFrame, Fin as FinFrame}
use Rattle.ymx_model.specs.session.Parts.{Part, parts_of}
use Rattle.ymx_model.specs.session.Parts.Part.{Ack, Data, Credit, Fin, Rst}
use Rattle.ymx_headline.specs.stream.Flight.{load, loads, gift, gifts, part_is_syn, part_is_ack, part_is_fin, part_is_rst, holds_fin, holds_rst}
use Rattle.ymx_headline.specs.stream.Links.{Stops, Born, Acks, Direction, Alive, Heard, Related}
use Rattle.ymx_headline.proofs.stream.Heard.{spent-next, heard-rst}
use Rattle.ymx_headline.proofs.stream.Marks.{due-born, born-sleeps, born-sent, born-more, acks-sent, acks-more, stops-none, stops-sent, stops-more, reset-sent, reset-more}
use Rattle.ymx_headline.proofs.stream.Flight.{pushes, loads_push, gifts_push, has_push, or_false, ordered_push}
use Rattle.ymx_headline.proofs.stream.Directions.{lists, kept-told, kept-sent, kept-announce, ends-sent, ends-goes}
use Rattle.ymx_headline.specs.stream.Directions.{mark_if, fin_waits, to_announce, LaneHolds, LaneEnds}
use Rattle.ymx_headline.proofs.stream.Phases.{is-live, live-up}

-- ---- what a frame leaves as it was

-- one with no payload: what this direction carries
load-more : (f : Part) {wx wy : ℕ} {x y : End} {xy yx : List Part} {s : Stream} → load f ≡ [] → Direction wx wy x y xy yx s →
    LaneHolds wy x.phase y.phase x.writer (loads (xy ++ f ∷ [])) (gifts yx) (to_announce wy y.phase y.marks.syn y.marks.with_data y.marks.ack) y.reader s.outbound
load-more f {xy = xy} e c = rw (loads_push xy f, e, append-nil (loads xy)) c.holds

-- one with no payload that is no FIN: the end mark
fin-more : (f : Part) {wx wy : ℕ} {x y : End} {xy yx : List Part} {s : Stream} → load f ≡ [] → part_is_fin f ≡ false → Direction wx wy x y xy yx s →
    LaneEnds x.phase y.phase x.writer (loads (xy ++ f ∷ [])) (holds_fin (xy ++ f ∷ [])) y.reader s.outbound.fin
fin-more f {xy = xy} e n c = rw (loads_push xy f, e, append-nil (loads xy), has_push part_is_fin xy f, n, or_false (holds_fin xy)) c.finishes

-- one that gives no credit back: what the other direction carries
back-more : (f : Part) {wx wy : ℕ} {x y : End} {xy yx : List Part} {s : Stream} → gift f ≡ 0 → Direction wx wy x y xy yx s →
    LaneHolds wy x.phase y.phase x.writer (loads xy) (gifts (yx ++ f ∷ [])) (to_announce wy y.phase y.marks.syn y.marks.with_data y.marks.ack) y.reader s.outbound
back-more f {yx = yx} e c = rw (gifts_push yx f, e, add-zero (gifts yx)) c.holds

-- one that is no SYN, ACK or RST: what was said by these
marks-more : (f : Part) {wx wy : ℕ} {x y : End} {xy yx : List Part} {s : Stream} →
    part_is_syn f ≡ false → part_is_ack f ≡ false → part_is_rst f ≡ false → x.marks.syn ≡ false → Direction wx wy x y xy yx s →
    (s.rst_outbound ≡ mark_if (x.marks.rst || holds_rst (xy ++ f ∷ []))) × Born s.own x.phase y.phase x.marks.syn (xy ++ f ∷ [])
    × Acks s.own y.marks.acked x.phase x.marks.ack (xy ++ f ∷ []) s.ack
marks-more f {x = x} {xy = xy} a b r n c = (reset-more f x.marks.rst xy r c.reset, born-more f a n c.born, acks-more f b c.acks)

goes-open : (limit wx wy : ℕ) (x y : End) (yx : List Part) (s : Stream) →
    (x.phase ≡ Unborn → ⊥) → x.marks.syn ≡ true → x.marks.with_data ≡ false → Alive wx wy x y [] yx s → Alive wx wy (begin_frame wx limit Open x) y (parts_of Open wx limit x) yx s
goes-open limit wx wy x y yx s b l p c =
    let stops : Stops x.phase x.writer false x.marks.ack x.marks.rst (parts_of Open wx limit x) = grind arith in
    assumption (
      tt,
      born-sent (wx - first_credit) [] l refl c.outbound.born,
      born-sleeps wx (begin_frame wx limit Open x) (parts_of Open wx limit x) b,
      kept-told (wx - first_credit) {more = gifts (parts_of Open wx limit x)} {less = to_announce wx x.phase false x.marks.with_data x.marks.ack} (grind arith) (grind arith) c.inbound.holds,
    )

goes-open_with : (limit wx wy : ℕ) (x y : End) (yx : List Part) (s : Stream) →
    (x.phase ≡ Unborn → ⊥) → x.marks.syn ≡ true → x.marks.with_data ≡ true → Alive wx wy x y [] yx s → Alive wx wy (begin_frame wx limit OpenWith x) y (parts_of OpenWith wx limit x) yx s
goes-open_with limit wx wy x y yx s b l p c =
    let stops : Stops x.phase (writer_send limit x.writer) false x.marks.ack x.marks.rst (parts_of OpenWith wx limit x) = grind (arith, lists) in
    assumption (
      tt,
      rw (← append-nil (take limit x.writer.unsent)) at (kept-sent limit c.outbound.holds),
      rw (← append-nil (take limit x.writer.unsent)) at (ends-sent limit c.outbound.finishes),
      born-sent 0 (Data (take limit x.writer.unsent) ∷ []) l refl c.outbound.born,
      born-sleeps wx (begin_frame wx limit OpenWith x) (parts_of OpenWith wx limit x) b,
      rw (l, p) at c.inbound.holds,
    )

goes-accept : (limit wx wy : ℕ) (x y : End) (xy yx : List Part) (s : Stream) →
    (x.phase ≡ Unborn → ⊥) → x.marks.syn ≡ false → x.marks.ack ≡ true → Alive wx wy x y xy yx s → Alive wx wy (begin_frame wx limit Accept x) y (xy ++ parts_of Accept wx limit x) yx s
goes-accept limit wx wy x y xy yx s b n l c =
    let f = Ack (wx - first_credit) in
    let stops : Stops x.phase x.writer x.marks.syn false x.marks.rst (xy ++ f ∷ []) = grind (arith, pushes) in
    assumption (
      load-more f refl c.outbound,
      fin-more f refl refl c.outbound,
      reset-more f x.marks.rst xy refl c.outbound.reset,
      ordered_push xy f (grind arith) c.outbound.ordered,
      born-more f refl n c.outbound.born,
      born-sleeps wx (begin_frame wx limit Accept x) (xy ++ f ∷ []) b,
      acks-sent (wx - first_credit) l c.outbound.acks,
      kept-told (wx - first_credit) {more = gifts (xy ++ f ∷ [])} {less = to_announce wx x.phase x.marks.syn x.marks.with_data false} (grind (arith, pushes)) (grind arith) c.inbound.holds,
    )

goes-reset : (limit wx wy : ℕ) (x y : End) (xy yx : List Part) (s : Stream) →
    (x.phase ≡ Unborn → ⊥) → x.marks.syn ≡ false → x.marks.rst ≡ true → Alive wx wy x y xy yx s → Alive wx wy (begin_frame wx limit Reset x) y (xy ++ parts_of Reset wx limit x) yx s
goes-reset limit wx wy x y xy yx s b n l c = assumption (
  load-more Rst refl c.outbound,
  fin-more Rst refl refl c.outbound,
  reset-sent xy l c.outbound.reset,
  stops-sent n l c.outbound.stops,
  ordered_push xy Rst (grind arith) c.outbound.ordered,
  born-more Rst refl n c.outbound.born,
  born-sleeps wx (begin_frame wx limit Reset x) (xy ++ Rst ∷ []) b,
  acks-more Rst refl c.outbound.acks,
  back-more Rst refl c.inbound,
)

-- nothing goes before credit, data and end
pub record Free (e : End) : Type 0 where
  pub syn : e.marks.syn ≡ false
  pub ack : e.marks.ack ≡ false
  pub rst : e.marks.rst ≡ false

live-late : (window : ℕ) (p : Phase) (syn with_data ack : Bool) → syn ≡ false → ack ≡ false → is_live p ≡ true → to_announce window p syn with_data ack ≡ 0
live-late window p syn with_data ack a b l = grind arith

owes-none : (syn with_data ack : Bool) {v : ℕ} {p q : Phase} {w : Writer} {fly : List ℕ} {due : ℕ} {r : Reader} {l : Lane} →
    syn ≡ false → ack ≡ false → is_live q ≡ true → LaneHolds v p q w fly due (to_announce v q syn with_data ack) r l →
    LaneHolds v p q w fly (due + r.owed) (to_announce v q syn with_data ack) (reader_announce r.owed r) l
owes-none syn with_data ack {v = v} {q = q} a b u c =
    let e = live-late v q syn with_data ack a b u in rw e (kept-announce (live-up q (is-live q u)) (rw e at c))

goes-credit : (limit wx wy : ℕ) (x y : End) (xy yx : List Part) (s : Stream) →
    (x.phase ≡ Unborn → ⊥) → is_live x.phase ≡ true → Free x → Alive wx wy x y xy yx s → Alive wx wy (begin_frame wx limit CreditFrame x) y (xy ++ parts_of CreditFrame wx limit x) yx s
goes-credit limit wx wy x y xy yx s b l free c =
    let f = Credit x.reader.owed in
    assumption (
      load-more f refl c.outbound,
      fin-more f refl refl c.outbound,
      marks-more f refl refl refl free.syn c.outbound,
      stops-more f refl c.outbound.stops,
      ordered_push xy f (grind arith) c.outbound.ordered,
      born-sleeps wx (begin_frame wx limit CreditFrame x) (xy ++ f ∷ []) b,
      rw (← gifts_push xy f) at (owes-none x.marks.syn x.marks.with_data x.marks.ack free.syn free.ack l c.inbound.holds),
    )

data-runs : (p : Phase) (w : Writer) (syn ack rst : Bool) (fs : List Part) → Stops p w syn ack rst fs → is_empty w.unsent ≡ false → holds_rst fs ≡ false
data-runs p w syn ack rst fs c some = grind arith

goes-data : (limit wx wy : ℕ) (x y : End) (xy yx : List Part) (s : Stream) →
    (x.phase ≡ Unborn → ⊥) → is_empty x.writer.unsent ≡ false → Free x → Alive wx wy x y xy yx s → Alive wx wy (begin_frame wx limit DataFrame x) y (xy ++ parts_of DataFrame wx limit x) yx s
goes-data limit wx wy x y xy yx s n some free c =
    let b = take limit x.writer.unsent in
    let runs : holds_rst (xy ++ Data b ∷ []) ≡ false = grind (arith, pushes, data-runs x.phase x.writer x.marks.syn x.marks.ack x.marks.rst xy c.outbound.stops some) in
    let finishes : LaneEnds x.phase y.phase (writer_send limit x.writer) (loads (xy ++ Data b ∷ [])) (holds_fin (xy ++ Data b ∷ [])) y.reader s.outbound.fin =
    rw (loads_push xy (Data b), has_push part_is_fin xy (Data b), or_false (holds_fin xy)) (ends-sent limit c.outbound.finishes) in
    assumption (
      rw (← loads_push xy (Data b)) at (kept-sent limit c.outbound.holds),
      marks-more (Data b) refl refl refl free.syn c.outbound,
      stops-none x.phase (writer_send limit x.writer) x.marks.syn x.marks.ack (xy ++ Data b ∷ []) free.rst runs,
      ordered_push xy (Data b) (grind (arith, lists)) c.outbound.ordered,
      born-sleeps wx (begin_frame wx limit DataFrame x) (xy ++ Data b ∷ []) n,
      back-more (Data b) refl c.inbound,
    )

goes-fin : (limit wx wy : ℕ) (x y : End) (xy yx : List Part) (s : Stream) →
    (x.phase ≡ Unborn → ⊥) → x.writer.unsent ≡ [] → fin_waits x.writer ≡ true → Free x → Alive wx wy x y xy yx s → Alive wx wy (begin_frame wx limit FinFrame x) y (xy ++ parts_of FinFrame wx limit x) yx s
goes-fin limit wx wy x y xy yx s b e f free c =
    let runs : holds_rst (xy ++ Fin ∷ []) ≡ false = grind (arith, pushes) in
    let finishes : LaneEnds x.phase y.phase (writer_begin_fin x.writer) (loads (xy ++ Fin ∷ [])) (holds_fin (xy ++ Fin ∷ [])) y.reader s.outbound.fin =
    grind (arith, lists, pushes, ends-goes f e c.outbound.finishes) in
    assumption (
      load-more Fin refl c.outbound,
      marks-more Fin refl refl refl free.syn c.outbound,
      stops-none x.phase (writer_begin_fin x.writer) x.marks.syn x.marks.ack (xy ++ Fin ∷ []) free.rst runs,
      ordered_push xy Fin (grind (arith, lists)) c.outbound.ordered,
      born-sleeps wx (begin_frame wx limit FinFrame x) (xy ++ Fin ∷ []) b,
      back-more Fin refl c.inbound,
    )

-- ---- whatever goes next

next-open : (window : ℕ) (e : End) → next_kind window e ≡ Some Open → (e.marks.syn ≡ true) × (e.marks.with_data ≡ false)
next-open window e h = grind arith

next-open_with : (window : ℕ) (e : End) → next_kind window e ≡ Some OpenWith → (e.marks.syn ≡ true) × (e.marks.with_data ≡ true)
next-open_with window e h = grind arith

next-accept : (window : ℕ) (e : End) → next_kind window e ≡ Some Accept → (e.marks.syn ≡ false) × (e.marks.ack ≡ true)
next-accept window e h = grind arith

next-reset : (window : ℕ) (e : End) → next_kind window e ≡ Some Reset → (e.marks.syn ≡ false) × (e.marks.rst ≡ true)
next-reset window e h = grind arith

next-credit : (window : ℕ) (e : End) → next_kind window e ≡ Some CreditFrame → (is_live e.phase ≡ true) × Free e
next-credit window e h = grind arith

next-data : (window : ℕ) (e : End) → next_kind window e ≡ Some DataFrame → (is_empty e.writer.unsent ≡ false) × Free e
next-data window e h = grind arith

next-fin : (window : ℕ) (e : End) → next_kind window e ≡ Some FinFrame → (e.writer.unsent ≡ []) × (fin_waits e.writer ≡ true) × Free e
next-fin window e h = grind arith

alive-sends : (k : FrameKind) (limit wx wy : ℕ) (x y : End) (xy yx : List Part) (s : Stream) →
    next_kind wx x ≡ Some k → Alive wx wy x y xy yx s → Alive wx wy (begin_frame wx limit k x) y (xy ++ parts_of k wx limit x) yx s
alive-sends Open limit wx wy x y xy yx s h c =
    let n = next-open wx x h in let e = c.outbound.born.first n.0 in
    subst (λ l. Alive wx wy (begin_frame wx limit Open x) y (l ++ parts_of Open wx limit x) yx s) (sym e)
    (goes-open limit wx wy x y yx s (due-born _ h c.outbound.sleeps) n.0 n.1 (subst (λ l. Alive wx wy x y l yx s) e c))
alive-sends OpenWith limit wx wy x y xy yx s h c =
    let n = next-open_with wx x h in let e = c.outbound.born.first n.0 in
    subst (λ l. Alive wx wy (begin_frame wx limit OpenWith x) y (l ++ parts_of OpenWith wx limit x) yx s) (sym e)
    (goes-open_with limit wx wy x y yx s (due-born _ h c.outbound.sleeps) n.0 n.1 (subst (λ l. Alive wx wy x y l yx s) e c))
alive-sends Accept limit wx wy x y xy yx s h c = let n = next-accept wx x h in goes-accept limit wx wy x y xy yx s (due-born _ h c.outbound.sleeps) n.0 n.1 c
alive-sends Reset limit wx wy x y xy yx s h c = let n = next-reset wx x h in goes-reset limit wx wy x y xy yx s (due-born _ h c.outbound.sleeps) n.0 n.1 c
alive-sends CreditFrame limit wx wy x y xy yx s h c = let n = next-credit wx x h in goes-credit limit wx wy x y xy yx s (due-born _ h c.outbound.sleeps) n.0 n.1 c
alive-sends DataFrame limit wx wy x y xy yx s h c = let n = next-data wx x h in goes-data limit wx wy x y xy yx s (due-born _ h c.outbound.sleeps) n.0 n.1 c
alive-sends FinFrame limit wx wy x y xy yx s h c = let n = next-fin wx x h in goes-fin limit wx wy x y xy yx s (due-born _ h c.outbound.sleeps) n.0 n.1 n.2 c

pub related-sends : (k : FrameKind) (limit wx wy : ℕ) (x y : End) (xy yx : List Part) (s : Stream) →
    next_kind wx x ≡ Some k → Related wx wy x y xy yx s → Related wx wy (begin_frame wx limit k x) y (xy ++ parts_of k wx limit x) yx s
related-sends k limit wx wy x y xy yx s h (inl c) = inl (alive-sends k limit wx wy x y xy yx s h c)
related-sends k limit wx wy x y xy yx s h (inr (inl c)) =
    let n = spent-next wx x k c.spent_x h in
    inr (inl (subst (λ j. Heard wx wy (begin_frame wx limit j x) y (xy ++ parts_of j wx limit x) yx s) (sym n.1) (heard-rst limit wx wy x y xy yx s c)))
related-sends k limit wx wy x y xy yx s h (inr (inr c)) = absurd (let n = spent-next wx x k c.spent_y h in let r = c.silent in grind arith)
