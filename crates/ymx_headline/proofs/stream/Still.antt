-- Where nothing is due and nothing under way, the stream is still.
use Rattle.std.proofs.Common.{◌≡◌, ℕ, ◌*◌, ◌<◌, [], Bool, false, inl, inr, None, sym, ap, ◌∙◌, arith}
use Rattle.std.proofs.lemmas.Bool.Decides.{nat_tests}
use Rattle.ymx_machine.specs.stream.Lanes.{Lane}
use Rattle.ymx_machine.specs.stream.Lanes.Mark.{Unsaid}
use Rattle.ymx_machine.specs.shared.Phases.{Phase, is_lingering}
use Rattle.ymx_machine.specs.stream.Streams.{Stream, flip, IsStill}
use Rattle.ymx_machine.specs.shared.Phases.Phase.{Live}
use Rattle.ymx_model.specs.session.Records.{End, Writer, Reader}
use Rattle.ymx_model.specs.session.FramesDue.{next_kind, is_due, credit_due}
use Rattle.ymx_headline.specs.stream.Directions.{LaneHolds, LaneEnds}
use Rattle.ymx_headline.specs.stream.Links.{Alive, Heard, Related}
use Rattle.ymx_headline.specs.stream.OneStream.{IsQuiet}
use Rattle.ymx_headline.proofs.stream.Calls.{none-done}

-- what is due goes next
pub due-next : (window : ℕ) (e : End) → is_due window e ≡ false → next_kind window e ≡ None
due-next window e h = grind arith

due-credit : (window : ℕ) (e : End) → is_due window e ≡ false → credit_due window e ≡ false
due-credit window e h = grind arith

owes-little : (window : ℕ) (e : End) → credit_due window e ≡ false → e.phase ≡ Live → e.reader.ended ≡ false → 2 * e.reader.owed < window
owes-little window e h l o = grind (arith, nat_tests)

-- an open lane owes little
lane-little : (v : ℕ) (p q : Phase) (w : Writer) (r : Reader) (l : Lane) (later : ℕ) (coming : Bool) →
    p ≡ Live → q ≡ Live → l.fin ≡ Unsaid → (r.ended ≡ false → 2 * r.owed < v) →
    LaneHolds v p q w [] 0 later r l → LaneEnds p q w [] coming r l.fin → 2 * l.owed < v
lane-little v p q w r l later coming a b u h c f = let e = f.ended in let o = c.owed in grind arith

alive-still : (wx wy : ℕ) (x y : End) (s : Stream) → IsQuiet wx x → IsQuiet wy y → Alive wx wy x y [] [] s → IsStill wx wy s
alive-still wx wy x y s qx qy c =
    let dx = none-done wx x (due-next wx x qx.nothing) in let dy = none-done wy y (due-next wy y qy.nothing) in record {
      me_born = let b = c.outbound.born in let d = c.inbound.born in let e = dx.syn in let f = dy.syn in let m = c.outbound.phase in grind arith;
      you_born = let b = c.outbound.born in let d = c.inbound.born in let e = dx.syn in let f = dy.syn in let m = c.inbound.phase in grind arith;
      me_gone = ap is_lingering c.outbound.phase ∙ qx.gone;
      you_gone = ap is_lingering c.inbound.phase ∙ qy.gone;
      way_outbound = c.outbound.holds.way ∙ dx.unsent;
      way_inbound = c.inbound.holds.way ∙ dy.unsent;
      fin_outbound = c.outbound.finishes.said ∙ dx.fin;
      fin_inbound = c.inbound.finishes.said ∙ dy.fin;
      ack = let a = c.inbound.acks in let b = c.outbound.acks in let e = dx.ack in let f = dy.ack in grind arith;
      rst_outbound = let a = c.outbound.reset in let b = dx.rst in grind arith;
      rst_inbound = let a = c.inbound.reset in let b = dy.rst in grind arith;
      little_outbound = λ a b u. lane-little wy x.phase y.phase x.writer y.reader s.outbound _ false (sym c.outbound.phase ∙ a) (sym c.inbound.phase ∙ b) u (owes-little wy y (due-credit wy y qy.nothing) (sym c.inbound.phase ∙ b)) c.outbound.holds c.outbound.finishes;
      little_inbound = λ a b u. lane-little wx y.phase x.phase y.writer x.reader s.inbound _ false (sym c.inbound.phase ∙ b) (sym c.outbound.phase ∙ a) u (owes-little wx x (due-credit wx x qx.nothing) (sym c.outbound.phase ∙ a)) c.inbound.holds c.inbound.finishes;
    }

heard-still : (wx wy : ℕ) (x y : End) (s : Stream) → IsQuiet wx x → IsQuiet wy y → Heard wx wy x y [] [] s → IsStill wx wy s
heard-still wx wy x y s qx qy c = let p = qx.gone in let q = qy.gone in let k = c.spent_x.down in let l = c.spent_y.down in grind arith

-- the same stream, still from the other side
still-flip : (wx wy : ℕ) (s : Stream) → IsStill wy wx (flip s) → IsStill wx wy s
still-flip wx wy s c = grind arith

pub related-still : (wx wy : ℕ) (x y : End) (s : Stream) → IsQuiet wx x → IsQuiet wy y → Related wx wy x y [] [] s → IsStill wx wy s
related-still wx wy x y s p q (inl c) = alive-still wx wy x y s p q c
related-still wx wy x y s p q (inr (inl c)) = heard-still wx wy x y s p q c
related-still wx wy x y s p q (inr (inr c)) = still-flip wx wy s (heard-still wy wx y x (flip s) q p c)
