-- A printer keeps what it printed along with what was read.
use Rattle.std.proofs.Common.{◌≡◌, ◌++◌, [], take, Some, refl, sym, ◌∙◌, ap}
use Rattle.ymx_cutter.specs.declared.item.Item.TheVariants as item
use Rattle.ymx_cutter.specs.Gathered.{Gathered}
use Rattle.ymx_frames.specs.Lines.{preview}
use Rattle.ymx_frames.proofs.Printed.{reads_on, frame_printed, frame_begun, gathers-whole, gathers-head, gathers-last, gathers-more, line_after}
use Rattle.ymx_frames.proofs.printer.Printer.print_item.Goals as goal

pub returns-in_ok-print_frame-in-Some-Head-clause-printing :
    goal.returns-in_ok-print_frame-in-Some-Head-clause-printing
returns-in_ok-print_frame-in-Some-Head-clause-printing c = λ limit text done pr.
    let kept = c.in_ok-print_frame-in-Some-Head.ensures in
    let is_head : c.next-taken.result.1 ≡ Some (item.Head c.in-Some-Head.header) = c.in-Some-Head.is ∙ ap Some (rw c.in-Some-Head.is at c.in-Some-Head.field-0-is) in
    frame_printed limit text _ _ _ c.args.self.now c.print_frame.new.self pr _ c.in-Some-Head.header [] _
    (gathers-whole pr.gathered _ _ _ is_head (sym c.payload_len.ensures ∙ c.if-payload_len-eq0.true))
    kept.kept.0
    (reads_on limit _ text _ _ _ _ _ pr.limited (c.next-taken.ensures.reads text pr.gathered) pr.reads)
    (c.next-taken.ensures.limit ∙ pr.limited)
    kept.kept.1 kept.fresh kept.placed
    (line_after done _ _ c.in-Some-Head.header _ [] kept.printed c.new-self.ensures)

pub returns-else-payload_len-eq0-clause-printing :
    goal.returns-else-payload_len-eq0-clause-printing
returns-else-payload_len-eq0-clause-printing c = λ limit text done pr.
    let is_head : c.next-taken.result.1 ≡ Some (item.Head c.in-Some-Head.header) = c.in-Some-Head.is ∙ ap Some (rw c.in-Some-Head.is at c.in-Some-Head.field-0-is) in
    let g_is = gathers-head pr.gathered (take c.next-taken.result.0 c.args.input.now) _ _ is_head (λ e. c.if-payload_len-eq0.false (c.payload_len.ensures ∙ e)) in
    frame_begun limit text _ _ c.args.self.now _ pr _
    (ap (λ (x : Gathered). x.frames) g_is)
    (reads_on limit _ text _ _ _ _ _ pr.limited (c.next-taken.ensures.reads text pr.gathered) pr.reads)
    (c.next-taken.ensures.limit ∙ pr.limited)
    (sym (ap (λ (x : Gathered). x.header) g_is))
    (c.new-self.ensures ∙ ap preview (sym (ap (λ (x : Gathered). x.payload) g_is)))
    refl

pub returns-in_ok-print_frame-in-Some-Piece-clause-printing :
    goal.returns-in_ok-print_frame-in-Some-Piece-clause-printing
returns-in_ok-print_frame-in-Some-Piece-clause-printing c = λ limit text done pr.
    let kept = c.in_ok-print_frame-in-Some-Piece.ensures in
    let is_piece : c.next-taken.result.1 ≡ Some (item.Piece c.in-Some-Piece.field-0-0 c.in-Some-Piece.last) = c.in-Some-Piece.is ∙ ap Some (rw c.in-Some-Piece.is at c.in-Some-Piece.field-0-is) in
    let part = take c.next-taken.result.0 c.args.input.now in
    frame_printed limit text _ _ _ c.args.self.now c.print_frame-then-last.new.self pr _ pr.gathered.header (pr.gathered.payload ++ part) _
    (gathers-last pr.gathered _ _ _ _ is_piece c.if-last.true)
    kept.kept.0
    (reads_on limit _ text _ _ _ _ _ pr.limited (c.next-taken.ensures.reads text pr.gathered) pr.reads)
    (c.next-taken.ensures.limit ∙ pr.limited)
    (kept.kept.1 ∙ pr.header) kept.fresh (rw pr.header at kept.placed)
    (line_after done _ _ pr.gathered.header _ _ (rw pr.header at kept.printed) (c.add.ensures pr.gathered.payload pr.shown))

pub returns-else-last-clause-printing : goal.returns-else-last-clause-printing
returns-else-last-clause-printing c = λ limit text done pr.
    let is_piece : c.next-taken.result.1 ≡ Some (item.Piece c.in-Some-Piece.field-0-0 c.in-Some-Piece.last) = c.in-Some-Piece.is ∙ ap Some (rw c.in-Some-Piece.is at c.in-Some-Piece.field-0-is) in
    let g_is = gathers-more pr.gathered (take c.next-taken.result.0 c.args.input.now) _ _ _ is_piece c.if-last.false in
    frame_begun limit text _ _ c.args.self.now _ pr _
    (ap (λ (x : Gathered). x.frames) g_is)
    (reads_on limit _ text _ _ _ _ _ pr.limited (c.next-taken.ensures.reads text pr.gathered) pr.reads)
    (c.next-taken.ensures.limit ∙ pr.limited)
    (pr.header ∙ sym (ap (λ (x : Gathered). x.header) g_is))
    (c.add.ensures pr.gathered.payload pr.shown ∙ ap preview (sym (ap (λ (x : Gathered). x.payload) g_is)))
    refl
