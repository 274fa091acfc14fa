use Rattle.ymx_frames.proofs.Ends.{leaves_end, leaves_bytes, tested_empty, own_end}
use Rattle.ymx_frames.proofs.printer.Printer.print.Goals as goal

pub returns-then-is_empty-clause-printed : goal.returns-then-is_empty-clause-printed
returns-then-is_empty-clause-printed c = λ limit text done pr.
    leaves_end limit text c.args.input.now done _ _ c.args.self.now _ _ _ pr (tested_empty _ c.if-is_empty.ensures)
    (c.print_end.ensures.ok limit text done pr) c.print_end.ensures.ends c.print_end.ensures.err c.end_of.ensures

pub returns-then-is_empty-clause-own : goal.returns-then-is_empty-clause-own
returns-then-is_empty-clause-own c = own_end _ _ c.print_end.ensures.ends c.end_of.ensures

pub returns-clause-printed : goal.returns-clause-printed
returns-clause-printed c = λ limit text done pr.
    leaves_bytes limit text c.args.input.now done _ _ _ _ (c.print_bytes.ensures.ok limit text done pr) (c.print_bytes.ensures.err limit text done pr) c.end_of-2.ensures
