use Rattle.ymx_frames.proofs.Ends.{prints_rest}
use Rattle.ymx_frames.proofs.printer.Printer.print_end.Goals as goal

pub returns-clause-ok : goal.returns-clause-ok
returns-clause-ok c = λ limit text done pr.
    (tt, prints_rest limit text done _ _ c.args.self.now c.begun-count.result pr.so_far pr.no_fault c.begun-count.ensures c.if-count-eq0.false c.in_ok-write_rest.ensures.ok)
