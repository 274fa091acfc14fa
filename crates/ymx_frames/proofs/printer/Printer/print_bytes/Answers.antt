use Rattle.std.proofs.Common.{refl}
use Rattle.ymx_model.proofs.Pushed.{on_err}
use Rattle.ymx_frames.proofs.Ends.{gone_further, gone_through, gone_to_fault, gone_short, gone_short_of_fault, if_none, tested_empty}
use Rattle.ymx_frames.proofs.printer.Printer.print_bytes.Goals as goal

pub returns-in_err-taken-clause-err : goal.returns-in_err-taken-clause-err
returns-in_err-taken-clause-err c = λ limit text done pr.
    on_err _ _ (gone_short _ _ _ _ _ c.loop-rest.invariant c.in_err-taken.ensures.err limit text done pr)

pub returns-in_err-write_fault-clause-err : goal.returns-in_err-write_fault-clause-err
returns-in_err-write_fault-clause-err c = λ limit text done pr.
    on_err _ _ (gone_short_of_fault _ _ _ _ _ _ _ c.loop-rest.invariant c.in_ok-taken.ensures.printing c.in_err-write_fault.ensures.err limit text done pr)

pub returns-in-Some-clause-ok : goal.returns-in-Some-clause-ok
returns-in-Some-clause-ok c = λ limit text done pr.
    (refl, gone_to_fault _ _ _ _ _ _ _ _ c.loop-rest.invariant c.in_ok-taken.ensures.printing (c.in_ok-taken.ensures.fault _ c.in-Some.is) c.in_ok-write_fault.ensures.ok limit text done pr)

pub loop-rest-preserved : goal.loop-rest-preserved
loop-rest-preserved c =
    gone_further _ _ _ _ _ _ c.loop-rest.invariant c.in_ok-taken.ensures.printing (if_none _ _ c.in_default.is c.in_ok-taken.ensures.no_fault)

pub returns-clause-ok : goal.returns-clause-ok
returns-clause-ok c = gone_through _ _ _ _ c.loop-rest.invariant (tested_empty _ c.loop-rest-test.ensures)
