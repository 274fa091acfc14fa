use Rattle.std.proofs.Common.{length}
use Rattle.ymx_frames.proofs.Ends.{HasGoneOn}
use Rattle.ymx_frames.proofs.printer.Printer.print_bytes.Given as goal

abbrev pub invariant-loop-rest : goal.invariant-loop-rest
invariant-loop-rest l = HasGoneOn l.input l.rest l.initial.self l.self

abbrev pub decreases-loop-rest : goal.decreases-loop-rest
decreases-loop-rest l = length l.rest
