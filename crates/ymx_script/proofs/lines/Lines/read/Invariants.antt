use Rattle.std.proofs.Common.{length}
use Rattle.ymx_script.specs.Scripts.{IsTextPart}
use Rattle.ymx_script.proofs.Reading.{HasTaken}
use Rattle.ymx_script.proofs.lines.Lines.read.Given as goal

abbrev pub invariant-loop-end : goal.invariant-loop-end
invariant-loop-end l = record {
  part : IsTextPart l.self.part.items;
  taken : HasTaken l.fn.piece l.rest l.initial.self l.self;
}

abbrev pub decreases-loop-end : goal.decreases-loop-end
decreases-loop-end l = length l.rest
