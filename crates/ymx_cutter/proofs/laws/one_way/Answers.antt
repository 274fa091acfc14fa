use Rattle.std.proofs.Common.{ap, sym, ◌∙◌, List, length}
use Rattle.ymx_header.specs.Frames.{Frame}
use Rattle.ymx_cutter.specs.Frames.{joined}
use Rattle.ymx_cutter.proofs.Only.{one_cut, one_fault, Cuts-fault}
use Rattle.ymx_cutter.proofs.laws.one_way.Goals as goal

pub returns-clause-cuts : goal.returns-clause-cuts
returns-clause-cuts c = one_cut

pub returns-clause-faults : goal.returns-clause-faults
returns-clause-faults c = one_fault

pub returns-clause-after_frames : goal.returns-clause-after_frames
returns-clause-after_frames c = λ limit text frames rest offset fault cuts stands.
    sym stands.fills ∙ ap (λ (fs : List Frame). length (joined fs)) (one_cut limit text _ frames _ rest (Cuts-fault limit text offset fault stands) cuts).0
