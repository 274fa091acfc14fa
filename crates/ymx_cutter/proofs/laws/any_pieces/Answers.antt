use Rattle.std.proofs.Common.{[]}
use Rattle.ymx_cutter.specs.Gathered.{nothing}
use Rattle.ymx_cutter.specs.Cutters.Seen.{InHeader}
use Rattle.ymx_cutter.specs.Calls.{text_of, gathered}
use Rattle.ymx_cutter.proofs.Runs.{reads_nothing, reads_calls, Gathers-cuts, length-begun, reads_the_fault, fault_told}
use Rattle.ymx_cutter.proofs.laws.any_pieces.Goals as goal

pub returns-clause-frames : goal.returns-clause-frames
returns-clause-frames c = λ limit calls end are.
    let r = reads_calls limit [] nothing (InHeader []) end calls (reads_nothing limit) are in
    (r.begun, Gathers-cuts limit (text_of calls) (gathered nothing calls) end r, length-begun limit (text_of calls) (gathered nothing calls) end r)

pub returns-clause-fault_told : goal.returns-clause-fault_told
returns-clause-fault_told c = fault_told

pub returns-clause-fault_found : goal.returns-clause-fault_found
returns-clause-fault_found c = λ limit calls end offset fault are stands.
    reads_the_fault limit (text_of calls) (gathered nothing calls) end offset fault (reads_calls limit [] nothing (InHeader []) end calls (reads_nothing limit) are) stands
