use Rattle.ymx_cutter.proofs.Runs.{reads_nothing, Gathers-cuts, length-begun, Gathers-fault, reads_the_fault}
use Rattle.ymx_cutter.proofs.laws.what_is_read.Goals as goal

pub returns-clause-nothing : goal.returns-clause-nothing
returns-clause-nothing c = reads_nothing

pub returns-clause-cuts : goal.returns-clause-cuts
returns-clause-cuts c = λ limit text g seen r. (r.begun, Gathers-cuts limit text g seen r, length-begun limit text g seen r)

pub returns-clause-fault : goal.returns-clause-fault
returns-clause-fault c = Gathers-fault

pub returns-clause-found : goal.returns-clause-found
returns-clause-found c = reads_the_fault
