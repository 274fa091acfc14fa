-- By induction on the run.
use Rattle.ymx_headline.proofs.machine.lanes.MachineLaws.{law}
use Rattle.ymx_headline.proofs.queue_machine.lane_law.Goals as goal

pub returns : goal.returns
returns c = record { every_lane = λ wa fa wb fb steps answers m id a b run. law wa fa wb fb steps answers m id a b run }
