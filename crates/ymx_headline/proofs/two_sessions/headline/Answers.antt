use Rattle.ymx_headline.proofs.two_sessions.headline.Goals as goal
use Rattle.ymx_headline.proofs.runs.Runs.{run-alike, runs-alike, none-breaks}

pub returns-clause-every_run : goal.returns-clause-every_run
returns-clause-every_run c = λ may steps answers wa fa wb fb w g r. run-alike may steps answers wa fa wb fb w g r

pub returns-clause-goes_on : goal.returns-clause-goes_on
returns-clause-goes_on c = λ may steps answers w v m h r. runs-alike may steps answers w v m r h

pub returns-clause-no_fault : goal.returns-clause-no_fault
returns-clause-no_fault c = λ may steps answers w v m h r. let k = runs-alike may steps answers w v m r h in none-breaks may steps answers w v m k.0 k.1
