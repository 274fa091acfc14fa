use Rattle.ymx_headline.proofs.audit.OneRun.{are-one-run}
use Rattle.ymx_headline.proofs.joint_histories.joined_histories_are_one_run.Goals as goal

pub returns : goal.returns
returns c = are-one-run
