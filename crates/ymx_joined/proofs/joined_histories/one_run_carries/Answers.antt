use Rattle.ymx_joined.proofs.Callers.{run_carries, handed_out_once, none_behind_finish, none_behind_end}
use Rattle.ymx_joined.proofs.joined_histories.one_run_carries.Goals as goal

pub returns-clause-carries : goal.returns-clause-carries
returns-clause-carries c = run_carries

pub returns-clause-handed_out_once : goal.returns-clause-handed_out_once
returns-clause-handed_out_once c = handed_out_once

pub returns-clause-none_behind_finish : goal.returns-clause-none_behind_finish
returns-clause-none_behind_finish c = none_behind_finish

pub returns-clause-none_behind_end : goal.returns-clause-none_behind_end
returns-clause-none_behind_end c = none_behind_end
