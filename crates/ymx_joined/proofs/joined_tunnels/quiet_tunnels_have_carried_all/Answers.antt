use Rattle.ymx_joined.proofs.Arriving.{next_read}
use Rattle.ymx_joined.proofs.Quiet.{all_has_come}
use Rattle.ymx_joined.proofs.joined_tunnels.quiet_tunnels_have_carried_all.Goals as goal

pub returns-clause-carried : goal.returns-clause-carried
returns-clause-carried c = all_has_come

pub returns-clause-next_read : goal.returns-clause-next_read
returns-clause-next_read c = next_read
