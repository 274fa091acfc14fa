use Rattle.ymx_joined.proofs.Resting.{all_is_delivered}
use Rattle.ymx_joined.proofs.joined_tunnels.tunnels_at_rest_have_delivered.Goals as goal

pub returns : goal.returns
returns c = all_is_delivered
