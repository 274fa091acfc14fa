use Rattle.ymx_joined.proofs.Tunneling.{tunnels_carry}
use Rattle.ymx_joined.proofs.joined_tunnels.tunnels_carry.Goals as goal

pub returns : goal.returns
returns c = tunnels_carry
