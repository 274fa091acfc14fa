use Rattle.ymx_joined.proofs.Tunneling.{devices_get}
use Rattle.ymx_joined.proofs.joined_tunnels.devices_get_what_was_given.Goals as goal

pub returns : goal.returns
returns c = devices_get
