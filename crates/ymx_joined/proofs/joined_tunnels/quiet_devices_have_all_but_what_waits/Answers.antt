use Rattle.ymx_joined.proofs.Quiet.{devices_have_all}
use Rattle.ymx_joined.proofs.joined_tunnels.quiet_devices_have_all_but_what_waits.Goals as goal

pub returns : goal.returns
returns c = devices_have_all
