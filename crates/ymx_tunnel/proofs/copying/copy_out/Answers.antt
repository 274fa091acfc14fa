use Rattle.ymx_tunnel.proofs.Moving.{still_stops}
use Rattle.ymx_tunnel.proofs.copying.copy_out.Goals as goal

pub returns-clause-why : goal.returns-clause-why
returns-clause-why g c = still_stops _ _ _ _ _ _ c.close-left.ensures.refused c.empty-bytes.ensures.why
