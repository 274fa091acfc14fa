use Rattle.ymx_law_session.proofs.offers.SynCauses.{offered, rejected, reset_at_once, starved}
use Rattle.ymx_law_session.proofs.streams_are_offered.Goals as goal

pub returns : goal.returns
returns c = assumption (offered, rejected, starved, reset_at_once)
