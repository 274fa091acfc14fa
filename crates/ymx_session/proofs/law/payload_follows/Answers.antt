use Rattle.ymx_session.proofs.Behind.{part-behind, follows}
use Rattle.ymx_session.proofs.law.payload_follows.Goals as goal

pub returns : goal.returns
returns c = record { part = part-behind; follows = follows }
