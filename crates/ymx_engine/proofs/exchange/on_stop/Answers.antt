use Rattle.ymx_engine.proofs.Parts.{part_same}
use Rattle.ymx_engine.proofs.exchange.on_stop.Goals as goal

pub returns-then-not-is_open-clause-part : goal.returns-then-not-is_open-clause-part
returns-then-not-is_open-clause-part g c = part_same
