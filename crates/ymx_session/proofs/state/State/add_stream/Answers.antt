use Rattle.std.proofs.Common.{refl}
use Rattle.ymx_session.proofs.Records.{opened-is}
use Rattle.ymx_session.proofs.state.State.add_stream.Goals as goal

pub returns-clause-opened : goal.returns-clause-opened
returns-clause-opened c =
    opened-is _ _ _ _ _ _ _ _ c.self.view_is refl c.in_ok-stream.ensures.took c.in_ok-stream.ensures.made (rw c.opened.ensures.same at c.in_ok-insert.ensures.last)
