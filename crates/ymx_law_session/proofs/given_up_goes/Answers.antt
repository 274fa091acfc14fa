use Rattle.ymx_law_session.proofs.given_up.ReapedFrames.{new-reaped, gives-reaped, replays-reaped, none-linger}
use Rattle.ymx_law_session.proofs.given_up_goes.Goals as goal

pub returns : goal.returns
returns c = assumption (new-reaped, gives-reaped, replays-reaped, none-linger)
