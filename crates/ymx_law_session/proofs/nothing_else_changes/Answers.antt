use Rattle.ymx_law_session.proofs.nothing_else.Refusals.{refusals}
use Rattle.ymx_law_session.proofs.nothing_else.Others.{write-others, read-others, finish-others, reset-others, forget-others, head-others, piece-others}
use Rattle.ymx_law_session.proofs.nothing_else.Alone.{write-one, read-one, finish-one, reset-one, forget-one, piece-alone, stream_frame, session_frame}
use Rattle.ymx_law_session.proofs.nothing_else.OthersOut.{open-others, open_with-others, accept-others, begin-others, moves-others}
use Rattle.ymx_law_session.proofs.nothing_else_changes.Goals as goal

ruleset to_others = (write-others, read-others, finish-others, reset-others, forget-others, head-others, piece-others)

ruleset alone = (write-one, read-one, finish-one, reset-one, forget-one, piece-alone, stream_frame, session_frame)

ruleset outwards = (open-others, open_with-others, accept-others, begin-others, moves-others)

pub returns : goal.returns
returns c = assumption (refusals, to_others, alone, outwards)
