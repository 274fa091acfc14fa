use Rattle.ymx_frames.proofs.OneEnd.{one_end}
use Rattle.ymx_frames.proofs.print.one_printing.Goals as goal

pub returns : goal.returns
returns c = one_end
