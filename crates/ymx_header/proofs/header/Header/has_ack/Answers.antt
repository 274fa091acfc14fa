use Rattle.ymx_header.proofs.Flags.{mask_ack}
use Rattle.ymx_header.proofs.header.Header.has_ack.Goals as goal

pub returns : goal.returns
returns c = mask_ack c.args.self.now.flags
