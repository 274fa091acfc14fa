use Rattle.ymx_header.proofs.Flags.{mask_rst}
use Rattle.ymx_header.proofs.header.Header.has_rst.Goals as goal

pub returns : goal.returns
returns c = mask_rst c.args.self.now.flags
