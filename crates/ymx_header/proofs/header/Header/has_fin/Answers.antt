use Rattle.ymx_header.proofs.Flags.{mask_fin}
use Rattle.ymx_header.proofs.header.Header.has_fin.Goals as goal

pub returns : goal.returns
returns c = mask_fin c.args.self.now.flags
