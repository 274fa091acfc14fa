-- What was read is the header of the bytes, which spells them.
use Rattle.std.proofs.Common.{arith}
use Rattle.std.proofs.lemmas.Grind.{common_steps}
use Rattle.ymx_header.proofs.Spellings.{read_back, only_one}
use Rattle.ymx_header.proofs.header.decode.Goals as goal

pub returns-clause-spells_back : goal.returns-clause-spells_back
returns-clause-spells_back c = read_back c.args.bytes.now _ (grind (arith, common_steps)) c.told-bytes c.fits-bytes

pub returns-clause-only : goal.returns-clause-only
returns-clause-only c = λ h r s. only_one c.args.bytes.now h _ (grind (arith, common_steps)) r s
