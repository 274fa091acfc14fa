-- One record changes.
use Rattle.std.proofs.Common.{rules}
use Rattle.ymx_half.specs.Passing.{passed}
use Rattle.ymx_table.proofs.Writes.{changed}
use Rattle.ymx_table.proofs.Table.pass.Goals as goal

pub returns : goal.returns
returns c = changed _ c.args.id (passed c.args.fin c.args.bytes.now) _ _ _ c.change.ensures (λ e after answer ran. search rules)
