-- One record changes.
use Rattle.std.proofs.Common.{rules}
use Rattle.ymx_model.specs.session.Records.{receive_rst}
use Rattle.ymx_table.proofs.Writes.{changed}
use Rattle.ymx_table.proofs.Table.receive_rst.Goals as goal

pub returns : goal.returns
returns c = changed _ c.args.id receive_rst _ _ _ c.change.ensures (λ e after answer ran. search rules)
