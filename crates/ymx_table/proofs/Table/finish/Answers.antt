-- One record changes.
use Rattle.std.proofs.Common.{rules}
use Rattle.ymx_model.specs.session.Records.{end_finish}
use Rattle.ymx_table.proofs.Writes.{changed}
use Rattle.ymx_table.proofs.Table.finish.Goals as goal

pub returns : goal.returns
returns c = changed _ c.args.id end_finish _ _ _ c.change.ensures (λ e after answer ran. search rules)
