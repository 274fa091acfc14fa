-- One record changes.
use Rattle.std.proofs.Common.{rules}
use Rattle.ymx_model.specs.session.Records.{end_forget}
use Rattle.ymx_table.proofs.Writes.{changed}
use Rattle.ymx_table.proofs.Table.forget.Goals as goal

pub returns : goal.returns
returns c = changed _ c.args.id (end_forget c.args.lost) _ _ _ c.change.ensures (λ e after answer ran. search rules)
