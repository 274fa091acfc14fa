-- One record changes.
use Rattle.std.proofs.Common.{rules}
use Rattle.ymx_model.specs.session.Records.{end_reset}
use Rattle.ymx_half.specs.Stages.{phase_of}
use Rattle.ymx_table.proofs.Writes.{changed}
use Rattle.ymx_table.proofs.Table.reset.Goals as goal

pub returns : goal.returns
returns c = changed _ c.args.id (end_reset (phase_of c.args.stage)) _ _ _ c.change.ensures (λ e after answer ran. search rules)
