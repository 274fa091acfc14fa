-- One record is given back as it was.
use Rattle.std.proofs.Common.{ap, ◌∙◌, rules}
use Rattle.ymx_model.specs.session.Records.{End}
use Rattle.ymx_table.proofs.Writes.{changed}
use Rattle.ymx_table.proofs.Others.{change-nothing}
use Rattle.ymx_table.proofs.Table.shrink.Goals as goal

pub returns : goal.returns
returns c =
    changed _ c.args.id (λ (e : End). e) _ _ _ c.change.ensures (λ e after answer ran. search rules)
    ∙ ap (λ ps. record c.args.self.now { entries = ps }) (change-nothing c.args.id c.args.self.now.entries)
