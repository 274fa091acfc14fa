-- The kit's look-up by key is `look`.
use Rattle.std.proofs.Common.{ap, ◌∙◌, is_some}
use Rattle.ymx_model.specs.session.Tables.{Table}
use Rattle.ymx_machine.specs.shared.Lists.{look}
use Rattle.ymx_table.proofs.Places.{lookup_is}
use Rattle.ymx_table.proofs.Table.contains.Goals as goal

pub returns : goal.returns
returns c =
    c.contains_key.ensures
    ∙ ap is_some (lookup_is c.args.id c.self.inside.records.entries ∙ ap (λ (t : Table). look c.args.id t.entries) c.self.view_is)
