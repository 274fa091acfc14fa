-- The kit's look-up by key, said in the table's words.
use Rattle.std.proofs.Common.{is_some, ap, ◌∙◌, subst, None}
use Rattle.std.specs.Prelude.{◌≡◌, MatchOption}
use Rattle.ymx_model.specs.session.Tables.{Table}
use Rattle.ymx_machine.specs.shared.Lists.{look}
use Rattle.ymx_table.specs.Standing.{StandsAt}
use Rattle.ymx_table.proofs.Writes.{stands-found}
use Rattle.ymx_table.proofs.Places.{lookup_is}
use Rattle.ymx_table.proofs.Table.find_near.Goals as goal

pub returns : goal.returns
returns c =
    subst (λ (t : Table). MatchOption c.get_index_of.result (look c.args.id t.entries ≡ None) (StandsAt c.args.id t)) c.self.view_is
    (stands-found _ c.args.id _
    (c.get_index_of.ensures.found ∙ ap is_some (lookup_is c.args.id c.self.inside.records.entries))
    c.get_index_of.ensures.index)
