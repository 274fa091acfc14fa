-- A record stands at no place but its own.
use Rattle.std.proofs.Common.{◌≡◌, ap, sym, ◌∙◌, subst, arith}
use Rattle.std.specs.Option.{option_map}
use Rattle.std.specs.Map.Iter.{deref_pair}
use Rattle.std.proofs.lemmas.Bool.Decides.{nat_tests}
use Rattle.ymx_model.specs.session.Tables.{Table}
use Rattle.ymx_table.specs.Standing.{StandsAt}
use Rattle.ymx_table.proofs.Writes.{stands-there}
use Rattle.ymx_table.proofs.Table.stands_at.Goals as goal

pub returns : goal.returns
returns c same =
    let is : c.unwrap.result.0.now ≡ c.args.id = grind (arith, nat_tests) in
    let here = sym c.get_index.ensures.entry ∙ ap (option_map deref_pair) c.unwrap.ensures in
    subst (λ (t : Table). StandsAt c.args.id t c.args.at) c.self.view_is (stands-there _ c.args.id c.args.at _ c.len.ensures.unique here is)
