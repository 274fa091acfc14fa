-- One flag changes.
use Rattle.std.proofs.Common.{arith, ap, set, sym, ◌∙◌}
use Rattle.ymx_table.proofs.DueFlags.{below_len, count_few, count_some, kept-set, flags_of-set}
use Rattle.ymx_table.proofs.due_places.DuePlaces.set.Goals as goal

pub put_flag-requires : goal.put_flag-requires
put_flag-requires c = let within = below_len _ _ _ c.self.view_is c.args.place c.requires in omega arith

pub recount-self-inside-requires-clause-counted : goal.recount-self-inside-requires-clause-counted
recount-self-inside-requires-clause-counted c h = count_some c.self.invariant _ c.self.view_is c.args.place c.requires (sym c.has_flag-was_due.ensures ∙ h)

pub recount-self-inside-requires-clause-few : goal.recount-self-inside-requires-clause-few
recount-self-inside-requires-clause-few c = count_few c.self.invariant

pub invariant_of-self : goal.invariant_of-self
invariant_of-self c = kept-set _ _ _ c.has_flag-was_due.result c.args.is_due c.self.invariant _ c.self.view_is c.requires c.has_flag-was_due.ensures c.put_flag.ensures c.recount-self-inside.ensures

pub returns : goal.returns
returns c =
    flags_of-set _ _ _ _ c.put_flag.ensures _ (below_len _ _ _ c.self.view_is _ c.requires)
    ∙ ap (λ fs. set fs c.args.place c.args.is_due) c.self.view_is
