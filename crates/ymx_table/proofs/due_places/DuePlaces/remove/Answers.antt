-- One flag goes, and those after it move up.
use Rattle.std.proofs.Common.{arith, ap, remove, sym, ◌∙◌, false}
use Rattle.ymx_table.proofs.DueFlags.{below_len, count_few, count_some, kept-remove, flags_of-remove}
use Rattle.ymx_table.proofs.due_places.DuePlaces.remove.Goals as goal

pub take_flag_out-requires : goal.take_flag_out-requires
take_flag_out-requires c = let within = below_len _ _ _ c.self.view_is c.args.place c.requires in omega arith

pub overflow_sub-self : goal.overflow_sub-self
overflow_sub-self c = let within = below_len _ _ _ c.self.view_is c.args.place c.requires in omega arith

pub recount-self-inside-requires-clause-counted : goal.recount-self-inside-requires-clause-counted
recount-self-inside-requires-clause-counted c h = count_some c.self.invariant _ c.self.view_is c.args.place c.requires (sym c.has_flag-was_due.ensures ∙ h)

pub recount-self-inside-requires-clause-few : goal.recount-self-inside-requires-clause-few
recount-self-inside-requires-clause-few c = count_few c.self.invariant

pub invariant_of-self : goal.invariant_of-self
invariant_of-self c = kept-remove _ _ _ c.has_flag-was_due.result false c.self.invariant _ c.self.view_is c.requires c.has_flag-was_due.ensures c.take_flag_out.ensures c.recount-self-inside.ensures

pub returns : goal.returns
returns c =
    flags_of-remove _ _ _ _ (below_len _ _ _ c.self.view_is _ c.requires) c.take_flag_out.ensures
    ∙ ap (λ fs. remove fs c.args.place) c.self.view_is
