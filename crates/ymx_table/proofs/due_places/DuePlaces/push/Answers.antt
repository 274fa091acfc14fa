-- One flag more.
use Rattle.std.proofs.Common.{arith, ap, refl, ◌∙◌, ◌++◌, ◌∷◌, [], false, length}
use Rattle.ymx_table.proofs.DueFlags.{length-flags_of, kept-push, flags_of-push}
use Rattle.ymx_table.proofs.due_places.DuePlaces.push.Goals as goal

pub put_flag-requires : goal.put_flag-requires
put_flag-requires c = omega (arith, length-flags_of c.self.inside.words c.self.inside.len, ap length c.self.view_is)

pub invariant_of-self : goal.invariant_of-self
invariant_of-self c =
    kept-push _ c.self.inside.len _ false c.args.is_due c.self.invariant refl
    (omega (arith, length-flags_of c.self.inside.words c.self.inside.len, ap length c.self.view_is))
    c.put_flag.ensures c.recount-self-inside.ensures

pub returns : goal.returns
returns c = flags_of-push _ _ _ _ c.put_flag.ensures ∙ ap (λ fs. fs ++ c.args.is_due ∷ []) c.self.view_is
