use Rattle.std.proofs.Common.{◌∙◌, ap, subst, sym}
use Rattle.ymx_model.specs.world.Worlds.{is_quiet}
use Rattle.ymx_model.specs.declared.types.Role.TheVariants.{Client, Server}
use Rattle.ymx_headline.proofs.relation.Still.{still}
use Rattle.ymx_headline.proofs.bounds.Progress.{goes-on}
use Rattle.ymx_world.proofs.Headlines.{reached-within}
use Rattle.ymx_world.specs.Reached.{IsReached}
use Rattle.ymx_world.proofs.world.World.quiet.Goals as goal

pub returns-clause-goes_on : goal.returns-clause-goes_on
returns-clause-goes_on c = λ o n.
    let reached = subst IsReached c.self.view_is c.self.invariant in
    let k = goes-on c.args.self.now (reached-within c.args.self.now reached) o (ap is_quiet (sym c.self.view_is) ∙ (sym c.is_quiet.ensures ∙ n)) in
    (k.st, k.given, k.next, k.steps, k.bytes_carried)

pub returns-clause-still : goal.returns-clause-still
returns-clause-still c = λ e m a. still Client Server c.args.self.now m a (ap is_quiet (sym c.self.view_is) ∙ (sym c.is_quiet.ensures ∙ e))
