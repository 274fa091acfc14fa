use Rattle.std.proofs.Common.{ap, sym, subst, ℕ, Option}
use Rattle.std.specs.Prelude.{IfNone}
use Rattle.ymx_engine.specs.Refusals.{OffersNone}
use Rattle.ymx_engine.specs.Tunnels.{Tunnel}
use Rattle.ymx_engine.proofs.Entering.{offer_is, refuses_all}
use Rattle.ymx_engine.proofs.tunnel.Tunnel.take_offered.Goals as goal
use Rattle.ymx_engine.proofs.tunnel.Tunnel.take_offered.Goals.{in-Ok, in-Err}

pub returns-clause-none : goal.returns-clause-none
returns-clause-none g c =
    let same = ap (λ (t : Tunnel). t.engine.session) c.self.view_is in
    elim c.match-accept.branch [
      | in-Ok w ↦ subst (λ (o : Option ℕ). IfNone o (OffersNone c.args.self.now.engine.session c.accept.new.self)) (sym w.result-is)
          (offer_is w.in-Ok.offered _ _ _ same w.in-Ok.ensures.event)
      | in-Err w ↦ subst (λ (o : Option ℕ). IfNone o (OffersNone c.args.self.now.engine.session c.accept.new.self)) (sym w.result-is)
          (refuses_all w.in-Err.field-0 _ _ _ same w.in-Err.ensures.event w.in-Err.ensures.refused)
    ]
