use Rattle.std.proofs.Common.{refl, ap, ◌∙◌}
use Rattle.ymx_session.specs.Arriving.{Coming}
use Rattle.ymx_session.proofs.Heads.{offers}
use Rattle.ymx_session.proofs.state.State.offer.Goals as goal

pub returns-clause-offered : goal.returns-clause-offered
returns-clause-offered c =
    offers c.args.header.now _ _ c.receive_head.new.self c.insert.new.self c.push.new.self c.keep.new.self.incoming c.self.view_is c.requires.rst c.requires.awaits c.requires.good
    (c.receive_head.ensures ∙ rw (c.delta.ensures, c.ends_now.ensures, c.in_ok-stream.ensures.made) refl)
    (rw c.offered.ensures.same at c.in_ok-insert.ensures.last) c.push.ensures (ap (λ (x : Coming). x.incoming) c.keep.ensures)
