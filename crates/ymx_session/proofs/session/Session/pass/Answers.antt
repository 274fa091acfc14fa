use Rattle.std.proofs.Common.{sym, subst}
use Rattle.std.specs.Prelude.{IsSome}
use Rattle.ymx_model.specs.session.Sessions.{Session}
use Rattle.ymx_session.specs.Passing.{passing}
use Rattle.ymx_session.proofs.Passes.{some-of}
use Rattle.ymx_session.proofs.PassesSound.{passes-sound}
use Rattle.ymx_session.proofs.session.Session.pass.Goals as goal

pub invariant_of-self : goal.invariant_of-self
invariant_of-self c =
    let p = some-of (passing c.self.inside.state) (subst (λ (x : Session). IsSome (passing x)) (sym c.self.view_is) c.requires.there) in
    passes-sound _ _ _ _ (c.pass.ensures p.0 p.1) c.self.invariant
