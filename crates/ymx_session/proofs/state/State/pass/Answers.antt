use Rattle.ymx_session.specs.Passing.{passing}
use Rattle.ymx_session.proofs.Passes.{some-of, may-pass, passes}
use Rattle.ymx_session.proofs.state.State.pass.Goals as goal

pub pass-requires : goal.pass-requires
pass-requires c =
    let p = some-of (passing c.args.self.now) c.requires.there in
    may-pass p.0 _ _ _ _ _ _ c.self.view_is c.requires.within p.1 (c.requires.few p.0 p.1) c.pass-id.ensures.piece

pub returns : goal.returns
returns c = λ p h. passes p _ _ _ _ _ _ _ c.self.view_is h c.requires.some c.pass-id.ensures.piece c.pass.ensures
