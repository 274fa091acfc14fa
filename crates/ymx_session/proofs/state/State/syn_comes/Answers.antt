use Rattle.std.proofs.Common.{◌≡◌, None, sym, ◌∙◌, rules}
use Rattle.ymx_model.specs.session.Arrivals.{syn_fault}
use Rattle.ymx_session.proofs.Heads.{resets-at-once}
use Rattle.ymx_session.proofs.state.State.syn_comes.Goals as goal

pub returns-then-has_rst-clause-state : goal.returns-then-has_rst-clause-state
returns-then-has_rst-clause-state c =
    let good : syn_fault c.args.header.now c.args.self.now ≡ None = search rules in
    resets-at-once c.args.header.now c.args.self.now good c.requires.within (sym c.has_rst.ensures ∙ c.if-has_rst.true) (sym c.refuses.ensures ∙ c.if-refuses.false) c.requires.awaits
