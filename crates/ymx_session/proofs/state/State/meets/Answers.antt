use Rattle.std.proofs.Common.{sym, ◌∙◌}
use Rattle.ymx_session.proofs.Heads.{reset-meets}
use Rattle.ymx_session.proofs.state.State.meets.Goals as goal

pub returns-then-has_rst : goal.returns-then-has_rst
returns-then-has_rst c e there = c.reset_comes.ensures e there ∙ reset-meets c.args.header.now e c.args.self.now (sym c.has_rst.ensures ∙ c.if-has_rst.true) c.requires.awaits
