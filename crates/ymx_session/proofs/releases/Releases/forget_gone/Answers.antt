-- The closure asks of each id whether the session has it.
use Rattle.std.proofs.Common.{ℕ, ap, ◌∙◌, rules}
use Rattle.std.specs.Prelude.{filter}
use Rattle.std.proofs.lemmas.Fn.{filter_same}
use Rattle.ymx_session.specs.Releases.{has_stream}
use Rattle.ymx_session.proofs.releases.Releases.forget_gone.Goals as goal

pub returns : goal.returns
returns c =
    let same = filter_same _ (λ (x : ℕ). has_stream x c.args.session.now) _ (λ x b f r. search rules) _ _ c.retain.ensures.filtered in
    same ∙ ap (filter (λ (x : ℕ). has_stream x c.args.session.now)) c.self.view_is
