use Rattle.std.proofs.Common.{ap₂, ◌∙◌}
use Rattle.std.proofs.lemmas.Result.{IfOk-weaker}
use Rattle.clap.specs.Words.{with_subcommand}
use Rattle.ymx_arguments.proofs.command.command.Goals as goal

pub returns : goal.returns
returns c =
    let frames = c.in_ok-subcommand-2.ensures.shape c.in_ok-subcommand.ensures.1 ∙ ap₂ with_subcommand c.top.ensures c.in_ok-subcommand.ensures.0 in
    let script = c.in_ok-subcommand-4.ensures.shape c.in_ok-subcommand-3.ensures.1 ∙ ap₂ with_subcommand frames c.in_ok-subcommand-3.ensures.0 in
    let local = c.in_ok-subcommand-6.ensures.shape c.in_ok-subcommand-5.ensures.1 ∙ ap₂ with_subcommand script c.in_ok-subcommand-5.ensures.0 in
    let remote = c.in_ok-subcommand-8.ensures.shape c.in_ok-subcommand-7.ensures.1 ∙ ap₂ with_subcommand local c.in_ok-subcommand-7.ensures.0 in
    let test = c.in_ok-subcommand-9.ensures in
    IfOk-weaker c.subcommand-10.result _ _ (λ r added. added.shape test.1 ∙ ap₂ with_subcommand remote test.0) c.subcommand-10.ensures
