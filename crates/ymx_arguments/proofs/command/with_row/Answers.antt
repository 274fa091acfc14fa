use Rattle.std.proofs.Common.{◌≡◌, ◌∙◌, ◌||◌, Bool, true, false, ap, refl, arith}
use Rattle.std.proofs.lemmas.Result.{IfOk-weaker}
use Rattle.clap.specs.Words.{App, Text, app_of, with_rule}
use Rattle.clap.specs.declared.builder.command.Command.TheViews.{out-Command as fields_of}
use Rattle.ymx_arguments.specs.CommandLine.{row_rule, with_row}
use Rattle.ymx_arguments.specs.Rows.{OptionRow, is_of, stated}
use Rattle.ymx_arguments.proofs.command.with_row.Goals as goal

-- an option of this subcommand is added
with_own : (name : Text) (app : App) (row : OptionRow) → is_of row.owner name ≡ true → with_rule app (row_rule row) ≡ with_row name app row
with_own name app row own = rw own refl

-- none is for all subcommands, if none was
or_false : (b : Bool) → (b || false) ≡ b
or_false true = refl
or_false false = refl

pub returns : goal.returns
returns c =
    let command = c.args.command in
    let argument = c.in_ok-argument.ensures in
    let own : is_of (stated c.args.row.now).owner c.args.name.now ≡ true = grind arith in
    IfOk-weaker c.arg.result _ _ (λ r added. (
      added.shape argument.1 ∙ ap (with_rule (app_of command)) argument.0 ∙ with_own c.args.name.now (app_of command) (stated c.args.row.now) own,
      added.globals ∙ ap (λ global. (fields_of command).has_globals || global) argument.1 ∙ or_false _,
    )) c.arg.ensures
