use Rattle.std.proofs.Common.{◌≡◌, drop, false, map}
use Rattle.std.specs.Prelude.{fold}
use Rattle.clap.specs.Words.{app_of, new_app}
use Rattle.clap.specs.declared.builder.command.Command.TheViews.{out-Command as fields_of}
use Rattle.ymx_arguments.specs.CommandLine.{with_row}
use Rattle.ymx_arguments.specs.Rows.{rows, stated}
use Rattle.ymx_arguments.proofs.command.subcommand.Given as goal

-- with the options that are left it has all, and none of them is for all subcommands
abbrev pub invariant-loop-row : goal.invariant-loop-row
invariant-loop-row l =
    (fold (with_row l.name) (app_of l.command) (map stated (drop l.row-index l.row-items)) ≡ fold (with_row l.name) (new_app l.name) rows)
    × ((fields_of l.command).has_globals ≡ false)
