use Rattle.std.proofs.Common.{◌≡◌, ◌<◌, ◌+◌, ◌∙◌, ℕ, List, drop, drop-cons, length, get_or, add-one, ap, ap₂, sym, map}
use Rattle.std.proofs.Math.ListN.{drop_of_length-le}
use Rattle.std.specs.Prelude.{fold}
use Rattle.clap.specs.Words.{App, app_of}
use Rattle.ymx_arguments.specs.CommandLine.{with_row}
use Rattle.ymx_arguments.specs.Rows.{OptionRow, stated}
use Rattle.ymx_arguments.specs.declared.rows.Row.{Row}
use Rattle.ymx_arguments.proofs.command.subcommand.Goals as goal

-- after one more row the rest gives the same
one_more : (f : App → OptionRow → App) (rows : List Row) (i : ℕ) (d : Row) (a b : App) → i < length rows → b ≡ f a (stated (get_or rows i d)) →
    fold f b (map stated (drop (i + 1) rows)) ≡ fold f a (map stated (drop i rows))
one_more f rows i d a b lt e =
    ap₂ (λ x n. fold f x (map stated (drop n rows))) e (add-one i) ∙ sym (ap (λ rest. fold f a (map stated rest)) (drop-cons rows i d lt))

pub loop-row-init : goal.loop-row-init
loop-row-init c = (ap₂ (fold (with_row c.args.name.now)) c.titled-command.ensures.0 c.rows-row-items.ensures, c.titled-command.ensures.1)

pub loop-row-preserved : goal.loop-row-preserved
loop-row-preserved c =
    let added = c.in_ok-command.ensures in
    (one_more (with_row c.args.name.now) _ _ _ _ _ c.loop-row-test.true added.0 ∙ c.loop-row.invariant.0, added.1 ∙ c.loop-row.invariant.1)

pub returns : goal.returns
returns c =
    let none = drop_of_length-le _ c.loop-row-test.false in
    let all = ap (λ rest. fold (with_row c.args.name.now) (app_of c.loop-row.command) (map stated rest)) (sym none) ∙ c.loop-row.invariant.0 in
    (ap (λ (a : App). a.top) all, c.loop-row.invariant.1)
