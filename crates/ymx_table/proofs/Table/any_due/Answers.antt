-- Any is due where the number of flags that are set is not 0.
use Rattle.std.proofs.Common.{ap, sym, ◌∙◌, not, nat_eq}
use Rattle.ymx_model.specs.session.FramesDue.{is_due}
use Rattle.ymx_model.specs.session.Tables.{Table, any_due}
use Rattle.ymx_table.specs.Flags.{set_count}
use Rattle.ymx_table.proofs.Counts.{set_count-map}
use Rattle.ymx_table.proofs.Rounds.{any_due-count}
use Rattle.ymx_table.proofs.Table.any_due.Goals as goal

pub returns : goal.returns
returns c =
    ap (λ n. not (nat_eq n 0))
    (c.count.ensures ∙ ap set_count c.self.invariant.flagged ∙ set_count-map (is_due c.self.inside.window) c.self.inside.records.entries)
    ∙ sym (any_due-count c.self.inside.window c.self.inside.records.entries)
    ∙ ap (λ (t : Table). any_due t.window t.entries) c.self.view_is
