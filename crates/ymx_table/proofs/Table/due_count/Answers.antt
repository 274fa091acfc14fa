-- As many flags are set as streams have a frame due.
use Rattle.std.proofs.Common.{ap, ◌∙◌}
use Rattle.ymx_model.specs.session.FramesDue.{is_due}
use Rattle.ymx_model.specs.session.Tables.{due_count}
use Rattle.ymx_table.specs.Flags.{set_count}
use Rattle.ymx_table.proofs.Counts.{count_is, set_count-map}
use Rattle.ymx_table.proofs.Table.due_count.Goals as goal

pub returns : goal.returns
returns c =
    c.count.ensures ∙ ap set_count c.self.invariant.flagged ∙ set_count-map (is_due c.self.inside.window) c.self.inside.records.entries
    ∙ count_is (is_due c.self.inside.window) c.self.inside.records.entries
    ∙ ap due_count c.self.view_is
