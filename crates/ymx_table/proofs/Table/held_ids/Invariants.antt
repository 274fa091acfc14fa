use Rattle.ymx_table.proofs.HeldIds.{Listed}
use Rattle.ymx_table.proofs.Table.held_ids.Given as goal

abbrev pub invariant-loop-place : goal.invariant-loop-place
invariant-loop-place l = Listed l.but l.place l.self.entries l.fn.ids l.count l.ids
