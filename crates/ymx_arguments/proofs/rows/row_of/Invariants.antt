use Rattle.std.proofs.Common.{◌≡◌, drop, map}
use Rattle.ymx_arguments.specs.Rows.{row_in, row_of, stated}
use Rattle.ymx_arguments.proofs.rows.row_of.Given as goal

-- what is left has the same row of this name as all
abbrev pub invariant-loop-row : goal.invariant-loop-row
invariant-loop-row l = row_in l.name (map stated (drop l.row-index l.row-items)) ≡ row_of l.name
