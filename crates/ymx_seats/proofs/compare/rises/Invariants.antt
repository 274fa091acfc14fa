use Rattle.std.proofs.Common.{◌≡◌, take}
use Rattle.ymx_seats.specs.Tallies.{RisesFrom, behind_all}
use Rattle.ymx_seats.proofs.compare.rises.Given as goal

abbrev pub invariant-loop-entry : goal.invariant-loop-entry
invariant-loop-entry l = record {
  rising : RisesFrom l.start (take l.entry-index l.mine);
  next : l.next ≡ behind_all l.start (take l.entry-index l.mine);
}
