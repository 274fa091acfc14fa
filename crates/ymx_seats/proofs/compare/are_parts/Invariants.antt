use Rattle.std.proofs.Common.{◌≡◌, take, All}
use Rattle.ymx_seats.specs.Journals.{part}
use Rattle.ymx_seats.specs.Tallies.{RisesFrom}
use Rattle.ymx_seats.proofs.compare.are_parts.Given as goal

abbrev pub invariant-loop-seat : goal.invariant-loop-seat
invariant-loop-seat g l = record {
  parts : All (λ s. s.entries ≡ part s.number l.all) (take l.seat-index l.seats);
  rising : All (λ s. RisesFrom s.start s.entries) (take l.seat-index l.seats);
}
