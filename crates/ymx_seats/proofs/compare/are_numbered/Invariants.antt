use Rattle.std.proofs.Common.{◌≡◌, take}
use Rattle.ymx_seats.specs.Tallies.{NumberedFrom}
use Rattle.ymx_seats.proofs.compare.are_numbered.Given as goal

abbrev pub invariant-loop-seat : goal.invariant-loop-seat
invariant-loop-seat g l = record {
  numbered : NumberedFrom 0 (take l.seat-index l.seats);
  next : l.next ≡ l.seat-index;
}
