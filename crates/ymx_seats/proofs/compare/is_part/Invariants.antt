use Rattle.std.proofs.Common.{◌≡◌, ◌≤◌, length, take}
use Rattle.ymx_seats.specs.Journals.{part}
use Rattle.ymx_seats.proofs.compare.is_part.Given as goal

abbrev pub invariant-loop-entry : goal.invariant-loop-entry
invariant-loop-entry l = record {
  within : l.at ≤ length l.mine;
  same : take l.at l.mine ≡ part l.number (take l.entry-index l.all);
}
