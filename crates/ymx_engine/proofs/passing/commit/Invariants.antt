use Rattle.std.proofs.Common.{◌≡◌, drop}
use Rattle.ymx_engine.specs.Passes.{behind_row, counts_of, payload_of}
use Rattle.ymx_engine.proofs.Rows.{Going}
use Rattle.ymx_engine.proofs.passing.commit.Given as goal

abbrev pub invariant-piece : goal.invariant-piece
invariant-piece l = record {
  going : Going l.row.id l.at l.left l.taken (drop l.piece-index l.piece-items) (payload_of l.row l.waits) l.waits l.initial.session l.session;
  counts : l.piece-items ≡ counts_of l.row;
  behind : behind_row (drop l.piece-index l.piece-items) (drop l.at l.waits) ≡ behind_row (counts_of l.row) l.waits;
}
