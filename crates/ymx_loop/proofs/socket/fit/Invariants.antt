use Rattle.std.proofs.Common.{◌≡◌, ◌+◌, length, take}
use Rattle.std.specs.Io.Slices.{io_slices_bytes}
use Rattle.ymx_loop.proofs.socket.fit.Given as goal

abbrev pub invariant-piece : goal.invariant-piece
invariant-piece l = l.left + length (io_slices_bytes (take l.at l.pieces)) ≡ l.fn.count
