use Rattle.std.proofs.Common.{◌<◌, length}
use Rattle.ymx_frames.proofs.Rounds.{RoundsHavePrinted}
use Rattle.ymx_frames.proofs.print.frames.Given as goal

abbrev pub invariant-round : goal.invariant-round
invariant-round g l =
    RoundsHavePrinted l.limit (g.R.Inlet.remaining l.initial.reader) (g.R.Inlet.remaining l.reader) (g.W.Outlet.contents l.initial.writer) (g.W.Outlet.contents l.writer)
    (g.R.Inlet.failures l.initial.reader) (g.R.Inlet.failures l.reader) (g.W.Outlet.failures l.initial.writer) (g.W.Outlet.failures l.writer) l.printer
    × (0 < length l.input)
