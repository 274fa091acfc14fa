use Rattle.ymx_script.specs.Rounds.{RoundsHavePlayed}
use Rattle.ymx_script.proofs.playing.play_all.Given as goal

abbrev pub invariant-pieces : goal.invariant-pieces
invariant-pieces g l =
    RoundsHavePlayed (g.R.Inlet.remaining l.initial.reader) (g.R.Inlet.remaining l.reader) (g.W.Outlet.contents l.initial.writer) (g.W.Outlet.contents l.writer)
    (g.R.Inlet.failures l.initial.reader) (g.R.Inlet.failures l.reader) (g.W.Outlet.failures l.initial.writer) (g.W.Outlet.failures l.writer) l.lines
