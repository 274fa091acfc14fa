use Rattle.std.specs.Io.KnownBytes.{Keeps}
use Rattle.ymx_model.proofs.retrying.read.Given as goal

abbrev pub invariant-again : goal.invariant-again
invariant-again g l = Keeps (g.R.Read.remaining l.initial.reader) (g.R.Read.remaining l.reader)
