use Rattle.std.specs.Io.KnownBytes.{Keeps}
use Rattle.ymx_model.proofs.retrying.write.Given as goal

abbrev pub invariant-again : goal.invariant-again
invariant-again g l = Keeps (g.W.Write.contents l.initial.writer) (g.W.Write.contents l.writer)
