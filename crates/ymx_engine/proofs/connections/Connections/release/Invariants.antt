use Rattle.std.specs.Prelude.{◌≡◌, ◌+◌, length}
use Rattle.ymx_engine.specs.Turns.{KeepsConnections}
use Rattle.ymx_engine.proofs.connections.Connections.release.Given as goal

abbrev pub invariant-held : goal.invariant-held
invariant-held g l = KeepsConnections l.initial.self l.self × (length l.self.held + l.counter ≡ length l.initial.self.held)
