use Rattle.std.proofs.Common.{◌≡◌}
use Rattle.std.specs.Prelude.{IsSome}
use Rattle.std.specs.Map.{keys_of}
use Rattle.ymx_engine.specs.Turns.{KeepsConnections, Awaits, connection_of}
use Rattle.ymx_engine.proofs.Calling.{FirstAll}
use Rattle.ymx_engine.proofs.connections.Connections.enqueue_all.Given as goal

abbrev pub invariant-place : goal.invariant-place
invariant-place g l =
    KeepsConnections l.initial.self l.self
    × (l.self.held ≡ l.initial.self.held)
    × (keys_of l.self.by_id ≡ keys_of l.initial.self.by_id)
    × (l.self.turns_to_place ≡ l.initial.self.turns_to_place)
    × FirstAll (λ id. IsSome (connection_of id l.initial.self) → Awaits id l.self) l.place (keys_of l.initial.self.by_id)
