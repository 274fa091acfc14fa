use Rattle.std.proofs.Common.{take}
use Rattle.std.specs.Prelude.{◌≡◌, ◌⊎◌, IsSome, nat_eq, true, ℕ}
use Rattle.std.specs.List.{list_any}
use Rattle.ymx_engine.specs.Turns.{KeepsConnections, Waits, Awaits, connection_of}
use Rattle.ymx_engine.proofs.connections.Connections.enqueue_some.Given as goal

abbrev pub invariant-id : goal.invariant-id
invariant-id g l =
    KeepsConnections l.initial.self l.self
    × ((id : ℕ) → list_any (nat_eq id) (take l.id-index l.ids) ≡ true → IsSome (connection_of id l.initial.self) → Awaits id l.self)
    × ((id : ℕ) → Waits id l.self → Waits id l.initial.self ⊎ (list_any (nat_eq id) (take l.id-index l.ids) ≡ true))
