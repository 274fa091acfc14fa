-- The events of a tunnel as a history.
use Rattle.std.proofs.Common.{ℕ, ◌+◌, List, [], ◌∷◌, refl}
use Rattle.ymx_model.specs.session.Events.{Event}
use Rattle.ymx_machine.specs.shared.Events.{Reply}
use Rattle.ymx_model.specs.session.Sessions.{Session}
use Rattle.ymx_model.specs.session.Emissions.{in_turn}
use Rattle.ymx_model.specs.session.Histories.{ReplaysFrom}
use Rattle.ymx_engine.specs.Events.{Happen}
use Rattle.ymx_joined.specs.Tunnels.{entries_from}

pub replays : (at : ℕ) (events : List (Event × Reply)) (s t : Session) → Happen events s t → ReplaysFrom in_turn at (entries_from at events) s t
replays at [] s t h = h
replays at (e ∷ es) s t h = (refl, (h.0, h.1, replays (at + 1) es h.0 t h.2))
