-- One event of a session, whose bytes a contract sees as a list, owned or lent (this project's own).
use Rattle.std.specs.Prelude.{List, ℕ}
use Rattle.ymx_model.specs.declared.types.Event.{Event as EventOf}

abbrev pub Event : Type 0
Event = EventOf (List ℕ)
