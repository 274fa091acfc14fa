-- The bytes that the reads and writes of a seat carried (this project's own).
use Rattle.std.specs.Prelude.{ℕ, List, [], ◌∷◌, ◌++◌, take}
use Rattle.ymx_model.specs.session.Events.{Event}
use Rattle.ymx_model.specs.declared.types.Event.TheVariants as event
use Rattle.ymx_machine.specs.declared.types.Call.TheVariants as call
use Rattle.ymx_machine.specs.shared.Events.{Reply}
use Rattle.ymx_machine.specs.declared.types.Reply.TheVariants as reply
use Rattle.ymx_model.specs.declared.types.Entry.{Entry}
use Rattle.ymx_hub.specs.Turns.{took_of}

-- the bytes of a write
abbrev pub offered : Event → List ℕ
offered (event.Call (call.Write id bytes)) = bytes
offered _ = []

-- the bytes that writes took, joined
abbrev pub bytes_written : List Entry → List ℕ
bytes_written [] = []
bytes_written (e ∷ es) = take (took_of e.reply) (offered e.event) ++ bytes_written es

-- the bytes that a read gave
abbrev pub read_of : Reply → List ℕ
read_of (reply.Read bytes) = bytes
read_of _ = []

-- the bytes that reads gave, joined
abbrev pub read_bytes : List Entry → List ℕ
read_bytes [] = []
read_bytes (e ∷ es) = read_of e.reply ++ read_bytes es
