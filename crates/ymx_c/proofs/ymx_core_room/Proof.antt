-- `ymx_core_room` meets its contract: what lies at the pointer is lent to `face::room`.
use Rattle.std.proofs.Common.{◌≡◌}
use Rattle.ymx_c.specs.contracts.handle.Handle.{the_row}
use Rattle.ymx_session.specs.Streams.{room_of}
use Rattle.ymx_c.specs.Handles.{told, at_most}
use Rattle.ymx_c.proofs.Exports.{lends_numbered}
use Rattle.ymx_c.specs.contracts.ymx_core_room as f
use Rattle.ymx_c.proofs.ymx_core_room.Statement.{statement}
use Rattle.ymx_c.proofs.ymx_core_room.Code as code
use Rattle.ymx_c.specs.contracts.face.room as g
use Rattle.ymx_c.proofs.face.room.Met.{met}

pub ymx_core_room_spec : {M : Type 1} → statement M
ymx_core_room_spec 𝓤 𝓛 𝓜 𝓡 wired =
    lends_numbered 𝓛 𝓜 𝓡 the_row _ f.Key.name g.Key.name (λ x i u m. (u ≡ told i x (at_most (room_of i x.session))) × (m ≡ x))
    (code.unfolded 𝓤 𝓛.H 𝓜 𝓡 wired) (met 𝓤 𝓛 𝓜 𝓡 (code.calls-ymx_c::face::room 𝓡.env wired))
