-- `ymx_core_write_through` meets its contract: what lies at the pointer is lent to `face::write_through`.
use denote.Builtin.{u8}
use Rattle.ymx_c.specs.contracts.handle.Handle.{the_row}
use Rattle.ymx_c.specs.Handles.{WritesOn}
use Rattle.ymx_c.proofs.Exports.{lends_through}
use Rattle.ymx_c.specs.contracts.ymx_core_write_through as f
use Rattle.ymx_c.proofs.ymx_core_write_through.Statement.{statement}
use Rattle.ymx_c.proofs.ymx_core_write_through.Code as code
use Rattle.ymx_c.specs.contracts.face.write_through as g
use Rattle.ymx_c.proofs.face.write_through.Met.{met}

pub ymx_core_write_through_spec : {M : Type 1} → statement M
ymx_core_write_through_spec 𝓤 𝓛 𝓜 𝓡 wired =
    lends_through 𝓛 𝓜 𝓡 u8 _ the_row _ f.Key.name g.Key.name (λ x i s old new u m. WritesOn i s old new x u m)
    (code.unfolded 𝓤 𝓛.H 𝓜 𝓡 wired) (met 𝓤 𝓛 𝓜 𝓡 (code.calls-ymx_c::face::write_through 𝓡.env wired))
