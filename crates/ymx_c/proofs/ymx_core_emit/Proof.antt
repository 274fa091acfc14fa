-- `ymx_core_emit` meets its contract: what lies at the pointer is lent to `face::emit`.
use Rattle.std.proofs.Common.{length}
use denote.Builtin.{u8}
use Rattle.ymx_c.specs.contracts.handle.Handle.{the_row}
use Rattle.ymx_c.specs.Handles.{FillsIn}
use Rattle.ymx_c.proofs.Exports.{lends_filled}
use Rattle.ymx_model.specs.declared.types.Event.TheVariants as event
use Rattle.ymx_c.specs.contracts.ymx_core_emit as f
use Rattle.ymx_c.proofs.ymx_core_emit.Statement.{statement}
use Rattle.ymx_c.proofs.ymx_core_emit.Code as code
use Rattle.ymx_c.specs.contracts.face.emit as g
use Rattle.ymx_c.proofs.face.emit.Met.{met}

pub ymx_core_emit_spec : {M : Type 1} → statement M
ymx_core_emit_spec 𝓤 𝓛 𝓜 𝓡 wired =
    lends_filled 𝓛 𝓜 𝓡 u8 _ the_row _ f.Key.name g.Key.name (λ x old new u m. FillsIn x (event.Emit (length old)) u new m)
    (code.unfolded 𝓤 𝓛.H 𝓜 𝓡 wired) (met 𝓤 𝓛 𝓜 𝓡 (code.calls-ymx_c::face::emit 𝓡.env wired))
