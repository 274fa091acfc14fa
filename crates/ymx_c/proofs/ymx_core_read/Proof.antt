-- `ymx_core_read` meets its contract: what lies at the pointer is lent to `face::read`.
use Rattle.std.proofs.Common.{length}
use denote.Builtin.{u8}
use Rattle.ymx_c.specs.contracts.handle.Handle.{the_row}
use Rattle.ymx_c.specs.Handles.{FillsOf}
use Rattle.ymx_c.proofs.Exports.{lends_numbered_filled}
use Rattle.ymx_model.specs.declared.types.Event.TheVariants as event
use Rattle.ymx_machine.specs.declared.types.Call.TheVariants as call
use Rattle.ymx_c.specs.contracts.ymx_core_read as f
use Rattle.ymx_c.proofs.ymx_core_read.Statement.{statement}
use Rattle.ymx_c.proofs.ymx_core_read.Code as code
use Rattle.ymx_c.specs.contracts.face.read as g
use Rattle.ymx_c.proofs.face.read.Met.{met}

pub ymx_core_read_spec : {M : Type 1} → statement M
ymx_core_read_spec 𝓤 𝓛 𝓜 𝓡 wired =
    lends_numbered_filled 𝓛 𝓜 𝓡 u8 _ the_row _ f.Key.name g.Key.name (λ x i old new u m. FillsOf i x (event.Call (call.Read i (length old))) u old new m)
    (code.unfolded 𝓤 𝓛.H 𝓜 𝓡 wired) (met 𝓤 𝓛 𝓜 𝓡 (code.calls-ymx_c::face::read 𝓡.env wired))
