-- `ymx_core_is_reset` meets its contract: what lies at the pointer is lent to `face::is_reset`.
use Rattle.std.proofs.Common.{◌≡◌}
use Rattle.ymx_c.specs.contracts.handle.Handle.{the_row}
use Rattle.ymx_c.specs.Handles.{TellsReset}
use Rattle.ymx_c.proofs.Exports.{lends_numbered}
use Rattle.ymx_c.specs.contracts.ymx_core_is_reset as f
use Rattle.ymx_c.proofs.ymx_core_is_reset.Statement.{statement}
use Rattle.ymx_c.proofs.ymx_core_is_reset.Code as code
use Rattle.ymx_c.specs.contracts.face.is_reset as g
use Rattle.ymx_c.proofs.face.is_reset.Met.{met}

pub ymx_core_is_reset_spec : {M : Type 1} → statement M
ymx_core_is_reset_spec 𝓤 𝓛 𝓜 𝓡 wired =
    lends_numbered 𝓛 𝓜 𝓡 the_row _ f.Key.name g.Key.name (λ x i u m. TellsReset i x u × (m ≡ x))
    (code.unfolded 𝓤 𝓛.H 𝓜 𝓡 wired) (met 𝓤 𝓛 𝓜 𝓡 (code.calls-ymx_c::face::is_reset 𝓡.env wired))
