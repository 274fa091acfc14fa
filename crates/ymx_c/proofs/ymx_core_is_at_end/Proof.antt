-- `ymx_core_is_at_end` meets its contract: what lies at the pointer is lent to `face::is_at_end`.
use Rattle.std.proofs.Common.{◌≡◌}
use Rattle.ymx_c.specs.contracts.handle.Handle.{the_row}
use Rattle.ymx_c.specs.Handles.{TellsEnd}
use Rattle.ymx_c.proofs.Exports.{lends_numbered}
use Rattle.ymx_c.specs.contracts.ymx_core_is_at_end as f
use Rattle.ymx_c.proofs.ymx_core_is_at_end.Statement.{statement}
use Rattle.ymx_c.proofs.ymx_core_is_at_end.Code as code
use Rattle.ymx_c.specs.contracts.face.is_at_end as g
use Rattle.ymx_c.proofs.face.is_at_end.Met.{met}

pub ymx_core_is_at_end_spec : {M : Type 1} → statement M
ymx_core_is_at_end_spec 𝓤 𝓛 𝓜 𝓡 wired =
    lends_numbered 𝓛 𝓜 𝓡 the_row _ f.Key.name g.Key.name (λ x i u m. TellsEnd i x u × (m ≡ x))
    (code.unfolded 𝓤 𝓛.H 𝓜 𝓡 wired) (met 𝓤 𝓛 𝓜 𝓡 (code.calls-ymx_c::face::is_at_end 𝓡.env wired))
