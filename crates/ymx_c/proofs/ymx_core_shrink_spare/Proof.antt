-- `ymx_core_shrink_spare` meets its contract: what lies at the pointer is lent to `face::shrink_spare`.
use Rattle.std.proofs.Common.{◌≡◌}
use Rattle.ymx_c.specs.contracts.handle.Handle.{the_row}
use Rattle.ymx_c.specs.Handles.{SaysGiven}
use Rattle.ymx_c.proofs.Exports.{lends_alone}
use Rattle.ymx_c.specs.contracts.ymx_core_shrink_spare as f
use Rattle.ymx_c.proofs.ymx_core_shrink_spare.Statement.{statement}
use Rattle.ymx_c.proofs.ymx_core_shrink_spare.Code as code
use Rattle.ymx_c.specs.contracts.face.shrink_spare as g
use Rattle.ymx_c.proofs.face.shrink_spare.Met.{met}

pub ymx_core_shrink_spare_spec : {M : Type 1} → statement M
ymx_core_shrink_spare_spec 𝓤 𝓛 𝓜 𝓡 wired =
    lends_alone 𝓛 𝓜 𝓡 the_row _ f.Key.name g.Key.name (λ x u m. SaysGiven u × (m ≡ x))
    (code.unfolded 𝓤 𝓛.H 𝓜 𝓡 wired) (met 𝓤 𝓛 𝓜 𝓡 (code.calls-ymx_c::face::shrink_spare 𝓡.env wired))
