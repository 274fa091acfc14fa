-- `ymx_core_status` meets its contract: what lies at the pointer is lent to `face::status`.
use Rattle.std.proofs.Common.{◌≡◌}
use Rattle.ymx_c.specs.contracts.handle.Handle.{the_row}
use Rattle.ymx_c.specs.Answers.{status_number}
use Rattle.ymx_c.proofs.Exports.{lends_alone}
use Rattle.ymx_c.specs.contracts.ymx_core_status as f
use Rattle.ymx_c.proofs.ymx_core_status.Statement.{statement}
use Rattle.ymx_c.proofs.ymx_core_status.Code as code
use Rattle.ymx_c.specs.contracts.face.status as g
use Rattle.ymx_c.proofs.face.status.Met.{met}

pub ymx_core_status_spec : {M : Type 1} → statement M
ymx_core_status_spec 𝓤 𝓛 𝓜 𝓡 wired =
    lends_alone 𝓛 𝓜 𝓡 the_row _ f.Key.name g.Key.name (λ x u m. (u ≡ status_number x.session.status) × (m ≡ x))
    (code.unfolded 𝓤 𝓛.H 𝓜 𝓡 wired) (met 𝓤 𝓛 𝓜 𝓡 (code.calls-ymx_c::face::status 𝓡.env wired))
