-- `ymx_core_offered_count` meets its contract: what lies at the pointer is lent to `face::offered_count`.
use Rattle.std.proofs.Common.{◌≡◌}
use Rattle.ymx_c.specs.contracts.handle.Handle.{the_row}
use Rattle.ymx_c.specs.Readiness.{CountsOffered}
use Rattle.ymx_c.proofs.Exports.{lends_alone}
use Rattle.ymx_c.specs.contracts.ymx_core_offered_count as f
use Rattle.ymx_c.proofs.ymx_core_offered_count.Statement.{statement}
use Rattle.ymx_c.proofs.ymx_core_offered_count.Code as code
use Rattle.ymx_c.specs.contracts.face.offered_count as g
use Rattle.ymx_c.proofs.face.offered_count.Met.{met}

pub ymx_core_offered_count_spec : {M : Type 1} → statement M
ymx_core_offered_count_spec 𝓤 𝓛 𝓜 𝓡 wired =
    lends_alone 𝓛 𝓜 𝓡 the_row _ f.Key.name g.Key.name (λ x u m. CountsOffered x.session u × (m ≡ x))
    (code.unfolded 𝓤 𝓛.H 𝓜 𝓡 wired) (met 𝓤 𝓛 𝓜 𝓡 (code.calls-ymx_c::face::offered_count 𝓡.env wired))
