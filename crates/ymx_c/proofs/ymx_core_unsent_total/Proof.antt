-- `ymx_core_unsent_total` meets its contract: what lies at the pointer is lent to `face::unsent_total`.
use Rattle.std.proofs.Common.{◌≡◌}
use Rattle.ymx_c.specs.contracts.handle.Handle.{the_row}
use Rattle.ymx_session.specs.Streams.{unsent_total}
use Rattle.ymx_c.specs.Handles.{at_most_total}
use Rattle.ymx_c.proofs.Exports.{lends_alone}
use Rattle.ymx_c.specs.contracts.ymx_core_unsent_total as f
use Rattle.ymx_c.proofs.ymx_core_unsent_total.Statement.{statement}
use Rattle.ymx_c.proofs.ymx_core_unsent_total.Code as code
use Rattle.ymx_c.specs.contracts.face.unsent_total as g
use Rattle.ymx_c.proofs.face.unsent_total.Met.{met}

pub ymx_core_unsent_total_spec : {M : Type 1} → statement M
ymx_core_unsent_total_spec 𝓤 𝓛 𝓜 𝓡 wired =
    lends_alone 𝓛 𝓜 𝓡 the_row _ f.Key.name g.Key.name (λ x u m. (u ≡ at_most_total (unsent_total x.session)) × (m ≡ x))
    (code.unfolded 𝓤 𝓛.H 𝓜 𝓡 wired) (met 𝓤 𝓛 𝓜 𝓡 (code.calls-ymx_c::face::unsent_total 𝓡.env wired))
