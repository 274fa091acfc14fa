-- `ymx_core_opens_left` meets its contract: what lies at the pointer is lent to `face::opens_left`.
use Rattle.std.proofs.Common.{◌≡◌}
use Rattle.std.specs.Prelude.{pos}
use Rattle.ymx_c.specs.contracts.handle.Handle.{the_row}
use Rattle.ymx_session.specs.Opens.{opens_left}
use Rattle.ymx_c.proofs.Exports.{lends_alone}
use Rattle.ymx_c.specs.contracts.ymx_core_opens_left as f
use Rattle.ymx_c.proofs.ymx_core_opens_left.Statement.{statement}
use Rattle.ymx_c.proofs.ymx_core_opens_left.Code as code
use Rattle.ymx_c.specs.contracts.face.opens_left as g
use Rattle.ymx_c.proofs.face.opens_left.Met.{met}

pub ymx_core_opens_left_spec : {M : Type 1} → statement M
ymx_core_opens_left_spec 𝓤 𝓛 𝓜 𝓡 wired =
    lends_alone 𝓛 𝓜 𝓡 the_row _ f.Key.name g.Key.name (λ x u m. (u ≡ pos (opens_left x.session)) × (m ≡ x))
    (code.unfolded 𝓤 𝓛.H 𝓜 𝓡 wired) (met 𝓤 𝓛 𝓜 𝓡 (code.calls-ymx_c::face::opens_left 𝓡.env wired))
