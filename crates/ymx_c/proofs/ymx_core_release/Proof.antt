-- `ymx_core_release` meets its contract: what lies at the pointer is lent to `face::release`.
use Rattle.ymx_c.specs.contracts.handle.Handle.{the_row}
use Rattle.ymx_c.specs.Handles.{ReleasesOne}
use Rattle.ymx_c.proofs.Exports.{lends_numbered}
use Rattle.ymx_c.specs.contracts.ymx_core_release as f
use Rattle.ymx_c.proofs.ymx_core_release.Statement.{statement}
use Rattle.ymx_c.proofs.ymx_core_release.Code as code
use Rattle.ymx_c.specs.contracts.face.release as g
use Rattle.ymx_c.proofs.face.release.Met.{met}

pub ymx_core_release_spec : {M : Type 1} → statement M
ymx_core_release_spec 𝓤 𝓛 𝓜 𝓡 wired =
    lends_numbered 𝓛 𝓜 𝓡 the_row _ f.Key.name g.Key.name (λ x i u m. ReleasesOne i x u m)
    (code.unfolded 𝓤 𝓛.H 𝓜 𝓡 wired) (met 𝓤 𝓛 𝓜 𝓡 (code.calls-ymx_c::face::release 𝓡.env wired))
