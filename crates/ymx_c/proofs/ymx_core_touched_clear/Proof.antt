-- `ymx_core_touched_clear` meets its contract: what lies at the pointer is lent to `face::touched_clear`.
use Rattle.ymx_session.specs.contracts.touched.Touched.{the_row}
use Rattle.ymx_c.specs.Readiness.{IsCleared}
use Rattle.ymx_c.proofs.Exports.{lends_alone}
use Rattle.ymx_c.specs.contracts.ymx_core_touched_clear as f
use Rattle.ymx_c.proofs.ymx_core_touched_clear.Statement.{statement}
use Rattle.ymx_c.proofs.ymx_core_touched_clear.Code as code
use Rattle.ymx_c.specs.contracts.face.touched_clear as g
use Rattle.ymx_c.proofs.face.touched_clear.Met.{met}

pub ymx_core_touched_clear_spec : {M : Type 1} → statement M
ymx_core_touched_clear_spec 𝓤 𝓛 𝓜 𝓡 wired =
    lends_alone 𝓛 𝓜 𝓡 the_row _ f.Key.name g.Key.name (λ x u m. IsCleared x u m)
    (code.unfolded 𝓤 𝓛.H 𝓜 𝓡 wired) (met 𝓤 𝓛 𝓜 𝓡 (code.calls-ymx_c::face::touched_clear 𝓡.env wired))
