-- `ymx_core_due` meets its contract: what lies at the pointer is lent to `face::due`.
use Rattle.std.proofs.Common.{◌≡◌}
use Rattle.ymx_c.specs.contracts.handle.Handle.{the_row}
use Rattle.ymx_model.specs.session.Emissions.{is_ready}
use Rattle.ymx_c.specs.Answers.{flag}
use Rattle.ymx_c.proofs.Exports.{lends_alone}
use Rattle.ymx_c.specs.contracts.ymx_core_due as f
use Rattle.ymx_c.proofs.ymx_core_due.Statement.{statement}
use Rattle.ymx_c.proofs.ymx_core_due.Code as code
use Rattle.ymx_c.specs.contracts.face.due as g
use Rattle.ymx_c.proofs.face.due.Met.{met}

pub ymx_core_due_spec : {M : Type 1} → statement M
ymx_core_due_spec 𝓤 𝓛 𝓜 𝓡 wired =
    lends_alone 𝓛 𝓜 𝓡 the_row _ f.Key.name g.Key.name (λ x u m. (u ≡ flag (is_ready x.session)) × (m ≡ x))
    (code.unfolded 𝓤 𝓛.H 𝓜 𝓡 wired) (met 𝓤 𝓛 𝓜 𝓡 (code.calls-ymx_c::face::due 𝓡.env wired))
