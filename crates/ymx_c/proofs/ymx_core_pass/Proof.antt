-- `ymx_core_pass` meets its contract: what lies at the pointer is lent to `face::pass`.
use Rattle.ymx_c.specs.contracts.handle.Handle.{the_row}
use Rattle.ymx_c.specs.Handles.{PassesSome}
use Rattle.ymx_c.proofs.Exports.{lends_sliced}
use Rattle.ymx_c.specs.contracts.ymx_core_pass as f
use Rattle.ymx_c.proofs.ymx_core_pass.Statement.{statement}
use Rattle.ymx_c.proofs.ymx_core_pass.Code as code
use Rattle.ymx_c.specs.contracts.face.pass as g
use Rattle.ymx_c.proofs.face.pass.Met.{met}

pub ymx_core_pass_spec : {M : Type 1} → statement M
ymx_core_pass_spec 𝓤 𝓛 𝓜 𝓡 wired =
    lends_sliced 𝓛 𝓜 𝓡 the_row _ f.Key.name g.Key.name (λ x s u m. PassesSome x s u m)
    (code.unfolded 𝓤 𝓛.H 𝓜 𝓡 wired) (met 𝓤 𝓛 𝓜 𝓡 (code.calls-ymx_c::face::pass 𝓡.env wired))
