-- `ymx_core_consume` meets its contract: what lies at the pointer is lent to `face::consume`.
use Rattle.ymx_c.specs.contracts.handle.Handle.{the_row}
use Rattle.ymx_c.specs.Handles.{ConsumesOf}
use Rattle.ymx_c.proofs.Exports.{lends_twice_numbered}
use Rattle.ymx_c.specs.contracts.ymx_core_consume as f
use Rattle.ymx_c.proofs.ymx_core_consume.Statement.{statement}
use Rattle.ymx_c.proofs.ymx_core_consume.Code as code
use Rattle.ymx_c.specs.contracts.face.consume as g
use Rattle.ymx_c.proofs.face.consume.Met.{met}

pub ymx_core_consume_spec : {M : Type 1} → statement M
ymx_core_consume_spec 𝓤 𝓛 𝓜 𝓡 wired =
    lends_twice_numbered 𝓛 𝓜 𝓡 the_row _ f.Key.name g.Key.name (λ x i j u m. ConsumesOf i j x u m)
    (code.unfolded 𝓤 𝓛.H 𝓜 𝓡 wired) (met 𝓤 𝓛 𝓜 𝓡 (code.calls-ymx_c::face::consume 𝓡.env wired))
