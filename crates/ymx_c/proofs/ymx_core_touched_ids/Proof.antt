-- `ymx_core_touched_ids` meets its contract: what lies at the pointer is lent to `face::touched_ids`.
use Rattle.std.proofs.Common.{◌≡◌}
use denote.Builtin.{u32}
use Rattle.ymx_session.specs.contracts.touched.Touched.{the_row}
use Rattle.ymx_c.specs.Readiness.{ListsIds}
use Rattle.ymx_c.proofs.Exports.{lends_filled}
use Rattle.ymx_c.specs.contracts.ymx_core_touched_ids as f
use Rattle.ymx_c.proofs.ymx_core_touched_ids.Statement.{statement}
use Rattle.ymx_c.proofs.ymx_core_touched_ids.Code as code
use Rattle.ymx_c.specs.contracts.face.touched_ids as g
use Rattle.ymx_c.proofs.face.touched_ids.Met.{met}

pub ymx_core_touched_ids_spec : {M : Type 1} → statement M
ymx_core_touched_ids_spec 𝓤 𝓛 𝓜 𝓡 wired =
    lends_filled 𝓛 𝓜 𝓡 u32 _ the_row _ f.Key.name g.Key.name (λ x old new u m. ListsIds x u old new × (m ≡ x))
    (code.unfolded 𝓤 𝓛.H 𝓜 𝓡 wired) (met 𝓤 𝓛 𝓜 𝓡 (code.calls-ymx_c::face::touched_ids 𝓡.env wired))
