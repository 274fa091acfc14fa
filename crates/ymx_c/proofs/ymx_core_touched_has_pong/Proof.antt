-- `ymx_core_touched_has_pong` meets its contract: what lies at the pointer is lent to `face::touched_has_pong`.
use Rattle.std.proofs.Common.{◌≡◌}
use Rattle.ymx_session.specs.contracts.touched.Touched.{the_row}
use Rattle.ymx_c.specs.Answers.{flag}
use Rattle.ymx_c.proofs.Exports.{lends_alone}
use Rattle.ymx_c.specs.contracts.ymx_core_touched_has_pong as f
use Rattle.ymx_c.proofs.ymx_core_touched_has_pong.Statement.{statement}
use Rattle.ymx_c.proofs.ymx_core_touched_has_pong.Code as code
use Rattle.ymx_c.specs.contracts.face.touched_has_pong as g
use Rattle.ymx_c.proofs.face.touched_has_pong.Met.{met}

pub ymx_core_touched_has_pong_spec : {M : Type 1} → statement M
ymx_core_touched_has_pong_spec 𝓤 𝓛 𝓜 𝓡 wired =
    lends_alone 𝓛 𝓜 𝓡 the_row _ f.Key.name g.Key.name (λ x u m. (u ≡ flag x.ponged) × (m ≡ x))
    (code.unfolded 𝓤 𝓛.H 𝓜 𝓡 wired) (met 𝓤 𝓛 𝓜 𝓡 (code.calls-ymx_c::face::touched_has_pong 𝓡.env wired))
