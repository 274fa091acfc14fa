-- `ymx_core_touched_drop` meets its contract: the note is moved out of what lies at the pointer, and `face::end_touched` drops it.
use Rattle.std.proofs.Common.{◌∷◌, [], refl}
use Rattle.ymx_session.specs.contracts.touched.Touched.{the_row}
use Rattle.ymx_session.proofs.touched.Touched.TheLaws.{the_row_laws}
use Rattle.ymx_c.proofs.Exports.{ends}
use Rattle.ymx_c.specs.contracts.ymx_core_touched_drop as f
use Rattle.ymx_c.proofs.ymx_core_touched_drop.Statement.{statement}
use Rattle.ymx_c.proofs.ymx_core_touched_drop.Code as code
use Rattle.ymx_c.specs.contracts.face.end_touched as g
use Rattle.ymx_c.proofs.face.end_touched.Met.{met}

pub ymx_core_touched_drop_spec : {M : Type 1} → statement M
ymx_core_touched_drop_spec 𝓤 𝓛 𝓜 𝓡 wired =
    ends 𝓛 𝓜 𝓡 the_row _ f.Key.name g.Key.name refl (λ x v is. ((the_row_laws.lawful 𝓛).typed x (v ∷ []) is).0)
    (code.unfolded 𝓤 𝓛.H 𝓜 𝓡 wired) (met 𝓤 𝓛 𝓜 𝓡 (code.calls-ymx_c::face::end_touched 𝓡.env wired))
