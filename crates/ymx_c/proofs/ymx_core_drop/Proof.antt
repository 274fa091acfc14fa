-- `ymx_core_drop` meets its contract: the session is moved out of what lies at the pointer, and `face::end` drops it.
use Rattle.std.proofs.Common.{◌∷◌, [], refl}
use Rattle.ymx_c.specs.contracts.handle.Handle.{the_row}
use Rattle.ymx_c.proofs.handle.Handle.TheLaws.{the_row_laws}
use Rattle.ymx_c.proofs.Exports.{ends}
use Rattle.ymx_c.specs.contracts.ymx_core_drop as f
use Rattle.ymx_c.proofs.ymx_core_drop.Statement.{statement}
use Rattle.ymx_c.proofs.ymx_core_drop.Code as code
use Rattle.ymx_c.specs.contracts.face.end as g
use Rattle.ymx_c.proofs.face.end.Met.{met}

pub ymx_core_drop_spec : {M : Type 1} → statement M
ymx_core_drop_spec 𝓤 𝓛 𝓜 𝓡 wired =
    ends 𝓛 𝓜 𝓡 the_row _ f.Key.name g.Key.name refl (λ x v is. ((the_row_laws.lawful 𝓛).typed x (v ∷ []) is).0)
    (code.unfolded 𝓤 𝓛.H 𝓜 𝓡 wired) (met 𝓤 𝓛 𝓜 𝓡 (code.calls-ymx_c::face::end 𝓡.env wired))
