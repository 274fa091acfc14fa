-- `ymx_core_unread` meets its contract: what lies at the pointer is lent to `face::unread`.
use Rattle.std.proofs.Common.{◌≡◌}
use denote.RawPtr.{RawPtr}
use Rattle.ymx_c.specs.contracts.handle.Handle.{the_row}
use Rattle.ymx_c.specs.Handles.{ShowsOf}
use Rattle.ymx_c.specs.Readiness.{IsPlaced}
use Rattle.ymx_c.proofs.Exports.{lends_numbered_filled}
use Rattle.ymx_c.specs.contracts.ymx_core_unread as f
use Rattle.ymx_c.proofs.ymx_core_unread.Statement.{statement}
use Rattle.ymx_c.proofs.ymx_core_unread.Code as code
use Rattle.ymx_c.specs.contracts.face.unread as g
use Rattle.ymx_c.proofs.face.unread.Met.{met}

pub ymx_core_unread_spec : {M : Type 1} → statement M
ymx_core_unread_spec 𝓤 𝓛 𝓜 𝓡 wired =
    lends_numbered_filled 𝓛 𝓜 𝓡 RawPtr _ the_row _ f.Key.name g.Key.name (λ x i old new u m. ShowsOf i x u × IsPlaced old new × (m ≡ x))
    (code.unfolded 𝓤 𝓛.H 𝓜 𝓡 wired) (met 𝓤 𝓛 𝓜 𝓡 (code.calls-ymx_c::face::unread 𝓡.env wired))
