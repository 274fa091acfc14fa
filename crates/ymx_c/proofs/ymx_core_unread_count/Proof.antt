-- `ymx_core_unread_count` meets its contract: what lies at the pointer is lent to `face::unread_count`.
use Rattle.std.proofs.Common.{◌≡◌, length}
use Rattle.ymx_c.specs.contracts.handle.Handle.{the_row}
use Rattle.ymx_session.specs.Streams.{waiting}
use Rattle.ymx_c.specs.Handles.{told, at_most}
use Rattle.ymx_c.proofs.Exports.{lends_numbered}
use Rattle.ymx_c.specs.contracts.ymx_core_unread_count as f
use Rattle.ymx_c.proofs.ymx_core_unread_count.Statement.{statement}
use Rattle.ymx_c.proofs.ymx_core_unread_count.Code as code
use Rattle.ymx_c.specs.contracts.face.unread_count as g
use Rattle.ymx_c.proofs.face.unread_count.Met.{met}

pub ymx_core_unread_count_spec : {M : Type 1} → statement M
ymx_core_unread_count_spec 𝓤 𝓛 𝓜 𝓡 wired =
    lends_numbered 𝓛 𝓜 𝓡 the_row _ f.Key.name g.Key.name (λ x i u m. (u ≡ told i x (at_most (length (waiting i x.session)))) × (m ≡ x))
    (code.unfolded 𝓤 𝓛.H 𝓜 𝓡 wired) (met 𝓤 𝓛 𝓜 𝓡 (code.calls-ymx_c::face::unread_count 𝓡.env wired))
