-- `ymx_core_is_acknowledged` meets its contract: what lies at the pointer is lent to `face::is_acknowledged`.
use Rattle.std.proofs.Common.{◌≡◌}
use Rattle.ymx_c.specs.contracts.handle.Handle.{the_row}
use Rattle.ymx_session.specs.Streams.{is_acknowledged}
use Rattle.ymx_c.specs.Answers.{flag}
use Rattle.ymx_c.specs.Handles.{told}
use Rattle.ymx_c.proofs.Exports.{lends_numbered}
use Rattle.ymx_c.specs.contracts.ymx_core_is_acknowledged as f
use Rattle.ymx_c.proofs.ymx_core_is_acknowledged.Statement.{statement}
use Rattle.ymx_c.proofs.ymx_core_is_acknowledged.Code as code
use Rattle.ymx_c.specs.contracts.face.is_acknowledged as g
use Rattle.ymx_c.proofs.face.is_acknowledged.Met.{met}

pub ymx_core_is_acknowledged_spec : {M : Type 1} → statement M
ymx_core_is_acknowledged_spec 𝓤 𝓛 𝓜 𝓡 wired =
    lends_numbered 𝓛 𝓜 𝓡 the_row _ f.Key.name g.Key.name (λ x i u m. (u ≡ told i x (flag (is_acknowledged i x.session))) × (m ≡ x))
    (code.unfolded 𝓤 𝓛.H 𝓜 𝓡 wired) (met 𝓤 𝓛 𝓜 𝓡 (code.calls-ymx_c::face::is_acknowledged 𝓡.env wired))
