-- `ymx_core_is_peer_away` meets its contract: what lies at the pointer is lent to `face::is_peer_away`.
use Rattle.std.proofs.Common.{◌≡◌}
use Rattle.ymx_c.specs.contracts.handle.Handle.{the_row}
use Rattle.ymx_c.specs.Answers.{flag}
use Rattle.ymx_c.proofs.Exports.{lends_alone}
use Rattle.ymx_c.specs.contracts.ymx_core_is_peer_away as f
use Rattle.ymx_c.proofs.ymx_core_is_peer_away.Statement.{statement}
use Rattle.ymx_c.proofs.ymx_core_is_peer_away.Code as code
use Rattle.ymx_c.specs.contracts.face.is_peer_away as g
use Rattle.ymx_c.proofs.face.is_peer_away.Met.{met}

pub ymx_core_is_peer_away_spec : {M : Type 1} → statement M
ymx_core_is_peer_away_spec 𝓤 𝓛 𝓜 𝓡 wired =
    lends_alone 𝓛 𝓜 𝓡 the_row _ f.Key.name g.Key.name (λ x u m. (u ≡ flag x.session.away.there) × (m ≡ x))
    (code.unfolded 𝓤 𝓛.H 𝓜 𝓡 wired) (met 𝓤 𝓛 𝓜 𝓡 (code.calls-ymx_c::face::is_peer_away 𝓡.env wired))
