-- `ymx_core_next_of` meets its contract: what lies at the pointer is lent to `face::next_of`.
use Rattle.std.proofs.Common.{◌≡◌}
use Rattle.ymx_c.specs.contracts.handle.Handle.{the_row}
use Rattle.ymx_model.specs.session.Sessions.{belongs_to}
use Rattle.ymx_session.specs.Streams.{next_of}
use Rattle.ymx_c.specs.Answers.{next_number}
use Rattle.ymx_c.proofs.Exports.{lends_numbered}
use Rattle.ymx_c.specs.contracts.ymx_core_next_of as f
use Rattle.ymx_c.proofs.ymx_core_next_of.Statement.{statement}
use Rattle.ymx_c.proofs.ymx_core_next_of.Code as code
use Rattle.ymx_c.specs.contracts.face.next_of as g
use Rattle.ymx_c.proofs.face.next_of.Met.{met}

pub ymx_core_next_of_spec : {M : Type 1} → statement M
ymx_core_next_of_spec 𝓤 𝓛 𝓜 𝓡 wired =
    lends_numbered 𝓛 𝓜 𝓡 the_row _ f.Key.name g.Key.name (λ x i u m. (u ≡ next_number (belongs_to x.session.outgoing.of i) (next_of i x.session)) × (m ≡ x))
    (code.unfolded 𝓤 𝓛.H 𝓜 𝓡 wired) (met 𝓤 𝓛 𝓜 𝓡 (code.calls-ymx_c::face::next_of 𝓡.env wired))
