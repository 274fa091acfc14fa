-- `ymx_core_feed_to_payload` meets its contract: what lies at the two pointers is lent to `face::feed_to_payload`.
use Rattle.ymx_c.specs.contracts.handle.Handle.{the_row}
use Rattle.ymx_session.specs.contracts.touched.Touched.{the_row as touched_row}
use Rattle.ymx_c.specs.Handles.{ToPayloadThenPurges}
use Rattle.ymx_c.proofs.Exports.{lends_both}
use Rattle.ymx_c.specs.contracts.ymx_core_feed_to_payload as f
use Rattle.ymx_c.proofs.ymx_core_feed_to_payload.Statement.{statement}
use Rattle.ymx_c.proofs.ymx_core_feed_to_payload.Code as code
use Rattle.ymx_c.specs.contracts.face.feed_to_payload as g
use Rattle.ymx_c.proofs.face.feed_to_payload.Met.{met}

pub ymx_core_feed_to_payload_spec : {M : Type 1} → statement M
ymx_core_feed_to_payload_spec 𝓤 𝓛 𝓜 𝓡 wired =
    lends_both 𝓛 𝓜 𝓡 the_row touched_row _ _ f.Key.name g.Key.name (λ x noted s u m now. ToPayloadThenPurges x noted s u m now)
    (code.unfolded 𝓤 𝓛.H 𝓜 𝓡 wired) (met 𝓤 𝓛 𝓜 𝓡 (code.calls-ymx_c::face::feed_to_payload 𝓡.env wired))
