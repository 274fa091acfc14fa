-- `ymx_core_feed_touching` meets its contract: what lies at the two pointers is lent to `face::feed_touching`.
use Rattle.ymx_c.specs.contracts.handle.Handle.{the_row}
use Rattle.ymx_session.specs.contracts.touched.Touched.{the_row as touched_row}
use Rattle.ymx_c.specs.Handles.{TouchesThenPurges}
use Rattle.ymx_c.proofs.Exports.{lends_both}
use Rattle.ymx_c.specs.contracts.ymx_core_feed_touching as f
use Rattle.ymx_c.proofs.ymx_core_feed_touching.Statement.{statement}
use Rattle.ymx_c.proofs.ymx_core_feed_touching.Code as code
use Rattle.ymx_c.specs.contracts.face.feed_touching as g
use Rattle.ymx_c.proofs.face.feed_touching.Met.{met}

pub ymx_core_feed_touching_spec : {M : Type 1} → statement M
ymx_core_feed_touching_spec 𝓤 𝓛 𝓜 𝓡 wired =
    lends_both 𝓛 𝓜 𝓡 the_row touched_row _ _ f.Key.name g.Key.name (λ x noted s u m now. TouchesThenPurges x noted s u m now)
    (code.unfolded 𝓤 𝓛.H 𝓜 𝓡 wired) (met 𝓤 𝓛 𝓜 𝓡 (code.calls-ymx_c::face::feed_touching 𝓡.env wired))
