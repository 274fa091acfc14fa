-- `ymx_core_feed_end` meets its contract: what lies at the pointer is lent to `face::feed_end`.
use Rattle.ymx_c.specs.contracts.handle.Handle.{the_row}
use Rattle.ymx_c.specs.Handles.{AnswersThenPurges}
use Rattle.ymx_c.proofs.Exports.{lends_alone}
use Rattle.ymx_model.specs.declared.types.Event.TheVariants as event
use Rattle.ymx_c.specs.contracts.ymx_core_feed_end as f
use Rattle.ymx_c.proofs.ymx_core_feed_end.Statement.{statement}
use Rattle.ymx_c.proofs.ymx_core_feed_end.Code as code
use Rattle.ymx_c.specs.contracts.face.feed_end as g
use Rattle.ymx_c.proofs.face.feed_end.Met.{met}

pub ymx_core_feed_end_spec : {M : Type 1} → statement M
ymx_core_feed_end_spec 𝓤 𝓛 𝓜 𝓡 wired =
    lends_alone 𝓛 𝓜 𝓡 the_row _ f.Key.name g.Key.name (λ x u m. AnswersThenPurges x event.FeedEnd u m)
    (code.unfolded 𝓤 𝓛.H 𝓜 𝓡 wired) (met 𝓤 𝓛 𝓜 𝓡 (code.calls-ymx_c::face::feed_end 𝓡.env wired))
