-- `ymx_core_feed` meets its contract: what lies at the pointer is lent to `face::feed`.
use Rattle.ymx_c.specs.contracts.handle.Handle.{the_row}
use Rattle.ymx_c.specs.Handles.{AnswersThenPurges}
use Rattle.ymx_c.proofs.Exports.{lends_sliced}
use Rattle.ymx_model.specs.declared.types.Event.TheVariants as event
use Rattle.ymx_c.specs.contracts.ymx_core_feed as f
use Rattle.ymx_c.proofs.ymx_core_feed.Statement.{statement}
use Rattle.ymx_c.proofs.ymx_core_feed.Code as code
use Rattle.ymx_c.specs.contracts.face.feed as g
use Rattle.ymx_c.proofs.face.feed.Met.{met}

pub ymx_core_feed_spec : {M : Type 1} → statement M
ymx_core_feed_spec 𝓤 𝓛 𝓜 𝓡 wired =
    lends_sliced 𝓛 𝓜 𝓡 the_row _ f.Key.name g.Key.name (λ x s u m. AnswersThenPurges x (event.Feed s) u m)
    (code.unfolded 𝓤 𝓛.H 𝓜 𝓡 wired) (met 𝓤 𝓛 𝓜 𝓡 (code.calls-ymx_c::face::feed 𝓡.env wired))
