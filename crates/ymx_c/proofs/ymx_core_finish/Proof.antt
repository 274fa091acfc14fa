-- `ymx_core_finish` meets its contract: what lies at the pointer is lent to `face::finish`.
use Rattle.ymx_c.specs.contracts.handle.Handle.{the_row}
use Rattle.ymx_c.specs.Handles.{AnswersOf}
use Rattle.ymx_c.proofs.Exports.{lends_numbered}
use Rattle.ymx_model.specs.declared.types.Event.TheVariants as event
use Rattle.ymx_machine.specs.declared.types.Call.TheVariants as call
use Rattle.ymx_c.specs.contracts.ymx_core_finish as f
use Rattle.ymx_c.proofs.ymx_core_finish.Statement.{statement}
use Rattle.ymx_c.proofs.ymx_core_finish.Code as code
use Rattle.ymx_c.specs.contracts.face.finish as g
use Rattle.ymx_c.proofs.face.finish.Met.{met}

pub ymx_core_finish_spec : {M : Type 1} → statement M
ymx_core_finish_spec 𝓤 𝓛 𝓜 𝓡 wired =
    lends_numbered 𝓛 𝓜 𝓡 the_row _ f.Key.name g.Key.name (λ x i u m. AnswersOf i x (event.Call (call.Finish i)) u m)
    (code.unfolded 𝓤 𝓛.H 𝓜 𝓡 wired) (met 𝓤 𝓛 𝓜 𝓡 (code.calls-ymx_c::face::finish 𝓡.env wired))
