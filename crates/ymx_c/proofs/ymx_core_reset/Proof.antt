-- `ymx_core_reset` meets its contract: what lies at the pointer is lent to `face::reset`.
use Rattle.ymx_c.specs.contracts.handle.Handle.{the_row}
use Rattle.ymx_c.specs.Handles.{AnswersOf}
use Rattle.ymx_c.proofs.Exports.{lends_numbered}
use Rattle.ymx_model.specs.declared.types.Event.TheVariants as event
use Rattle.ymx_machine.specs.declared.types.Call.TheVariants as call
use Rattle.ymx_c.specs.contracts.ymx_core_reset as f
use Rattle.ymx_c.proofs.ymx_core_reset.Statement.{statement}
use Rattle.ymx_c.proofs.ymx_core_reset.Code as code
use Rattle.ymx_c.specs.contracts.face.reset as g
use Rattle.ymx_c.proofs.face.reset.Met.{met}

pub ymx_core_reset_spec : {M : Type 1} → statement M
ymx_core_reset_spec 𝓤 𝓛 𝓜 𝓡 wired =
    lends_numbered 𝓛 𝓜 𝓡 the_row _ f.Key.name g.Key.name (λ x i u m. AnswersOf i x (event.Call (call.Reset i)) u m)
    (code.unfolded 𝓤 𝓛.H 𝓜 𝓡 wired) (met 𝓤 𝓛 𝓜 𝓡 (code.calls-ymx_c::face::reset 𝓡.env wired))
