-- `ymx_core_close` meets its contract: what lies at the pointer is lent to `face::close`.
use Rattle.ymx_c.specs.contracts.handle.Handle.{the_row}
use Rattle.ymx_c.specs.Handles.{AnswersIn}
use Rattle.ymx_c.proofs.Exports.{lends_alone}
use Rattle.ymx_model.specs.declared.types.Event.TheVariants as event
use Rattle.ymx_machine.specs.declared.types.Call.TheVariants as call
use Rattle.ymx_c.specs.contracts.ymx_core_close as f
use Rattle.ymx_c.proofs.ymx_core_close.Statement.{statement}
use Rattle.ymx_c.proofs.ymx_core_close.Code as code
use Rattle.ymx_c.specs.contracts.face.close as g
use Rattle.ymx_c.proofs.face.close.Met.{met}

pub ymx_core_close_spec : {M : Type 1} → statement M
ymx_core_close_spec 𝓤 𝓛 𝓜 𝓡 wired =
    lends_alone 𝓛 𝓜 𝓡 the_row _ f.Key.name g.Key.name (λ x u m. AnswersIn x (event.Call call.Close) u m)
    (code.unfolded 𝓤 𝓛.H 𝓜 𝓡 wired) (met 𝓤 𝓛 𝓜 𝓡 (code.calls-ymx_c::face::close 𝓡.env wired))
