-- `ymx_core_open` meets its contract: what lies at the pointer is lent to `face::open`.
use Rattle.ymx_c.specs.contracts.handle.Handle.{the_row}
use Rattle.ymx_c.specs.Handles.{AnswersIn}
use Rattle.ymx_c.proofs.Exports.{lends_alone}
use Rattle.ymx_model.specs.declared.types.Event.TheVariants as event
use Rattle.ymx_machine.specs.declared.types.Call.TheVariants as call
use Rattle.ymx_c.specs.contracts.ymx_core_open as f
use Rattle.ymx_c.proofs.ymx_core_open.Statement.{statement}
use Rattle.ymx_c.proofs.ymx_core_open.Code as code
use Rattle.ymx_c.specs.contracts.face.open as g
use Rattle.ymx_c.proofs.face.open.Met.{met}

pub ymx_core_open_spec : {M : Type 1} → statement M
ymx_core_open_spec 𝓤 𝓛 𝓜 𝓡 wired =
    lends_alone 𝓛 𝓜 𝓡 the_row _ f.Key.name g.Key.name (λ x u m. AnswersIn x (event.Call call.Open) u m)
    (code.unfolded 𝓤 𝓛.H 𝓜 𝓡 wired) (met 𝓤 𝓛 𝓜 𝓡 (code.calls-ymx_c::face::open 𝓡.env wired))
