-- `ymx_core_ping` meets its contract: what lies at the pointer is lent to `face::ping`.
use Rattle.ymx_c.specs.contracts.handle.Handle.{the_row}
use Rattle.ymx_c.specs.Handles.{AnswersIn}
use Rattle.ymx_c.proofs.Exports.{lends_alone}
use Rattle.ymx_model.specs.declared.types.Event.TheVariants as event
use Rattle.ymx_machine.specs.declared.types.Call.TheVariants as call
use Rattle.ymx_c.specs.contracts.ymx_core_ping as f
use Rattle.ymx_c.proofs.ymx_core_ping.Statement.{statement}
use Rattle.ymx_c.proofs.ymx_core_ping.Code as code
use Rattle.ymx_c.specs.contracts.face.ping as g
use Rattle.ymx_c.proofs.face.ping.Met.{met}

pub ymx_core_ping_spec : {M : Type 1} → statement M
ymx_core_ping_spec 𝓤 𝓛 𝓜 𝓡 wired =
    lends_alone 𝓛 𝓜 𝓡 the_row _ f.Key.name g.Key.name (λ x u m. AnswersIn x (event.Call call.Ping) u m)
    (code.unfolded 𝓤 𝓛.H 𝓜 𝓡 wired) (met 𝓤 𝓛 𝓜 𝓡 (code.calls-ymx_c::face::ping 𝓡.env wired))
