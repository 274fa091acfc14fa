-- `ymx_core_passing` meets its contract: what lies at the pointer is lent to `face::passing`.
use Rattle.std.proofs.Common.{◌≡◌}
use denote.Builtin.{u32}
use Rattle.ymx_c.specs.contracts.handle.Handle.{the_row}
use Rattle.ymx_c.specs.Handles.{TellsPassing}
use Rattle.ymx_c.proofs.Exports.{lends_filled}
use Rattle.ymx_c.specs.contracts.ymx_core_passing as f
use Rattle.ymx_c.proofs.ymx_core_passing.Statement.{statement}
use Rattle.ymx_c.proofs.ymx_core_passing.Code as code
use Rattle.ymx_c.specs.contracts.face.passing as g
use Rattle.ymx_c.proofs.face.passing.Met.{met}

pub ymx_core_passing_spec : {M : Type 1} → statement M
ymx_core_passing_spec 𝓤 𝓛 𝓜 𝓡 wired =
    lends_filled 𝓛 𝓜 𝓡 u32 _ the_row _ f.Key.name g.Key.name (λ x old new u m. TellsPassing x u old new × (m ≡ x))
    (code.unfolded 𝓤 𝓛.H 𝓜 𝓡 wired) (met 𝓤 𝓛 𝓜 𝓡 (code.calls-ymx_c::face::passing 𝓡.env wired))
