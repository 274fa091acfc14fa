-- What a session was made with (stream identifiers).
use Rattle.ymx_model.specs.declared.types.Role.{Role}
use Rattle.ymx_model.specs.declared.types.Config.{Config}
use Rattle.ymx_session.specs.NewSessions.{first_id}

-- a config whose first own id is said: 0 stood for the least
abbrev pub with_first : Role → Config → Config
with_first role config = record { window = config.window; first = first_id role config.first }
