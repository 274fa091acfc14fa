-- What holds of every session (this project's own).
use Rattle.ymx_model.specs.session.Sessions.{Session}
use Rattle.ymx_law_session.specs.Limits.{IsWithin}
use Rattle.ymx_law_session.specs.Reaped.{IsReaped}

-- it is within all its limits, and a record that was given up goes as soon as nothing of it is left to send
pub record IsSound (s : Session) : Type 0 where
  pub within : IsWithin s
  pub reaped : IsReaped s
