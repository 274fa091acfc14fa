-- What is shown of a session (this project's own).
use Rattle.std.specs.Prelude.{List, Bool, true, false, Option, Some, None}
use Rattle.ymx_model.specs.declared.types.Role.{Role}
use Rattle.ymx_model.specs.declared.types.Config.{Config}
use Rattle.ymx_model.specs.declared.types.Entry.{Entry}
use Rattle.ymx_model.specs.session.Sessions.{Session}
use Rattle.ymx_seats.specs.Transcripts.{IsHistory}

-- What was seen is the history of this session, of this role and config, and is known where the recorder witnesses.
abbrev pub IsHistoryOf : (witnessed : Bool) → Role → Config → Option (List Entry) → Session → Type 0
IsHistoryOf true role config None s = ⊥
IsHistoryOf true role config (Some es) s = IsHistory role config es s
IsHistoryOf false role config None s = Unit {0}
IsHistoryOf false role config (Some es) s = ⊥
