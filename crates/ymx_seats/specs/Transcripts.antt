-- Transcripts, and when one is the history of a session (this project's own).
use Rattle.std.specs.Prelude.{◌≡◌, ◌<◌, ◌≤◌, ◌^◌, ℕ, List, true}
use Rattle.ymx_model.specs.declared.types.Role.{Role}
use Rattle.ymx_model.specs.declared.types.Config.{Config}
use Rattle.ymx_model.specs.declared.types.Entry.{Entry}
use Rattle.ymx_machine.specs.shared.Limits.{first_credit, widest_window}
use Rattle.ymx_model.specs.session.Sessions.{Session, new_session, is_own}
use Rattle.ymx_model.specs.session.Emissions.{in_turn}
use Rattle.ymx_model.specs.session.Histories.{Replays}

-- the session has done nothing
pub record IsNew (s : Session) : Type 0 where
  pub role : Role
  pub window : ℕ
  pub first : ℕ
  pub made : s ≡ new_session role window first

-- A session of this role can be made with this config: its window may be chosen, and its first id is an own one.
pub record IsGood (role : Role) (config : Config) : Type 0 where
  pub narrowest : first_credit ≤ config.window
  pub widest : config.window ≤ widest_window
  pub own : is_own role config.first ≡ true
  pub some : 0 < config.first
  pub fits : config.first < 2 ^ 32

-- From the session of this role and config that has done nothing each entry's event gives its reply, at the
-- positions 0, 1, 2, .., and the last state is this one.
abbrev pub IsHistory : Role → Config → List Entry → Session → Type 0
IsHistory role config entries s = Replays in_turn entries (new_session role config.window config.first) s

-- a transcript: which side its session was, with which config it was made, and the entries
pub record TranscriptView : Type 0 where
  pub role : Role
  pub config : Config
  pub entries : List Entry

-- the entries are the history of a session of this role and config
pub record IsReplayable (t : TranscriptView) : Type 0 where
  pub good : IsGood t.role t.config
  pub session : Session
  pub history : IsHistory t.role t.config t.entries session
