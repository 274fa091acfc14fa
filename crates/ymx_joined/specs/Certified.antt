-- When two transcripts are one run (this project's own).
use Rattle.std.specs.Prelude.{List}
use Rattle.ymx_machine.specs.declared.types.Step.{Step}
use Rattle.ymx_model.specs.session.Sessions.{Session}
use Rattle.ymx_model.specs.session.Emissions.{in_turn}
use Rattle.ymx_headline.specs.audit.Told.{IsOneRun}
use Rattle.ymx_seats.specs.Transcripts.{TranscriptView, IsHistory}

-- The transcripts are the histories of these two sessions, and both histories are one run with these steps: of the new
-- world of the two sessions, and of the queue machine.
pub record AreCertified (client server : TranscriptView) (steps : List Step) : Type 0 where
  pub client_session : Session
  pub server_session : Session
  pub client_history : IsHistory client.role client.config client.entries client_session
  pub server_history : IsHistory server.role server.config server.entries server_session
  pub one : IsOneRun in_turn client.entries server.entries steps
      client.config.window client.config.first server.config.window server.config.first client_session server_session
