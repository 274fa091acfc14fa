-- What happens where a connection gets no stream, or its stream is given up (this project's own).
use Rattle.std.specs.Prelude.{ℕ, ◌≡◌, ◌⊎◌, None}
use Rattle.ymx_model.specs.declared.types.Event.TheVariants as event
use Rattle.ymx_machine.specs.shared.Evidence.{evidence}
use Rattle.ymx_machine.specs.declared.types.Call.TheVariants as call
use Rattle.ymx_machine.specs.declared.types.CallFault.{CallFault}
use Rattle.ymx_machine.specs.declared.types.CallFault.TheVariants.{OutOfMemory}
use Rattle.ymx_machine.specs.shared.Events.{Reply}
use Rattle.ymx_machine.specs.declared.types.Reply.TheVariants as reply
use Rattle.ymx_model.specs.session.Sessions.{Session}
use Rattle.ymx_model.specs.session.Emissions.{in_turn}
use Rattle.ymx_model.specs.session.Histories.{Gives}

-- the stream was reset and then forgotten, and nothing else happened; the session may have refused either
pub record GivesUp (id : ℕ) (s t : Session) : Type 0 where
  pub told_reset : Reply
  pub between : Session
  pub reset : Gives in_turn s (event.Call (call.Reset id)) told_reset between
  pub told_forget : Reply
  pub forgotten : Gives in_turn between (event.Call (call.Forget id)) told_forget t

-- the stream was forgotten, and nothing else happened; the session may have refused this
pub record IsForgotten (id : ℕ) (s t : Session) : Type 0 where
  pub told : Reply
  pub forgotten : Gives in_turn s (event.Call (call.Forget id)) told t

-- No stream was opened, and the session is as it was: it refused for this fault; or the fault is lack of memory to keep
-- the connection.
abbrev pub OpensNone : CallFault → Session → Session → Type 0
OpensNone fault s t = (t ≡ s) × (Gives in_turn s (event.Call call.Open) (reply.Refused fault) t ⊎ (fault ≡ OutOfMemory evidence))

-- the session had no stream to offer, or refused, and is as it was
abbrev pub OffersNone : Session → Session → Type 0
OffersNone s t =
    (t ≡ s)
    × (Gives in_turn s (event.Call call.Accept) (reply.Accepted None) t
    ⊎ ((fault : CallFault) × Gives in_turn s (event.Call call.Accept) (reply.Refused fault) t))
