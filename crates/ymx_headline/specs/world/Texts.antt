-- The frames under way between two sessions (framing).
use Rattle.std.specs.Prelude.{◌≡◌, ℕ, List, ◌++◌, Bool, true, not, ◌&&◌}
use Rattle.ymx_model.specs.session.Sessions.{Session, is_running, is_closed}
use Rattle.ymx_model.specs.world.Worlds.{World, Pipe, pushed}
use Rattle.ymx_model.specs.world.UnderWay.{IsUnderWay}
use Rattle.ymx_law_session.specs.Limits.{IsWithin}

-- A direction carries what its sender emits: it was not stopped, its receiver runs, and its sender was not closed.
abbrev pub is_open : (receiver : Session) → Pipe → (sender : Session) → Bool
is_open receiver pipe sender = not pipe.stopped && is_running receiver.status && not (is_closed sender.status)

-- in a direction that carries, frames are under way, each of them whole
abbrev pub HasFrames : (receiver : Session) → Pipe → (sender : Session) → Type 0
HasFrames receiver pipe sender = is_open receiver pipe sender ≡ true → (frames : List (List ℕ)) × IsUnderWay receiver pipe sender frames

-- so it is in both directions of a world
pub record AreFrames (w : World) : Type 0 where
  pub ab : HasFrames w.b w.ab w.a
  pub ba : HasFrames w.a w.ba w.b

-- both sessions keep their limits
pub record AreWithin (w : World) : Type 0 where
  pub a : IsWithin w.a
  pub b : IsWithin w.b

-- The sender has emitted these bytes: after the frames that were under way some more may have begun.
pub record IsLater (receiver : Session) (pipe : Pipe) (sender : Session) (out : List ℕ) (frames : List (List ℕ)) : Type 0 where
  pub more : List (List ℕ)
  pub under : IsUnderWay receiver (pushed out pipe) sender (frames ++ more)

-- The receiver has taken bytes: of the frames that were under way the first have come, but for what lacks of the last of them.
pub record IsDelivered (receiver : Session) (pipe : Pipe) (sender : Session) (frames : List (List ℕ)) : Type 0 where
  pub gone : List (List ℕ)
  pub left : List (List ℕ)
  pub sum : frames ≡ gone ++ left
  pub under : IsUnderWay receiver pipe sender left
