-- What is passed on keeps what holds of every session.
use Rattle.std.proofs.Common.{◌≡◌, ℕ, List, length, take, Bool, true, false, ◌||◌, ◌⊎◌, inl, inr, Option, refl}
use Rattle.std.specs.Prelude.{IsSome, is_some}
use Rattle.ymx_machine.specs.declared.types.Call.TheVariants as call
use Rattle.ymx_machine.specs.declared.types.Fed.{Fed}
use Rattle.ymx_machine.specs.declared.types.Reply.TheVariants as reply
use Rattle.ymx_model.specs.declared.types.Event.TheVariants as event
use Rattle.ymx_model.specs.session.Sessions.{Session}
use Rattle.ymx_session.specs.Passing.{all_fed, Passes, FeedsSome}
use Rattle.ymx_session.specs.Sound.{IsSound}
use Rattle.ymx_session.specs.declared.passing.Passing.{Passing}
use Rattle.ymx_session.proofs.Sounds.{gives-sound}

pub passes-sound : (id : ℕ) (bytes : List ℕ) (s t : Session) → Passes id bytes s t → IsSound s → IsSound t
passes-sound id bytes s t p h =
    gives-sound p.mid t (event.Call (call.Read id (length bytes))) (reply.Read bytes) p.read (gives-sound s p.mid (event.Feed bytes) (reply.Fed (all_fed bytes)) p.fed h)

pub front-sound : (s : Session) (input : List ℕ) (fed : Fed) (t : Session) → FeedsSome s input fed t → IsSound s → IsSound t
front-sound s input fed t f h = gives-sound s t (event.Feed (take f.count input)) (reply.Fed fed) f.feeds h

-- it stops for one reason or the other
pub either : (b : Bool) (o : Option Passing) → (b || is_some o) ≡ true → (b ≡ true) ⊎ IsSome o
either true o e = inl refl
either false o e = inr e
