-- What a stream and the device that is joined to it move (this project's own).
use Rattle.std.specs.Prelude.{ℕ, ◌≡◌, ◌||◌, ◌∷◌, List, [], Bool, true, false, option_map, IfSome}
use Rattle.std.specs.List.{list_all}
use Rattle.std.specs.Io.KnownBytes.{Appends, Consumes}
use Rattle.ymx_model.specs.session.Events.{Event}
use Rattle.ymx_machine.specs.shared.Events.{Reply}
use Rattle.ymx_model.specs.session.Sessions.{Session}
use Rattle.ymx_engine.specs.Devices.{Seen}
use Rattle.ymx_engine.specs.Events.{Happen, is_on, taken, given, has_end, has_finish, has_reset, has_stop}

abbrev pub has_bytes : List ℕ → Bool
has_bytes [] = false
has_bytes (b ∷ bs) = true

-- Between s and t nothing happened but these events of one stream. What the stream took is what its device gave, in order.
-- What its device took is what the stream gave. The stream was finished exactly if the device said that no more come, and
-- this was all then. The device was ended exactly if the stream's end was read. The stream was reset exactly if the device
-- failed. The device was shut exactly if the stream was reset, or refused a read or a write.
pub record Exchange (id : ℕ) (s t : Session) (old new : Seen) : Type 0 where
  pub events : List (Event × Reply)
  pub happen : Happen events s t
  pub own : list_all (λ e. is_on id e.0) events ≡ true
  pub to_peer : Consumes old.left new.left (taken id events)
  pub from_peer : Appends old.had new.had (given id events)
  pub whole : has_finish id events ≡ true → IfSome old.left (λ all. all ≡ taken id events)
  pub over : new.over ≡ option_map (λ b. b || has_finish id events) old.over
  pub ended : new.ended ≡ option_map (λ b. b || has_end id events) old.ended
  pub fails : Bool
  pub failed : new.failed ≡ option_map (λ b. b || fails) old.failed
  pub reset : has_reset id events ≡ fails
  pub shut : new.shut ≡ option_map (λ b. b || has_stop id events) old.shut
