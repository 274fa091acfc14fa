-- Feeds that follow each other (framing).
use Rattle.std.specs.Prelude.{◌≡◌, ◌+◌, ℕ, List, length, min}
use Rattle.ymx_machine.specs.shared.Limits.{greatest_number}
use Rattle.ymx_machine.specs.declared.types.Fed.{Fed}
use Rattle.ymx_model.specs.session.Sessions.{Session}
use Rattle.ymx_model.specs.session.Feeds.{Feeds}

-- what two feeds answer as one: the counts add up, as far as they go, and the second says why it stopped
abbrev pub joined_fed : Fed → Fed → Fed
joined_fed f g = record { taken = f.taken + g.taken; no_memory = min (f.no_memory + g.no_memory) greatest_number; why = g.why }

-- A feed of a ++ b that took all of a is a feed of a that took all, and then a feed of b.
pub record FedInTwo (a b : List ℕ) (s u : Session) (fed : Fed) : Type 0 where
  pub mid : Session
  pub first : Fed
  pub second : Fed
  pub all : first.taken ≡ length a
  pub one : Feeds s a first mid
  pub two : Feeds mid b second u
  pub sum : fed ≡ joined_fed first second
