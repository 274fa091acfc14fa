-- What holds of the own pings of a session at all times (ping).
use Rattle.std.specs.Prelude.{◌≡◌, ◌<◌, ◌≤◌, ◌^◌, List, [], ◌∷◌, length, false}
use Rattle.ymx_model.specs.session.Pings.{Ping, Pings, is_pending}
use Rattle.ymx_machine.specs.shared.Limits.{most_pings}

-- no two of these pings have the same number
abbrev pub AreDistinct : List Ping → Type 0
AreDistinct [] = Unit {0}
AreDistinct (p ∷ ps) = (is_pending p.number ps ≡ false) × AreDistinct ps

-- each number fits the field of its frame
abbrev pub AreNumbers : List Ping → Type 0
AreNumbers [] = Unit {0}
AreNumbers (p ∷ ps) = (p.number < 2 ^ 32) × AreNumbers ps

pub record ArePingsSound (p : Pings) : Type 0 where
  pub few : length p.pending ≤ most_pings
  pub next : p.next < 2 ^ 32
  pub distinct : AreDistinct p.pending
  pub numbers : AreNumbers p.pending
