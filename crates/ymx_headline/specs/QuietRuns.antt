-- A run of the world that tells after each step whether the world is quiet (this project's own).
use Rattle.std.specs.Prelude.{◌≡◌, List, [], ◌∷◌, Bool}
use Rattle.ymx_machine.specs.declared.types.Step.{Step}
use Rattle.ymx_machine.specs.declared.types.Answer.{Answer}
use Rattle.ymx_model.specs.session.Sessions.{Session}
use Rattle.ymx_model.specs.session.Emissions.{Choice}
use Rattle.ymx_model.specs.world.Worlds.{World, Steps, is_quiet}

-- A run over these steps with these answers; the third list has, for each step, whether the world was quiet after it.
abbrev pub QuietRuns : (may : Choice → Session → Bool) → List Step → List Answer → List Bool → World → World → Type 0
QuietRuns may [] [] [] w v = v ≡ w
QuietRuns may (st ∷ sts) (given ∷ more) (quiet ∷ rest) w v =
    (mid : World) × Steps may st given w mid × (quiet ≡ is_quiet mid) × QuietRuns may sts more rest mid v
QuietRuns may _ _ _ w v = ⊥
