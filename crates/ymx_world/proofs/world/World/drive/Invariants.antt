use Rattle.ymx_headline.specs.Laws.{IsOpenWorld}
use Rattle.ymx_headline.proofs.bounds.Potential.{potential_of}
use Rattle.ymx_world.specs.Driven.{IsCarriedOn}
use Rattle.ymx_world.proofs.world.World.drive.Given as goal

abbrev pub invariant-loop-step : goal.invariant-loop-step
invariant-loop-step l = record { open_still : IsOpenWorld l.self; carried : IsCarriedOn l.no_memory l.initial.self l.self }

abbrev pub decreases-loop-step : goal.decreases-loop-step
decreases-loop-step l = potential_of l.self
