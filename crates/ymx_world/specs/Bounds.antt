-- What emissions and deliveries alone feed wholly, in a world where nothing sticks (this project's own).
use Rattle.std.specs.Prelude.{◌≤◌, ℕ, ◌*◌, List}
use Rattle.ymx_machine.specs.declared.types.Step.{Step}
use Rattle.ymx_machine.specs.declared.types.Answer.{Answer}
use Rattle.ymx_model.specs.session.Emissions.{in_turn}
use Rattle.ymx_model.specs.world.Worlds.{World}
use Rattle.ymx_model.specs.world.UnderWay.{IsUnderWay}
use Rattle.ymx_machine.specs.shared.Limits.{data_limit}
use Rattle.ymx_model.specs.world.Load.{world_load}
use Rattle.ymx_headline.specs.Laws.{Carries}

-- these frames are under way in the two directions
pub record AreUnderWay (w : World) (frames_ab frames_ba : List (List ℕ)) : Type 0 where
  pub ab : IsUnderWay w.b w.ab w.a frames_ab
  pub ba : IsUnderWay w.a w.ba w.b frames_ba

-- The steps, which led from w to v, feed so many frames wholly; and whatever frames are under way in w, these
-- are at most twice its load.
pub record IsBoundedRun (steps : List Step) (answers : List Answer) (w v : World) : Type 0 where
  pub frames : (frames_ab : List (List ℕ)) × (frames_ba : List (List ℕ)) × AreUnderWay w frames_ab frames_ba
  pub fed : (count : ℕ) × Carries in_turn steps answers w v count
  pub most : (frames_ab frames_ba : List (List ℕ)) (count : ℕ) → AreUnderWay w frames_ab frames_ba → Carries in_turn steps answers w v count →
      count ≤ 2 * world_load data_limit w frames_ab frames_ba
