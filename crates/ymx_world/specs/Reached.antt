-- Worlds that can be: made of two configs, and reached by steps (this project's own).
use Rattle.std.specs.Prelude.{ℕ, List}
use Rattle.ymx_machine.specs.declared.types.Step.{Step}
use Rattle.ymx_machine.specs.declared.types.Answer.{Answer}
use Rattle.ymx_model.specs.session.Emissions.{in_turn}
use Rattle.ymx_model.specs.world.Worlds.{World, Runs, new_world}
use Rattle.ymx_headline.specs.Laws.{AreGood}

-- a new world of good windows and first ids, and some steps, lead to this one
pub record IsReached (w : World) : Type 0 where
  pub window_a : ℕ
  pub first_a : ℕ
  pub window_b : ℕ
  pub first_b : ℕ
  pub good : AreGood window_a first_a window_b first_b
  pub steps : List Step
  pub answers : List Answer
  pub runs : Runs in_turn steps answers (new_world window_a first_a window_b first_b) w
