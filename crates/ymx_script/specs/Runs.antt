-- The run of a world that a script is (this project's own).
use Rattle.std.specs.Prelude.{List, [], ◌∷◌, ℕ, Option, None, Some}
use Rattle.std.specs.List.{flat_map}
use Rattle.ymx_machine.specs.declared.types.Step.{Step}
use Rattle.ymx_model.specs.world.Worlds.{World}
use Rattle.ymx_script.specs.declared.command.Command.{Command}
use Rattle.ymx_script.specs.declared.command.Command.TheVariants.{Nothing, First, Window, Do, Skip, Quiet, Due, Show}
use Rattle.ymx_script.specs.Language.{command}
use Rattle.ymx_script.specs.Scripts.{Position, world_or_new}

-- the step that a line says, if it says one
abbrev pub steps_of : Option Command → List Step
steps_of None = []
steps_of (Some Nothing) = []
steps_of (Some (First side n)) = []
steps_of (Some (Window side n)) = []
steps_of (Some (Do step)) = step ∷ []
steps_of (Some (Skip step)) = step ∷ []
steps_of (Some Quiet) = []
steps_of (Some (Due side)) = []
steps_of (Some (Show direction)) = []

-- the steps that some lines say, one after another
abbrev pub steps_said : List (List ℕ) → List Step
steps_said lines = flat_map (λ bytes. steps_of (command bytes)) lines

-- the new world of the settings at a place
abbrev pub world_of_settings : Position → World
world_of_settings p = world_or_new p.a p.b None
