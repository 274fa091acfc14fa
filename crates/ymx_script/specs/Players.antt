-- What a player keeps of a script (this project's own).
use Rattle.std.specs.Prelude.{Bool, true, false}
use Rattle.ymx_script.specs.declared.command.Command.{Command}
use Rattle.ymx_script.specs.declared.command.Command.TheVariants.{Nothing, First, Window, Do, Skip, Quiet, Due, Show}
use Rattle.ymx_script.specs.declared.player.Player.{Player}
use Rattle.ymx_script.specs.Scripts.{Position}

-- the place of a player
abbrev pub position_of : Player → Position
position_of s = record { a = s.settings.a; b = s.settings.b; world = s.world }

-- a command that asks something of the world
abbrev pub asks_world : Command → Bool
asks_world Nothing = false
asks_world (First side n) = false
asks_world (Window side n) = false
asks_world (Do step) = true
asks_world (Skip step) = true
asks_world Quiet = true
asks_world (Due side) = true
asks_world (Show direction) = true
