-- What is kept of a script whose text comes in pieces (this project's own).
use Rattle.std.specs.Prelude.{◌≡◌, ℕ, List, ◌++◌}
use Rattle.ymx_script.specs.declared.lines.Lines.{Lines}
use Rattle.ymx_script.specs.Players.{position_of}
use Rattle.ymx_script.specs.Scripts.{Position, HasPlayed, IsBad, Plays, PrintsFirstLines, first_position, with_feeds, line_number}

-- Of this text the lines that have ended were played. What they print is `done` and what is kept to be written.
pub record IsReading (text done : List ℕ) (l : Lines) : Type 0 where
  pub before : List (List ℕ)
  pub played : HasPlayed text before l.part.items (position_of l.player) (done ++ l.player.text.items)
  pub numbered : l.number ≡ line_number before

-- After the lines that were played stands a bad one.
pub record IsAtMistake (text done : List ℕ) (ended : Type 0) (l : Lines) : Type 0 where
  pub before : List (List ℕ)
  pub bytes : List ℕ
  pub after : List ℕ
  pub p : Position
  pub whole : text ≡ with_feeds before ++ (bytes ++ after)
  pub plays : Plays before first_position (done ++ l.player.text.items) p
  pub bad : IsBad bytes after p ended
  pub numbered : l.number ≡ line_number before

-- what is printed is that of the first lines of the text
abbrev pub IsFront : (text done : List ℕ) → Lines → Type 0
IsFront text done l = PrintsFirstLines text (done ++ l.player.text.items)
