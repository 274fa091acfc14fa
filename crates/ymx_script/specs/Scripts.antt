-- What a script prints, line after line (this project's own).
use Rattle.std.specs.Prelude.{◌≡◌, ℕ, ◌+◌, ◌-◌, ◌^◌, ◌<◌, ◌≤◌, min, List, [], ◌∷◌, ◌++◌, length, take, drop, Bool, true, false, ◌||◌, ◌==◌, if◌then◌else◌, Option, None, Some, is_none, codes}
use Rattle.std.specs.List.{flat_map}
use Rattle.ymx_machine.specs.declared.types.Answer.{Answer}
use Rattle.ymx_model.specs.declared.types.Config.{Config}
use Rattle.ymx_model.specs.declared.types.Role.TheVariants.{Client, Server}
use Rattle.ymx_machine.specs.declared.types.Side.{Side}
use Rattle.ymx_machine.specs.declared.types.Side.TheVariants.{A, B}
use Rattle.ymx_model.specs.session.Emissions.{in_turn, is_ready}
use Rattle.ymx_model.specs.world.Worlds.{World, Steps, new_world, is_quiet}
use Rattle.ymx_session.specs.NewSessions.{first_id, new_fault}
use Rattle.ymx_world.specs.Acts.{session_of, pipe_of}
use Rattle.ymx_script.specs.declared.command.Command.{Command}
use Rattle.ymx_script.specs.declared.command.Command.TheVariants.{Nothing, First, Window, Do, Skip, Quiet, Due, Show}
use Rattle.ymx_script.specs.Language.{command}
use Rattle.ymx_script.specs.Printing.{answer_text, yes_or_no, pipe_text, with_line_feed, error_line}

-- A place in a script: the configs of both sides, and the world, once there is one.
pub record Position : Type 0 where
  pub a : Config
  pub b : Config
  pub world : Option World

abbrev pub first_config : Config
first_config = record { window = 262144; first = 0 }

-- where a script begins
abbrev pub first_position : Position
first_position = record { a = first_config; b = first_config; world = None }

abbrev pub world_or_new : Config → Config → Option World → World
world_or_new a b None = new_world a.window (first_id Client a.first) b.window (first_id Server b.first)
world_or_new a b (Some w) = w

-- the world at a place: the first line that needs it makes it
abbrev pub world_at : Position → World
world_at p = world_or_new p.a p.b p.world

abbrev pub in_world : Position → World → Position
in_world p w = record p { world = Some w }

-- ---- the settings, which come before the world is there

-- the config of a side is this one, if a session can be made with it
abbrev pub with_config : Side → Config → Position → Option Position
with_config A c p = if is_none (new_fault Client c) then Some (record p { a = c }) else None
with_config B c p = if is_none (new_fault Server c) then Some (record p { b = c }) else None

abbrev pub config_of : Side → Position → Config
config_of A p = p.a
config_of B p = p.b

abbrev pub unless_late : Option World → Option Position → Option Position
unless_late None q = q
unless_late (Some w) q = None

abbrev pub with_first : Side → ℕ → Position → Option Position
with_first side n p = unless_late p.world (with_config side (record (config_of side p) { first = n }) p)

abbrev pub with_window : Side → ℕ → Position → Option Position
with_window side n p = unless_late p.world (with_config side (record (config_of side p) { window = n }) p)

-- ---- one line

-- in the world w a command prints this and leads to v
abbrev pub SaysIn : Command → World → List ℕ → World → Type 0
SaysIn (Do step) w text v = (given : Answer) × Steps in_turn step given w v × (text ≡ with_line_feed (answer_text true given))
SaysIn (Skip step) w text v = (given : Answer) × Steps in_turn step given w v × (text ≡ with_line_feed (answer_text false given))
SaysIn Quiet w text v = (text ≡ with_line_feed (codes "quiet " ++ yes_or_no (is_quiet w))) × (v ≡ w)
SaysIn (Due side) w text v = (text ≡ with_line_feed (codes "due " ++ yes_or_no (is_ready (session_of side w)))) × (v ≡ w)
SaysIn (Show direction) w text v = (text ≡ with_line_feed (pipe_text (pipe_of direction w).bytes)) × (v ≡ w)
SaysIn Nothing w text v = ⊥
SaysIn (First side n) w text v = ⊥
SaysIn (Window side n) w text v = ⊥

-- a command of the world at a place
abbrev pub SaysAt : Command → Position → List ℕ → Position → Type 0
SaysAt c p text q = (v : World) × SaysIn c (world_at p) text v × (q ≡ in_world p v)

-- at the place p a command prints this and leads to q
abbrev pub Says : Command → Position → List ℕ → Position → Type 0
Says Nothing p text q = (text ≡ []) × (q ≡ p)
Says (First side n) p text q = (text ≡ []) × (with_first side n p ≡ Some q)
Says (Window side n) p text q = (text ≡ []) × (with_window side n p ≡ Some q)
Says (Do step) p text q = SaysAt (Do step) p text q
Says (Skip step) p text q = SaysAt (Skip step) p text q
Says Quiet p text q = SaysAt Quiet p text q
Says (Due side) p text q = SaysAt (Due side) p text q
Says (Show direction) p text q = SaysAt (Show direction) p text q

-- a setting that comes late, or with which no session can be made
abbrev pub is_bad_setting : Command → Position → Bool
is_bad_setting (First side n) p = is_none (with_first side n p)
is_bad_setting (Window side n) p = is_none (with_window side n p)
is_bad_setting _ p = false

-- a line that is none of the language, or a bad setting
abbrev pub is_mistake : Option Command → Position → Bool
is_mistake None p = true
is_mistake (Some c) p = is_bad_setting c p

-- the longest line, in bytes
abbrev pub longest : ℕ
longest = 65536

-- whether a line feed stands in it
abbrev pub has_feed : List ℕ → Bool
has_feed [] = false
has_feed (b ∷ bs) = b == 10 || has_feed bs

-- a line, which has no line feed in it, prints this and leads from p to q
pub record IsPlayed (bytes : List ℕ) (p : Position) (text : List ℕ) (q : Position) : Type 0 where
  pub one : has_feed bytes ≡ false
  pub short : length bytes ≤ longest
  pub says : Command
  pub meant : command bytes ≡ Some says
  pub printed : Says says p text q

-- ---- a script

-- these lines, one after another, print this and lead from p to q
abbrev pub Plays : List (List ℕ) → Position → List ℕ → Position → Type 0
Plays [] p text q = (text ≡ []) × (q ≡ p)
Plays (bytes ∷ more) p text q =
    (now : List ℕ) × (rest : List ℕ) × (mid : Position) × IsPlayed bytes p now mid × Plays more mid rest q × (text ≡ now ++ rest)

-- lines, each with the line feed at its end
abbrev pub with_feeds : List (List ℕ) → List ℕ
with_feeds lines = flat_map (λ bytes. bytes ++ 10 ∷ []) lines

-- the greatest number of a line that is told
abbrev pub line_number : List (List ℕ) → ℕ
line_number before = min (length before + 1) (2 ^ 64 - 1)

-- the first line of these bytes ends at this place
pub record EndsLine (bytes : List ℕ) (i : ℕ) : Type 0 where
  pub within : i < length bytes
  pub one : has_feed (take i bytes) ≡ false
  pub cut : bytes ≡ take i bytes ++ 10 ∷ drop (i + 1) bytes

-- ---- what is printed of a text

-- What was read so far is these lines and a part of the next, and the lines were played.
pub record HasPlayed (text : List ℕ) (before : List (List ℕ)) (part : List ℕ) (p : Position) (output : List ℕ) : Type 0 where
  pub whole : text ≡ with_feeds before ++ part
  pub one : has_feed part ≡ false
  pub short : length part ≤ longest
  pub plays : Plays before first_position output p

-- what has come of a line
pub record IsTextPart (bytes : List ℕ) : Type 0 where
  pub one : has_feed bytes ≡ false
  pub short : length bytes ≤ longest

-- what is left of a text at its end is its last line, if it isn't empty
abbrev pub last_line : List ℕ → List (List ℕ)
last_line [] = []
last_line (b ∷ bs) = (b ∷ bs) ∷ []

-- the lines of a text, the last of which may lack its line feed, print this
abbrev pub PrintsWhole : List ℕ → List ℕ → Type 0
PrintsWhole text output =
    (before : List (List ℕ)) × (part : List ℕ) × (p : Position) × (text ≡ with_feeds before ++ part) × (has_feed part ≡ false)
    × Plays (before ++ last_line part) first_position output p

-- After these lines stands one that is too long, or one that ends and is a mistake at the place p. `ended`: the text is all of the input.
pub data IsBad (bytes after : List ℕ) (p : Position) (ended : Type 0) : Type 0 where
  TooLong : (one : has_feed bytes ≡ false) (long : longest < length bytes) → IsBad bytes after p ended
  Mistaken : (one : has_feed bytes ≡ false) (mistake : is_mistake (command bytes) p ≡ true) (rest : List ℕ) (ends : after ≡ 10 ∷ rest) → IsBad bytes after p ended
  LastMistaken : (end : ended) (one : has_feed bytes ≡ false) (mistake : is_mistake (command bytes) p ≡ true) (last : after ≡ []) → IsBad bytes after p ended

-- The lines of a text before a bad one print this, with the line of the mistake after it.
pub record PrintsMistake (text : List ℕ) (number : ℕ) (output : List ℕ) (ended : Type 0) : Type 0 where
  pub before : List (List ℕ)
  pub bytes : List ℕ
  pub after : List ℕ
  pub p : Position
  pub printed : List ℕ
  pub whole : text ≡ with_feeds before ++ (bytes ++ after)
  pub plays : Plays before first_position printed p
  pub bad : IsBad bytes after p ended
  pub numbered : number ≡ line_number before
  pub told : output ≡ printed ++ error_line number

-- the first lines of a text print this
pub record PrintsFirstLines (text output : List ℕ) : Type 0 where
  pub before : List (List ℕ)
  pub after : List ℕ
  pub p : Position
  pub whole : text ≡ with_feeds before ++ after
  pub plays : Plays before first_position output p
