-- What is printed of an input, and how the printing ends (this project's own; frames and faults are those of yamux, framing).
use Rattle.std.specs.Prelude.{◌≡◌, ℕ, ◌<◌, List, [], ◌++◌, length, All, ◌⊎◌, ⊤}
use Rattle.std.specs.Io.{StartsWith}
use Rattle.ymx_header.specs.declared.fault.Fault.{Fault}
use Rattle.ymx_header.specs.Frames.{Frame}
use Rattle.ymx_cutter.specs.Frames.{joined, IsGoodFrame}
use Rattle.ymx_cutter.specs.Cuts.{Cuts, FaultStands}
use Rattle.ymx_frames.specs.declared.print.FramesEnd.{FramesEnd}
use Rattle.ymx_frames.specs.declared.print.FramesEnd.TheVariants.{Good, Fault as Faulty, Rest, Reading, Writing, Memory}
use Rattle.ymx_frames.specs.Lines.{lines, fault_line, rest_line}

-- The text is whole frames, and their lines are printed.
abbrev pub PrintsAll : ℕ → List ℕ → List ℕ → Type 0
PrintsAll limit text output = (frames : List Frame) × Cuts limit text frames [] × (output ≡ lines frames)

-- The text is frames and the beginning of one, in which no fault stands: the lines of the frames and the line of the rest are printed.
abbrev pub PrintsRest : ℕ → List ℕ → List ℕ → Type 0
PrintsRest limit text output =
    (frames : List Frame) × (rest : List ℕ) × Cuts limit text frames rest × (0 < length rest)
    × ((offset : ℕ) (fault : Fault) → FaultStands limit text offset fault → ⊥) × (output ≡ lines frames ++ rest_line (length rest))

-- A fault stands in the text: the lines of the frames before it and its own line are printed.
abbrev pub PrintsFault : ℕ → List ℕ → List ℕ → Type 0
PrintsFault limit text output =
    (offset : ℕ) × (fault : Fault) × (stands : FaultStands limit text offset fault) × (output ≡ lines stands.before ++ fault_line fault offset)

-- Frames stand at the front of the text, and their lines are printed.
pub record PrintsFront (limit : ℕ) (text output : List ℕ) : Type 0 where
  pub frames : List Frame
  pub rest : List ℕ
  pub whole : text ≡ joined frames ++ rest
  pub each : All (IsGoodFrame limit) frames
  pub printed : output ≡ lines frames

-- A beginning of the lines of frames at the front of the text is printed, or of these and of the line of a fault that stands in it.
abbrev pub PrintsPart : ℕ → List ℕ → List ℕ → Type 0
PrintsPart limit text output = (full : List ℕ) × (PrintsFront limit text full ⊎ PrintsFault limit text full) × StartsWith full output

-- What is printed of the text that was read, by how the printing ended. `ended` says that the text is all of the input.
abbrev pub Prints : ℕ → List ℕ → Type 0 → FramesEnd → List ℕ → Type 0
Prints limit text ended Good output = ended × PrintsAll limit text output
Prints limit text ended Rest output = ended × PrintsRest limit text output
Prints limit text ended Faulty output = PrintsFault limit text output
Prints limit text ended Reading output = PrintsPart limit text output
Prints limit text ended (Memory _) output = PrintsPart limit text output
Prints limit text ended Writing output = PrintsPart limit text output ⊎ (ended × ((full : List ℕ) × PrintsRest limit text full × StartsWith full output))

-- an end that blames no device
abbrev pub IsOwnEnd : FramesEnd → Type 0
IsOwnEnd Good = ⊤
IsOwnEnd Rest = ⊤
IsOwnEnd Faulty = ⊤
IsOwnEnd Reading = ⊥
IsOwnEnd Writing = ⊥
IsOwnEnd (Memory _) = ⊤

-- an end at which all was printed that the text says
abbrev pub IsWhole : FramesEnd → Type 0
IsWhole Good = ⊤
IsWhole Rest = ⊤
IsWhole Faulty = ⊤
IsWhole Reading = ⊥
IsWhole Writing = ⊥
IsWhole (Memory _) = ⊥
