-- What the program does, and its exit status (this project's own).
use Rattle.std.specs.Prelude.{◌≡◌, ◌≤◌, ◌↔◌, ℕ, List, Bool, Option, Some, None, IsTrue, ◌⊎◌}
use Rattle.std.specs.Io.KnownBytes.{Appends, Consumes, IsAtEnd, Keeps}
use Rattle.ymx_model.specs.devices.Devices.{has_failed}
use Rattle.ymx_arguments.specs.CommandLine.{SaysMistake}
use Rattle.ymx_arguments.specs.declared.reading.CommandFault.{CommandFault}
use Rattle.ymx_arguments.specs.declared.reading.Task.{Task}
use Rattle.ymx_arguments.specs.declared.reading.Task.TheVariants as task
use Rattle.ymx_frames.specs.Outputs.{Prints}
use Rattle.ymx_frames.specs.declared.print.FramesEnd.{FramesEnd}
use Rattle.ymx_frames.specs.declared.print.FramesEnd.TheVariants as frames
use Rattle.ymx_script.specs.Outputs.{PrintsByEnd}
use Rattle.ymx_script.specs.declared.lines.ScriptEnd.{ScriptEnd}
use Rattle.ymx_script.specs.declared.lines.ScriptEnd.TheVariants as script

-- What a call did to a device: the bytes that it had to give, or had taken, and how often it had failed, before and after.
pub record Change : Type 0 where
  pub before : Option (List ℕ)
  pub after : Option (List ℕ)
  pub failures_before : ℕ
  pub failures_after : ℕ

-- the change of a device, by what is known of its bytes and of its failures
abbrev pub change_of : {D : Type 0} → (D → Option (List ℕ)) → (D → ℕ) → D → D → Change
change_of bytes failures old new = record {
  before = bytes old;
  after = bytes new;
  failures_before = failures old;
  failures_after = failures new;
}

-- the device failed
abbrev pub fails : Change → Bool
fails c = has_failed c.failures_before c.failures_after

-- the device gave and took nothing
abbrev pub IsUntouched : Change → Type 0
IsUntouched c = Keeps c.before c.after

-- the device took exactly this text
abbrev pub TakesText : Change → List ℕ → Type 0
TakesText c text = Appends c.before c.after text

-- Frames are printed with this limit, in bytes of payload: the status is 0 at their good end, where no fault is logged, and else 1. A
-- device is blamed only if it failed, and memory only with what shows that it was refused.
abbrev pub PrintsFrames : (limit status : ℕ) → (input output errors : Change) → Type 0
PrintsFrames limit status input output errors =
    (end : FramesEnd) × (text : List ℕ) × (lines : List ℕ) × Consumes input.before input.after text × TakesText output lines
    × Prints limit text (IsAtEnd input.after) end lines × (end ≡ frames.Reading → IsTrue (fails input)) × (end ≡ frames.Writing → IsTrue (fails output))
    × (status ≤ 1) × ((status ≡ 0) ↔ (end ≡ frames.Good)) × (status ≡ 0 → IsUntouched errors)

-- A script is played, and its answers are printed, likewise.
abbrev pub PlaysScript : (status : ℕ) → (input output errors : Change) → Type 0
PlaysScript status input output errors =
    (end : ScriptEnd) × (text : List ℕ) × (lines : List ℕ) × Consumes input.before input.after text × TakesText output lines
    × PrintsByEnd text (IsAtEnd input.after) end lines × (end ≡ script.Reading → IsTrue (fails input)) × (end ≡ script.Writing → IsTrue (fails output))
    × (status ≤ 1) × ((status ≡ 0) ↔ (end ≡ script.Good)) × (status ≡ 0 → IsUntouched errors)

-- The file that holds these bytes is read, and this comes of its change; or it can't be opened, and the status is 1.
abbrev pub ReadsFile : (status : ℕ) → (held : Option (List ℕ)) → (output : Change) → (Change → Type 0) → Type 0
ReadsFile status held output comes =
    ((status ≡ 1) × IsUntouched output) ⊎ ((input : Change) × Keeps held input.before × (input.failures_before ≡ 0) × comes input)

-- The frames of the file that holds these bytes are printed with this limit, or it can't be opened.
abbrev pub PrintsFile : (limit status : ℕ) → (held : Option (List ℕ)) → (output errors : Change) → Type 0
PrintsFile limit status held output errors = ReadsFile status held output (λ input. PrintsFrames limit status input output errors)

-- The script in the file that holds these bytes is played, or it can't be opened.
abbrev pub PlaysFile : (status : ℕ) → (held : Option (List ℕ)) → (output errors : Change) → Type 0
PlaysFile status held output errors = ReadsFile status held output (λ input. PlaysScript status input output errors)

-- The task is done: only frames and a script of the reader read it, and an endpoint of a tunnel writes nothing to the writer.
abbrev pub Does : (held : List ℕ → Option (List ℕ)) → Task → (status : ℕ) → (input output errors : Change) → Type 0
Does held (task.Frames limit None) status input output errors = PrintsFrames limit status input output errors
Does held (task.Frames limit (Some name)) status input output errors = IsUntouched input × PrintsFile limit status (held name.now) output errors
Does held (task.Script None) status input output errors = PlaysScript status input output errors
Does held (task.Script (Some name)) status input output errors = IsUntouched input × PlaysFile status (held name.now) output errors
Does held (task.Tunnel plan) status input output errors = IsUntouched input × IsUntouched output
Does held task.Selftest status input output errors = IsUntouched input

-- The fault of words is explained: a mistake with status 2, and nothing is written to the writer; the help or the version with status 0,
-- and no fault is logged; or, with status 1, there was no memory for it, or the writer failed.
abbrev pub Refuses : CommandFault → (status : ℕ) → (output errors : Change) → Type 0
Refuses fault status output errors =
    (status ≤ 2) × (SaysMistake fault → IsUntouched output) × (status ≡ 2 → SaysMistake fault) × (status ≡ 0 → (SaysMistake fault → ⊥) × IsUntouched errors)
