-- What a script prints, by how it ends (this project's own).
use Rattle.std.specs.Prelude.{◌≡◌, ◌⊎◌, ℕ, List, [], ◌++◌, Option, None, Some, ⊤}
use Rattle.std.specs.Io.{StartsWith}
use Rattle.ymx_script.specs.declared.lines.Lines.{Lines}
use Rattle.ymx_script.specs.declared.lines.ScriptEnd.{ScriptEnd}
use Rattle.ymx_script.specs.declared.lines.ScriptEnd.TheVariants.{Good, Line, Reading, Writing, Memory}
use Rattle.ymx_script.specs.Printing.{error_line}
use Rattle.ymx_script.specs.Reading.{IsReading}
use Rattle.ymx_script.specs.Scripts.{PrintsWhole, PrintsMistake, PrintsFirstLines}

-- The first lines of a text, or all of it, or those before a bad line with the line of the mistake, print this.
abbrev pub PrintsSome : (text : List ℕ) → (ended : Type 0) → (output : List ℕ) → Type 0
PrintsSome text ended output = PrintsFirstLines text output ⊎ ((ended × PrintsWhole text output) ⊎ ((number : ℕ) × PrintsMistake text number output ended))

-- a beginning of that
abbrev pub PrintsBeginning : (text : List ℕ) → (ended : Type 0) → (output : List ℕ) → Type 0
PrintsBeginning text ended output = (full : List ℕ) × PrintsSome text ended full × StartsWith full output

-- What is printed of the text that was read, by how the script ended. `ended` says that the text is all of the input.
abbrev pub PrintsByEnd : (text : List ℕ) → (ended : Type 0) → ScriptEnd → (output : List ℕ) → Type 0
PrintsByEnd text ended Good output = ended × PrintsWhole text output
PrintsByEnd text ended (Line number) output = PrintsMistake text number output ended
PrintsByEnd text ended Reading output = PrintsBeginning text ended output
PrintsByEnd text ended Writing output = PrintsBeginning text ended output
PrintsByEnd text ended (Memory _) output = PrintsBeginning text ended output

-- What a piece of the text leaves: the script goes on, or has ended. No bytes are its end.
abbrev pub Leaves : (text piece done : List ℕ) → Lines → Option ScriptEnd → Type 0
Leaves text piece done l None = IsReading (text ++ piece) done l
Leaves text piece done l (Some e) = PrintsByEnd (text ++ piece) (piece ≡ []) e (done ++ l.player.text.items)

-- the line of a mistake is told, or there was no memory for it
abbrev pub Tells : Lines → Lines → ScriptEnd → Type 0
Tells old new (Line number) = (number ≡ old.number) × (new.player.text.items ≡ old.player.text.items ++ error_line number)
Tells old new (Memory _) = new.player.text.items ≡ old.player.text.items
Tells old new Good = ⊥
Tells old new Reading = ⊥
Tells old new Writing = ⊥

-- an end that blames no device
abbrev pub BlamesNoDevice : ScriptEnd → Type 0
BlamesNoDevice Good = ⊤
BlamesNoDevice (Line number) = ⊤
BlamesNoDevice Reading = ⊥
BlamesNoDevice Writing = ⊥
BlamesNoDevice (Memory _) = ⊤
