-- A script that is read, played and written, piece by piece (this project's own).
use Rattle.std.specs.Prelude.{◌≡◌, ◌⊎◌, ℕ, List, Option, IsTrue}
use Rattle.std.specs.Io.KnownBytes.{Appends, Consumes, IsAtEnd}
use Rattle.ymx_model.specs.devices.Devices.{has_failed}
use Rattle.ymx_script.specs.declared.lines.Lines.{Lines}
use Rattle.ymx_script.specs.declared.lines.ScriptEnd.{ScriptEnd}
use Rattle.ymx_script.specs.declared.lines.ScriptEnd.TheVariants.{Reading, Writing}
use Rattle.ymx_script.specs.Outputs.{PrintsByEnd}
use Rattle.ymx_script.specs.Reading.{IsReading}

-- So far this text was read and what it prints was written, and no device failed.
pub record RoundsHavePlayed (was is had has : Option (List ℕ)) (read reads written writes : ℕ) (l : Lines) : Type 0 where
  pub text : List ℕ
  pub done : List ℕ
  pub consumes : Consumes was is text
  pub appends : Appends had has done
  pub reading : IsReading text done l
  pub reader : reads ≡ read
  pub writer : writes ≡ written

-- What was read and written when the script ended, and which device failed.
pub record HasEnded (was is had has : Option (List ℕ)) (read reads written writes : ℕ) (end : ScriptEnd) : Type 0 where
  pub printed : (text : List ℕ) × (output : List ℕ) × Consumes was is text × Appends had has output × PrintsByEnd text (IsAtEnd is) end output
  pub reading : end ≡ Reading → IsTrue (has_failed read reads)
  pub writing : end ≡ Writing → IsTrue (has_failed written writes)
  pub reader_kept : (end ≡ Reading) ⊎ (reads ≡ read)
  pub writer_kept : (end ≡ Writing) ⊎ (writes ≡ written)
