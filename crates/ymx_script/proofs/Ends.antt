-- How a script ends.
use Rattle.std.proofs.Common.{◌≡◌, ℕ, List, [], ◌∷◌, ◌++◌, ◌==◌, length, true, refl, sym, ap, subst, ◌∙◌, append_assoc, arith, inl}
use Rattle.std.proofs.lemmas.Grind.{common_steps}
use Rattle.std.specs.Io.{StartsWith}
use Rattle.ymx_script.specs.declared.lines.Lines.{Lines}
use Rattle.ymx_script.specs.declared.lines.ScriptEnd.{ScriptEnd}
use Rattle.ymx_script.specs.declared.lines.ScriptEnd.TheVariants.{Good, Line, Reading, Writing, Memory}
use Rattle.ymx_script.specs.Printing.{error_line}
use Rattle.ymx_script.specs.Scripts.{Position, IsBad, PrintsFirstLines}
use Rattle.ymx_script.specs.Scripts.IsBad.{TooLong, Mistaken, LastMistaken}
use Rattle.ymx_script.specs.Reading.{IsAtMistake}
use Rattle.ymx_script.specs.Outputs.{PrintsByEnd, PrintsBeginning, Tells}

pub starts_itself : (text : List ℕ) → StartsWith text text
starts_itself text = grind (arith, common_steps)

pub bad_if : (bytes after : List ℕ) (p : Position) (ended other : Type 0) → (ended → other) → IsBad bytes after p ended → IsBad bytes after p other
bad_if bytes after p ended other f (TooLong one long) = TooLong one long
bad_if bytes after p ended other f (Mistaken one mistake rest ends) = Mistaken one mistake rest ends
bad_if bytes after p ended other f (LastMistaken end one mistake last) = LastMistaken (f end) one mistake last

pub mistake_if : (text done : List ℕ) (ended other : Type 0) (l : Lines) → (ended → other) → IsAtMistake text done ended l → IsAtMistake text done other l
mistake_if text done ended other l f h = record { before = h.before; bytes = h.bytes; after = h.after; p = h.p; whole = h.whole; plays = h.plays; bad = bad_if h.bytes h.after h.p ended other f h.bad; numbered = h.numbered }

-- what is printed of the first lines is a part of it
pub front_part : (text output : List ℕ) (ended : Type 0) → PrintsFirstLines text output → PrintsBeginning text ended output
front_part text output ended h = (output, inl h, starts_itself output)

-- the line of a mistake is told
pub tells : (text done : List ℕ) (ended : Type 0) (mid new : Lines) (e : ScriptEnd) → Tells mid new e → IsAtMistake text done ended mid →
    PrintsByEnd text ended e (done ++ new.player.text.items)
tells text done ended mid new (Line number) t h = record {
  before = h.before;
  bytes = h.bytes;
  after = h.after;
  p = h.p;
  printed = done ++ mid.player.text.items;
  whole = h.whole;
  plays = h.plays;
  bad = h.bad;
  numbered = t.0 ∙ h.numbered;
  told = ap (λ (zs : List ℕ). done ++ zs) t.1 ∙ sym (append_assoc done mid.player.text.items (error_line number));
}
tells text done ended mid new (Memory _) t h =
    let front : PrintsFirstLines text (done ++ mid.player.text.items) = record { before = h.before; after = h.bytes ++ h.after; p = h.p; whole = h.whole; plays = h.plays } in
    subst (λ (zs : List ℕ). PrintsBeginning text ended (done ++ zs)) (sym t) (front_part text (done ++ mid.player.text.items) ended front)
tells text done ended mid new Good t h = absurd t
tells text done ended mid new Reading t h = absurd t
tells text done ended mid new Writing t h = absurd t

pub none_of : (zs : List ℕ) → (length zs == 0) ≡ true → zs ≡ []
none_of [] h = refl
none_of (z ∷ zs) h = absurd (grind arith)

pub nothing_more : (text piece : List ℕ) → piece ≡ [] → text ≡ text ++ piece
nothing_more text piece none = grind (arith, common_steps)
