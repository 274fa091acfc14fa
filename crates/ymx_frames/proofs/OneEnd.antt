-- What is printed of a text, and how that ends, depends on the text alone.
use Rattle.std.proofs.Common.{◌≡◌, ℕ, ◌<◌, List, [], ◌++◌, length, refl, sym, ◌∙◌, ap, arith}
use Rattle.std.specs.Bool.{⊤}
use Rattle.ymx_header.specs.Headers.{spelling}
use Rattle.ymx_header.specs.declared.header.Header.{Header}
use Rattle.ymx_header.specs.declared.fault.Fault.{Fault}
use Rattle.ymx_cutter.proofs.Only.{one_cut, one_fault, Cuts-fault}
use Rattle.ymx_frames.specs.declared.print.FramesEnd.{FramesEnd}
use Rattle.ymx_frames.specs.declared.print.FramesEnd.TheVariants.{Good, Fault as Faulty, Rest, Reading, Writing, Memory}
use Rattle.ymx_frames.specs.Lines.{lines, fault_line, rest_line}
use Rattle.ymx_frames.specs.Outputs.{Prints, PrintsAll, PrintsRest, PrintsFault, IsWhole}

some_left : (rest : List ℕ) → [] ≡ rest → 0 < length rest → ⊥
some_left rest e some = absurd (omega (arith, ap length e))

no_header : (h : Header) (more : List ℕ) → [] ≡ spelling h ++ more → ⊥
no_header h more e = cc

all_or_rest : (limit : ℕ) (text output printed : List ℕ) → PrintsAll limit text output → PrintsRest limit text printed → ⊥
all_or_rest limit text output printed (fs, c, e) (gs, rest, d, some, never, f) = some_left rest (one_cut limit text fs gs [] rest c d).1 some

all_or_fault : (limit : ℕ) (text output printed : List ℕ) → PrintsAll limit text output → PrintsFault limit text printed → ⊥
all_or_fault limit text output printed (fs, c, e) (offset, fault, s, f) =
    no_header s.header s.more (one_cut limit text fs s.before [] _ c (Cuts-fault limit text offset fault s)).1

same_all : (limit : ℕ) (text output printed : List ℕ) → PrintsAll limit text output → PrintsAll limit text printed → output ≡ printed
same_all limit text output printed (fs, c, e) (gs, d, f) = e ∙ ap lines (one_cut limit text fs gs [] [] c d).0 ∙ sym f

same_rest : (limit : ℕ) (text output printed : List ℕ) → PrintsRest limit text output → PrintsRest limit text printed → output ≡ printed
same_rest limit text output printed (fs, r, c, some, never, e) (gs, s, d, more, no_fault, f) =
    let same = one_cut limit text fs gs r s c d in
    e ∙ ap (λ (l : List ℕ). l ++ rest_line (length r)) (ap lines same.0) ∙ ap (λ (l : List ℕ). lines gs ++ rest_line (length l)) same.1 ∙ sym f

same_fault : (limit : ℕ) (text output printed : List ℕ) → PrintsFault limit text output → PrintsFault limit text printed → output ≡ printed
same_fault limit text output printed (m, x, s, e) (n, y, t, f) =
    let before = (one_cut limit text _ _ _ _ (Cuts-fault limit text m x s) (Cuts-fault limit text n y t)).0 in
    let same = one_fault limit text m n x y s t in
    e ∙ ap (λ (l : List ℕ). l ++ fault_line x m) (ap lines before) ∙ ap (λ (k : ℕ). lines t.before ++ fault_line x k) same.0
    ∙ ap (λ (z : Fault). lines t.before ++ fault_line z n) same.1 ∙ sym f

-- ends at which all was printed
pub one_end : (limit : ℕ) (text : List ℕ) (end other : FramesEnd) (output printed : List ℕ) → IsWhole end → IsWhole other →
    Prints limit text ⊤ end output → Prints limit text ⊤ other printed → (end ≡ other) × (output ≡ printed)
one_end limit text Good Good output printed o p (a, h) (b, k) = (refl, same_all limit text output printed h k)
one_end limit text Good Rest output printed o p (a, h) (b, k) = absurd (all_or_rest limit text output printed h k)
one_end limit text Good Faulty output printed o p (a, h) k = absurd (all_or_fault limit text output printed h k)
one_end limit text Rest Good output printed o p (a, h) (b, k) = absurd (all_or_rest limit text printed output k h)
one_end limit text Rest Rest output printed o p (a, h) (b, k) = (refl, same_rest limit text output printed h k)
one_end limit text Rest Faulty output printed o p (a, (fs, r, c, some, never, e)) (offset, fault, s, f) = absurd (never offset fault s)
one_end limit text Faulty Good output printed o p h (b, k) = absurd (all_or_fault limit text printed output k h)
one_end limit text Faulty Rest output printed o p (offset, fault, s, f) (b, (fs, r, c, some, never, e)) = absurd (never offset fault s)
one_end limit text Faulty Faulty output printed o p h k = (refl, same_fault limit text output printed h k)
one_end limit text Reading other output printed o p h k = absurd o
one_end limit text Writing other output printed o p h k = absurd o
one_end limit text (Memory m) other output printed o p h k = absurd o
one_end limit text Good Reading output printed o p h k = absurd p
one_end limit text Good Writing output printed o p h k = absurd p
one_end limit text Good (Memory m) output printed o p h k = absurd p
one_end limit text Rest Reading output printed o p h k = absurd p
one_end limit text Rest Writing output printed o p h k = absurd p
one_end limit text Rest (Memory m) output printed o p h k = absurd p
one_end limit text Faulty Reading output printed o p h k = absurd p
one_end limit text Faulty Writing output printed o p h k = absurd p
one_end limit text Faulty (Memory m) output printed o p h k = absurd p
