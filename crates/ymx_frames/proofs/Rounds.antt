-- Reading, printing and writing, round by round.
use Rattle.std.proofs.Common.{◌≡◌, ℕ, ◌<◌, ◌≤◌, List, [], ◌∷◌, ◌++◌, length, take, Option, None, Some, Result, Ok, Err, OnOk, OnErr, is_err, Bool, true, false, arith, refl, sym, ◌∙◌, ap, subst, inl, inr}
use Rattle.std.proofs.lemmas.Grind.{common_steps}
use Rattle.std.proofs.lemmas.List.Elements.{All-nil}
use Rattle.std.proofs.lemmas.List.{length-take-le}
use Rattle.std.proofs.Math.Seq.{take-append_seam}
use Rattle.std.specs.Io.{StartsWith}
use Rattle.std.specs.Io.KnownBytes.{Appends, Consumes, Keeps, IsAtEnd}
use Rattle.std.proofs.KnownBytes.{Appends-nil, Appends-trans, Consumes-nil, Consumes-trans, Consumes-kept}
use Rattle.ymx_cutter.specs.Frames.{IsGoodFrame}
use Rattle.ymx_frames.specs.declared.printer.Printer.{Printer}
use Rattle.ymx_frames.specs.declared.print.FramesEnd.{FramesEnd}
use Rattle.ymx_frames.specs.declared.print.FramesEnd.TheVariants.{Good, Fault as Faulty, Rest, Reading, Writing, Memory}
use Rattle.ymx_frames.specs.Lines.{lines}
use Rattle.ymx_frames.specs.Outputs.{Prints, PrintsPart}
use Rattle.ymx_frames.specs.Printing.{IsPrinting}
use Rattle.ymx_frames.proofs.Ends.{Leaves, prints_now, front_part, prints_if}

-- ---- before anything is read

pub nothing_printed_of_nothing : (limit : ℕ) → PrintsPart limit [] []
nothing_printed_of_nothing limit = ([], inl (record { frames = []; rest = []; whole = refl; each = All-nil (IsGoodFrame limit); printed = refl }), refl)

-- ---- a beginning of what would be printed

starts_more : (done full part : List ℕ) → StartsWith full part → StartsWith (done ++ full) (done ++ part)
starts_more [] full part s = s
starts_more (x ∷ done) full part s = ap (λ (l : List ℕ). x ∷ l) (starts_more done full part s)

starts_through : (full middle part : List ℕ) → StartsWith full middle → StartsWith middle part → StartsWith full part
starts_through full middle part p q = grind (arith, common_steps)

part_short : (limit : ℕ) (text output short : List ℕ) → PrintsPart limit text output → StartsWith output short → PrintsPart limit text short
part_short limit text output short (full, printed, starts) s = (full, printed, starts_through full output short starts s)

-- what is printed of a text at its end, as far as a writer took it before it failed
pub cut_short : (limit : ℕ) (text output short : List ℕ) (ended : Type 0) (e : FramesEnd) → Prints limit text ended e output → StartsWith output short → Prints limit text ended Writing short
cut_short limit text output short ended Good (end, (frames, cuts, printed)) s =
    inl (output, inl (record { frames = frames; rest = []; whole = cuts.whole; each = cuts.each; printed = printed }), s)
cut_short limit text output short ended Rest (end, rest) s = inr (end, (output, rest, s))
cut_short limit text output short ended Faulty h s = inl (output, inr h, s)
cut_short limit text output short ended Reading h s = inl (part_short limit text output short h s)
cut_short limit text output short ended (Memory m) h s = inl (part_short limit text output short h s)
cut_short limit text output short ended Writing (inl h) s = inl (part_short limit text output short h s)
cut_short limit text output short ended Writing (inr (end, (full, rest, starts))) s = inr (end, (full, rest, starts_through full output short starts s))

pub left_short : (limit : ℕ) (text input done new part : List ℕ) (p : Printer) (end : Option FramesEnd) (ended : Type 0) → (input ≡ [] → ended) → Leaves limit text input (done ++ new) p end → StartsWith new part →
    Prints limit (text ++ input) ended Writing (done ++ part)
left_short limit text input done new part p None ended f pr s =
    inl (part_short limit (text ++ input) (done ++ new) (done ++ part)
    (front_part limit (text ++ input) (done ++ new) (prints_now limit (text ++ input) (done ++ new) p pr.so_far))
    (starts_more done new part s))
left_short limit text input done new part p (Some e) ended f h s =
    prints_if limit (text ++ input) (done ++ part) (input ≡ []) ended Writing f (cut_short limit (text ++ input) (done ++ new) (done ++ part) (input ≡ []) e h (starts_more done new part s))

-- ---- the loop

-- So far this text was read and its lines were written, and no device failed.
pub record RoundsHavePrinted (limit : ℕ) (was is had has : Option (List ℕ)) (read reads written writes : ℕ) (p : Printer) : Type 0 where
  pub text : List ℕ
  pub done : List ℕ
  pub consumes : Consumes was is text
  pub appends : Appends had has done
  pub printing : IsPrinting limit text (done ++ p.lines.items) p
  pub reader : reads ≡ read
  pub writer : writes ≡ written

pub run_begins : (limit : ℕ) (was had : Option (List ℕ)) (read written : ℕ) (p : Printer) → (p.lines.items ≡ []) × IsPrinting limit [] [] p → RoundsHavePrinted limit was was had had read read written written p
run_begins limit was had read written p (none, pr) = record {
  text = [];
  done = [];
  consumes = Consumes-nil was;
  appends = Appends-nil had;
  printing = subst (λ (l : List ℕ). IsPrinting limit [] l p) (sym none) pr;
  reader = refl;
  writer = refl;
}

pub starts_front : (xs ys : List ℕ) → StartsWith (xs ++ ys) xs
starts_front xs ys = take-append_seam xs ys

-- a read failed
pub read_fails : (limit : ℕ) (was is had has after : Option (List ℕ)) (read reads written writes : ℕ) (p : Printer) → RoundsHavePrinted limit was is had has read reads written writes p → Keeps is after →
    (text : List ℕ) × (output : List ℕ) × Consumes was after text × Appends had has output × PrintsPart limit text output
read_fails limit was is had has after read reads written writes p h kept = (h.text, h.done, Consumes-kept was is after h.text h.consumes kept, h.appends, (h.done ++ p.lines.items, inl (prints_now limit h.text (h.done ++ p.lines.items) p h.printing.so_far), starts_front h.done p.lines.items))

-- a read that gave no bytes was the last
pub last_read : (count : ℕ) (buffer : List ℕ) (P : Type 0) → count ≤ length buffer → 0 < length buffer → (count ≡ 0 → 0 < length buffer → P) → take count buffer ≡ [] → P
last_read count buffer P fits some f e =
    let n : count ≡ 0 = sym (length-take-le count buffer fits) ∙ ap length e in
    f n some

-- a write failed after a read
pub write_fails : (limit : ℕ) (was is had has after then_has : Option (List ℕ)) (read reads written writes count : ℕ) (buffer lines : List ℕ) (p q : Printer) (end : Option FramesEnd) →
    (h : RoundsHavePrinted limit was is had has read reads written writes p) →
    Consumes is after (take count buffer) × (count ≡ 0 → 0 < length buffer → IsAtEnd after) → count ≤ length buffer → 0 < length buffer →
    Leaves limit h.text (take count buffer) (h.done ++ q.lines.items) q end → lines ≡ q.lines.items →
    (part : List ℕ) × StartsWith lines part × Appends has then_has part →
    (text : List ℕ) × (output : List ℕ) × Consumes was after text × Appends had then_has output × Prints limit text (IsAtEnd after) Writing output
write_fails limit was is had has after then_has read reads written writes count buffer lines p q end h (consumes, ended) fits some leaves same (part, starts, appends) = (
  h.text ++ take count buffer,
  h.done ++ part,
  Consumes-trans was is after _ _ h.consumes consumes,
  Appends-trans had has then_has _ _ h.appends appends,
  left_short limit h.text (take count buffer) h.done q.lines.items part q end (IsAtEnd after) (last_read count buffer (IsAtEnd after) fits some ended) leaves (subst (λ (l : List ℕ). StartsWith l part) same starts),
)

-- the printing ended after a read
pub run_ends : (limit : ℕ) (was is had has after then_has : Option (List ℕ)) (read reads written writes count : ℕ) (buffer lines : List ℕ) (p q : Printer) (end : Option FramesEnd) (e : FramesEnd) →
    (h : RoundsHavePrinted limit was is had has read reads written writes p) →
    Consumes is after (take count buffer) × (count ≡ 0 → 0 < length buffer → IsAtEnd after) → count ≤ length buffer → 0 < length buffer →
    Leaves limit h.text (take count buffer) (h.done ++ q.lines.items) q end → end ≡ Some e → lines ≡ q.lines.items → Appends has then_has lines →
    (text : List ℕ) × (output : List ℕ) × Consumes was after text × Appends had then_has output × Prints limit text (IsAtEnd after) e output
run_ends limit was is had has after then_has read reads written writes count buffer lines p q end e h (consumes, ended) fits some leaves some_end same appends =
    let all = subst (Appends has then_has) same appends in (
      h.text ++ take count buffer,
      h.done ++ q.lines.items,
      Consumes-trans was is after _ _ h.consumes consumes,
      Appends-trans had has then_has _ _ h.appends all,
      prints_if limit (h.text ++ take count buffer) (h.done ++ q.lines.items) (take count buffer ≡ []) (IsAtEnd after) e (last_read count buffer (IsAtEnd after) fits some ended)
          (subst (λ (x : Option FramesEnd). Leaves limit h.text (take count buffer) (h.done ++ q.lines.items) q x) some_end leaves),
    )

-- it goes on after a read
pub run_goes_on : (limit : ℕ) (was is had has after then_has : Option (List ℕ)) (read reads reads' written writes writes' count : ℕ) (buffer lines : List ℕ) (p q s : Printer) (end : Option FramesEnd) →
    (h : RoundsHavePrinted limit was is had has read reads written writes p) → Consumes is after (take count buffer) →
    Leaves limit h.text (take count buffer) (h.done ++ q.lines.items) q end → end ≡ None → lines ≡ q.lines.items → Appends has then_has lines →
    ((limit : ℕ) (text done : List ℕ) → IsPrinting limit text (done ++ q.lines.items) q → IsPrinting limit text ((done ++ q.lines.items) ++ s.lines.items) s) →
    reads' ≡ reads → writes' ≡ writes → RoundsHavePrinted limit was after had then_has read reads' written writes' s
run_goes_on limit was is had has after then_has read reads reads' written writes writes' count buffer lines p q s end h consumes leaves none same appends clear kept writer = record {
  text = h.text ++ take count buffer;
  done = h.done ++ q.lines.items;
  consumes = Consumes-trans was is after _ _ h.consumes consumes;
  appends = Appends-trans had has then_has _ _ h.appends (subst (Appends has then_has) same appends);
  printing = clear limit (h.text ++ take count buffer) h.done (subst (λ (x : Option FramesEnd). Leaves limit h.text (take count buffer) (h.done ++ q.lines.items) q x) none leaves);
  reader = kept ∙ h.reader;
  writer = writer ∙ h.writer;
}

pub if_failed : {T E : Type 0} (r : Result T E) (b : Bool) (P : Type 0) → b ≡ is_err r → b ≡ true → OnErr r P → P
if_failed (Ok x) b P e t h = cc
if_failed (Err x) b P e t h = h

pub if_not_failed : {T E : Type 0} (r : Result T E) (b : Bool) (P : Type 0) → b ≡ is_err r → b ≡ false → OnOk r P → P
if_not_failed (Ok x) b P e t h = h
if_not_failed (Err x) b P e t h = cc
