-- Reading, playing and writing, piece by piece.
use Rattle.std.proofs.Common.{◌≡◌, ℕ, ◌<◌, ◌≤◌, List, [], ◌∷◌, ◌++◌, length, take, Option, None, Some, IfSome, IsTrue, false, arith, refl, sym, ◌∙◌, ap, subst, append-nil, inl, inr}
use Rattle.std.proofs.lemmas.Grind.{common_steps}
use Rattle.std.specs.Io.{StartsWith}
use Rattle.std.specs.Io.KnownBytes.{Appends, Consumes, Keeps, IsAtEnd}
use Rattle.std.proofs.KnownBytes.{Appends-nil, Appends-trans, Consumes-nil, Consumes-trans, Consumes-kept}
use Rattle.ymx_frames.proofs.Rounds.{starts_front, last_read}
use Rattle.ymx_script.specs.declared.lines.Lines.{Lines}
use Rattle.ymx_script.specs.declared.lines.ScriptEnd.{ScriptEnd}
use Rattle.ymx_script.specs.declared.lines.ScriptEnd.TheVariants.{Good, Line, Reading, Writing, Memory}
use Rattle.ymx_model.specs.devices.Devices.{has_failed}
use Rattle.ymx_script.specs.Outputs.{BlamesNoDevice, Leaves, PrintsByEnd, PrintsBeginning, PrintsSome}
use Rattle.ymx_script.specs.Players.{position_of}
use Rattle.ymx_script.specs.Rounds.{HasEnded, RoundsHavePlayed}
use Rattle.ymx_script.specs.Reading.{IsReading}
use Rattle.ymx_script.specs.Scripts.{Position, Plays, PrintsFirstLines, PrintsMistake, IsTextPart, first_position, with_feeds, has_feed, longest}
use Rattle.ymx_script.proofs.Ends.{bad_if, front_part}

-- ---- before anything is read

pub nothing_printed_of_nothing : (ended : Type 0) → PrintsBeginning [] ended []
nothing_printed_of_nothing ended = front_part [] [] ended (record { before = []; after = []; p = first_position; whole = refl; plays = (refl, refl) })

-- ---- a beginning of what would be printed

starts_more : (done full part : List ℕ) → StartsWith full part → StartsWith (done ++ full) (done ++ part)
starts_more [] full part s = s
starts_more (x ∷ done) full part s = ap (λ (l : List ℕ). x ∷ l) (starts_more done full part s)

starts_through : (full middle part : List ℕ) → StartsWith full middle → StartsWith middle part → StartsWith full part
starts_through full middle part p q = grind (arith, common_steps)

part_short : (text output short : List ℕ) (ended : Type 0) → PrintsBeginning text ended output → StartsWith output short → PrintsBeginning text ended short
part_short text output short ended (full, printed, starts) s = (full, printed, starts_through full output short starts s)

-- what is printed of a text at its end, as far as a writer took it before it failed
cut_short : (text output short : List ℕ) (ended : Type 0) (e : ScriptEnd) → PrintsByEnd text ended e output → StartsWith output short → PrintsBeginning text ended short
cut_short text output short ended Good h s = (output, inr (inl h), s)
cut_short text output short ended (Line number) h s = (output, inr (inr (number, h)), s)
cut_short text output short ended Reading h s = part_short text output short ended h s
cut_short text output short ended Writing h s = part_short text output short ended h s
cut_short text output short ended (Memory _) h s = part_short text output short ended h s

mistake_of : (text : List ℕ) (number : ℕ) (output : List ℕ) (ended other : Type 0) → (ended → other) → PrintsMistake text number output ended → PrintsMistake text number output other
mistake_of text number output ended other f h = record { before = h.before; bytes = h.bytes; after = h.after; p = h.p; printed = h.printed; whole = h.whole; plays = h.plays; bad = bad_if h.bytes h.after h.p ended other f h.bad; numbered = h.numbered; told = h.told }

some_if : (text output : List ℕ) (ended other : Type 0) → (ended → other) → PrintsSome text ended output → PrintsSome text other output
some_if text output ended other f (inl h) = inl h
some_if text output ended other f (inr (inl h)) = inr (inl (f h.0, h.1))
some_if text output ended other f (inr (inr h)) = inr (inr (h.0, mistake_of text h.0 output ended other f h.1))

part_if : (text output : List ℕ) (ended other : Type 0) → (ended → other) → PrintsBeginning text ended output → PrintsBeginning text other output
part_if text output ended other f (full, printed, starts) = (full, some_if text full ended other f printed, starts)

prints_if : (text output : List ℕ) (ended other : Type 0) (e : ScriptEnd) → (ended → other) → PrintsByEnd text ended e output → PrintsByEnd text other e output
prints_if text output ended other Good f h = (f h.0, h.1)
prints_if text output ended other (Line number) f h = mistake_of text number output ended other f h
prints_if text output ended other Reading f h = part_if text output ended other f h
prints_if text output ended other Writing f h = part_if text output ended other f h
prints_if text output ended other (Memory _) f h = part_if text output ended other f h

-- the lines that were played are the first of the text
reading_front : (text done : List ℕ) (l : Lines) → IsReading text done l → PrintsFirstLines text (done ++ l.player.text.items)
reading_front text done l r = record { before = r.before; after = l.part.items; p = position_of l.player; whole = r.played.whole; plays = r.played.plays }

left_short : (text piece done part : List ℕ) (l : Lines) (end : Option ScriptEnd) (ended : Type 0) → (piece ≡ [] → ended) → Leaves text piece done l end → StartsWith l.player.text.items part →
    PrintsBeginning (text ++ piece) ended (done ++ part)
left_short text piece done part l None ended f r s =
    (done ++ l.player.text.items, inl (reading_front (text ++ piece) done l r), starts_more done l.player.text.items part s)
left_short text piece done part l (Some e) ended f h s =
    part_if (text ++ piece) (done ++ part) (piece ≡ []) ended f
    (cut_short (text ++ piece) (done ++ l.player.text.items) (done ++ part) (piece ≡ []) e h (starts_more done l.player.text.items part s))

-- what was printed was written, and no longer kept
pub written : (text done : List ℕ) (old new : Lines) → position_of new.player ≡ position_of old.player → new.player.text.items ≡ [] → new.part.items ≡ old.part.items → new.number ≡ old.number →
    IsReading text done old → IsReading text (done ++ old.player.text.items) new
written text done old new position none part number r =
    let out : done ++ old.player.text.items ≡ (done ++ old.player.text.items) ++ new.player.text.items =
    sym (append-nil (done ++ old.player.text.items)) ∙ ap (λ (zs : List ℕ). (done ++ old.player.text.items) ++ zs) (sym none) in
    let plays : Plays r.before first_position ((done ++ old.player.text.items) ++ new.player.text.items) (position_of old.player) =
    subst (λ (zs : List ℕ). Plays r.before first_position zs (position_of old.player)) out r.played.plays in
    record {
      before = r.before;
      played = record {
        whole = r.played.whole ∙ ap (λ (zs : List ℕ). with_feeds r.before ++ zs) (sym part);
        one = subst (λ (zs : List ℕ). has_feed zs ≡ false) (sym part) r.played.one;
        short = subst (λ (zs : List ℕ). length zs ≤ longest) (sym part) r.played.short;
        plays = subst (λ (z : Position). Plays r.before first_position ((done ++ old.player.text.items) ++ new.player.text.items) z) (sym position) plays;
      };
      numbered = number ∙ r.numbered;
    }

-- ---- the loop

pub run_begins : (was had : Option (List ℕ)) (read written : ℕ) (l : Lines) → IsReading [] [] l → RoundsHavePlayed was was had had read read written written l
run_begins was had read written l r = record {
  text = [];
  done = [];
  consumes = Consumes-nil was;
  appends = Appends-nil had;
  reading = r;
  reader = refl;
  writer = refl;
}

-- a part of a line is kept
pub run_part : (was is had has : Option (List ℕ)) (read reads written writes : ℕ) (l : Lines) → RoundsHavePlayed was is had has read reads written writes l → IsTextPart l.part.items
run_part was is had has read reads written writes l h = record { one = h.reading.played.one; short = h.reading.played.short }

-- a read failed
pub read_fails : (was is had has after : Option (List ℕ)) (read reads written writes : ℕ) (l : Lines) (ended : Type 0) → RoundsHavePlayed was is had has read reads written writes l → Keeps is after →
    (text : List ℕ) × (output : List ℕ) × Consumes was after text × Appends had has output × PrintsBeginning text ended output
read_fails was is had has after read reads written writes l ended h kept = (h.text, h.done, Consumes-kept was is after h.text h.consumes kept, h.appends, (h.done ++ l.player.text.items, inl (reading_front h.text h.done l h.reading), starts_front h.done l.player.text.items))

-- a write failed after a read
pub write_fails : (was is had has after then_has : Option (List ℕ)) (read reads written writes count : ℕ) (buffer lines : List ℕ) (l m : Lines) (end : Option ScriptEnd) →
    (h : RoundsHavePlayed was is had has read reads written writes l) →
    Consumes is after (take count buffer) × (count ≡ 0 → 0 < length buffer → IsAtEnd after) → count ≤ length buffer → 0 < length buffer →
    ((text done : List ℕ) → IsReading text done l → Leaves text (take count buffer) done m end) → lines ≡ m.player.text.items →
    (part : List ℕ) × StartsWith lines part × Appends has then_has part →
    (text : List ℕ) × (output : List ℕ) × Consumes was after text × Appends had then_has output × PrintsBeginning text (IsAtEnd after) output
write_fails was is had has after then_has read reads written writes count buffer lines l m end h (consumes, ended) fits some leaves same (part, starts, appends) = (
  h.text ++ take count buffer,
  h.done ++ part,
  Consumes-trans was is after _ _ h.consumes consumes,
  Appends-trans had has then_has _ _ h.appends appends,
  left_short h.text (take count buffer) h.done part m end (IsAtEnd after) (last_read count buffer (IsAtEnd after) fits some ended) (leaves h.text h.done h.reading) (subst (λ (zs : List ℕ). StartsWith zs part) same starts),
)

-- the script ended after a read
pub run_ends : (was is had has after then_has : Option (List ℕ)) (read reads written writes count : ℕ) (buffer lines : List ℕ) (l m : Lines) (end : Option ScriptEnd) (e : ScriptEnd) →
    (h : RoundsHavePlayed was is had has read reads written writes l) →
    Consumes is after (take count buffer) × (count ≡ 0 → 0 < length buffer → IsAtEnd after) → count ≤ length buffer → 0 < length buffer →
    ((text done : List ℕ) → IsReading text done l → Leaves text (take count buffer) done m end) → end ≡ Some e → lines ≡ m.player.text.items → Appends has then_has lines →
    (text : List ℕ) × (output : List ℕ) × Consumes was after text × Appends had then_has output × PrintsByEnd text (IsAtEnd after) e output
run_ends was is had has after then_has read reads written writes count buffer lines l m end e h (consumes, ended) fits some leaves some_end same appends =
    let all = subst (Appends has then_has) same appends in (
      h.text ++ take count buffer,
      h.done ++ m.player.text.items,
      Consumes-trans was is after _ _ h.consumes consumes,
      Appends-trans had has then_has _ _ h.appends all,
      prints_if (h.text ++ take count buffer) (h.done ++ m.player.text.items) (take count buffer ≡ []) (IsAtEnd after) e (last_read count buffer (IsAtEnd after) fits some ended)
          (subst (λ (x : Option ScriptEnd). Leaves h.text (take count buffer) h.done m x) some_end (leaves h.text h.done h.reading)),
    )

-- it goes on after a read
pub run_goes_on : (was is had has after then_has : Option (List ℕ)) (read reads reads' written writes writes' count : ℕ) (buffer lines : List ℕ) (l m n : Lines) (end : Option ScriptEnd) →
    (h : RoundsHavePlayed was is had has read reads written writes l) → Consumes is after (take count buffer) →
    ((text done : List ℕ) → IsReading text done l → Leaves text (take count buffer) done m end) → end ≡ None → lines ≡ m.player.text.items → Appends has then_has lines →
    ((text done : List ℕ) → IsReading text done m → IsReading text (done ++ m.player.text.items) n) →
    reads' ≡ reads → writes' ≡ writes → RoundsHavePlayed was after had then_has read reads' written writes' n
run_goes_on was is had has after then_has read reads reads' written writes writes' count buffer lines l m n end h consumes leaves none same appends clear kept writer = record {
  text = h.text ++ take count buffer;
  done = h.done ++ m.player.text.items;
  consumes = Consumes-trans was is after _ _ h.consumes consumes;
  appends = Appends-trans had has then_has _ _ h.appends (subst (Appends has then_has) same appends);
  reading = clear (h.text ++ take count buffer) h.done (subst (λ (x : Option ScriptEnd). Leaves h.text (take count buffer) h.done m x) none (leaves h.text h.done h.reading));
  reader = kept ∙ h.reader;
  writer = writer ∙ h.writer;
}

-- ---- who is blamed

pub blames_none : (found : Option ScriptEnd) (e blamed : ScriptEnd) (P : Type 0) → IfSome found BlamesNoDevice → found ≡ Some e → (BlamesNoDevice blamed → ⊥) → e ≡ blamed → P
blames_none found e blamed P own is never same =
    absurd (never (subst BlamesNoDevice same (subst (λ (o : Option ScriptEnd). IfSome o BlamesNoDevice) is own)))

pub reading_is_not_own : BlamesNoDevice Reading → ⊥
reading_is_not_own h = h

pub writing_is_not_own : BlamesNoDevice Writing → ⊥
writing_is_not_own h = h

pub never_both : (P : Type 0) → Reading ≡ Writing → P
never_both P e = cc

pub failed_since : (first before after : ℕ) → before ≡ first → IsTrue (has_failed before after) → IsTrue (has_failed first after)
failed_since first before after same failed = subst (λ (n : ℕ). IsTrue (has_failed n after)) same failed

-- ---- the ends

pub ended_reading : (was is had has after : Option (List ℕ)) (read reads reads' written writes : ℕ) (l : Lines) → RoundsHavePlayed was is had has read reads written writes l → Keeps is after →
    IsTrue (has_failed reads reads') → HasEnded was after had has read reads' written writes Reading
ended_reading was is had has after read reads reads' written writes l h kept failed = record {
  printed = read_fails was is had has after read reads written writes l (IsAtEnd after) h kept;
  reading = λ _. failed_since read reads reads' h.reader failed;
  writing = λ e. never_both _ e;
  reader_kept = inl refl;
  writer_kept = inr h.writer;
}

pub ended_writing : (was is had has after then_has : Option (List ℕ)) (read reads reads' written writes writes' count : ℕ) (buffer lines : List ℕ) (l m : Lines) (end : Option ScriptEnd) →
    Consumes is after (take count buffer) × (count ≡ 0 → 0 < length buffer → IsAtEnd after) → count ≤ length buffer → 0 < length buffer →
    ((text done : List ℕ) → IsReading text done l → Leaves text (take count buffer) done m end) → lines ≡ m.player.text.items →
    (part : List ℕ) × StartsWith lines part × Appends has then_has part → reads' ≡ reads → IsTrue (has_failed writes writes') →
    RoundsHavePlayed was is had has read reads written writes l → HasEnded was after had then_has read reads' written writes' Writing
ended_writing was is had has after then_has read reads reads' written writes writes' count buffer lines l m end moved fits some leaves same part kept failed h = record {
  printed = write_fails was is had has after then_has read reads written writes count buffer lines l m end h moved fits some leaves same part;
  reading = λ e. never_both _ (sym e);
  writing = λ _. failed_since written writes writes' h.writer failed;
  reader_kept = inr (kept ∙ h.reader);
  writer_kept = inl refl;
}

pub ended_itself : (was is had has after then_has : Option (List ℕ)) (read reads reads' written writes writes' count : ℕ) (buffer lines : List ℕ) (l m : Lines) (found : Option ScriptEnd) (e : ScriptEnd) →
    Consumes is after (take count buffer) × (count ≡ 0 → 0 < length buffer → IsAtEnd after) → count ≤ length buffer → 0 < length buffer →
    ((text done : List ℕ) → IsReading text done l → Leaves text (take count buffer) done m found) → IfSome found BlamesNoDevice → found ≡ Some e → lines ≡ m.player.text.items →
    Appends has then_has lines → reads' ≡ reads → writes' ≡ writes →
    RoundsHavePlayed was is had has read reads written writes l → HasEnded was after had then_has read reads' written writes' e
ended_itself was is had has after then_has read reads reads' written writes writes' count buffer lines l m found e moved fits some leaves own is_e same appends kept written_same h = record {
  printed = run_ends was is had has after then_has read reads written writes count buffer lines l m found e h moved fits some leaves is_e same appends;
  reading = blames_none found e Reading _ own is_e reading_is_not_own;
  writing = blames_none found e Writing _ own is_e writing_is_not_own;
  reader_kept = inr (kept ∙ h.reader);
  writer_kept = inr (written_same ∙ h.writer);
}
