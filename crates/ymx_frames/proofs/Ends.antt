-- How the printing of a text ends.
use Rattle.std.proofs.Common.{◌≡◌, ℕ, ◌+◌, ◌-◌, ◌^◌, ◌==◌, nat_lt, min, List, [], ◌∷◌, ◌++◌, length, take, drop, Bool, true, false, Option, None, Some, IfNone, IfSome, IsSomeAnd, MatchOption, Result, Ok, Err, IfOk, OnErr, arith, refl, sym, ◌∙◌, ap, subst, append_assoc, append-nil, decimal, inl, inr, codes}
use Rattle.std.proofs.lemmas.Grind.{common_steps}
use Rattle.std.proofs.lemmas.List.{take-append-drop}
use Rattle.ymx_model.proofs.Pushed.{whole_end}
use Rattle.std.proofs.lemmas.Bool.Decides.{nat_tests}
use Rattle.std.specs.Io.{StartsWith}
use Rattle.std.specs.Result.{result_unwrap_or}
use Rattle.ymx_machine.specs.shared.Evidence.{evidence}
use Rattle.ymx_header.specs.Headers.{header_of}
use Rattle.ymx_header.specs.declared.header.Header.{Header}
use Rattle.ymx_header.specs.declared.fault.Fault.{Fault}
use Rattle.ymx_header.specs.Faults.{fault_number}
use Rattle.ymx_cutter.specs.declared.item.Item.{Item}
use Rattle.ymx_cutter.specs.declared.item.Item.TheVariants as item
use Rattle.ymx_header.specs.Frames.{payload_length, fault_of}
use Rattle.ymx_cutter.specs.Frames.{joined}
use Rattle.ymx_cutter.specs.Cuts.{Cuts}
use Rattle.ymx_cutter.specs.Cutters.{Seen, Cut, Gathers, begun_of, next_of, item_of, seen_after, payload_seen}
use Rattle.ymx_cutter.specs.Cutters.Seen.{InHeader, Payload, Broken}
use Rattle.ymx_cutter.proofs.Only.{one_cut, Cuts-fault}
use Rattle.ymx_cutter.proofs.Runs.{Gathers-cuts, length-begun, Gathers-fault, reads_the_fault, FaultStands-more}
use Rattle.ymx_frames.specs.declared.printer.Printer.{Printer}
use Rattle.ymx_frames.specs.declared.print.FramesEnd.{FramesEnd}
use Rattle.ymx_frames.specs.declared.print.FramesEnd.TheVariants.{Good, Fault as Faulty, Rest, Reading, Writing, Memory}
use Rattle.ymx_frames.specs.Lines.{lines, fault_line, rest_line}
use Rattle.ymx_frames.specs.Outputs.{Prints, PrintsAll, PrintsRest, PrintsFault, PrintsFront, PrintsPart, IsOwnEnd}
use Rattle.ymx_frames.specs.Printing.{HasPrinted, IsPrinting, NoFault}

-- ---- a cutter that tells no fault has seen none

abbrev Tells : Option Item → Seen → Type 0
Tells None seen = NoFault seen
Tells (Some (item.Head h)) seen = NoFault seen
Tells (Some (item.Piece len last)) seen = NoFault seen
Tells (Some (item.Fault fault)) seen = Unit {0}

tells_payload : (came missing : ℕ) (none : Bool) → (missing == 0) ≡ none → NoFault (payload_seen came missing)
tells_payload came missing true e = rw e tt
tells_payload came missing false e = rw e tt

tells_header : (fault : Option Fault) (h : Header) → Tells (Some (item_of fault h)) (seen_after fault (payload_length h))
tells_header None h = tells_payload 0 (payload_length h) _ refl
tells_header (Some fault) h = tt

tells_bytes : (limit : ℕ) (bytes input : List ℕ) (short : Bool) → nat_lt (length bytes + length input) 12 ≡ short →
    Tells (next_of limit (InHeader bytes) input).item (next_of limit (InHeader bytes) input).seen
tells_bytes limit bytes input true e = rw e tt
tells_bytes limit bytes input false e = rw e (tells_header (fault_of limit (header_of (bytes ++ take (12 - length bytes) input))) _)

tells_piece : (limit came missing : ℕ) (input : List ℕ) (empty : Bool) → (length input == 0) ≡ empty →
    Tells (next_of limit (Payload came missing) input).item (next_of limit (Payload came missing) input).seen
tells_piece limit came missing input true e = rw e tt
tells_piece limit came missing input false e = rw e (tells_payload (came + min (length input) missing) (missing - min (length input) missing) _ refl)

tells_next : (limit : ℕ) (seen : Seen) (input : List ℕ) → Tells (next_of limit seen input).item (next_of limit seen input).seen
tells_next limit (InHeader bytes) input = tells_bytes limit bytes input _ refl
tells_next limit (Payload came missing) input = tells_piece limit came missing input _ refl
tells_next limit (Broken fault) input = tt

tells : (limit : ℕ) (seen : Seen) (input : List ℕ) (cut : Cut) → next_of limit seen input ≡ cut → Tells cut.item cut.seen
tells limit seen input cut e = subst (λ (x : Cut). Tells x.item x.seen) e (tells_next limit seen input)

pub no_fault_none : (limit : ℕ) (seen : Seen) (input : List ℕ) (cut : Cut) → next_of limit seen input ≡ cut → cut.item ≡ None → NoFault cut.seen
no_fault_none limit seen input cut e i = subst (λ (x : Option Item). Tells x cut.seen) i (tells limit seen input cut e)

pub no_fault_head : (limit : ℕ) (seen : Seen) (input : List ℕ) (cut : Cut) (h : Header) → next_of limit seen input ≡ cut → cut.item ≡ Some (item.Head h) → NoFault cut.seen
no_fault_head limit seen input cut h e i = subst (λ (x : Option Item). Tells x cut.seen) i (tells limit seen input cut e)

pub no_fault_piece : (limit : ℕ) (seen : Seen) (input : List ℕ) (cut : Cut) (len : ℕ) (last : Bool) → next_of limit seen input ≡ cut → cut.item ≡ Some (item.Piece len last) → NoFault cut.seen
no_fault_piece limit seen input cut len last e i = subst (λ (x : Option Item). Tells x cut.seen) i (tells limit seen input cut e)

-- ---- the end of the input

empty_list : (xs : List ℕ) → length xs ≡ 0 → xs ≡ []
empty_list [] e = refl
empty_list (x ∷ xs) e = absurd (omega arith)

pub tested_empty : (xs : List ℕ) → true ≡ (length xs == 0) → xs ≡ []
tested_empty xs e = empty_list xs (grind (arith, nat_tests))

pub prints_all : (limit : ℕ) (text output : List ℕ) (p : Printer) → HasPrinted limit text output p → begun_of p.cutter.seen ≡ 0 → PrintsAll limit text output
prints_all limit text output p pr none =
    let r = pr.reads in
    let empty : r.begun ≡ [] = empty_list r.begun (length-begun limit text pr.gathered p.cutter.seen r ∙ none) in
    (pr.gathered.frames, subst (Cuts limit text pr.gathered.frames) empty (Gathers-cuts limit text pr.gathered p.cutter.seen r), pr.printed)

fault_seen : (seen : Seen) (fault : Fault) → NoFault seen → seen ≡ Broken fault → ⊥
fault_seen seen fault none e = subst NoFault e none

pub prints_rest : (limit : ℕ) (text done old new : List ℕ) (p : Printer) (count : ℕ) → HasPrinted limit text (done ++ old) p → NoFault p.cutter.seen → count ≡ begun_of p.cutter.seen → (count ≡ 0 → ⊥) →
    new ≡ old ++ rest_line count → PrintsRest limit text (done ++ new)
prints_rest limit text done old new p count pr none is_begun some e =
    let r = pr.reads in
    let n : length r.begun ≡ count = length-begun limit text pr.gathered p.cutter.seen r ∙ sym is_begun in (
      pr.gathered.frames,
      r.begun,
      Gathers-cuts limit text pr.gathered p.cutter.seen r,
      omega arith,
      λ offset fault s. fault_seen p.cutter.seen fault none (reads_the_fault limit text pr.gathered p.cutter.seen offset fault r s),
      ap (λ (l : List ℕ). done ++ l) e ∙ sym (append_assoc done old (rest_line count)) ∙ ap (λ (l : List ℕ). l ++ rest_line count) pr.printed
          ∙ ap (λ (k : ℕ). lines pr.gathered.frames ++ rest_line k) (sym n),
    )

-- ---- a fault

place_again : (place n most : ℕ) → place ≡ min n most → min place most ≡ min n most
place_again place n most e = omega arith

fault_text : (fault : Fault) (m n : ℕ) → m ≡ n → codes "fault B" ++ decimal (fault_number fault) ++ codes " at " ++ decimal m ++ codes "\n" ≡ codes "fault B" ++ decimal (fault_number fault) ++ codes " at " ++ decimal n ++ codes "\n"
fault_text fault m n e = ap (λ (k : ℕ). codes "fault B" ++ decimal (fault_number fault) ++ codes " at " ++ decimal k ++ codes "\n") e

pub prints_fault : (limit : ℕ) (text more done old new : List ℕ) (p : Printer) (fault : Fault) → HasPrinted limit text (done ++ old) p → p.cutter.seen ≡ Broken fault →
    new ≡ old ++ fault_line fault p.offset → PrintsFault limit (text ++ more) (done ++ new)
prints_fault limit text more done old new p fault pr broken e =
    let g = pr.gathered in
    let r : Gathers limit text g (Broken fault) = subst (Gathers limit text g) broken pr.reads in
    let s = Gathers-fault limit text g fault r in
    let before : g.frames ≡ s.before = (one_cut limit text _ _ _ _ (Gathers-cuts limit text g (Broken fault) r) (Cuts-fault limit text _ fault s)).0 in
    let place = fault_text fault _ _ (place_again p.offset (length (joined g.frames)) (2 ^ 64 - 1) pr.placed) in (
      length (joined g.frames),
      fault,
      FaultStands-more limit text more _ fault s,
      ap (λ (l : List ℕ). done ++ l) e ∙ sym (append_assoc done old (fault_line fault p.offset)) ∙ ap (λ (l : List ℕ). l ++ fault_line fault p.offset) (pr.printed ∙ ap lines before)
          ∙ ap (λ (l : List ℕ). lines s.before ++ l) place,
    )

-- ---- a front of the text

pub prints_front : (limit : ℕ) (text more output : List ℕ) (p : Printer) → HasPrinted limit text output p → PrintsFront limit (text ++ more) output
prints_front limit text more output p pr = record {
  frames = pr.gathered.frames;
  rest = pr.reads.begun ++ more;
  whole = ap (λ (l : List ℕ). l ++ more) pr.reads.whole ∙ append_assoc (joined pr.gathered.frames) pr.reads.begun more;
  each = pr.reads.each;
  printed = pr.printed;
}

pub prints_now : (limit : ℕ) (text output : List ℕ) (p : Printer) → HasPrinted limit text output p → PrintsFront limit text output
prints_now limit text output p pr = record { frames = pr.gathered.frames; rest = pr.reads.begun; whole = pr.reads.whole; each = pr.reads.each; printed = pr.printed }

starts_itself : (xs : List ℕ) → StartsWith xs xs
starts_itself xs = grind (arith, common_steps)

pub front_part : (limit : ℕ) (text output : List ℕ) → PrintsFront limit text output → PrintsPart limit text output
front_part limit text output f = (output, inl f, starts_itself output)

-- ---- the bytes of one read

pub if_none : {T : Type 0} (o : Option T) (P : Type 0) → o ≡ None → IfNone o P → P
if_none o P e h = subst (λ x. IfNone x P) e h

-- The printer has gone on from one state to another over the front of these bytes, all but the rest.
pub record HasGoneOn (input rest : List ℕ) (p q : Printer) : Type 0 where
  pub front : List ℕ
  pub whole : input ≡ front ++ rest
  pub goes : (limit : ℕ) (text done : List ℕ) → IsPrinting limit text (done ++ p.lines.items) p → IsPrinting limit (text ++ front) (done ++ q.lines.items) q

pub gone_nowhere : (input : List ℕ) (p : Printer) → HasGoneOn input input p p
gone_nowhere input p = record { front = []; whole = refl; goes = λ limit text done pr. rw (append-nil text) pr }

pub gone_further : (input rest : List ℕ) (p q s : Printer) (taken : ℕ) → HasGoneOn input rest p q →
    ((limit : ℕ) (text done : List ℕ) → HasPrinted limit text (done ++ q.lines.items) q → HasPrinted limit (text ++ take taken rest) (done ++ s.lines.items) s) →
    NoFault s.cutter.seen → HasGoneOn input (take (length rest - taken) (drop taken rest)) p s
gone_further input rest p q s taken h step none = record {
  front = h.front ++ take taken rest;
  whole =
      h.whole ∙ ap (λ (l : List ℕ). h.front ++ l) (sym (take-append-drop taken rest)) ∙ sym (append_assoc h.front (take taken rest) (drop taken rest))
      ∙ ap (λ (l : List ℕ). (h.front ++ take taken rest) ++ l) (sym (whole_end taken rest));
  goes = λ limit text done pr. record {
    so_far = rw (← append_assoc text h.front (take taken rest)) (step limit (text ++ h.front) done (h.goes limit text done pr).so_far);
    no_fault = none;
  };
}

-- all bytes are taken
pub gone_through : (input rest : List ℕ) (p q : Printer) → HasGoneOn input rest p q → rest ≡ [] →
    (limit : ℕ) (text done : List ℕ) → IsPrinting limit text (done ++ p.lines.items) p → IsPrinting limit (text ++ input) (done ++ q.lines.items) q
gone_through input rest p q h e limit text done pr =
    let all : input ≡ h.front = h.whole ∙ ap (λ (l : List ℕ). h.front ++ l) e ∙ append-nil h.front in
    rw all (h.goes limit text done pr)

-- a fault was found in the rest
pub gone_to_fault : (input rest : List ℕ) (p q s : Printer) (taken : ℕ) (fault : Fault) (new : List ℕ) → HasGoneOn input rest p q →
    ((limit : ℕ) (text done : List ℕ) → HasPrinted limit text (done ++ q.lines.items) q → HasPrinted limit (text ++ take taken rest) (done ++ s.lines.items) s) →
    s.cutter.seen ≡ Broken fault → new ≡ s.lines.items ++ fault_line fault s.offset →
    (limit : ℕ) (text done : List ℕ) → IsPrinting limit text (done ++ p.lines.items) p → PrintsFault limit (text ++ input) (done ++ new)
gone_to_fault input rest p q s taken fault new h step broken e limit text done pr =
    let so_far = step limit (text ++ h.front) done (h.goes limit text done pr).so_far in
    let all : text ++ input ≡ ((text ++ h.front) ++ take taken rest) ++ drop taken rest =
    ap (λ (l : List ℕ). text ++ l) (h.whole ∙ ap (λ (l : List ℕ). h.front ++ l) (sym (take-append-drop taken rest)))
    ∙ sym (append_assoc text h.front (take taken rest ++ drop taken rest)) ∙ sym (append_assoc (text ++ h.front) (take taken rest) (drop taken rest)) in
    rw all (prints_fault limit ((text ++ h.front) ++ take taken rest) (drop taken rest) done s.lines.items new s fault so_far broken e)

-- there was no memory for the next line
pub gone_short : (input rest : List ℕ) (p q : Printer) (new : List ℕ) → HasGoneOn input rest p q → new ≡ q.lines.items →
    (limit : ℕ) (text done : List ℕ) → IsPrinting limit text (done ++ p.lines.items) p → PrintsFront limit (text ++ input) (done ++ new)
gone_short input rest p q new h e limit text done pr =
    let all : text ++ input ≡ (text ++ h.front) ++ rest = ap (λ (l : List ℕ). text ++ l) h.whole ∙ sym (append_assoc text h.front rest) in
    rw (all, e) (prints_front limit (text ++ h.front) rest (done ++ q.lines.items) q (h.goes limit text done pr).so_far)

pub gone_short_of_fault : (input rest : List ℕ) (p q s : Printer) (taken : ℕ) (new : List ℕ) → HasGoneOn input rest p q →
    ((limit : ℕ) (text done : List ℕ) → HasPrinted limit text (done ++ q.lines.items) q → HasPrinted limit (text ++ take taken rest) (done ++ s.lines.items) s) →
    new ≡ s.lines.items →
    (limit : ℕ) (text done : List ℕ) → IsPrinting limit text (done ++ p.lines.items) p → PrintsFront limit (text ++ input) (done ++ new)
gone_short_of_fault input rest p q s taken new h step e limit text done pr =
    let so_far = step limit (text ++ h.front) done (h.goes limit text done pr).so_far in
    let all : text ++ input ≡ ((text ++ h.front) ++ take taken rest) ++ drop taken rest =
    ap (λ (l : List ℕ). text ++ l) (h.whole ∙ ap (λ (l : List ℕ). h.front ++ l) (sym (take-append-drop taken rest)))
    ∙ sym (append_assoc text h.front (take taken rest ++ drop taken rest)) ∙ sym (append_assoc (text ++ h.front) (take taken rest) (drop taken rest)) in
    rw (all, e) (prints_front limit ((text ++ h.front) ++ take taken rest) (drop taken rest) (done ++ s.lines.items) s so_far)

-- ---- one read

-- the same under another name of the input's end
pub prints_if : (limit : ℕ) (text output : List ℕ) (if_ended ended : Type 0) (e : FramesEnd) → (if_ended → ended) → Prints limit text if_ended e output → Prints limit text ended e output
prints_if limit text output if_ended ended Good f h = (f h.0, h.1)
prints_if limit text output if_ended ended Rest f h = (f h.0, h.1)
prints_if limit text output if_ended ended Faulty f h = h
prints_if limit text output if_ended ended Reading f h = h
prints_if limit text output if_ended ended (Memory m) f h = h
prints_if limit text output if_ended ended Writing f (inl h) = inl h
prints_if limit text output if_ended ended Writing f (inr h) = inr (f h.0, h.1)

-- what one read leaves: printing that goes on, or an end
abbrev pub Leaves : ℕ → List ℕ → List ℕ → List ℕ → Printer → Option FramesEnd → Type 0
Leaves limit text input output p end = MatchOption end (IsPrinting limit (text ++ input) output p) (λ e. Prints limit (text ++ input) (input ≡ []) e output)

pub leaves_end : {E : Type 0} (limit : ℕ) (text input done old new : List ℕ) (p q : Printer) (r : Result (Option FramesEnd) E) (end : Option FramesEnd) → IsPrinting limit text (done ++ old) p → input ≡ [] →
    IfOk r (λ end. IfSome end (λ e. Prints limit text (Unit {0}) e (done ++ new))) → IfOk r (λ end. IsSomeAnd end IsOwnEnd) → OnErr r (new ≡ old) → end ≡ result_unwrap_or r (Some (Memory evidence)) →
    Leaves limit text input (done ++ new) q end
leaves_end limit text input done old new p q (Ok (Some e)) end pr empty ok some err is = rw (is, empty, append-nil text) (prints_if limit text (done ++ new) (Unit {0}) _ e (λ _. refl) ok)
leaves_end limit text input done old new p q (Ok None) end pr empty ok some err is = absurd some
leaves_end limit text input done old new p q (Err x) end pr empty ok some err is = rw (is, err) (front_part limit (text ++ input) (done ++ old) (prints_front limit text input (done ++ old) p pr.so_far))

pub leaves_bytes : {E : Type 0} (limit : ℕ) (text input done new : List ℕ) (q : Printer) (r : Result (Option FramesEnd) E) (end : Option FramesEnd) →
    IfOk r (λ end. MatchOption end (IsPrinting limit (text ++ input) (done ++ new) q) (λ e. (e ≡ Faulty) × PrintsFault limit (text ++ input) (done ++ new))) →
    OnErr r (PrintsFront limit (text ++ input) (done ++ new)) → end ≡ result_unwrap_or r (Some (Memory evidence)) →
    Leaves limit text input (done ++ new) q end
leaves_bytes limit text input done new q (Ok (Some e)) end ok err is = rw (is, ok.0) ok.1
leaves_bytes limit text input done new q (Ok None) end ok err is = rw is ok
leaves_bytes limit text input done new q (Err x) end ok err is = rw is (front_part limit (text ++ input) (done ++ new) err)

-- such an end blames no device
pub own_end : {E : Type 0} (r : Result (Option FramesEnd) E) (end : Option FramesEnd) → IfOk r (λ end. IsSomeAnd end IsOwnEnd) → end ≡ result_unwrap_or r (Some (Memory evidence)) → IfSome end IsOwnEnd
own_end (Ok (Some e)) end own is = rw is own
own_end (Ok None) end own is = absurd own
own_end (Err x) end own is = rw is tt

pub own_fault : {E : Type 0} (r : Result (Option FramesEnd) E) (end : Option FramesEnd) → IfOk r (λ end. IfSome end (λ e. e ≡ Faulty)) → end ≡ result_unwrap_or r (Some (Memory evidence)) → IfSome end IsOwnEnd
own_fault (Ok (Some e)) end ok is = rw (is, ok) tt
own_fault (Ok None) end ok is = rw is tt
own_fault (Err x) end ok is = rw is tt
