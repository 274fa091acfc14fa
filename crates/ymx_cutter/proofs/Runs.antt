-- Calls one after the other: what was read is how the text is cut.
use Rattle.std.proofs.Common.{◌≡◌, ℕ, ◌+◌, ◌<◌, ◌==◌, nat_lt, Bool, true, false, List, [], ◌∷◌, ◌++◌, length, Option, Some, None, arith, refl, sym, ◌∙◌, ap, subst, append_assoc, append-nil, length-append}
use Rattle.std.proofs.lemmas.Grind.{flat_map-append}
use Rattle.std.proofs.lemmas.List.Elements.{All-nil}
use Rattle.ymx_header.specs.Headers.{spelling, header_of, IsInRange}
use Rattle.ymx_header.specs.declared.header.Header.{Header}
use Rattle.ymx_header.specs.declared.fault.Fault.{Fault}
use Rattle.ymx_cutter.specs.declared.item.Item.{Item}
use Rattle.ymx_cutter.specs.declared.item.Item.TheVariants as item
use Rattle.ymx_header.specs.Frames.{Frame, frame_spelling, fault_of, payload_length}
use Rattle.ymx_cutter.specs.Frames.{joined, IsGoodFrame, IsBytes}
use Rattle.ymx_cutter.specs.Cuts.{Cuts, FaultStands}
use Rattle.ymx_cutter.specs.Gathered.{Gathered, gathers, nothing}
use Rattle.ymx_cutter.specs.Cutters.{Seen, Gathers, next_of, begun_of, item_of, seen_after}
use Rattle.ymx_cutter.specs.Cutters.Seen.{InHeader, Payload, Broken}
use Rattle.ymx_cutter.specs.Calls.{Call, AreCalls, text_of, gathered}
use Rattle.ymx_header.proofs.Spellings.{length-spelling}
use Rattle.ymx_cutter.proofs.Spelled.{IsInRange-header_of, spelled, good_payload}
use Rattle.ymx_cutter.proofs.Only.{same_header, same_rest, bad_header, none_is_none, one_cut, one_fault, Cuts-fault}
use Rattle.ymx_cutter.proofs.Reading.{reads_next, IsBytes-back}

-- nothing is read yet
pub reads_nothing : (limit : ℕ) → Gathers limit [] nothing (InHeader [])
reads_nothing limit =
    let small : IsBytes [] = (let P : ℕ → Type 0 = λ b. b < 256 in All-nil P) in
    record { bytes = small; each = All-nil (IsGoodFrame limit); begun = []; whole = refl; is_begun = (refl, omega arith) }

pub reads_calls : (limit : ℕ) (text : List ℕ) (g : Gathered) (seen end : Seen) (calls : List Call) → Gathers limit text g seen → AreCalls limit seen calls end →
    Gathers limit (text ++ text_of calls) (gathered g calls) end
reads_calls limit text g seen end [] r e = rw (append-nil text) (subst (Gathers limit text g) (sym e) r)
reads_calls limit text g seen end (call ∷ calls) r (input, small, bytes, item, others) =
    let cut = next_of limit seen input in
    let P : List ℕ → Type 0 = λ part. Gathers limit (text ++ part) (gathers g part cut.item) cut.seen in
    let Q : Option Item → Type 0 = λ x. Gathers limit (text ++ call.bytes) (gathers g call.bytes x) cut.seen in
    let next = subst Q (sym item) (subst P (sym bytes) (reads_next limit text g seen input small r)) in
    rw (← append_assoc text call.bytes (text_of calls))
    (reads_calls limit (text ++ call.bytes) (gathers g call.bytes call.item) cut.seen end calls next others)

-- ---- what is seen of a frame isn't a whole one

short_header : (limit : ℕ) (f : Frame) (bytes more : List ℕ) → length bytes < 12 → bytes ≡ frame_spelling f ++ more → ⊥
short_header limit f bytes more short e =
    let n : length bytes ≡ 12 + length f.payload + length more =
    ap length e ∙ (length-append (frame_spelling f) more ∙ ap (λ (k : ℕ). k + length more) (length-append (spelling f.header) f.payload ∙ ap (λ (k : ℕ). k + length f.payload) (length-spelling f.header))) in
    absurd (omega arith)

short_payload : (limit : ℕ) (h : Header) (payload : List ℕ) (f : Frame) (more : List ℕ) → IsInRange h → length payload < payload_length h → IsGoodFrame limit f → spelling h ++ payload ≡ frame_spelling f ++ more → ⊥
short_payload limit h payload f more r short good e =
    let e' = e ∙ append_assoc (spelling f.header) f.payload more in
    let same = same_header h f.header payload (f.payload ++ more) r good.in_range e' in
    let n : length payload ≡ length f.payload + length more = ap length (same_rest h f.header _ _ same e') ∙ length-append f.payload more in
    let m : payload_length h ≡ length f.payload = ap payload_length same ∙ sym (good_payload limit f good) in
    absurd (omega arith)

-- what was read is how the text is cut
pub Gathers-cuts : (limit : ℕ) (text : List ℕ) (g : Gathered) (seen : Seen) → (r : Gathers limit text g seen) → Cuts limit text g.frames r.begun
Gathers-cuts limit text g (InHeader bytes) r =
    record { whole = r.whole; each = r.each; no_more = λ f more good e. short_header limit f bytes more r.is_begun.1 (sym r.is_begun.0 ∙ e) }
Gathers-cuts limit text g (Payload came missing) r =
    let (b, in_range, no_fault, came_is, all_is, some) = r.is_begun in
    record { whole = r.whole; each = r.each; no_more = λ f more good e. short_payload limit g.header g.payload f more in_range (omega arith) good (sym b ∙ e) }
Gathers-cuts limit text g (Broken fault) r =
    let small = IsBytes-back text (joined g.frames) r.begun r.whole r.bytes in
    let spells = spelled r.begun small r.is_begun.0 in
    record {
      whole = r.whole;
      each = r.each;
      no_more = λ f more good e.
          bad_header limit (header_of r.begun) fault [] (IsInRange-header_of r.begun small) r.is_begun.1 f more good (append-nil (spelling (header_of r.begun)) ∙ (spells ∙ e));
    }

pub length-begun : (limit : ℕ) (text : List ℕ) (g : Gathered) (seen : Seen) → (r : Gathers limit text g seen) → length r.begun ≡ begun_of seen
length-begun limit text g (InHeader bytes) r = ap length r.is_begun.0
length-begun limit text g (Payload came missing) r =
    let (b, in_range, no_fault, came_is, all_is, some) = r.is_begun in
    ap length b ∙ (length-append (spelling g.header) g.payload ∙ (omega (arith, length-spelling g.header)))
length-begun limit text g (Broken fault) r = r.is_begun.0

pub Gathers-fault : (limit : ℕ) (text : List ℕ) (g : Gathered) (fault : Fault) → Gathers limit text g (Broken fault) → FaultStands limit text (length (joined g.frames)) fault
Gathers-fault limit text g fault r =
    let small = IsBytes-back text (joined g.frames) r.begun r.whole r.bytes in
    let spells = spelled r.begun small r.is_begun.0 in
    record {
      before = g.frames;
      header = header_of r.begun;
      more = [];
      each = r.each;
      fills = refl;
      in_range = IsInRange-header_of r.begun small;
      has_fault = r.is_begun.1;
      whole = r.whole ∙ ap (λ (x : List ℕ). joined g.frames ++ x) (sym spells ∙ sym (append-nil (spelling (header_of r.begun))));
    }

-- ---- where a fault stands

-- it stands there whatever follows
abbrev pub FaultStands-more : (limit : ℕ) (text more : List ℕ) (offset : ℕ) (fault : Fault) → FaultStands limit text offset fault → FaultStands limit (text ++ more) offset fault
FaultStands-more limit text more offset fault s =
    record { before = s.before; header = s.header; more = s.more ++ more; each = s.each; fills = s.fills; in_range = s.in_range; has_fault = s.has_fault; whole = ap (λ (x : List ℕ). x ++ more) s.whole ∙ (append_assoc (joined s.before) (spelling s.header ++ s.more) more ∙ ap (λ (x : List ℕ). joined s.before ++ x) (append_assoc (spelling s.header) s.more more)) }

-- what was read where a fault stands is the fault
pub reads_the_fault : (limit : ℕ) (text : List ℕ) (g : Gathered) (seen : Seen) (offset : ℕ) (fault : Fault) → Gathers limit text g seen → FaultStands limit text offset fault → seen ≡ Broken fault
reads_the_fault limit text g (InHeader bytes) offset fault r s =
    let same = (one_cut limit text _ _ _ _ (Gathers-cuts limit text g (InHeader bytes) r) (Cuts-fault limit text offset fault s)).1 in
    let n : length bytes ≡ 12 + length s.more =
    sym (ap length r.is_begun.0) ∙ (ap length same ∙ (length-append (spelling s.header) s.more ∙ ap (λ (k : ℕ). k + length s.more) (length-spelling s.header))) in
    let short : length bytes < 12 = r.is_begun.1 in
    absurd (omega arith)
reads_the_fault limit text g (Payload came missing) offset fault r s =
    let (b, in_range, no_fault, came_is, all_is, some) = r.is_begun in
    let same = (one_cut limit text _ _ _ _ (Gathers-cuts limit text g (Payload came missing) r) (Cuts-fault limit text offset fault s)).1 in
    let header = same_header g.header s.header g.payload s.more in_range s.in_range (sym b ∙ same) in
    absurd (none_is_none fault (sym s.has_fault ∙ (ap (fault_of limit) (sym header) ∙ no_fault)))
reads_the_fault limit text g (Broken other) offset fault r s =
    ap Broken (one_fault limit text _ _ _ _ (Gathers-fault limit text g other r) s).1

header_fault : (fo : Option Fault) (h : Header) (n : ℕ) (fault : Fault) → Some (item_of fo h) ≡ Some (item.Fault fault) → seen_after fo n ≡ Broken fault
header_fault None h n fault e = cc
header_fault (Some other) h n fault e = cc

part_fault : (limit : ℕ) (bytes input : List ℕ) (fault : Fault) (short : Bool) → nat_lt (length bytes + length input) 12 ≡ short →
    (next_of limit (InHeader bytes) input).item ≡ Some (item.Fault fault) → (next_of limit (InHeader bytes) input).seen ≡ Broken fault
part_fault limit bytes input fault true p = rw p (λ e. cc)
part_fault limit bytes input fault false p = rw p (λ e. header_fault _ _ _ fault e)

piece_fault : (limit came missing : ℕ) (input : List ℕ) (fault : Fault) (empty : Bool) → (length input == 0) ≡ empty →
    (next_of limit (Payload came missing) input).item ≡ Some (item.Fault fault) → (next_of limit (Payload came missing) input).seen ≡ Broken fault
piece_fault limit came missing input fault true p = rw p (λ e. cc)
piece_fault limit came missing input fault false p = rw p (λ e. cc)

-- a call whose item is a fault leaves it
pub next_fault : (limit : ℕ) (seen : Seen) (input : List ℕ) (fault : Fault) → (next_of limit seen input).item ≡ Some (item.Fault fault) → (next_of limit seen input).seen ≡ Broken fault
next_fault limit (InHeader bytes) input fault = part_fault limit bytes input fault _ refl
next_fault limit (Payload came missing) input fault = piece_fault limit came missing input fault _ refl
next_fault limit (Broken other) input fault = λ e. cc

-- ---- lists of calls

-- the calls of one part, and then those of the other
record Halves (limit : ℕ) (seen end : Seen) (a b : List Call) : Type 0 where
  mid : Seen
  first : AreCalls limit seen a mid
  second : AreCalls limit mid b end

split : (limit : ℕ) (seen end : Seen) (a b : List Call) → AreCalls limit seen (a ++ b) end → Halves limit seen end a b
split limit seen end [] b e = record { mid = seen; first = refl; second = e }
split limit seen end (call ∷ a) b (input, small, bytes, item, others) =
    let h = split limit (next_of limit seen input).seen end a b others in
    record { mid = h.mid; first = (input, small, bytes, item, h.first); second = h.second }

text_of-append : (a : List Call) (call : Call) (b : List Call) → text_of (a ++ call ∷ b) ≡ (text_of a ++ call.bytes) ++ text_of b
text_of-append a call b =
    flat_map-append (λ (c : Call). c.bytes) a (call ∷ b) ∙ sym (append_assoc (text_of a) call.bytes (text_of b))

-- a fault is told only where it stands, right after the frames before it
pub fault_told : (limit : ℕ) (before : List Call) (call : Call) (after : List Call) (end : Seen) (fault : Fault) →
    AreCalls limit (InHeader []) (before ++ call ∷ after) end → call.item ≡ Some (item.Fault fault) →
    FaultStands limit (text_of (before ++ call ∷ after)) (length (joined (gathered nothing before).frames)) fault
fault_told limit before call after end fault calls told =
    let h = split limit (InHeader []) end before (call ∷ after) calls in
    let r = reads_calls limit [] nothing (InHeader []) h.mid before (reads_nothing limit) h.first in
    let (input, small, bytes, item, others) = h.second in
    let cut = next_of limit h.mid input in
    let P : List ℕ → Type 0 = λ part. Gathers limit (text_of before ++ part) (gathers (gathered nothing before) part cut.item) cut.seen in
    let next = subst P (sym bytes) (reads_next limit (text_of before) (gathered nothing before) h.mid input small r) in
    let Q : Option Item → Type 0 = λ x. Gathers limit (text_of before ++ call.bytes) (gathers (gathered nothing before) call.bytes x) cut.seen in
    let after_fault = subst Q (sym item ∙ told) next in
    let broken = subst (Gathers limit (text_of before ++ call.bytes) (gathered nothing before)) (next_fault limit h.mid input fault (sym item ∙ told)) after_fault in
    rw (text_of-append before call after)
    (FaultStands-more limit (text_of before ++ call.bytes) (text_of after) _ fault (Gathers-fault limit (text_of before ++ call.bytes) (gathered nothing before) fault broken))

-- after a fault nothing is taken, and it is told again
pub next_broken : (limit : ℕ) (seen : Seen) (input : List ℕ) (fault : Fault) → seen ≡ Broken fault →
    ((next_of limit seen input).taken ≡ 0) × ((next_of limit seen input).item ≡ Some (item.Fault fault)) × ((next_of limit seen input).seen ≡ Broken fault)
next_broken limit seen input fault e = rw e (refl, refl, refl)
