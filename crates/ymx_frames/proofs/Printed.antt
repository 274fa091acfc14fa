-- What a printer keeps, item by item.
use Rattle.std.proofs.Common.{◌≡◌, ℕ, ◌+◌, ◌-◌, ◌^◌, ◌==◌, min, List, [], ◌∷◌, ◌++◌, length, Bool, true, false, All, Option, Some, arith, refl, sym, ◌∙◌, ap, subst, append_assoc, length-append}
use Rattle.std.proofs.lemmas.Bool.Decides.{nat_tests}
use Rattle.std.proofs.lemmas.List.{flat_map_more}
use Rattle.std.proofs.lemmas.List.Elements.{All-pop}
use Rattle.ymx_header.specs.Headers.{spelling, header_of}
use Rattle.ymx_header.specs.declared.header.Header.{Header}
use Rattle.ymx_cutter.specs.declared.item.Item.{Item}
use Rattle.ymx_cutter.specs.declared.item.Item.TheVariants as item
use Rattle.ymx_header.specs.Frames.{Frame, frame_spelling, payload_length}
use Rattle.ymx_cutter.specs.Frames.{joined, IsGoodFrame}
use Rattle.ymx_cutter.specs.Gathered.{Gathered, nothing, gathers, with_frame}
use Rattle.ymx_cutter.specs.Cutters.{Seen, Gathers, Cutting}
use Rattle.ymx_cutter.specs.Cutters.Seen.{InHeader}
use Rattle.ymx_cutter.proofs.Runs.{reads_nothing}
use Rattle.ymx_cutter.proofs.Spelled.{good_payload, joined-push}
use Rattle.ymx_frames.specs.declared.printer.Printer.{Printer}
use Rattle.ymx_frames.specs.Lines.{Preview, line, line_text, lines, preview}
use Rattle.ymx_frames.specs.Printing.{HasPrinted}

-- one more frame is longer by its header and its payload
length-joined : (limit : ℕ) (frames : List Frame) (f : Frame) → All (IsGoodFrame limit) (frames ++ f ∷ []) → length (joined (frames ++ f ∷ [])) ≡ length (joined frames) + (12 + payload_length f.header)
length-joined limit frames f each =
    let last = (All-pop (IsGoodFrame limit) (frames ++ f ∷ []) frames (Some f) refl each).1 in
    ap length (joined-push frames f) ∙ length-append (joined frames) (frame_spelling f)
    ∙ ap (λ (n : ℕ). length (joined frames) + n) (length-append (spelling f.header) f.payload ∙ ap (λ (n : ℕ). 12 + n) (good_payload limit f last))

-- a place moves on, as far as 64 bits go
place_on : (place before n after most : ℕ) → place ≡ min before most → after ≡ min (place + n) most → after ≡ min (before + n) most
place_on place before n after most p q = omega arith

-- a call of a cutter keeps what was read, also where its limit has another name
pub reads_on : (limit own : ℕ) (text part : List ℕ) (g g' : Gathered) (seen seen' : Seen) → own ≡ limit → (Gathers own text g seen → Gathers own part g' seen') → Gathers limit text g seen → Gathers limit part g' seen'
reads_on limit own text part g g' seen seen' e f r = subst (λ n. Gathers n part g' seen') e (f (subst (λ n. Gathers n text g seen) (sym e) r))

-- a frame is whole, and its line is printed
pub frame_printed : (limit : ℕ) (text output text' output' : List ℕ) (p q : Printer) (pr : HasPrinted limit text output p) (g : Gathered) (h : Header) (payload : List ℕ) (cut : Cutting) →
    g ≡ with_frame pr.gathered h payload → q.cutter ≡ cut → Gathers limit text' g cut.seen → cut.limit ≡ limit → q.header ≡ h → q.preview ≡ preview [] →
    q.offset ≡ min (p.offset + (12 + payload_length h)) (2 ^ 64 - 1) → output' ≡ output ++ line_text h (preview payload) → HasPrinted limit text' output' q
frame_printed limit text output text' output' p q pr g h payload cut e cutter reads limited header shown placed printed =
    let f : Frame = record { header = h; payload = payload } in
    let frames : g.frames ≡ pr.gathered.frames ++ f ∷ [] = ap (λ (x : Gathered). x.frames) e in
    let each : All (IsGoodFrame limit) (pr.gathered.frames ++ f ∷ []) = subst (All (IsGoodFrame limit)) frames reads.each in
    let long : length (joined g.frames) ≡ length (joined pr.gathered.frames) + (12 + payload_length h) =
    ap (λ (fs : List Frame). length (joined fs)) frames ∙ length-joined limit pr.gathered.frames f each in
    record {
      gathered = g;
      reads = subst (λ (x : Cutting). Gathers limit text' g x.seen) (sym cutter) reads;
      limited = ap (λ (x : Cutting). x.limit) cutter ∙ limited;
      header = header ∙ sym (ap (λ (x : Gathered). x.header) e);
      shown = shown ∙ ap preview (sym (ap (λ (x : Gathered). x.payload) e));
      placed = place_on _ _ _ _ _ pr.placed placed ∙ ap (λ (n : ℕ). min n (2 ^ 64 - 1)) (sym long);
      printed = printed ∙ ap (λ (l : List ℕ). l ++ line f) pr.printed ∙ flat_map_more line [] pr.gathered.frames f ∙ ap lines (sym frames);
    }

-- more of a frame has come, and nothing is printed
pub frame_begun : (limit : ℕ) (text output text' : List ℕ) (p q : Printer) (pr : HasPrinted limit text output p) (g : Gathered) →
    g.frames ≡ pr.gathered.frames → Gathers limit text' g q.cutter.seen → q.cutter.limit ≡ limit → q.header ≡ g.header → q.preview ≡ preview g.payload →
    q.offset ≡ p.offset → HasPrinted limit text' output q
frame_begun limit text output text' p q pr g frames reads limited header shown placed =
    record {
      gathered = g;
      reads = reads;
      limited = limited;
      header = header;
      shown = shown;
      placed = placed ∙ pr.placed ∙ ap (λ (fs : List Frame). min (length (joined fs)) (2 ^ 64 - 1)) (sym frames);
      printed = pr.printed ∙ ap lines (sym frames);
    }

no_payload : (n : ℕ) → n ≡ 0 → (n == 0) ≡ true
no_payload n e = grind (arith, nat_tests)

some_payload : (n : ℕ) → (n ≡ 0 → ⊥) → (n == 0) ≡ false
some_payload n e = grind (arith, nat_tests)

-- a header that no payload follows makes a frame
pub gathers-whole : (g : Gathered) (part : List ℕ) (i : Option Item) (h : Header) → i ≡ Some (item.Head h) → payload_length h ≡ 0 → gathers g part i ≡ with_frame g h []
gathers-whole g part i h e none = rw (e, no_payload _ none) refl

-- one that a payload follows begins a frame
pub gathers-head : (g : Gathered) (part : List ℕ) (i : Option Item) (h : Header) → i ≡ Some (item.Head h) → (payload_length h ≡ 0 → ⊥) → gathers g part i ≡ record { frames = g.frames; header = h; payload = [] }
gathers-head g part i h e some = rw (e, some_payload _ some) refl

pub gathers-last : (g : Gathered) (part : List ℕ) (i : Option Item) (len : ℕ) (last : Bool) → i ≡ Some (item.Piece len last) → last ≡ true → gathers g part i ≡ with_frame g g.header (g.payload ++ part)
gathers-last g part i len last e l = rw (e, l) refl

pub gathers-more : (g : Gathered) (part : List ℕ) (i : Option Item) (len : ℕ) (last : Bool) → i ≡ Some (item.Piece len last) → last ≡ false → gathers g part i ≡ record { frames = g.frames; header = g.header; payload = g.payload ++ part }
gathers-more g part i len last e l = rw (e, l) refl

-- a line after what was printed
pub line_after : (done old new : List ℕ) (h : Header) (p : Preview) (payload : List ℕ) → new ≡ old ++ line_text h p → p ≡ preview payload → done ++ new ≡ (done ++ old) ++ line_text h (preview payload)
line_after done old new h p payload e shown =
    ap (λ (l : List ℕ). done ++ l) (e ∙ ap (λ (x : Preview). old ++ line_text h x) shown) ∙ sym (append_assoc done old (line_text h (preview payload)))

-- nothing was read
pub nothing_printed : (limit : ℕ) (p : Printer) → p.cutter ≡ record { limit = limit; seen = InHeader [] } → p.header ≡ header_of (0 ∷ 0 ∷ 0 ∷ 0 ∷ 0 ∷ 0 ∷ 0 ∷ 0 ∷ 0 ∷ 0 ∷ 0 ∷ 0 ∷ []) →
    p.preview ≡ preview [] → p.offset ≡ 0 → HasPrinted limit [] [] p
nothing_printed limit p cutter header shown placed =
    record {
      gathered = nothing;
      reads = rw (ap (λ (x : Cutting). x.seen) cutter) (reads_nothing limit);
      limited = ap (λ (x : Cutting). x.limit) cutter;
      header = header ∙ refl;
      shown = shown;
      placed = placed;
      printed = refl;
    }
