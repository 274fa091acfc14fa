-- A call keeps what was read.
use Rattle.std.proofs.Common.{◌≡◌, ℕ, ◌+◌, ◌-◌, ◌<◌, ◌≤◌, ◌==◌, nat_lt, min, List, [], ◌∷◌, ◌++◌, length, drop, take, Bool, true, false, All, Option, Some, None, arith, refl, sym, ◌∙◌, ap, subst, append_assoc, append-nil, length-append, zero-add}
use Rattle.std.proofs.lemmas.Bool.Decides.{nat_tests}
use Rattle.std.proofs.lemmas.List.{take_all, length-take-le, drop_at}
use Rattle.std.proofs.lemmas.List.Elements.{All-append, All-push, All-take, All-drop}
use Rattle.ymx_header.specs.Headers.{spelling, header_of, IsInRange}
use Rattle.ymx_header.specs.declared.header.Header.{Header}
use Rattle.ymx_header.specs.declared.fault.Fault.{Fault}
use Rattle.ymx_header.specs.Frames.{Frame, frame_spelling, fault_of, payload_length}
use Rattle.ymx_cutter.specs.Frames.{joined, IsGoodFrame, IsBytes}
use Rattle.ymx_cutter.specs.Gathered.{Gathered, gathers, with_piece}
use Rattle.ymx_cutter.specs.Cutters.{Seen, Cut, Gathers, next_of, item_of, seen_after, payload_seen}
use Rattle.ymx_cutter.specs.Cutters.Seen.{InHeader, Payload, Broken}
use Rattle.ymx_header.proofs.Spellings.{length-spelling}
use Rattle.ymx_cutter.proofs.Spelled.{IsInRange-header_of, spelled, good_frame, joined-push}

-- one more frame, whose spelling is what was begun
push_frame : (text : List ℕ) (frames : List Frame) (f : Frame) (begun : List ℕ) → text ≡ joined frames ++ begun → begun ≡ frame_spelling f → text ≡ joined (frames ++ f ∷ []) ++ []
push_frame text frames f begun e b =
    e ∙ (ap (λ (x : List ℕ). joined frames ++ x) b ∙ (sym (joined-push frames f) ∙ sym (append-nil (joined (frames ++ f ∷ [])))))

-- more bytes after what was begun
more_begun : (text : List ℕ) (frames : List Frame) (begun part : List ℕ) → text ≡ joined frames ++ begun → text ++ part ≡ joined frames ++ (begun ++ part)
more_begun text frames begun part e = ap (λ (x : List ℕ). x ++ part) e ∙ append_assoc (joined frames) begun part

IsBytes-append : (xs ys : List ℕ) → IsBytes xs → IsBytes ys → IsBytes (xs ++ ys)
IsBytes-append xs ys p q = let P : ℕ → Type 0 = λ b. b < 256 in All-append P xs ys p q

pub IsBytes-take : (n : ℕ) (xs : List ℕ) → IsBytes xs → IsBytes (take n xs)
IsBytes-take n xs p = let P : ℕ → Type 0 = λ b. b < 256 in All-take P n xs p

-- the end of a text is bytes too
pub IsBytes-back : (text front back : List ℕ) → text ≡ front ++ back → IsBytes text → IsBytes back
IsBytes-back text front back e p =
    let P : ℕ → Type 0 = λ b. b < 256 in
    subst IsBytes (ap (drop (length front)) e ∙ drop_at front back (length front) refl) (All-drop P (length front) text p)

payload_begun : (begun front payload part : List ℕ) → begun ≡ front ++ payload → begun ++ part ≡ front ++ (payload ++ part)
payload_begun begun front payload part e = ap (λ (x : List ℕ). x ++ part) e ∙ append_assoc front payload part

pub some_lack : (n : ℕ) → (n == 0) ≡ false → 0 < n
some_lack n e = grind (arith, nat_tests)

pub none_lack : (n : ℕ) → (n == 0) ≡ true → n ≡ 0
none_lack n e = grind (arith, nat_tests)

-- a header that is whole
pub reads_header : (limit : ℕ) (text : List ℕ) (g : Gathered) (part begun : List ℕ) (h : Header) (fault : Option Fault) (none : Bool) →
    IsBytes text → All (IsGoodFrame limit) g.frames → text ≡ joined g.frames ++ begun → begun ≡ spelling h → header_of begun ≡ h → IsInRange h →
    fault_of limit h ≡ fault → (payload_length h == 0) ≡ none →
    Gathers limit text (gathers g part (Some (item_of fault h))) (seen_after fault (payload_length h))
reads_header limit text g part begun h (Some fault) none small each e b back r f p =
    record { bytes = small; each = each; begun = begun; whole = e; is_begun = (ap length b ∙ length-spelling h, ap (fault_of limit) back ∙ f) }
reads_header limit text g part begun h None true small each e b back r f p =
    rw p
    (record {
      bytes = small;
      each = All-push (IsGoodFrame limit) g.frames _ each (good_frame limit h [] r f (sym (none_lack _ p)));
      begun = [];
      whole = push_frame text g.frames _ begun e (b ∙ sym (append-nil (spelling h)));
      is_begun = (refl, omega arith);
    })
reads_header limit text g part begun h None false small each e b back r f p =
    rw p
    (record {
      bytes = small;
      each = each;
      begun = begun;
      whole = e;
      is_begun = (b ∙ sym (append-nil (spelling h)), r, f, refl, sym (zero-add (payload_length h)), some_lack _ p);
    })

-- a piece of payload
pub reads_piece : (limit : ℕ) (text : List ℕ) (g : Gathered) (came missing len : ℕ) (part : List ℕ) (last : Bool) →
    IsBytes part → length part ≡ len → len ≤ missing → Gathers limit text g (Payload came missing) → (missing - len == 0) ≡ last →
    Gathers limit (text ++ part) (with_piece g part last) (payload_seen (came + len) (missing - len))
reads_piece limit text g came missing len part true small n fits r p =
    let (b, in_range, no_fault, came_is, all_is, some) = r.is_begun in
    let ends : missing - len ≡ 0 = none_lack _ p in
    rw p
    (record {
      bytes = IsBytes-append text part r.bytes small;
      each = All-push (IsGoodFrame limit) g.frames _ r.each (good_frame limit g.header (g.payload ++ part) in_range no_fault (length-append g.payload part ∙ (omega arith)));
      begun = [];
      whole = push_frame (text ++ part) g.frames _ (r.begun ++ part) (more_begun text g.frames r.begun part r.whole) (payload_begun r.begun (spelling g.header) g.payload part b);
      is_begun = (refl, omega arith);
    })
reads_piece limit text g came missing len part false small n fits r p =
    let (b, in_range, no_fault, came_is, all_is, some) = r.is_begun in
    rw p
    (record {
      bytes = IsBytes-append text part r.bytes small;
      each = r.each;
      begun = r.begun ++ part;
      whole = more_begun text g.frames r.begun part r.whole;
      is_begun = (payload_begun r.begun (spelling g.header) g.payload part b, in_range, no_fault, length-append g.payload part ∙ (omega arith), omega arith, some_lack _ p);
    })

-- the first bytes of a header
reads_bytes : (limit : ℕ) (text : List ℕ) (g : Gathered) (bytes input : List ℕ) → IsBytes input → length bytes + length input < 12 →
    Gathers limit text g (InHeader bytes) → Gathers limit (text ++ input) g (InHeader (bytes ++ input))
reads_bytes limit text g bytes input small short r =
    record {
      bytes = IsBytes-append text input r.bytes small;
      each = r.each;
      begun = r.begun ++ input;
      whole = more_begun text g.frames r.begun input r.whole;
      is_begun = (ap (λ (x : List ℕ). x ++ input) r.is_begun.0, omega (arith, length-append bytes input));
    }

-- the last bytes of a header
reads_whole : (limit : ℕ) (text : List ℕ) (g : Gathered) (bytes part : List ℕ) → IsBytes part → length bytes + length part ≡ 12 →
    Gathers limit text g (InHeader bytes) →
    (let h = header_of (bytes ++ part) in Gathers limit (text ++ part) (gathers g part (Some (item_of (fault_of limit h) h))) (seen_after (fault_of limit h) (payload_length h)))
reads_whole limit text g bytes part small twelve r =
    let begun : r.begun ++ part ≡ bytes ++ part = ap (λ (x : List ℕ). x ++ part) r.is_begun.0 in
    let whole = more_begun text g.frames r.begun part r.whole in
    let text_small = IsBytes-append text part r.bytes small in
    let bytes_small : IsBytes (bytes ++ part) = IsBytes-back (text ++ part) (joined g.frames) (bytes ++ part) (whole ∙ ap (λ (x : List ℕ). joined g.frames ++ x) begun) text_small in
    reads_header limit (text ++ part) g part (r.begun ++ part) (header_of (bytes ++ part)) _ _
    text_small r.each whole (begun ∙ sym (spelled (bytes ++ part) bytes_small (length-append bytes part ∙ twelve))) (ap header_of begun) (IsInRange-header_of (bytes ++ part) bytes_small) refl refl

pub is_below : (m n : ℕ) → nat_lt m n ≡ true → m < n
is_below m n e = grind (arith, nat_tests)

pub not_below : (m n : ℕ) → nat_lt m n ≡ false → n ≤ m
not_below m n e = grind (arith, nat_tests)

-- what reads keep of a call
abbrev Keeps : ℕ → List ℕ → Gathered → List ℕ → Cut → Type 0
Keeps limit text g input cut = Gathers limit (text ++ take cut.taken input) (gathers g (take cut.taken input) cut.item) cut.seen

-- all of a list, and as much of it as there is
reads_part : (limit : ℕ) (text : List ℕ) (g : Gathered) (bytes input : List ℕ) (short : Bool) → IsBytes input → Gathers limit text g (InHeader bytes) →
    nat_lt (length bytes + length input) 12 ≡ short → Keeps limit text g input (next_of limit (InHeader bytes) input)
reads_part limit text g bytes input true small r p =
    rw (p, take_all (length input) input (omega arith)) (reads_bytes limit text g bytes input small (is_below _ _ p) r)
reads_part limit text g bytes input false small r p =
    let few : length bytes < 12 = r.is_begun.1 in
    let enough = not_below (length bytes + length input) 12 p in
    rw p
    (reads_whole limit text g bytes (take (12 - length bytes) input) (IsBytes-take (12 - length bytes) input small)
    (omega (arith, length-take-le (12 - length bytes) input (omega arith))) r)

pub ends_alike : (len missing : ℕ) → len ≤ missing → (len == missing) ≡ (missing - len == 0)
ends_alike len missing fits = grind (arith, nat_tests)

reads_some : (limit : ℕ) (text : List ℕ) (g : Gathered) (came missing : ℕ) (input : List ℕ) (empty : Bool) → IsBytes input → Gathers limit text g (Payload came missing) →
    (length input == 0) ≡ empty → Keeps limit text g input (next_of limit (Payload came missing) input)
reads_some limit text g came missing input true small r p = rw (p, append-nil text) r
reads_some limit text g came missing input false small r p =
    let len = min (length input) missing in
    let part = take len input in
    let enough : len ≤ length input = omega arith in
    let fits : len ≤ missing = omega arith in
    rw (p, ends_alike len missing fits)
    (reads_piece limit text g came missing len part _ (IsBytes-take len input small) (length-take-le len input enough) fits r refl)

-- A call keeps what was read: its bytes go on with the text, and its item with what was gathered.
pub reads_next : (limit : ℕ) (text : List ℕ) (g : Gathered) (seen : Seen) (input : List ℕ) → IsBytes input → Gathers limit text g seen →
    (let cut = next_of limit seen input in Gathers limit (text ++ take cut.taken input) (gathers g (take cut.taken input) cut.item) cut.seen)
reads_next limit text g (InHeader bytes) input small r = reads_part limit text g bytes input _ small r refl
reads_next limit text g (Payload came missing) input small r = reads_some limit text g came missing input _ small r refl
reads_next limit text g (Broken fault) input small r = rw (append-nil text) r
