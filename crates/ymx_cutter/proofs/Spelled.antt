-- Bytes and the headers and frames that they spell.
use Rattle.std.proofs.Common.{◌≡◌, ℕ, ◌+◌, ◌*◌, ◌^◌, ◌<◌, List, [], ◌∷◌, ◌++◌, length, get_or, None, arith, sym, ◌∙◌, ap, subst, append-nil, length-append}
use Rattle.std.proofs.lemmas.Grind.{common_steps, flat_map-append}
use Rattle.std.proofs.lemmas.List.{get_or_default}
use Rattle.ymx_header.specs.Headers.{spelling, header_of, IsInRange}
use Rattle.ymx_header.specs.declared.header.Header.{Header}
use Rattle.ymx_header.proofs.Spellings.{spelling-header_of}
use Rattle.ymx_header.specs.Frames.{Frame, frame_spelling, payload_length, fault_of}
use Rattle.ymx_header.proofs.Frames.{header_of-front, IsGood, good, no-fault}
use Rattle.ymx_cutter.specs.Frames.{joined, IsBytes, IsGoodFrame}

-- a byte of a text, or 0 past its end
pub byte_at : (text : List ℕ) → IsBytes text → (k : ℕ) → get_or text k 0 < 256
byte_at text small k = grind (arith, common_steps)

-- the other way: what the type of a slice says of it
pub IsBytes-from_at : (text : List ℕ) → ((k : ℕ) → get_or text k 0 < 256) → IsBytes text
IsBytes-from_at text at = λ k d in_text. rw (get_or_default text k d 0 in_text) (at k)

two_fit : (a b : ℕ) → a < 256 → b < 256 → a * 256 ^ 1 + (b * 256 ^ 0 + 0) < 2 ^ 16
two_fit a b p q = omega arith

four_fit : (a b c d : ℕ) → a < 256 → b < 256 → c < 256 → d < 256 → a * 256 ^ 3 + (b * 256 ^ 2 + (c * 256 ^ 1 + (d * 256 ^ 0 + 0))) < 2 ^ 32
four_fit a b c d p q r s = omega arith

-- the fields that bytes spell fit
pub IsInRange-header_of : (bytes : List ℕ) → IsBytes bytes → IsInRange (header_of bytes)
IsInRange-header_of bytes small =
    let at = byte_at bytes small in
    record {
      version = at 0;
      kind = at 1;
      flags = two_fit _ _ (at 2) (at 3);
      id = four_fit _ _ _ _ (at 4) (at 5) (at 6) (at 7);
      length = four_fit _ _ _ _ (at 8) (at 9) (at 10) (at 11);
    }

-- twelve bytes are the spelling of the header that they spell
pub spelled : (bytes : List ℕ) → IsBytes bytes → length bytes ≡ 12 → spelling (header_of bytes) ≡ bytes
spelled bytes small twelve = spelling-header_of bytes twelve (byte_at bytes small)

-- ---- a frame and its header

-- a header without a fault, and as much payload as it says
pub good_frame : (limit : ℕ) (h : Header) (payload : List ℕ) → IsInRange h → fault_of limit h ≡ None → length payload ≡ payload_length h →
    IsGoodFrame limit (record { header = h; payload = payload })
good_frame limit h payload r none n =
    let bytes = spelling h ++ payload in
    let back = header_of-front h payload r in
    let g : IsGood limit (header_of bytes) = subst (IsGood limit) (sym back) (good limit h none) in
    let l : length bytes ≡ 12 + payload_length h = length-append (spelling h) payload ∙ ap (λ (k : ℕ). 12 + k) n in
    let whole : length bytes ≡ 12 + payload_length (header_of bytes) = l ∙ ap (λ (k : Header). 12 + payload_length k) (sym back) in
    record { in_range = r; is_frame = record { header = omega arith; whole = whole; version = g.version; kind = g.kind; short = g.short } }

pub good_header : (limit : ℕ) (f : Frame) → IsGoodFrame limit f → fault_of limit f.header ≡ None
good_header limit f is = ap (fault_of limit) (sym (header_of-front f.header f.payload is.in_range)) ∙ no-fault limit (frame_spelling f) is.is_frame

pub good_payload : (limit : ℕ) (f : Frame) → IsGoodFrame limit f → length f.payload ≡ payload_length f.header
good_payload limit f is =
    let n : 12 + length f.payload ≡ 12 + payload_length f.header =
    sym (length-append (spelling f.header) f.payload) ∙ (is.is_frame.whole ∙ ap (λ (k : Header). 12 + payload_length k) (header_of-front f.header f.payload is.in_range)) in
    omega arith

-- one more frame
pub joined-push : (frames : List Frame) (f : Frame) → joined (frames ++ f ∷ []) ≡ joined frames ++ frame_spelling f
joined-push frames f = grind (arith, flat_map-append, append-nil)
