-- A text is cut in one way alone.
use Rattle.std.proofs.Common.{◌≡◌, ℕ, List, ◌++◌, length, Some, None, sym, ◌∙◌, ap, append_assoc}
use Rattle.std.proofs.lemmas.List.{append_cancel_left}
use Rattle.ymx_header.specs.Headers.{spelling, header_of, IsInRange}
use Rattle.ymx_header.specs.declared.header.Header.{Header}
use Rattle.ymx_header.specs.declared.fault.Fault.{Fault}
use Rattle.ymx_header.specs.Frames.{Frame, frame_spelling, fault_of}
use Rattle.ymx_header.proofs.Frames.{header_of-front, same-frame, NoneBegins, one-cut}
use Rattle.ymx_cutter.specs.Frames.{joined, IsGoodFrame}
use Rattle.ymx_cutter.specs.Cuts.{Cuts, FaultStands}
use Rattle.ymx_cutter.proofs.Spelled.{good_header}

-- headers at the front of one text are one
pub same_header : (h k : Header) (xs ys : List ℕ) → IsInRange h → IsInRange k → spelling h ++ xs ≡ spelling k ++ ys → h ≡ k
same_header h k xs ys p q e = sym (header_of-front h xs p) ∙ (ap header_of e ∙ header_of-front k ys q)

pub same_rest : (h k : Header) (xs ys : List ℕ) → h ≡ k → spelling h ++ xs ≡ spelling k ++ ys → xs ≡ ys
same_rest h k xs ys same e =
    append_cancel_left (spelling h) xs ys (e ∙ ap (λ (x : Header). spelling x ++ ys) (sym same))

frames_alike : (f g : Frame) → f.header ≡ g.header → f.payload ≡ g.payload → f ≡ g
frames_alike f g p q = λ i. record { header = p i; payload = q i }

-- frames at the front of one text are one
pub same_frame : (limit : ℕ) (f g : Frame) (a b : List ℕ) → IsGoodFrame limit f → IsGoodFrame limit g → frame_spelling f ++ a ≡ frame_spelling g ++ b → (f ≡ g) × (a ≡ b)
same_frame limit f g a b p q e =
    let same = same-frame limit (frame_spelling f) (frame_spelling g) a b p.is_frame q.is_frame e in
    let h = same_header f.header g.header f.payload g.payload p.in_range q.in_range same.0 in
    (frames_alike f g h (same_rest f.header g.header _ _ h same.0), same.1)

-- what follows the frames doesn't begin with one
abbrev pub NoMore : ℕ → List ℕ → Type 0
NoMore limit rest = NoneBegins Frame frame_spelling (IsGoodFrame limit) rest

pub one_cut : (limit : ℕ) (text : List ℕ) (frames others : List Frame) (rest left : List ℕ) → Cuts limit text frames rest → Cuts limit text others left → (frames ≡ others) × (rest ≡ left)
one_cut limit text frames others rest left c d =
    one-cut Frame frame_spelling (IsGoodFrame limit) (record { only = same_frame limit }) frames others rest left c.each d.each c.no_more d.no_more (sym c.whole ∙ d.whole)

pub none_is_none : (fault : Fault) → Some fault ≡ None → ⊥
none_is_none fault e = cc

-- a header with a fault begins no frame
pub bad_header : (limit : ℕ) (h : Header) (fault : Fault) (more : List ℕ) → IsInRange h → fault_of limit h ≡ Some fault → NoMore limit (spelling h ++ more)
bad_header limit h fault more r bad f rest good e =
    let same = same_header h f.header more (f.payload ++ rest) r good.in_range (e ∙ append_assoc (spelling f.header) f.payload rest) in
    none_is_none fault (sym bad ∙ (ap (fault_of limit) same ∙ good_header limit f good))

-- where a fault stands, the frames before it are the frames of the text
pub Cuts-fault : (limit : ℕ) (text : List ℕ) (offset : ℕ) (fault : Fault) → (s : FaultStands limit text offset fault) → Cuts limit text s.before (spelling s.header ++ s.more)
Cuts-fault limit text offset fault s =
    record { whole = s.whole; each = s.each; no_more = bad_header limit s.header fault s.more s.in_range s.has_fault }

some_alike : (f g : Fault) → Some f ≡ Some g → f ≡ g
some_alike f g e = cc

pub one_fault : (limit : ℕ) (text : List ℕ) (m n : ℕ) (f g : Fault) → FaultStands limit text m f → FaultStands limit text n g → (m ≡ n) × (f ≡ g)
one_fault limit text m n f g s t =
    let same = one_cut limit text _ _ _ _ (Cuts-fault limit text m f s) (Cuts-fault limit text n g t) in
    let header = same_header s.header t.header s.more t.more s.in_range t.in_range same.1 in (
      sym s.fills ∙ (ap (λ (fs : List Frame). length (joined fs)) same.0 ∙ t.fills),
      some_alike f g (sym s.has_fault ∙ (ap (fault_of limit) header ∙ t.has_fault)),
    )
