-- A text begins with one frame alone, and is frames in one way alone.
use Rattle.std.proofs.Common.{◌≡◌, ℕ, ◌+◌, ◌≤◌, List, [], ◌∷◌, ◌++◌, length, take, drop, All, None, refl, sym, ◌∙◌, ap, arith, append_assoc, length-append}
use Rattle.std.specs.List.{concat, flat_map}
use Rattle.std.proofs.lemmas.Grind.{common_steps}
use Rattle.std.proofs.lemmas.Bool.Decides.{nat_tests}
use Rattle.std.proofs.lemmas.List.{take_at, drop_at, get_or_append_left}
use Rattle.std.proofs.lemmas.List.Concat.{concat_is}
use Rattle.std.proofs.lemmas.List.Elements.{All-head, All-tail}
use Rattle.ymx_header.specs.declared.header.Header.{Header}
use Rattle.ymx_header.specs.Headers.{spelling, header_of, IsInRange}
use Rattle.ymx_header.specs.Frames.{payload_length, fault_of, IsFrame}
use Rattle.ymx_header.proofs.Spellings.{header_of-spelling}

-- ---- the header at the front

-- the header of a text is that of its first twelve bytes
pub header_of-append : (a b : List ℕ) → 12 ≤ length a → header_of (a ++ b) ≡ header_of a
header_of-append a b l = grind (arith, common_steps, get_or_append_left a b 0)

-- a header is read from the front of what follows it
pub header_of-front : (h : Header) (xs : List ℕ) → IsInRange h → header_of (spelling h ++ xs) ≡ h
header_of-front h xs r = header_of-append (spelling h) xs (omega arith) ∙ header_of-spelling h r

-- ---- no fault

-- a header of this version, with one of the four types and no longer payload, has no fault
pub no-fault-here : (h : Header) (limit : ℕ) → h.version ≡ 0 → h.kind ≤ 3 → payload_length h ≤ limit → fault_of limit h ≡ None
no-fault-here h limit v k l = grind (arith, nat_tests)

-- no fault is in the header of a frame
pub no-fault : (limit : ℕ) (bytes : List ℕ) → IsFrame limit bytes → fault_of limit (header_of bytes) ≡ None
no-fault limit bytes f = no-fault-here (header_of bytes) limit f.version f.kind f.short

-- a receiver with a wider limit takes it too
pub wider : (limit more : ℕ) (bytes : List ℕ) → limit ≤ more → IsFrame limit bytes → IsFrame more bytes
wider limit more bytes l f = record { header = f.header; whole = f.whole; version = f.version; kind = f.kind; short = omega (arith, f.short) }

-- what a header without a fault says of its version, its type and its payload
pub record IsGood (limit : ℕ) (h : Header) : Type 0 where
  pub version : h.version ≡ 0
  pub kind : h.kind ≤ 3
  pub short : payload_length h ≤ limit

pub good : (limit : ℕ) (h : Header) → fault_of limit h ≡ None → IsGood limit h
good limit h e = record { version = grind (arith, nat_tests); kind = grind (arith, nat_tests); short = grind (arith, nat_tests) }

-- ---- the frame at the front

-- lists of one length at the front of one text are one
pub same-front : (a b c d : List ℕ) → length a ≡ length c → a ++ b ≡ c ++ d → (a ≡ c) × (b ≡ d)
same-front a b c d n e =
    let front : a ≡ c = sym (take_at a b (length a) refl) ∙ (ap (take (length a)) e ∙ take_at c d (length a) (sym n)) in
    let back : b ≡ d = sym (drop_at a b (length a) refl) ∙ (ap (drop (length a)) e ∙ drop_at c d (length a) (sym n)) in
    (front, back)

-- frames at the front of one text are one: each is as long as its header says
pub same-frame : (limit : ℕ) (f g a b : List ℕ) → IsFrame limit f → IsFrame limit g → f ++ a ≡ g ++ b → (f ≡ g) × (a ≡ b)
same-frame limit f g a b p q e =
    let same : header_of f ≡ header_of g = sym (header_of-append f a p.header) ∙ ap header_of e ∙ header_of-append g b q.header in
    same-front f a g b (p.whole ∙ ap (λ (h : Header). 12 + payload_length h) same ∙ sym q.whole) e

-- ---- a text

-- What is spelled so that no spelling begins another.
pub record IsCode (F : Type 0) (spell : F → List ℕ) (IsOne : F → Type 0) : Type 0 where
  pub only : (f g : F) (a b : List ℕ) → IsOne f → IsOne g → spell f ++ a ≡ spell g ++ b → (f ≡ g) × (a ≡ b)

-- none of these begins the text
abbrev pub NoneBegins : (F : Type 0) (spell : F → List ℕ) (IsOne : F → Type 0) → List ℕ → Type 0
NoneBegins F spell IsOne text = (f : F) (more : List ℕ) → IsOne f → text ≡ spell f ++ more → ⊥

cons-same : (F : Type 0) (f g : F) (fs gs : List F) → f ≡ g → fs ≡ gs → f ∷ fs ≡ g ∷ gs
cons-same F f g fs gs p q = cc

-- A text is spelled in one way alone, up to where nothing begins any more.
pub one-cut : (F : Type 0) (spell : F → List ℕ) (IsOne : F → Type 0) → IsCode F spell IsOne → (fs gs : List F) (r s : List ℕ) →
    All IsOne fs → All IsOne gs → NoneBegins F spell IsOne r → NoneBegins F spell IsOne s →
    flat_map spell fs ++ r ≡ flat_map spell gs ++ s → (fs ≡ gs) × (r ≡ s)
one-cut F spell IsOne code [] [] r s p q m n e = (refl, e)
one-cut F spell IsOne code [] (g ∷ gs) r s p q m n e =
    absurd (m g (flat_map spell gs ++ s) (All-head IsOne g gs q) (e ∙ append_assoc (spell g) (flat_map spell gs) s))
one-cut F spell IsOne code (f ∷ fs) [] r s p q m n e =
    absurd (n f (flat_map spell fs ++ r) (All-head IsOne f fs p) (sym e ∙ append_assoc (spell f) (flat_map spell fs) r))
one-cut F spell IsOne code (f ∷ fs) (g ∷ gs) r s p q m n e =
    let e' : spell f ++ (flat_map spell fs ++ r) ≡ spell g ++ (flat_map spell gs ++ s) =
    sym (append_assoc (spell f) (flat_map spell fs) r) ∙ (e ∙ append_assoc (spell g) (flat_map spell gs) s) in
    let first = code.only f g _ _ (All-head IsOne f fs p) (All-head IsOne g gs q) e' in
    let others = one-cut F spell IsOne code fs gs r s (All-tail IsOne f fs p) (All-tail IsOne g gs q) m n first.1 in
    (cons-same F f g fs gs first.0 others.0, others.1)

-- ---- frames as lists of bytes

no-frame : (limit : ℕ) → NoneBegins (List ℕ) (λ f. f) (IsFrame limit) []
no-frame limit f more one e = let z = ap length e in let l = one.header in omega (arith, length-append f more)

-- Bytes that are frames are frames in one way alone.
pub one-text : (limit : ℕ) (fs gs : List (List ℕ)) → All (IsFrame limit) fs → All (IsFrame limit) gs → concat fs ≡ concat gs → fs ≡ gs
one-text limit fs gs p q e =
    let same : flat_map (λ f. f) fs ++ [] ≡ flat_map (λ f. f) gs ++ [] = ap (λ (t : List ℕ). t ++ []) (sym (concat_is fs) ∙ (e ∙ concat_is gs)) in
    (one-cut (List ℕ) (λ f. f) (IsFrame limit) (record { only = same-frame limit }) fs gs [] [] p q (no-frame limit) (no-frame limit) same).0
