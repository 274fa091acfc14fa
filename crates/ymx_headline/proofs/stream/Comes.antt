-- Whatever part comes, whatever state the stream is in: moves of the machine.
use Rattle.std.proofs.Common.{◌≡◌, ℕ, List, [], ◌∷◌, ◌++◌, length, Bool, true, false, ◌⊎◌, inl, inr, refl, ◌∙◌, subst, append-nil, arith}
use Rattle.ymx_machine.specs.stream.Lanes.{lane_arrive, lane_vanish}
use Rattle.ymx_machine.specs.stream.Streams.{Stream, flip, Allowed, after_move}
use Rattle.ymx_machine.specs.shared.Phases.{takes}
use Rattle.ymx_machine.specs.shared.Phases.Phase.{Unborn, Offered}
use Rattle.ymx_machine.specs.stream.Streams.Move.{Arrive, EndArrives, Return, SynOffered, SynRefused, AckArrives, ResetArrives}
use Rattle.ymx_model.specs.session.Records.{End, new_end, reader_arrive, reader_end, takes_payload, receive_data, receive_credit, receive_ack, receive_fin}
use Rattle.ymx_model.specs.session.Parts.{Part}
use Rattle.ymx_model.specs.session.Parts.Part.{Syn, Ack, Data, Credit, Fin, Rst}
use Rattle.ymx_headline.specs.stream.Flight.{loads}
use Rattle.ymx_headline.specs.stream.Links.{Alive, Heard, Related}
use Rattle.ymx_headline.specs.stream.Arrivals.{receive_syn, comes_to, MovesOf, Goes}
use Rattle.ymx_headline.proofs.stream.Flight.{no_list}
use Rattle.ymx_headline.proofs.stream.Directions.{lists}
use Rattle.ymx_headline.proofs.stream.Heard.{said-over, said-ack, said-piece, said-credit, said-fin, said-rst}
use Rattle.ymx_headline.proofs.stream.Arrives.{syn-only, taken, vanished, data-nothing, data-over, credited, credit-lapses, acknowledged, fin-taken, fin-ignored, fin-allowed, offered, refused, rst-comes, syn-finds}
use Rattle.ymx_headline.proofs.stream.Phases.{down}
use Rattle.ymx_machine.proofs.Tests.{when}

alive-is : (wx wy : ℕ) (x x' y : End) (xy yx : List Part) (s s' : Stream) → x' ≡ x → s' ≡ s → Alive wx wy x y xy yx s → Alive wx wy x' y xy yx s'
alive-is wx wy x x' y xy yx s s' a b c = rw (a, b) c

arrives-is : (n : ℕ) (s : Stream) → takes s.me ≡ true → after_move (Arrive n) s ≡ record s { inbound = lane_arrive n s.inbound }
arrives-is n s t = grind arith

vanishes-is : (n : ℕ) (s : Stream) → takes s.me ≡ false → after_move (Arrive n) s ≡ record s { inbound = lane_vanish n s.inbound }
vanishes-is n s t = grind arith

takes_payload-is : (bytes : List ℕ) (x : End) → takes x.phase ≡ true → x.reader.ended ≡ false → receive_data bytes x ≡ record x { reader = reader_arrive bytes x.reader }
takes_payload-is bytes x t e = grind arith

takes_none-is : (bytes : List ℕ) (x : End) → takes_payload x ≡ false → receive_data bytes x ≡ x
takes_none-is bytes x t = grind arith

fin-is : (x : End) → takes x.phase ≡ true → x.reader.ended ≡ false → receive_fin x ≡ record x { reader = reader_end x.reader; marks = record x.marks { credit_at_once = false } }
fin-is x t e = grind arith

fin_none-is : (x : End) → takes_payload x ≡ false → receive_fin x ≡ x
fin_none-is x t = grind arith

-- ---- credit

credit-alive : (d : ℕ) (wx wy : ℕ) (x y : End) (xy yx : List Part) (s : Stream) → (x.phase ≡ Unborn → ⊥) → Alive wx wy x y xy (Credit d ∷ yx) s →
    ((takes x.phase ≡ true) × Allowed (Return d) s × Alive wx wy (receive_credit d x) y xy yx (after_move (Return d) s))
    ⊎ ((takes x.phase ≡ false) × Alive wx wy (receive_credit d x) y xy yx s)
credit-alive d wx wy x y xy yx s n c = elim (when (takes x.phase)) [
  | inl t ↦ inl (t, (let m = c.outbound.phase in let o = c.outbound.holds in grind arith), rw t (credited d wx wy x y xy yx s t c))
  | inr t ↦ inr (t, rw t (credit-lapses d wx wy x y xy yx s (down x.phase t n) c))
]

-- ---- payload

empty-left : (xs ys : List ℕ) → xs ++ ys ≡ [] → xs ≡ []
empty-left [] ys e = refl
empty-left (x ∷ xs) ys e = absurd (cc)

-- after the end there is no payload
pub ended-empty : (bytes rest : List ℕ) (wx wy : ℕ) (x y : End) (xy yx : List Part) (s : Stream) →
    takes x.phase ≡ true → x.reader.ended ≡ true → Alive wx wy x y xy (Data (bytes ++ rest) ∷ yx) s → bytes ≡ []
ended-empty bytes rest wx wy x y xy yx s t e c =
    let f = c.inbound.finishes.ended in let o = c.inbound.finishes.over in
    let k : (bytes ++ rest) ++ loads yx ≡ [] = grind arith in
    empty-left bytes rest (empty-left (bytes ++ rest) (loads yx) k)

piece-alive : (refuse : Bool) (bytes rest : List ℕ) (wx wy : ℕ) (x y : End) (xy yx : List Part) (s : Stream) → Alive wx wy x y xy (Data (bytes ++ rest) ∷ yx) s →
    (t : Stream) × Goes refuse (Data bytes) s t × Alive wx wy (receive_data bytes x) y xy (Data rest ∷ yx) t
piece-alive refuse bytes rest wx wy x y xy yx s c = go (when (takes x.phase)) (when x.reader.ended)
  where
    me : takes s.me ≡ takes x.phase
    me = rw c.outbound.phase refl

    allowed : Allowed (Arrive (length bytes)) s
    allowed = let n = syn-only wx wy x y xy (Data (bytes ++ rest)) yx s refl c in let m = c.outbound.phase in let w = c.inbound.holds.way in grind (arith, lists)

    go : (takes x.phase ≡ true) ⊎ (takes x.phase ≡ false) → (x.reader.ended ≡ true) ⊎ (x.reader.ended ≡ false) →
        (t : Stream) × Goes refuse (Data bytes) s t × Alive wx wy (receive_data bytes x) y xy (Data rest ∷ yx) t
    go (inl t) (inl e) = (
      s,
      ([], inl refl, refl),
      alive-is wx wy x _ y xy _ s _ (takes_none-is bytes x (grind arith)) refl (data-nothing bytes rest wx wy x y xy yx s (ended-empty bytes rest wx wy x y xy yx s t e c) c),
    )
    go (inl t) (inr e) = (
      after_move (Arrive (length bytes)) s,
      (Arrive (length bytes) ∷ [], inr refl, (allowed, refl)),
      alive-is wx wy _ _ y xy _ _ _ (takes_payload-is bytes x t e) (arrives-is (length bytes) s (me ∙ t)) (taken bytes rest wx wy x y xy yx s t c),
    )
    go (inr t) e = (
      after_move (Arrive (length bytes)) s,
      (Arrive (length bytes) ∷ [], inr refl, (allowed, refl)),
      alive-is wx wy x _ y xy _ _ _ (takes_none-is bytes x (grind arith)) (vanishes-is (length bytes) s (me ∙ t))
          (vanished bytes rest wx wy x y xy yx s (down x.phase t (syn-only wx wy x y xy (Data (bytes ++ rest)) yx s refl c)) c),
    )

-- ---- the end

fin-alive : (refuse : Bool) (wx wy : ℕ) (x y : End) (xy yx : List Part) (s : Stream) → Alive wx wy x y xy (Fin ∷ yx) s →
    (t : Stream) × Goes refuse Fin s t × Alive wx wy (receive_fin x) y xy yx t
fin-alive refuse wx wy x y xy yx s c = (
  after_move EndArrives s,
  (EndArrives ∷ [], inr refl, (fin-allowed wx wy x y xy yx s born c, refl)),
  go (when (takes x.phase)),
)
  where
    born : x.phase ≡ Unborn → ⊥
    born = syn-only wx wy x y xy Fin yx s refl c

    open_still : takes x.phase ≡ true → x.reader.ended ≡ false
    open_still t = let f = c.inbound.finishes.ended in let o = c.inbound.finishes.said in grind arith

    go : (takes x.phase ≡ true) ⊎ (takes x.phase ≡ false) → Alive wx wy (receive_fin x) y xy yx (after_move EndArrives s)
    go (inl t) = alive-is wx wy _ _ y xy _ _ _ (fin-is x t (open_still t)) refl (fin-taken wx wy x y xy yx s t c)
    go (inr t) = alive-is wx wy x _ y xy _ _ _ (fin_none-is x (grind arith)) refl (fin-ignored wx wy x y xy yx s (down x.phase t born) c)

-- ---- SYN

syn-alive : (refuse : Bool) (d wx wy : ℕ) (x y : End) (xy yx : List Part) (s : Stream) → Alive wx wy x y xy (Syn d ∷ yx) s →
    (t : Stream) × Goes refuse (Syn d) s t × Alive wx wy (receive_syn refuse wx d) y xy yx t
syn-alive true d wx wy x y xy yx s c =
    let e = c.outbound.sleeps.new (syn-finds d wx wy x y xy yx s c).0 in
    let r = refused d wx wy y xy yx s (subst (λ f. Alive wx wy f y xy (Syn d ∷ yx) s) e c) in
    (after_move SynRefused s, (SynRefused ∷ [], refl, (r.0, refl)), r.1)
syn-alive false d wx wy x y xy yx s c =
    let e = c.outbound.sleeps.new (syn-finds d wx wy x y xy yx s c).0 in
    let r = offered d wx wy y xy yx s (subst (λ f. Alive wx wy f y xy (Syn d ∷ yx) s) e c) in
    let a : Allowed (Return d) (after_move SynOffered s) = let o = r.1.outbound.holds in grind arith in
    (after_move (Return d) (after_move SynOffered s), (SynOffered ∷ Return d ∷ [], refl, (r.0, (a, refl))), credited d wx wy (new_end wx Offered false false) y xy yx (after_move SynOffered s) refl r.1)

-- ---- any part

alive-comes : (refuse : Bool) (f : Part) (wx wy : ℕ) (x y : End) (xy yx : List Part) (s : Stream) →
    Alive wx wy x y xy (f ∷ yx) s → (t : Stream) × Goes refuse f s t × Related wx wy (comes_to refuse wx f x) y xy yx t
alive-comes refuse (Syn d) wx wy x y xy yx s c = let r = syn-alive refuse d wx wy x y xy yx s c in (r.0, r.1, inl r.2)
alive-comes refuse (Ack d) wx wy x y xy yx s c =
    let a = acknowledged d wx wy x y xy yx s c in
    elim (credit-alive d wx wy (receive_ack x) y xy yx (after_move AckArrives s) (syn-only wx wy x y xy (Ack d) yx s refl c) a.1) [
      | inl r ↦ (after_move (Return d) (after_move AckArrives s), (AckArrives ∷ Return d ∷ [], inr (inr refl), (a.0, (r.1, refl))), inl r.2)
      | inr r ↦ (after_move AckArrives s, (AckArrives ∷ [], inr (inl refl), (a.0, refl)), inl r.1)
    ]
alive-comes refuse (Data b) wx wy x y xy yx s c =
    let r = piece-alive refuse b [] wx wy x y xy yx s (rw append-nil c) in
    (r.0, r.1, inl (data-over wx wy (receive_data b x) y xy yx r.0 r.2))
alive-comes refuse (Credit d) wx wy x y xy yx s c =
    elim (credit-alive d wx wy x y xy yx s (syn-only wx wy x y xy (Credit d) yx s refl c) c) [
      | inl r ↦ (after_move (Return d) s, (Return d ∷ [], inr refl, (r.1, refl)), inl r.2)
      | inr r ↦ (s, ([], inl refl, refl), inl r.1)
    ]
alive-comes refuse Fin wx wy x y xy yx s c = let r = fin-alive refuse wx wy x y xy yx s c in (r.0, r.1, inl r.2)
alive-comes refuse Rst wx wy x y xy yx s c =
    let r = rst-comes wx wy x y xy yx s c in
    (after_move ResetArrives s, (ResetArrives ∷ [], inr refl, (r.0, refl)), inr (inl r.1))

-- at the side whose reset has arrived nothing moves
said-comes : (refuse : Bool) (f : Part) (wx wy : ℕ) (x y : End) (xy yx : List Part) (s : Stream) →
    Heard wx wy x y (f ∷ xy) yx s → MovesOf refuse f [] × Heard wx wy x (comes_to refuse wy f y) xy yx s
said-comes refuse (Syn d) wx wy x y xy yx s c = absurd (let e = c.no_syn in cc)
said-comes refuse (Ack d) wx wy x y xy yx s c = (inl refl, said-ack d wx wy x y xy yx s c)
said-comes refuse (Data b) wx wy x y xy yx s c = (inl refl, said-over wx wy x (receive_data b y) xy yx s (said-piece b b [] wx wy x y xy yx s c))
said-comes refuse (Credit d) wx wy x y xy yx s c = (inl refl, said-credit d wx wy x y xy yx s c)
said-comes refuse Fin wx wy x y xy yx s c = (inl refl, said-fin wx wy x y xy yx s c)
said-comes refuse Rst wx wy x y xy yx s c = (inl refl, said-rst wx wy x y xy yx s c)

pub part-comes : (refuse : Bool) (f : Part) (wx wy : ℕ) (x y : End) (xy yx : List Part) (s : Stream) →
    Related wx wy x y xy (f ∷ yx) s → (t : Stream) × Goes refuse f s t × Related wx wy (comes_to refuse wx f x) y xy yx t
part-comes refuse f wx wy x y xy yx s (inl c) = alive-comes refuse f wx wy x y xy yx s c
part-comes refuse f wx wy x y xy yx s (inr (inl c)) = absurd (no_list c.gone)
part-comes refuse f wx wy x y xy yx s (inr (inr c)) = let r = said-comes refuse f wy wx y x yx xy (flip s) c in (s, ([], r.0, refl), inr (inr r.1))

pub piece-comes : (bytes rest : List ℕ) (wx wy : ℕ) (x y : End) (xy yx : List Part) (s : Stream) →
    Related wx wy x y xy (Data (bytes ++ rest) ∷ yx) s → (t : Stream) × Goes false (Data bytes) s t × Related wx wy (receive_data bytes x) y xy (Data rest ∷ yx) t
piece-comes bytes rest wx wy x y xy yx s (inl c) = let r = piece-alive false bytes rest wx wy x y xy yx s c in (r.0, r.1, inl r.2)
piece-comes bytes rest wx wy x y xy yx s (inr (inl c)) = absurd (no_list c.gone)
piece-comes bytes rest wx wy x y xy yx s (inr (inr c)) = (s, ([], inl refl, refl), inr (inr (said-piece bytes (bytes ++ rest) rest wy wx y x yx xy (flip s) c)))

-- a payload whose last byte has come is no longer under way
pub payload-over : (wx wy : ℕ) (x y : End) (xy yx : List Part) (s : Stream) →
    Related wx wy x y xy (Data [] ∷ yx) s → Related wx wy x y xy yx s
payload-over wx wy x y xy yx s (inl c) = inl (data-over wx wy x y xy yx s c)
payload-over wx wy x y xy yx s (inr (inl c)) = absurd (no_list c.gone)
payload-over wx wy x y xy yx s (inr (inr c)) = inr (inr (let d = said-over wy wx y x yx xy (flip s) c in d))
