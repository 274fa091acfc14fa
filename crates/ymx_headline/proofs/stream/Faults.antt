-- What comes over a link breaks no rule of windows, ids or flags.
use Rattle.std.proofs.Common.{◌≡◌, ℕ, ◌+◌, ◌≤◌, List, [], ◌∷◌, length, Bool, true, false, inl, inr, refl, append-nil, arith}
use Rattle.ymx_machine.specs.shared.Limits.{first_credit}
use Rattle.ymx_machine.specs.stream.Streams.{Stream, flip}
use Rattle.ymx_machine.specs.shared.Phases.{takes, is_unborn}
use Rattle.ymx_machine.specs.shared.Phases.Phase.{Unborn}
use Rattle.ymx_model.specs.session.Records.{End, takes_payload}
use Rattle.ymx_model.specs.session.Parts.{Part}
use Rattle.ymx_model.specs.session.Parts.Part.{Syn, Ack, Data, Credit, Fin, Rst}
use Rattle.ymx_headline.specs.stream.Links.{Alive, Heard, Related}
use Rattle.ymx_headline.proofs.stream.Flight.{no_list}
use Rattle.ymx_headline.proofs.stream.Directions.{lists}
use Rattle.ymx_headline.proofs.stream.Arrives.{syn-only, syn-finds}
use Rattle.ymx_headline.proofs.stream.Comes.{ended-empty}
use Rattle.ymx_headline.proofs.stream.Phases.{down-takes, born}

-- the payload of the frame whose SYN stands before these parts
abbrev pub first_load : List Part → List ℕ
first_load (Data b ∷ fs) = b
first_load _ = []

-- A delta leaves the credit within the peer's window `theirs`, where the end uses it.
abbrev pub DeltaFits : (theirs d : ℕ) → End → Type 0
DeltaFits theirs d e = takes e.phase ≡ true → e.writer.credit + d ≤ theirs

-- The part f, with `rest` after it, breaks no rule at the end e, which opened the stream if `own`; the peer's
-- window is `theirs`. A SYN finds no record and isn't on an own id, and its delta and payload fit a new
-- record. An ACK is for an own stream. All but a SYN find an end that is born.
-- Payload fits the granted window where it is taken, and none comes after the end.
abbrev pub BreaksNothing : (theirs : ℕ) → (own : Bool) → Part → (rest : List Part) → End → Type 0
BreaksNothing theirs own (Syn d) rest e = (e.phase ≡ Unborn) × (own ≡ false) × (first_credit + d ≤ theirs) × (length (first_load rest) ≤ first_credit)
BreaksNothing theirs own (Ack d) rest e = (is_unborn e.phase ≡ false) × (own ≡ true) × DeltaFits theirs d e
BreaksNothing theirs own (Data b) rest e =
    (is_unborn e.phase ≡ false) × (takes e.phase ≡ true → length b ≤ e.reader.granted) × (takes e.phase ≡ true → e.reader.ended ≡ true → b ≡ [])
BreaksNothing theirs own (Credit d) rest e = (is_unborn e.phase ≡ false) × DeltaFits theirs d e
BreaksNothing theirs own Fin rest e = (is_unborn e.phase ≡ false) × (takes e.phase ≡ true → takes_payload e ≡ true)
BreaksNothing theirs own Rst rest e = is_unborn e.phase ≡ false

data-granted : (b : List ℕ) (wx wy : ℕ) (x y : End) (xy yx : List Part) (s : Stream) →
    takes x.phase ≡ true → Alive wx wy x y xy (Data b ∷ yx) s → length b ≤ x.reader.granted
data-granted b wx wy x y xy yx s t c = let i = c.inbound.holds in grind (arith, lists)

data-last : (b : List ℕ) (wx wy : ℕ) (x y : End) (xy yx : List Part) (s : Stream) →
    takes x.phase ≡ true → x.reader.ended ≡ true → Alive wx wy x y xy (Data b ∷ yx) s → b ≡ []
data-last b wx wy x y xy yx s t e c = ended-empty b [] wx wy x y xy yx s t e (rw append-nil c)

fin-open : (wx wy : ℕ) (x y : End) (xy yx : List Part) (s : Stream) →
    takes x.phase ≡ true → Alive wx wy x y xy (Fin ∷ yx) s → takes_payload x ≡ true
fin-open wx wy x y xy yx s t c = let f = c.inbound.finishes.ended in let o = c.inbound.finishes.said in grind arith

credit-room : (d : ℕ) (wx wy : ℕ) (x y : End) (xy yx : List Part) (s : Stream) →
    takes x.phase ≡ true → Alive wx wy x y xy (Credit d ∷ yx) s → x.writer.credit + d ≤ wy
credit-room d wx wy x y xy yx s t c = let o = c.outbound.holds in grind (arith, lists)

ack-room : (d : ℕ) (wx wy : ℕ) (x y : End) (xy yx : List Part) (s : Stream) →
    takes x.phase ≡ true → Alive wx wy x y xy (Ack d ∷ yx) s → x.writer.credit + d ≤ wy
ack-room d wx wy x y xy yx s t c = let o = c.outbound.holds in grind (arith, lists)

ack-own : (d : ℕ) (wx wy : ℕ) (x y : End) (xy yx : List Part) (s : Stream) → Alive wx wy x y xy (Ack d ∷ yx) s → s.own ≡ true
ack-own d wx wy x y xy yx s c = let o = c.inbound.acks in grind (arith, lists)

syn-room : (d : ℕ) (wx wy : ℕ) (x y : End) (xy yx : List Part) (s : Stream) → x.phase ≡ Unborn → Alive wx wy x y xy (Syn d ∷ yx) s → first_credit + d ≤ wy
syn-room d wx wy x y xy yx s u c = let o = c.outbound.holds in let e = c.outbound.sleeps.new u in grind (arith, lists)

syn-granted : (d : ℕ) (b : List ℕ) (wx wy : ℕ) (x y : End) (xy yx : List Part) (s : Stream) →
    x.phase ≡ Unborn → Alive wx wy x y xy (Syn d ∷ Data b ∷ yx) s → length b ≤ first_credit
syn-granted d b wx wy x y xy yx s u c = let i = c.inbound.holds in let e = c.outbound.sleeps.new u in grind (arith, lists)

syn-load : (d : ℕ) (wx wy : ℕ) (x y : End) (xy yx : List Part) (s : Stream) →
    x.phase ≡ Unborn → Alive wx wy x y xy (Syn d ∷ yx) s → length (first_load yx) ≤ first_credit
syn-load d wx wy x y xy (Data b ∷ yx) s u c = syn-granted d b wx wy x y xy yx s u c
syn-load d wx wy x y xy [] s u c = omega arith
syn-load d wx wy x y xy (Syn e ∷ yx) s u c = omega arith
syn-load d wx wy x y xy (Ack e ∷ yx) s u c = omega arith
syn-load d wx wy x y xy (Credit e ∷ yx) s u c = omega arith
syn-load d wx wy x y xy (Fin ∷ yx) s u c = omega arith
syn-load d wx wy x y xy (Rst ∷ yx) s u c = omega arith

alive-breaks : (f : Part) (wx wy : ℕ) (x y : End) (xy yx : List Part) (s : Stream) → Alive wx wy x y xy (f ∷ yx) s → BreaksNothing wy s.own f yx x
alive-breaks (Syn d) wx wy x y xy yx s c =
    let k = syn-finds d wx wy x y xy yx s c in (k.0, k.1, syn-room d wx wy x y xy yx s k.0 c, syn-load d wx wy x y xy yx s k.0 c)
alive-breaks (Ack d) wx wy x y xy yx s c =
    (born x.phase (syn-only wx wy x y xy (Ack d) yx s refl c), ack-own d wx wy x y xy yx s c, λ t. ack-room d wx wy x y xy yx s t c)
alive-breaks (Data b) wx wy x y xy yx s c =
    (born x.phase (syn-only wx wy x y xy (Data b) yx s refl c), (λ t. data-granted b wx wy x y xy yx s t c), λ t e. data-last b wx wy x y xy yx s t e c)
alive-breaks (Credit d) wx wy x y xy yx s c = (born x.phase (syn-only wx wy x y xy (Credit d) yx s refl c), λ t. credit-room d wx wy x y xy yx s t c)
alive-breaks Fin wx wy x y xy yx s c = (born x.phase (syn-only wx wy x y xy Fin yx s refl c), λ t. fin-open wx wy x y xy yx s t c)
alive-breaks Rst wx wy x y xy yx s c = born x.phase (syn-only wx wy x y xy Rst yx s refl c)

said-breaks : (f : Part) (wx wy : ℕ) (x y : End) (xy yx : List Part) (s : Stream) → Heard wy wx y x (f ∷ yx) xy (flip s) → BreaksNothing wy s.own f yx x
said-breaks (Syn d) wx wy x y xy yx s c = absurd (let e = c.no_syn in cc)
said-breaks (Ack d) wx wy x y xy yx s c = let k = down-takes x.phase c.spent_y.down in (k.0, (let n = c.no_ack in grind arith), λ t. absurd (k.1 t))
said-breaks (Data b) wx wy x y xy yx s c = let k = down-takes x.phase c.spent_y.down in (k.0, (λ t. absurd (k.1 t)), λ t e. absurd (k.1 t))
said-breaks (Credit d) wx wy x y xy yx s c = let k = down-takes x.phase c.spent_y.down in (k.0, λ t. absurd (k.1 t))
said-breaks Fin wx wy x y xy yx s c = let k = down-takes x.phase c.spent_y.down in (k.0, λ t. absurd (k.1 t))
said-breaks Rst wx wy x y xy yx s c = (down-takes x.phase c.spent_y.down).0

pub related-breaks : (f : Part) (wx wy : ℕ) (x y : End) (xy yx : List Part) (s : Stream) → Related wx wy x y xy (f ∷ yx) s → BreaksNothing wy s.own f yx x
related-breaks f wx wy x y xy yx s (inl c) = alive-breaks f wx wy x y xy yx s c
related-breaks f wx wy x y xy yx s (inr (inl c)) = absurd (no_list c.gone)
related-breaks f wx wy x y xy yx s (inr (inr c)) = said-breaks f wx wy x y xy yx s c
