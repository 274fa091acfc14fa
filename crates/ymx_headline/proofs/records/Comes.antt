-- A frame that comes to a record does what its parts do to the end.
use Rattle.std.proofs.Common.{◌≡◌, ℕ, List, [], ◌∷◌, ◌++◌, length, Bool, true, false, ◌&&◌, ◌||◌, ◌==◌, if◌then◌else◌, refl, sym, ap, ◌∙◌, arith}
use Rattle.std.proofs.lemmas.Grind.{common_steps}
use Rattle.ymx_header.specs.declared.header.Header.{Header}
use Rattle.ymx_header.specs.Headers.{has_syn, has_ack, has_fin}
use Rattle.ymx_model.specs.session.Records.{End, receive_data, receive_credit, receive_fin, receive_ack, receive_piece}
use Rattle.ymx_model.specs.session.Parts.{Part}
use Rattle.ymx_model.specs.session.Parts.Part.{Syn, Ack, Data, Credit, Fin}
use Rattle.ymx_model.specs.session.Arrivals.{is_data, payload, delta, acknowledges, take_head}
use Rattle.ymx_machine.proofs.Tests.{agrees, both_of}
use Rattle.ymx_headline.specs.stream.Arrivals.{comes_to}
use Rattle.ymx_headline.specs.records.Sides.{opening}
use Rattle.ymx_headline.proofs.records.Ends.{all_come}

-- ---- parts one after the other

pub come-append : (refuse : Bool) (window : ℕ) (a b : List Part) (e : End) → all_come refuse window (a ++ b) e ≡ all_come refuse window b (all_come refuse window a e)
come-append refuse window [] b e = refl
come-append refuse window (f ∷ a) b e = come-append refuse window a b (comes_to refuse window f e)

-- no credit, and no payload, change nothing
credit-none : (e : End) → receive_credit 0 e ≡ e
credit-none e = grind (arith, common_steps)

data-none : (e : End) → receive_data [] e ≡ e
data-none e = grind (arith, common_steps)

-- ---- a head without SYN and RST

-- what the acknowledgement and the credit of a head make of an end
abbrev pub credited : (own : Bool) → Header → End → End
credited own h e = receive_credit (delta h) (acknowledges own h e)

opening-if : (syn ack loaded fin own : Bool) (d window : ℕ) (e : End) → syn ≡ false → (ack ≡ true → own ≡ true) → (loaded ≡ true → d ≡ 0) → (fin ≡ true → d ≡ 0) →
    all_come false window (if syn then Syn d ∷ [] else if ack then Ack d ∷ [] else if loaded || fin then [] else Credit d ∷ []) e ≡ receive_credit d (if ack && own then receive_ack e else e)
opening-if true ack loaded fin own d window e s o z y = absurd cc
opening-if false true loaded fin own d window e s o z y = rw (o refl) refl
opening-if false false true fin own d window e s o z y = rw (z refl) (sym (credit-none e))
opening-if false false false true own d window e s o z y = rw (y refl) (sym (credit-none e))
opening-if false false false false own d window e s o z y = refl

-- Data has no delta
pub data-delta : (h : Header) → is_data h ≡ true → delta h ≡ 0
data-delta h d = rw d refl

pub no-delta : (h : Header) → (has_fin h && delta h == 0) ≡ true → delta h ≡ 0
no-delta h f = agrees (delta h) 0 (both_of (has_fin h) (delta h == 0) f).1

pub opening-comes : (own : Bool) (window : ℕ) (h : Header) (e : End) → has_syn h ≡ false → (has_ack h ≡ true → own ≡ true) → all_come false window (opening h) e ≡ credited own h e
opening-comes own window h e s o =
    opening-if (has_syn h) (has_ack h) (is_data h) (has_fin h && delta h == 0) own (delta h) window e s o (data-delta h) (no-delta h)

-- the payload and the end that follow
pub rest-if : (loaded fin : Bool) (bytes : List ℕ) (window : ℕ) (e : End) → (loaded ≡ false → bytes ≡ []) →
    all_come false window ((if loaded then Data bytes ∷ [] else []) ++ (if fin then Fin ∷ [] else [])) e ≡ receive_piece fin bytes e
rest-if true true bytes window e z = refl
rest-if true false bytes window e z = refl
rest-if false true bytes window e z = rw (z refl) (ap receive_fin (sym (data-none e)))
rest-if false false bytes window e z = rw (z refl) (sym (data-none e))

-- ---- the record that a frame leaves

pub no-bytes : (bytes : List ℕ) → length bytes ≡ 0 → bytes ≡ []
no-bytes [] e = refl
no-bytes (b ∷ bytes) e = absurd (omega arith)

-- only Data has a payload
pub no-payload : (h : Header) (bytes : List ℕ) → length bytes ≡ payload h → is_data h ≡ false → bytes ≡ []
no-payload h bytes n d = no-bytes bytes (n ∙ rw d refl)

-- a head alone, where no payload follows
pub head-alone : (own : Bool) (h : Header) (e : End) → payload h ≡ 0 → take_head own h e ≡ receive_piece (has_fin h) [] (credited own h e)
head-alone own h e z = of (has_fin h) refl
  where
    of : (b : Bool) → has_fin h ≡ b → take_head own h e ≡ receive_piece (has_fin h) [] (credited own h e)
    of true f = rw (f, z) (ap receive_fin (sym (data-none (credited own h e))))
    of false f = rw f (sym (data-none (credited own h e)))

pub head-before : (own : Bool) (h : Header) (e : End) → (payload h == 0) ≡ false → take_head own h e ≡ credited own h e
head-before own h e f = of (has_fin h) refl
  where
    of : (b : Bool) → has_fin h ≡ b → take_head own h e ≡ credited own h e
    of true x = rw (x, f) refl
    of false x = rw x refl

-- ---- a SYN

pub syn-opens : (h : Header) → has_syn h ≡ true → opening h ≡ Syn (delta h) ∷ []
syn-opens h y = rw y refl

pub own-ack : (h : Header) (e : End) → acknowledges false h e ≡ e
own-ack h e = of (has_ack h)
  where
    of : (b : Bool) → (if b && false then receive_ack e else e) ≡ e
    of true = refl
    of false = refl
