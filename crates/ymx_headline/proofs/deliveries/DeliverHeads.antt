-- What the head of a frame of a stream says, does and must not break.
use Rattle.std.proofs.Common.{◌≡◌, ℕ, List, [], ◌∷◌, ◌++◌, length, Bool, true, false, ◌&&◌, ◌||◌, ◌==◌, if◌then◌else◌, refl, sym, ap, ◌∙◌}
use Rattle.std.proofs.lemmas.List.{append-nil}
use Rattle.ymx_header.specs.declared.header.Header.{Header}
use Rattle.ymx_header.specs.Headers.{has_syn, has_ack, has_fin}
use Rattle.ymx_model.specs.session.Records.{End, receive_credit, receive_piece}
use Rattle.ymx_model.specs.session.Parts.{Part}
use Rattle.ymx_model.specs.session.Parts.Part.{Syn, Ack, Data, Credit, Fin, Rst}
use Rattle.ymx_model.specs.session.Sessions.Incoming.{Head, Payload}
use Rattle.ymx_model.specs.session.Arrivals.{is_data, payload, delta, take_head}
use Rattle.ymx_headline.specs.stream.Flight.{part_is_syn, part_is_rst}
use Rattle.ymx_headline.specs.stream.Arrivals.{comes_to}
use Rattle.ymx_headline.specs.stream.Worlds.{tagged}
use Rattle.ymx_headline.specs.records.Sides.{opening, rest_parts}
use Rattle.ymx_headline.proofs.records.Ends.{all_come}
use Rattle.ymx_headline.proofs.records.Comes.{credited, come-append, opening-comes, rest-if, head-alone, head-before, no-payload, no-bytes, own-ack}
use Rattle.ymx_machine.proofs.Tests.{split, agrees}
use Rattle.ymx_headline.specs.Agrees.{parts_left, is_absent, OnlyRejects}
use Rattle.ymx_headline.proofs.deliveries.DeliverMoves.{Plain}
use Rattle.ymx_headline.proofs.deliveries.DeliverTexts.{awaited}
use Rattle.ymx_headline.proofs.deliveries.DeliverBytes.{absent-takes}

-- ---- lists of parts

pub plain-append : (a b : List Part) → Plain a → Plain b → Plain (a ++ b)
plain-append [] b p q = q
plain-append (f ∷ a) b p q = (p.0, p.1, plain-append a b p.2 q)

pub tagged-append : (id : ℕ) (a b : List Part) → tagged id (a ++ b) ≡ tagged id a ++ tagged id b
tagged-append id [] b = refl
tagged-append id (f ∷ a) b = ap (λ ps. (id, f) ∷ ps) (tagged-append id a b)

opening-plain : (syn ack other : Bool) (d : ℕ) → syn ≡ false → Plain (if syn then Syn d ∷ [] else if ack then Ack d ∷ [] else if other then [] else Credit d ∷ [])
opening-plain true ack other d e = absurd cc
opening-plain false true other d e = (refl, refl, tt)
opening-plain false false true d e = tt
opening-plain false false false d e = (refl, refl, tt)

rest-plain : (loaded fin : Bool) (body : List ℕ) → Plain ((if loaded then Data body ∷ [] else []) ++ (if fin then Fin ∷ [] else []))
rest-plain true true body = (refl, refl, (refl, refl, tt))
rest-plain true false body = (refl, refl, tt)
rest-plain false true body = (refl, refl, tt)
rest-plain false false body = tt

pub plain-opening : (h : Header) → has_syn h ≡ false → Plain (opening h)
plain-opening h e = opening-plain (has_syn h) (has_ack h) (is_data h || (has_fin h && delta h == 0)) (delta h) e

pub plain-rest : (h : Header) (body : List ℕ) → Plain (rest_parts h body)
plain-rest h body = rest-plain (is_data h) (has_fin h) body

-- ---- what comes with the head, and what is left for the payload

abbrev pub came : Header → List ℕ → List Part
came h body = if payload h == 0 then rest_parts h body else []

abbrev pub left : Header → List ℕ → List Part
left h body = if payload h == 0 then [] else rest_parts h body

pub came-left : (h : Header) (body : List ℕ) → came h body ++ left h body ≡ rest_parts h body
came-left h body = of (payload h == 0)
  where
    of : (b : Bool) → (if b then rest_parts h body else []) ++ (if b then [] else rest_parts h body) ≡ rest_parts h body
    of true = append-nil (rest_parts h body)
    of false = refl

pub plain-came : (h : Header) (body : List ℕ) → Plain (came h body)
plain-came h body = split Plain (payload h == 0) (rest_parts h body) [] (λ t. plain-rest h body) (λ f. tt)

some-data : (h : Header) → (payload h == 0) ≡ false → is_data h ≡ true
some-data h e = of (is_data h) refl
  where
    of : (b : Bool) → is_data h ≡ b → is_data h ≡ true
    of true d = d
    of false d = let z : (payload h == 0) ≡ true = rw d refl in let no : true ≡ false = sym z ∙ e in absurd cc

-- what is left of the frame is what the payload still says
pub left-is : (h : Header) (body : List ℕ) → parts_left (awaited h false) body ≡ tagged h.id (left h body)
left-is h body = of (payload h == 0) refl
  where
    loaded : (d fin : Bool) → d ≡ true → (h.id, Data body) ∷ (if fin then (h.id, Fin) ∷ [] else []) ≡ tagged h.id ((if d then Data body ∷ [] else []) ++ (if fin then Fin ∷ [] else []))
    loaded true true e = refl
    loaded true false e = refl
    loaded false fin e = absurd cc

    of : (b : Bool) → (payload h == 0) ≡ b → parts_left (if b then Head [] else Payload h.id (payload h) (has_fin h) false) body ≡ tagged h.id (if b then [] else rest_parts h body)
    of true e = refl
    of false e = loaded (is_data h) (has_fin h) (some-data h e)

pub discarded-left : (h : Header) (body : List ℕ) → parts_left (awaited h true) body ≡ []
discarded-left h body = split (λ i. parts_left i body ≡ []) (payload h == 0) (Head []) (Payload h.id (payload h) (has_fin h) true) (λ t. refl) (λ f. refl)

-- the parts that come with a head do what it does to a record
pub head-does : (own : Bool) (window : ℕ) (h : Header) (body : List ℕ) (e : End) → has_syn h ≡ false → (has_ack h ≡ true → own ≡ true) → length body ≡ payload h → all_come false window (opening h ++ came h body) e ≡ take_head own h e
head-does own window h body e s o long =
    come-append false window (opening h) (came h body) e ∙ (ap (all_come false window (came h body)) (opening-comes own window h e s o) ∙ of (payload h == 0) refl)
  where
    of : (b : Bool) → (payload h == 0) ≡ b → all_come false window (if b then rest_parts h body else []) (credited own h e) ≡ take_head own h e
    of true t =
        let z = agrees (payload h) 0 t in
        rest-if (is_data h) (has_fin h) body window (credited own h e) (no-payload h body long) ∙ (ap (λ xs. receive_piece (has_fin h) xs (credited own h e)) (no-bytes body (long ∙ z)) ∙ sym (head-alone own h e z))
    of false f = sym (head-before own h e f)

-- the same of a SYN's, where the record is made
pub syn-does : (window : ℕ) (h : Header) (body : List ℕ) (e : End) → length body ≡ payload h → all_come false window (came h body) (receive_credit (delta h) e) ≡ take_head false h e
syn-does window h body e long =
    ap (λ x. all_come false window (came h body) (receive_credit (delta h) x)) (sym (own-ack h e)) ∙ of (payload h == 0) refl
  where
    of : (b : Bool) → (payload h == 0) ≡ b → all_come false window (if b then rest_parts h body else []) (credited false h e) ≡ take_head false h e
    of true t =
        let z = agrees (payload h) 0 t in
        rest-if (is_data h) (has_fin h) body window (credited false h e) (no-payload h body long) ∙ (ap (λ xs. receive_piece (has_fin h) xs (credited false h e)) (no-bytes body (long ∙ z)) ∙ sym (head-alone false h e z))
    of false f = sym (head-before false h e f)

-- ---- without a record

-- what comes to an end that is absent leaves it so
absent-part : (due : Bool) (window : ℕ) (f : Part) (e : End) → part_is_syn f ≡ false → part_is_rst f ≡ false → is_absent e.phase ≡ true → OnlyRejects due e → (is_absent (comes_to false window f e).phase ≡ true) × OnlyRejects due (comes_to false window f e)
absent-part due window (Syn d) e n m a o = absurd cc
absent-part due window (Ack d) e n m a o =
    let k = absent-takes e.phase a in rw k (a, record { syn = o.syn; ack = o.ack; rst = o.rst; unsent = o.unsent; finished = o.finished; refused = o.refused })
absent-part due window (Data b) e n m a o = let k = absent-takes e.phase a in rw k (a, o)
absent-part due window (Credit d) e n m a o = let k = absent-takes e.phase a in rw k (a, o)
absent-part due window Fin e n m a o = let k = absent-takes e.phase a in rw k (a, o)
absent-part due window Rst e n m a o = absurd cc

pub absent-parts : (due : Bool) (window : ℕ) (fs : List Part) (e : End) → Plain fs → is_absent e.phase ≡ true → OnlyRejects due e → (is_absent (all_come false window fs e).phase ≡ true) × OnlyRejects due (all_come false window fs e)
absent-parts due window [] e p a o = (a, o)
absent-parts due window (f ∷ fs) e p a o = let k = absent-part due window f e p.0 p.1 a o in absent-parts due window fs (comes_to false window f e) p.2 k.0 k.1
