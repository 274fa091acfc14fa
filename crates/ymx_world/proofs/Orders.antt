-- Joint orders: what may come next still may after the other side's events.
use Rattle.std.proofs.Common.{◌≡◌, ℕ, ◌+◌, ◌≤◌, List, [], ◌∷◌, ◌++◌, length, take, drop, Bool, true, false, refl, sym, ap, subst, ◌∙◌, ◌<◌, get_or, suc, add-one, drop-cons, append_assoc, length-append, length-drop, arith}
use Rattle.std.proofs.lemmas.Grind.{common_steps}
use Rattle.ymx_machine.specs.declared.types.Side.TheVariants.{A, B}
use Rattle.ymx_machine.specs.declared.types.Step.{Step}
use Rattle.ymx_machine.specs.shared.Events.{Reply}
use Rattle.ymx_machine.specs.declared.types.Fed.{Fed}
use Rattle.ymx_model.specs.session.Events.{Event}
use Rattle.ymx_model.specs.declared.types.Event.TheVariants as event
use Rattle.ymx_model.specs.declared.types.Entry.{Entry}
use Rattle.ymx_model.specs.world.Worlds.{Pipe, new_pipe, pushed, without_front}
use Rattle.std.specs.Prelude.{MatchBool}
use Rattle.ymx_headline.specs.audit.Joints.{emitted_of, sent_into, TakesFront, Gets, world_steps, Advances, IsStuck, IsJoint, IsJointOrder}

-- ---- one pipe

one_feed : (en : Bool) (bytes : List ℕ) (r : Reply) (p q s : Pipe) → MatchBool en (q ≡ p) (TakesFront bytes r p q) → MatchBool en (s ≡ p) (TakesFront bytes r p s) → q ≡ s
one_feed true bytes r p q s g h = g ∙ sym h
one_feed false bytes r p q s g h =
    let e : g.0 ≡ h.0 = cc (g.1, h.1) in
    g.5 ∙ ap (λ (f : Fed). without_front f.taken p) e ∙ sym h.5

-- the same event leaves the same pipe
pub gets_one : (e : Event) (r : Reply) (p q s : Pipe) → Gets e r p q → Gets e r p s → q ≡ s
gets_one (event.Call c) r p q s g h = g ∙ sym h
gets_one (event.Emit n) r p q s g h = g.2 ∙ sym h.2
gets_one (event.Feed bytes) r p q s g h = one_feed p.ended bytes r p q s g h
gets_one event.FeedEnd r p q s g h = g ∙ sym h

feed_pushed : (st en : Bool) (xs bytes out : List ℕ) (t : Reply) (q : Pipe) → Gets (event.Feed bytes) t (record { bytes = xs; stopped = st; ended = en }) q → Gets (event.Feed bytes) t (pushed out (record { bytes = xs; stopped = st; ended = en })) (pushed out q)
feed_pushed true true xs bytes out t q g = ap (pushed out) g
feed_pushed true false xs bytes out t q g = (g.0, g.1, g.2, g.3, g.4, ap (pushed out) g.5)
feed_pushed false true xs bytes out t q g = ap (pushed out) g
feed_pushed false false xs bytes out t q g =
    let w = g.3 in
    let n = g.2 in
    let front : take (length bytes) (xs ++ out) ≡ take (length bytes) xs = grind (arith, common_steps) in
    let rest : drop (g.0).taken (xs ++ out) ≡ drop (g.0).taken xs ++ out = grind (arith, common_steps) in (
      g.0,
      g.1,
      g.2,
      omega (arith, length-append xs out),
      front ∙ g.4,
      ap (pushed out) g.5 ∙ ap (λ (ys : List ℕ). record { bytes = ys; stopped = false; ended = false }) (sym rest),
    )

gets_pushed : (out : List ℕ) (f : Event) (t : Reply) (p q : Pipe) → Gets f t p q → Gets f t (pushed out p) (pushed out q)
gets_pushed out (event.Call c) t p q g = ap (pushed out) g
gets_pushed out (event.Emit n) t p q g = (g.0, g.1, ap (pushed out) g.2)
gets_pushed out (event.Feed bytes) t p q g = feed_pushed p.stopped p.ended p.bytes bytes out t q g
gets_pushed out event.FeedEnd t p q g = ap (pushed out) g

-- what the receiver may do it still may after the sender's event, and the order makes no difference
pub gets_put : (e : Event) (r : Reply) (f : Event) (t : Reply) (p q : Pipe) → Gets f t p q → Gets f t (sent_into e r p) (sent_into e r q)
gets_put (event.Call c) r f t p q g = g
gets_put (event.Emit n) r f t p q g = gets_pushed (emitted_of r) f t p q g
gets_put (event.Feed bytes) r f t p q g = g
gets_put event.FeedEnd r f t p q g = g

-- ---- two transcripts

-- an order of what is left, from these pipes
abbrev pub HasOrder : Pipe → Pipe → List Entry → List Entry → Type 0
HasOrder ab ba xs ys = (turns : List Bool) × (steps : List Step) × IsJoint turns ab ba xs ys steps

-- where A's next may come now, it may come first
front_a : (turns : List Bool) (ab ba : Pipe) (x : Entry) (xs ys : List Entry) (steps : List Step) (q : Pipe) → IsJoint turns ab ba (x ∷ xs) ys steps → Gets x.event x.reply ba q → HasOrder (sent_into x.event x.reply ab) q xs ys
front_a [] ab ba x xs ys steps q j g = absurd (cc j.0)
front_a (true ∷ turns) ab ba x xs ys steps q j g =
    let e : x ≡ j.0 = cc j.4 in
    let es : xs ≡ j.1 = cc j.4 in
    let p : q ≡ j.2 = gets_one x.event x.reply ba q j.2 g (rw e j.5) in
    (turns, j.3, rw (e, es, p) j.7)
front_a (false ∷ turns) ab ba x xs ys steps q j g =
    let y = j.0 in
    let i = front_a turns j.2 (sent_into y.event y.reply ba) x xs j.1 j.3 (sent_into y.event y.reply q) j.7 (gets_put y.event y.reply x.event x.reply ba q g) in (
      false ∷ i.0,
      world_steps B (sent_into x.event x.reply ab) y.event ++ i.1,
      (y, j.1, sent_into x.event x.reply j.2, i.1, j.4, gets_put x.event x.reply y.event y.reply ab j.2 j.5, refl, i.2),
    )

front_b : (turns : List Bool) (ab ba : Pipe) (y : Entry) (xs ys : List Entry) (steps : List Step) (q : Pipe) → IsJoint turns ab ba xs (y ∷ ys) steps → Gets y.event y.reply ab q → HasOrder q (sent_into y.event y.reply ba) xs ys
front_b [] ab ba y xs ys steps q j g = absurd (cc j.1)
front_b (false ∷ turns) ab ba y xs ys steps q j g =
    let e : y ≡ j.0 = cc j.4 in
    let es : ys ≡ j.1 = cc j.4 in
    let p : q ≡ j.2 = gets_one y.event y.reply ab q j.2 g (rw e j.5) in
    (turns, j.3, rw (e, es, p) j.7)
front_b (true ∷ turns) ab ba y xs ys steps q j g =
    let x = j.0 in
    let i = front_b turns (sent_into x.event x.reply ab) j.2 y j.1 ys j.3 (sent_into x.event x.reply q) j.7 (gets_put x.event x.reply y.event y.reply ab q g) in (
      true ∷ i.0,
      world_steps A (sent_into y.event y.reply ba) x.event ++ i.1,
      (x, j.1, sent_into y.event y.reply j.2, i.1, j.4, gets_put y.event y.reply x.event x.reply ba j.2 j.5, refl, i.2),
    )

-- ---- the search

-- what was done so far, with an order of what is left, is an order of all
abbrev pub Sound : List Entry → List Entry → Pipe → Pipe → List Entry → List Entry → List Step → Type 0
Sound a b ab ba xs ys done = (turns : List Bool) (rest : List Step) → IsJoint turns ab ba xs ys rest → IsJointOrder a b (done ++ rest)

-- where all has an order, so has what is left
abbrev pub Whole : List Entry → List Entry → Pipe → Pipe → List Entry → List Entry → Type 0
Whole a b ab ba xs ys = (steps : List Step) → IsJointOrder a b steps → HasOrder ab ba xs ys

pub sound_first : (a b : List Entry) → Sound a b new_pipe new_pipe a b []
sound_first a b turns rest j = (turns, j)

pub whole_first : (a b : List Entry) → Whole a b new_pipe new_pipe a b
whole_first a b steps j = (j.0, steps, j.1)

pub sound_a : (a b : List Entry) (ab ba : Pipe) (x : Entry) (xs ys : List Entry) (done : List Step) (q : Pipe) → Sound a b ab ba (x ∷ xs) ys done → Gets x.event x.reply ba q → Sound a b (sent_into x.event x.reply ab) q xs ys (done ++ world_steps A ba x.event)
sound_a a b ab ba x xs ys done q s g turns rest j =
    subst (IsJointOrder a b) (sym (append_assoc done (world_steps A ba x.event) rest)) (s (true ∷ turns) (world_steps A ba x.event ++ rest) (x, xs, q, rest, refl, g, refl, j))

pub sound_b : (a b : List Entry) (ab ba : Pipe) (y : Entry) (xs ys : List Entry) (done : List Step) (q : Pipe) → Sound a b ab ba xs (y ∷ ys) done → Gets y.event y.reply ab q → Sound a b q (sent_into y.event y.reply ba) xs ys (done ++ world_steps B ab y.event)
sound_b a b ab ba y xs ys done q s g turns rest j =
    subst (IsJointOrder a b) (sym (append_assoc done (world_steps B ab y.event) rest)) (s (false ∷ turns) (world_steps B ab y.event ++ rest) (y, ys, q, rest, refl, g, refl, j))

pub whole_a : (a b : List Entry) (ab ba : Pipe) (x : Entry) (xs ys : List Entry) (q : Pipe) → Whole a b ab ba (x ∷ xs) ys → Gets x.event x.reply ba q → Whole a b (sent_into x.event x.reply ab) q xs ys
whole_a a b ab ba x xs ys q w g steps j = let h = w steps j in front_a h.0 ab ba x xs ys h.1 q h.2 g

pub whole_b : (a b : List Entry) (ab ba : Pipe) (y : Entry) (xs ys : List Entry) (q : Pipe) → Whole a b ab ba xs (y ∷ ys) → Gets y.event y.reply ab q → Whole a b q (sent_into y.event y.reply ba) xs ys
whole_b a b ab ba y xs ys q w g steps j = let h = w steps j in front_b h.0 ab ba y xs ys h.1 q h.2 g

-- where neither side's next may come, and entries are left, there is no order
pub stuck : (turns : List Bool) (ab ba : Pipe) (xs ys : List Entry) (steps : List Step) → IsStuck ba xs → IsStuck ab ys → 0 < length xs + length ys → IsJoint turns ab ba xs ys steps → ⊥
stuck [] ab ba xs ys steps s t n j = absurd (omega (arith, ap length j.0, ap length j.1))
stuck (true ∷ turns) ab ba xs ys steps s t n j = s j.0 j.1 j.2 j.4 j.5
stuck (false ∷ turns) ab ba xs ys steps s t n j = t j.0 j.1 j.2 j.4 j.5

-- ---- the loop

-- the entry at a place, and what follows it
pub next_is : (xs : List Entry) (i : ℕ) (x : Entry) → i < length xs → x ≡ get_or xs i x → drop i xs ≡ x ∷ drop (i + 1) xs
next_is xs i x h e = rw add-one (drop-cons xs i x h ∙ ap (λ (y : Entry). y ∷ drop (suc i) xs) (sym e))

pub stuck_at : (xs : List Entry) (i : ℕ) (x : Entry) (p : Pipe) → i < length xs → x ≡ get_or xs i x → ((q : Pipe) → Gets x.event x.reply p q → ⊥) → IsStuck p (drop i xs)
stuck_at xs i x p h e n y more q is g =
    let same : y ≡ x = cc (is, next_is xs i x h e) in
    n q (subst (λ (z : Entry). Gets z.event z.reply p q) same g)

pub stuck_end : (xs : List Entry) (i : ℕ) (p : Pipe) → length xs ≤ i → IsStuck p (drop i xs)
stuck_end xs i p h y more q is g = absurd (omega (arith, ap length is, length-drop i xs))

pub sound_start : (a b : List Entry) (p q : Pipe) (done : List Step) → p ≡ new_pipe → q ≡ new_pipe → done ≡ [] → Sound a b p q a b done
sound_start a b p q done e f d = rw (e, f, d) (sound_first a b)

pub whole_start : (a b : List Entry) (p q : Pipe) → p ≡ new_pipe → q ≡ new_pipe → Whole a b p q a b
whole_start a b p q e f = rw (e, f) (whole_first a b)

pub sound_on_a : (a b : List Entry) (ab ba ab' ba' : Pipe) (xs more ys : List Entry) (done done' : List Step) → Sound a b ab ba xs ys done → Advances A xs more ab ba ab' ba' done done' → Sound a b ab' ba' more ys done'
sound_on_a a b ab ba ab' ba' xs more ys done done' s v =
    rw (v.3, v.4) (sound_a a b ab ba v.0 more ys done ba' (subst (λ (zs : List Entry). Sound a b ab ba zs ys done) v.1 s) v.2)

pub sound_on_b : (a b : List Entry) (ab ba ab' ba' : Pipe) (xs ys more : List Entry) (done done' : List Step) → Sound a b ab ba xs ys done → Advances B ys more ba ab ba' ab' done done' → Sound a b ab' ba' xs more done'
sound_on_b a b ab ba ab' ba' xs ys more done done' s v =
    rw (v.3, v.4) (sound_b a b ab ba v.0 xs more done ab' (subst (λ (zs : List Entry). Sound a b ab ba xs zs done) v.1 s) v.2)

pub whole_on_a : (a b : List Entry) (ab ba ab' ba' : Pipe) (xs more ys : List Entry) (done done' : List Step) → Whole a b ab ba xs ys → Advances A xs more ab ba ab' ba' done done' → Whole a b ab' ba' more ys
whole_on_a a b ab ba ab' ba' xs more ys done done' w v =
    rw v.3 (whole_a a b ab ba v.0 more ys ba' (subst (λ (zs : List Entry). Whole a b ab ba zs ys) v.1 w) v.2)

pub whole_on_b : (a b : List Entry) (ab ba ab' ba' : Pipe) (xs ys more : List Entry) (done done' : List Step) → Whole a b ab ba xs ys → Advances B ys more ba ab ba' ab' done done' → Whole a b ab' ba' xs more
whole_on_b a b ab ba ab' ba' xs ys more done done' w v =
    rw v.3 (whole_b a b ab ba v.0 xs more ab' (subst (λ (zs : List Entry). Whole a b ab ba xs zs) v.1 w) v.2)

pub done_all : (a b : List Entry) (ab ba : Pipe) (i j : ℕ) (done : List Step) → length a ≤ i → length b ≤ j → Sound a b ab ba (drop i a) (drop j b) done → IsJointOrder a b done
done_all a b ab ba i j done h k s =
    let e : drop i a ≡ [] = grind (arith, common_steps) in
    let f : drop j b ≡ [] = grind (arith, common_steps) in
    subst (IsJointOrder a b) (grind (arith, common_steps)) (s [] [] (e, f, refl))

pub none_left : (a b : List Entry) (ab ba : Pipe) (xs ys : List Entry) → Whole a b ab ba xs ys → IsStuck ba xs → IsStuck ab ys → 0 < length xs + length ys → (steps : List Step) → IsJointOrder a b steps → ⊥
none_left a b ab ba xs ys w s t n steps j = let h = w steps j in stuck h.0 ab ba xs ys h.1 s t n h.2

-- what is taken off a pipe that is kept with a place in its bytes
pub taken_at : (bytes : List ℕ) (at count : ℕ) (st en : Bool) → record { bytes = drop (at + count) bytes; stopped = st; ended = en } ≡ without_front count (record { bytes = drop at bytes; stopped = st; ended = en })
taken_at bytes at count st en = ap (λ (ys : List ℕ). record { bytes = ys; stopped = st; ended = en }) (grind (arith, common_steps))

pub sound_same : (a b : List Entry) (ab ba ab' ba' : Pipe) (xs ys : List Entry) (done done' : List Step) → ab' ≡ ab → ba' ≡ ba → done' ≡ done → Sound a b ab ba xs ys done → Sound a b ab' ba' xs ys done'
sound_same a b ab ba ab' ba' xs ys done done' e f d s = rw (e, f, d) s

pub whole_same : (a b : List Entry) (ab ba ab' ba' : Pipe) (xs ys : List Entry) → ab' ≡ ab → ba' ≡ ba → Whole a b ab ba xs ys → Whole a b ab' ba' xs ys
whole_same a b ab ba ab' ba' xs ys e f w = rw (e, f) w
