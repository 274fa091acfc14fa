-- What goes out in two pieces is what goes out at once.
use Rattle.std.proofs.Common.{◌≡◌, inl, inr, ℕ, ◌+◌, ◌<◌, ◌≤◌, List, [], ◌∷◌, ◌++◌, length, take, drop, Bool, true, false, refl, sym, ap, ◌∙◌, subst, arith}
use Rattle.std.proofs.lemmas.Grind.{common_steps}
use Rattle.std.proofs.lemmas.Bool.Decides.{nat_tests}
use Rattle.ymx_model.specs.session.FramesDue.{is_empty}
use Rattle.ymx_model.specs.session.Sessions.{Session}
use Rattle.ymx_model.specs.session.Emissions.{Choice, Ready, Flows, Emits, moves_on, freely}

pub flows-join : (may : Choice → Session → Bool) (a b : List ℕ) (s t u : Session) → Flows may a s t → Flows may b t u → Flows may (a ++ b) s u
flows-join may [] b s t u e q = let P : Session → Type 0 = λ x. Flows may b x u in subst P e q
flows-join may (x ∷ a) b s t u (m, ready, next, p) q = (m, ready, next, flows-join may a b (moves_on 1 m) t u p q)

-- an order is one of all orders
ready-freely : (may : Choice → Session → Bool) (s t : Session) → Ready may s t → Ready freely s t
ready-freely may s t (inl h) = inl h
ready-freely may s t (inr (e, (c, ok, h))) = inr (e, (c, refl, h))

pub flows-freely : (may : Choice → Session → Bool) (a : List ℕ) (s u : Session) → Flows may a s u → Flows freely a s u
flows-freely may [] s u e = e
flows-freely may (x ∷ a) s u (m, ready, next, p) = (m, ready-freely may s m ready, next, flows-freely may a (moves_on 1 m) u p)

pub emits-freely : (may : Choice → Session → Bool) (s : Session) (room : ℕ) (out : List ℕ) (t : Session) → Emits may s room out t → Emits freely s room out t
emits-freely may s room out t e = record { fits = e.fits; flows = flows-freely may out s t e.flows; full = e.full }

-- ---- a block of the frame begun is its bytes

moves-moves : (b : ℕ) (bs : List ℕ) (n : ℕ) (s : Session) → s.outgoing.bytes ≡ b ∷ bs → 0 < n → 0 < length bs →
    moves_on n (moves_on 1 s) ≡ moves_on (1 + n) s
moves-moves b bs n s e some left = grind (arith, common_steps, nat_tests)

first_of_block : (b : ℕ) (bs : List ℕ) (t : Session) → t.outgoing.bytes ≡ b ∷ bs → take 1 t.outgoing.bytes ≡ b ∷ []
first_of_block b bs t e = rw e refl

left-over : (b c : ℕ) (bs : List ℕ) (t : Session) → t.outgoing.bytes ≡ b ∷ c ∷ bs → (moves_on 1 t).outgoing.bytes ≡ c ∷ bs
left-over b c bs t e = grind (arith, common_steps, nat_tests)

begun : (b : ℕ) (bs : List ℕ) (t : Session) → t.outgoing.bytes ≡ b ∷ bs → is_empty t.outgoing.bytes ≡ false
begun b bs t e = rw e refl

pub flows-rest : (may : Choice → Session → Bool) (b : ℕ) (bs more : List ℕ) (t : Session) → t.outgoing.bytes ≡ b ∷ (bs ++ more) →
    Flows may (b ∷ bs) t (moves_on (length (b ∷ bs)) t)
flows-rest may b [] more t e = (t, inl (begun b more t e, refl), first_of_block b more t e, refl)
flows-rest may b (c ∷ bs) more t e =
    let rest = flows-rest may c bs more (moves_on 1 t) (left-over b c (bs ++ more) t e) in
    let P : Session → Type 0 = λ x. Flows may (c ∷ bs) (moves_on 1 t) x in
    let l : 0 < length (c ∷ bs) = omega arith in
    let m : 0 < length (c ∷ (bs ++ more)) = omega arith in (
      t,
      inl (begun b (c ∷ (bs ++ more)) t e, refl),
      first_of_block b (c ∷ (bs ++ more)) t e,
      subst P (moves-moves b (c ∷ (bs ++ more)) (length (c ∷ bs)) t e l m ∙ ap (λ n. moves_on n t) (omega arith)) rest,
    )

-- what has begun goes on from itself alone
begun-same : (may : Choice → Session → Bool) (s t : Session) → is_empty s.outgoing.bytes ≡ false → Ready may s t → t ≡ s
begun-same may s t e (inl h) = h.1
begun-same may s t e (inr h) = let f : false ≡ true = sym e ∙ h.0 in cc

next-of : (may : Choice → Session → Bool) (b c : ℕ) (bs : List ℕ) (t u : Session) (all : List ℕ) → t.outgoing.bytes ≡ b ∷ all →
    Flows may (b ∷ c ∷ bs) t u → Flows may (c ∷ bs) (moves_on 1 t) u
next-of may b c bs t u all e (m, ready, first, rest) =
    let P : Session → Type 0 = λ x. Flows may (c ∷ bs) (moves_on 1 x) u in
    subst P (begun-same may t m (begun b all t e) ready) rest

-- The first bytes of a frame that was begun, or that begins now.
pub flows-block : (may : Choice → Session → Bool) (b : ℕ) (bs more : List ℕ) (s t : Session) → Ready may s t → t.outgoing.bytes ≡ b ∷ (bs ++ more) →
    Flows may (b ∷ bs) s (moves_on (length (b ∷ bs)) t)
flows-block may b [] more s t ready e = (t, ready, first_of_block b more t e, refl)
flows-block may b (c ∷ bs) more s t ready e =
    let rest = flows-rest may b (c ∷ bs) more t e in
    (t, ready, first_of_block b (c ∷ (bs ++ more)) t e, next-of may b c bs t _ (c ∷ (bs ++ more)) e rest)

take-two : (n : ℕ) (xs : List ℕ) → take n xs ++ drop n xs ≡ xs
take-two n xs = grind (arith, common_steps)

count-of : (n : ℕ) (xs : List ℕ) → n ≤ length xs → length (take n xs) ≡ n
count-of n xs l = grind (arith, common_steps)

flows-split : (may : Choice → Session → Bool) (n : ℕ) (s t : Session) (front back : List ℕ) → Ready may s t → 0 < n → length front ≡ n → t.outgoing.bytes ≡ front ++ back →
    Flows may front s (moves_on n t)
flows-split may n s t [] back ready some l e = grind arith
flows-split may n s t (b ∷ bs) back ready some l e =
    let P : ℕ → Type 0 = λ k. Flows may (b ∷ bs) s (moves_on k t) in
    subst P l (flows-block may b bs back s t ready e)

-- The first n bytes of a frame that is begun or begins.
pub flows-take : (may : Choice → Session → Bool) (n : ℕ) (s t : Session) → Ready may s t → 0 < n → n ≤ length t.outgoing.bytes →
    Flows may (take n t.outgoing.bytes) s (moves_on n t)
flows-take may n s t ready some fits =
    flows-split may n s t (take n t.outgoing.bytes) (drop n t.outgoing.bytes) ready some (count-of n t.outgoing.bytes fits) (sym (take-two n t.outgoing.bytes))
