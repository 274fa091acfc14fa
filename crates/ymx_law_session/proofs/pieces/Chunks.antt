-- What is fed in two pieces is what is fed at once.
use Rattle.std.proofs.Common.{◌≡◌, ℕ, ◌+◌, ◌-◌, ◌<◌, ◌≤◌, List, [], ◌∷◌, ◌++◌, length, take, min, true, ◌==◌, refl, sym, ap, ◌∙◌, subst, arith, length-append, zero-add, suc-add}
use Rattle.std.proofs.lemmas.Grind.{common_steps}
use Rattle.std.proofs.lemmas.Bool.Decides.{nat_tests}
use Rattle.ymx_machine.specs.declared.types.Fed.{Fed}
use Rattle.ymx_machine.specs.declared.types.Why.{Why}
use Rattle.ymx_model.specs.declared.types.Status.{Status}
use Rattle.ymx_model.specs.session.Sessions.{Session}
use Rattle.ymx_model.specs.session.Feeds.{Takes, Feeds, byte_comes, starves, why_of}
use Rattle.ymx_law_session.specs.Chunks.{joined_fed, FedInTwo}

pub takes-join : (a b : List ℕ) (s t u : Session) (m n : ℕ) → Takes a s t m → Takes b t u n → Takes (a ++ b) s u (m + n)
takes-join [] b s t u m n (e, z) q =
    let P : Session → Type 0 = λ x. Takes b x u (m + n) in
    subst P e (let Q : ℕ → Type 0 = λ k. Takes b t u k in subst Q (omega arith) q)
takes-join (x ∷ a) b s t u m n (no_memory, more, free, e, p) q =
    (no_memory, more + n, free, omega arith, takes-join a b _ t u more n p q)

pub record Parts (a b : List ℕ) (s u : Session) (n : ℕ) : Type 0 where
  pub mid : Session
  pub one : ℕ
  pub two : ℕ
  pub sum : n ≡ one + two
  pub first : Takes a s mid one
  pub second : Takes b mid u two

pub takes-split : (a b : List ℕ) (s u : Session) (n : ℕ) → Takes (a ++ b) s u n → Parts a b s u n
takes-split [] b s u n p = record { mid = s; one = 0; two = n; sum = omega arith; first = (refl, refl); second = p }
takes-split (x ∷ a) b s u n (no_memory, more, free, e, p) =
    let r = takes-split a b (byte_comes no_memory x s) u more p in
    record {
      mid = r.mid;
      one = starves no_memory x s s.incoming + r.one;
      two = r.two;
      sum = omega (arith, r.sum);
      first = (no_memory, r.one, free, refl, r.first);
      second = r.second;
    }

-- ---- whole feeds

take_all : (n : ℕ) (a : List ℕ) → n ≡ length a → take n a ≡ a
take_all n a e = grind (arith, common_steps)

take_past_length : (a b : List ℕ) (n : ℕ) → take (length a + n) (a ++ b) ≡ a ++ take n b
take_past_length [] b n = rw zero-add refl
take_past_length (x ∷ a) b n = rw suc-add (ap (λ ys. x ∷ ys) (take_past_length a b n))

take_past : (k n : ℕ) (a b : List ℕ) → k ≡ length a → take (k + n) (a ++ b) ≡ a ++ take n b
take_past k n a b e = rw e (take_past_length a b n)

-- a saturating sum
saturates : (m n top : ℕ) → min (min m top + min n top) top ≡ min (m + n) top
saturates m n top = omega arith

why-past : (k n : ℕ) (a b : List ℕ) (st : Status) → k ≡ length a → why_of st (n == length b) ≡ why_of st (k + n == length (a ++ b))
why-past k n a b st e =
    let same : (n == length b) ≡ (k + n == length (a ++ b)) = grind (arith, nat_tests, length-append a b) in ap (why_of st) same

pub feeds-join : (a b : List ℕ) (s t u : Session) (f g : Fed) → Feeds s a f t → f.taken ≡ length a → Feeds t b g u →
    Feeds s (a ++ b) (joined_fed f g) u
feeds-join a b s t u f g p all q = record {
  fits = omega (arith, p.fits, q.fits, length-append a b);
  took = (
    p.took.0 + q.took.0,
    (let P : List ℕ → Type 0 = λ xs. Takes xs s u (p.took.0 + q.took.0) in
        subst P (sym (take_past f.taken g.taken a b all)) (
        takes-join a (take g.taken b) s t u p.took.0 q.took.0
        (let Q : List ℕ → Type 0 = λ xs. Takes xs s t p.took.0 in subst Q (take_all f.taken a all) p.took.1)
        q.took.1
        )),
    (rw (p.took.2, q.took.2) (saturates p.took.0 q.took.0 4294967295)),
  );
  stops = λ l. q.stops (omega (arith, length-append a b));
  why = q.why ∙ why-past f.taken g.taken a b u.status all;
}

-- ---- and conversely

take_beyond : (k n : ℕ) (a b : List ℕ) → k ≡ length a + n → take k (a ++ b) ≡ a ++ take n b
take_beyond k n a b e = rw e (take_past_length a b n)

take_short : (k : ℕ) (a b : List ℕ) → k < length a → take k (a ++ b) ≡ take k a
take_short k a b l = grind (arith, common_steps)

fed_is : (f : Fed) (t n : ℕ) (w : Why) → f.taken ≡ t → f.no_memory ≡ n → f.why ≡ w → f ≡ record { taken = t; no_memory = n; why = w }
fed_is f t n w p q r = rw (← p, ← q, ← r) refl

all_test : (n : ℕ) → true ≡ (n == n)
all_test n = grind (arith, nat_tests)

-- what is split between two feeds
cut : (a b : List ℕ) (s u : Session) (fed : Fed) (n starved : ℕ) → fed.taken ≡ length a + n → fed.no_memory ≡ min starved 4294967295 →
    Feeds s (a ++ b) fed u → Parts a (take n b) s u starved → FedInTwo a b s u fed
cut a b s u fed n starved e m p q = record {
  mid = q.mid;
  first = record { taken = length a; no_memory = min q.one 4294967295; why = why_of q.mid.status true };
  second = record { taken = n; no_memory = min q.two 4294967295; why = fed.why };
  all = refl;
  one = record {
    fits = omega arith;
    took = (q.one, (let Q : List ℕ → Type 0 = λ xs. Takes xs s q.mid q.one in subst Q (sym (take_all (length a) a refl)) q.first), refl);
    stops = λ l. absurd (omega arith);
    why = ap (why_of q.mid.status) (all_test (length a));
  };
  two = record {
    fits = omega (arith, p.fits, length-append a b);
    took = (q.two, q.second, refl);
    stops = λ l. p.stops (omega (arith, length-append a b));
    why = p.why ∙ sym (rw (← e) at (why-past (length a) n a b u.status refl));
  };
  sum = fed_is fed (length a + n) _ fed.why e (m ∙ (rw q.sum (sym (saturates q.one q.two 4294967295)))) refl;
}

pub feeds-split : (a b : List ℕ) (s u : Session) (fed : Fed) → length a ≤ fed.taken → Feeds s (a ++ b) fed u → FedInTwo a b s u fed
feeds-split a b s u fed l p =
    let n = fed.taken - length a in
    let e : fed.taken ≡ length a + n = omega arith in
    let P : List ℕ → Type 0 = λ xs. Takes xs s u p.took.0 in
    cut a b s u fed n p.took.0 e p.took.2 p (takes-split a (take n b) s u p.took.0 (subst P (take_beyond fed.taken n a b e) p.took.1))

short_test : (k : ℕ) (a b : List ℕ) → k < length a → (k == length (a ++ b)) ≡ (k == length a)
short_test k a b l = grind (arith, nat_tests, length-append a b)

-- a feed that stopped inside a is a feed of a alone
pub feeds-inside : (a b : List ℕ) (s u : Session) (fed : Fed) → fed.taken < length a → Feeds s (a ++ b) fed u → Feeds s a fed u
feeds-inside a b s u fed l p = record {
  fits = omega arith;
  took = (p.took.0, (let P : List ℕ → Type 0 = λ xs. Takes xs s u p.took.0 in subst P (take_short fed.taken a b l) p.took.1), p.took.2);
  stops = λ k. p.stops (omega (arith, length-append a b));
  why = p.why ∙ ap (why_of u.status) (short_test fed.taken a b l);
}

-- and what follows it changes nothing
pub feeds-before : (a b : List ℕ) (s u : Session) (fed : Fed) → fed.taken < length a → Feeds s a fed u → Feeds s (a ++ b) fed u
feeds-before a b s u fed l p = record {
  fits = omega (arith, length-append a b);
  took = (p.took.0, (let P : List ℕ → Type 0 = λ xs. Takes xs s u p.took.0 in subst P (sym (take_short fed.taken a b l)) p.took.1), p.took.2);
  stops = λ k. p.stops l;
  why = p.why ∙ sym (ap (why_of u.status) (short_test fed.taken a b l));
}
