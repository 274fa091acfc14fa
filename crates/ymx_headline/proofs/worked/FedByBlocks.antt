-- What is computed of a feed is a feed.
use Rattle.std.proofs.Common.{◌≡◌, ℕ, zero, suc, ◌-◌, ◌<◌, ◌≤◌, List, [], ◌∷◌, ◌++◌, length, take, drop, min, Bool, true, false, ◌||◌, ◌==◌, refl, sym, ap, ◌∙◌, subst, arith, length-append, length-take, append_assoc}
use Rattle.std.proofs.lemmas.Grind.{common_steps}
use Rattle.std.proofs.lemmas.Bool.Decides.{nat_tests}
use Rattle.ymx_header.specs.Headers.{header_of}
use Rattle.ymx_model.specs.declared.types.Status.{Status}
use Rattle.ymx_model.specs.declared.types.Status.TheVariants.{Running, Lost, Broken, Closed}
use Rattle.ymx_model.specs.session.FramesDue.{is_empty}
use Rattle.ymx_model.specs.session.Sessions.{Session, Incoming, is_deaf}
use Rattle.ymx_model.specs.session.Sessions.Incoming.{Head, Payload}
use Rattle.ymx_model.specs.session.Arrivals.{head_comes}
use Rattle.ymx_model.specs.session.Feeds.{Takes, Feeds, is_stuck, starves, why_of}
use Rattle.ymx_law_session.specs.Limits.{IsWithin}
use Rattle.ymx_machine.proofs.Tests.{split, agrees, none_of}
use Rattle.ymx_law_session.proofs.pieces.Chunks.{takes-join}
use Rattle.ymx_law_session.proofs.pieces.Pieces.{head-takes, head-whole}
use Rattle.ymx_law_session.proofs.pieces.Frames.{block-takes, takes-deaf}
use Rattle.ymx_law_session.proofs.limits.FeedsKeep.{takes-keep, payload_some}
use Rattle.ymx_headline.specs.worked.Plays.{Drunk, block, piece, whole_head, drink, drunk, play_feed}

-- some bytes at the front were taken, and these are left
pub record Drank (from to : Drunk) : Type 0 where
  pub front : List ℕ
  pub bytes : from.rest ≡ front ++ to.rest
  pub takes : Takes front from.state to.state 0

-- a block takes a byte at least
pub record DrankSome (from to : Drunk) : Type 0 where
  pub drank : Drank from to
  pub some : 0 < length drank.front

drank_none : (d : Drunk) → Drank d d
drank_none d = record { front = []; bytes = refl; takes = (refl, refl) }

drank_join : (a b c : Drunk) → Drank a b → Drank b c → Drank a c
drank_join a b c p q = record {
  front = p.front ++ q.front;
  bytes = p.bytes ∙ ap (λ xs. p.front ++ xs) q.bytes ∙ sym (append_assoc p.front q.front c.rest);
  takes = takes-join p.front q.front a.state b.state c.state 0 0 p.takes q.takes;
}

take-drop : (n : ℕ) (xs : List ℕ) → xs ≡ take n xs ++ drop n xs
take-drop n xs = grind (arith, common_steps)

running : (st : Status) (s : Session) → s.status ≡ st → is_stuck s ≡ false → is_deaf st ≡ false → s.status ≡ Running
running Running s e free d = e
running Lost s e free d = cc
running (Broken f) s e free d = let z : true ≡ false = rw e at free in cc
running Closed s e free d = cc

same_incoming : (s : Session) → s.incoming ≡ Head [] → record s { incoming = Head [] } ≡ s
same_incoming s inc = grind (arith, common_steps)

-- ---- one block

piece-drank : (b : ℕ) (bs : List ℕ) (id n : ℕ) (fin discarded : Bool) (s : Session) → s.status ≡ Running → s.incoming ≡ Payload id n fin discarded → 0 < n →
    DrankSome (record { rest = b ∷ bs; state = s }) (piece (b ∷ bs) (take n (b ∷ bs)) id n fin discarded s)
piece-drank b bs id n fin discarded s st inc some =
    let l : 0 < length (take n (b ∷ bs)) = omega (arith, length-take n (b ∷ bs)) in
    let m : length (take n (b ∷ bs)) ≤ n = omega (arith, length-take n (b ∷ bs)) in record {
      drank = record { front = take n (b ∷ bs); bytes = take-drop n (b ∷ bs); takes = block-takes (take n (b ∷ bs)) id n fin discarded s st inc l m };
      some = l;
    }

head-drank : (b : ℕ) (bs : List ℕ) (s : Session) → s.status ≡ Running → s.incoming ≡ Head [] → is_stuck s ≡ false →
    DrankSome (record { rest = b ∷ bs; state = s }) (whole_head (b ∷ bs) (take 12 (b ∷ bs)) s)
head-drank b bs s st inc free =
    split (DrankSome (record { rest = b ∷ bs; state = s })) (length (take 12 (b ∷ bs)) == 12)
    (record { rest = drop 12 (b ∷ bs); state = head_comes false (header_of (take 12 (b ∷ bs))) s }) (record { rest = []; state = record s { incoming = Head (b ∷ bs) } })
    (λ t. let twelve = agrees (length (take 12 (b ∷ bs))) 12 t in record {
      drank = record { front = take 12 (b ∷ bs); bytes = take-drop 12 (b ∷ bs); takes = whole (take 12 (b ∷ bs)) twelve };
      some = omega arith;
    })
    (λ f. let short : length (b ∷ bs) < 12 = few (length (b ∷ bs)) (length-take 12 (b ∷ bs)) f in record {
      drank = record { front = b ∷ bs; bytes = sym (no_more (b ∷ bs)); takes = head-takes (b ∷ bs) [] s st inc free (omega arith) };
      some = omega arith;
    })
  where
    whole : (xs : List ℕ) → length xs ≡ 12 → Takes xs s (head_comes false (header_of xs) s) 0
    whole [] l = absurd (omega arith)
    whole (x ∷ xs) l =
        let P : Session → Type 0 = λ t. Takes (x ∷ xs) s (head_comes false (header_of (x ∷ xs)) t) 0 in
        subst P (same_incoming s inc) (head-whole false xs [] x s st inc free (omega (arith, l)))

    few : (n : ℕ) → length (take 12 (b ∷ bs)) ≡ min 12 n → (length (take 12 (b ∷ bs)) == 12) ≡ false → n < 12
    few n e f = grind (arith, nat_tests)

    no_more : (xs : List ℕ) → xs ++ [] ≡ xs
    no_more xs = grind (arith, common_steps)

block-drank : (b : ℕ) (bs : List ℕ) (s : Session) (i : Incoming) → s.incoming ≡ i → s.status ≡ Running → is_stuck s ≡ false → IsWithin s →
    DrankSome (record { rest = b ∷ bs; state = s }) (block (b ∷ bs) s i)
block-drank b bs s (Head []) inc st free w = head-drank b bs s st inc free
block-drank b bs s (Head (c ∷ cs)) inc st free w = record {
  drank = record {
    front = b ∷ [];
    bytes = refl;
    takes = (let z : starves false b s s.incoming ≡ 0 = ap (starves false b s) inc in (false, 0, free, omega arith, (refl, refl)));
  };
  some = omega arith;
}
block-drank b bs s (Payload id n fin discarded) inc st free w = piece-drank b bs id n fin discarded s st inc (payload_some id n fin discarded s inc w)

-- ---- all blocks

-- it goes on until nothing is left or no byte is taken
pub record Drained (from to : Drunk) : Type 0 where
  pub drank : Drank from to
  pub done : (is_empty to.rest || is_stuck to.state) ≡ true

empty_length : (xs : List ℕ) → length xs ≡ 0 → is_empty xs ≡ true
empty_length [] e = refl
empty_length (x ∷ xs) e = absurd (omega arith)

pub drained : (blocks : ℕ) (d : Drunk) → length d.rest ≤ blocks → IsWithin d.state → Drained d (drink blocks d)
drained zero d l w = record { drank = drank_none d; done = rw (empty_length d.rest (omega arith)) refl }
drained (suc blocks) d l w =
    split (Drained d) (is_empty d.rest || is_stuck d.state) d _ (λ t. record { drank = drank_none d; done = t }) (λ f.
    split (Drained d) (is_deaf d.state.status) (record { rest = []; state = d.state }) (drink blocks (block d.rest d.state d.state.incoming)) (λ t. record {
      drank = record { front = d.rest; bytes = sym (no_more d.rest); takes = takes-deaf d.rest d.state t };
      done = refl;
    }) (λ g. let n = none_of (is_empty d.rest) (is_stuck d.state) f in
    of (λ e k v. drained blocks e k v) d.rest refl n.0 n.1 g))
  where
    no_more : (xs : List ℕ) → xs ++ [] ≡ xs
    no_more xs = grind (arith, common_steps)

    fewer : (a b : Drunk) (p : Drank a b) → 0 < length p.front → length b.rest < length a.rest
    fewer a b p some = let e : length a.rest ≡ length (p.front ++ b.rest) = ap length p.bytes in omega (arith, length-append p.front b.rest)

    of : ((e : Drunk) → length e.rest ≤ blocks → IsWithin e.state → Drained e (drink blocks e)) → (xs : List ℕ) → d.rest ≡ xs → is_empty d.rest ≡ false → is_stuck d.state ≡ false → is_deaf d.state.status ≡ false →
        Drained d (drink blocks (block d.rest d.state d.state.incoming))
    of more [] e n free g = let z : true ≡ false = rw e at n in cc
    of more (b ∷ bs) e n free g =
        let st = running d.state.status d.state refl free g in
        let Some_ : List ℕ → Type 0 = λ xs. DrankSome (record { rest = xs; state = d.state }) (block xs d.state d.state.incoming) in
        let p : DrankSome d (block d.rest d.state d.state.incoming) = subst Some_ (sym e) (block-drank b bs d.state d.state.incoming refl st free w) in
        let rest = more (block d.rest d.state d.state.incoming) (let k = fewer d (block d.rest d.state d.state.incoming) p.drank p.some in omega arith) (takes-keep p.drank.front d.state _ 0 p.drank.takes w) in
        record { drank = drank_join d (block d.rest d.state d.state.incoming) _ p.drank rest.drank; done = rest.done }

-- ---- a feed

take_length : (front rest : List ℕ) → take (length front) (front ++ rest) ≡ front
take_length front rest = grind (arith, common_steps)

take_front : (n : ℕ) (xs front rest : List ℕ) → xs ≡ front ++ rest → n ≡ length xs - length rest → take n xs ≡ front
take_front n xs front rest e l =
    let m : length xs ≡ length (front ++ rest) = ap length e in
    let k : n ≡ length front = omega (arith, length-append front rest) in rw (k, e) (take_length front rest)

empty_test : (xs : List ℕ) (n : ℕ) → length xs ≤ n → is_empty xs ≡ (n - length xs == n)
empty_test [] n l = grind (arith, nat_tests)
empty_test (x ∷ xs) n l = grind (arith, nat_tests)

stops_at : (xs : List ℕ) (n : ℕ) (stuck : Bool) → (is_empty xs || stuck) ≡ true → n - length xs < n → stuck ≡ true
stops_at [] n stuck e l = absurd (omega arith)
stops_at (x ∷ xs) n stuck e l = e

pub feeds : (bytes : List ℕ) (s : Session) → IsWithin s → Feeds s bytes (play_feed bytes s).fed (play_feed bytes s).state
feeds bytes s w =
    let d = drained (length bytes) (record { rest = bytes; state = s }) (omega arith) w in
    let e : length bytes ≡ length (d.drank.front ++ (drunk bytes s).rest) = ap length d.drank.bytes in
    let l : length (drunk bytes s).rest ≤ length bytes = omega (arith, length-append d.drank.front (drunk bytes s).rest) in
    let P : List ℕ → Type 0 = λ xs. Takes xs s (drunk bytes s).state 0 in record {
      fits = omega arith;
      took = (0, subst P (sym (take_front (length bytes - length (drunk bytes s).rest) bytes d.drank.front (drunk bytes s).rest d.drank.bytes refl)) d.drank.takes, refl);
      stops = λ k. stops_at (drunk bytes s).rest (length bytes) (is_stuck (drunk bytes s).state) d.done k;
      why = ap (why_of (drunk bytes s).state.status) (empty_test (drunk bytes s).rest (length bytes) l);
    }
