-- Bytes that a session takes feed no more frames than their weight.
use Rattle.std.proofs.Common.{◌≡◌, ℕ, ◌+◌, ◌-◌, ◌*◌, ◌<◌, ◌≤◌, List, [], ◌∷◌, ◌++◌, length, drop, Bool, true, false, ◌==◌, nat_lt, if◌then◌else◌, None, refl, sym, ap, subst, ◌∙◌, inl, inr, arith, length-append}
use Rattle.std.specs.List.{All, concat}
use Rattle.std.proofs.lemmas.Bool.Decides.{nat_tests}
use Rattle.ymx_header.specs.declared.header.Header.{Header}
use Rattle.ymx_header.specs.Headers.{header_of, has_fin}
use Rattle.ymx_model.specs.declared.types.Status.{Status}
use Rattle.ymx_model.specs.declared.types.Status.TheVariants.{Running, Lost, Broken, Closed}
use Rattle.ymx_model.specs.session.Sessions.{Session, Incoming, is_broken, is_deaf}
use Rattle.ymx_model.specs.session.Sessions.Incoming.{Head, Payload}
use Rattle.ymx_model.specs.session.Arrivals.{payload, header_fault, head_comes, piece_comes}
use Rattle.ymx_model.specs.session.Feeds.{Takes, is_stuck, is_between, byte_in, byte_comes}
use Rattle.ymx_model.specs.world.UnderWay.{IsOneFrame}
use Rattle.ymx_model.specs.world.Load.{is_inside, one_if}
use Rattle.ymx_law_session.specs.Limits.{IsWithin}
use Rattle.ymx_law_session.proofs.limits.FeedsKeep.{byte-keeps, payload_some}
use Rattle.ymx_law_session.proofs.pieces.Frames.{Awaits, head-awaits}
use Rattle.ymx_law_session.proofs.pieces.Pieces.{piece-status}
use Rattle.ymx_machine.proofs.Tests.{agrees, none_of}
use Rattle.ymx_headline.proofs.world.Fed.{Follow, no-tail, all-first, all-rest, assoc, behind, same-header, drop-length, piece-incoming}
use Rattle.ymx_headline.proofs.world.Frames.{no-fault}
use Rattle.ymx_headline.specs.Laws.{begins_payload, after_byte, made_whole}
use Rattle.ymx_headline.proofs.bounds.Loads.{one_if-most, effort, may_answer, weight, weights}
use Rattle.ymx_headline.proofs.bounds.LoadArrivals.{head-heads, head-awake, piece-eases}

-- ---- what comes next is told by how much lacks

-- the same bytes make the same frames whole
abbrev pub Alike : Incoming → Incoming → Type 0
Alike i j = (bytes : List ℕ) → made_whole bytes i ≡ made_whole bytes j

payloads-alike : (id other n : ℕ) (fin ends discarded lost : Bool) → Alike (Payload id n fin discarded) (Payload other n ends lost)
payloads-alike id other n fin ends discarded lost [] = refl
payloads-alike id other n fin ends discarded lost (b ∷ bs) = of (nat_lt 1 n) (payloads-alike id other (n - 1) fin ends discarded lost bs)
  where
    of : (more : Bool) → made_whole bs (Payload id (n - 1) fin discarded) ≡ made_whole bs (Payload other (n - 1) ends lost) →
        one_if (is_between (if more then Payload id (n - 1) fin discarded else Head [])) + made_whole bs (if more then Payload id (n - 1) fin discarded else Head [])
        ≡ one_if (is_between (if more then Payload other (n - 1) ends lost else Head [])) + made_whole bs (if more then Payload other (n - 1) ends lost else Head [])
    of true i = omega (arith, i)
    of false i = refl

-- after a head
awaited : (h : Header) (t : Session) → Awaits h t → Alike t.incoming (begins_payload h)
awaited h t (inl (none, now)) bytes = rw (now, none) refl
awaited h t (inr (discarded, some, now)) bytes =
    let z : (payload h == 0) ≡ false = grind (arith, nat_tests) in
    let e : begins_payload h ≡ Payload h.id (payload h) (has_fin h) false = rw z refl in
    ap (made_whole bytes) now ∙ (payloads-alike h.id h.id (payload h) (has_fin h) (has_fin h) discarded false bytes ∙ ap (made_whole bytes) (sym e))

ends-with : (h : Header) → is_between (begins_payload h) ≡ (payload h == 0)
ends-with h = of (payload h == 0)
  where
    of : (b : Bool) → is_between (if b then Head [] else Payload h.id (payload h) (has_fin h) false) ≡ b
    of true = refl
    of false = refl

-- ---- one byte

pub record Byte (least : ℕ) (b : ℕ) (rest : List ℕ) (frames : List (List ℕ)) (s t : Session) : Type 0 where
  pub left : List (List ℕ)
  pub follow : t.status ≡ Running → Follow t.incoming rest left
  pub awake : is_deaf t.status ≡ false
  pub alike : t.status ≡ Running → Alike t.incoming (after_byte b s.incoming)
  pub worth : 2 * effort least t + weights left ≤ 2 * effort least s + weights frames
  pub effort : effort least t + one_if (is_inside t.incoming) + weights left + one_if (is_between (after_byte b s.incoming)) ≤ effort least s + one_if (is_inside s.incoming) + weights frames

not-between : (xs : List ℕ) (b : ℕ) → is_between (Head (xs ++ b ∷ [])) ≡ false
not-between [] b = refl
not-between (x ∷ xs) b = refl

-- the receiver, at what it holds
abbrev ByteIn : (least : ℕ) → ℕ → List ℕ → List (List ℕ) → Session → Incoming → Session → Type 0
ByteIn least b rest frames s i t = Byte least b rest frames (record s { incoming = i }) t

early-byte : (least : ℕ) (b : ℕ) (seen rest : List ℕ) (frames : List (List ℕ)) (s : Session) → is_deaf s.status ≡ false → (length seen == 11) ≡ false → Follow (Head seen) (b ∷ rest) frames →
    ByteIn least b rest frames s (Head seen) (record s { incoming = Head (seen ++ b ∷ []) })
early-byte least b seen rest frames s awake early u =
    let none = no-tail u.tail u.missing in
    let e : seen ++ b ∷ rest ≡ concat frames = rw none at u.text in
    let step : after_byte b (Head seen) ≡ Head (seen ++ b ∷ []) = rw early refl in
    let z : one_if (is_between (after_byte b (Head seen))) ≡ 0 = ap (λ i. one_if (is_between i)) step ∙ ap one_if (not-between seen b) in
    record {
      left = frames;
      follow = λ r. record { tail = []; missing = refl; each = u.each; text = assoc seen b rest ∙ e };
      awake = awake;
      alike = λ r bytes. ap (made_whole bytes) (sym step);
      effort = omega (arith, z);
      worth = omega arith;
    }

twelfth-byte : (least : ℕ) (no_memory : Bool) (b : ℕ) (seen rest : List ℕ) (frames : List (List ℕ)) (s : Session) → IsWithin s → is_deaf s.status ≡ false → (length seen == 11) ≡ true → Follow (Head seen) (b ∷ rest) frames →
    ByteIn least b rest frames s (Head seen) (head_comes no_memory (header_of (seen ++ b ∷ [])) (record s { incoming = Head [] }))
twelfth-byte least no_memory b seen rest frames s w awake late u =
    let none = no-tail u.tail u.missing in
    of frames u.each (assoc seen b rest ∙ rw none at u.text)
  where
    head : List ℕ
    head = seen ++ b ∷ []

    long : length (seen ++ b ∷ []) ≡ 12
    long = omega (arith, agrees (length seen) 11 late, length-append seen (b ∷ []))

    of : (frames : List (List ℕ)) → All IsOneFrame frames → (seen ++ b ∷ []) ++ rest ≡ concat frames → ByteIn least b rest frames s (Head seen) (head_comes no_memory (header_of (seen ++ b ∷ [])) (record s { incoming = Head [] }))
    of [] a e = absurd (omega (arith, long, length-append (seen ++ b ∷ []) rest, ap length e))
    of (f ∷ fs) a e =
        let h = header_of (seen ++ b ∷ []) in
        let before : Session = record s { incoming = Head [] } in
        let t = head_comes no_memory h before in
        let one = all-first f fs a in
        let same : header_of f ≡ h = same-header (seen ++ b ∷ []) rest f (concat fs) long one.header e in
        let sound : header_fault h before ≡ None = subst (λ x. header_fault x before ≡ None) same (no-fault f s one w) in
        let heads = head-heads least no_memory h before refl sound in
        let k = heads.effort in
        let r = heads.rise in
        let o = one_if-most (may_answer h) in
        let step : after_byte b (Head seen) ≡ begins_payload h = rw late refl in
        let z : one_if (is_between (after_byte b (Head seen))) ≡ one_if (payload h == 0) = ap (λ i. one_if (is_between i)) step ∙ ap one_if (ends-with h) in
        let m : weight f ≡ 1 + one_if (may_answer h) = ap (λ x. 1 + one_if (may_answer x)) same in
        let whole : length f ≡ 12 + payload h = one.whole ∙ ap (λ x. 12 + payload x) same in
        record {
          left = fs;
          follow = λ r. behind-head f fs h t (drop-length f (payload h) whole) (all-rest f fs a) (behind (seen ++ b ∷ []) rest f (concat fs) long one.header e) (head-awaits no_memory h before refl r);
          awake = head-awake no_memory h before awake;
          alike = λ r bytes. awaited h t (head-awaits no_memory h before refl r) bytes ∙ ap (made_whole bytes) (sym step);
          effort = omega (arith, k, z, m);
          worth = omega (arith, r, o, m);
        }
      where
        behind-head : (f : List ℕ) (fs : List (List ℕ)) (h : Header) (t : Session) → length (drop 12 f) ≡ payload h → All IsOneFrame fs → rest ≡ drop 12 f ++ concat fs → Awaits h t → Follow t.incoming rest fs
        behind-head f fs h t n a e (inl (none, now)) = let z = no-tail (drop 12 f) (n ∙ none) in rw now (record { tail = []; missing = refl; each = a; text = rw z at e })
        behind-head f fs h t n a e (inr (discarded, some, now)) = rw now (record { tail = drop 12 f; missing = n; each = a; text = e })

payload-byte : (least : ℕ) (b id n : ℕ) (fin discarded : Bool) (rest : List ℕ) (frames : List (List ℕ)) (s : Session) → is_deaf s.status ≡ false → 0 < n → Follow (Payload id n fin discarded) (b ∷ rest) frames →
    ByteIn least b rest frames s (Payload id n fin discarded) (piece_comes (b ∷ []) id n fin discarded s)
payload-byte least b id n fin discarded rest frames s awake some u =
    let t = piece_comes (b ∷ []) id n fin discarded s in
    let now = piece-incoming b id n fin discarded s in
    let l = piece-eases least (b ∷ []) id n fin discarded s in
    let m = inside-or (nat_lt 1 n) in
    let k : one_if (is_inside t.incoming) ≡ one_if (is_inside (if nat_lt 1 n then Payload id (n - 1) fin discarded else Head [])) = ap (λ i. one_if (is_inside i)) now in
    record {
      left = frames;
      follow = λ r. subst (λ i. Follow i rest frames) (sym now) (of (nat_lt 1 n) refl u.tail u.missing u.text);
      awake = ap is_deaf (piece-status (b ∷ []) id n fin discarded s) ∙ awake;
      alike = λ r bytes. ap (made_whole bytes) now;
      effort = omega (arith, l, m, k);
      worth = omega (arith, l);
    }
  where
    inside-or : (more : Bool) → one_if (is_inside (if more then Payload id (n - 1) fin discarded else Head [])) + one_if (is_between (if more then Payload id (n - 1) fin discarded else Head [])) ≡ 1
    inside-or true = refl
    inside-or false = refl

    of : (more : Bool) → nat_lt 1 n ≡ more → (tail : List ℕ) → length tail ≡ n → b ∷ rest ≡ tail ++ concat frames → Follow (if more then Payload id (n - 1) fin discarded else Head []) rest frames
    of more m [] l e = absurd (omega arith)
    of true m (x ∷ tail) l e = record { tail = tail; missing = omega arith; each = u.each; text = cc }
    of false m (x ∷ []) l e = record { tail = []; missing = refl; each = u.each; text = cc }
    of false m (x ∷ y ∷ tail) l e = absurd (grind (arith, nat_tests))

in-byte : (least : ℕ) (no_memory : Bool) (b : ℕ) (rest : List ℕ) (frames : List (List ℕ)) (s : Session) (i : Incoming) → s.incoming ≡ i → IsWithin s → is_deaf s.status ≡ false → Follow i (b ∷ rest) frames → ByteIn least b rest frames s i (byte_in no_memory b s i)
in-byte least no_memory b rest frames s (Head seen) e w awake u = of (length seen == 11) refl
  where
    of : (late : Bool) → (length seen == 11) ≡ late →
        ByteIn least b rest frames s (Head seen) (if late then head_comes no_memory (header_of (seen ++ b ∷ [])) (record s { incoming = Head [] }) else record s { incoming = Head (seen ++ b ∷ []) })
    of true q = twelfth-byte least no_memory b seen rest frames s w awake q u
    of false q = early-byte least b seen rest frames s awake q u
in-byte least no_memory b rest frames s (Payload id n fin discarded) e w awake u = payload-byte least b id n fin discarded rest frames s awake (payload_some id n fin discarded s e w) u

runs : (s : Session) → is_deaf s.status ≡ false → is_stuck s ≡ false → s.status ≡ Running
runs s awake free = of s.status awake (none_of (is_broken s.status) _ free).0
  where
    of : (st : Status) → is_deaf st ≡ false → is_broken st ≡ false → st ≡ Running
    of Running a b = refl
    of Lost a b = absurd cc
    of (Broken f) a b = absurd cc
    of Closed a b = absurd cc

pub one-byte : (least : ℕ) (no_memory : Bool) (b : ℕ) (rest : List ℕ) (frames : List (List ℕ)) (s : Session) → IsWithin s → is_deaf s.status ≡ false → Follow s.incoming (b ∷ rest) frames → Byte least b rest frames s (byte_comes no_memory b s)
one-byte least no_memory b rest frames s w awake u =
    let same : byte_comes no_memory b s ≡ byte_in no_memory b s s.incoming = rw awake refl in
    subst (Byte least b rest frames s) (sym same) (in-byte least no_memory b rest frames s s.incoming refl w awake u)

-- ---- many bytes

pub record Bytes (least : ℕ) (bytes rest : List ℕ) (frames : List (List ℕ)) (s t : Session) : Type 0 where
  pub left : List (List ℕ)
  pub follow : t.status ≡ Running → Follow t.incoming rest left
  pub awake : is_deaf t.status ≡ false
  pub worth : 2 * effort least t + weights left ≤ 2 * effort least s + weights frames
  pub effort : effort least t + one_if (is_inside t.incoming) + weights left + made_whole bytes s.incoming ≤ effort least s + one_if (is_inside s.incoming) + weights frames

pub takes-bytes : (least : ℕ) (bytes rest : List ℕ) (frames : List (List ℕ)) (s t : Session) (starved : ℕ) → Takes bytes s t starved → IsWithin s → is_deaf s.status ≡ false → (s.status ≡ Running → Follow s.incoming (bytes ++ rest) frames) →
    Bytes least bytes rest frames s t
takes-bytes least [] rest frames s t starved p w awake u = subst (Bytes least [] rest frames s) (sym p.0) (record { left = frames; follow = u; awake = awake; effort = omega arith; worth = omega arith })
takes-bytes least (b ∷ bytes) rest frames s t starved (no_memory, more, free, e, p) w awake u =
    let next = byte_comes no_memory b s in
    let one = one-byte least no_memory b (bytes ++ rest) frames s w awake (u (runs s awake free)) in
    let k = takes-bytes least bytes rest one.left next t more p (byte-keeps no_memory b s free w) one.awake one.follow in
    let same = of bytes p one.awake one.alike in
    let x = one.effort in
    let y = k.effort in
    let u = one.worth in
    let v = k.worth in
    record { left = k.left; follow = k.follow; awake = k.awake; effort = omega (arith, x, y, same); worth = omega (arith, u, v) }
  where
    of : (bytes : List ℕ) → Takes bytes (byte_comes no_memory b s) t more → is_deaf (byte_comes no_memory b s).status ≡ false → ((byte_comes no_memory b s).status ≡ Running → Alike (byte_comes no_memory b s).incoming (after_byte b s.incoming)) →
        made_whole bytes (byte_comes no_memory b s).incoming ≡ made_whole bytes (after_byte b s.incoming)
    of [] p a h = refl
    of (c ∷ cs) p a h = h (runs (byte_comes no_memory b s) a p.2) (c ∷ cs)
