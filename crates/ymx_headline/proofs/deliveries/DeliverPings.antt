-- A ping, and an answer to one, that come are moves of the machine.
use Rattle.std.proofs.Common.{◌≡◌, ◌≢◌, ℕ, ◌+◌, ◌≤◌, List, [], ◌∷◌, ◌++◌, map, Bool, true, false, not, ◌&&◌, ◌||◌, ◌==◌, nat_lt, if◌then◌else◌, Some, refl, sym, ap, subst, ◌∙◌, inl, inr, arith}
use Rattle.std.specs.Prelude.{is_some}
use Rattle.std.proofs.lemmas.Bool.Decides.{nat_tests}
use Rattle.ymx_header.specs.declared.header.Header.{Header}
use Rattle.ymx_header.specs.Headers.{header_of, has_syn}
use Rattle.ymx_model.specs.declared.types.Role.{Role}
use Rattle.ymx_model.specs.declared.types.Response.{Response}
use Rattle.ymx_model.specs.declared.types.Response.TheVariants.{Pong, Reject}
use Rattle.ymx_model.specs.declared.types.PingStage.TheVariants.{Back as BackStage}
use Rattle.ymx_model.specs.session.Parts.{Part}
use Rattle.ymx_model.specs.session.Pings.{Ping, Pings, is_pending, has_back, has_asked, staged, receive_answer}
use Rattle.ymx_machine.specs.shared.Lists.{look, change}
use Rattle.ymx_model.specs.session.Sessions.{Session}
use Rattle.ymx_model.specs.session.Sessions.Incoming.{Head}
use Rattle.ymx_model.specs.session.Arrivals.{head_comes}
use Rattle.ymx_model.specs.session.Feeds.{byte_comes, starves}
use Rattle.ymx_model.specs.world.Worlds.{World}
use Rattle.ymx_machine.specs.machine.Machines.{Machine, PingPlace}
use Rattle.ymx_machine.specs.machine.Machines.PingPlace.{Asked, There, Back}
use Rattle.ymx_machine.specs.machine.CallRules.{found_back}
use Rattle.ymx_machine.specs.machine.FreeMoves.FreeMove.{PingThere, PingBack}
use Rattle.ymx_law_session.specs.Limits.{IsWithin}
use Rattle.ymx_law_session.specs.Reaped.{IsReaped}
use Rattle.ymx_machine.proofs.Tests.{same_or_not}
use Rattle.ymx_law_session.proofs.limits.Pings.{pending-staged}
use Rattle.ymx_headline.proofs.machine.order.Maps.{look-change, look-change_other}
use Rattle.ymx_headline.specs.Agrees.{AgreesAs, RejectsOnce, SamePings, Sender, Receiver, Text, PingsUnderWay, PongsUnderWay, pongs_of, sending, hearing, is_rejected, is_asked_at, is_there_at, number_of, entry_number, asks, replies, is_go_away, count_in, pongs}
use Rattle.ymx_headline.proofs.deliveries.DeliverTexts.{count-skip, count-first, away-rest, pings-rest, pongs-rest}
use Rattle.ymx_headline.proofs.relation.Texts.{same-text}
use Rattle.ymx_headline.proofs.deliveries.DeliverBytes.{Delivered, delivered-is}
use Rattle.ymx_headline.proofs.deliveries.DeliverStreams.{TakingHead}
use Rattle.ymx_headline.proofs.deliveries.DeliverSession.{session-frame, session-text, session-arrives, one-less, some-more, count-less, no-count}

-- ---- places

same-numbers : (n : ℕ) (k : PingPlace → PingPlace) (ps : List (ℕ × PingPlace)) → map entry_number (change n k ps) ≡ map entry_number ps
same-numbers n k [] = refl
same-numbers n k (p ∷ ps) = let h = same-numbers n k ps in grind (arith, nat_tests)

same-staged : (n : ℕ) (ps : List Ping) → map number_of (staged BackStage n ps) ≡ map number_of ps
same-staged n [] = refl
same-staged n (p ∷ ps) = let h = same-staged n ps in grind (arith, nat_tests)

back-staged : (n : ℕ) (ps : List Ping) → has_back n (staged BackStage n ps) ≡ is_pending n ps
back-staged n [] = refl
back-staged n (p ∷ ps) = let h = back-staged n ps in grind (arith, nat_tests)

back-staged_other : (n i : ℕ) (ps : List Ping) → i ≢ n → has_back i (staged BackStage n ps) ≡ has_back i ps
back-staged_other n i [] d = refl
back-staged_other n i (p ∷ ps) d = let h = back-staged_other n i ps d in grind (arith, nat_tests)

asked-staged : (n : ℕ) (ps : List Ping) → has_asked n (staged BackStage n ps) ≡ false
asked-staged n [] = refl
asked-staged n (p ∷ ps) = let h = asked-staged n ps in grind (arith, nat_tests)

asked-staged_other : (n i : ℕ) (ps : List Ping) → i ≢ n → has_asked i (staged BackStage n ps) ≡ has_asked i ps
asked-staged_other n i [] d = refl
asked-staged_other n i (p ∷ ps) d = let h = asked-staged_other n i ps d in grind (arith, nat_tests)

heads-same : (a b : ℕ) (xs ys : List ℕ) → a ∷ xs ≡ b ∷ ys → (a ≡ b) × (xs ≡ ys)
heads-same a b xs ys e = (cc, cc)

-- a ping of which the machine knows is pending
placed-pending : (n : ℕ) (places : List (ℕ × PingPlace)) (ps : List Ping) → map entry_number places ≡ map number_of ps → is_some (look n places) ≡ is_pending n ps
placed-pending n [] [] e = refl
placed-pending n [] (p ∷ ps) e = cc
placed-pending n (q ∷ qs) [] e = cc
placed-pending n (q ∷ qs) (p ∷ ps) e =
    let k = heads-same q.0 p.number (map entry_number qs) (map number_of ps) e in
    let h = placed-pending n qs ps k.1 in
    rw (← k.0, ← h) (of (q.0 == n))
  where
    of : (z : Bool) → is_some (if z then Some q.1 else look n qs) ≡ (z || is_some (look n qs))
    of true = refl
    of false = refl

-- ---- the number of a ping

other-asks : (f : List ℕ) (n i : ℕ) → (header_of f).length ≡ n → i ≢ n → asks i f ≡ false
other-asks f n i e d = let k : ((header_of f).length == i) ≡ false = (let z : n ≢ i = (λ q. d (sym q)) in grind (arith, nat_tests)) in rw k (of ((header_of f).kind == 2 && has_syn (header_of f)))
  where
    of : (z : Bool) → (z && false) ≡ false
    of true = refl
    of false = refl

other-replies : (f : List ℕ) (n i : ℕ) → (header_of f).length ≡ n → i ≢ n → replies i f ≡ false
other-replies f n i e d = let k : ((header_of f).length == i) ≡ false = (let z : n ≢ i = (λ q. d (sym q)) in grind (arith, nat_tests)) in rw k (of ((header_of f).kind == 2 && not (has_syn (header_of f))))
  where
    of : (z : Bool) → (z && false) ≡ false
    of true = refl
    of false = refl

-- ---- an answer more

pongs-more : (n i : ℕ) (answers : List Response) → pongs i (answers ++ Pong n ∷ []) ≡ pongs i answers + (if n == i then 1 else 0)
pongs-more n i [] = of (n == i)
  where
    of : (z : Bool) → (if z then 0 + 1 else 0) ≡ 0 + (if z then 1 else 0)
    of true = refl
    of false = refl
pongs-more n i (Reject x ∷ more) = pongs-more n i more
pongs-more n i (Pong x ∷ more) = let h = pongs-more n i more in rw h (of (x == i) (pongs i more) (if n == i then 1 else 0))
  where
    of : (z : Bool) (a c : ℕ) → (if z then (a + c) + 1 else a + c) ≡ (if z then a + 1 else a) + c
    of true a c = omega arith
    of false a c = refl

pongs-same : (n : ℕ) (answers : List Response) → pongs n (answers ++ Pong n ∷ []) ≡ pongs n answers + 1
pongs-same n answers = pongs-more n n answers ∙ (let e : (n == n) ≡ true = grind (arith, nat_tests) in rw e refl)

pongs-other : (n i : ℕ) (answers : List Response) → i ≢ n → pongs i (answers ++ Pong n ∷ []) ≡ pongs i answers
pongs-other n i answers d = pongs-more n i answers ∙ (let e : (n == i) ≡ false = (let z : n ≢ i = (λ q. d (sym q)) in grind (arith, nat_tests)) in rw e (omega arith))

rejected-same : (n i : ℕ) (answers : List Response) → is_rejected i (answers ++ Pong n ∷ []) ≡ is_rejected i answers
rejected-same n i [] = refl
rejected-same n i (Pong x ∷ more) = rejected-same n i more
rejected-same n i (Reject x ∷ more) = let h = rejected-same n i more in rw h refl

once-same : (n : ℕ) (answers : List Response) → RejectsOnce answers → RejectsOnce (answers ++ Pong n ∷ [])
once-same n [] o = tt
once-same n (Pong x ∷ more) o = once-same n more o
once-same n (Reject x ∷ more) o = (rejected-same n x more ∙ o.0, once-same n more o.1)

-- ---- a ping arrives

-- the ping of this number is there
abbrev there_now : ℕ → List (ℕ × PingPlace) → List (ℕ × PingPlace)
there_now n places = change n (λ _. There) places

there-pings : (p : Pings) (next n : ℕ) (places : List (ℕ × PingPlace)) → look n places ≡ Some Asked → SamePings p next places → SamePings p next (there_now n places)
there-pings p next n places l h = record {
  next = h.next;
  numbers = same-numbers n (λ _. There) places ∙ h.numbers;
  back = λ i. elim (same_or_not i n) [
    | inl q ↦ rw q (ap found_back (look-change n (λ _. There) places Asked l) ∙ (ap found_back (sym l) ∙ h.back n))
    | inr d ↦ ap found_back (look-change_other i n (λ _. There) places d) ∙ h.back i
  ];
  fits = h.fits;
}

-- under way is it no longer
asked-done : (s : Sender) (n : ℕ) (f : List ℕ) (fs : List (List ℕ)) → asks n f ≡ true → (header_of f).length ≡ n → look n s.places ≡ Some Asked → PingsUnderWay s (f ∷ fs) → PingsUnderWay (record s { places = there_now n s.places }) fs
asked-done s n f fs e len l h =
    let k = count-first (asks n) f fs e in
    let none = one-less (count_in (asks n) fs) (rw k at (h.once n)) in
    let means : nat_lt 0 (count_in (asks n) fs + 1) ≡ true → (look n s.places ≡ Some Asked) × (has_asked n s.pings.pending ≡ false) = rw k at (h.means n) in
    let gone = (means (some-more (count_in (asks n) fs))).1 in
    record {
      once = λ i. (let a = count-less (asks i) f fs in let c = h.once i in omega (arith, a, c));
      means = λ i t. elim (same_or_not i n) [
        | inl q ↦ absurd (no-count (count_in (asks n) fs) none (subst (λ z. nat_lt 0 (count_in (asks z) fs) ≡ true) q t))
        | inr d ↦ (let m = rw (count-skip (asks i) f fs (other-asks f n i len d)) at (h.means i) in let z = m t in (look-change_other i n (λ _. There) s.places d ∙ z.0, z.1))
      ];
      asked = λ i r. elim (same_or_not i n) [
        | inl q ↦ rw (q, look-change n (λ _. There) s.places Asked l, gone, none) refl
        | inr d ↦ ap is_asked_at (look-change_other i n (λ _. There) s.places d) ∙ (let m = rw (count-skip (asks i) f fs (other-asks f n i len d)) at (h.asked i) in m r)
      ];
    }

-- and its answer is due
pongs-due : (s : Sender) (r : Receiver) (n : ℕ) (fs : List (List ℕ)) → look n r.places ≡ Some Asked → PongsUnderWay s r fs → PongsUnderWay (record s { answers = s.answers ++ Pong n ∷ [] }) (record r { places = there_now n r.places }) fs
pongs-due s r n fs l h =
    let none : pongs_of n s fs ≡ 0 = nothing (pongs_of n s fs) (h.means n) in
    let one : pongs n (s.answers ++ Pong n ∷ []) + count_in (replies n) fs ≡ 1 = (let k = pongs-same n s.answers in omega (arith, k, none)) in
    record {
      once = λ i. elim (same_or_not i n) [
        | inl q ↦ rw (q, one) (omega arith)
        | inr d ↦ rw (pongs-other n i s.answers d) (h.once i)
      ];
      means = λ i t. elim (same_or_not i n) [
        | inl q ↦ rw q (look-change n (λ _. There) r.places Asked l)
        | inr d ↦ look-change_other i n (λ _. There) r.places d ∙ h.means i (rw (pongs-other n i s.answers d) at t)
      ];
      there = λ i t. elim (same_or_not i n) [
        | inl q ↦ rw (q, one, look-change n (λ _. There) r.places Asked l) refl
        | inr d ↦ ap is_there_at (look-change_other i n (λ _. There) r.places d) ∙ (h.there i t ∙ ap (λ z. nat_lt 0 (z + count_in (replies i) fs)) (sym (pongs-other n i s.answers d)))
      ];
    }
  where
    nothing : (c : ℕ) → (nat_lt 0 c ≡ true → look n r.places ≡ Some There) → c ≡ 0
    nothing c m = of (nat_lt 0 c) refl
      where
        of : (z : Bool) → nat_lt 0 c ≡ z → c ≡ 0
        of true e = let no : Some Asked ≡ Some There = sym l ∙ m e in absurd cc
        of false e = grind (arith, nat_tests)

-- what the frame of a ping, or of the answer to one, says
record SaysPing (frame : List ℕ) (asks : Bool) (n : ℕ) : Type 0 where
  two : ((header_of frame).kind == 2) ≡ true
  syn : has_syn (header_of frame) ≡ asks
  number : (header_of frame).length ≡ n

says-ping : (x y : Role) (no_memory : Bool) (b : ℕ) (seen rest : List ℕ) (w : World) (m : Machine) (h : AgreesAs x y w m) (k : TakingHead x y no_memory b seen rest w m h) (asks : Bool) → (header_of (seen ++ b ∷ [])).kind ≡ 2 → has_syn (header_of (seen ++ b ∷ [])) ≡ asks →
    SaysPing k.first.frame asks (header_of (seen ++ b ∷ [])).length
says-ping x y no_memory b seen rest w m h k asks kind syn = record {
  two = ap (λ (z : Header). z.kind == 2) k.first.header ∙ (let e : ((header_of (seen ++ b ∷ [])).kind == 2) ≡ true = grind (arith, nat_tests) in e);
  syn = ap has_syn k.first.header ∙ syn;
  number = ap (λ (z : Header). z.length) k.first.header;
}

not-three : (x y : Role) (no_memory : Bool) (b : ℕ) (seen rest : List ℕ) (w : World) (m : Machine) (h : AgreesAs x y w m) (k : TakingHead x y no_memory b seen rest w m h) → (header_of (seen ++ b ∷ [])).kind ≡ 2 → is_go_away k.first.frame ≡ false
not-three x y no_memory b seen rest w m h k kind = ap (λ (z : Header). z.kind == 3) k.first.header ∙ (let e : ((header_of (seen ++ b ∷ [])).kind == 3) ≡ false = grind (arith, nat_tests) in e)

is-self : (n : ℕ) → (n == n) ≡ true
is-self n = grind (arith, nat_tests)

pub ping-arrives : (x y : Role) (no_memory : Bool) (b : ℕ) (seen rest : List ℕ) (w : World) (m : Machine) (h : AgreesAs x y w m) → TakingHead x y no_memory b seen rest w m h → (header_of (seen ++ b ∷ [])).kind ≡ 2 → has_syn (header_of (seen ++ b ∷ [])) ≡ true →
    Delivered x y (byte_comes no_memory b w.a) rest w m (starves no_memory b w.a w.a.incoming)
ping-arrives x y no_memory b seen rest w m h k kind syn =
    let hd = header_of (seen ++ b ∷ []) in
    let n = hd.length in
    let high : nat_lt hd.kind 2 ≡ false = grind (arith, nat_tests) in
    let two : (hd.kind == 2) ≡ true = grind (arith, nat_tests) in
    let f = session-frame x y no_memory b seen rest w m h k high in
    let answers : List Response = w.a.answers ++ Pong n ∷ [] in
    let s : Session = record w.a { incoming = Head [] } in
    let t : Session = record w.a { answers = answers; incoming = Head [] } in
    let head : head_comes no_memory hd s ≡ t = rw (k.good, two, syn) refl in
    let is : byte_comes no_memory b w.a ≡ t = k.is ∙ head in
    let frame = k.first.frame in
    let frames = k.first.frames in
    let says = says-ping x y no_memory b seen rest w m h k true kind syn in
    let it : asks n frame ≡ true = rw (says.two, says.syn, says.number) (is-self n) in
    let p = k.first.pings in
    let means : nat_lt 0 (count_in (asks n) frames + 1) ≡ true → (look n m.you.pings ≡ Some Asked) × (has_asked n w.b.pings.pending ≡ false) = rw (count-first (asks n) frame frames it) at (p.means n) in
    let asked = (means (some-more (count_in (asks n) frames))).0 in
    let away = away-rest (sending w.b m.you) frame frames (not-three x y no_memory b seen rest w m h k kind) k.first.away in
    let no_reply : (i : ℕ) → replies i frame ≡ false = λ i. rw (says.two, says.syn) refl in
    let pongs = pongs-rest (sending w.b m.you) (hearing w.a m.me) frame frames no_reply k.first.pongs in
    delivered-is x y (byte_comes no_memory b w.a) t rest w m _ 0 is f.starves_none
    (session-arrives x y w m h rest w.a.pings w.a.away answers m.me.pings (there_now n m.you.pings) m.you.away (PingThere n) refl (λ i. rejected-same n i w.a.answers) (once-same n w.a.answers h.a.records.once)
    h.a.pings (there-pings w.b.pings m.you.next_ping n m.you.pings asked h.b.pings) h.b.away (subst IsWithin is k.taking.within) (subst IsReaped is k.taking.reaped) k.taking.not_stopped
    (λ bytes parts z. there-text (sending w.a m.me) (hearing w.b m.you) n bytes parts asked z)
    (session-text x y no_memory b seen rest w m h k f m.you.away m.me.pings (there_now n m.you.pings) (record { once = away.once; means = away.means; said = away.said })
    (asked-done (sending w.b m.you) n frame frames it says.number asked p) (record { once = pongs.once; means = pongs.means; there = pongs.there }))
    ((k.taking.hears_it, asked), (0, refl, (refl, refl))))
  where
    there-text : (s : Sender) (r : Receiver) (n : ℕ) (bytes : List ℕ) (parts : List (ℕ × Part)) → look n r.places ≡ Some Asked → Text s r bytes parts → Text (record s { answers = s.answers ++ Pong n ∷ [] }) (record r { places = there_now n r.places }) bytes parts
    there-text s r n bytes parts asked z =
        same-text s (record s { answers = s.answers ++ Pong n ∷ [] }) r (record r { places = there_now n r.places }) bytes parts z refl refl refl (record { once = z.away.once; means = z.away.means; said = z.away.said })
        (record { once = z.pings.once; means = z.pings.means; asked = z.pings.asked }) (pongs-due s r n z.frames asked z.pongs)

-- ---- an answer to a ping arrives

-- it is back
abbrev back_now : ℕ → List (ℕ × PingPlace) → List (ℕ × PingPlace)
back_now n places = change n (λ _. Back) places

back-pings : (p : Pings) (next n : ℕ) (places : List (ℕ × PingPlace)) → look n places ≡ Some There → SamePings p next places → SamePings (receive_answer n p) next (back_now n places)
back-pings p next n places l h = record {
  next = h.next;
  numbers = same-numbers n (λ _. Back) places ∙ (h.numbers ∙ sym (same-staged n p.pending));
  back = λ i. elim (same_or_not i n) [
    | inl q ↦ rw q (ap found_back (look-change n (λ _. Back) places There l) ∙ (ap is_some (sym l) ∙ (placed-pending n places p.pending h.numbers ∙ sym (back-staged n p.pending))))
    | inr d ↦ ap found_back (look-change_other i n (λ _. Back) places d) ∙ (h.back i ∙ sym (back-staged_other n i p.pending d))
  ];
  fits = λ i t. h.fits i (sym (pending-staged BackStage n i p.pending) ∙ t);
}

-- the answer is under way no longer
reply-done : (s : Sender) (r : Receiver) (n : ℕ) (f : List ℕ) (fs : List (List ℕ)) → replies n f ≡ true → (header_of f).length ≡ n → look n r.places ≡ Some There → PongsUnderWay s r (f ∷ fs) → PongsUnderWay s (record r { places = back_now n r.places }) fs
reply-done s r n f fs e len l h =
    let k = count-first (replies n) f fs e in
    let once : pongs n s.answers + (count_in (replies n) fs + 1) ≤ 1 = rw k at (h.once n) in
    let none : pongs_of n s fs ≡ 0 = omega (arith, once) in
    record {
      once = λ i. (let a = count-less (replies i) f fs in let c = h.once i in omega (arith, a, c));
      means = λ i t. elim (same_or_not i n) [
        | inl q ↦ absurd (no-count (pongs_of n s fs) none (subst (λ z. nat_lt 0 (pongs_of z s fs) ≡ true) q t))
        | inr d ↦ (let m = rw (count-skip (replies i) f fs (other-replies f n i len d)) at (h.means i) in look-change_other i n (λ _. Back) r.places d ∙ m t)
      ];
      there = λ i t. elim (same_or_not i n) [
        | inl q ↦ rw (q, look-change n (λ _. Back) r.places There l, none) refl
        | inr d ↦ ap is_there_at (look-change_other i n (λ _. Back) r.places d) ∙ (let m = rw (count-skip (replies i) f fs (other-replies f n i len d)) at (h.there i) in m t)
      ];
    }

or-none : (a b : Bool) → (a || b) ≡ false → b ≡ false
or-none true b e = cc
or-none false b e = e

-- the pings of the side that asked
back-asked : (s : Sender) (n : ℕ) (fs : List (List ℕ)) → look n s.places ≡ Some There → PingsUnderWay s fs → PingsUnderWay (record s { pings = receive_answer n s.pings; places = back_now n s.places }) fs
back-asked s n fs l h = record {
  once = h.once;
  means = λ i t. elim (same_or_not i n) [
    | inl q ↦ absurd (let z = (h.means n (subst (λ j. nat_lt 0 (count_in (asks j) fs) ≡ true) q t)).0 in let no : Some There ≡ Some Asked = sym l ∙ z in absurd cc)
    | inr d ↦ (let z = h.means i t in (look-change_other i n (λ _. Back) s.places d ∙ z.0, asked-staged_other n i s.pings.pending d ∙ z.1))
  ];
  asked = λ i r. elim (same_or_not i n) [
    | inl q ↦ (let z = h.asked n r in let none : nat_lt 0 (count_in (asks n) fs) ≡ false = or-none (has_asked n s.pings.pending) _ (sym z ∙ ap is_asked_at l) in
        rw (q, look-change n (λ _. Back) s.places There l, asked-staged n s.pings.pending, none) refl)
    | inr d ↦ ap is_asked_at (look-change_other i n (λ _. Back) s.places d) ∙ (h.asked i r ∙ ap (λ z. z || nat_lt 0 (count_in (asks i) fs)) (sym (asked-staged_other n i s.pings.pending d)))
  ];
}

pub reply-arrives : (x y : Role) (no_memory : Bool) (b : ℕ) (seen rest : List ℕ) (w : World) (m : Machine) (h : AgreesAs x y w m) → TakingHead x y no_memory b seen rest w m h → (header_of (seen ++ b ∷ [])).kind ≡ 2 → has_syn (header_of (seen ++ b ∷ [])) ≡ false →
    Delivered x y (byte_comes no_memory b w.a) rest w m (starves no_memory b w.a w.a.incoming)
reply-arrives x y no_memory b seen rest w m h k kind syn =
    let hd = header_of (seen ++ b ∷ []) in
    let n = hd.length in
    let high : nat_lt hd.kind 2 ≡ false = grind (arith, nat_tests) in
    let two : (hd.kind == 2) ≡ true = grind (arith, nat_tests) in
    let f = session-frame x y no_memory b seen rest w m h k high in
    let s : Session = record w.a { incoming = Head [] } in
    let t : Session = record w.a { pings = receive_answer n w.a.pings; incoming = Head [] } in
    let head : head_comes no_memory hd s ≡ t = rw (k.good, two, syn) refl in
    let is : byte_comes no_memory b w.a ≡ t = k.is ∙ head in
    let frame = k.first.frame in
    let frames = k.first.frames in
    let says = says-ping x y no_memory b seen rest w m h k false kind syn in
    let it : replies n frame ≡ true = rw (says.two, says.syn, says.number) (is-self n) in
    let p = k.first.pongs in
    let means : nat_lt 0 (pongs n w.b.answers + (count_in (replies n) frames + 1)) ≡ true → look n m.me.pings ≡ Some There = rw (count-first (replies n) frame frames it) at (p.means n) in
    let there = means (grind (arith, nat_tests)) in
    let away = away-rest (sending w.b m.you) frame frames (not-three x y no_memory b seen rest w m h k kind) k.first.away in
    let no_ask : (i : ℕ) → asks i frame ≡ false = λ i. rw (says.two, says.syn) refl in
    let pings = pings-rest (sending w.b m.you) frame frames no_ask k.first.pings in
    let done = reply-done (sending w.b m.you) (hearing w.a m.me) n frame frames it says.number there p in
    delivered-is x y (byte_comes no_memory b w.a) t rest w m _ 0 is f.starves_none
    (session-arrives x y w m h rest (receive_answer n w.a.pings) w.a.away w.a.answers (back_now n m.me.pings) m.you.pings m.you.away (PingBack n) refl (λ i. refl) h.a.records.once
    (back-pings w.a.pings m.me.next_ping n m.me.pings there h.a.pings) h.b.pings h.b.away (subst IsWithin is k.taking.within) (subst IsReaped is k.taking.reaped) k.taking.not_stopped
    (λ bytes parts z. back-text (sending w.a m.me) (hearing w.b m.you) n bytes parts there z)
    (session-text x y no_memory b seen rest w m h k f m.you.away (back_now n m.me.pings) m.you.pings (record { once = away.once; means = away.means; said = away.said })
    (record { once = pings.once; means = pings.means; asked = pings.asked }) (record { once = done.once; means = done.means; there = done.there }))
    ((k.taking.hears_it, there), (0, refl, (refl, refl))))
  where
    back-text : (s : Sender) (r : Receiver) (n : ℕ) (bytes : List ℕ) (parts : List (ℕ × Part)) → look n s.places ≡ Some There → Text s r bytes parts → Text (record s { pings = receive_answer n s.pings; places = back_now n s.places }) r bytes parts
    back-text s r n bytes parts there z =
        same-text s (record s { pings = receive_answer n s.pings; places = back_now n s.places }) r r bytes parts z refl refl refl (record { once = z.away.once; means = z.away.means; said = z.away.said })
        (back-asked s n z.frames there z.pings) (record { once = z.pongs.once; means = z.pongs.means; there = z.pongs.there })
