-- Where there is a place for each stream, and no other cause to refuse one, a side refuses none.
use Rattle.std.proofs.Common.{◌≡◌, ◌⊎◌, inl, inr, ℕ, ◌+◌, ◌<◌, ◌≤◌, List, [], ◌∷◌, ◌++◌, length, take, min, map, Bool, true, false, not, ◌&&◌, ◌||◌, ◌==◌, nat_le, nat_lt, if◌then◌else◌, Option, None, Some, refl, sym, ◌∙◌, ap, subst, length-append, arith}
use Rattle.std.proofs.lemmas.List.{length-map}
use Rattle.std.proofs.lemmas.Bool.Decides.{nat_tests}
use Rattle.std.proofs.lemmas.List.Sums.{count_by-le-length}
use Rattle.ymx_machine.specs.declared.types.Side.{Side}
use Rattle.ymx_machine.specs.declared.types.Side.TheVariants.{A, B}
use Rattle.ymx_machine.specs.declared.types.Direction.TheVariants.{AB}
use Rattle.ymx_machine.specs.declared.types.Fed.{Fed}
use Rattle.ymx_machine.specs.shared.Events.{Call, Reply}
use Rattle.ymx_machine.specs.declared.types.Reply.TheVariants as reply
use Rattle.ymx_machine.specs.declared.types.Call.TheVariants as call
use Rattle.ymx_machine.specs.declared.types.CallFault.{CallFault}
use Rattle.ymx_machine.specs.declared.types.Step.{Step}
use Rattle.ymx_machine.specs.declared.types.Step.TheVariants as step
use Rattle.ymx_machine.specs.declared.types.Answer.{Answer}
use Rattle.ymx_machine.specs.shared.Limits.{first_credit, greatest_number}
use Rattle.ymx_machine.specs.shared.Phases.{Phase, struck, is_unborn, is_refused, is_recorded}
use Rattle.ymx_machine.specs.shared.Phases.Phase.{Unborn, WasReset, Lingering}
use Rattle.ymx_machine.specs.shared.Lists.{look, change, drop_id}
use Rattle.ymx_machine.specs.shared.Steps.{answer_of, is_of_a}
use Rattle.ymx_machine.specs.shared.Replies.{is_done, forget_reply}
use Rattle.ymx_machine.specs.stream.Lanes.{Mark, is_unsaid}
use Rattle.ymx_machine.specs.stream.Streams.{Stream, flip, opened_stream, stream_write, stream_accept, Move, Allowed, after_move}
use Rattle.ymx_machine.specs.stream.Streams.Move.{Arrive, EndArrives, Return, SynOffered, SynRefused, AckArrives, ResetArrives, Released}
use Rattle.ymx_machine.specs.stream.StreamRules.{StreamCall, StreamRule, forgets_quietly}
use Rattle.ymx_machine.specs.stream.StreamRules.StreamCall.{Writes, Reads, Finishes, Resets, Forgets}
use Rattle.ymx_machine.specs.machine.Machines.{Machine, SideState, mirror_machine, flip_entry, recorded}
use Rattle.ymx_machine.specs.machine.CallRules.{Rule, OpenRule, AcceptRule, OnStream, PingRule, PongedRule, OpenSideRule, open_refusal, found_back, is_close, said_once}
use Rattle.ymx_machine.specs.machine.FreeMoves.{FreeMove, FreeMoves, MayMove, Releases, moved_by, machine_refuses, counted_by, move_is_syn, is_reset_arriving}
use Rattle.ymx_machine.specs.machine.FreeMoves.FreeMove.{OfStream, SynArrives, AwayArrives, PingThere, PingBack}
use Rattle.ymx_machine.specs.machine.Runs.{MachineStep, MachineStepOfA, side_input_ends}
use Rattle.ymx_machine.proofs.Tests.{when, same_or_not}
use Rattle.ymx_machine.proofs.Lists.{length-change}
use Rattle.ymx_headline.proofs.machine.lanes.StreamFacts.{if-so_true, if-so_false, reset-live}
use Rattle.ymx_headline.proofs.machine.order.Maps.{look-change, look-change_other, look-add, look-add_other, look-add_there, flipped, look-mirror}
use Rattle.ymx_headline.proofs.machine.order.Cores.{core, Sound, offered-front, offered-stream, sound-mirror, rule-you, move-you, finish-me, kept-moves, kept-releases}
use Rattle.ymx_machine.specs.Promise.{is_same_side}
use Rattle.ymx_headline.specs.machine.Arrivals.{away_by, lacked_by, opened}
use Rattle.ymx_headline.proofs.machine.faces.RunFaces.{same-side, Speaks, speaks-a, speaks-b}

-- ---- how many streams pass a test

abbrev bit : Bool → ℕ
bit b = if b then 1 else 0

abbrev pub many : (Stream → Bool) → List (ℕ × Stream) → ℕ
many test [] = 0
many test (p ∷ ps) = bit (test p.1) + many test ps

many-change : (test : Stream → Bool) (id : ℕ) (f : Stream → Stream) (s : Stream) (xs : List (ℕ × Stream)) → look id xs ≡ Some s →
    many test (change id f xs) + bit (test s) ≡ many test xs + bit (test (f s))
many-change test id f s [] e = absurd cc
many-change test id f s (p ∷ ps) e = elim (when (p.0 == id)) [
  | inl h ↦ (let k : Some p.1 ≡ Some s = rw h at e in let is : p.1 ≡ s = cc in rw h (rw is (swap (bit (test (f s))) (bit (test s)) (many test ps))))
  | inr h ↦ (let k = many-change test id f s ps (rw h at e) in rw h (shift (bit (test p.1)) (many test (change id f ps)) (bit (test s)) (many test ps) (bit (test (f s))) k))
]
  where
    swap : (a b c : ℕ) → (a + c) + b ≡ (b + c) + a
    swap a b c = omega arith

    shift : (a b c d e : ℕ) → b + c ≡ d + e → (a + b) + c ≡ (a + d) + e
    shift a b c d e h = omega arith

many-add : (test : Stream → Bool) (j : ℕ) (s : Stream) (xs : List (ℕ × Stream)) → many test (xs ++ (j, s) ∷ []) ≡ many test xs + bit (test s)
many-add test j s [] = omega arith
many-add test j s (p ∷ ps) = let k = many-add test j s ps in omega (arith, k)

many-flip : (test : Stream → Bool) (xs : List (ℕ × Stream)) → many test (map flip_entry xs) ≡ many (λ s. test (flip s)) xs
many-flip test [] = refl
many-flip test (p ∷ ps) = ap (λ (n : ℕ). bit (test (flip p.1)) + n) (many-flip test ps)

-- ---- a side with a place for each stream

abbrev pub passes : (Stream → Bool) → Option Stream → Bool
passes test None = false
passes test (Some s) = test s

-- Of a side: the streams that have not come to it and those that it refused, by tests. `op`: so many were opened.
pub record HasPlaces (op : ℕ) (unborn refused : Stream → Bool) (streams : List (ℕ × Stream)) (offered : List ℕ) (away : Mark) : Type 0 where
  pub room : length offered + many unborn streams ≤ length streams
  pub few : length streams ≤ op
  pub stays : is_unsaid away ≡ true
  pub none : (i : ℕ) → passes refused (look i streams) ≡ false

abbrev pub unborn_me : Stream → Bool
unborn_me s = is_unborn s.me

abbrev pub unborn_you : Stream → Bool
unborn_you s = is_unborn s.you

abbrev pub refused_me : Stream → Bool
refused_me s = is_refused s.me

abbrev pub refused_you : Stream → Bool
refused_you s = is_refused s.you

-- this side, and the other
abbrev pub PlacesOfMe : ℕ → Machine → Type 0
PlacesOfMe op m = HasPlaces op unborn_me refused_me m.streams m.me.offered m.me.away

abbrev pub PlacesOfYou : ℕ → Machine → Type 0
PlacesOfYou op m = HasPlaces op unborn_you refused_you m.streams m.you.offered m.you.away

passes-is : (test : Stream → Bool) (o q : Option Stream) → q ≡ o → passes test o ≡ false → passes test q ≡ false
passes-is test o q e h = ap (passes test) e ∙ h

passes-change : (test : Stream → Bool) (i j : ℕ) (f : Stream → Stream) (s : Stream) (xs : List (ℕ × Stream)) → look j xs ≡ Some s → test (f s) ≡ false →
    ((k : ℕ) → passes test (look k xs) ≡ false) → passes test (look i (change j f xs)) ≡ false
passes-change test i j f s xs e n h = elim (same_or_not i j) [
  | inl d ↦ passes-is test (Some (f s)) _ (ap (λ (k : ℕ). look k (change j f xs)) d ∙ look-change j f xs s e) n
  | inr d ↦ passes-is test _ _ (look-change_other i j f xs d) (h i)
]

-- one changes that had come or not, as before
places-change : (op id : ℕ) (unborn refused : Stream → Bool) (f : Stream → Stream) (s : Stream) (xs : List (ℕ × Stream)) (ids more : List ℕ) (away : Mark) → look id xs ≡ Some s →
    unborn (f s) ≡ unborn s → refused (f s) ≡ false → length more ≤ length ids → HasPlaces op unborn refused xs ids away → HasPlaces op unborn refused (change id f xs) more away
places-change op id unborn refused f s xs ids more away e u r l h =
    let k = many-change unborn id f s xs e in
    let same : bit (unborn (f s)) ≡ bit (unborn s) = ap bit u in
    let long = length-change id f xs in
    let room = h.room in
    let few = h.few in record {
      room = omega (arith, k, same, long, room, l);
      few = omega (arith, long, few);
      stays = h.stays;
      none = λ i. passes-change refused i id f s xs e r h.none;
    }

-- one comes, and is offered
places-syn : (op id : ℕ) (unborn refused : Stream → Bool) (f : Stream → Stream) (s : Stream) (xs : List (ℕ × Stream)) (ids : List ℕ) (away : Mark) → look id xs ≡ Some s →
    unborn s ≡ true → unborn (f s) ≡ false → refused (f s) ≡ false → HasPlaces op unborn refused xs ids away → HasPlaces op unborn refused (change id f xs) (ids ++ id ∷ []) away
places-syn op id unborn refused f s xs ids away e u v r h =
    let k = many-change unborn id f s xs e in
    let was : bit (unborn s) ≡ 1 = ap bit u in
    let now : bit (unborn (f s)) ≡ 0 = ap bit v in
    let long = length-change id f xs in
    let more = length-append ids (id ∷ []) in
    let room = h.room in
    let few = h.few in record {
      room = omega (arith, k, was, now, long, more, room);
      few = omega (arith, long, few);
      stays = h.stays;
      none = λ i. passes-change refused i id f s xs e r h.none;
    }

passes-add : (test : Stream → Bool) (i j : ℕ) (s : Stream) (xs : List (ℕ × Stream)) (o : Option Stream) → look i xs ≡ o → test s ≡ false → passes test o ≡ false → passes test (look i (xs ++ (j, s) ∷ [])) ≡ false
passes-add test i j s xs (Some t) e n h = passes-is test (Some t) _ (look-add_there i j s t xs e) h
passes-add test i j s xs None e n h = elim (same_or_not i j) [
  | inl d ↦ passes-is test (Some s) _ (ap (λ (k : ℕ). look i (xs ++ (k, s) ∷ [])) (sym d) ∙ look-add i s xs e) n
  | inr d ↦ passes-is test None _ (look-add_other i j s xs d ∙ e) h
]

-- one is opened
places-add : (op j : ℕ) (unborn refused : Stream → Bool) (s : Stream) (xs : List (ℕ × Stream)) (ids : List ℕ) (away : Mark) → refused s ≡ false →
    HasPlaces op unborn refused xs ids away → HasPlaces (op + 1) unborn refused (xs ++ (j, s) ∷ []) ids away
places-add op j unborn refused s xs ids away r h =
    let k = many-add unborn j s xs in
    let one : bit (unborn s) ≤ 1 = small (unborn s) in
    let long = length-append xs ((j, s) ∷ []) in
    let room = h.room in
    let few = h.few in record {
      room = omega (arith, k, one, long, room);
      few = omega (arith, long, few);
      stays = h.stays;
      none = λ i. passes-add refused i j s xs (look i xs) refl r (h.none i);
    }
  where
    small : (b : Bool) → bit b ≤ 1
    small true = omega arith
    small false = omega arith

-- more were opened
places-more : (op more : ℕ) (unborn refused : Stream → Bool) (xs : List (ℕ × Stream)) (ids : List ℕ) (away : Mark) → op ≤ more → HasPlaces op unborn refused xs ids away → HasPlaces more unborn refused xs ids away
places-more op more unborn refused xs ids away l h = let few = h.few in record { room = h.room; few = omega (arith, l, few); stays = h.stays; none = h.none }

-- ---- a call

-- how many streams an answer opens
abbrev pub one : Answer → ℕ
one given = opened (given ∷ [])

no-less : (op n : ℕ) → op ≤ op + n
no-less op n = omega arith

pub me-same : (op n : ℕ) (m k : Machine) → k ≡ m → PlacesOfMe op m → PlacesOfMe (op + n) k
me-same op n m k e h = subst (PlacesOfMe (op + n)) (sym e) (places-more op (op + n) unborn_me refused_me m.streams m.me.offered m.me.away (no-less op n) h)

pub you-same : (op n : ℕ) (m k : Machine) → k ≡ m → PlacesOfYou op m → PlacesOfYou (op + n) k
you-same op n m k e h = subst (PlacesOfYou (op + n)) (sym e) (places-more op (op + n) unborn_you refused_you m.streams m.you.offered m.you.away (no-less op n) h)

opens-me : (op : ℕ) (o : Option CallFault) (given : Reply) (bytes : List ℕ) (m : Machine) (r : Reply) (n : Machine) → one (answer_of given) ≡ 1 → OpenRule o given bytes m r n → PlacesOfMe op m → PlacesOfMe (op + one (answer_of r)) n
opens-me op (Some fault) given bytes m r n e h k = me-same op _ m n h.1 k
opens-me op None given bytes m r n e (inr h) k = me-same op _ m n h.1 k
opens-me op None given bytes m r n e (inl h) k =
    subst (λ (v : ℕ). PlacesOfMe (op + v) n) (sym (ap (λ (v : Reply). one (answer_of v)) h.0 ∙ e)) (subst (PlacesOfMe (op + 1)) (sym h.1)
    (places-add op m.me.next unborn_me refused_me (stream_write bytes (opened_stream m.me.window m.you.window)) m.streams m.me.offered m.me.away refl k))

opens-you : (op : ℕ) (o : Option CallFault) (given : Reply) (bytes : List ℕ) (m : Machine) (r : Reply) (n : Machine) → one (answer_of given) ≡ 1 → OpenRule o given bytes m r n → PlacesOfYou op m → PlacesOfYou (op + one (answer_of r)) n
opens-you op (Some fault) given bytes m r n e h k = you-same op _ m n h.1 k
opens-you op None given bytes m r n e (inr h) k = you-same op _ m n h.1 k
opens-you op None given bytes m r n e (inl h) k =
    subst (λ (v : ℕ). PlacesOfYou (op + v) n) (sym (ap (λ (v : Reply). one (answer_of v)) h.0 ∙ e)) (subst (PlacesOfYou (op + 1)) (sym h.1)
    (places-add op m.me.next unborn_you refused_you (stream_write bytes (opened_stream m.me.window m.you.window)) m.streams m.you.offered m.you.away refl k))

-- a stream that is there was not refused
not-refused : (refused : Stream → Bool) (id : ℕ) (s : Stream) (xs : List (ℕ × Stream)) → look id xs ≡ Some s → ((i : ℕ) → passes refused (look i xs) ≡ false) → refused s ≡ false
not-refused refused id s xs e h = sym (ap (passes refused) e) ∙ h id

accepts-me : (mine yours op n : ℕ) (ids : List ℕ) (m : Machine) (r : Reply) (k : Machine) → m.me.offered ≡ ids → Sound mine yours (core m) → AcceptRule ids m r k → PlacesOfMe op m → PlacesOfMe (op + n) k
accepts-me mine yours op n [] m r k o so e h = elim (when m.me.lost) [
  | inl l ↦ me-same op n m k (if-so_true _ _ _ l e).1 h
  | inr l ↦ me-same op n m k (if-so_false _ _ _ l e).1 h
]
accepts-me mine yours op n (id ∷ ids) m r k o so e h =
    let s = offered-stream (look id m.streams) (offered-front mine yours (core m) id ids o so) in
    let w : HasPlaces op unborn_me refused_me m.streams (id ∷ ids) m.me.away = subst (λ (v : List ℕ). HasPlaces op unborn_me refused_me m.streams v m.me.away) o h in
    me-same op n (record m { streams = change id (stream_accept m.me.lost) m.streams; me = record m.me { offered = ids } }) k e.1
    (places-change op id unborn_me refused_me (stream_accept m.me.lost) s.0 m.streams (id ∷ ids) ids m.me.away s.1 (sym (ap is_unborn s.2)) refl (omega arith) w)

accepts-you : (mine yours op n : ℕ) (ids : List ℕ) (m : Machine) (r : Reply) (k : Machine) → m.me.offered ≡ ids → Sound mine yours (core m) → AcceptRule ids m r k → PlacesOfYou op m → PlacesOfYou (op + n) k
accepts-you mine yours op n [] m r k o so e h = elim (when m.me.lost) [
  | inl l ↦ you-same op n m k (if-so_true _ _ _ l e).1 h
  | inr l ↦ you-same op n m k (if-so_false _ _ _ l e).1 h
]
accepts-you mine yours op n (id ∷ ids) m r k o so e h =
    let s = offered-stream (look id m.streams) (offered-front mine yours (core m) id ids o so) in
    you-same op n (record m { streams = change id (stream_accept m.me.lost) m.streams; me = record m.me { offered = ids } }) k e.1
    (places-change op id unborn_you refused_you (stream_accept m.me.lost) s.0 m.streams m.you.offered m.you.offered m.you.away s.1 refl (not-refused refused_you id s.0 m.streams s.1 h.none) (omega arith) h)

-- a call on a stream leaves it unborn or born, and refuses none
record LeavesPhase (s t : Stream) : Type 0 where
  unborn : is_unborn t.me ≡ is_unborn s.me
  refused : is_refused s.me ≡ false → is_refused t.me ≡ false

same-phase : (s t : Stream) → t.me ≡ s.me → LeavesPhase s t
same-phase s t e = record { unborn = ap is_unborn e; refused = λ h. ap is_refused e ∙ h }

down-phase : (p : Phase) (s t : Stream) → t.me ≡ p → is_unborn p ≡ false → is_refused p ≡ false → is_unborn s.me ≡ false → LeavesPhase s t
down-phase p s t e u r l = record { unborn = ap is_unborn e ∙ (u ∙ sym l); refused = λ h. ap is_refused e ∙ r }

done-born : (p : Phase) → is_done (forget_reply p) ≡ true → is_unborn p ≡ false
done-born p e = grind arith

rule-phase : (lost : Bool) (c : StreamCall) (s t : Stream) (r : Reply) → StreamRule lost c s r t → LeavesPhase s t
rule-phase lost (Writes bytes) s t r (inl h) = same-phase s t (ap (λ (x : Stream). x.me) h.1)
rule-phase lost (Writes bytes) s t r (inr h) = same-phase s t (ap (λ (x : Stream). x.me) h.2)
rule-phase lost (Reads max) s t r h = same-phase s t (ap (λ (x : Stream). x.me) h.1)
rule-phase lost Finishes s t r h = same-phase s t (ap (λ (x : Stream). x.me) h.1 ∙ finish-me (is_done r) s)
rule-phase lost Resets s t r h = elim (when (is_done r)) [
  | inl d ↦ down-phase WasReset s t (ap (λ (x : Stream). x.me) (if-so_true _ _ _ d h.1).4) refl refl (ap is_unborn (reset-live lost s.me (subst (λ (w : Reply). is_done w ≡ true) h.0 d)))
  | inr d ↦ same-phase s t (ap (λ (x : Stream). x.me) (if-so_false _ _ _ d h.1))
]
rule-phase lost Forgets s t r h = elim (when (is_done r)) [
  | inl d ↦ (let k = if-so_true _ _ _ d h.1 in let b = done-born s.me (subst (λ (w : Reply). is_done w ≡ true) h.0 d) in elim (when (forgets_quietly lost s)) [
    | inl q ↦ down-phase Lingering s t (ap (λ (x : Stream). x.me) (if-so_true _ _ _ q k)) refl refl b
    | inr q ↦ down-phase Lingering s t (ap (λ (x : Stream). x.me) (if-so_false _ _ _ q k).4) refl refl b
  ])
  | inr d ↦ same-phase s t (ap (λ (x : Stream). x.me) (if-so_false _ _ _ d h.1))
]

touches-me : (op n id : ℕ) (c : StreamCall) (o : Option Stream) (m : Machine) (r : Reply) (k : Machine) → look id m.streams ≡ o → OnStream id c o m r k → PlacesOfMe op m → PlacesOfMe (op + n) k
touches-me op n id c None m r k e h p = me-same op n m k h.1 p
touches-me op n id c (Some s) m r k e h p = let l = rule-phase m.me.lost c s h.0 r h.1 in
    me-same op n (record m { streams = change id (λ _. h.0) m.streams }) k h.2
    (places-change op id unborn_me refused_me (λ _. h.0) s m.streams m.me.offered m.me.offered m.me.away e l.unborn (l.refused (not-refused refused_me id s m.streams e p.none)) (omega arith) p)

touches-you : (op n id : ℕ) (c : StreamCall) (o : Option Stream) (m : Machine) (r : Reply) (k : Machine) → look id m.streams ≡ o → OnStream id c o m r k → PlacesOfYou op m → PlacesOfYou (op + n) k
touches-you op n id c None m r k e h p = you-same op n m k h.1 p
touches-you op n id c (Some s) m r k e h p = let y = rule-you m.me.lost c s h.0 r h.1 in
    you-same op n (record m { streams = change id (λ _. h.0) m.streams }) k h.2
    (places-change op id unborn_you refused_you (λ _. h.0) s m.streams m.you.offered m.you.offered m.you.away e (ap is_unborn y) (ap is_refused y ∙ not-refused refused_you id s m.streams e p.none) (omega arith) p)

-- a step that leaves the streams, and the list and the go away of both sides
record LeavesPlaces (m n : Machine) : Type 0 where
  streams : n.streams ≡ m.streams
  mine : n.me.offered ≡ m.me.offered
  mine_away : n.me.away ≡ m.me.away
  yours : n.you.offered ≡ m.you.offered
  yours_away : n.you.away ≡ m.you.away

leaves-all : (m n : Machine) → n ≡ m → LeavesPlaces m n
leaves-all m n e = subst (LeavesPlaces m) (sym e) (record { streams = refl; mine = refl; mine_away = refl; yours = refl; yours_away = refl })

leaves-is : (m n k : Machine) → n ≡ k → LeavesPlaces m k → LeavesPlaces m n
leaves-is m n k e h = subst (LeavesPlaces m) (sym e) h

me-leaves : (op n : ℕ) (m k : Machine) → LeavesPlaces m k → PlacesOfMe op m → PlacesOfMe (op + n) k
me-leaves op n m k l h = rw (l.streams, l.mine, l.mine_away) (places-more op (op + n) unborn_me refused_me m.streams m.me.offered m.me.away (no-less op n) h)

you-leaves : (op n : ℕ) (m k : Machine) → LeavesPlaces m k → PlacesOfYou op m → PlacesOfYou (op + n) k
you-leaves op n m k l h = rw (l.streams, l.yours, l.yours_away) (places-more op (op + n) unborn_you refused_you m.streams m.you.offered m.you.away (no-less op n) h)

pings-leave : (m : Machine) (r : Reply) (n : Machine) → PingRule m r n → LeavesPlaces m n
pings-leave m r n h = elim (when m.me.lost) [
  | inl l ↦ leaves-all m n (if-so_true _ _ _ l h).1
  | inr l ↦ (let k = if-so_false _ _ _ l h in elim (when (nat_le 16 (length m.me.pings))) [
    | inl p ↦ leaves-all m n (if-so_true _ _ _ p k).1
    | inr p ↦ leaves-is m n _ (if-so_false _ _ _ p k).1 (record { streams = refl; mine = refl; mine_away = refl; yours = refl; yours_away = refl })
  ])
]

pongs-leave : (k : ℕ) (m : Machine) (r : Reply) (n : Machine) → PongedRule k m r n → LeavesPlaces m n
pongs-leave k m r n h = elim (when (found_back (look k m.me.pings))) [
  | inl b ↦ leaves-is m n _ (if-so_true _ _ _ b h).1 (record { streams = refl; mine = refl; mine_away = refl; yours = refl; yours_away = refl })
  | inr b ↦ (let q = if-so_false _ _ _ b h in elim (when m.me.lost) [
    | inl l ↦ leaves-all m n (if-so_true _ _ _ l q).1
    | inr l ↦ leaves-all m n (if-so_false _ _ _ l q).1
  ])
]

-- this side says no go away in the call
call-me_open : (mine yours op : ℕ) (a : Side) (c : Call) (m : Machine) (r : Reply) (n : Machine) → Sound mine yours (core m) → away_by a (step.At a c) (answer_of r) ≡ false → OpenSideRule c m r n →
    PlacesOfMe op m → PlacesOfMe (op + one (answer_of r)) n
call-me_open mine yours op a call.Open m r n so w h k = opens-me op (open_refusal m) (reply.Opened m.me.next) [] m r n refl h k
call-me_open mine yours op a (call.OpenWith bytes) m r n so w h k = opens-me op (open_refusal m) (reply.OpenedWith m.me.next (min (length bytes) first_credit)) (take first_credit bytes) m r n refl h k
call-me_open mine yours op a call.Accept m r n so w h k = accepts-me mine yours op _ m.me.offered m r n refl so h k
call-me_open mine yours op a (call.Write id bytes) m r n so w h k = touches-me op _ id (Writes bytes) (look id m.streams) m r n refl h k
call-me_open mine yours op a (call.Read id max) m r n so w h k = touches-me op _ id (Reads max) (look id m.streams) m r n refl h k
call-me_open mine yours op a (call.Finish id) m r n so w h k = touches-me op _ id Finishes (look id m.streams) m r n refl h k
call-me_open mine yours op a (call.Reset id) m r n so w h k = touches-me op _ id Resets (look id m.streams) m r n refl h k
call-me_open mine yours op a (call.Forget id) m r n so w h k = touches-me op _ id Forgets (look id m.streams) m r n refl h k
call-me_open mine yours op a call.Ping m r n so w h k = me-leaves op _ m n (pings-leave m r n h) k
call-me_open mine yours op a (call.Ponged number) m r n so w h k = me-leaves op _ m n (pongs-leave number m r n h) k
call-me_open mine yours op a call.GoAway m r n so w h k = elim (when m.me.lost) [
  | inl l ↦ me-same op _ m n (if-so_true _ _ _ l h).1 k
  | inr l ↦ (let q = if-so_false _ _ _ l h in let said : is_same_side a a ≡ false = sym (ap (λ (v : Reply). away_by a (step.At a call.GoAway) (answer_of v)) q.0) ∙ w in
      absurd (let t : true ≡ false = sym (same-side a) ∙ said in cc))
]
call-me_open mine yours op a call.Close m r n so w h k = me-leaves op _ m n (leaves-is m n _ h.1 (record { streams = refl; mine = refl; mine_away = refl; yours = refl; yours_away = refl })) k

call-you_open : (mine yours op : ℕ) (c : Call) (m : Machine) (r : Reply) (n : Machine) → Sound mine yours (core m) → OpenSideRule c m r n → PlacesOfYou op m → PlacesOfYou (op + one (answer_of r)) n
call-you_open mine yours op call.Open m r n so h k = opens-you op (open_refusal m) (reply.Opened m.me.next) [] m r n refl h k
call-you_open mine yours op (call.OpenWith bytes) m r n so h k = opens-you op (open_refusal m) (reply.OpenedWith m.me.next (min (length bytes) first_credit)) (take first_credit bytes) m r n refl h k
call-you_open mine yours op call.Accept m r n so h k = accepts-you mine yours op _ m.me.offered m r n refl so h k
call-you_open mine yours op (call.Write id bytes) m r n so h k = touches-you op _ id (Writes bytes) (look id m.streams) m r n refl h k
call-you_open mine yours op (call.Read id max) m r n so h k = touches-you op _ id (Reads max) (look id m.streams) m r n refl h k
call-you_open mine yours op (call.Finish id) m r n so h k = touches-you op _ id Finishes (look id m.streams) m r n refl h k
call-you_open mine yours op (call.Reset id) m r n so h k = touches-you op _ id Resets (look id m.streams) m r n refl h k
call-you_open mine yours op (call.Forget id) m r n so h k = touches-you op _ id Forgets (look id m.streams) m r n refl h k
call-you_open mine yours op call.Ping m r n so h k = you-leaves op _ m n (pings-leave m r n h) k
call-you_open mine yours op (call.Ponged number) m r n so h k = you-leaves op _ m n (pongs-leave number m r n h) k
call-you_open mine yours op call.GoAway m r n so h k = elim (when m.me.lost) [
  | inl l ↦ you-same op _ m n (if-so_true _ _ _ l h).1 k
  | inr l ↦ you-same op _ (record m { me = record m.me { away = said_once m.me.away } }) n (if-so_false _ _ _ l h).1 k
]
call-you_open mine yours op call.Close m r n so h k = you-leaves op _ m n (leaves-is m n _ h.1 (record { streams = refl; mine = refl; mine_away = refl; yours = refl; yours_away = refl })) k

call-me : (mine yours op : ℕ) (a : Side) (c : Call) (m : Machine) (r : Reply) (n : Machine) → Sound mine yours (core m) → away_by a (step.At a c) (answer_of r) ≡ false → Rule c m r n →
    PlacesOfMe op m → PlacesOfMe (op + one (answer_of r)) n
call-me mine yours op a c m r n so w h k = elim (when (m.me.closed && not (is_close c))) [
  | inl b ↦ me-same op _ m n (if-so_true _ _ _ b h).1 k
  | inr b ↦ call-me_open mine yours op a c m r n so w (if-so_false _ _ _ b h) k
]

call-you : (mine yours op : ℕ) (c : Call) (m : Machine) (r : Reply) (n : Machine) → Sound mine yours (core m) → Rule c m r n → PlacesOfYou op m → PlacesOfYou (op + one (answer_of r)) n
call-you mine yours op c m r n so h k = elim (when (m.me.closed && not (is_close c))) [
  | inl b ↦ you-same op _ m n (if-so_true _ _ _ b h).1 k
  | inr b ↦ call-you_open mine yours op c m r n so (if-so_false _ _ _ b h) k
]

-- ---- what may arrive

struck-unborn : (p : Phase) → is_unborn p ≡ false → is_unborn (struck p) ≡ false
struck-unborn p e = grind arith

struck-refused : (p : Phase) → is_refused p ≡ false → is_refused (struck p) ≡ false
struck-refused p e = grind arith

move-phase : (v : Move) (s : Stream) → move_is_syn v ≡ false → Allowed v s → LeavesPhase s (after_move v s)
move-phase (Arrive n) s y a = record { unborn = refl; refused = λ h. h }
move-phase EndArrives s y a = record { unborn = refl; refused = λ h. h }
move-phase (Return n) s y a = record { unborn = refl; refused = λ h. h }
move-phase SynOffered s y a = absurd cc
move-phase SynRefused s y a = absurd cc
move-phase AckArrives s y a = record { unborn = refl; refused = λ h. h }
move-phase ResetArrives s y a = record { unborn = struck-unborn s.me a.1 ∙ sym a.1; refused = λ h. struck-refused s.me h }
move-phase Released s y a = record { unborn = sym (ap is_unborn a); refused = λ h. refl }

drop-less : (id : ℕ) (ids : List ℕ) → length (drop_id id ids) ≤ length ids
drop-less id [] = omega arith
drop-less id (x ∷ xs) = elim (when (x == id)) [
  | inl h ↦ rw h (omega arith)
  | inr h ↦ rw h (let k = drop-less id xs in omega (arith, k))
]

stream-me : (op id : ℕ) (v : Move) (m : Machine) (s : Stream) → look id m.streams ≡ Some s → move_is_syn v ≡ false → Allowed v s → (is_reset_arriving v ≡ true) ⊎ (is_reset_arriving v ≡ false) →
    PlacesOfMe op m → PlacesOfMe op (moved_by (OfStream id v) m)
stream-me op id v m s e y a (inl b) h =
    let l = move-phase v s y a in
    rw b (places-change op id unborn_me refused_me (after_move v) s m.streams m.me.offered (drop_id id m.me.offered) m.me.away e l.unborn (l.refused (not-refused refused_me id s m.streams e h.none)) (drop-less id m.me.offered) h)
stream-me op id v m s e y a (inr b) h =
    let l = move-phase v s y a in
    rw b (places-change op id unborn_me refused_me (after_move v) s m.streams m.me.offered m.me.offered m.me.away e l.unborn (l.refused (not-refused refused_me id s m.streams e h.none)) (omega arith) h)

-- a stream that hasn't come is one that doesn't wait
some-unborn : (id : ℕ) (s : Stream) (xs : List (ℕ × Stream)) → look id xs ≡ Some s → s.me ≡ Unborn → 1 ≤ many unborn_me xs
some-unborn id s xs e u =
    let k = many-change unborn_me id (after_move SynOffered) s xs e in
    let was : bit (unborn_me s) ≡ 1 = ap (λ (p : Phase). bit (is_unborn p)) u in
    omega (arith, k, was)

no-cause : (op id : ℕ) (m : Machine) (s : Stream) → op ≤ 256 → look id m.streams ≡ Some s → s.me ≡ Unborn → PlacesOfMe op m → machine_refuses m ≡ false
no-cause op id m s few e u h =
    let some = some-unborn id s m.streams e u in
    let room = h.room in
    let all = h.few in
    let stays = h.stays in
    let counted : recorded m ≤ length m.streams = count_by-le-length (λ p. is_recorded p.1.me) m.streams in
    let waiting : nat_le 256 (length m.me.offered) ≡ false = under (length m.me.offered) 256 (omega (arith, some, room, all, few)) in
    let records : nat_le 1024 (recorded m) ≡ false = under (recorded m) 1024 (omega (arith, counted, all, few)) in
    rw (stays, waiting, records) refl
  where
    under : (a b : ℕ) → a < b → nat_le b a ≡ false
    under a b l = grind (arith, nat_tests)

move-me : (op : ℕ) (v : FreeMove) (m : Machine) → op ≤ 256 → counted_by v ≡ 0 → MayMove v m → PlacesOfMe op m → PlacesOfMe op (moved_by v m)
move-me op (OfStream id v) m few c a h = stream-me op id v m a.2.0 a.2.1 a.1 a.2.2 (when (is_reset_arriving v)) h
move-me op (SynArrives id true) m few c a h = absurd (omega (arith, c))
move-me op (SynArrives id false) m few c a h =
    let e : (machine_refuses m || false) ≡ false = rw (no-cause op id m a.1.0 few a.1.1 a.1.2 h) refl in
    rw e (places-syn op id unborn_me refused_me (after_move SynOffered) a.1.0 m.streams m.me.offered m.me.away a.1.1 (ap is_unborn a.1.2) refl refl h)
move-me op AwayArrives m few c a h = record { room = h.room; few = h.few; stays = h.stays; none = h.none }
move-me op (PingThere number) m few c a h = record { room = h.room; few = h.few; stays = h.stays; none = h.none }
move-me op (PingBack number) m few c a h = record { room = h.room; few = h.few; stays = h.stays; none = h.none }

stream-you : (op id : ℕ) (v : Move) (m : Machine) (s : Stream) → look id m.streams ≡ Some s → PlacesOfYou op m → HasPlaces op unborn_you refused_you (change id (after_move v) m.streams) m.you.offered m.you.away
stream-you op id v m s e h = let y = move-you v s in
    places-change op id unborn_you refused_you (after_move v) s m.streams m.you.offered m.you.offered m.you.away e (ap is_unborn y) (ap is_refused y ∙ not-refused refused_you id s m.streams e h.none) (omega arith) h

move-other : (op : ℕ) (v : FreeMove) (m : Machine) → MayMove v m → PlacesOfYou op m → PlacesOfYou op (moved_by v m)
move-other op (OfStream id v) m a h = stream-you op id v m a.2.0 a.2.1 h
move-other op (SynArrives id counted) m a h = elim (when (machine_refuses m || counted)) [
  | inl b ↦ rw b (stream-you op id SynRefused m a.1.0 a.1.1 h)
  | inr b ↦ rw b (stream-you op id SynOffered m a.1.0 a.1.1 h)
]
move-other op AwayArrives m a h = absurd (let k : is_unsaid m.you.away ≡ false = ap is_unsaid a.1 in let t : true ≡ false = sym h.stays ∙ k in cc)
move-other op (PingThere number) m a h = record { room = h.room; few = h.few; stays = h.stays; none = h.none }
move-other op (PingBack number) m a h = record { room = h.room; few = h.few; stays = h.stays; none = h.none }

none-counted : (a b c : ℕ) → a ≡ 0 → a ≡ b + c → (b ≡ 0) × (c ≡ 0)
none-counted a b c e f = (omega arith, omega arith)

moves-me : (op : ℕ) (vs : List FreeMove) (m : Machine) (counted : ℕ) (n : Machine) → op ≤ 256 → counted ≡ 0 → FreeMoves vs m counted n → PlacesOfMe op m → PlacesOfMe op n
moves-me op [] m counted n few c h k = subst (PlacesOfMe op) (sym h.0) k
moves-me op (v ∷ vs) m counted n few c h k =
    let z = none-counted counted (counted_by v) h.1.0 c h.1.1 in
    moves-me op vs (moved_by v m) h.1.0 n few z.1 h.1.2 (move-me op v m few z.0 h.0 k)

-- ---- from the other side

passes-flip : (test : Stream → Bool) (o : Option Stream) → passes test (flipped o) ≡ passes (λ s. test (flip s)) o
passes-flip test None = refl
passes-flip test (Some s) = refl

-- the places of streams that pass these tests as those pass their own
places-like : (op : ℕ) (u r u' r' : Stream → Bool) (xs ys : List (ℕ × Stream)) (ids : List ℕ) (away : Mark) → length ys ≡ length xs → many u' ys ≡ many u xs →
    ((i : ℕ) → passes r' (look i ys) ≡ passes r (look i xs)) → HasPlaces op u r xs ids away → HasPlaces op u' r' ys ids away
places-like op u r u' r' xs ys ids away long k same h =
    let room = h.room in
    let few = h.few in record {
      room = omega (arith, long, k, room);
      few = omega (arith, long, few);
      stays = h.stays;
      none = λ i. same i ∙ h.none i;
    }

flip-passes : (test : Stream → Bool) (xs : List (ℕ × Stream)) (i : ℕ) → passes test (look i (map flip_entry xs)) ≡ passes (λ s. test (flip s)) (look i xs)
flip-passes test xs i = ap (passes test) (look-mirror i xs) ∙ passes-flip test (look i xs)

flips : (op : ℕ) (unborn refused : Stream → Bool) (xs : List (ℕ × Stream)) (ids : List ℕ) (away : Mark) → HasPlaces op (λ s. unborn (flip s)) (λ s. refused (flip s)) xs ids away →
    HasPlaces op unborn refused (map flip_entry xs) ids away
flips op unborn refused xs ids away h =
    places-like op (λ s. unborn (flip s)) (λ s. refused (flip s)) unborn refused xs (map flip_entry xs) ids away (length-map xs flip_entry) (many-flip unborn xs) (flip-passes refused xs) h

unflips : (op : ℕ) (unborn refused : Stream → Bool) (xs : List (ℕ × Stream)) (ids : List ℕ) (away : Mark) → HasPlaces op unborn refused (map flip_entry xs) ids away →
    HasPlaces op (λ s. unborn (flip s)) (λ s. refused (flip s)) xs ids away
unflips op unborn refused xs ids away h =
    places-like op unborn refused (λ s. unborn (flip s)) (λ s. refused (flip s)) (map flip_entry xs) xs ids away (sym (length-map xs flip_entry)) (sym (many-flip unborn xs)) (λ i. sym (flip-passes refused xs i)) h

pub to-you : (op : ℕ) (m : Machine) → PlacesOfMe op m → PlacesOfYou op (mirror_machine m)
to-you op m h = flips op unborn_you refused_you m.streams m.me.offered m.me.away h

from-you : (op : ℕ) (m : Machine) → PlacesOfYou op (mirror_machine m) → PlacesOfMe op m
from-you op m h = unflips op unborn_you refused_you m.streams m.me.offered m.me.away h

to-me : (op : ℕ) (m : Machine) → PlacesOfYou op m → PlacesOfMe op (mirror_machine m)
to-me op m h = flips op unborn_me refused_me m.streams m.you.offered m.you.away h

from-me : (op : ℕ) (m : Machine) → PlacesOfMe op (mirror_machine m) → PlacesOfYou op m
from-me op m h = unflips op unborn_me refused_me m.streams m.you.offered m.you.away h

-- ---- a step

releases-places : (K : Machine → Type 0) → ((id : ℕ) (m : Machine) → MayMove (OfStream id Released) m → K m → K (moved_by (OfStream id Released) m)) → (ids : List ℕ) (m n : Machine) → Releases ids m n → K m → K n
releases-places K f [] m n h k = subst K (sym h) k
releases-places K f (id ∷ ids) m n h k = releases-places K f ids (moved_by (OfStream id Released) m) n h.1 (f id m h.0 k)

-- a record that goes, at this side
release-me : (op id : ℕ) (m : Machine) → MayMove (OfStream id Released) m → PlacesOfMe op m → PlacesOfMe op (moved_by (OfStream id Released) m)
release-me op id m a h = stream-me op id Released m a.2.0 a.2.1 a.1 a.2.2 (inr refl) h

input-ends : (side : SideState) → ((side_input_ends side).offered ≡ side.offered) × ((side_input_ends side).away ≡ side.away)
input-ends side = elim (when side.closed) [
  | inl e ↦ rw e (refl, refl)
  | inr e ↦ rw e (refl, refl)
]

end-leaves : (given : Answer) (m n : Machine) → MachineStepOfA (step.End AB) given m n → LeavesPlaces m n
end-leaves given m n h = elim (when m.outbound_stopped) [
  | inl s ↦ (let k = input-ends m.you in leaves-is m n (record m { you = side_input_ends m.you }) (if-so_true _ _ _ s h).1 (record { streams = refl; mine = refl; mine_away = refl; yours = k.0; yours_away = k.1 }))
  | inr s ↦ leaves-all m n (if-so_false _ _ _ s h).1
]

fed-none : (fed : Fed) (counted : ℕ) → nat_lt 0 fed.no_memory ≡ false → fed.no_memory ≡ min counted greatest_number → counted ≡ 0
fed-none fed counted e f = grind (arith, nat_tests)

-- this side, in a step of its own
step-me : (mine yours op : ℕ) (a : Side) (st : Step) (given : Answer) (m n : Machine) → Speaks a st → Sound mine yours (core m) → away_by a st given ≡ false → MachineStepOfA st given m n →
    PlacesOfMe op m → PlacesOfMe (op + one given) n
step-me mine yours op a (step.At sd c) given m n e so w h k =
    let away : away_by a (step.At a c) (answer_of h.0) ≡ false = subst (λ (s : Side). away_by a (step.At s c) (answer_of h.0) ≡ false) e (subst (λ (g : Answer). away_by a (step.At sd c) g ≡ false) h.3 w) in
    subst (λ (g : Answer). PlacesOfMe (op + one g) n) (sym h.3)
    (releases-places (PlacesOfMe (op + one (answer_of h.0))) (release-me (op + one (answer_of h.0))) h.2 h.1 n h.5 (call-me mine yours op a c m h.0 h.1 so away h.4 k))
step-me mine yours op a (step.Emit sd room) given m n e so w h k = me-same op _ n n refl (releases-places (PlacesOfMe op) (release-me op) h.1 m n h.3 k)
step-me mine yours op a (step.Deliver d count) given m n e so w h k =
    me-same op _ n n refl (from-you op n (kept-moves (PlacesOfYou op) (move-other op) h.1 (mirror_machine m) h.2 (mirror_machine n) h.6 (to-you op m k)))
step-me mine yours op a (step.Stop d) given m n e so w h k = me-leaves op _ m n (leaves-is m n _ h.1 (record { streams = refl; mine = refl; mine_away = refl; yours = refl; yours_away = refl })) k
step-me mine yours op a (step.End d) given m n e so w h k = me-leaves op _ m n (end-leaves given m n h) k

-- the other side, in a step of this one
step-you : (mine yours op : ℕ) (st : Step) (given : Answer) (m n : Machine) → op ≤ 256 → Sound mine yours (core m) → lacked_by st given ≡ false → MachineStepOfA st given m n →
    PlacesOfYou op m → PlacesOfYou (op + one given) n
step-you mine yours op (step.At sd c) given m n few so w h k =
    subst (λ (g : Answer). PlacesOfYou (op + one g) n) (sym h.3)
    (kept-releases (PlacesOfYou (op + one (answer_of h.0))) (move-other (op + one (answer_of h.0))) h.2 h.1 n h.5 (call-you mine yours op c m h.0 h.1 so h.4 k))
step-you mine yours op (step.Emit sd room) given m n few so w h k = you-same op _ n n refl (kept-releases (PlacesOfYou op) (move-other op) h.1 m n h.3 k)
step-you mine yours op (step.Deliver d count) given m n few so w h k =
    let none = fed-none h.0 h.2 (subst (λ (g : Answer). lacked_by (step.Deliver d count) g ≡ false) h.3 w) h.5 in
    you-same op _ n n refl (from-me op n (moves-me op h.1 (mirror_machine m) h.2 (mirror_machine n) few none h.6 (to-me op m k)))
step-you mine yours op (step.Stop d) given m n few so w h k = you-leaves op _ m n (leaves-is m n _ h.1 (record { streams = refl; mine = refl; mine_away = refl; yours = refl; yours_away = refl })) k
step-you mine yours op (step.End d) given m n few so w h k = you-leaves op _ m n (end-leaves given m n h) k

-- either side, in a step of the machine
pub places-of_a : (mine yours op : ℕ) (st : Step) (given : Answer) (m n : Machine) → op ≤ 256 → Sound mine yours (core m) → away_by A st given ≡ false → lacked_by st given ≡ false → MachineStep st given m n →
    PlacesOfMe op m → PlacesOfMe (op + one given) n
places-of_a mine yours op st given m n few so w l h k = elim (when (is_of_a st)) [
  | inl e ↦ step-me mine yours op A st given m n (speaks-a st e) so w (if-so_true _ _ _ e h) k
  | inr e ↦ from-you (op + one given) n (step-you yours mine op st given (mirror_machine m) (mirror_machine n) few (sound-mirror mine yours m so) l (if-so_false _ _ _ e h) (to-you op m k))
]

pub places-of_b : (mine yours op : ℕ) (st : Step) (given : Answer) (m n : Machine) → op ≤ 256 → Sound mine yours (core m) → away_by B st given ≡ false → lacked_by st given ≡ false → MachineStep st given m n →
    PlacesOfYou op m → PlacesOfYou (op + one given) n
places-of_b mine yours op st given m n few so w l h k = elim (when (is_of_a st)) [
  | inl e ↦ step-you mine yours op st given m n few so l (if-so_true _ _ _ e h) k
  | inr e ↦ from-me (op + one given) n (step-me yours mine op B st given (mirror_machine m) (mirror_machine n) (speaks-b st e) (sound-mirror mine yours m so) w (if-so_false _ _ _ e h) (to-me op m k))
]
