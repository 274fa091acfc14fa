-- What the laws see of a machine, and its offered lists.
use Rattle.std.proofs.Common.{◌≡◌, ◌≢◌, ◌⊎◌, inl, inr, ℕ, List, [], ◌∷◌, ◌++◌, Bool, true, false, ◌||◌, if◌then◌else◌, map, Option, None, Some, refl, sym, ◌∙◌, ap, subst, arith}
use Rattle.ymx_machine.specs.shared.Events.{Reply}
use Rattle.ymx_machine.specs.shared.Events.{Call}
use Rattle.ymx_machine.specs.stream.Lanes.{Mark}
use Rattle.ymx_machine.specs.shared.Phases.{Phase, struck, is_offered}
use Rattle.ymx_machine.specs.stream.Streams.{Stream, Move, Allowed, after_move, stream_accept}
use Rattle.ymx_machine.specs.shared.Phases.Phase.{Offered, Unborn, WasReset, Lingering}
use Rattle.ymx_machine.specs.stream.Streams.Move.{Arrive, EndArrives, Return, SynOffered, SynRefused, AckArrives, ResetArrives, Released}
use Rattle.ymx_machine.specs.stream.StreamRules.{StreamCall, StreamRule, ResetsTo, forgets_quietly}
use Rattle.ymx_machine.specs.shared.Replies.{is_done, reset_reply, forget_reply}
use Rattle.ymx_machine.specs.stream.StreamRules.StreamCall.{Writes, Reads, Finishes, Resets, Forgets}
use Rattle.ymx_machine.specs.shared.Lists.{look, change, drop_id}
use Rattle.ymx_machine.specs.machine.Machines.{Machine, SideState, flip_entry, mirror_machine, new_machine}
use Rattle.ymx_machine.specs.machine.FreeMoves.{FreeMove, MayMove, moved_by, FreeMoves, Releases, move_is_syn, is_reset_arriving, machine_refuses}
use Rattle.ymx_machine.specs.machine.FreeMoves.FreeMove.{OfStream, SynArrives, AwayArrives, PingThere, PingBack}
use Rattle.ymx_machine.specs.machine.Runs.{side_input_ends}
use Rattle.ymx_machine.proofs.Tests.{when, same_or_not}
use Rattle.ymx_headline.proofs.machine.lanes.StreamFacts.{if-so_true, if-so_false}
use Rattle.ymx_headline.proofs.machine.order.Maps.{look-change, look-change_other, look-add, look-add_other, look-add_there, flipped, look-mirror, all-pass, pass-at, all-add, all-drop, in-drop, in-add, in-added, in-rest}
use Rattle.ymx_headline.specs.machine.Numbers.{is_in, AllOnce, offered_here, offered_there, IsOfferedList}
use Rattle.ymx_headline.proofs.machine.faces.Effects.{Unmoved, Effect}
use Rattle.ymx_headline.proofs.machine.faces.Effects.Effect.{Idles, OpensOne, AcceptsOne, TouchesOne}

pub record Core : Type 0 where
  pub streams : List (ℕ × Stream)
  pub window_me : ℕ
  pub window_you : ℕ
  pub next_me : ℕ
  pub next_you : ℕ
  pub offered_me : List ℕ
  pub offered_you : List ℕ

abbrev pub core : Machine → Core
core m = record { streams = m.streams; window_me = m.me.window; window_you = m.you.window; next_me = m.me.next; next_you = m.you.next; offered_me = m.me.offered; offered_you = m.you.offered }

pub core-unmoved : (m n : Machine) → Unmoved m n → core n ≡ core m
core-unmoved m n u = rw (u.streams, u.you, u.window, u.next, u.offered) refl

ends : (b : Bool) (side : SideState) → (let s = if b then side else record side { lost = true } in (s.window ≡ side.window) × (s.next ≡ side.next) × (s.offered ≡ side.offered))
ends true side = (refl, refl, refl)
ends false side = (refl, refl, refl)

pub core-ends : (m : Machine) → core (record m { you = side_input_ends m.you }) ≡ core m
core-ends m = let k = ends m.you.closed m.you in rw (k.0, k.1, k.2) refl

-- ---- some moves

pub kept-moves : (K : Machine → Type 0) → ((v : FreeMove) (m : Machine) → MayMove v m → K m → K (moved_by v m)) →
    (vs : List FreeMove) (m : Machine) (counted : ℕ) (n : Machine) → FreeMoves vs m counted n → K m → K n
kept-moves K f [] m counted n h k = subst K (sym h.0) k
kept-moves K f (v ∷ vs) m counted n h k = kept-moves K f vs (moved_by v m) h.1.0 n h.1.2 (f v m h.0 k)

pub kept-releases : (K : Machine → Type 0) → ((v : FreeMove) (m : Machine) → MayMove v m → K m → K (moved_by v m)) →
    (ids : List ℕ) (m n : Machine) → Releases ids m n → K m → K n
kept-releases K f [] m n h k = subst K (sym h) k
kept-releases K f (id ∷ ids) m n h k = kept-releases K f ids (moved_by (OfStream id Released) m) n h.1 (f (OfStream id Released) m h.0 k)

-- ---- the windows stay, and the offered lists name offered streams, each once

pub record Sound (mine yours : ℕ) (c : Core) : Type 0 where
  pub window_me : c.window_me ≡ mine
  pub window_you : c.window_you ≡ yours
  pub offered_me : IsOfferedList offered_here c.streams c.offered_me
  pub offered_you : IsOfferedList offered_there c.streams c.offered_you

-- a test that a stream passes, after one stream changed
pass-change : (g : Option Stream → Bool) (f : Stream → Stream) (j : ℕ) (s : Stream) (xs : List (ℕ × Stream)) → look j xs ≡ Some s →
    (g (Some s) ≡ true → g (Some (f s)) ≡ true) → (i : ℕ) → g (look i xs) ≡ true → g (look i (change j f xs)) ≡ true
pass-change g f j s xs e h i p = elim (same_or_not i j) [
  | inl d ↦ rw d (rw (look-change j f xs s e) (h (subst (λ (o : Option Stream). g o ≡ true) e (rw d at p))))
  | inr d ↦ rw (look-change_other i j f xs d) p
]

pass-change_other : (g : Option Stream → Bool) (f : Stream → Stream) (j : ℕ) (xs : List (ℕ × Stream)) →
    (i : ℕ) → i ≢ j → g (look i xs) ≡ true → g (look i (change j f xs)) ≡ true
pass-change_other g f j xs i d p = rw (look-change_other i j f xs d) p

there-is : (g : Option Stream → Bool) (o : Option Stream) → g None ≡ false → g o ≡ true → (s : Stream) × (o ≡ Some s)
there-is g None e p = absurd (cc)
there-is g (Some s) e p = (s, refl)

-- and after one was added
pass-add : (g : Option Stream → Bool) (j : ℕ) (s : Stream) (xs : List (ℕ × Stream)) → g None ≡ false →
    (i : ℕ) → g (look i xs) ≡ true → g (look i (xs ++ (j, s) ∷ [])) ≡ true
pass-add g j s xs n i p = let k = there-is g (look i xs) n p in rw (look-add_there i j s k.0 xs k.1) (subst (λ (o : Option Stream). g o ≡ true) k.1 p)

not-in : (i j : ℕ) (xs : List ℕ) → is_in j xs ≡ false → is_in i xs ≡ true → i ≢ j
not-in i j xs n s e = let k : is_in j xs ≡ true = subst (λ (x : ℕ). is_in x xs ≡ true) e s in let q : true ≡ false = sym k ∙ n in absurd (cc)

not-true : (b : Bool) → b ≡ false → b ≡ true → ⊥
not-true b e f = let k : true ≡ false = sym f ∙ e in absurd (cc)

-- an end that isn't offered isn't in the list
not-listed : (g : ℕ → Bool) (i : ℕ) (xs : List ℕ) → g i ≡ false → AllOnce g xs → is_in i xs ≡ false
not-listed g i xs n c = elim (when (is_in i xs)) [
  | inl s ↦ absurd (not-true (g i) n (pass-at g i xs s c))
  | inr s ↦ s
]

-- a test at a number, after a change there and elsewhere
at-it : (g : Option Stream → Bool) (f : Stream → Stream) (i j : ℕ) (s : Stream) (xs : List (ℕ × Stream)) → look j xs ≡ Some s → i ≡ j →
    g (look i (change j f xs)) ≡ true → g (Some (f s)) ≡ true
at-it g f i j s xs e d p = subst (λ (o : Option Stream). g o ≡ true) (ap (λ (x : ℕ). look x (change j f xs)) d ∙ look-change j f xs s e) p

at-other : (g : Option Stream → Bool) (f : Stream → Stream) (i j : ℕ) (xs : List (ℕ × Stream)) → i ≢ j →
    g (look i (change j f xs)) ≡ true → g (look i xs) ≡ true
at-other g f i j xs d p = subst (λ (o : Option Stream). g o ≡ true) (look-change_other i j f xs d) p

at-stream : (g : Option Stream → Bool) (j : ℕ) (s : Stream) (xs : List (ℕ × Stream)) → look j xs ≡ Some s → g (Some s) ≡ true → g (look j xs) ≡ true
at-stream g j s xs e p = subst (λ (o : Option Stream). g o ≡ true) (sym e) p

add-not : (g : Option Stream → Bool) (i j : ℕ) (s : Stream) (xs : List (ℕ × Stream)) → g None ≡ false → g (Some s) ≡ false → (o : Option Stream) → look i xs ≡ o →
    g (look i (xs ++ (j, s) ∷ [])) ≡ true → g (look i xs) ≡ true
add-not g i j s xs n m (Some t) e p = subst (λ (o : Option Stream). g o ≡ true) (look-add_there i j s t xs e ∙ sym e) p
add-not g i j s xs n m None e p = elim (same_or_not i j) [
  | inl d ↦ absurd (not-true (g (Some s)) m (subst (λ (o : Option Stream). g o ≡ true) (ap (λ (x : ℕ). look x (xs ++ (j, s) ∷ [])) d ∙ look-add j s xs (ap (λ (x : ℕ). look x xs) (sym d) ∙ e)) p))
  | inr d ↦ subst (λ (o : Option Stream). g o ≡ true) (look-add_other i j s xs d) p
]

-- one is added that isn't offered
list-add : (g : Option Stream → Bool) (j : ℕ) (s : Stream) (xs : List (ℕ × Stream)) (ids : List ℕ) → g None ≡ false → g (Some s) ≡ false →
    IsOfferedList g xs ids → IsOfferedList g (xs ++ (j, s) ∷ []) ids
list-add g j s xs ids n m k = record {
  once = all-pass _ _ ids (λ i st p. pass-add g j s xs n i p) k.once;
  every = λ i p. k.every i (add-not g i j s xs n m (look i xs) refl p);
}

-- one changes that is offered before and after, or neither
list-change : (g : Option Stream → Bool) (f : Stream → Stream) (j : ℕ) (s : Stream) (xs : List (ℕ × Stream)) (ids : List ℕ) → look j xs ≡ Some s →
    (g (Some s) ≡ true → g (Some (f s)) ≡ true) → (g (Some (f s)) ≡ true → g (Some s) ≡ true) →
    IsOfferedList g xs ids → IsOfferedList g (change j f xs) ids
list-change g f j s xs ids e h u k = record {
  once = all-pass _ _ ids (λ i st p. pass-change g f j s xs e h i p) k.once;
  every = λ i p. elim (same_or_not i j) [
    | inl d ↦ k.every i (subst (λ (x : ℕ). g (look x xs) ≡ true) (sym d) (at-stream g j s xs e (u (at-it g f i j s xs e d p))))
    | inr d ↦ k.every i (at-other g f i j xs d p)
  ];
}

-- the first one is offered no more
list-front : (g : Option Stream → Bool) (f : Stream → Stream) (j : ℕ) (s : Stream) (xs : List (ℕ × Stream)) (ids : List ℕ) → look j xs ≡ Some s → g (Some (f s)) ≡ false →
    IsOfferedList g xs (j ∷ ids) → IsOfferedList g (change j f xs) ids
list-front g f j s xs ids e m k = let a = k.once in record {
  once = all-pass _ _ ids (λ i st p. pass-change_other g f j xs i (not-in i j ids a.1 st) p) a.2;
  every = λ i p. elim (same_or_not i j) [
    | inl d ↦ absurd (not-true (g (Some (f s))) m (at-it g f i j s xs e d p))
    | inr d ↦ in-rest i j ids d (k.every i (at-other g f i j xs d p))
  ];
}

-- one is offered no more, and leaves the list
list-drop : (g : Option Stream → Bool) (f : Stream → Stream) (j : ℕ) (s : Stream) (xs : List (ℕ × Stream)) (ids : List ℕ) → look j xs ≡ Some s → g (Some (f s)) ≡ false →
    IsOfferedList g xs ids → IsOfferedList g (change j f xs) (drop_id j ids)
list-drop g f j s xs ids e m k = let d = all-drop _ j ids k.once in record {
  once = all-pass _ _ (drop_id j ids) (λ i st p. pass-change_other g f j xs i (not-in i j _ d.1 st) p) d.0;
  every = λ i p. elim (same_or_not i j) [
    | inl q ↦ absurd (not-true (g (Some (f s))) m (at-it g f i j s xs e q p))
    | inr q ↦ in-drop i j ids q (k.every i (at-other g f i j xs q p))
  ];
}

-- one is offered from now on
list-more : (g : Option Stream → Bool) (f : Stream → Stream) (j : ℕ) (s : Stream) (xs : List (ℕ × Stream)) (ids : List ℕ) → look j xs ≡ Some s → g (Some s) ≡ false → g (Some (f s)) ≡ true →
    IsOfferedList g xs ids → IsOfferedList g (change j f xs) (ids ++ j ∷ [])
list-more g f j s xs ids e n m k = record {
  once = all-add _ j ids (rw (look-change j f xs s e) m) (not-listed (λ i. g (look i xs)) j ids (rw e n) k.once)
      (all-pass _ _ ids (λ i st p. pass-change g f j s xs e (λ q. m) i p) k.once);
  every = λ i p. elim (same_or_not i j) [
    | inl d ↦ subst (λ (x : ℕ). is_in x (ids ++ j ∷ []) ≡ true) (sym d) (in-added j ids)
    | inr d ↦ in-add i j ids (k.every i (at-other g f i j xs d p))
  ];
}

-- a test of the one side is one of the other, mirrored
list-mirror : (g h : Option Stream → Bool) (xs : List (ℕ × Stream)) (ids : List ℕ) → ((o : Option Stream) → g (flipped o) ≡ h o) →
    IsOfferedList h xs ids → IsOfferedList g (map flip_entry xs) ids
list-mirror g h xs ids f k = record {
  once = all-pass _ _ ids (λ i st p. rw (look-mirror i xs) (rw (f (look i xs)) p)) k.once;
  every = λ i p. k.every i (sym (f (look i xs)) ∙ (sym (ap g (look-mirror i xs)) ∙ p));
}

list-unmirror : (g h : Option Stream → Bool) (xs : List (ℕ × Stream)) (ids : List ℕ) → ((o : Option Stream) → g (flipped o) ≡ h o) →
    IsOfferedList g (map flip_entry xs) ids → IsOfferedList h xs ids
list-unmirror g h xs ids f k = record {
  once = all-pass _ _ ids (λ i st p. sym (f (look i xs)) ∙ (sym (ap g (look-mirror i xs)) ∙ p)) k.once;
  every = λ i p. k.every i (rw (look-mirror i xs) (rw (f (look i xs)) p));
}

pub is-offered : (p : Phase) → is_offered p ≡ true → p ≡ Offered
is-offered p e = grind arith

-- an offered end is refused every call, and a call leaves the other end as it is

resets-you : (p : Phase) (s t : Stream) → ResetsTo p s t → t.you ≡ s.you
resets-you p s t h = ap (λ (x : Stream). x.you) h.4

finish-you : (b : Bool) (s : Stream) → (if b then record s { outbound = record s.outbound { fin = Mark.Said } } else s).you ≡ s.you
finish-you true s = refl
finish-you false s = refl

pub finish-me : (b : Bool) (s : Stream) → (if b then record s { outbound = record s.outbound { fin = Mark.Said } } else s).me ≡ s.me
finish-me true s = refl
finish-me false s = refl

pub rule-you : (lost : Bool) (c : StreamCall) (s t : Stream) (r : Reply) → StreamRule lost c s r t → t.you ≡ s.you
rule-you lost (Writes bytes) s t r (inl h) = ap (λ (x : Stream). x.you) h.1
rule-you lost (Writes bytes) s t r (inr h) = ap (λ (x : Stream). x.you) h.2
rule-you lost (Reads max) s t r h = ap (λ (x : Stream). x.you) h.1
rule-you lost Finishes s t r h = ap (λ (x : Stream). x.you) h.1 ∙ finish-you (is_done r) s
rule-you lost Resets s t r h = elim (when (is_done r)) [
  | inl d ↦ resets-you WasReset s t (if-so_true _ _ _ d h.1)
  | inr d ↦ ap (λ (x : Stream). x.you) (if-so_false _ _ _ d h.1)
]
rule-you lost Forgets s t r h = elim (when (is_done r)) [
  | inl d ↦ (let k = if-so_true _ _ _ d h.1 in elim (when (forgets_quietly lost s)) [
    | inl q ↦ ap (λ (x : Stream). x.you) (if-so_true _ _ _ q k)
    | inr q ↦ resets-you Lingering s t (if-so_false _ _ _ q k)
  ])
  | inr d ↦ ap (λ (x : Stream). x.you) (if-so_false _ _ _ d h.1)
]

reset-offered : (lost : Bool) (p : Phase) → p ≡ Offered → is_done (reset_reply lost p) ≡ false
reset-offered lost p e = grind arith

forget-offered : (p : Phase) → p ≡ Offered → is_done (forget_reply p) ≡ false
forget-offered p e = grind arith

pub rule-offered : (lost : Bool) (c : StreamCall) (s t : Stream) (r : Reply) → StreamRule lost c s r t → s.me ≡ Offered → t.me ≡ Offered
rule-offered lost (Writes bytes) s t r (inl h) o = ap (λ (x : Stream). x.me) h.1 ∙ o
rule-offered lost (Writes bytes) s t r (inr h) o = ap (λ (x : Stream). x.me) h.2 ∙ o
rule-offered lost (Reads max) s t r h o = ap (λ (x : Stream). x.me) h.1 ∙ o
rule-offered lost Finishes s t r h o = ap (λ (x : Stream). x.me) h.1 ∙ finish-me (is_done r) s ∙ o
rule-offered lost Resets s t r h o =
    ap (λ (x : Stream). x.me) (if-so_false _ _ _ (subst (λ (x : Reply). is_done x ≡ false) (sym h.0) (reset-offered lost s.me o)) h.1) ∙ o
rule-offered lost Forgets s t r h o =
    ap (λ (x : Stream). x.me) (if-so_false _ _ _ (subst (λ (x : Reply). is_done x ≡ false) (sym h.0) (forget-offered s.me o)) h.1) ∙ o

-- no call makes an end offered
resets-phase : (p : Phase) (s t : Stream) → ResetsTo p s t → t.me ≡ p
resets-phase p s t h = ap (λ (x : Stream). x.me) h.4

no-offer : (p : Phase) (t : Stream) → is_offered p ≡ false → t.me ≡ p → is_offered t.me ≡ true → ⊥
no-offer p t n e o = not-true (is_offered p) n (subst (λ (x : Phase). is_offered x ≡ true) e o)

pub rule-unoffered : (lost : Bool) (c : StreamCall) (s t : Stream) (r : Reply) → StreamRule lost c s r t → is_offered t.me ≡ true → is_offered s.me ≡ true
rule-unoffered lost (Writes bytes) s t r (inl h) o = subst (λ (x : Stream). is_offered x.me ≡ true) h.1 o
rule-unoffered lost (Writes bytes) s t r (inr h) o = subst (λ (x : Stream). is_offered x.me ≡ true) h.2 o
rule-unoffered lost (Reads max) s t r h o = subst (λ (x : Stream). is_offered x.me ≡ true) h.1 o
rule-unoffered lost Finishes s t r h o = subst (λ (x : Phase). is_offered x ≡ true) (ap (λ (x : Stream). x.me) h.1 ∙ finish-me (is_done r) s) o
rule-unoffered lost Resets s t r h o = elim (when (is_done r)) [
  | inl d ↦ absurd (no-offer WasReset t refl (resets-phase WasReset s t (if-so_true _ _ _ d h.1)) o)
  | inr d ↦ subst (λ (x : Stream). is_offered x.me ≡ true) (if-so_false _ _ _ d h.1) o
]
rule-unoffered lost Forgets s t r h o = elim (when (is_done r)) [
  | inl d ↦ (let k = if-so_true _ _ _ d h.1 in elim (when (forgets_quietly lost s)) [
    | inl q ↦ absurd (no-offer Lingering t refl (ap (λ (x : Stream). x.me) (if-so_true _ _ _ q k)) o)
    | inr q ↦ absurd (no-offer Lingering t refl (resets-phase Lingering s t (if-so_false _ _ _ q k)) o)
  ])
  | inr d ↦ subst (λ (x : Stream). is_offered x.me ≡ true) (if-so_false _ _ _ d h.1) o
]

struck-unoffered : (p : Phase) → is_offered (struck p) ≡ false
struck-unoffered p = grind arith

-- nor a move but a SYN
pub move-unoffered : (v : Move) (s : Stream) → move_is_syn v ≡ false → is_offered (after_move v s).me ≡ true → is_offered s.me ≡ true
move-unoffered (Arrive n) s e o = o
move-unoffered EndArrives s e o = o
move-unoffered (Return n) s e o = o
move-unoffered SynOffered s e o = absurd (cc)
move-unoffered SynRefused s e o = absurd (cc)
move-unoffered AckArrives s e o = o
move-unoffered ResetArrives s e o = absurd (not-true _ (struck-unoffered s.me) o)
move-unoffered Released s e o = absurd (cc)

is-reset : (v : Move) → is_reset_arriving v ≡ true → (s : Stream) → (after_move v s).me ≡ struck s.me
is-reset (Arrive n) e s = absurd (cc)
is-reset EndArrives e s = absurd (cc)
is-reset (Return n) e s = absurd (cc)
is-reset SynOffered e s = absurd (cc)
is-reset SynRefused e s = absurd (cc)
is-reset AckArrives e s = absurd (cc)
is-reset ResetArrives e s = refl
is-reset Released e s = absurd (cc)

offered-is : (p : Phase) → p ≡ Offered → is_offered p ≡ true
offered-is p e = ap is_offered e

-- a move leaves the other end, and an offered end but for a reset

pub move-you : (v : Move) (s : Stream) → (after_move v s).you ≡ s.you
move-you (Arrive n) s = refl
move-you _ s = refl

pub move-offered : (v : Move) (s : Stream) → Allowed v s → is_reset_arriving v ≡ false → is_offered s.me ≡ true → is_offered (after_move v s).me ≡ true
move-offered (Arrive n) s a e o = o
move-offered EndArrives s a e o = o
move-offered (Return n) s a e o = o
move-offered SynOffered s a e o = refl
move-offered SynRefused s a e o = let k : is_offered Unborn ≡ true = subst (λ (p : Phase). is_offered p ≡ true) a o in absurd (cc)
move-offered AckArrives s a e o = o
move-offered ResetArrives s a e o = absurd (cc)
move-offered Released s a e o = let k : is_offered Lingering ≡ true = subst (λ (p : Phase). is_offered p ≡ true) a o in absurd (cc)

-- the front of the offered list is an offered stream
pub offered-front : (mine yours : ℕ) (c : Core) (id : ℕ) (ids : List ℕ) → c.offered_me ≡ id ∷ ids → Sound mine yours c → offered_here (look id c.streams) ≡ true
offered-front mine yours c id ids e k = let a : IsOfferedList offered_here c.streams (id ∷ ids) = subst (IsOfferedList offered_here c.streams) e k.offered_me in let b = a.once in b.0

pub offered-stream : (o : Option Stream) → offered_here o ≡ true → (s : Stream) × (o ≡ Some s) × (s.me ≡ Offered)
offered-stream None p = absurd (cc)
offered-stream (Some s) p = (s, refl, is-offered s.me p)

-- ---- these facts are kept

pub sound-is : (mine yours : ℕ) (c d : Core) → d ≡ c → Sound mine yours c → Sound mine yours d
sound-is mine yours c d e h = subst (Sound mine yours) (sym e) h

pub sound-effect : (mine yours : ℕ) (c : Call) (m : Machine) (r : Reply) (n : Machine) → Effect c m r n → Sound mine yours (core m) → Sound mine yours (core n)
sound-effect mine yours c m r n (Idles h) k = sound-is mine yours _ _ (core-unmoved m n h.same) k
sound-effect mine yours c m r n (OpensOne bytes h) k = sound-is mine yours _ _ (ap core h.now) (record {
  window_me = k.window_me;
  window_you = k.window_you;
  offered_me = list-add offered_here m.me.next _ m.streams m.me.offered refl refl k.offered_me;
  offered_you = list-add offered_there m.me.next _ m.streams m.you.offered refl refl k.offered_you;
})
sound-effect mine yours c m r n (AcceptsOne id ids h) k =
    let a : IsOfferedList offered_here m.streams (id ∷ ids) = subst (IsOfferedList offered_here m.streams) h.front k.offered_me in
    let s = offered-stream (look id m.streams) (offered-front mine yours (core m) id ids h.front k) in
    sound-is mine yours _ _ (ap core h.now) (record {
      window_me = k.window_me;
      window_you = k.window_you;
      offered_me = list-front offered_here (stream_accept m.me.lost) id s.0 m.streams ids s.1 refl a;
      offered_you = list-change offered_there (stream_accept m.me.lost) id s.0 m.streams m.you.offered s.1 (λ q. q) (λ q. q) k.offered_you;
    })
sound-effect mine yours c m r n (TouchesOne id sc s t h) k =
    let y = rule-you m.me.lost sc s t r h.rule in sound-is mine yours _ _ (ap core h.now) (record {
      window_me = k.window_me;
      window_you = k.window_you;
      offered_me = list-change offered_here (λ _. t) id s m.streams m.me.offered h.there
          (λ q. offered-is t.me (rule-offered m.me.lost sc s t r h.rule (is-offered s.me q))) (λ q. rule-unoffered m.me.lost sc s t r h.rule q) k.offered_me;
      offered_you = list-change offered_there (λ _. t) id s m.streams m.you.offered h.there (λ q. rw y q) (λ q. rw y at q) k.offered_you;
    })

offered-if : (b : Bool) (side : SideState) (ids : List ℕ) → (let s = if b then record side { offered = ids } else side in (s.window ≡ side.window) × (s.next ≡ side.next))
offered-if true side ids = (refl, refl)
offered-if false side ids = (refl, refl)

other-offered : (id : ℕ) (v : Move) (m : Machine) (s : Stream) → look id m.streams ≡ Some s → IsOfferedList offered_there m.streams m.you.offered →
    IsOfferedList offered_there (change id (after_move v) m.streams) m.you.offered
other-offered id v m s e k = let y = move-you v s in list-change offered_there (after_move v) id s m.streams m.you.offered e (λ q. rw y q) (λ q. rw y at q) k

sound-of_stream : (mine yours id : ℕ) (v : Move) (m : Machine) (s : Stream) → look id m.streams ≡ Some s → Allowed v s → move_is_syn v ≡ false →
    (is_reset_arriving v ≡ true) ⊎ (is_reset_arriving v ≡ false) → Sound mine yours (core m) → Sound mine yours (core (moved_by (OfStream id v) m))
sound-of_stream mine yours id v m s e a y (inl b) k = record {
  window_me = (offered-if (is_reset_arriving v) m.me (drop_id id m.me.offered)).0 ∙ k.window_me;
  window_you = k.window_you;
  offered_me = rw b (list-drop offered_here (after_move v) id s m.streams m.me.offered e (ap is_offered (is-reset v b s) ∙ struck-unoffered s.me) k.offered_me);
  offered_you = other-offered id v m s e k.offered_you;
}
sound-of_stream mine yours id v m s e a y (inr b) k = record {
  window_me = (offered-if (is_reset_arriving v) m.me (drop_id id m.me.offered)).0 ∙ k.window_me;
  window_you = k.window_you;
  offered_me = rw b (list-change offered_here (after_move v) id s m.streams m.me.offered e (λ q. move-offered v s a b q) (λ q. move-unoffered v s y q) k.offered_me);
  offered_you = other-offered id v m s e k.offered_you;
}

sound-syn : (mine yours id : ℕ) (counted : Bool) (m : Machine) (s : Stream) → look id m.streams ≡ Some s → s.me ≡ Unborn →
    ((machine_refuses m || counted) ≡ true) ⊎ ((machine_refuses m || counted) ≡ false) → Sound mine yours (core m) → Sound mine yours (core (moved_by (SynArrives id counted) m))
sound-syn mine yours id counted m s e a (inl b) k = rw b (record {
  window_me = k.window_me;
  window_you = k.window_you;
  offered_me = list-change offered_here (after_move SynRefused) id s m.streams m.me.offered e (λ q. move-offered SynRefused s a refl q) (λ q. absurd (cc)) k.offered_me;
  offered_you = other-offered id SynRefused m s e k.offered_you;
})
sound-syn mine yours id counted m s e a (inr b) k = rw b (record {
  window_me = k.window_me;
  window_you = k.window_you;
  offered_me = list-more offered_here (after_move SynOffered) id s m.streams m.me.offered e (ap is_offered a) refl k.offered_me;
  offered_you = other-offered id SynOffered m s e k.offered_you;
})

pub sound-move : (mine yours : ℕ) (v : FreeMove) (m : Machine) → MayMove v m → Sound mine yours (core m) → Sound mine yours (core (moved_by v m))
sound-move mine yours (OfStream id v) m a k = sound-of_stream mine yours id v m a.2.0 a.2.1 a.2.2 a.1 (when (is_reset_arriving v)) k
sound-move mine yours (SynArrives id counted) m a k = sound-syn mine yours id counted m a.1.0 a.1.1 a.1.2 (when (machine_refuses m || counted)) k
sound-move mine yours AwayArrives m a k = k
sound-move mine yours (PingThere number) m a k = k
sound-move mine yours (PingBack number) m a k = k

-- ---- from the other side

flip-was : (o : Option Stream) → offered_here (flipped o) ≡ offered_there o
flip-was None = refl
flip-was (Some s) = refl

flip-there : (o : Option Stream) → offered_there (flipped o) ≡ offered_here o
flip-there None = refl
flip-there (Some s) = refl

pub sound-mirror : (mine yours : ℕ) (m : Machine) → Sound mine yours (core m) → Sound yours mine (core (mirror_machine m))
sound-mirror mine yours m k = record {
  window_me = k.window_you;
  window_you = k.window_me;
  offered_me = list-mirror offered_here offered_there m.streams m.you.offered flip-was k.offered_you;
  offered_you = list-mirror offered_there offered_here m.streams m.me.offered flip-there k.offered_me;
}

pub sound-unmirror : (mine yours : ℕ) (m : Machine) → Sound mine yours (core (mirror_machine m)) → Sound yours mine (core m)
sound-unmirror mine yours m k = record {
  window_me = k.window_you;
  window_you = k.window_me;
  offered_me = list-unmirror offered_there offered_here m.streams m.me.offered flip-there k.offered_you;
  offered_you = list-unmirror offered_here offered_there m.streams m.you.offered flip-was k.offered_me;
}

pub sound-new : (mine first yours your_first : ℕ) → Sound mine yours (core (new_machine mine first yours your_first))
sound-new mine first yours your_first = record {
  window_me = refl;
  window_you = refl;
  offered_me = record { once = tt; every = λ i p. absurd (cc) };
  offered_you = record { once = tt; every = λ i p. absurd (cc) };
}
