-- A stream's number is below its opener's next and of its kind, so no number comes again.
use Rattle.std.proofs.Common.{◌≡◌, ◌≢◌, ◌⊎◌, inl, inr, ℕ, ◌+◌, ◌%◌, List, [], ◌∷◌, ◌++◌, Bool, true, false, not, ◌||◌, map, Option, None, Some, refl, sym, ◌∙◌, ap, subst, arith}
use Rattle.ymx_machine.specs.shared.Events.{Reply}
use Rattle.ymx_machine.specs.shared.Events.{Call}
use Rattle.ymx_machine.specs.stream.Streams.{Stream, Move, after_move, stream_accept}
use Rattle.ymx_machine.specs.stream.Streams.Move.{Arrive, SynOffered, SynRefused}
use Rattle.ymx_machine.specs.stream.StreamRules.{StreamCall, StreamRule, forgets_quietly}
use Rattle.ymx_machine.specs.shared.Replies.{is_done}
use Rattle.ymx_machine.specs.stream.StreamRules.StreamCall.{Writes, Reads, Finishes, Resets, Forgets}
use Rattle.ymx_machine.specs.shared.Lists.{look, change}
use Rattle.ymx_machine.specs.machine.Machines.{Machine, flip_entry, mirror_machine}
use Rattle.ymx_machine.specs.machine.FreeMoves.{FreeMove, MayMove, moved_by, is_reset_arriving, machine_refuses}
use Rattle.ymx_machine.specs.machine.FreeMoves.FreeMove.{OfStream, SynArrives, AwayArrives, PingThere, PingBack}
use Rattle.ymx_machine.proofs.Tests.{when, same_or_not}
use Rattle.ymx_machine.proofs.Lists.{distinct-change, distinct-added}
use Rattle.ymx_headline.specs.machine.Numbers.{NumbersOnce, HasNumber, HasNumberAt}
use Rattle.ymx_headline.proofs.machine.lanes.StreamFacts.{if-so_true, if-so_false}
use Rattle.ymx_headline.proofs.machine.order.Maps.{look-change, look-change_other, look-add, look-add_other, flipped, look-mirror}
use Rattle.ymx_headline.proofs.machine.faces.Effects.{Effect}
use Rattle.ymx_headline.proofs.machine.faces.Effects.Effect.{Idles, OpensOne, AcceptsOne, TouchesOne}
use Rattle.ymx_headline.proofs.machine.order.Cores.{Core, core, core-unmoved, Sound, offered-front, offered-stream}

pub record Numbered (c : Core) : Type 0 where
  pub parity : c.next_me % 2 ≢ c.next_you % 2
  pub once : NumbersOnce c.streams
  pub at : (i : ℕ) → HasNumberAt c.next_me c.next_you i (look i c.streams)

-- the next number is free

not-next : (a b : ℕ) (own : Bool) → a % 2 ≢ b % 2 → HasNumber a b a own → ⊥
not-next a b true p k = let h = (k.mine refl).0 in absurd (omega arith)
not-next a b false p k = p (k.yours refl).1

free-at : (a b : ℕ) (o : Option Stream) → a % 2 ≢ b % 2 → HasNumberAt a b a o → o ≡ None
free-at a b None p k = refl
free-at a b (Some s) p k = absurd (not-next a b s.own p k)

pub free : (c : Core) → Numbered c → look c.next_me c.streams ≡ None
free c k = free-at c.next_me c.next_you (look c.next_me c.streams) k.parity (k.at c.next_me)

-- a call and a move leave the opener

rule-own : (lost : Bool) (c : StreamCall) (s t : Stream) (r : Reply) → StreamRule lost c s r t → t.own ≡ s.own
rule-own lost (Writes bytes) s t r (inl h) = ap (λ (x : Stream). x.own) h.1
rule-own lost (Writes bytes) s t r (inr h) = ap (λ (x : Stream). x.own) h.2
rule-own lost (Reads max) s t r h = ap (λ (x : Stream). x.own) h.1
rule-own lost Finishes s t r h = elim (when (is_done r)) [
  | inl d ↦ ap (λ (x : Stream). x.own) (rw d at h.1)
  | inr d ↦ ap (λ (x : Stream). x.own) (rw d at h.1)
]
rule-own lost Resets s t r h = elim (when (is_done r)) [
  | inl d ↦ ap (λ (x : Stream). x.own) (if-so_true _ _ _ d h.1).4
  | inr d ↦ ap (λ (x : Stream). x.own) (if-so_false _ _ _ d h.1)
]
rule-own lost Forgets s t r h = elim (when (is_done r)) [
  | inl d ↦ (let k = if-so_true _ _ _ d h.1 in elim (when (forgets_quietly lost s)) [
    | inl q ↦ ap (λ (x : Stream). x.own) (if-so_true _ _ _ q k)
    | inr q ↦ ap (λ (x : Stream). x.own) (if-so_false _ _ _ q k).4
  ])
  | inr d ↦ ap (λ (x : Stream). x.own) (if-so_false _ _ _ d h.1)
]

move-own : (v : Move) (s : Stream) → (after_move v s).own ≡ s.own
move-own (Arrive n) s = refl
move-own _ s = refl

-- ---- each number once

none-flip : (o : Option Stream) → flipped o ≡ None → o ≡ None
none-flip None e = refl
none-flip (Some s) e = absurd (cc)

once-mirror : (xs : List (ℕ × Stream)) → NumbersOnce xs → NumbersOnce (map flip_entry xs)
once-mirror [] h = tt
once-mirror (p ∷ ps) h = (look-mirror p.0 ps ∙ ap flipped h.0, once-mirror ps h.1)

once-unmirror : (xs : List (ℕ × Stream)) → NumbersOnce (map flip_entry xs) → NumbersOnce xs
once-unmirror [] h = tt
once-unmirror (p ∷ ps) h = (none-flip _ (sym (look-mirror p.0 ps) ∙ h.0), once-unmirror ps h.1)

-- ---- kept

at-is : (a b i : ℕ) (o o' : Option Stream) → o' ≡ o → HasNumberAt a b i o → HasNumberAt a b i o'
at-is a b i o o' e h = subst (HasNumberAt a b i) (sym e) h

at-change : (a b j : ℕ) (f : Stream → Stream) (s : Stream) (xs : List (ℕ × Stream)) → look j xs ≡ Some s → (f s).own ≡ s.own →
    ((i : ℕ) → HasNumberAt a b i (look i xs)) → (i : ℕ) → HasNumberAt a b i (look i (change j f xs))
at-change a b j f s xs e o at i = elim (same_or_not i j) [
  | inl d ↦ at-is a b i _ _ (ap (λ (x : ℕ). look x (change j f xs)) d ∙ look-change j f xs s e)
      (rw o (at-is a b i _ (Some s) (sym (ap (λ (x : ℕ). look x xs) d ∙ e)) (at i)))
  | inr d ↦ at-is a b i _ _ (look-change_other i j f xs d) (at i)
]

two-more : (n : ℕ) → (n + 2) % 2 ≡ n % 2
two-more n = omega arith

number-grows : (a b i : ℕ) (own : Bool) → HasNumber a b i own → HasNumber (a + 2) b i own
number-grows a b i own k = record { mine = λ e. let h = k.mine e in (omega arith, h.1 ∙ sym (two-more a)); yours = k.yours }

grows : (a b i : ℕ) (o : Option Stream) → HasNumberAt a b i o → HasNumberAt (a + 2) b i o
grows a b i None k = tt
grows a b i (Some s) k = number-grows a b i s.own k

number-new : (a b : ℕ) → HasNumber (a + 2) b a true
number-new a b = record { mine = λ e. (omega arith, sym (two-more a)); yours = λ e. absurd (cc) }

at-add : (a b : ℕ) (s : Stream) (xs : List (ℕ × Stream)) → s.own ≡ true → look a xs ≡ None →
    ((i : ℕ) → HasNumberAt a b i (look i xs)) → (i : ℕ) → HasNumberAt (a + 2) b i (look i (xs ++ (a, s) ∷ []))
at-add a b s xs o f at i = elim (same_or_not i a) [
  | inl d ↦ at-is (a + 2) b i (Some s) _ (ap (λ (x : ℕ). look x (xs ++ (a, s) ∷ [])) d ∙ look-add a s xs f) (rw (o, d) (number-new a b))
  | inr d ↦ at-is (a + 2) b i _ _ (look-add_other i a s xs d) (grows a b i (look i xs) (at i))
]

pub numbered-is : (c d : Core) → d ≡ c → Numbered c → Numbered d
numbered-is c d e h = subst Numbered (sym e) h

pub numbered-effect : (mine yours : ℕ) (c : Call) (m : Machine) (r : Reply) (n : Machine) → Effect c m r n → Sound mine yours (core m) → Numbered (core m) → Numbered (core n)
numbered-effect mine yours c m r n (Idles h) so k = numbered-is _ _ (core-unmoved m n h.same) k
numbered-effect mine yours c m r n (OpensOne bytes h) so k = numbered-is _ _ (ap core h.now) (record {
  parity = λ e. k.parity (sym (two-more m.me.next) ∙ e);
  once = distinct-added m.me.next _ m.streams (free (core m) k) k.once;
  at = at-add m.me.next m.you.next _ m.streams refl (free (core m) k) k.at;
})
numbered-effect mine yours c m r n (AcceptsOne id ids h) so k =
    let s = offered-stream (look id m.streams) (offered-front mine yours (core m) id ids h.front so) in
    numbered-is _ _ (ap core h.now) (record { parity = k.parity; once = distinct-change id _ m.streams k.once; at = at-change m.me.next m.you.next id (stream_accept m.me.lost) s.0 m.streams s.1 refl k.at })
numbered-effect mine yours c m r n (TouchesOne id sc s t h) so k =
    numbered-is _ _ (ap core h.now) (record { parity = k.parity; once = distinct-change id _ m.streams k.once; at = at-change m.me.next m.you.next id (λ _. t) s m.streams h.there (rule-own m.me.lost sc s t r h.rule) k.at })

syn : (id : ℕ) (counted : Bool) (m : Machine) (s : Stream) → look id m.streams ≡ Some s →
    ((machine_refuses m || counted) ≡ true) ⊎ ((machine_refuses m || counted) ≡ false) → Numbered (core m) → Numbered (core (moved_by (SynArrives id counted) m))
syn id counted m s e (inl b) k = rw b (record { parity = k.parity; once = distinct-change id _ m.streams k.once; at = at-change m.me.next m.you.next id (after_move SynRefused) s m.streams e refl k.at })
syn id counted m s e (inr b) k = rw b (record { parity = k.parity; once = distinct-change id _ m.streams k.once; at = at-change m.me.next m.you.next id (after_move SynOffered) s m.streams e refl k.at })

pub numbered-move : (v : FreeMove) (m : Machine) → MayMove v m → Numbered (core m) → Numbered (core (moved_by v m))
numbered-move (OfStream id v) m a k = elim (when (is_reset_arriving v)) [
  | inl b ↦ rw b (record { parity = k.parity; once = distinct-change id _ m.streams k.once; at = at-change m.me.next m.you.next id (after_move v) a.2.0 m.streams a.2.1 (move-own v a.2.0) k.at })
  | inr b ↦ rw b (record { parity = k.parity; once = distinct-change id _ m.streams k.once; at = at-change m.me.next m.you.next id (after_move v) a.2.0 m.streams a.2.1 (move-own v a.2.0) k.at })
]
numbered-move (SynArrives id counted) m a k = syn id counted m a.1.0 a.1.1 (when (machine_refuses m || counted)) k
numbered-move AwayArrives m a k = k
numbered-move (PingThere number) m a k = k
numbered-move (PingBack number) m a k = k

number-flip : (a b i : ℕ) (own : Bool) → HasNumber a b i own → HasNumber b a i (not own)
number-flip a b i true k = record { mine = λ e. absurd (cc); yours = λ e. k.mine refl }
number-flip a b i false k = record { mine = λ e. k.yours refl; yours = λ e. absurd (cc) }

number-unflip : (a b i : ℕ) (own : Bool) → HasNumber a b i (not own) → HasNumber b a i own
number-unflip a b i true k = record { mine = λ e. k.yours refl; yours = λ e. absurd (cc) }
number-unflip a b i false k = record { mine = λ e. absurd (cc); yours = λ e. k.mine refl }

at-flip : (a b i : ℕ) (o : Option Stream) → HasNumberAt a b i o → HasNumberAt b a i (flipped o)
at-flip a b i None k = tt
at-flip a b i (Some s) k = number-flip a b i s.own k

at-unflip : (a b i : ℕ) (o : Option Stream) → HasNumberAt a b i (flipped o) → HasNumberAt b a i o
at-unflip a b i None k = tt
at-unflip a b i (Some s) k = number-unflip a b i s.own k

pub numbered-mirror : (m : Machine) → Numbered (core m) → Numbered (core (mirror_machine m))
numbered-mirror m k = record {
  parity = λ e. k.parity (sym e);
  once = once-mirror m.streams k.once;
  at = λ i. at-is m.you.next m.me.next i _ _ (look-mirror i m.streams) (at-flip m.me.next m.you.next i (look i m.streams) (k.at i));
}

pub numbered-unmirror : (m : Machine) → Numbered (core (mirror_machine m)) → Numbered (core m)
numbered-unmirror m k = record {
  parity = λ e. k.parity (sym e);
  once = once-unmirror m.streams k.once;
  at = λ i. at-unflip m.you.next m.me.next i (look i m.streams) (at-is m.you.next m.me.next i _ _ (sym (look-mirror i m.streams)) (k.at i));
}
