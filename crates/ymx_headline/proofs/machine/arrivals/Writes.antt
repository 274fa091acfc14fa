-- What a write answers where all is still.
use Rattle.std.proofs.Common.{◌≡◌, ◌⊎◌, inl, inr, ℕ, ◌<◌, ◌*◌, ◌+◌, List, [], ◌∷◌, length, min, drop, map, Bool, true, false, not, ◌==◌, Option, None, Some, refl, sym, ◌∙◌, ap, subst, arith}
use Rattle.std.proofs.lemmas.Bool.Decides.{nat_tests}
use Rattle.std.specs.List.{All}
use Rattle.std.proofs.lemmas.List.Elements.{All-nil, All-cons, All-head, All-tail}
use Rattle.ymx_machine.specs.declared.types.Side.{Side}
use Rattle.ymx_machine.specs.shared.Events.{Reply}
use Rattle.ymx_machine.specs.declared.types.Call.TheVariants as call
use Rattle.ymx_machine.specs.declared.types.Step.TheVariants as step
use Rattle.ymx_machine.specs.declared.types.Answer.{Answer}
use Rattle.ymx_machine.specs.shared.Phases.Phase.{Live}
use Rattle.ymx_machine.specs.shared.Lists.{look}
use Rattle.ymx_machine.specs.shared.Steps.{answer_of}
use Rattle.ymx_machine.specs.shared.Replies.{write_reply}
use Rattle.ymx_machine.specs.stream.Lanes.{Mark, Lane, is_unsaid}
use Rattle.ymx_machine.specs.stream.Lanes.Mark.{Unsaid}
use Rattle.ymx_machine.specs.stream.Streams.{Stream, IsStill, flip}
use Rattle.ymx_machine.specs.stream.StreamRules.StreamCall.{Writes}
use Rattle.ymx_machine.specs.machine.Machines.{Machine, mirror_machine, flip_entry}
use Rattle.ymx_machine.specs.machine.CallRules.{OnStream}
use Rattle.ymx_machine.specs.machine.Runs.{MachineStepOfA, IsStillMachine}
use Rattle.ymx_machine.proofs.Tests.{when}
use Rattle.ymx_headline.specs.machine.Arrivals.{TakesEnough}
use Rattle.ymx_headline.specs.machine.Runs.{ObeysAt, IsOpenMachine}
use Rattle.ymx_headline.specs.machine.LaneLaws.{IsBounded, ObeysWindows}
use Rattle.ymx_headline.proofs.machine.order.Cores.{core}
use Rattle.ymx_headline.proofs.machine.faces.Pasts.{Past, HasFaces}
use Rattle.ymx_headline.proofs.machine.faces.StreamFaces.{faces-flip, not-both}
use Rattle.ymx_headline.proofs.machine.faces.MachineFaces.{FaceAt, Faced}
use Rattle.ymx_headline.proofs.machine.arrivals.Rests.{still-rests, rests-flip, open-rule}
use Rattle.ymx_headline.proofs.machine.arrivals.Tales.{Tale, has}
use Rattle.ymx_headline.proofs.machine.arrivals.Told.{FitsAt}
use Rattle.ymx_headline.proofs.machine.arrivals.Reads.{live-left}

-- a write where nothing is on its way, and less than half the window is owed
write-enough : (window owed credit unread : ℕ) (bytes : List ℕ) → (unread + credit) + owed ≡ window → 2 * owed < window →
    TakesEnough window unread bytes (answer_of (write_reply false bytes Live false credit))
write-enough window owed credit unread bytes e little = elim (when (length bytes == 0)) [
  | inl z ↦ rw z (inl (let k : length bytes ≡ 0 = grind (arith, nat_tests) in sym k))
  | inr z ↦ rw z (elim (when (credit == 0)) [
    | inl c ↦ rw c (let k : credit ≡ 0 = grind (arith, nat_tests) in omega (arith, k, e, little))
    | inr c ↦ rw c (enough (length bytes) credit unread owed window e little)
  ])
]
  where
    enough : (n credit unread owed window : ℕ) → (unread + credit) + owed ≡ window → 2 * owed < window → (min n credit ≡ n) ⊎ (window < 2 * (unread + min n credit))
    enough n credit unread owed window e little = grind arith

unsaid-mark : (m : Mark) → is_unsaid m ≡ true → m ≡ Unsaid
unsaid-mark m e = grind arith

unfinished : (m : Mark) (b : Bool) → (is_unsaid m ≡ false → b ≡ true) → b ≡ false → is_unsaid m ≡ true
unfinished m b f e = grind arith

lane-sum : (window : ℕ) (l : Lane) → IsBounded window Live Live l → l.way ≡ [] → (length l.here + l.credit) + l.owed ≡ window
lane-sum window l b w = let k = b.exact refl refl in let z : length l.way ≡ 0 = ap length w in omega (arith, k, z)

live-writes : (mine yours : ℕ) (bytes : List ℕ) (s : Stream) (po pi : Past) → s.me ≡ Live → s.you ≡ Live → IsStill mine yours s → ObeysWindows mine yours s → HasFaces mine yours s po pi → po.finished ≡ false →
    TakesEnough yours (length (drop (length po.got) po.written)) bytes (answer_of (write_reply false bytes s.me (not (is_unsaid s.outbound.fin)) s.outbound.credit))
live-writes mine yours bytes s po pi l u q o f n =
    let face = f.outbound.2 in
    let fin = unfinished s.outbound.fin po.finished face.said n in
    let rest = still-rests mine yours s q in
    let left : drop (length po.got) po.written ≡ s.outbound.here = live-left yours mine (flip s) pi po u (rests-flip (Some s) rest) (faces-flip mine yours s po pi f) in
    let sum = lane-sum yours s.outbound (subst (λ p. IsBounded yours p Live s.outbound) l (subst (λ p. IsBounded yours s.me p s.outbound) u o.outbound)) q.way_outbound in
    let little = q.little_outbound l u (unsaid-mark s.outbound.fin fin) in
    rw (left, l, fin) (write-enough yours s.outbound.owed s.outbound.credit (length s.outbound.here) bytes sum little)

write-at : (mine yours i : ℕ) (bytes : List ℕ) (po pi : Past) (x y : Tale) (o : Option Stream) (m : Machine) (r : Reply) (n : Machine) → m.me.lost ≡ false → FaceAt mine yours po pi o → FitsAt x y o →
    ((s : Stream) → o ≡ Some s → IsStill mine yours s) → ObeysAt mine yours o → has x ≡ true → has y ≡ true → po.finished ≡ false → OnStream i (Writes bytes) o m r n →
    TakesEnough yours (length (drop (length po.got) po.written)) bytes (answer_of r)
write-at mine yours i bytes po pi x y None m r n l f t q o a b u h = absurd (not-both (has x) a t.0)
write-at mine yours i bytes po pi x y (Some s) m r n l f t q o a b u h = elim h.1 [
  | inl w ↦ (let live = t.both a b in
      subst (λ (k : Reply). TakesEnough yours (length (drop (length po.got) po.written)) bytes (answer_of k)) (sym (w.0 ∙ ap (λ (c : Bool). write_reply c bytes s.me (not (is_unsaid s.outbound.fin)) s.outbound.credit) l))
      (live-writes mine yours bytes s po pi live.0 live.1 (q s refl) o f u))
  | inr w ↦ subst (λ (k : Reply). TakesEnough yours (length (drop (length po.got) po.written)) bytes (answer_of k)) (sym w.1) refl
]

one-of : (mine yours i : ℕ) (xs : List (ℕ × Stream)) (s : Stream) → All (λ p. IsStill mine yours p.1) xs → look i xs ≡ Some s → IsStill mine yours s
one-of mine yours i [] s h e = absurd cc
one-of mine yours i (p ∷ ps) s h e = elim (when (p.0 == i)) [
  | inl k ↦ (let same : Some p.1 ≡ Some s = rw k at e in let is : p.1 ≡ s = cc in subst (IsStill mine yours) is (All-head (λ p. IsStill mine yours p.1) p ps h))
  | inr k ↦ one-of mine yours i ps s (All-tail (λ p. IsStill mine yours p.1) p ps h) (rw k at e)
]

-- ---- from the other side

still-flip : (mine yours : ℕ) (s : Stream) → IsStill mine yours s → IsStill yours mine (flip s)
still-flip mine yours s h = grind arith

all-flip : (mine yours : ℕ) (xs : List (ℕ × Stream)) → All (λ p. IsStill mine yours p.1) xs → All (λ p. IsStill yours mine p.1) (map flip_entry xs)
all-flip mine yours [] h = All-nil (λ p. IsStill yours mine p.1)
all-flip mine yours (p ∷ ps) h =
    All-cons (λ p. IsStill yours mine p.1) (flip_entry p) (map flip_entry ps) (still-flip mine yours p.1 (All-head (λ p. IsStill mine yours p.1) p ps h))
    (all-flip mine yours ps (All-tail (λ p. IsStill mine yours p.1) p ps h))

pub still-mirror : (m : Machine) → IsStillMachine m → IsStillMachine (mirror_machine m)
still-mirror m h = record { streams = all-flip m.me.window m.you.window m.streams h.streams; away_me = h.away_you; away_you = h.away_me; pings_me = h.pings_you; pings_you = h.pings_me }

pub open-mirror : (m : Machine) → IsOpenMachine m → IsOpenMachine (mirror_machine m)
open-mirror m h = record { me_open = h.you_open; you_open = h.me_open; me_hears = h.you_hears; you_hears = h.me_hears }

-- ---- a write

pub takes : (mine yours i : ℕ) (side : Side) (bytes : List ℕ) (po pi : Past) (x y : Tale) (m n : Machine) (given : Answer) → Faced mine yours i po pi (core m) → FitsAt x y (look i m.streams) →
    IsStillMachine m → IsOpenMachine m → ObeysAt mine yours (look i m.streams) → has x ≡ true → has y ≡ true → po.finished ≡ false →
    MachineStepOfA (step.At side (call.Write i bytes)) given m n → TakesEnough yours (length (drop (length po.got) po.written)) bytes given
takes mine yours i side bytes po pi x y m n given f t q w o a b u h =
    subst (TakesEnough yours (length (drop (length po.got) po.written)) bytes) (sym h.3)
    (write-at mine yours i bytes po pi x y (look i m.streams) m h.0 h.1 w.me_hears f.face t still o a b u (open-rule (call.Write i bytes) m h.0 h.1 w.me_open h.4))
  where
    still : (s : Stream) → look i m.streams ≡ Some s → IsStill mine yours s
    still s e = subst (λ (v : ℕ). IsStill v yours s) f.sound.window_me (subst (λ (v : ℕ). IsStill m.me.window v s) f.sound.window_you (one-of m.me.window m.you.window i m.streams s q.streams e))
