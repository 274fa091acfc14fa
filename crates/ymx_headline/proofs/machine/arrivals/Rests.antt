-- A machine at rest: nothing of a stream is under way, and reads and accepts leave it so.
use Rattle.std.proofs.Common.{◌≡◌, inl, inr, ℕ, List, [], ◌∷◌, Bool, true, false, not, ◌&&◌, ◌==◌, Option, None, Some, refl, sym, ◌∙◌, ap, subst, arith}
use Rattle.std.specs.List.{All}
use Rattle.std.proofs.lemmas.List.Elements.{All-head, All-tail}
use Rattle.ymx_machine.specs.declared.types.Side.{Side}
use Rattle.ymx_machine.specs.shared.Events.{Call, Reply}
use Rattle.ymx_machine.specs.declared.types.Call.TheVariants as call
use Rattle.ymx_machine.specs.declared.types.Step.{Step}
use Rattle.ymx_machine.specs.declared.types.Step.TheVariants as step
use Rattle.ymx_machine.specs.declared.types.Answer.{Answer}
use Rattle.ymx_machine.specs.shared.Phases.{Phase, is_unborn}
use Rattle.ymx_machine.specs.shared.Lists.{look, change}
use Rattle.ymx_machine.specs.shared.Steps.{is_of_a}
use Rattle.ymx_machine.specs.stream.Lanes.{Lane, Mark, is_said}
use Rattle.ymx_machine.specs.stream.Streams.{Stream, IsStill, flip, after_move, stream_accept, stream_read}
use Rattle.ymx_machine.specs.stream.Streams.Move.{Released}
use Rattle.ymx_machine.specs.stream.StreamRules.StreamCall.{Reads}
use Rattle.ymx_machine.specs.machine.Machines.{Machine, mirror_machine}
use Rattle.ymx_machine.specs.machine.CallRules.{Rule, OpenSideRule, OnStream, AcceptRule, is_close}
use Rattle.ymx_machine.specs.machine.FreeMoves.{MayMove, Releases, moved_by}
use Rattle.ymx_machine.specs.machine.FreeMoves.FreeMove.{OfStream}
use Rattle.ymx_machine.specs.machine.Runs.{IsStillMachine, MachineStep, MachineStepOfA}
use Rattle.ymx_machine.proofs.Tests.{when, same_or_not}
use Rattle.ymx_headline.specs.machine.Arrivals.{only_takes}
use Rattle.ymx_headline.specs.machine.Runs.{IsOpenMachine}
use Rattle.ymx_headline.proofs.machine.lanes.StreamFacts.{if-so_true, if-so_false}
use Rattle.ymx_headline.proofs.machine.order.Maps.{look-change, look-change_other, flip-back, flipped, look-mirror}
use Rattle.ymx_headline.proofs.machine.order.Cores.{core, Sound, sound-mirror, offered-front, offered-stream}

-- one direction of a stream, from an end that is born: nothing is under way
pub record RestsOneWay (p : Phase) (l : Lane) (mark : Mark) : Type 0 where
  pub born : is_unborn p ≡ false
  pub way : l.way ≡ []
  pub fin : is_said l.fin ≡ false
  pub rst : is_said mark ≡ false

-- nothing of a stream is under way but an acknowledgement
pub record IsResting (s : Stream) : Type 0 where
  pub outbound : RestsOneWay s.me s.outbound s.rst_outbound
  pub inbound : RestsOneWay s.you s.inbound s.rst_inbound

abbrev pub RestsAt : Option Stream → Type 0
RestsAt None = Unit {0}
RestsAt (Some s) = IsResting s

pub record IsRestingMachine (m : Machine) : Type 0 where
  pub each : (i : ℕ) → RestsAt (look i m.streams)
  pub open_ : IsOpenMachine m

-- ---- a still machine is at rest

pub still-rests : (mine yours : ℕ) (s : Stream) → IsStill mine yours s → IsResting s
still-rests mine yours s h = record {
  outbound = record { born = h.me_born; way = h.way_outbound; fin = h.fin_outbound; rst = h.rst_outbound };
  inbound = record { born = h.you_born; way = h.way_inbound; fin = h.fin_inbound; rst = h.rst_inbound };
}

still-look : (mine yours i : ℕ) (xs : List (ℕ × Stream)) → All (λ p. IsStill mine yours p.1) xs → RestsAt (look i xs)
still-look mine yours i [] h = tt
still-look mine yours i (p ∷ ps) h = elim (when (p.0 == i)) [
  | inl e ↦ rw e (still-rests mine yours p.1 (All-head (λ p. IsStill mine yours p.1) p ps h))
  | inr e ↦ rw e (still-look mine yours i ps (All-tail (λ p. IsStill mine yours p.1) p ps h))
]

pub still-machine : (m : Machine) → IsStillMachine m → IsOpenMachine m → IsRestingMachine m
still-machine m h o = record { each = λ i. still-look m.me.window m.you.window i m.streams h.streams; open_ = o }

-- ---- from the other side

pub rests-flip : (o : Option Stream) → RestsAt o → RestsAt (flipped o)
rests-flip None h = tt
rests-flip (Some s) h = record { outbound = h.inbound; inbound = h.outbound }

rests-unflip : (o : Option Stream) → RestsAt (flipped o) → RestsAt o
rests-unflip None h = tt
rests-unflip (Some s) h = subst IsResting (flip-back s) (rests-flip (Some (flip s)) h)

pub rests-mirror : (m : Machine) → IsRestingMachine m → IsRestingMachine (mirror_machine m)
rests-mirror m h = record {
  each = λ i. subst RestsAt (sym (look-mirror i m.streams)) (rests-flip (look i m.streams) (h.each i));
  open_ = record { me_open = h.open_.you_open; you_open = h.open_.me_open; me_hears = h.open_.you_hears; you_hears = h.open_.me_hears };
}

rests-unmirror : (m : Machine) → IsRestingMachine (mirror_machine m) → IsRestingMachine m
rests-unmirror m h = record {
  each = λ i. rests-unflip (look i m.streams) (subst RestsAt (look-mirror i m.streams) (h.each i));
  open_ = record { me_open = h.open_.you_open; you_open = h.open_.me_open; me_hears = h.open_.you_hears; you_hears = h.open_.me_hears };
}

-- ---- reads and accepts

-- one stream changes
rests-change : (i j : ℕ) (f : Stream → Stream) (s : Stream) (xs : List (ℕ × Stream)) → look j xs ≡ Some s → (IsResting s → IsResting (f s)) →
    ((k : ℕ) → RestsAt (look k xs)) → RestsAt (look i (change j f xs))
rests-change i j f s xs e g at = elim (same_or_not i j) [
  | inl d ↦ subst RestsAt (sym (ap (λ (x : ℕ). look x (change j f xs)) d ∙ look-change j f xs s e)) (g (subst RestsAt e (at j)))
  | inr d ↦ subst RestsAt (sym (look-change_other i j f xs d)) (at i)
]

rests-is : (m n : Machine) → n ≡ m → IsRestingMachine m → IsRestingMachine n
rests-is m n e h = subst IsRestingMachine (sym e) h

-- what a resting stream says beside its own end
abbrev beside : Stream → Phase × Lane × Lane × Mark × Mark
beside s = (s.you, record s.outbound { here = []; credit = 0; owed = 0 }, record s.inbound { here = []; credit = 0; owed = 0 }, s.rst_outbound, s.rst_inbound)

-- it rests on while that stays, and its own end is no unborn one
rests-like : (s t : Stream) → is_unborn t.me ≡ false → beside t ≡ beside s → IsResting s → IsResting t
rests-like s t b e h = record {
  outbound = record { born = b; way = ap (λ x. x.1.way) e ∙ h.outbound.way; fin = ap (λ x. is_said x.1.fin) e ∙ h.outbound.fin; rst = ap (λ x. is_said x.3) e ∙ h.outbound.rst };
  inbound = record { born = ap (λ x. is_unborn x.0) e ∙ h.inbound.born; way = ap (λ x. x.2.way) e ∙ h.inbound.way; fin = ap (λ x. is_said x.2.fin) e ∙ h.inbound.fin; rst = ap (λ x. is_said x.4) e ∙ h.inbound.rst };
}

released : (s : Stream) → IsResting s → IsResting (after_move Released s)
released s h = rests-like s _ refl refl h

accepts-rest : (lost : Bool) (s : Stream) → IsResting s → IsResting (stream_accept lost s)
accepts-rest lost s h = rests-like s _ refl refl h

reads-rest : (n : ℕ) (s : Stream) → IsResting s → IsResting (stream_read n s)
reads-rest n s h = rests-like s _ h.outbound.born refl h

rests-release : (id : ℕ) (m : Machine) → MayMove (OfStream id Released) m → IsRestingMachine m → IsRestingMachine (moved_by (OfStream id Released) m)
rests-release id m a h = record {
  each = λ i. rests-change i id (after_move Released) a.2.0 m.streams a.2.1 (released a.2.0) h.each;
  open_ = record { me_open = h.open_.me_open; you_open = h.open_.you_open; me_hears = h.open_.me_hears; you_hears = h.open_.you_hears };
}

pub rests-releases : (ids : List ℕ) (m n : Machine) → Releases ids m n → IsRestingMachine m → IsRestingMachine n
rests-releases [] m n h k = rests-is m n h k
rests-releases (id ∷ ids) m n h k = rests-releases ids (moved_by (OfStream id Released) m) n h.1 (rests-release id m h.0 k)

-- a read, and what it leads to
rests-read : (id room : ℕ) (o : Option Stream) (m : Machine) (r : Reply) (n : Machine) → look id m.streams ≡ o → OnStream id (Reads room) o m r n → IsRestingMachine m → IsRestingMachine n
rests-read id room None m r n e h k = rests-is m n h.1 k
rests-read id room (Some s) m r n e h k = rests-is (record m { streams = change id (λ _. h.0) m.streams }) n h.2 (record {
  each = λ i. rests-change i id (λ _. h.0) s m.streams e (λ q. subst IsResting (sym h.1.1) (reads-rest _ s q)) k.each;
  open_ = record { me_open = k.open_.me_open; you_open = k.open_.you_open; me_hears = k.open_.me_hears; you_hears = k.open_.you_hears };
})

rests-accept : (mine yours : ℕ) (ids : List ℕ) (m : Machine) (r : Reply) (n : Machine) → m.me.offered ≡ ids → Sound mine yours (core m) → AcceptRule ids m r n → IsRestingMachine m → IsRestingMachine n
rests-accept mine yours [] m r n e so h k = rests-is m n (if-so_false _ _ _ k.open_.me_hears h).1 k
rests-accept mine yours (id ∷ ids) m r n e so h k =
    let s = offered-stream (look id m.streams) (offered-front mine yours (core m) id ids e so) in
    rests-is (record m { streams = change id (stream_accept m.me.lost) m.streams; me = record m.me { offered = ids } }) n h.1 (record {
      each = λ i. rests-change i id (stream_accept m.me.lost) s.0 m.streams s.1 (accepts-rest m.me.lost s.0) k.each;
      open_ = record { me_open = k.open_.me_open; you_open = k.open_.you_open; me_hears = k.open_.me_hears; you_hears = k.open_.you_hears };
    })

open-side : (b c : Bool) → b ≡ false → (b && c) ≡ false
open-side b c e = grind arith

-- the rule of a call at a side that isn't closed
pub open-rule : (c : Call) (m : Machine) (r : Reply) (n : Machine) → m.me.closed ≡ false → Rule c m r n → OpenSideRule c m r n
open-rule c m r n o h = if-so_false _ _ _ (open-side m.me.closed (not (is_close c)) o) h

rests-took : (mine yours : ℕ) (side : Side) (c : Call) (given : Answer) (m n : Machine) → only_takes (step.At side c) ≡ true → Sound mine yours (core m) →
    MachineStepOfA (step.At side c) given m n → IsRestingMachine m → IsRestingMachine n
rests-took mine yours side (call.Read id room) given m n t so h k =
    rests-releases h.2 h.1 n h.5 (rests-read id room (look id m.streams) m h.0 h.1 refl (open-rule (call.Read id room) m h.0 h.1 k.open_.me_open h.4) k)
rests-took mine yours side call.Accept given m n t so h k =
    rests-releases h.2 h.1 n h.5 (rests-accept mine yours m.me.offered m h.0 h.1 refl so (open-rule call.Accept m h.0 h.1 k.open_.me_open h.4) k)
rests-took mine yours side _ given m n t so h k = absurd cc

rests-took_of : (mine yours : ℕ) (st : Step) (given : Answer) (m n : Machine) → only_takes st ≡ true → Sound mine yours (core m) →
    MachineStepOfA st given m n → IsRestingMachine m → IsRestingMachine n
rests-took_of mine yours (step.At side c) given m n t so h k = rests-took mine yours side c given m n t so h k
rests-took_of mine yours _ given m n t so h k = absurd cc

-- a step that only takes leaves a machine at rest
pub rests-step : (mine yours : ℕ) (st : Step) (given : Answer) (m n : Machine) → only_takes st ≡ true → Sound mine yours (core m) →
    MachineStep st given m n → IsRestingMachine m → IsRestingMachine n
rests-step mine yours st given m n t so h k = elim (when (is_of_a st)) [
  | inl e ↦ rests-took_of mine yours st given m n t so (if-so_true _ _ _ e h) k
  | inr e ↦ rests-unmirror n (rests-took_of yours mine st given (mirror_machine m) (mirror_machine n) t (sound-mirror mine yours m so) (if-so_false _ _ _ e h) (rests-mirror m k))
]
