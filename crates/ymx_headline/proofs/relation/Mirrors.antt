-- What agrees as one side sees it agrees as the other does; and the order of numbers is the machine's own.
use Rattle.std.proofs.Common.{◌≡◌, ◌≢◌, ℕ, ◌<◌, ◌%◌, ◌||◌, List, true, Option, None, Some, refl, sym, ap, subst, ◌∙◌, inl, inr, arith}
use Rattle.std.specs.Prelude.{option_map}
use Rattle.std.proofs.lemmas.Bool.Decides.{nat_tests}
use Rattle.ymx_model.specs.declared.types.Role.{Role}
use Rattle.ymx_model.specs.declared.types.Role.TheVariants.{Client, Server}
use Rattle.ymx_machine.specs.shared.Events.{Call}
use Rattle.ymx_machine.specs.shared.Events.{Reply}
use Rattle.ymx_machine.specs.stream.Streams.{Stream, after_move}
use Rattle.ymx_machine.specs.stream.Streams.Move.{SynOffered, SynRefused}
use Rattle.ymx_model.specs.session.Sessions.{is_own}
use Rattle.ymx_machine.specs.shared.Lists.{drop_id, look, change}
use Rattle.ymx_model.specs.world.Worlds.{World, mirror_world as world_mirror}
use Rattle.ymx_machine.specs.machine.Machines.{Machine, SideState, mirror_machine}
use Rattle.ymx_machine.specs.machine.CallRules.{Rule}
use Rattle.ymx_machine.specs.machine.FreeMoves.{FreeMove, MayMove, moved_by, FreeMoves, Releases, is_reset_arriving, machine_refuses}
use Rattle.ymx_machine.specs.machine.FreeMoves.FreeMove.{OfStream, SynArrives, AwayArrives, PingThere, PingBack}
use Rattle.ymx_headline.specs.stream.Worlds.{StreamWorld as Streams, Streams as Found, AreOne, Refines}
use Rattle.ymx_headline.proofs.stream.Happenings.{stream_mirror as streams_mirror, mirrored, flip_some, Same}
use Rattle.ymx_headline.proofs.stream.Worlds.{mirrors}
use Rattle.ymx_headline.specs.machine.Numbers.{NumbersOnce, HasNumberAt, IsOfferedList, offered_here, offered_there}
use Rattle.ymx_machine.proofs.Tests.{same_or_not, split}
use Rattle.ymx_headline.proofs.machine.order.Maps.{look-add_other, look-mirror, flipped}
use Rattle.ymx_headline.proofs.machine.faces.Effects.{Effect, effect}
use Rattle.ymx_headline.proofs.machine.faces.Effects.Effect.{Idles, OpensOne, AcceptsOne, TouchesOne}
use Rattle.ymx_machine.proofs.Lists.{look-change_same, look-change_other}
use Rattle.ymx_headline.proofs.machine.order.Cores.{Core, core, core-unmoved, kept-moves, kept-releases, Sound, sound-effect, sound-move, sound-mirror}
use Rattle.ymx_headline.proofs.machine.order.Openers.{Numbered, numbered-effect, numbered-move, numbered-mirror}
use Rattle.ymx_headline.specs.Agrees.{AgreesAs, IsNumbered, found}

-- ---- the machine's streams as a function

pub refines-same : (g : Streams) (m n : Found) → Same m n → Refines g m → Refines g n
refines-same g m n e r = record {
  a_window = r.a_window;
  b_window = r.b_window;
  streams = λ i. subst (AreOne g.a.over g.b.over g.a.window g.b.window _ _ _ _) (sym (e i)) (r.streams i);
}

flips-as : (o : Option Stream) → flipped o ≡ flip_some o
flips-as None = refl
flips-as (Some s) = refl

pub found-mirror : (m : Machine) → Same (mirrored (found m)) (found (mirror_machine m))
found-mirror m i = look-mirror i m.streams ∙ flips-as (look i m.streams)

-- ---- the order of numbers

-- no stream has the number 0, and none will
pub record Positive (c : Core) : Type 0 where
  pub zero : look 0 c.streams ≡ None
  pub mine : 0 < c.next_me
  pub yours : 0 < c.next_you

pub record Ordered (c : Core) : Type 0 where
  pub sound : Sound c.window_me c.window_you c
  pub numbered : Numbered c
  pub positive : Positive c

pub orders : (m : Machine) → m.me.next % 2 ≢ m.you.next % 2 → IsNumbered m → Ordered (core m)
orders m p o = record {
  sound = record { window_me = refl; window_you = refl; offered_me = o.order.offered_me; offered_you = o.order.offered_you };
  numbered = record { parity = p; once = o.order.once; at = o.order.numbered };
  positive = record { zero = o.zero; mine = o.mine; yours = o.yours };
}

pub has-order : (mine yours : ℕ) (m : Machine) → Sound mine yours (core m) → Numbered (core m) → Positive (core m) → IsNumbered m
has-order mine yours m s n z = record {
  order = record { once = n.once; numbered = n.at; offered_me = s.offered_me; offered_you = s.offered_you };
  zero = z.zero;
  mine = z.mine;
  yours = z.yours;
}

-- of a machine only this matters
record Ordering (c : Core) : Type 0 where
  once : NumbersOnce c.streams
  at : (i : ℕ) → HasNumberAt c.next_me c.next_you i (look i c.streams)
  offered_me : IsOfferedList offered_here c.streams c.offered_me
  offered_you : IsOfferedList offered_there c.streams c.offered_you
  positive : Positive c

pub order-same : (m n : Machine) → core n ≡ core m → IsNumbered m → IsNumbered n
order-same m n e o =
    let P : Core → Type 0 = λ c. Ordering c in
    let k : Ordering (core n) = subst P (sym e) (record { once = o.order.once; at = o.order.numbered; offered_me = o.order.offered_me; offered_you = o.order.offered_you; positive = record { zero = o.zero; mine = o.mine; yours = o.yours } }) in
    record { order = record { once = k.once; numbered = k.at; offered_me = k.offered_me; offered_you = k.offered_you }; zero = k.positive.zero; mine = k.positive.mine; yours = k.positive.yours }

pub order-mirror : (m : Machine) → m.me.next % 2 ≢ m.you.next % 2 → IsNumbered m → IsNumbered (mirror_machine m)
order-mirror m p o =
    let k = orders m p o in
    has-order m.you.window m.me.window (mirror_machine m) (sound-mirror m.me.window m.you.window m k.sound) (numbered-mirror m k.numbered)
    (record { zero = look-mirror 0 m.streams ∙ ap flipped o.zero; mine = o.yours; yours = o.mine })

-- ---- a call and what may arrive leave 0 unused

none-change : (i j : ℕ) (f : Stream → Stream) (xs : List (ℕ × Stream)) → look i xs ≡ None → look i (change j f xs) ≡ None
none-change i j f xs e = elim (same_or_not i j) [
  | inl d ↦ rw d (look-change_same j f xs ∙ ap (option_map f) (rw d at e))
  | inr d ↦ look-change_other j i f xs d ∙ e
]

positive-is : (c d : Core) → d ≡ c → Positive c → Positive d
positive-is c d e h = subst Positive (sym e) h

positive-effect : (c : Call) (m : Machine) (r : Reply) (n : Machine) → Effect c m r n → Positive (core m) → Positive (core n)
positive-effect c m r n (Idles h) k = positive-is _ _ (core-unmoved m n h.same) k
positive-effect c m r n (OpensOne bytes h) k =
    let up = k.mine in
    positive-is _ _ (ap core h.now) (record { zero = look-add_other 0 m.me.next _ m.streams (omega arith) ∙ k.zero; mine = omega arith; yours = k.yours })
positive-effect c m r n (AcceptsOne id ids h) k = positive-is _ _ (ap core h.now) (record { zero = none-change 0 id _ m.streams k.zero; mine = k.mine; yours = k.yours })
positive-effect c m r n (TouchesOne id sc s t h) k = positive-is _ _ (ap core h.now) (record { zero = none-change 0 id _ m.streams k.zero; mine = k.mine; yours = k.yours })

pub positive-move : (v : FreeMove) (m : Machine) → Positive (core m) → Positive (core (moved_by v m))
positive-move (OfStream id v) m k =
    split (λ (z : SideState). Positive (core (record m { streams = change id (after_move v) m.streams; me = z }))) (is_reset_arriving v) (record m.me { offered = drop_id id m.me.offered }) m.me
    (λ t. record { zero = none-change 0 id (after_move v) m.streams k.zero; mine = k.mine; yours = k.yours }) (λ f. record { zero = none-change 0 id (after_move v) m.streams k.zero; mine = k.mine; yours = k.yours })
positive-move (SynArrives id counted) m k =
    split (λ (n : Machine). Positive (core n)) (machine_refuses m || counted) _ _
    (λ t. record { zero = none-change 0 id (after_move SynRefused) m.streams k.zero; mine = k.mine; yours = k.yours }) (λ f. record { zero = none-change 0 id (after_move SynOffered) m.streams k.zero; mine = k.mine; yours = k.yours })
positive-move AwayArrives m k = k
positive-move (PingThere number) m k = k
positive-move (PingBack number) m k = k

pub record OrderedAs (mine yours : ℕ) (m : Machine) : Type 0 where
  pub sound : Sound mine yours (core m)
  pub numbered : Numbered (core m)
  pub positive : Positive (core m)

-- what may arrive keeps the order
pub ordered-move : (mine yours : ℕ) (v : FreeMove) (m : Machine) → MayMove v m → OrderedAs mine yours m → OrderedAs mine yours (moved_by v m)
ordered-move mine yours v m a q = record { sound = sound-move mine yours v m a q.sound; numbered = numbered-move v m a q.numbered; positive = positive-move v m q.positive }

pub order-moves : (vs : List FreeMove) (m : Machine) (counted : ℕ) (n : Machine) → m.me.next % 2 ≢ m.you.next % 2 → FreeMoves vs m counted n → IsNumbered m → IsNumbered n
order-moves vs m counted n p k o =
    let was = orders m p o in
    let now = kept-moves (OrderedAs m.me.window m.you.window) (ordered-move m.me.window m.you.window) vs m counted n k (record { sound = was.sound; numbered = was.numbered; positive = was.positive }) in
    has-order m.me.window m.you.window n now.sound now.numbered now.positive

pub order-releases : (m n : Machine) (ids : List ℕ) → m.me.next % 2 ≢ m.you.next % 2 → Releases ids m n → IsNumbered m → IsNumbered n
order-releases m n ids p k o =
    let was = orders m p o in
    let now = kept-releases (OrderedAs m.me.window m.you.window) (ordered-move m.me.window m.you.window) ids m n k (record { sound = was.sound; numbered = was.numbered; positive = was.positive }) in
    has-order m.me.window m.you.window n now.sound now.numbered now.positive

-- a call, and records that go, keep it
pub order-call : (c : Call) (m mid n : Machine) (r : Reply) (ids : List ℕ) → m.me.next % 2 ≢ m.you.next % 2 → Rule c m r mid → Releases ids mid n → IsNumbered m → IsNumbered n
order-call c m mid n r ids p h k o =
    let was = orders m p o in
    let e = effect c m r mid h in
    let now = kept-releases (OrderedAs m.me.window m.you.window) (ordered-move m.me.window m.you.window) ids mid n k (record {
      sound = sound-effect m.me.window m.you.window c m r mid e was.sound;
      numbered = numbered-effect m.me.window m.you.window c m r mid e was.sound was.numbered;
      positive = positive-effect c m r mid e was.positive;
    }) in
    has-order m.me.window m.you.window n now.sound now.numbered now.positive

-- the two sides' numbers are odd and even
pub parts-ways : (x y : Role) (a b : ℕ) → x ≢ y → is_own x a ≡ true → is_own y b ≡ true → a % 2 ≢ b % 2
parts-ways Client Client a b d p q = absurd (d refl)
parts-ways Server Server a b d p q = absurd (d refl)
parts-ways Client Server a b d p q = grind (arith, nat_tests)
parts-ways Server Client a b d p q = grind (arith, nat_tests)

pub parity : (x y : Role) (w : World) (m : Machine) → AgreesAs x y w m → m.me.next % 2 ≢ m.you.next % 2
parity x y w m h = rw (h.a.whole.next, h.b.whole.next) (parts-ways x y w.a.next w.b.next h.roles
    (subst (λ r. is_own r w.a.next ≡ true) h.a.whole.role h.a.within.next.parity) (subst (λ r. is_own r w.b.next ≡ true) h.b.whole.role h.b.within.next.parity))

-- ---- the relation

unfoldable pub mirrors-agree : (x y : Role) (w : World) (m : Machine) → AgreesAs x y w m → AgreesAs y x (world_mirror w) (mirror_machine m)
mirrors-agree x y w m h = record {
  roles = λ e. h.roles (sym e);
  streams = streams_mirror h.streams;
  refines = refines-same (streams_mirror h.streams) (mirrored (found m)) (found (mirror_machine m)) (found-mirror m) (mirrors h.streams (found m) h.refines);
  a = h.b;
  b = h.a;
  ab = h.ba;
  ba = h.ab;
  order = order-mirror m (parity x y w m h) h.order;
}
