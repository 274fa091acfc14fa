-- What may arrive while the bytes are under way, at B and at A.
use Rattle.std.proofs.Common.{◌≡◌, inl, inr, ℕ, ◌+◌, ◌<◌, List, [], ◌∷◌, ◌++◌, take, drop, Bool, true, false, not, Option, None, Some, if◌then◌else◌, refl, sym, ap, ◌∙◌, subst, append_assoc, arith}
use Rattle.ymx_machine.specs.shared.Phases.{Phase, takes, struck, is_unborn, is_lingering}
use Rattle.ymx_machine.specs.shared.Phases.Phase.{Unborn, Offered, Live, WasReset, Refused, Lingering, Gone}
use Rattle.ymx_machine.specs.shared.Lists.{change, drop_id}
use Rattle.ymx_machine.specs.stream.Lanes.{Lane, is_unsaid, lane_arrive, lane_vanish}
use Rattle.ymx_machine.specs.stream.Lanes.Mark.{Unsaid, Said}
use Rattle.ymx_machine.specs.stream.Streams.{Stream, Move, flip, Allowed, after_move}
use Rattle.ymx_machine.specs.stream.Streams.Move.{Arrive, EndArrives, Return, SynOffered, SynRefused, AckArrives, ResetArrives, Released}
use Rattle.ymx_machine.specs.machine.Machines.{Machine, mirror_machine, PingPlace}
use Rattle.ymx_machine.specs.machine.Machines.PingPlace.{Asked, There}
use Rattle.ymx_machine.specs.machine.FreeMoves.{FreeMove, MayMove, moved_by, counted_by, move_is_syn, is_reset_arriving, machine_refuses}
use Rattle.ymx_machine.specs.machine.FreeMoves.FreeMove.{OfStream, SynArrives, AwayArrives, PingThere, PingBack}
use Rattle.ymx_headline.proofs.machine.faces.LaneFaces.{halves}
use Rattle.ymx_joined.specs.Stages.{Numbers, alone, IsBeforeAccept, IsComing, IsRefused, IsComingOrRefused}
use Rattle.ymx_joined.proofs.Machines.{flip-flip, change-one, found-one}

-- ---- a machine of one stream at a stage, as A sees it, and as B does

pub record IsAt (k : Numbers) (id : ℕ) (Stage : Stream → List ℕ → Type 0) (m : Machine) : Type 0 where
  pub stream : Stream
  pub offered : List ℕ
  pub is : m ≡ alone k id stream offered
  pub stage : Stage stream offered

pub record IsAtB (k : Numbers) (id : ℕ) (Stage : Stream → List ℕ → Type 0) (m : Machine) : Type 0 where
  pub stream : Stream
  pub offered : List ℕ
  pub is : m ≡ mirror_machine (alone k id stream offered)
  pub stage : Stage stream offered

-- ---- what a move at B does to the stream, as A sees it

abbrev at_b : Move → Stream → Stream
at_b v s = flip (after_move v (flip s))

stays-true : (b : Bool) → b ≡ true → not (not b) ≡ true
stays-true b e = ap (λ (x : Bool). not (not x)) e

arrives-split : (p : Phase) (n : ℕ) (l : Lane) → p ≡ Offered →
    ((if takes p then lane_arrive n l else lane_vanish n l).here ++ (if takes p then lane_arrive n l else lane_vanish n l).way ≡ l.here ++ l.way)
    × ((if takes p then lane_arrive n l else lane_vanish n l).fin ≡ l.fin)
arrives-split p n l e = rw e (append_assoc l.here (take n l.way) (drop n l.way) ∙ ap (λ (z : List ℕ). l.here ++ z) (halves n l.way), refl)

-- ---- the bytes are coming

pub offered-not_unborn : (id : ℕ) (s : Stream) (offered : List ℕ) → is_unborn s.you ≡ false → IsBeforeAccept id s offered → s.you ≡ Offered
offered-not_unborn id s offered e (inl h) = let k : is_unborn Unborn ≡ false = subst (λ (p : Phase). is_unborn p ≡ false) h.0 e in absurd cc
offered-not_unborn id s offered e (inr h) = h.0

not-lingering : (id : ℕ) (s : Stream) (offered : List ℕ) → s.you ≡ Lingering → IsBeforeAccept id s offered → ⊥
not-lingering id s offered e (inl h) = let k : Unborn ≡ Lingering = sym h.0 ∙ e in absurd cc
not-lingering id s offered e (inr h) = let k : Offered ≡ Lingering = sym h.0 ∙ e in absurd cc

-- a move that leaves alone all of the stream but bytes and marks, of which it keeps what a delivery needs
comes-on : (id : ℕ) (bytes : List ℕ) (s t : Stream) (offered : List ℕ) → t.own ≡ s.own → t.me ≡ s.me → IsBeforeAccept id t offered → t.outbound.here ++ t.outbound.way ≡ bytes → is_unsaid t.outbound.fin ≡ false → t.rst_outbound ≡ s.rst_outbound → t.rst_inbound ≡ s.rst_inbound → IsComing id bytes s offered → IsComing id bytes t offered
comes-on id bytes s t offered own me you split fin out into h = record {
  own = own ∙ h.own;
  me = me ∙ h.me;
  you = you;
  split = split;
  fin = fin;
  rst_outbound = out ∙ h.rst_outbound;
  rst_inbound = into ∙ h.rst_inbound;
}

twice-not : (b : Bool) → not (not b) ≡ b
twice-not true = refl
twice-not false = refl

coming-b : (id : ℕ) (bytes : List ℕ) (v : Move) (s : Stream) (offered : List ℕ) → move_is_syn v ≡ false → Allowed v (flip s) → IsComing id bytes s offered →
    IsComing id bytes (at_b v s) (if is_reset_arriving v then drop_id id offered else offered)
coming-b id bytes (Arrive n) s offered y a h =
    let k = arrives-split s.you n s.outbound (offered-not_unborn id s offered a.0 h.you) in
    comes-on id bytes s _ offered (twice-not s.own) refl h.you (k.0 ∙ h.split) (ap is_unsaid k.1 ∙ h.fin) refl refl h
coming-b id bytes EndArrives s offered y a h = comes-on id bytes s _ offered (twice-not s.own) refl h.you h.split refl refl refl h
coming-b id bytes (Return n) s offered y a h = comes-on id bytes s _ offered (twice-not s.own) refl h.you h.split h.fin refl refl h
coming-b id bytes SynOffered s offered y a h = absurd cc
coming-b id bytes SynRefused s offered y a h = absurd cc
coming-b id bytes AckArrives s offered y a h = let k : not true ≡ true = subst (λ (b : Bool). not b ≡ true) h.own a.0 in absurd cc
coming-b id bytes ResetArrives s offered y a h = let k : Unsaid ≡ Said = sym h.rst_outbound ∙ a.0 in absurd cc
coming-b id bytes Released s offered y a h = absurd (not-lingering id s offered a h.you)

coming-a : (id : ℕ) (bytes : List ℕ) (v : Move) (s : Stream) (offered : List ℕ) → move_is_syn v ≡ false → Allowed v s → IsComing id bytes s offered →
    IsComing id bytes (after_move v s) offered
coming-a id bytes (Arrive n) s offered y a h = comes-on id bytes s _ offered refl refl h.you h.split h.fin refl refl h
coming-a id bytes EndArrives s offered y a h = comes-on id bytes s _ offered refl refl h.you h.split h.fin refl refl h
coming-a id bytes (Return n) s offered y a h = comes-on id bytes s _ offered refl refl h.you h.split h.fin refl refl h
coming-a id bytes SynOffered s offered y a h = absurd cc
coming-a id bytes SynRefused s offered y a h = absurd cc
coming-a id bytes AckArrives s offered y a h = comes-on id bytes s _ offered refl refl h.you h.split h.fin refl refl h
coming-a id bytes ResetArrives s offered y a h = let k : Unsaid ≡ Said = sym h.rst_inbound ∙ a.0 in absurd cc
coming-a id bytes Released s offered y a h = let k : Live ≡ Lingering = sym h.me ∙ a in absurd cc

-- ---- B has refused the stream

refused-b : (id no_memory : ℕ) (v : Move) (s : Stream) (offered : List ℕ) → move_is_syn v ≡ false → Allowed v (flip s) → IsRefused no_memory s offered →
    IsRefused no_memory (at_b v s) (if is_reset_arriving v then drop_id id offered else offered)
refused-b id no_memory (Arrive n) s offered y a h = record { own = stays-true s.own h.own; you = h.you; born = h.born; stays = h.stays; offered_none = h.offered_none; counts = h.counts }
refused-b id no_memory EndArrives s offered y a h = record { own = stays-true s.own h.own; you = h.you; born = h.born; stays = h.stays; offered_none = h.offered_none; counts = h.counts }
refused-b id no_memory (Return n) s offered y a h = record { own = stays-true s.own h.own; you = h.you; born = h.born; stays = h.stays; offered_none = h.offered_none; counts = h.counts }
refused-b id no_memory SynOffered s offered y a h = absurd cc
refused-b id no_memory SynRefused s offered y a h = absurd cc
refused-b id no_memory AckArrives s offered y a h = record { own = stays-true s.own h.own; you = h.you; born = h.born; stays = h.stays; offered_none = h.offered_none; counts = h.counts }
refused-b id no_memory ResetArrives s offered y a h = record {
  own = stays-true s.own h.own;
  you = ap struck h.you;
  born = h.born;
  stays = h.stays;
  offered_none = ap (drop_id id) h.offered_none;
  counts = h.counts;
}
refused-b id no_memory Released s offered y a h = let k : Refused ≡ Lingering = sym h.you ∙ a in absurd cc

struck-stays : (p : Phase) → is_unborn p ≡ false → is_lingering p ≡ false → (is_unborn (struck p) ≡ false) × (is_lingering (struck p) ≡ false)
struck-stays Unborn e f = absurd cc
struck-stays Offered e f = (refl, refl)
struck-stays Live e f = (refl, refl)
struck-stays WasReset e f = (refl, refl)
struck-stays Refused e f = (refl, refl)
struck-stays Lingering e f = absurd cc
struck-stays Gone e f = (refl, refl)

refused-a : (no_memory : ℕ) (v : Move) (s : Stream) (offered : List ℕ) → move_is_syn v ≡ false → Allowed v s → IsRefused no_memory s offered → IsRefused no_memory (after_move v s) offered
refused-a no_memory (Arrive n) s offered y a h = record { own = h.own; you = h.you; born = h.born; stays = h.stays; offered_none = h.offered_none; counts = h.counts }
refused-a no_memory EndArrives s offered y a h = record { own = h.own; you = h.you; born = h.born; stays = h.stays; offered_none = h.offered_none; counts = h.counts }
refused-a no_memory (Return n) s offered y a h = record { own = h.own; you = h.you; born = h.born; stays = h.stays; offered_none = h.offered_none; counts = h.counts }
refused-a no_memory SynOffered s offered y a h = absurd cc
refused-a no_memory SynRefused s offered y a h = absurd cc
refused-a no_memory AckArrives s offered y a h = record { own = h.own; you = h.you; born = h.born; stays = h.stays; offered_none = h.offered_none; counts = h.counts }
refused-a no_memory ResetArrives s offered y a h =
    let k = struck-stays s.me h.born h.stays in record { own = h.own; you = h.you; born = k.0; stays = k.1; offered_none = h.offered_none; counts = h.counts }
refused-a no_memory Released s offered y a h = let k : is_lingering Lingering ≡ false = subst (λ (p : Phase). is_lingering p ≡ false) a h.stays in absurd cc

-- ---- under way, either way

-- the refusal counts as long as the count isn't 0
pub still-counts : (id before now : ℕ) (bytes : List ℕ) (s : Stream) (offered : List ℕ) → (0 < before → 0 < now) → IsComingOrRefused before id bytes s offered → IsComingOrRefused now id bytes s offered
still-counts id before now bytes s offered f (inl h) = inl h
still-counts id before now bytes s offered f (inr h) =
    inr (record { own = h.own; you = h.you; born = h.born; stays = h.stays; offered_none = h.offered_none; counts = f h.counts })

way-b : (id no_memory : ℕ) (bytes : List ℕ) (v : Move) (s : Stream) (offered : List ℕ) → move_is_syn v ≡ false → Allowed v (flip s) → IsComingOrRefused no_memory id bytes s offered →
    IsComingOrRefused no_memory id bytes (at_b v s) (if is_reset_arriving v then drop_id id offered else offered)
way-b id no_memory bytes v s offered y a (inl h) = inl (coming-b id bytes v s offered y a h)
way-b id no_memory bytes v s offered y a (inr h) = inr (refused-b id no_memory v s offered y a h)

way-a : (id no_memory : ℕ) (bytes : List ℕ) (v : Move) (s : Stream) (offered : List ℕ) → move_is_syn v ≡ false → Allowed v s → IsComingOrRefused no_memory id bytes s offered →
    IsComingOrRefused no_memory id bytes (after_move v s) offered
way-a id no_memory bytes v s offered y a (inl h) = inl (coming-a id bytes v s offered y a h)
way-a id no_memory bytes v s offered y a (inr h) = inr (refused-a no_memory v s offered y a h)

-- ---- the machine after a move

moved-b : (k : Numbers) (id : ℕ) (f : Stream → Stream) (reset : Bool) (s : Stream) (offered : List ℕ) →
    (let m = mirror_machine (alone k id s offered) in
    record m { streams = change id f m.streams; me = if reset then record m.me { offered = drop_id id m.me.offered } else m.me }
    ≡ mirror_machine (alone k id (flip (f (flip s))) (if reset then drop_id id offered else offered)))
moved-b k id f true s offered = rw (change-one id f (flip s), flip-flip (f (flip s))) refl
moved-b k id f false s offered = rw (change-one id f (flip s), flip-flip (f (flip s))) refl

moved-a : (k : Numbers) (id : ℕ) (f : Stream → Stream) (reset : Bool) (s : Stream) (offered : List ℕ) →
    (let m = alone k id s offered in
    record m { streams = change id f m.streams; me = if reset then record m.me { offered = drop_id id m.me.offered } else m.me }
    ≡ alone k id (f s) offered)
moved-a k id f true s offered = rw (change-one id f s) refl
moved-a k id f false s offered = rw (change-one id f s) refl

-- ---- a stream begins at B

-- nothing but memory can lack
refuses-none : (k : Numbers) (id : ℕ) (s : Stream) (offered : List ℕ) → s.you ≡ Unborn → offered ≡ [] → machine_refuses (mirror_machine (alone k id s offered)) ≡ false
refuses-none k id s offered e f = rw (e, f) refl

-- it is refused where the refusal counts, that is for lack of memory
begin-b : (k : Numbers) (id no_memory : ℕ) (bytes : List ℕ) (counted : Bool) (s : Stream) (offered : List ℕ) → s.you ≡ Unborn → offered ≡ [] → IsComing id bytes s offered →
    (let m = mirror_machine (alone k id s offered) in
    IsAtB k id (IsComingOrRefused (no_memory + counted_by (SynArrives id counted)) id bytes) (
    if counted then record m { streams = change id (after_move SynRefused) m.streams }
    else record m { streams = change id (after_move SynOffered) m.streams; me = record m.me { offered = m.me.offered ++ id ∷ [] } }
    ))
begin-b k id no_memory bytes true s offered e f h = record {
  stream = at_b SynRefused s;
  offered = offered;
  is = rw (change-one id (after_move SynRefused) (flip s), flip-flip (after_move SynRefused (flip s))) refl;
  stage = inr (record { own = stays-true s.own h.own; you = refl; born = ap is_unborn h.me; stays = ap is_lingering h.me; offered_none = f; counts = omega arith });
}
begin-b k id no_memory bytes false s offered e f h = record {
  stream = at_b SynOffered s;
  offered = offered ++ id ∷ [];
  is = rw (change-one id (after_move SynOffered) (flip s), flip-flip (after_move SynOffered (flip s))) refl;
  stage = inl (record {
    own = stays-true s.own h.own;
    me = h.me;
    you = inr (refl, ap (λ (ids : List ℕ). ids ++ id ∷ []) f);
    split = h.split;
    fin = h.fin;
    rst_outbound = h.rst_outbound;
    rst_inbound = h.rst_inbound;
  });
}

unborn-none : (id : ℕ) (s : Stream) (offered : List ℕ) → s.you ≡ Unborn → IsBeforeAccept id s offered → offered ≡ []
unborn-none id s offered e (inl h) = h.1
unborn-none id s offered e (inr h) = let k : Offered ≡ Unborn = sym h.0 ∙ e in absurd cc

syn-b : (k : Numbers) (id no_memory : ℕ) (bytes : List ℕ) (counted : Bool) (s : Stream) (offered : List ℕ) → s.you ≡ Unborn → IsComingOrRefused no_memory id bytes s offered →
    IsAtB k id (IsComingOrRefused (no_memory + counted_by (SynArrives id counted)) id bytes) (moved_by (SynArrives id counted) (mirror_machine (alone k id s offered)))
syn-b k id no_memory bytes counted s offered e (inl h) =
    let none = unborn-none id s offered e h.you in
    rw (refuses-none k id s offered e none) (begin-b k id no_memory bytes counted s offered e none h)
syn-b k id no_memory bytes counted s offered e (inr h) = let q : Refused ≡ Unborn = sym h.you ∙ e in absurd cc

-- ---- every move

flip-you : (s t : Stream) (p : Phase) → t ≡ flip s → t.me ≡ p → s.you ≡ p
flip-you s t p e h = ap (λ (x : Stream). x.me) (sym e) ∙ h

pub move-b : (k : Numbers) (id no_memory : ℕ) (bytes : List ℕ) (v : FreeMove) (s : Stream) (offered : List ℕ) → MayMove v (mirror_machine (alone k id s offered)) →
    IsComingOrRefused no_memory id bytes s offered → IsAtB k id (IsComingOrRefused (no_memory + counted_by v) id bytes) (moved_by v (mirror_machine (alone k id s offered)))
move-b k id no_memory bytes (OfStream i v) s offered a h =
    let f = found-one i id (flip s) a.2.0 a.2.1 in
    let may : Allowed v (flip s) = subst (Allowed v) f.1 a.2.2 in
    let none : no_memory + 0 ≡ no_memory = omega arith in
    rw none (subst (λ (j : ℕ). IsAtB k id (IsComingOrRefused no_memory id bytes) (moved_by (OfStream j v) (mirror_machine (alone k id s offered)))) (sym f.0) (record {
      stream = at_b v s;
      offered = if is_reset_arriving v then drop_id id offered else offered;
      is = moved-b k id (after_move v) (is_reset_arriving v) s offered;
      stage = way-b id no_memory bytes v s offered a.1 may h;
    }))
move-b k id no_memory bytes (SynArrives i counted) s offered a h =
    let f = found-one i id (flip s) a.1.0 a.1.1 in
    subst (λ (j : ℕ). IsAtB k id (IsComingOrRefused (no_memory + counted_by (SynArrives j counted)) id bytes) (moved_by (SynArrives j counted) (mirror_machine (alone k id s offered)))) (sym f.0)
    (syn-b k id no_memory bytes counted s offered (flip-you s a.1.0 Unborn f.1 a.1.2) h)
move-b k id no_memory bytes AwayArrives s offered a h = let q : Unsaid ≡ Said = a.1 in absurd cc
move-b k id no_memory bytes (PingThere number) s offered a h = let q : (let none : Option PingPlace = None in none ≡ Some Asked) = a.1 in absurd cc
move-b k id no_memory bytes (PingBack number) s offered a h = let q : (let none : Option PingPlace = None in none ≡ Some There) = a.1 in absurd cc

born-a : (id no_memory : ℕ) (bytes : List ℕ) (s : Stream) (offered : List ℕ) → s.me ≡ Unborn → IsComingOrRefused no_memory id bytes s offered → ⊥
born-a id no_memory bytes s offered e (inl h) = let q : Live ≡ Unborn = sym h.me ∙ e in absurd cc
born-a id no_memory bytes s offered e (inr h) = let q : is_unborn Unborn ≡ false = subst (λ (p : Phase). is_unborn p ≡ false) e h.born in absurd cc

pub move-a : (k : Numbers) (id no_memory : ℕ) (bytes : List ℕ) (v : FreeMove) (s : Stream) (offered : List ℕ) → MayMove v (alone k id s offered) → IsComingOrRefused no_memory id bytes s offered →
    IsAt k id (IsComingOrRefused (no_memory + counted_by v) id bytes) (moved_by v (alone k id s offered))
move-a k id no_memory bytes (OfStream i v) s offered a h =
    let f = found-one i id s a.2.0 a.2.1 in
    let may : Allowed v s = subst (Allowed v) f.1 a.2.2 in
    let none : no_memory + 0 ≡ no_memory = omega arith in
    rw none (subst (λ (j : ℕ). IsAt k id (IsComingOrRefused no_memory id bytes) (moved_by (OfStream j v) (alone k id s offered))) (sym f.0) (record {
      stream = after_move v s;
      offered = offered;
      is = moved-a k id (after_move v) (is_reset_arriving v) s offered;
      stage = way-a id no_memory bytes v s offered a.1 may h;
    }))
move-a k id no_memory bytes (SynArrives i counted) s offered a h =
    let f = found-one i id s a.1.0 a.1.1 in absurd (born-a id no_memory bytes s offered (ap (λ (x : Stream). x.me) (sym f.1) ∙ a.1.2) h)
move-a k id no_memory bytes AwayArrives s offered a h = let q : Unsaid ≡ Said = a.1 in absurd cc
move-a k id no_memory bytes (PingThere number) s offered a h = let q : (let none : Option PingPlace = None in none ≡ Some Asked) = a.1 in absurd cc
move-a k id no_memory bytes (PingBack number) s offered a h = let q : (let none : Option PingPlace = None in none ≡ Some There) = a.1 in absurd cc
