-- What comes of a stream is moves of the machine.
use Rattle.std.proofs.Common.{◌≡◌, ℕ, ◌+◌, List, [], ◌∷◌, ◌++◌, map, take, Bool, true, false, ◌&&◌, ◌||◌, if◌then◌else◌, None, Some, refl, sym, ap, subst, ◌∙◌, inl, inr, arith}
use Rattle.std.proofs.lemmas.Bool.Decides.{nat_tests}
use Rattle.ymx_machine.specs.shared.Phases.{Phase, struck, is_offered}
use Rattle.ymx_machine.specs.stream.Streams.{Stream, Move, after_move, Moves}
use Rattle.ymx_machine.specs.stream.Streams.Move.{Arrive, EndArrives, Return, SynOffered, SynRefused, AckArrives, ResetArrives, Released}
use Rattle.ymx_machine.specs.shared.Phases.Phase.{Lingering}
use Rattle.ymx_model.specs.session.Records.{End, receive_data}
use Rattle.ymx_model.specs.session.FramesDue.{next_kind}
use Rattle.ymx_model.specs.session.Parts.{Part}
use Rattle.ymx_model.specs.session.Parts.Part.{Syn, Ack, Data, Credit, Fin, Rst}
use Rattle.ymx_machine.specs.shared.Lists.{look, change, drop_id}
use Rattle.ymx_machine.specs.machine.Machines.{Machine, hears}
use Rattle.ymx_machine.specs.machine.FreeMoves.{FreeMove, FreeMoves, moved_by, counted_by, move_is_syn as is_syn_move, is_reset_arriving, machine_refuses}
use Rattle.ymx_machine.specs.machine.FreeMoves.FreeMove.{OfStream, SynArrives}
use Rattle.ymx_headline.specs.stream.Flight.{load, part_is_syn, part_is_rst}
use Rattle.ymx_headline.specs.stream.Arrivals.{comes_to, MovesOf}
use Rattle.ymx_headline.proofs.stream.Faults.{BreaksNothing}
use Rattle.ymx_headline.specs.stream.Worlds.{StreamWorld as Streams, Streams as Found, AreOne, Refines, parts_of_stream, tagged}
use Rattle.ymx_headline.proofs.stream.Happenings.{Changes, Same, Delivers, Can, came, came_in, put, put_end}
use Rattle.ymx_headline.specs.stream.Answers.{end_released}
use Rattle.ymx_headline.proofs.stream.Happenings.Act.{Comes, ComesIn, Releases as ActReleases}
use Rattle.ymx_headline.proofs.stream.Worlds.{step, put-same, put-other}
use Rattle.ymx_headline.proofs.stream.OneStream.{one-shows}
use Rattle.ymx_law_session.specs.Limits.{is_listed}
use Rattle.ymx_machine.proofs.Tests.{same_or_not}
use Rattle.ymx_headline.proofs.records.Ends.{all_come}
use Rattle.ymx_headline.proofs.machine.order.Maps.{look-change, look-change_other}
use Rattle.ymx_headline.specs.Agrees.{found}
use Rattle.ymx_headline.proofs.relation.Mirrors.{refines-same}

-- ---- moves of one stream, as free moves

moved-is : (id : ℕ) (v : Move) (m : Machine) →
    moved_by (OfStream id v) m ≡ record m { streams = change id (after_move v) m.streams; me = record m.me { offered = if is_reset_arriving v then drop_id id m.me.offered else m.me.offered } }
moved-is id (Arrive n) m = refl
moved-is id EndArrives m = refl
moved-is id (Return n) m = refl
moved-is id SynOffered m = refl
moved-is id SynRefused m = refl
moved-is id AckArrives m = refl
moved-is id ResetArrives m = refl
moved-is id Released m = refl

-- the offered list after these moves
abbrev dropped : ℕ → List Move → List ℕ → List ℕ
dropped id [] offered = offered
dropped id (v ∷ vs) offered = dropped id vs (if is_reset_arriving v then drop_id id offered else offered)

abbrev NoSyns : List Move → Type 0
NoSyns [] = Unit {0}
NoSyns (v ∷ vs) = (is_syn_move v ≡ false) × NoSyns vs

record StreamMoves (id : ℕ) (vs : List Move) (s t : Stream) (m : Machine) : Type 0 where
  streams : List (ℕ × Stream)
  did : FreeMoves (map (OfStream id) vs) m 0 (record m { streams = streams; me = record m.me { offered = dropped id vs m.me.offered } })
  changed : Changes id s t (found m) (found (record m { streams = streams }))

or-true : (a b : Bool) → b ≡ true → (a || b) ≡ true
or-true true b e = refl
or-true false b e = e

stream-moves : (id : ℕ) (vs : List Move) (s t : Stream) (m : Machine) → hears m ≡ true → NoSyns vs → look id m.streams ≡ Some s → Moves vs s t → StreamMoves id vs s t m
stream-moves id [] s t m h n l p = record { streams = m.streams; did = (refl, refl); changed = record { here = l; now = l ∙ ap Some (sym p); others = λ i d. refl } }
stream-moves id (v ∷ vs) s t m h n l p =
    let next : Machine = record m { streams = change id (after_move v) m.streams; me = record m.me { offered = if is_reset_arriving v then drop_id id m.me.offered else m.me.offered } } in
    let k = stream-moves id vs (after_move v s) t next h n.1 (look-change id (after_move v) m.streams s l) p.1 in
    let goal : Machine = record m { streams = k.streams; me = record m.me { offered = dropped id (v ∷ vs) m.me.offered } } in
    record {
      streams = k.streams;
      did = ((or-true _ _ h, n.0, (s, l, p.0)), (0, refl, subst (λ z. FreeMoves (map (OfStream id) vs) z 0 goal) (sym (moved-is id v m)) k.did));
      changed = record { here = l; now = k.changed.now; others = λ i d. k.changed.others i d ∙ look-change_other i id (after_move v) m.streams d };
    }

pub moves-join : (a b : List FreeMove) (m n k : Machine) (c d : ℕ) → FreeMoves a m c n → FreeMoves b n d k → FreeMoves (a ++ b) m (c + d) k
moves-join [] b m n k c d p q =
    let e : d ≡ c + d = (let z = p.1 in omega arith) in
    subst (λ z. FreeMoves b m z k) e (subst (λ z. FreeMoves b z d k) p.0 q)
moves-join (v ∷ a) b m n k c d p q =
    let e : c + d ≡ counted_by v + (p.1.0 + d) = (let z = p.1.1 in omega arith) in
    (p.0, (p.1.0 + d, e, moves-join a b (moved_by v m) n k p.1.0 d p.1.2 q))

-- ---- the law's step, where the oldest part comes

pub record LawStep (refuse : Bool) (id : ℕ) (f : Part) (more : List (ℕ × Part)) (g : Streams) (m : Machine) : Type 0 where
  pub was : Stream
  pub now : Stream
  pub there : look id m.streams ≡ Some was
  pub breaks : BreaksNothing g.b.window was.own f (parts_of_stream id more) (g.a.ends id)
  pub moves : List Move
  pub are : MovesOf refuse f moves
  pub went : Moves moves was now
  pub later : Found
  pub changes : Changes id was now (found m) later
  pub refines : Refines (record g { a = put_end id (comes_to refuse g.a.window f (g.a.ends id)) g.a; ba = more }) later

pub law-step : (refuse : Bool) (id : ℕ) (f : Part) (more : List (ℕ × Part)) (g : Streams) (m : Machine) → g.a.over ≡ false → g.ba_stopped ≡ false → g.ba ≡ (id, f) ∷ more → Refines g (found m) → LawStep refuse id f more g m
law-step refuse id f more g m over runs e r =
    let k = step (Comes refuse) g (found m) (over, runs) r in
    let d : Delivers refuse (λ x. x) ((id, f) ∷ more) g (found m) k.0 = subst (λ l. Delivers refuse (λ x. x) l g (found m) k.0) e k.1 in
    record {
      was = d.0;
      now = d.1;
      there = d.4.here;
      breaks = d.2;
      moves = d.3.0;
      are = d.3.1;
      went = d.3.2;
      later = k.0;
      changes = d.4;
      refines = subst (λ l. Refines (came refuse l g) k.0) e k.2;
    }

pub changes-same : (j : ℕ) (s t : Stream) (m n k : Found) → Changes j s t m n → Changes j s t m k → Same n k
changes-same j s t m n k p q i = elim (same_or_not i j) [
  | inl e ↦ rw e (q.now ∙ sym p.now)
  | inr d ↦ q.others i d ∙ sym (p.others i d)
]

-- ends that are the same by number
pub refines-ends : (g : Streams) (ends : ℕ → End) (m : Found) → ((i : ℕ) → ends i ≡ g.a.ends i) → Refines g m → Refines (record g { a = record g.a { ends = ends } }) m
refines-ends g ends m e r = record {
  a_window = r.a_window;
  b_window = r.b_window;
  streams = λ i. subst (λ (z : End). AreOne g.a.over g.b.over g.a.window g.b.window z (g.b.ends i) (parts_of_stream i g.ab) (parts_of_stream i g.ba) (m i)) (sym (e i)) (r.streams i);
}

moves-own : (vs : List Move) (s t : Stream) → Moves vs s t → t.own ≡ s.own
moves-own [] s t p = ap (λ (z : Stream). z.own) p
moves-own (v ∷ vs) s t p = moves-own vs (after_move v s) t p.1 ∙ of_move v
  where
    of_move : (v : Move) → (after_move v s).own ≡ s.own
    of_move (Arrive n) = refl
    of_move EndArrives = refl
    of_move (Return n) = refl
    of_move SynOffered = refl
    of_move SynRefused = refl
    of_move AckArrives = refl
    of_move ResetArrives = refl
    of_move Released = refl

-- ---- a part that comes whole, and isn't a SYN

no-syns : (f : Part) (vs : List Move) → part_is_syn f ≡ false → MovesOf false f vs → NoSyns vs
no-syns (Syn d) vs n p = cc
no-syns (Ack d) vs n (inl e) = subst NoSyns (sym e) tt
no-syns (Ack d) vs n (inr (inl e)) = subst NoSyns (sym e) (refl, tt)
no-syns (Ack d) vs n (inr (inr e)) = subst NoSyns (sym e) (refl, (refl, tt))
no-syns (Data b) vs n (inl e) = subst NoSyns (sym e) tt
no-syns (Data b) vs n (inr e) = subst NoSyns (sym e) (refl, tt)
no-syns (Credit d) vs n (inl e) = subst NoSyns (sym e) tt
no-syns (Credit d) vs n (inr e) = subst NoSyns (sym e) (refl, tt)
no-syns Fin vs n (inl e) = subst NoSyns (sym e) tt
no-syns Fin vs n (inr e) = subst NoSyns (sym e) (refl, tt)
no-syns Rst vs n (inl e) = subst NoSyns (sym e) tt
no-syns Rst vs n (inr e) = subst NoSyns (sym e) (refl, tt)

-- nor a reset: the offered list stays
keeps-offered : (id : ℕ) (f : Part) (vs : List Move) (offered : List ℕ) → part_is_syn f ≡ false → part_is_rst f ≡ false → MovesOf false f vs → dropped id vs offered ≡ offered
keeps-offered id (Syn d) vs o n m p = cc
keeps-offered id (Ack d) vs o n m (inl e) = rw e refl
keeps-offered id (Ack d) vs o n m (inr (inl e)) = rw e refl
keeps-offered id (Ack d) vs o n m (inr (inr e)) = rw e refl
keeps-offered id (Data b) vs o n m (inl e) = rw e refl
keeps-offered id (Data b) vs o n m (inr e) = rw e refl
keeps-offered id (Credit d) vs o n m (inl e) = rw e refl
keeps-offered id (Credit d) vs o n m (inr e) = rw e refl
keeps-offered id Fin vs o n m (inl e) = rw e refl
keeps-offered id Fin vs o n m (inr e) = rw e refl
keeps-offered id Rst vs o n m p = cc

-- the streams that the machine then has, and the moves that lead there
pub record Arrives (next : Streams) (m : Machine) (counted : ℕ) (offered : List ℕ) : Type 0 where
  pub streams : List (ℕ × Stream)
  pub moves : List FreeMove
  pub did : FreeMoves moves m counted (record m { streams = streams; me = record m.me { offered = offered } })
  pub refines : Refines next (found (record m { streams = streams }))

abbrev pub part_came : ℕ → Part → List (ℕ × Part) → Streams → Streams
part_came id f more g = record g { a = put_end id (comes_to false g.a.window f (g.a.ends id)) g.a; ba = more }

record PlainComes (id : ℕ) (f : Part) (more : List (ℕ × Part)) (g : Streams) (m : Machine) (now : Stream) : Type 0 where
  come : Arrives (part_came id f more g) m 0 m.me.offered
  at : look id come.streams ≡ Some now

plain-comes : (id : ℕ) (f : Part) (more : List (ℕ × Part)) (g : Streams) (m : Machine) → hears m ≡ true → part_is_syn f ≡ false → part_is_rst f ≡ false → (k : LawStep false id f more g m) → PlainComes id f more g m k.now
plain-comes id f more g m h n r k =
    let s = stream-moves id k.moves k.was k.now m h (no-syns f k.moves n k.are) k.there k.went in
    let P : List ℕ → Type 0 = λ o. FreeMoves (map (OfStream id) k.moves) m 0 (record m { streams = s.streams; me = record m.me { offered = o } }) in
    record {
      come = record {
        streams = s.streams;
        moves = map (OfStream id) k.moves;
        did = subst P (keeps-offered id f k.moves m.me.offered n r k.are) s.did;
        refines = refines-same _ k.later _ (changes-same id k.was k.now (found m) k.later _ k.changes s.changed) k.refines;
      };
      at = s.changed.now;
    }

-- ---- parts that come one after the other

abbrev pub Plain : List Part → Type 0
Plain [] = Unit {0}
Plain (f ∷ fs) = (part_is_syn f ≡ false) × (part_is_rst f ≡ false) × Plain fs

-- none of them breaks a rule
abbrev pub AllBreakNothing : (theirs window : ℕ) (own : Bool) → List Part → End → Type 0
AllBreakNothing theirs window own [] e = Unit {0}
AllBreakNothing theirs window own (f ∷ fs) e = BreaksNothing theirs own f [] e × AllBreakNothing theirs window own fs (comes_to false window f e)

any-rest : (theirs : ℕ) (own : Bool) (f : Part) (fs : List Part) (e : End) → part_is_syn f ≡ false → BreaksNothing theirs own f fs e → BreaksNothing theirs own f [] e
any-rest theirs own (Syn d) fs e n b = cc
any-rest theirs own (Ack d) fs e n b = b
any-rest theirs own (Data b) fs e n h = h
any-rest theirs own (Credit d) fs e n b = b
any-rest theirs own Fin fs e n b = b
any-rest theirs own Rst fs e n b = b

abbrev pub IsOpener : Bool → ℕ → Machine → Type 0
IsOpener own id m = (s : Stream) → look id m.streams ≡ Some s → s.own ≡ own

abbrev pub parts_came : ℕ → List Part → List (ℕ × Part) → Streams → Streams
parts_came id fs more g = record g { a = put_end id (all_come false g.a.window fs (g.a.ends id)) g.a; ba = more }

pub record AllCome (own : Bool) (id : ℕ) (fs : List Part) (more : List (ℕ × Part)) (g : Streams) (m : Machine) : Type 0 where
  pub come : Arrives (parts_came id fs more g) m 0 m.me.offered
  pub break : IsOpener own id m → AllBreakNothing g.b.window g.a.window own fs (g.a.ends id)

some-one : {X : Type 0} (a b : X) → Some a ≡ Some b → a ≡ b
some-one a b e = cc

pub parts-come : (own : Bool) (id : ℕ) (fs : List Part) (more : List (ℕ × Part)) (g : Streams) (m : Machine) → hears m ≡ true → Plain fs → g.a.over ≡ false → g.ba_stopped ≡ false → g.ba ≡ tagged id fs ++ more → Refines g (found m) →
    AllCome own id fs more g m
parts-come own id [] more g m h n over runs e r = record {
  come = record {
    streams = m.streams;
    moves = [];
    did = (refl, refl);
    refines = (let P : List (ℕ × Part) → Type 0 = λ l. Refines (record g { a = put_end id (g.a.ends id) g.a; ba = l }) (found m) in
        subst P e (refines-ends g (put id (g.a.ends id) g.a.ends) (found m) (λ i. stays i) r));
  };
  break = λ o. tt;
}
  where
    stays : (i : ℕ) → put id (g.a.ends id) g.a.ends i ≡ g.a.ends i
    stays i = elim (same_or_not i id) [
      | inl q ↦ rw q (put-same id (g.a.ends id) g.a.ends)
      | inr d ↦ put-other i id (g.a.ends id) g.a.ends d
    ]
parts-come own id (f ∷ fs) more g m h n over runs e r =
    let k = law-step false id f (tagged id fs ++ more) g m over runs e r in
    let one = plain-comes id f (tagged id fs ++ more) g m h n.0 n.1 k in
    let first = one.come in
    let g1 = part_came id f (tagged id fs ++ more) g in
    let m1 : Machine = record m { streams = first.streams } in
    let rest = parts-come own id fs more g1 m1 h n.2 over runs refl first.refines in
    let e1 = comes_to false g.a.window f (g.a.ends id) in
    let here : put id e1 g.a.ends id ≡ e1 = put-same id e1 g.a.ends in
    let last = all_come false g.a.window fs e1 in
    record {
      come = record {
        streams = rest.come.streams;
        moves = first.moves ++ rest.come.moves;
        did = moves-join first.moves rest.come.moves m m1 _ 0 0 first.did rest.come.did;
        refines = refines-ends (parts_came id fs more g1) (put id last g.a.ends) _ (λ i. elim (same_or_not i id) [
          | inl q ↦ rw q (put-same id last g.a.ends ∙ sym (put-same id (all_come false g.a.window fs (put id e1 g.a.ends id)) (put id e1 g.a.ends) ∙ ap (all_come false g.a.window fs) here))
          | inr d ↦ put-other i id last g.a.ends d ∙ sym (put-other i id (all_come false g.a.window fs (put id e1 g.a.ends id)) (put id e1 g.a.ends) d ∙ put-other i id e1 g.a.ends d)
        ]) rest.come.refines;
      };
      break = λ o. (
        subst (λ b. BreaksNothing g.b.window b f [] (g.a.ends id)) (o k.was k.there) (any-rest g.b.window k.was.own f (parts_of_stream id (tagged id fs ++ more)) (g.a.ends id) n.0 k.breaks),
        subst (AllBreakNothing g.b.window g.a.window own fs) here (rest.break (λ s l. later-own k s (some-one s k.now (sym l ∙ one.at)) o)),
      );
    }
  where
    later-own : (k : LawStep false id f (tagged id fs ++ more) g m) (s : Stream) → s ≡ k.now → IsOpener own id m → s.own ≡ own
    later-own k s q o = ap (λ (z : Stream). z.own) q ∙ (moves-own k.moves k.was k.now k.went ∙ o k.was k.there)

-- ---- a byte of a payload, after which more comes

abbrev pub byte_came : (id b : ℕ) → List ℕ → List (ℕ × Part) → Streams → Streams
byte_came id b tail more g = record g { a = put_end id (receive_data (b ∷ []) (g.a.ends id)) g.a; ba = (id, Data tail) ∷ more }

pub byte-comes : (id b : ℕ) (tail : List ℕ) (more : List (ℕ × Part)) (g : Streams) (m : Machine) → hears m ≡ true → g.a.over ≡ false → g.ba_stopped ≡ false → g.ba ≡ (id, Data (b ∷ tail)) ∷ more → Refines g (found m) →
    Arrives (byte_came id b tail more g) m 0 m.me.offered
byte-comes id b tail more g m h over runs e r =
    let k = step (ComesIn 1) g (found m) (over, runs, rw e refl) r in
    let d : Delivers false (λ x. Data (take 1 (load x))) ((id, Data (b ∷ tail)) ∷ more) g (found m) k.0 = subst (λ l. Delivers false (λ x. Data (take 1 (load x))) l g (found m) k.0) e k.1 in
    let s = stream-moves id d.3.0 d.0 d.1 m h (no-syns (Data (b ∷ [])) d.3.0 refl d.3.1) d.4.here d.3.2 in
    let P : List ℕ → Type 0 = λ o. FreeMoves (map (OfStream id) d.3.0) m 0 (record m { streams = s.streams; me = record m.me { offered = o } }) in
    record {
      streams = s.streams;
      moves = map (OfStream id) d.3.0;
      did = subst P (keeps-offered id (Data (b ∷ [])) d.3.0 m.me.offered refl refl d.3.1) s.did;
      refines = refines-same (byte_came id b tail more g) k.0 (found (record m { streams = s.streams })) (changes-same id d.0 d.1 (found m) k.0 (found (record m { streams = s.streams })) d.4 s.changed) (subst (λ l. Refines (came_in 1 l g) k.0) e k.2);
    }

-- ---- a reset

pub drop-none : (id : ℕ) (ids : List ℕ) → is_listed id ids ≡ false → drop_id id ids ≡ ids
drop-none id [] e = refl
drop-none id (x ∷ ids) e = let h = drop-none id ids in grind (arith, nat_tests)

-- the end that a stream is, as the machine has it
phase-at : (g : Streams) (m : Found) (id : ℕ) (s : Stream) → m id ≡ Some s → Refines g m → s.me ≡ (g.a.ends id).phase
phase-at g m id s l r =
    (one-shows g.a.over g.b.over g.a.window g.b.window (g.a.ends id) (g.b.ends id) (parts_of_stream id g.ab) (parts_of_stream id g.ba) s
    (subst (AreOne g.a.over g.b.over g.a.window g.b.window (g.a.ends id) (g.b.ends id) (parts_of_stream id g.ab) (parts_of_stream id g.ba)) l (r.streams id))).phase

struck-unoffered : (p : Phase) → is_offered (struck p) ≡ false
struck-unoffered p = grind arith

-- with no move the stream was not offered
dropped-is : (id : ℕ) (vs : List Move) (was now : Stream) (offered : List ℕ) → MovesOf false Rst vs → Moves vs was now → is_offered now.me ≡ false → (is_offered was.me ≡ false → drop_id id offered ≡ offered) → dropped id vs offered ≡ drop_id id offered
dropped-is id vs was now o (inl e) p n d =
    let q : Moves [] was now = subst (λ z. Moves z was now) e p in
    rw e (sym (d (subst (λ (z : Stream). is_offered z.me ≡ false) q n)))
dropped-is id vs was now o (inr e) p n d = rw e refl

pub reset-comes : (id : ℕ) (more : List (ℕ × Part)) (g : Streams) (m : Machine) → hears m ≡ true → g.a.over ≡ false → g.ba_stopped ≡ false → g.ba ≡ (id, Rst) ∷ more → Refines g (found m) →
    (is_offered (g.a.ends id).phase ≡ false → is_listed id m.me.offered ≡ false) → Arrives (part_came id Rst more g) m 0 (drop_id id m.me.offered)
reset-comes id more g m h over runs e r listed =
    let k = law-step false id Rst more g m over runs e r in
    let s = stream-moves id k.moves k.was k.now m h (no-syns Rst k.moves refl k.are) k.there k.went in
    let P : List ℕ → Type 0 = λ o. FreeMoves (map (OfStream id) k.moves) m 0 (record m { streams = s.streams; me = record m.me { offered = o } }) in
    let end = comes_to false g.a.window Rst (g.a.ends id) in
    let struck_now : k.now.me ≡ struck (g.a.ends id).phase = phase-at (part_came id Rst more g) k.later id k.now k.changes.now k.refines ∙ ap (λ (z : End). z.phase) (put-same id end g.a.ends) in
    record {
      streams = s.streams;
      moves = map (OfStream id) k.moves;
      did = subst P (dropped-is id k.moves k.was k.now m.me.offered k.are k.went (ap is_offered struck_now ∙ struck-unoffered (g.a.ends id).phase)
          (λ n. drop-none id m.me.offered (listed (ap is_offered (sym (phase-at g (found m) id k.was k.there r)) ∙ n)))) s.did;
      refines = refines-same _ k.later _ (changes-same id k.was k.now (found m) k.later _ k.changes s.changed) k.refines;
    }

-- ---- a SYN

abbrev pub syn_came : (refuse : Bool) → (id d : ℕ) → List (ℕ × Part) → Streams → Streams
syn_came refuse id d more g = record g { a = put_end id (comes_to refuse g.a.window (Syn d) (g.a.ends id)) g.a; ba = more }

one-change : (id : ℕ) (f : Stream → Stream) (was now : Stream) (m : Machine) (n : Found) → Changes id was now (found m) n → now ≡ f was → Same n (found (record m { streams = change id f m.streams }))
one-change id f was now m n c e i = elim (same_or_not i id) [
  | inl q ↦ rw q (look-change id f m.streams was c.here ∙ (ap Some (sym e) ∙ sym c.now))
  | inr d ↦ look-change_other i id f m.streams d ∙ sym (c.others i d)
]

pub syn-refused : (counted : Bool) (id d : ℕ) (more : List (ℕ × Part)) (g : Streams) (m : Machine) → hears m ≡ true → (machine_refuses m || counted) ≡ true → (counted && machine_refuses m) ≡ false → LawStep true id (Syn d) more g m →
    Arrives (syn_came true id d more g) m (counted_by (SynArrives id counted)) m.me.offered
syn-refused counted id d more g m h refused alone k =
    let went : Moves (SynRefused ∷ []) k.was k.now = subst (λ z. Moves z k.was k.now) k.are k.went in
    let streams : List (ℕ × Stream) = change id (after_move SynRefused) m.streams in
    let n : Machine = record m { streams = streams } in
    let is : moved_by (SynArrives id counted) m ≡ n = rw refused refl in
    record {
      streams = streams;
      moves = SynArrives id counted ∷ [];
      did = ((h, (k.was, k.there, went.0), alone), (0, omega arith, (sym is, refl)));
      refines = refines-same _ k.later _ (one-change id (after_move SynRefused) k.was k.now m k.later k.changes went.1) k.refines;
    }

no-or : (b : Bool) → (b || false) ≡ b
no-or true = refl
no-or false = refl

pub syn-offered : (id d : ℕ) (more : List (ℕ × Part)) (g : Streams) (m : Machine) → hears m ≡ true → machine_refuses m ≡ false → LawStep false id (Syn d) more g m →
    Arrives (syn_came false id d more g) m 0 (m.me.offered ++ id ∷ [])
syn-offered id d more g m h room k =
    let went : Moves (SynOffered ∷ Return d ∷ []) k.was k.now = subst (λ z. Moves z k.was k.now) k.are k.went in
    let first : List (ℕ × Stream) = change id (after_move SynOffered) m.streams in
    let one : Machine = record m { streams = first; me = record m.me { offered = m.me.offered ++ id ∷ [] } } in
    let s = stream-moves id (Return d ∷ []) (after_move SynOffered k.was) k.now one h (refl, tt) (look-change id (after_move SynOffered) m.streams k.was k.there) went.1 in
    let is : moved_by (SynArrives id false) m ≡ one = rw (no-or (machine_refuses m), room) refl in
    let last : Machine = record one { streams = s.streams } in
    let changed : Changes id k.was k.now (found m) (found last) = record { here = k.there; now = s.changed.now; others = λ i o. s.changed.others i o ∙ look-change_other i id (after_move SynOffered) m.streams o } in
    record {
      streams = s.streams;
      moves = SynArrives id false ∷ OfStream id (Return d) ∷ [];
      did = ((h, (k.was, k.there, went.0), refl), (0, refl, subst (λ z. FreeMoves (OfStream id (Return d) ∷ []) z 0 last) (sym is) s.did));
      refines = refines-same _ k.later _ (changes-same id k.was k.now (found m) k.later _ k.changes changed) k.refines;
    }

-- ---- an end that was given up goes

pub release-comes : (id : ℕ) (e : End) (more : List (ℕ × Part)) (offered : List ℕ) (g : Streams) (m : Machine) → e.phase ≡ Lingering → next_kind g.a.window e ≡ None →
    Arrives (record g { a = put_end id e g.a; ba = more }) m 0 offered → Arrives (record g { a = put_end id (end_released e) g.a; ba = more }) m 0 offered
release-comes id e more offered g m lingers none k =
    let g1 : Streams = record g { a = put_end id e g.a; ba = more } in
    let m1 : Machine = record m { streams = k.streams; me = record m.me { offered = offered } } in
    let here : put id e g.a.ends id ≡ e = put-same id e g.a.ends in
    let can : Can (ActReleases id) g1 = (ap (λ (z : End). z.phase) here ∙ lingers, inr (ap (next_kind g.a.window) here ∙ none)) in
    let r = step (ActReleases id) g1 (found m1) can k.refines in
    let streams : List (ℕ × Stream) = change id (after_move Released) k.streams in
    let goes : FreeMoves (OfStream id Released ∷ []) m1 0 (record m1 { streams = streams }) = ((refl, refl, (r.1.0, r.1.2.here, r.1.1)), (0, refl, (refl, refl))) in
    record {
      streams = streams;
      moves = k.moves ++ OfStream id Released ∷ [];
      did = moves-join k.moves (OfStream id Released ∷ []) m m1 (record m1 { streams = streams }) 0 0 k.did goes;
      refines = refines-ends (record g { a = put_end id (end_released (g1.a.ends id)) g1.a; ba = more }) (put id (end_released e) g.a.ends) _ (λ i. elim (same_or_not i id) [
        | inl q ↦ rw q (put-same id (end_released e) g.a.ends ∙ sym (put-same id (end_released (g1.a.ends id)) g1.a.ends ∙ ap end_released here))
        | inr d ↦ put-other i id (end_released e) g.a.ends d ∙ sym (put-other i id (end_released (g1.a.ends id)) g1.a.ends d ∙ put-other i id e g.a.ends d)
      ]) (refines-same _ r.0 _ (one-change id (after_move Released) r.1.0 (after_move Released r.1.0) m1 r.0 r.1.2 refl) r.2);
    }
