-- Turns of two tunnels over two pipes, in a joint order.
use Rattle.std.proofs.Common.{◌≡◌, ℕ, ◌+◌, ◌≤◌, ◌⊎◌, inl, inr, List, [], ◌∷◌, ◌++◌, length, take, drop, Bool, true, false, Option, Some, refl, sym, ap, subst, ◌∙◌, arith, append-nil, append_assoc, length-append, drop-drop}
use Rattle.std.specs.Prelude.{MatchBool}
use Rattle.std.specs.Io.KnownBytes.{Appends, Consumes}
use Rattle.std.proofs.lemmas.List.{drop-append-le, length-take-le}
use Rattle.ymx_machine.specs.declared.types.Side.{Side}
use Rattle.ymx_machine.specs.declared.types.Side.TheVariants.{A, B}
use Rattle.ymx_machine.specs.declared.types.Step.{Step}
use Rattle.ymx_machine.specs.declared.types.Fed.{Fed}
use Rattle.ymx_machine.specs.shared.Events.{Reply}
use Rattle.ymx_machine.specs.declared.types.Reply.TheVariants as reply
use Rattle.ymx_model.specs.session.Events.{Event}
use Rattle.ymx_model.specs.declared.types.Event.TheVariants as event
use Rattle.ymx_model.specs.declared.types.Entry.{Entry}
use Rattle.ymx_model.specs.declared.types.Role.TheVariants.{Client, Server}
use Rattle.ymx_model.specs.session.Sessions.{Session, new_session}
use Rattle.ymx_model.specs.session.Emissions.{in_turn}
use Rattle.ymx_model.specs.session.Feeds.{Feeds}
use Rattle.ymx_model.specs.session.Histories.{Gives}
use Rattle.ymx_model.specs.world.Worlds.{World, Pipe, Runs, new_pipe}
use Rattle.ymx_headline.specs.audit.Joints.{ended_pipe, sent_into, TakesFront, Gets, world_steps, IsJoint}
use Rattle.ymx_headline.specs.audit.Told.{answers_of, is_ended_behind, told_from}
use Rattle.ymx_headline.proofs.audit.Events.{world, event-a, event-b, gets-ended, put-ended, over-behind}
use Rattle.ymx_headline.proofs.audit.OneRun.{are-one-run}
use Rattle.ymx_headline.proofs.audit.Orders.{runs-on}
use Rattle.ymx_headline.proofs.audit.Over.{IsOver}
use Rattle.ymx_engine.specs.Engines.{Engine}
use Rattle.ymx_engine.specs.Events.{Happen}
use Rattle.ymx_engine.specs.Wires.{emitted_at, emitted, fed_at, fed, OffersFront, FeedsFront}
use Rattle.ymx_engine.specs.Turns.{Connections}
use Rattle.ymx_engine.proofs.Exchanging.{happen_then}
use Rattle.ymx_joined.specs.Tunnels.{TunnelPair, engine_of, Works, Turn, OneWorks, BothWork, HaveCome, at_a, at_b, events_at_a, events_at_b, entries_from, entries, AreOneTunnelRun}
use Rattle.ymx_joined.proofs.Histories.{replays}

-- ---- a pipe of the world beside the bytes under way

abbrev pub open_pipe : List ℕ → Pipe
open_pipe bytes = record { bytes = bytes; stopped = false; ended = false }

-- its end was told, or it carries these bytes
abbrev pub Holds : Pipe → List ℕ → Type 0
Holds p bytes = (p.ended ≡ true) ⊎ (p ≡ open_pipe bytes)

same_holds : (p : Pipe) (xs ys : List ℕ) → xs ≡ ys → Holds p xs → Holds p ys
same_holds p xs ys e h = subst (λ (v : List ℕ). Holds p v) e h

sent_open : (e : Event) (told : Reply) (s t : Session) (bytes : List ℕ) → Gives in_turn s e told t → sent_into e told (open_pipe bytes) ≡ open_pipe (bytes ++ emitted_at e told)
sent_open (event.Call c) told s t bytes g = ap open_pipe (sym (append-nil bytes))
sent_open (event.Feed bs) told s t bytes g = ap open_pipe (sym (append-nil bytes))
sent_open event.FeedEnd told s t bytes g = ap open_pipe (sym (append-nil bytes))
sent_open (event.Emit n) told s t bytes g = subst (λ (r : Reply). sent_into (event.Emit n) r (open_pipe bytes) ≡ open_pipe (bytes ++ emitted_at (event.Emit n) r)) (sym g.1) refl

sends_one : (e : Event) (told : Reply) (s t : Session) (p : Pipe) (bytes : List ℕ) → Gives in_turn s e told t → Holds p bytes → Holds (sent_into e told p) (bytes ++ emitted_at e told)
sends_one e told s t p bytes g (inl over) = inl (put-ended e told p ∙ over)
sends_one e told s t p bytes g (inr same) = inr (ap (sent_into e told) same ∙ sent_open e told s t bytes g)

abbrev sent_all : List (Event × Reply) → Pipe → Pipe
sent_all [] p = p
sent_all (e ∷ es) p = sent_all es (sent_into e.0 e.1 p)

sends_all : (es : List (Event × Reply)) (s t : Session) (p : Pipe) (bytes : List ℕ) → Happen es s t → Holds p bytes → Holds (sent_all es p) (bytes ++ emitted es)
sends_all [] s t p bytes h k = same_holds p bytes (bytes ++ []) (sym (append-nil bytes)) k
sends_all (e ∷ es) s t p bytes h k =
    same_holds _ _ _ (append_assoc bytes (emitted_at e.0 e.1) (emitted es))
    (sends_all es h.0 t (sent_into e.0 e.1 p) (bytes ++ emitted_at e.0 e.1) h.2 (sends_one e.0 e.1 s h.0 p bytes h.1 k))

front_is : (bytes r rest : List ℕ) → take (length bytes) ((bytes ++ r) ++ rest) ≡ bytes
front_is [] r rest = refl
front_is (b ∷ bytes) r rest = ap (λ (v : List ℕ). b ∷ v) (front_is bytes r rest)

front_fits : (bytes r rest : List ℕ) → length bytes ≤ length ((bytes ++ r) ++ rest)
front_fits bytes r rest =
    let i = length-append (bytes ++ r) rest in
    let j = length-append bytes r in omega arith

front_within : (bytes r : List ℕ) → length bytes ≤ length (bytes ++ r)
front_within bytes r = let j = length-append bytes r in omega arith

length_front : (n : ℕ) (xs : List ℕ) → n ≤ length xs → length (take n xs) ≡ n
length_front n xs h = length-take-le n xs h

drop_twice : (xs ys zs : List ℕ) → drop (length ys) (drop (length xs) zs) ≡ drop (length (xs ++ ys)) zs
drop_twice xs ys zs = drop-drop (length ys) (length xs) zs ∙ ap (λ (n : ℕ). drop n zs) (sym (length-append xs ys))

drop_front : (xs ys : List ℕ) → drop (length xs) (xs ++ ys) ≡ ys
drop_front [] ys = refl
drop_front (x ∷ xs) ys = drop_front xs ys

-- what a pipe is after an event of its receiver
record Got (e : Event) (told : Reply) (p : Pipe) (bytes : List ℕ) : Type 0 where
  pipe : Pipe
  gets : Gets e told p pipe
  holds : Holds pipe bytes

ended_gets : (bytes : List ℕ) (told : Reply) (p : Pipe) → p.ended ≡ true → MatchBool p.ended (p ≡ p) (TakesFront bytes told p p)
ended_gets bytes told p over = subst (λ (b : Bool). MatchBool b (p ≡ p) (TakesFront bytes told p p)) (sym over) refl

gets_open : (bytes r rest : List ℕ) (f : Fed) (s t : Session) → Feeds s bytes f t → Got (event.Feed bytes) (reply.Fed f) (open_pipe ((bytes ++ r) ++ rest)) (drop (length (take f.taken bytes)) (bytes ++ r) ++ rest)
gets_open bytes r rest f s t g =
    let fits : f.taken ≤ length bytes = g.fits in
    let more : length bytes ≤ length (bytes ++ r) = front_within bytes r in
    let within : f.taken ≤ length (bytes ++ r) = omega arith in
    record {
      pipe = open_pipe (drop f.taken ((bytes ++ r) ++ rest));
      gets = (f, refl, fits, front_fits bytes r rest, front_is bytes r rest, refl);
      holds = inr (ap open_pipe (drop-append-le f.taken (bytes ++ r) rest within ∙ ap (λ (n : ℕ). drop n (bytes ++ r) ++ rest) (sym (length_front f.taken bytes fits))));
    }

gets_one : (e : Event) (told : Reply) (s t : Session) (p : Pipe) (waits rest : List ℕ) → Gives in_turn s e told t → OffersFront waits e → Holds p (waits ++ rest) →
    Got e told p (drop (length (fed_at e told)) waits ++ rest)
gets_one (event.Call c) told s t p waits rest g f h = record { pipe = p; gets = refl; holds = h }
gets_one (event.Emit n) told s t p waits rest g f h = record { pipe = p; gets = (g.0, g.1, refl); holds = h }
gets_one event.FeedEnd told s t p waits rest g f h = record { pipe = ended_pipe; gets = refl; holds = inl refl }
gets_one (event.Feed bytes) told s t p waits rest g f (inl over) = record { pipe = p; gets = ended_gets bytes told p over; holds = inl over }
gets_one (event.Feed bytes) told s t p waits rest g f (inr same) =
    let all : open_pipe ((bytes ++ f.0) ++ rest) ≡ p = sym (same ∙ ap (λ (v : List ℕ). open_pipe (v ++ rest)) f.1) in
    let one : Got (event.Feed bytes) (reply.Fed g.0) (open_pipe ((bytes ++ f.0) ++ rest)) (drop (length (take (g.0).taken bytes)) (bytes ++ f.0) ++ rest) = gets_open bytes f.0 rest g.0 s t g.2 in
    let two : Got (event.Feed bytes) (reply.Fed g.0) p (drop (length (take (g.0).taken bytes)) waits ++ rest) =
    subst (λ (v : List ℕ). Got (event.Feed bytes) (reply.Fed g.0) p (drop (length (take (g.0).taken bytes)) v ++ rest)) (sym f.1)
    (subst (λ (z : Pipe). Got (event.Feed bytes) (reply.Fed g.0) z (drop (length (take (g.0).taken bytes)) (bytes ++ f.0) ++ rest)) all one) in
    subst (λ (r : Reply). Got (event.Feed bytes) r p (drop (length (fed_at (event.Feed bytes) r)) waits ++ rest)) (sym g.1) two

abbrev GetsAll : List (Event × Reply) → Pipe → Pipe → Type 0
GetsAll [] p q = q ≡ p
GetsAll (e ∷ es) p q = (m : Pipe) × Gets e.0 e.1 p m × GetsAll es m q

record GotAll (es : List (Event × Reply)) (p : Pipe) (bytes : List ℕ) : Type 0 where
  pipe : Pipe
  gets : GetsAll es p pipe
  holds : Holds pipe bytes

gets_all : (es : List (Event × Reply)) (s t : Session) (p : Pipe) (waits rest : List ℕ) → Happen es s t → FeedsFront waits es → Holds p (waits ++ rest) →
    GotAll es p (drop (length (fed es)) waits ++ rest)
gets_all [] s t p waits rest h f k = record { pipe = p; gets = refl; holds = k }
gets_all (e ∷ es) s t p waits rest h f k =
    let one : Got e.0 e.1 p (drop (length (fed_at e.0 e.1)) waits ++ rest) = gets_one e.0 e.1 s h.0 p waits rest h.1 f.0 k in
    let all = gets_all es h.0 t one.pipe (drop (length (fed_at e.0 e.1)) waits) rest h.2 f.1 one.holds in record {
      pipe = all.pipe;
      gets = (one.pipe, one.gets, all.gets);
      holds = same_holds all.pipe _ _ (ap (λ (v : List ℕ). v ++ rest) (drop_twice (fed_at e.0 e.1) (fed es) waits)) all.holds;
    }

-- ---- what a turn moves

-- what came was the front of one pipe, and what went is after the other
record Moves (es : List (Event × Reply)) (old new : Engine) (to from to_new from_new : List ℕ) : Type 0 where
  happen : Happen es old.session new.session
  came : List ℕ
  gave : from ≡ came ++ from_new
  fronts : FeedsFront (old.incoming ++ came) es
  from_wire : old.incoming ++ came ≡ fed es ++ new.incoming
  sent : List ℕ
  took : to_new ≡ to ++ sent
  to_wire : old.outgoing ++ emitted es ≡ sent ++ new.outgoing

consumed : (a b : Option (List ℕ)) (from from_new came : List ℕ) → a ≡ Some from → b ≡ Some from_new → Consumes a b came → from ≡ came ++ from_new
consumed a b from from_new came e f h = subst (λ (o : Option (List ℕ)). Consumes (Some from) o came) f (subst (λ (o : Option (List ℕ)). Consumes o b came) e h)

appended : (a b : Option (List ℕ)) (to to_new sent : List ℕ) → a ≡ Some to → b ≡ Some to_new → Appends a b sent → to_new ≡ to ++ sent
appended a b to to_new sent e f h = subst (λ (o : Option (List ℕ)). Appends (Some to) o sent) f (subst (λ (o : Option (List ℕ)). Appends o b sent) e h)

turn_moves : (es : List (Event × Reply)) (old new : Engine) (ls ms : Connections) (to from to_new from_new : List ℕ) → Works es old new ls ms to from to_new from_new → Moves es old new to from to_new from_new
turn_moves es old new ls ms to from to_new from_new x =
    let r = x.runs.moves in
    let moves : Moves r.events x.before.engine x.after.engine to from to_new from_new = record {
      happen = r.happen;
      came = r.came;
      gave = consumed x.before.wire.left x.after.wire.left from from_new r.came x.left x.left_new r.gave;
      fronts = r.fronts;
      from_wire = r.from_wire;
      sent = r.sent;
      took = appended x.before.wire.had x.after.wire.had to to_new r.sent x.had x.had_new r.took;
      to_wire = r.to_wire;
    } in
    subst (λ (v : List (Event × Reply)). Moves v old new to from to_new from_new) (sym x.events)
    (subst (λ (e : Engine). Moves r.events e new to from to_new from_new) x.engine (subst (λ (e : Engine). Moves r.events x.before.engine e to from to_new from_new) x.engine_new moves))

-- the pipe that a turn's side writes to, and `far` is what waits at the other side
to_holds : (es : List (Event × Reply)) (old new : Engine) (to from to_new from_new far : List ℕ) (p : Pipe) → Moves es old new to from to_new from_new →
    Holds p (far ++ (to ++ old.outgoing)) → Holds (sent_all es p) (far ++ (to_new ++ new.outgoing))
to_holds es old new to from to_new from_new far p m h =
    let same : (far ++ (to ++ old.outgoing)) ++ emitted es ≡ far ++ (to_new ++ new.outgoing) =
    append_assoc far (to ++ old.outgoing) (emitted es)
    ∙ ap (λ (v : List ℕ). far ++ v) (append_assoc to old.outgoing (emitted es) ∙ ap (λ (v : List ℕ). to ++ v) m.to_wire ∙ sym (append_assoc to m.sent new.outgoing)
    ∙ ap (λ (v : List ℕ). v ++ new.outgoing) (sym m.took)) in
    same_holds (sent_all es p) _ _ same (sends_all es old.session new.session p _ m.happen h)

-- the pipe that it reads, and `far` is what the other side has to send
from_holds : (es : List (Event × Reply)) (old new : Engine) (to from to_new from_new far : List ℕ) (p : Pipe) → Moves es old new to from to_new from_new →
    Holds p (old.incoming ++ (from ++ far)) → GotAll es p (new.incoming ++ (from_new ++ far))
from_holds es old new to from to_new from_new far p m h =
    let same : old.incoming ++ (from ++ far) ≡ (old.incoming ++ m.came) ++ (from_new ++ far) =
    ap (λ (v : List ℕ). old.incoming ++ (v ++ far)) m.gave ∙ ap (λ (v : List ℕ). old.incoming ++ v) (append_assoc m.came from_new far) ∙ sym (append_assoc old.incoming m.came (from_new ++ far)) in
    let got = gets_all es old.session new.session p (old.incoming ++ m.came) (from_new ++ far) m.happen m.fronts (same_holds p _ _ same h) in
    let left : drop (length (fed es)) (old.incoming ++ m.came) ≡ new.incoming = ap (drop (length (fed es))) m.from_wire ∙ drop_front (fed es) new.incoming in
    subst (λ (v : List ℕ). GotAll es p (v ++ (from_new ++ far))) left got

-- ---- a joint order, and the run of the world that it is

-- a pipe of the world carries what A has to send, what is in the pipe, and what waits to be fed to B
abbrev pub HoldsAB : Pipe → TunnelPair → Type 0
HoldsAB pipe p = Holds pipe (p.b.incoming ++ (p.ab ++ p.a.outgoing))

abbrev pub HoldsBA : Pipe → TunnelPair → Type 0
HoldsBA pipe p = Holds pipe (p.a.incoming ++ (p.ba ++ p.b.outgoing))

-- after the end of its input a session is over
abbrev OverIf : Pipe → Session → Type 0
OverIf pipe s = pipe.ended ≡ true → IsOver s

-- These entries have a joint order, which is a run of the world from these sessions and pipes to the sessions of q; its
-- pipes carry then what those of q do.
pub record Joint (a b : Session) (ab ba : Pipe) (xs ys : List Entry) (q : TunnelPair) : Type 0 where
  pub turns : List Bool
  pub steps : List Step
  pub joint : IsJoint turns ab ba xs ys steps
  pub last_ab : Pipe
  pub last_ba : Pipe
  pub runs : Runs in_turn steps (told_from turns ba.ended ab.ended xs ys) (world a b ab ba) (world q.a.session q.b.session last_ab last_ba)
  pub holds_ab : HoldsAB last_ab q
  pub holds_ba : HoldsBA last_ba q
  pub over_a : last_ba.ended ≡ true → IsOver q.a.session
  pub over_b : last_ab.ended ≡ true → IsOver q.b.session

-- a run goes on after an event of A, and after one of B
run_a : (e : Event) (told : Reply) (turns : List Bool) (steps : List Step) (xs ys : List Entry) (a b s : Session) (ab ba p : Pipe) (last : World) → Gives in_turn a e told s → Gets e told ba p → OverIf ba a →
    Runs in_turn steps (told_from turns p.ended (sent_into e told ab).ended xs ys) (world s b (sent_into e told ab) p) last →
    Runs in_turn (world_steps A ba e ++ steps) (answers_of ba.ended e told ++ told_from turns (is_ended_behind ba.ended e) ab.ended xs ys) (world a b ab ba) last
run_a e told turns steps xs ys a b s ab ba p last g h over r =
    runs-on in_turn (world_steps A ba e) steps (answers_of ba.ended e told) _ (world a b ab ba) (world s b (sent_into e told ab) p) last (event-a in_turn e told a b s ab ba p g h over)
    (subst (λ (v : Bool). Runs in_turn steps (told_from turns v ab.ended xs ys) (world s b (sent_into e told ab) p) last) (gets-ended e told ba p h)
    (subst (λ (v : Bool). Runs in_turn steps (told_from turns p.ended v xs ys) (world s b (sent_into e told ab) p) last) (put-ended e told ab) r))

run_b : (e : Event) (told : Reply) (turns : List Bool) (steps : List Step) (xs ys : List Entry) (a b s : Session) (ab ba p : Pipe) (last : World) → Gives in_turn b e told s → Gets e told ab p → OverIf ab b →
    Runs in_turn steps (told_from turns (sent_into e told ba).ended p.ended xs ys) (world a s p (sent_into e told ba)) last →
    Runs in_turn (world_steps B ab e ++ steps) (answers_of ab.ended e told ++ told_from turns ba.ended (is_ended_behind ab.ended e) xs ys) (world a b ab ba) last
run_b e told turns steps xs ys a b s ab ba p last g h over r =
    runs-on in_turn (world_steps B ab e) steps (answers_of ab.ended e told) _ (world a b ab ba) (world a s p (sent_into e told ba)) last (event-b in_turn e told a b s ab ba p g h over)
    (subst (λ (v : Bool). Runs in_turn steps (told_from turns ba.ended v xs ys) (world a s p (sent_into e told ba)) last) (gets-ended e told ab p h)
    (subst (λ (v : Bool). Runs in_turn steps (told_from turns v p.ended xs ys) (world a s p (sent_into e told ba)) last) (put-ended e told ba) r))

-- a turn at which nothing happened
over_same : (s t : Session) (p q : Pipe) → t ≡ s → q ≡ p → OverIf p s → OverIf q t
over_same s t p q h g over e = subst IsOver (sym h) (over (sym (ap (λ (z : Pipe). z.ended) g) ∙ e))

joint_a : (es more : List (Event × Reply)) (i : ℕ) (a b s : Session) (ab ba p : Pipe) (ys : List Entry) (q : TunnelPair) → Happen es a s → GetsAll es ba p → OverIf ba a →
    ((k : ℕ) → OverIf p s → Joint s b (sent_all es ab) p (entries_from k more) ys q) → Joint a b ab ba (entries_from i (es ++ more)) ys q
joint_a [] more i a b s ab ba p ys q h g over rest =
    subst (λ (z : Session). Joint z b ab ba (entries_from i more) ys q) h
    (subst (λ (z : Pipe). Joint s b ab z (entries_from i more) ys q) g (rest i (over_same a s ba p h g over)))
joint_a (e ∷ es) more i a b s ab ba p ys q h g over rest =
    let r = joint_a es more (i + 1) h.0 b s (sent_into e.0 e.1 ab) g.0 p ys q h.2 g.2 (over-behind in_turn e.0 e.1 a h.0 ba g.0 h.1 g.1 over) rest in record {
      turns = true ∷ r.turns;
      steps = world_steps A ba e.0 ++ r.steps;
      joint = (record { position = i; seat = 0; event = e.0; reply = e.1 }, entries_from (i + 1) (es ++ more), g.0, r.steps, refl, g.1, refl, r.joint);
      last_ab = r.last_ab;
      last_ba = r.last_ba;
      runs = run_a e.0 e.1 r.turns r.steps (entries_from (i + 1) (es ++ more)) ys a b h.0 ab ba g.0 _ h.1 g.1 over r.runs;
      holds_ab = r.holds_ab;
      holds_ba = r.holds_ba;
      over_a = r.over_a;
      over_b = r.over_b;
    }

joint_b : (es more : List (Event × Reply)) (i : ℕ) (a b s : Session) (ab ba p : Pipe) (xs : List Entry) (q : TunnelPair) → Happen es b s → GetsAll es ab p → OverIf ab b →
    ((k : ℕ) → OverIf p s → Joint a s p (sent_all es ba) xs (entries_from k more) q) → Joint a b ab ba xs (entries_from i (es ++ more)) q
joint_b [] more i a b s ab ba p xs q h g over rest =
    subst (λ (z : Session). Joint a z ab ba xs (entries_from i more) q) h
    (subst (λ (z : Pipe). Joint a s z ba xs (entries_from i more) q) g (rest i (over_same b s ab p h g over)))
joint_b (e ∷ es) more i a b s ab ba p xs q h g over rest =
    let r = joint_b es more (i + 1) a h.0 s g.0 (sent_into e.0 e.1 ba) p xs q h.2 g.2 (over-behind in_turn e.0 e.1 b h.0 ab g.0 h.1 g.1 over) rest in record {
      turns = false ∷ r.turns;
      steps = world_steps B ab e.0 ++ r.steps;
      joint = (record { position = i; seat = 0; event = e.0; reply = e.1 }, entries_from (i + 1) (es ++ more), g.0, r.steps, refl, g.1, refl, r.joint);
      last_ab = r.last_ab;
      last_ba = r.last_ba;
      runs = run_b e.0 e.1 r.turns r.steps xs (entries_from (i + 1) (es ++ more)) a b h.0 ab ba g.0 _ h.1 g.1 over r.runs;
      holds_ab = r.holds_ab;
      holds_ba = r.holds_ba;
      over_a = r.over_a;
      over_b = r.over_b;
    }

-- what is sent into a pipe tells no end
sent_over : (es : List (Event × Reply)) (p : Pipe) → (sent_all es p).ended ≡ p.ended
sent_over [] p = refl
sent_over (e ∷ es) p = sent_over es (sent_into e.0 e.1 p) ∙ put-ended e.0 e.1 p

-- the side whose turn it isn't
over_beside : (es : List (Event × Reply)) (p : Pipe) (e f : Engine) → f ≡ e → OverIf p e.session → OverIf (sent_all es p) f.session
over_beside es p e f t over h = subst (λ (z : Engine). IsOver z.session) (sym t) (over (sym (sent_over es p) ∙ h))

joint_turn : (side : Side) (es more_a more_b : List (Event × Reply)) (p q last : TunnelPair) (ab ba : Pipe) (i j : ℕ) → OneWorks side es p q → HoldsAB ab p → HoldsBA ba p → OverIf ba p.a.session → OverIf ab p.b.session →
    ((ab2 ba2 : Pipe) (i2 j2 : ℕ) → HoldsAB ab2 q → HoldsBA ba2 q → OverIf ba2 q.a.session → OverIf ab2 q.b.session →
    Joint q.a.session q.b.session ab2 ba2 (entries_from i2 more_a) (entries_from j2 more_b) last) →
    Joint p.a.session p.b.session ab ba (entries_from i (at_a side es ++ more_a)) (entries_from j (at_b side es ++ more_b)) last
joint_turn A es more_a more_b p q last ab ba i j t h k over_a over_b rest =
    let m = turn_moves es p.a q.a p.connections_a q.connections_a p.ab p.ba q.ab q.ba t.0 in
    let got = from_holds es p.a q.a p.ab p.ba q.ab q.ba p.b.outgoing ba m k in
    let to : HoldsAB (sent_all es ab) q = same_holds (sent_all es ab) _ _ (ap (λ (e : Engine). e.incoming ++ (q.ab ++ q.a.outgoing)) (sym t.1)) (to_holds es p.a q.a p.ab p.ba q.ab q.ba p.b.incoming ab m h) in
    let from : HoldsBA got.pipe q = same_holds got.pipe _ _ (ap (λ (e : Engine). q.a.incoming ++ (q.ba ++ e.outgoing)) (sym t.1)) got.holds in
    joint_a es more_a i p.a.session p.b.session q.a.session ab ba got.pipe (entries_from j more_b) last m.happen got.gets over_a
    (λ n over. subst (λ (e : Engine). Joint q.a.session e.session (sent_all es ab) got.pipe (entries_from n more_a) (entries_from j more_b) last) t.1
    (rest (sent_all es ab) got.pipe n j to from over (over_beside es ab p.b q.b t.1 over_b)))
joint_turn B es more_a more_b p q last ab ba i j t h k over_a over_b rest =
    let m = turn_moves es p.b q.b p.connections_b q.connections_b p.ba p.ab q.ba q.ab t.0 in
    let got = from_holds es p.b q.b p.ba p.ab q.ba q.ab p.a.outgoing ab m h in
    let to : HoldsBA (sent_all es ba) q = same_holds (sent_all es ba) _ _ (ap (λ (e : Engine). e.incoming ++ (q.ba ++ q.b.outgoing)) (sym t.1)) (to_holds es p.b q.b p.ba p.ab q.ba q.ab p.a.incoming ba m k) in
    let from : HoldsAB got.pipe q = same_holds got.pipe _ _ (ap (λ (e : Engine). q.b.incoming ++ (q.ab ++ e.outgoing)) (sym t.1)) got.holds in
    joint_b es more_b j p.a.session p.b.session q.b.session ab ba got.pipe (entries_from i more_a) last m.happen got.gets over_b
    (λ n over. subst (λ (e : Engine). Joint e.session q.b.session got.pipe (sent_all es ba) (entries_from i more_a) (entries_from n more_b) last) t.1
    (rest got.pipe (sent_all es ba) i n from to (over_beside es ba p.a q.a t.1 over_a) over))

pub joint_turns : (ts : List Turn) (p q : TunnelPair) (ab ba : Pipe) (i j : ℕ) → BothWork ts p q → HoldsAB ab p → HoldsBA ba p → OverIf ba p.a.session → OverIf ab p.b.session →
    Joint p.a.session p.b.session ab ba (entries_from i (events_at_a ts)) (entries_from j (events_at_b ts)) q
joint_turns [] p q ab ba i j r h k over_a over_b = record {
  turns = [];
  steps = [];
  joint = (refl, refl, refl);
  last_ab = ab;
  last_ba = ba;
  runs = ap (λ (z : TunnelPair). world z.a.session z.b.session ab ba) r;
  holds_ab = subst (HoldsAB ab) (sym r) h;
  holds_ba = subst (HoldsBA ba) (sym r) k;
  over_a = subst (λ (z : TunnelPair). OverIf ba z.a.session) (sym r) over_a;
  over_b = subst (λ (z : TunnelPair). OverIf ab z.b.session) (sym r) over_b;
}
joint_turns (t ∷ ts) p q ab ba i j r h k over_a over_b =
    joint_turn t.side t.events (events_at_a ts) (events_at_b ts) p r.0 q ab ba i j r.1 h k over_a over_b
    (λ ab2 ba2 i2 j2 h2 k2 over_a2 over_b2. joint_turns ts r.0 q ab2 ba2 i2 j2 r.2 h2 k2 over_a2 over_b2)

-- from two new tunnels, and empty pipes
pub nothing_held : (xs ys zs : List ℕ) → xs ≡ [] → ys ≡ [] → zs ≡ [] → xs ++ (ys ++ zs) ≡ []
nothing_held xs ys zs e f g = rw (e, f, g) refl

none_way : (from to : Engine) (pipe : List ℕ) (s t : Session) → from ≡ engine_of s → to ≡ engine_of t → pipe ≡ [] → Holds new_pipe (to.incoming ++ (pipe ++ from.outgoing))
none_way from to pipe s t e f g = inr (ap open_pipe (sym (nothing_held to.incoming pipe from.outgoing (ap (λ (v : Engine). v.incoming) f) g (ap (λ (v : Engine). v.outgoing) e))))

pub joint_new : (ts : List Turn) (wa fa wb fb : ℕ) (q : TunnelPair) → HaveCome ts wa fa wb fb q → Joint (new_session Client wa fa) (new_session Server wb fb) new_pipe new_pipe (entries (events_at_a ts)) (entries (events_at_b ts)) q
joint_new ts wa fa wb fb q h =
    subst (λ (s : Session). Joint s (new_session Server wb fb) new_pipe new_pipe (entries (events_at_a ts)) (entries (events_at_b ts)) q) (ap (λ (e : Engine). e.session) h.a)
    (subst (λ (t : Session). Joint h.new.a.session t new_pipe new_pipe (entries (events_at_a ts)) (entries (events_at_b ts)) q) (ap (λ (e : Engine). e.session) h.b)
    (joint_turns ts h.new q new_pipe new_pipe 0 0 h.work (none_way h.new.a h.new.b h.new.ab _ _ h.a h.b h.ab) (none_way h.new.b h.new.a h.new.ba _ _ h.b h.a h.ba) (λ e. absurd cc) (λ e. absurd cc)))

-- ---- what happened at each side

turn_happens_a : (side : Side) (es more : List (Event × Reply)) (p q : TunnelPair) (s : Session) → OneWorks side es p q → Happen more q.a.session s → Happen (at_a side es ++ more) p.a.session s
turn_happens_a A es more p q s t h = happen_then es more p.a.session q.a.session s (turn_moves es p.a q.a p.connections_a q.connections_a p.ab p.ba q.ab q.ba t.0).happen h
turn_happens_a B es more p q s t h = subst (λ (e : Engine). Happen more e.session s) t.1 h

turn_happens_b : (side : Side) (es more : List (Event × Reply)) (p q : TunnelPair) (s : Session) → OneWorks side es p q → Happen more q.b.session s → Happen (at_b side es ++ more) p.b.session s
turn_happens_b A es more p q s t h = subst (λ (e : Engine). Happen more e.session s) t.1 h
turn_happens_b B es more p q s t h = happen_then es more p.b.session q.b.session s (turn_moves es p.b q.b p.connections_b q.connections_b p.ba p.ab q.ba q.ab t.0).happen h

happens_a : (ts : List Turn) (p q : TunnelPair) → BothWork ts p q → Happen (events_at_a ts) p.a.session q.a.session
happens_a [] p q r = ap (λ (z : TunnelPair). z.a.session) r
happens_a (t ∷ ts) p q r = turn_happens_a t.side t.events (events_at_a ts) p r.0 q.a.session r.1 (happens_a ts r.0 q r.2)

happens_b : (ts : List Turn) (p q : TunnelPair) → BothWork ts p q → Happen (events_at_b ts) p.b.session q.b.session
happens_b [] p q r = ap (λ (z : TunnelPair). z.b.session) r
happens_b (t ∷ ts) p q r = turn_happens_b t.side t.events (events_at_b ts) p r.0 q.b.session r.1 (happens_b ts r.0 q r.2)

new_happens : (es : List (Event × Reply)) (e : Engine) (s t : Session) → e ≡ engine_of s → Happen es e.session t → Happen es s t
new_happens es e s t same h = subst (λ (v : Session). Happen es v t) (ap (λ (v : Engine). v.session) same) h

pub are_one_tunnel_run : (ts : List Turn) → AreOneTunnelRun ts
are_one_tunnel_run ts = λ wa fa wb fb q h.
    let j = joint_new ts wa fa wb fb q h in (
      j.steps,
      are-one-run in_turn (entries (events_at_a ts)) (entries (events_at_b ts)) j.steps (j.turns, j.joint) wa fa wb fb q.a.session q.b.session h.good
          (replays 0 (events_at_a ts) _ q.a.session (new_happens _ h.new.a _ _ h.a (happens_a ts h.new q h.work)))
          (replays 0 (events_at_b ts) _ q.b.session (new_happens _ h.new.b _ _ h.b (happens_b ts h.new q h.work))),
    )
