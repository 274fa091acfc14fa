-- While the world is quiet the machine is still.
use Rattle.std.proofs.Common.{◌≡◌, ◌≢◌, ℕ, ◌<◌, List, [], ◌∷◌, ◌++◌, length, Bool, true, false, not, ◌&&◌, ◌||◌, Option, None, Some, refl, sym, ap, subst, ◌∙◌, inl, inr, arith, length-append}
use Rattle.std.specs.Prelude.{is_some}
use Rattle.std.specs.List.{All, concat}
use Rattle.std.proofs.lemmas.Bool.Decides.{nat_tests}
use Rattle.std.proofs.lemmas.List.{append-nil}
use Rattle.std.proofs.lemmas.List.Elements.{All-nil, All-cons, All-head}
use Rattle.ymx_model.specs.declared.types.Role.{Role}
use Rattle.ymx_model.specs.declared.types.Response.{Response}
use Rattle.ymx_machine.specs.stream.Lanes.{is_said}
use Rattle.ymx_machine.specs.shared.Phases.{Phase, is_live, is_lingering}
use Rattle.ymx_machine.specs.stream.Streams.{Stream, IsStill}
use Rattle.ymx_model.specs.session.Records.{End}
use Rattle.ymx_model.specs.session.FramesDue.{is_due, is_empty}
use Rattle.ymx_model.specs.session.Parts.{Part}
use Rattle.ymx_model.specs.session.Pings.{has_asked, first_asked}
use Rattle.ymx_model.specs.session.GoAway.{away_due}
use Rattle.ymx_machine.specs.shared.Lists.{look, Distinct}
use Rattle.ymx_model.specs.session.Tables.{any_due}
use Rattle.ymx_model.specs.session.Sessions.{Session, Incoming, is_running, is_broken}
use Rattle.ymx_model.specs.session.Sessions.Incoming.{Head, Payload}
use Rattle.ymx_model.specs.session.Emissions.{is_ready, no_answers}
use Rattle.ymx_model.specs.world.Worlds.{World, Pipe, is_quiet, is_quiet_pipe, mirror_world as world_mirror}
use Rattle.ymx_model.specs.world.UnderWay.{IsOneFrame, held_bytes, lacking}
use Rattle.ymx_machine.specs.machine.Machines.{Machine, PingPlace, mirror_machine}
use Rattle.ymx_machine.specs.machine.Machines.PingPlace.{Asked, There, Back}
use Rattle.ymx_machine.specs.machine.Runs.{IsStillMachine, place_is_back}
use Rattle.ymx_headline.proofs.stream.Happenings.{IsQuietWorld, StillIf}
use Rattle.ymx_headline.specs.stream.OneStream.{IsQuiet}
use Rattle.ymx_headline.proofs.stream.Worlds.{all-still}
use Rattle.ymx_headline.specs.machine.Numbers.{NumbersOnce}
use Rattle.ymx_law_session.specs.Limits.{IsWithin}
use Rattle.ymx_law_session.proofs.limits.FeedsKeep.{header_few, payload_some}
use Rattle.ymx_law_session.proofs.limits.Pings.{asked-some}
use Rattle.ymx_law_session.proofs.due.Ready.{any-of}
use Rattle.ymx_law_session.proofs.given_up.ReapedFrames.{none-linger}
use Rattle.ymx_machine.proofs.Tests.{none_of, both_of, same_or_not}
use Rattle.ymx_headline.proofs.world.Emitted.{empty-bytes}
use Rattle.ymx_headline.specs.Agrees.{AgreesAs, Keeps, OnlyRejects, Text, sending, hearing, found, is_absent, is_rejected, parts_left, count_in, is_go_away, asks, replies, is_asked_at, is_there_at}
use Rattle.ymx_headline.proofs.emissions.Begun.{runs-open}
use Rattle.ymx_headline.proofs.relation.Mirrors.{mirrors-agree}
use Rattle.ymx_headline.proofs.calls.Places.{places-distinct}

-- ---- a session with nothing due

negated : (b : Bool) → not b ≡ false → b ≡ true
negated true e = refl
negated false e = absurd cc

is-false : (b : Bool) → (b ≡ true → ⊥) → b ≡ false
is-false true h = absurd (h refl)
is-false false h = refl

pub record IsIdle (s : Session) : Type 0 where
  pub runs : is_running s.status ≡ true
  pub outgoing : s.outgoing.bytes ≡ []
  pub ready : is_ready s ≡ false
  pub away : away_due s.away.here ≡ false
  pub answers : s.answers ≡ []
  pub asked : is_some (first_asked s.pings.pending) ≡ false
  pub due : any_due s.table.window s.table.entries ≡ false

no-answers : (rs : List Response) → not (no_answers rs) ≡ false → rs ≡ []
no-answers [] e = refl
no-answers (r ∷ rs) e = absurd cc

pub idle : (s : Session) → is_running s.status ≡ true → is_ready s ≡ false → IsIdle s
idle s runs r =
    let p = none_of (not (is_empty s.outgoing.bytes) || (s.error_due && is_broken s.status)) _ r in
    let q = none_of (not (is_empty s.outgoing.bytes)) (s.error_due && is_broken s.status) p.0 in
    let z : (away_due s.away.here || not (no_answers s.answers) || is_some (first_asked s.pings.pending) || any_due s.table.window s.table.entries) ≡ false = rw runs at p.1 in
    let a = none_of _ (any_due s.table.window s.table.entries) z in
    let b = none_of _ (is_some (first_asked s.pings.pending)) a.0 in
    let c = none_of (away_due s.away.here) (not (no_answers s.answers)) b.0 in
    record {
      runs = runs;
      outgoing = empty-bytes s.outgoing.bytes (negated (is_empty s.outgoing.bytes) q.0);
      ready = r;
      away = c.0;
      answers = no-answers s.answers c.1;
      asked = b.1;
      due = a.1;
    }

-- ---- a direction with nothing under way

few-none : (seen : List ℕ) (frames : List (List ℕ)) → length seen < 12 → All IsOneFrame frames → seen ≡ concat frames → frames ≡ []
few-none seen [] few a e = refl
few-none seen (f ∷ fs) few a e =
    let one = All-head IsOneFrame f fs a in let l = ap length e in absurd (omega (arith, one.header, length-append f (concat fs)))

no-frames : (i : Incoming) (tail : List ℕ) (frames : List (List ℕ)) → ((seen : List ℕ) → i ≡ Head seen → length seen < 12) → ((id n : ℕ) (fin discarded : Bool) → i ≡ Payload id n fin discarded → 0 < n) →
    length tail ≡ lacking i → All IsOneFrame frames → held_bytes i ++ [] ≡ tail ++ concat frames → (frames ≡ []) × (parts_left i tail ≡ [])
no-frames (Head seen) [] frames few some l a e = (few-none seen frames (few seen refl) a (sym (append-nil seen) ∙ e), refl)
no-frames (Head seen) (x ∷ tail) frames few some l a e = absurd (omega arith)
no-frames (Payload id n fin discarded) [] frames few some l a e = let p = some id n fin discarded refl in absurd (omega arith)
no-frames (Payload id n fin discarded) (x ∷ tail) frames few some l a e = absurd cc

text-empty : (held bytes begun cut all : List ℕ) → bytes ≡ [] → begun ≡ [] → cut ≡ [] → held ++ (bytes ++ (begun ++ cut)) ≡ all → held ++ [] ≡ all
text-empty held bytes begun cut all b g c t = let k : held ++ [] ≡ all = rw (b, g, c) at t in k

pub none-frames : (w : World) (m : Machine) (parts : List (ℕ × Part)) → IsWithin w.b → w.ab.bytes ≡ [] → w.a.outgoing.bytes ≡ [] → is_running w.a.status ≡ true → (t : Text (sending w.a m.me) (hearing w.b m.you) w.ab.bytes parts) → (t.frames ≡ []) × (parts_left w.b.incoming t.tail ≡ [])
none-frames w m parts within b g r t =
    no-frames w.b.incoming t.tail t.frames (λ seen inc. header_few seen w.b inc within) (λ id n fin discarded inc. payload_some id n fin discarded w.b inc within) t.missing t.each
    (text-empty (held_bytes w.b.incoming) w.ab.bytes w.a.outgoing.bytes t.cut (t.tail ++ concat t.frames) b g (t.kept (runs-open w.a.status r)) t.text)

-- what is left to say of a direction, seen from its sender
record IsStillWay (parts : List (ℕ × Part)) (m : Machine) : Type 0 where
  none : parts ≡ []
  away : is_said m.me.away ≡ false
  asked : (n : ℕ) → is_asked_at (look n m.me.pings) ≡ false
  there : (n : ℕ) → is_there_at (look n m.you.pings) ≡ false

not-asked : (n : ℕ) (s : Session) → IsIdle s → has_asked n s.pings.pending ≡ false
not-asked n s i = is-false (has_asked n s.pings.pending) (λ e. let no : false ≡ true = sym i.asked ∙ asked-some n s.pings.pending e in absurd cc)

still-way : (x y : Role) (w : World) (m : Machine) (h : AgreesAs x y w m) → IsIdle w.a → is_running w.b.status ≡ true → w.ab.bytes ≡ [] → w.ab.stopped ≡ false → IsStillWay h.streams.ab m
still-way x y w m h i runs bytes open_ =
    let t = h.ab.text (rw (open_, runs) refl) in
    let k = none-frames w m h.streams.ab h.b.within bytes i.outgoing i.runs t in
    let none : (test : List ℕ → Bool) → count_in test t.frames ≡ 0 = λ test. ap (count_in test) k.0 in
    record {
      none = t.says ∙ rw (k.1, k.0) refl;
      away = t.away.said i.runs ∙ rw (i.away, none is_go_away) refl;
      asked = λ n. t.pings.asked n i.runs ∙ rw (not-asked n w.a i, none (asks n)) refl;
      there = λ n. t.pongs.there n i.runs ∙ rw (i.answers, none (replies n)) refl;
    }

-- ---- the ends

absent-quiet : (window : ℕ) (e : End) → is_absent e.phase ≡ true → OnlyRejects false e → IsQuiet window e
absent-quiet window e a o =
    let l : is_live e.phase ≡ false = not-live e.phase a in
    record { nothing = rw (o.syn, o.ack, o.rst, o.unsent, o.finished, l) refl; gone = not-lingering e.phase a }
  where
    not-live : (p : Phase) → is_absent p ≡ true → is_live p ≡ false
    not-live p e = grind arith

    not-lingering : (p : Phase) → is_absent p ≡ true → is_lingering p ≡ false
    not-lingering p e = grind arith

end-quiet : (s : Session) (id : ℕ) (o : Option End) (e : End) → IsIdle s → look id s.table.entries ≡ o → is_lingering e.phase ≡ false → Keeps s.answers id o e → IsQuiet s.table.window e
end-quiet s id None e i l g k = absent-quiet s.table.window e k.0 (subst (λ a. OnlyRejects (is_rejected id a) e) i.answers k.1)
end-quiet s id (Some d) e i l g k =
    let none = is-false (is_due s.table.window d) (λ due. let no : false ≡ true = sym i.due ∙ any-of s.table.window id s.table.entries d l due in absurd cc) in
    record { nothing = subst (λ z. is_due s.table.window z ≡ false) k.0 none; gone = g }

pub ends-quiet : (x y : Role) (w : World) (m : Machine) (h : AgreesAs x y w m) → IsIdle w.a → (id : ℕ) → IsQuiet h.streams.a.window (h.streams.a.ends id)
ends-quiet x y w m h i id =
    subst (λ z. IsQuiet z (h.streams.a.ends id)) (sym h.a.records.window) (end-quiet w.a id (look id w.a.table.entries) (h.streams.a.ends id) i refl (gone (look id w.a.table.entries) refl (h.a.records.each id)) (h.a.records.each id))
  where
    gone : (o : Option End) → look id w.a.table.entries ≡ o → Keeps w.a.answers id o (h.streams.a.ends id) → is_lingering (h.streams.a.ends id).phase ≡ false
    gone None l k = not-lingering (h.streams.a.ends id).phase k.0
      where
        not-lingering : (p : Phase) → is_absent p ≡ true → is_lingering p ≡ false
        not-lingering p e = grind arith
    gone (Some d) l k = subst (λ (z : End). is_lingering z.phase ≡ false) k.0 (none-linger w.a h.a.reaped i.runs i.ready id d l)

-- ---- lists

look-first : {X : Type 0} (p : ℕ × X) (ps : List (ℕ × X)) → look p.0 (p ∷ ps) ≡ Some p.1
look-first p ps = grind (arith, nat_tests)

look-rest : {X : Type 0} (id : ℕ) (p : ℕ × X) (ps : List (ℕ × X)) → id ≢ p.0 → look id (p ∷ ps) ≡ look id ps
look-rest id p ps n = grind (arith, nat_tests)

-- what holds of each number's stream holds of each stream
all-streams : (mine yours : ℕ) (xs : List (ℕ × Stream)) → NumbersOnce xs → ((id : ℕ) → StillIf mine yours (look id xs)) → All (λ p. IsStill mine yours p.1) xs
all-streams mine yours [] o h = All-nil (λ p. IsStill mine yours p.1)
all-streams mine yours (p ∷ ps) o h =
    All-cons (λ p. IsStill mine yours p.1) p ps (subst (StillIf mine yours) (look-first p ps) (h p.0))
    (all-streams mine yours ps o.1 (λ id. elim (same_or_not id p.0) [
      | inl q ↦ subst (StillIf mine yours) (sym (ap (λ i. look i ps) q ∙ o.0)) tt
      | inr n ↦ subst (StillIf mine yours) (look-rest id p ps n) (h id)
    ]))

back-place : (z : PingPlace) → is_asked_at (Some z) ≡ false → is_there_at (Some z) ≡ false → place_is_back z ≡ true
back-place Asked a b = absurd cc
back-place There a b = absurd cc
back-place Back a b = refl

all-back : (places : List (ℕ × PingPlace)) → Distinct places → ((n : ℕ) → is_asked_at (look n places) ≡ false) → ((n : ℕ) → is_there_at (look n places) ≡ false) → All (λ p. place_is_back p.1 ≡ true) places
all-back [] d a b = All-nil (λ p. place_is_back p.1 ≡ true)
all-back (p ∷ ps) d a b =
    All-cons (λ p. place_is_back p.1 ≡ true) p ps
    (back-place p.1 (subst (λ o. is_asked_at o ≡ false) (look-first p ps) (a p.0)) (subst (λ o. is_there_at o ≡ false) (look-first p ps) (b p.0)))
    (all-back ps d.1 (λ n. rest is_asked_at refl a n) (λ n. rest is_there_at refl b n))
  where
    rest : (test : Option PingPlace → Bool) → test None ≡ false → ((n : ℕ) → test (look n (p ∷ ps)) ≡ false) → (n : ℕ) → test (look n ps) ≡ false
    rest test e h n = elim (same_or_not n p.0) [
      | inl q ↦ ap test (ap (λ i. look i ps) q ∙ d.0) ∙ e
      | inr o ↦ ap test (sym (look-rest n p ps o)) ∙ h n
    ]

-- ---- the machine

record IsQuietPipe (p : Pipe) : Type 0 where
  bytes : p.bytes ≡ []
  open_ : p.stopped ≡ false

is-open : (b : Bool) → not b ≡ true → b ≡ false
is-open true e = absurd cc
is-open false e = refl

quiet-pipe : (p : Pipe) → is_quiet_pipe p ≡ true → IsQuietPipe p
quiet-pipe p q =
    let a = both_of (is_empty p.bytes && not p.stopped) (not p.ended) q in
    let b = both_of (is_empty p.bytes) (not p.stopped) a.0 in
    record { bytes = empty-bytes p.bytes b.0; open_ = is-open p.stopped b.1 }

still-as : (x y : Role) (w : World) (m : Machine) (h : AgreesAs x y w m) → IsIdle w.a → IsIdle w.b → IsQuietPipe w.ab → IsQuietPipe w.ba → IsStillMachine m
unfolding mirrors-agree
still-as x y w m h a b p q =
    let g = h.streams in
    let k = mirrors-agree x y w m h in
    let ab = still-way x y w m h a b.runs p.bytes p.open_ in
    let ba = still-way y x (world_mirror w) (mirror_machine m) k b a.runs q.bytes q.open_ in
    let quiet : IsQuietWorld g = record {
      a_runs = h.a.records.over ∙ ap not a.runs;
      b_runs = h.b.records.over ∙ ap not b.runs;
      ab = ab.none;
      ba = ba.none;
      a = ends-quiet x y w m h a;
      b = ends-quiet y x (world_mirror w) (mirror_machine m) k b;
    } in
    let mine : g.a.window ≡ m.me.window = h.a.records.window ∙ sym h.a.whole.window in
    let yours : g.b.window ≡ m.you.window = h.b.records.window ∙ sym h.b.whole.window in
    let each : (id : ℕ) → StillIf g.a.window g.b.window (look id m.streams) = all-still g (found m) quiet h.refines in
    record {
      streams = all-streams m.me.window m.you.window m.streams h.order.order.once (λ id. subst (λ n. StillIf m.me.window n (look id m.streams)) yours (subst (λ n. StillIf n g.b.window (look id m.streams)) mine (each id)));
      away_me = ab.away;
      away_you = ba.away;
      pings_me = all-back m.me.pings (places-distinct m.me.pings w.a.pings.pending h.a.pings.numbers h.a.within.pings.once) ab.asked ba.there;
      pings_you = all-back m.you.pings (places-distinct m.you.pings w.b.pings.pending h.b.pings.numbers h.b.within.pings.once) ba.asked ab.there;
    }

pub still : (x y : Role) (w : World) (m : Machine) → AgreesAs x y w m → is_quiet w ≡ true → IsStillMachine m
still x y w m h q =
    let p5 = both_of _ (is_quiet_pipe w.ba) q in
    let p4 = both_of _ (is_quiet_pipe w.ab) p5.0 in
    let p3 = both_of _ (is_running w.b.status) p4.0 in
    let p2 = both_of _ (is_running w.a.status) p3.0 in
    let p1 = both_of (not (is_ready w.a)) (not (is_ready w.b)) p2.0 in
    still-as x y w m h (idle w.a p2.1 (is-open (is_ready w.a) p1.0)) (idle w.b p3.1 (is-open (is_ready w.b) p1.1)) (quiet-pipe w.ab p4.1) (quiet-pipe w.ba p5.1)
