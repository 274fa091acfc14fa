-- How an engine and its wire go on.
use Rattle.std.proofs.Common.{◌≡◌, ℕ, ◌+◌, ◌-◌, ◌^◌, min, ◌≤◌, ◌==◌, List, [], ◌∷◌, ◌++◌, length, take, drop, Bool, true, false, ◌||◌, refl, sym, ap, ◌∙◌, subst, arith, append-nil, append_assoc, take-append-drop}
use Rattle.std.proofs.Math.Bool.{or_assoc}
use Rattle.std.proofs.lemmas.Grind.{common_steps}
use Rattle.std.proofs.KnownBytes.{Appends-nil, Appends-trans, Consumes-nil}
use Rattle.std.proofs.lemmas.List.Folds.{list_all-append}
use Rattle.ymx_model.specs.session.Events.{Event}
use Rattle.ymx_model.specs.declared.types.Event.TheVariants as event
use Rattle.ymx_machine.specs.shared.Events.{Reply}
use Rattle.ymx_machine.specs.declared.types.Reply.TheVariants as reply
use Rattle.ymx_machine.specs.declared.types.Fed.{Fed}
use Rattle.ymx_model.specs.session.Sessions.{Session}
use Rattle.ymx_model.specs.session.Emissions.{in_turn}
use Rattle.ymx_model.specs.session.Histories.{Gives}
use Rattle.ymx_engine.specs.Exchanges.{has_bytes}
use Rattle.ymx_engine.specs.declared.device.Pulled.{Pulled}
use Rattle.ymx_engine.specs.declared.device.Pushed.{Pushed}
use Rattle.std.specs.Prelude.{option_map}
use Rattle.ymx_engine.specs.Devices.{Seen, pulled_count, pushed_count, is_end, is_pull_failure, is_push_failure}
use Rattle.ymx_engine.specs.Events.{Happen}
use Rattle.ymx_engine.specs.Engines.{Engine}
use Rattle.ymx_engine.specs.Wires.{emitted_at, emitted, is_of_flush, ends_feed, has_feed_end, FeedsFront, ReadsWire, ReadsWireSo, FlushesWire, FlushesWireSo, HandlesIn, HandlesOut, TakesIn, GivesOut, count_on, rejections}
use Rattle.ymx_engine.proofs.Exchanging.{happen_then, or_same, or_twice}

pub emitted_then : (es fs : List (Event × Reply)) → emitted (es ++ fs) ≡ emitted es ++ emitted fs
emitted_then [] fs = refl
emitted_then (e ∷ es) fs = ap (λ (xs : List ℕ). emitted_at e.0 e.1 ++ xs) (emitted_then es fs) ∙ sym (append_assoc (emitted_at e.0 e.1) (emitted es) (emitted fs))

pub feed_end_then : (es fs : List (Event × Reply)) → has_feed_end (es ++ fs) ≡ (has_feed_end es || has_feed_end fs)
feed_end_then [] fs = refl
feed_end_then (e ∷ es) fs = ap (λ (b : Bool). ends_feed e.0 || b) (feed_end_then es fs) ∙ sym (or_assoc (ends_feed e.0) (has_feed_end es) (has_feed_end fs))

pub rejected_then : (es fs : List (Event × Reply)) → rejections (es ++ fs) ≡ rejections es + rejections fs
rejected_then [] fs = let none : rejections [] ≡ 0 = refl in omega (arith, none)
rejected_then (e ∷ es) fs = let rest = rejected_then es fs in omega (arith, rest)

-- so many more, and then so many
count_then : (most n a b : ℕ) → (n + min a (most - n)) + min b (most - (n + min a (most - n))) ≡ n + min (a + b) (most - n)
count_then most n a b = grind arith

-- how many were rejected before, and then at these events
pub memory_then : (x y z : ℕ) (es fs all : List (Event × Reply)) → all ≡ es ++ fs → y ≡ count_on x (rejections es) → z ≡ count_on y (rejections fs) → z ≡ count_on x (rejections all)
memory_then x y z es fs all e p q = q ∙ ap (λ (v : ℕ). count_on v (rejections fs)) p ∙ count_then (2 ^ 64 - 1) x (rejections es) (rejections fs) ∙ ap (λ (v : ℕ). count_on x v) (sym (rejected_then es fs) ∙ ap rejections (sym e))

count_none : (most n : ℕ) → n + min 0 (most - n) ≡ n
count_none most n = grind arith

-- none was rejected at these events
pub memory_same : (x y : ℕ) (es : List (Event × Reply)) → y ≡ x → rejections es ≡ 0 → y ≡ count_on x (rejections es)
memory_same x y es e none = e ∙ sym (ap (λ (v : ℕ). count_on x v) none ∙ count_none (2 ^ 64 - 1) x)

-- what waited and came is what went and waits, twice
pub waits_on : (a b c came went more gone : List ℕ) → a ++ came ≡ went ++ b → b ++ more ≡ gone ++ c → a ++ (came ++ more) ≡ (went ++ gone) ++ c
waits_on a b c came went more gone p q =
    sym (append_assoc a came more) ∙ ap (λ (v : List ℕ). v ++ more) p ∙ append_assoc went b more ∙ ap (λ (v : List ℕ). went ++ v) q ∙ sym (append_assoc went gone c)

pub flushes_then : (a b c : Engine) (p q r : Seen) (n m : ℕ) → FlushesWire a b p q n → FlushesWire b c q r m → FlushesWire a c p r (n + m)
flushes_then a b c p q r n m x y = record {
  events = x.events ++ y.events;
  happen = happen_then x.events y.events _ _ _ x.happen y.happen;
  own = rw (list_all-append (λ (e : Event × Reply). is_of_flush e.0) x.events y.events, x.own, y.own) refl;
  sent = x.sent ++ y.sent;
  took = Appends-trans p.had q.had r.had _ _ x.took y.took;
  to_wire = ap (λ (v : List ℕ). a.outgoing ++ v) (emitted_then x.events y.events) ∙ waits_on a.outgoing b.outgoing c.outgoing (emitted x.events) x.sent (emitted y.events) y.sent x.to_wire y.to_wire;
  fails = x.fails || y.fails;
  failed = y.failed ∙ ap (option_map (λ b. b || y.fails)) x.failed ∙ or_twice x.fails y.fails p.failed;
  lost = feed_end_then x.events y.events ∙ ap (λ (b : Bool). b || has_feed_end y.events) x.lost ∙ ap (λ (b : Bool). x.fails || b) y.lost;
  incoming = y.incoming ∙ x.incoming;
  left = y.left ∙ x.left;
  over = y.over ∙ x.over;
  ended = y.ended ∙ x.ended;
  shut = y.shut ∙ x.shut;
  few = let i = x.few in let j = y.few in omega arith;
}

pub flushes_more : (a b : Engine) (p q : Seen) (n m : ℕ) → n ≤ m → FlushesWire a b p q n → FlushesWire a b p q m
flushes_more a b p q n m le x = record { events = x.events; happen = x.happen; own = x.own; sent = x.sent; took = x.took; to_wire = x.to_wire; fails = x.fails; failed = x.failed; lost = x.lost; incoming = x.incoming; left = x.left; over = x.over; ended = x.ended; shut = x.shut; few = let i = x.few in omega arith }

pub flushes_same : (a : Engine) (d : Seen) (n : ℕ) → FlushesWire a a d d n
flushes_same a d n = record { events = []; happen = refl; own = refl; sent = []; took = Appends-nil d.had; to_wire = append-nil a.outgoing; fails = false; failed = or_same d.failed; lost = refl; incoming = refl; left = refl; over = refl; ended = refl; shut = refl; few = omega arith }

pub reads_same : (a : Engine) (d : Seen) (n : ℕ) → ReadsWire a a d d n
reads_same a d n = record { events = []; happen = refl; own = refl; came = []; gave = Consumes-nil d.left; fronts = tt; from_wire = append-nil a.incoming; said_end = false; over = or_same d.over; fails = false; failed = or_same d.failed; lost = refl; outgoing = refl; had = refl; ended = refl; shut = refl; few = omega arith }

pub gives_from : (e : Event) (told : Reply) (s t u : Session) → s ≡ u → Gives in_turn s e told t → Gives in_turn u e told t
gives_from e told s t u same g = subst (λ (v : Session). Gives in_turn v e told t) same g

-- ---- parts of a turn

pub handles_in_none : (a : Engine) → HandlesIn false a a
handles_in_none a = record { events = []; happen = refl; own = refl; fronts = tt; from_wire = refl; outgoing = refl; heard = refl }

pub handles_none_so : (a : Engine) → (h : HandlesIn false a a) × (rejections h.events ≡ 0)
unfolding handles_in_none
handles_none_so a = (handles_in_none a, refl)

pub handles_out_none : (a : Engine) → HandlesOut false a a
handles_out_none a = record {
  events = [];
  happen = refl;
  own = refl;
  to_wire = append-nil a.outgoing;
  incoming = refl;
  heard = refl;
}

-- no bytes were called for
pub reads_handled : (a b : Engine) (d : Seen) (n : ℕ) → HandlesIn false a b → ReadsWire a b d d n
reads_handled a b d n x = record { events = x.events; happen = x.happen; own = x.own; came = []; gave = Consumes-nil d.left; fronts = subst (λ (v : List ℕ). FeedsFront v x.events) (sym (append-nil a.incoming)) x.fronts; from_wire = append-nil a.incoming ∙ x.from_wire; said_end = false; over = or_same d.over; fails = false; failed = or_same d.failed; lost = x.heard; outgoing = x.outgoing; had = refl; ended = refl; shut = refl; few = omega arith }

-- and just that happened
pub reads_handled_so : (a b : Engine) (d e : Seen) (n : ℕ) (x : HandlesIn false a b) → e ≡ d → (r : ReadsWire a b d e n) × (r.events ≡ x.events)
unfolding reads_handled
reads_handled_so a b d e n x same = subst (λ (v : Seen). (r : ReadsWire a b d v n) × (r.events ≡ x.events)) (sym same) (reads_handled a b d n x, refl)

pub flushes_to : (a b c : Engine) (d : Seen) (n : ℕ) → c ≡ b → FlushesWire a b d d n → FlushesWire a c d d n
flushes_to a b c d n e x = subst (λ (v : Engine). FlushesWire a v d d n) (sym e) x

pub flushes_handled : (a b : Engine) (d : Seen) (n : ℕ) → HandlesOut false a b → FlushesWire a b d d n
flushes_handled a b d n x = record { events = x.events; happen = x.happen; own = x.own; sent = []; took = Appends-nil d.had; to_wire = x.to_wire; fails = false; failed = or_same d.failed; lost = x.heard; incoming = x.incoming; left = refl; over = refl; ended = refl; shut = refl; few = omega arith }

-- the wire was called for bytes, and what it said was heard
pub pulled_heard : (r : Pulled) (a b c : Engine) (d e : Seen) → a.incoming ≡ [] → TakesIn r a b d e → HandlesIn (is_end r || is_pull_failure r) b c → ReadsWireSo (is_end r) (is_pull_failure r) a c d e 1
pulled_heard r a b c d e none t x =
    let now : a.incoming ++ take (pulled_count r) t.buffer ≡ b.incoming = ap (λ (v : List ℕ). v ++ take (pulled_count r) t.buffer) none ∙ sym t.incoming in
    let moved : ReadsWire a c d e 1 = record {
      events = x.events;
      happen = subst (λ (s : Session). Happen x.events s c.session) t.session x.happen;
      own = x.own;
      came = take (pulled_count r) t.buffer;
      gave = t.pulled.gave;
      fronts = subst (λ (v : List ℕ). FeedsFront v x.events) (sym now) x.fronts;
      from_wire = now ∙ x.from_wire;
      said_end = is_end r;
      over = t.pulled.over;
      fails = is_pull_failure r;
      failed = t.pulled.failed;
      lost = x.heard;
      outgoing = x.outgoing ∙ t.outgoing;
      had = t.pulled.had;
      ended = t.pulled.ended;
      shut = t.pulled.shut;
      few = t.pulled.counted;
    } in (moved, refl, refl)

-- and what came is what it gave, and just that happened
pub pulled_so : (r : Pulled) (a b c : Engine) (d e : Seen) (none : a.incoming ≡ []) (t : TakesIn r a b d e) (x : HandlesIn (is_end r || is_pull_failure r) b c) →
    (m : ReadsWire a c d e 1) × (m.came ≡ take (pulled_count r) t.buffer) × (m.events ≡ x.events)
unfolding pulled_heard
pulled_so r a b c d e none t x = ((pulled_heard r a b c d e none t x).0, refl, refl)

-- the wire was called with bytes, and what it said was heard
pub pushed_heard : (r : Pushed) (a b c : Engine) (d e : Seen) → GivesOut r a b d e → HandlesOut (is_push_failure r) b c → FlushesWireSo (is_push_failure r) a c d e 1
pushed_heard r a b c d e g x =
    let n = pushed_count r in
    let moved : FlushesWire a c d e 1 = record {
      events = x.events;
      happen = subst (λ (s : Session). Happen x.events s c.session) g.session x.happen;
      own = x.own;
      sent = take n a.outgoing;
      took = g.pushed.took;
      to_wire = ap (λ (v : List ℕ). v ++ emitted x.events) (sym (take-append-drop n a.outgoing)) ∙ append_assoc (take n a.outgoing) (drop n a.outgoing) (emitted x.events)
          ∙ ap (λ (v : List ℕ). take n a.outgoing ++ (v ++ emitted x.events)) (sym g.outgoing) ∙ ap (λ (v : List ℕ). take n a.outgoing ++ v) x.to_wire;
      fails = is_push_failure r;
      failed = g.pushed.failed;
      lost = x.heard;
      incoming = x.incoming ∙ g.incoming;
      left = g.pushed.left;
      over = g.pushed.over;
      ended = g.pushed.ended;
      shut = g.pushed.shut;
      few = g.pushed.counted;
    } in (moved, refl)

-- and what went is what the wire took of it
pub pushed_heard_so : (r : Pushed) (a b c : Engine) (d e : Seen) → GivesOut r a b d e → HandlesOut (is_push_failure r) b c → (m : FlushesWire a c d e 1) × (m.sent ≡ take (pushed_count r) a.outgoing)
unfolding pushed_heard
pushed_heard_so r a b c d e g x = ((pushed_heard r a b c d e g x).0, refl)

pub feeds_one : (a b : Engine) (told : Fed) (s : Session) (bytes : List ℕ) → s ≡ a.session → bytes ≡ a.incoming → Gives in_turn s (event.Feed bytes) (reply.Fed told) b.session →
    b.incoming ≡ drop told.taken a.incoming → b.outgoing ≡ a.outgoing → HandlesIn false a b
feeds_one a b told s bytes same waits h incoming outgoing =
    let k : Gives in_turn a.session (event.Feed bytes) (reply.Fed told) b.session = gives_from (event.Feed bytes) (reply.Fed told) s b.session a.session same h in
    let g : Gives in_turn a.session (event.Feed a.incoming) (reply.Fed told) b.session = subst (λ (v : List ℕ). Gives in_turn a.session (event.Feed v) (reply.Fed told) b.session) waits k in record {
      events = (event.Feed a.incoming, reply.Fed told) ∷ [];
      happen = (b.session, g, refl);
      own = refl;
      fronts = (([], sym (append-nil a.incoming)), tt);
      from_wire = sym (take-append-drop told.taken a.incoming) ∙ ap (λ (v : List ℕ). v ++ drop told.taken a.incoming) (sym (append-nil (take told.taken a.incoming)))
          ∙ ap (λ (v : List ℕ). (take told.taken a.incoming ++ []) ++ v) (sym incoming);
      outgoing = outgoing;
      heard = refl;
    }

pub loses_in : (a b : Engine) (s : Session) → s ≡ a.session → Gives in_turn s event.FeedEnd reply.Done b.session → b.incoming ≡ a.incoming → b.outgoing ≡ a.outgoing → HandlesIn true a b
loses_in a b s same h incoming outgoing = let g = gives_from event.FeedEnd reply.Done s b.session a.session same h in record { events = (event.FeedEnd, reply.Done) ∷ []; happen = (b.session, g, refl); own = refl; fronts = (tt, tt); from_wire = sym incoming; outgoing = outgoing; heard = refl }

pub loses_in_so : (a b : Engine) (s : Session) → s ≡ a.session → Gives in_turn s event.FeedEnd reply.Done b.session → b.incoming ≡ a.incoming → b.outgoing ≡ a.outgoing → (h : HandlesIn true a b) × (rejections h.events ≡ 0)
unfolding loses_in
loses_in_so a b s same h incoming outgoing = (loses_in a b s same h incoming outgoing, refl)

pub loses_out : (a b : Engine) (s : Session) → s ≡ a.session → Gives in_turn s event.FeedEnd reply.Done b.session → b.incoming ≡ a.incoming → b.outgoing ≡ a.outgoing → HandlesOut true a b
loses_out a b s same h incoming outgoing = let g = gives_from event.FeedEnd reply.Done s b.session a.session same h in record { events = (event.FeedEnd, reply.Done) ∷ []; happen = (b.session, g, refl); own = refl; to_wire = append-nil a.outgoing ∙ sym outgoing; incoming = incoming; heard = refl }

pub not_empty : (xs ys : List ℕ) → xs ≡ [] → xs ≡ ys → has_bytes ys ≡ true → ⊥
not_empty xs ys e s h = let no : false ≡ true = sym (ap has_bytes (sym s ∙ e)) ∙ h in cc

pub empty_of : (xs ys : List ℕ) (b : Bool) → b ≡ (length xs == 0) → xs ≡ ys → b ≡ true → ys ≡ []
empty_of [] ys b e s t = sym s
empty_of (x ∷ xs) ys b e s t = grind (arith, common_steps)
