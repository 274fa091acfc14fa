-- How what waits is fed, and passed on.
use Rattle.std.proofs.Common.{◌≡◌, ℕ, ◌+◌, ◌-◌, ◌≤◌, List, [], ◌∷◌, ◌++◌, length, take, drop, Bool, true, false, ◌||◌, ◌&&◌, Option, refl, sym, ap, ◌∙◌, subst, arith, append-nil, append_assoc, take-append-drop, length-append, drop-drop, ◌<◌, inl, inr, min}
use Rattle.std.specs.Prelude.{option_map}
use Rattle.std.specs.Io.KnownBytes.{Appends}
use Rattle.std.proofs.lemmas.Grind.{common_steps}
use Rattle.std.proofs.Math.Seq.{take-append_seam}
use Rattle.std.proofs.lemmas.List.{length-take-le, length-drop, drop-append-le}
use Rattle.std.proofs.lemmas.List.Folds.{list_all-append}
use Rattle.ymx_machine.specs.declared.types.Call.TheVariants as call
use Rattle.ymx_machine.specs.shared.Events.{Reply}
use Rattle.ymx_model.specs.session.Events.{Event}
use Rattle.ymx_model.specs.declared.types.Event.TheVariants as event
use Rattle.ymx_model.specs.session.Sessions.{Session}
use Rattle.ymx_model.specs.session.Emissions.{in_turn}
use Rattle.ymx_model.specs.session.Histories.{Gives}
use Rattle.ymx_engine.specs.declared.directions.Directions.{Directions}
use Rattle.ymx_engine.specs.declared.device.Pushed.TheVariants as pushed
use Rattle.ymx_engine.specs.Devices.{Seen, Marks, may_take_more, IsPushed, IsShut}
use Rattle.ymx_engine.specs.declared.device.Pushed.{Pushed}
use Rattle.ymx_engine.specs.Events.{Happen, given}
use Rattle.ymx_engine.specs.Engines.{Engine}
use Rattle.ymx_engine.specs.Wires.{fed_at, fed, is_of_read, has_feed_end, FeedsFront, HandlesIn, OffersFront, ReadsWire, rejections}
use Rattle.ymx_engine.specs.Passes.{PassesOn, OffersOnce, Commits}
use Rattle.ymx_engine.proofs.Exchanging.{happen_then, or_same, or_none, or_true, same_id, none_pushed, some_bytes, take_both}
use Rattle.ymx_engine.proofs.Following.{directions_passed, directions_reset, breaks}
use Rattle.ymx_engine.specs.Directions.{break_if, may_push, is_open}
use Rattle.ymx_engine.proofs.Quiet.{both}
use Rattle.ymx_machine.specs.declared.types.Fed.{Fed}
use Rattle.ymx_machine.specs.declared.types.Reply.TheVariants as reply
use Rattle.ymx_session.specs.Passing.{FeedsSome}
use Rattle.ymx_engine.proofs.Carrying.{feed_end_then, gives_from}

-- How what waits is fed piece by piece, and what of it is passed on.

-- ---- what is fed

pub fed_then : (es fs : List (Event × Reply)) → fed (es ++ fs) ≡ fed es ++ fed fs
fed_then [] fs = refl
fed_then (e ∷ es) fs = ap (λ (xs : List ℕ). fed_at e.0 e.1 ++ xs) (fed_then es fs) ∙ sym (append_assoc (fed_at e.0 e.1) (fed es) (fed fs))

drop_none : (xs : List ℕ) → drop 0 xs ≡ xs
drop_none xs = refl

pub drop_front : (xs ys : List ℕ) → drop (length xs) (xs ++ ys) ≡ ys
drop_front [] ys = drop_none ys
drop_front (x ∷ xs) ys = drop_front xs ys

pub drop_twice : (xs ys zs : List ℕ) → drop (length (xs ++ ys)) zs ≡ drop (length ys) (drop (length xs) zs)
drop_twice xs ys zs = ap (λ (n : ℕ). drop n zs) (length-append xs ys) ∙ sym (drop-drop (length ys) (length xs) zs)

-- feeds after feeds offer the front of what waits then
pub fronts_then : (es fs : List (Event × Reply)) (waits next : List ℕ) → drop (length (fed es)) waits ≡ next → FeedsFront waits es → FeedsFront next fs → FeedsFront waits (es ++ fs)
fronts_then [] fs waits next e h k = subst (λ (v : List ℕ). FeedsFront v fs) (sym e) k
fronts_then (e ∷ es) fs waits next same h k = (h.0, fronts_then es fs (drop (length (fed_at e.0 e.1)) waits) next (sym (drop_twice (fed_at e.0 e.1) (fed es) waits) ∙ same) h.1 k)

pub rest_of : (es : List (Event × Reply)) (waits next : List ℕ) → waits ≡ fed es ++ next → drop (length (fed es)) waits ≡ next
rest_of es waits next e = ap (drop (length (fed es))) e ∙ drop_front (fed es) next

pub fed_on : (es fs : List (Event × Reply)) (a b c : List ℕ) → a ≡ fed es ++ b → b ≡ fed fs ++ c → a ≡ fed (es ++ fs) ++ c
fed_on es fs a b c e f =
    e ∙ ap (λ (v : List ℕ). fed es ++ v) f ∙ sym (append_assoc (fed es) (fed fs) c) ∙ ap (λ (v : List ℕ). v ++ c) (sym (fed_then es fs))

pub handles_then : (a b c : Engine) → HandlesIn false a b → HandlesIn false b c → HandlesIn false a c
handles_then a b c x y = record {
  events = x.events ++ y.events;
  happen = happen_then x.events y.events _ _ _ x.happen y.happen;
  own = rw (list_all-append (λ (e : Event × Reply). is_of_read e.0) x.events y.events, x.own, y.own) refl;
  fronts = fronts_then x.events y.events a.incoming b.incoming (rest_of x.events a.incoming b.incoming x.from_wire) x.fronts y.fronts;
  from_wire = fed_on x.events y.events a.incoming b.incoming c.incoming x.from_wire y.from_wire;
  outgoing = y.outgoing ∙ x.outgoing;
  heard = feed_end_then x.events y.events ∙ ap (λ (v : Bool). v || has_feed_end y.events) x.heard ∙ y.heard;
}

-- bytes were called for, and then what waits was fed
pub reads_then_handles : (a b c : Engine) (p q : Seen) (n : ℕ) → ReadsWire a b p q n → HandlesIn false b c → ReadsWire a c p q n
reads_then_handles a b c p q n x y = record {
  events = x.events ++ y.events;
  happen = happen_then x.events y.events _ _ _ x.happen y.happen;
  own = rw (list_all-append (λ (e : Event × Reply). is_of_read e.0) x.events y.events, x.own, y.own) refl;
  came = x.came;
  gave = x.gave;
  fronts = fronts_then x.events y.events (a.incoming ++ x.came) b.incoming (rest_of x.events (a.incoming ++ x.came) b.incoming x.from_wire) x.fronts y.fronts;
  from_wire = fed_on x.events y.events (a.incoming ++ x.came) b.incoming c.incoming x.from_wire y.from_wire;
  said_end = x.said_end;
  over = x.over;
  fails = x.fails;
  failed = x.failed;
  lost = feed_end_then x.events y.events ∙ ap (λ (v : Bool). has_feed_end x.events || v) y.heard ∙ or_none (has_feed_end x.events) ∙ x.lost;
  outgoing = y.outgoing ∙ x.outgoing;
  had = x.had;
  ended = x.ended;
  shut = x.shut;
  few = x.few;
}

pub fits : (s t : Session) (bytes : List ℕ) (told : Fed) → Gives in_turn s (event.Feed bytes) (reply.Fed told) t → told.taken ≤ length bytes
fits s t bytes told g = let i : (g.0).taken ≤ length bytes = (g.2).fits in let same : told ≡ g.0 = cc in subst (λ (f : Fed). f.taken ≤ length bytes) (sym same) i

pub takes_within : (s t : Session) (waits : List ℕ) (told : Fed) → FeedsSome s waits told t → told.taken ≤ length waits
takes_within s t waits told x =
    let i = fits s t (take x.count waits) told x.feeds in
    let j : length (take x.count waits) ≡ x.count = length-take-le x.count waits x.within in
    let k = x.within in omega arith

pub takes_same : (s t : Session) (waits : List ℕ) (told : Fed) → (x : FeedsSome s waits told t) → take told.taken (take x.count waits) ≡ take told.taken waits
takes_same s t waits told x =
    let i = fits s t (take x.count waits) told x.feeds in
    let j : length (take x.count waits) ≡ x.count = length-take-le x.count waits x.within in
    take_both told.taken x.count waits (omega arith)

-- the session was fed the first bytes, so many at most
pub feeds_first : (s t : Session) (n m : ℕ) (xs ys : List ℕ) (told : Fed) → xs ≡ ys → m ≡ min n (length xs) → Gives in_turn s (event.Feed (take m xs)) (reply.Fed told) t → FeedsSome s ys told t
feeds_first s t n m xs ys told e least g =
    let same : length xs ≡ length ys = ap length e in record {
      count = m;
      within = omega arith;
      feeds = subst (λ (v : List ℕ). Gives in_turn s (event.Feed (take m v)) (reply.Fed told) t) e g;
    }

-- the first bytes of what waits were offered
pub feeds_some : (a b : Engine) (told : Fed) (s : Session) (waits : List ℕ) → s ≡ a.session → waits ≡ a.incoming → FeedsSome s waits told b.session →
    b.incoming ≡ drop told.taken a.incoming → b.outgoing ≡ a.outgoing → HandlesIn false a b
feeds_some a b told s waits same all x incoming outgoing =
    let y : FeedsSome s a.incoming told b.session = subst (λ (v : List ℕ). FeedsSome s v told b.session) all x in
    let g : Gives in_turn a.session (event.Feed (take y.count a.incoming)) (reply.Fed told) b.session = gives_from (event.Feed (take y.count a.incoming)) (reply.Fed told) s b.session a.session same y.feeds in
    record {
      events = (event.Feed (take y.count a.incoming), reply.Fed told) ∷ [];
      happen = (b.session, g, refl);
      own = refl;
      fronts = ((drop y.count a.incoming, sym (take-append-drop y.count a.incoming)), tt);
      from_wire = sym (take-append-drop told.taken a.incoming) ∙ ap (λ (v : List ℕ). v ++ drop told.taken a.incoming) (sym (takes_same s b.session a.incoming told y) ∙ sym (append-nil (take told.taken (take y.count a.incoming))))
          ∙ ap (λ (v : List ℕ). (take told.taken (take y.count a.incoming) ++ []) ++ v) (sym incoming);
      outgoing = outgoing;
      heard = refl;
    }

plus_none : (n : ℕ) → n + 0 ≡ n
plus_none n = omega arith

-- and as many streams were rejected as it says
pub feeds_some_so : (a b : Engine) (told : Fed) (s : Session) (waits : List ℕ) → s ≡ a.session → waits ≡ a.incoming → FeedsSome s waits told b.session →
    b.incoming ≡ drop told.taken a.incoming → b.outgoing ≡ a.outgoing → (h : HandlesIn false a b) × (rejections h.events ≡ told.no_memory)
unfolding feeds_some
feeds_some_so a b told s waits same all x incoming outgoing = (feeds_some a b told s waits same all x incoming outgoing, plus_none told.no_memory)

front_more : (waits more : List ℕ) (e : Event) → OffersFront waits e → OffersFront (waits ++ more) e
front_more waits more (event.Feed bytes) h = (h.0 ++ more, ap (λ (v : List ℕ). v ++ more) h.1 ∙ append_assoc bytes h.0 more)
front_more waits more (event.Call c) h = tt
front_more waits more event.FeedEnd h = tt
front_more waits more (event.Emit room) h = tt

taken_fits : (n : ℕ) (bytes rest waits : List ℕ) → waits ≡ bytes ++ rest → length (take n bytes) ≤ length waits
taken_fits n bytes rest waits e =
    let i : length waits ≡ length bytes + length rest = ap length e ∙ length-append bytes rest in
    let j : length (take n bytes) ≤ length bytes = grind (arith, common_steps) in omega arith

fed_fits : (waits : List ℕ) (e : Event) (told : Reply) → OffersFront waits e → length (fed_at e told) ≤ length waits
fed_fits waits (event.Feed bytes) (reply.Fed f) h = taken_fits f.taken bytes h.0 waits h.1
fed_fits waits e told h = omega arith

-- where more waits after what is offered
pub fronts_more : (waits more : List ℕ) (es : List (Event × Reply)) → FeedsFront waits es → FeedsFront (waits ++ more) es
fronts_more waits more [] h = tt
fronts_more waits more (e ∷ es) h = (
  front_more waits more e.0 h.0,
  subst (λ (v : List ℕ). FeedsFront v es) (sym (drop-append-le (length (fed_at e.0 e.1)) waits more (fed_fits waits e.0 e.1 h.0))) (fronts_more (drop (length (fed_at e.0 e.1)) waits) more es h.1),
)

-- ---- one offer

-- a push leaves the mark of bytes that may come, and turns that of bytes that it may take on for nothing
pull_stays : (r : Pushed) (bytes : List ℕ) (a b : Seen) → IsPushed r bytes a b → b.marks.may_pull ≡ true → a.marks.may_pull ≡ true
pull_stays r bytes a b p on = sym (ap (λ (m : Marks). m.may_pull) p.marks) ∙ on

push_stays : (r : Pushed) (bytes : List ℕ) (a b : Seen) → IsPushed r bytes a b → b.marks.may_push ≡ true → a.marks.may_push ≡ true
push_stays r bytes a b p on = (both a.marks.may_push (may_take_more r (length bytes)) (sym (ap (λ (m : Marks). m.may_push) p.marks) ∙ on)).0

and_none : (b : Bool) → (b && false) ≡ false
and_none true = refl
and_none false = refl

takes_none_now : (w : Directions) (bytes : List ℕ) (a b : Seen) → IsPushed pushed.NotNow bytes a b → may_push w b.marks ≡ false
takes_none_now w bytes a b p = ap (λ (m : Marks). m.may_push && is_open w.from_peer) p.marks ∙ ap (λ (v : Bool). v && is_open w.from_peer) (and_none a.marks.may_push)

-- the device took nothing, and did not fail
pub offered_none : (id : ℕ) (s : Session) (payload waits : List ℕ) (a b : Seen) (w : Directions) → IsPushed pushed.NotNow payload a b → OffersOnce id waits 0 s s a b w w
offered_none id s payload waits a b w p = record {
  events = [];
  happen = refl;
  own = refl;
  fronts = tt;
  starves = refl;
  within = omega arith;
  took = refl;
  from_peer = none_pushed pushed.NotNow payload a b p refl;
  fails = false;
  failed = p.failed;
  reset = refl;
  left = p.left;
  over = p.over;
  ended = p.ended ∙ or_same a.ended;
  shut = p.shut ∙ or_same a.shut;
  few = let i = p.counted in omega arith;
  directions = refl;
  delivers = inr (takes_none_now w payload a b p);
  pull_on = λ on. inl (pull_stays pushed.NotNow payload a b p on);
  push_on = λ on. inl (push_stays pushed.NotNow payload a b p on);
}

pub take_all : (xs : List ℕ) → take (length xs) xs ≡ xs
take_all xs = grind (arith, common_steps)

front_is : (front waits : List ℕ) (count : ℕ) → count ≤ length waits → waits ≡ front ++ drop count waits → front ≡ take count waits
front_is front waits count within e =
    let l : length waits ≡ length front + length (drop count waits) = ap length e ∙ length-append front (drop count waits) in
    let m : length (drop count waits) ≡ length waits - count = length-drop count waits in
    let n : length front ≡ count = omega arith in sym (take-append_seam front (drop count waits)) ∙ ap (take (length front)) (sym e) ∙ ap (λ (k : ℕ). take k waits) n

-- the device took the first bytes, which came and were read
pub offered_some : (id n count : ℕ) (s t : Session) (payload waits : List ℕ) (a b : Seen) (w : Directions) → IsPushed (pushed.Took n) payload a b → 0 < n → count ≤ length waits → Commits id (take n payload) waits (drop count waits) s t →
    OffersOnce id waits count s t a b w w
offered_some id n count s t payload waits a b w p some within x = record {
  events = x.events;
  happen = x.happen;
  own = x.own;
  fronts = x.fronts;
  starves = x.starves;
  within = within;
  took = front_is (fed x.events) waits count within x.took;
  from_peer = subst (Appends a.had b.had) (sym x.gave) p.took;
  fails = false;
  failed = p.failed;
  reset = x.resets;
  left = p.left;
  over = p.over;
  ended = rw x.ends (p.ended ∙ or_same a.ended);
  shut = rw x.stops (p.shut ∙ or_same a.shut);
  few = let j = p.counted in omega arith;
  directions = sym (directions_passed id x.events w x.own x.ends x.stops);
  delivers = inl (some_bytes (given id x.events) (subst (λ (v : List ℕ). 0 < length v) (sym x.gave) (let l = length-take-le n payload p.within in omega arith)));
  pull_on = λ on. inl (pull_stays (pushed.Took n) payload a b p on);
  push_on = λ on. inl (push_stays (pushed.Took n) payload a b p on);
}

-- the device failed: the stream was reset, and the device shut
pub offered_failed : (id : ℕ) (told : Reply) (s t : Session) (payload waits : List ℕ) (a b c : Seen) (v w : Directions) → IsPushed pushed.Failed payload a b → Gives in_turn s (event.Call (call.Reset id)) told t → IsShut b c →
    w ≡ record v { to_peer = break_if true v.to_peer; from_peer = break_if true v.from_peer } → OffersOnce id waits 0 s t a c v w
offered_failed id told s t payload waits a b c v w p g q broken =
    let i = same_id id in
    let e : Event = event.Call (call.Reset id) in
    record {
      events = (e, told) ∷ [];
      happen = (t, g, refl);
      own = rw i refl;
      fronts = (tt, tt);
      starves = refl;
      within = omega arith;
      took = refl;
      from_peer = subst (λ (o : Option (List ℕ)). Appends a.had o []) (sym q.had) (none_pushed pushed.Failed payload a b p refl);
      fails = true;
      failed = q.failed ∙ p.failed;
      reset = rw i refl;
      left = q.left ∙ p.left;
      over = q.over ∙ p.over;
      ended = q.ended ∙ p.ended ∙ or_same a.ended;
      shut = rw i (q.shut ∙ ap (option_map (λ x. true)) p.shut ∙ or_true a.shut);
      few = let j = p.counted in let k = q.counted in omega arith;
      directions = broken ∙ sym (directions_reset id told v);
      delivers = inr (ap (λ (x : Directions). c.marks.may_push && is_open x.from_peer) broken ∙ ap (λ (b : Bool). c.marks.may_push && b) (breaks v.from_peer) ∙ and_none c.marks.may_push);
      pull_on = λ on. inr (rw i refl);
      push_on = λ on. inr (rw i refl);
    }

-- the front of what waits was offered
pub offers_front : (id count : ℕ) (waits : List ℕ) (a b : Engine) (s : Session) (d e : Seen) (v w : Directions) → s ≡ a.session → waits ≡ a.incoming → OffersOnce id waits count s b.session d e v w →
    b.incoming ≡ drop count a.incoming → b.outgoing ≡ a.outgoing → PassesOn id a b d e 2 v w
offers_front id count waits a b s d e v w same all x incoming outgoing =
    let y : OffersOnce id a.incoming count s b.session d e v w = subst (λ (bytes : List ℕ). OffersOnce id bytes count s b.session d e v w) all x in record {
      events = y.events;
      happen = subst (λ (v : Session). Happen y.events v b.session) same y.happen;
      own = y.own;
      fronts = y.fronts;
      starves = y.starves;
      from_wire = sym (take-append-drop count a.incoming) ∙ ap (λ (v : List ℕ). v ++ drop count a.incoming) (sym y.took) ∙ ap (λ (v : List ℕ). fed y.events ++ v) (sym incoming);
      from_peer = y.from_peer;
      fails = y.fails;
      failed = y.failed;
      reset = y.reset;
      outgoing = outgoing;
      left = y.left;
      over = y.over;
      ended = y.ended;
      shut = y.shut;
      few = y.few;
      directions = y.directions;
      pull_on = y.pull_on;
      push_on = y.push_on;
    }
