-- What a read pump reads and feeds.
use Rattle.std.proofs.Common.{◌≡◌, ℕ, ◌+◌, ◌-◌, ◌^◌, ◌≤◌, List, [], ◌∷◌, ◌++◌, length, take, drop, min, Bool, Option, None, Some, Ok, Err, inl, inr, arith, refl, sym, ap, ◌∙◌, subst, append_assoc, append-nil, ◌⊎◌}
use Rattle.std.proofs.lemmas.Grind.{common_steps}
use Rattle.std.proofs.lemmas.List.{take_all, take-append-drop}
use Rattle.std.proofs.Math.Seq.{take-add}
use Rattle.std.specs.Io.KnownBytes.{Consumes}
use Rattle.std.proofs.KnownBytes.{Consumes-nil, Consumes-trans}
use Rattle.ymx_header.specs.declared.fault.Fault.{Fault}
use Rattle.ymx_machine.specs.declared.types.Fed.{Fed}
use Rattle.ymx_model.specs.declared.types.Event.TheVariants as event
use Rattle.ymx_machine.specs.declared.types.Reply.TheVariants as reply
use Rattle.ymx_model.specs.declared.types.Entry.{Entry}
use Rattle.ymx_seats.specs.Views.{SeatView}
use Rattle.ymx_memory.specs.declared.refused.RefusedAllocation.{RefusedAllocation}
use Rattle.ymx_hub.specs.Books.{Books, One, Does}
use Rattle.ymx_hub.proofs.Books.{books_same, books_at, books_weaker}
use Rattle.ymx_machine.specs.declared.types.Why.TheVariants as feed
use Rattle.ymx_hub.specs.declared.purged.Purged.{Purged}
use Rattle.ymx_hub.specs.Releasing.{Purges}
use Rattle.ymx_hub.proofs.Released.{purges_none}
use Rattle.ymx_hub.specs.declared.moving.FedAndPurged.{FedAndPurged}
use Rattle.ymx_connect.specs.declared.pump_end.PumpWhy.{PumpWhy}
use Rattle.ymx_connect.specs.declared.pump_end.PumpWhy.TheVariants.{End, Device, Broken, Memory, Gate, NoThread}
use Rattle.ymx_connect.specs.declared.pump_end.Stop.{Stop}
use Rattle.ymx_connect.specs.Pumps.{byte_count, IsFeed, AreFeeds, fault_of_feed, fault_of_end, TellsLast, IsLeft, EndsRead, ReadAdds, PumpRead}
use Rattle.ymx_connect.specs.Turns.{IsInside, SaysEnd, FeedsTo, FeedsFirst, TurnFed, FedAll, TurnRead}
use Rattle.ymx_connect.proofs.Counts.{counted_on, counted_none}

-- one feed, which took the first n of its bytes
one_feed : (seat : ℕ) (bytes : List ℕ) (fed : Fed) (es : List Entry) → fed.taken ≤ length bytes → One seat (event.Feed bytes) (reply.Fed fed) es → AreFeeds seat bytes (take fed.taken bytes) (drop fed.taken bytes) es
one_feed seat bytes fed es l o =
    let first = take fed.taken bytes in
    let rest = drop fed.taken bytes in
    let whole : first ++ rest ≡ bytes = take-append-drop fed.taken bytes in
    subst (λ (xs : List Entry). AreFeeds seat bytes first rest xs) (sym o.1) (
      first,
      [],
      rest,
      sym (append-nil first),
      record {
        named = refl;
        kept = rest;
        later = [];
        event = ap event.Feed (sym whole);
        fed = fed;
        reply = refl;
        count = grind (arith, common_steps);
        split = sym whole;
        next = sym (append-nil rest);
      },
      (refl, refl),
    )

-- more bytes that come after change nothing
feed_more : (seat : ℕ) (left first rest more : List ℕ) (e : Entry) → IsFeed seat left first rest e → IsFeed seat (left ++ more) first (rest ++ more) e
feed_more seat left first rest more e f = record {
  named = f.named;
  kept = f.kept;
  later = f.later ++ more;
  event = f.event;
  fed = f.fed;
  reply = f.reply;
  count = f.count;
  split = ap (λ (v : List ℕ). v ++ more) f.split ∙ append_assoc first rest more;
  next = ap (λ (v : List ℕ). v ++ more) f.next ∙ append_assoc f.kept f.later more;
}

feeds_more : (seat : ℕ) (left taken last more : List ℕ) (es : List Entry) → AreFeeds seat left taken last es → AreFeeds seat (left ++ more) taken (last ++ more) es
feeds_more seat left taken last more [] a = (a.0, ap (λ (v : List ℕ). v ++ more) a.1)
feeds_more seat left taken last more (e ∷ es) a =
    (a.0, a.1, a.2 ++ more, a.3, feed_more seat left a.0 a.2 more e a.4, feeds_more seat a.2 a.1 last more es a.5)

feeds_on : (seat : ℕ) (left first mid next last : List ℕ) (es ds : List Entry) → AreFeeds seat left first mid es → AreFeeds seat mid next last ds → AreFeeds seat left (first ++ next) last (es ++ ds)
feeds_on seat left first mid next last [] ds a b =
    subst (λ (v : List ℕ). AreFeeds seat left (v ++ next) last ds) (sym a.0) (subst (λ (v : List ℕ). AreFeeds seat v next last ds) (sym a.1) b)
feeds_on seat left first mid next last (e ∷ es) ds a b =
    (a.0, a.1 ++ next, a.2, ap (λ (v : List ℕ). v ++ next) a.3 ∙ append_assoc a.0 a.1 next, a.4, feeds_on seat a.2 a.1 mid next last es ds a.5 b)

-- ---- faults

-- a feed whose reply tells this fault, or none
one_tells : (seat : ℕ) (bytes : List ℕ) (fed : Fed) (fault : Option Fault) (es : List Entry) → fault_of_feed fed.why ≡ fault → One seat (event.Feed bytes) (reply.Fed fed) es → TellsLast fault es
one_tells seat bytes fed fault es t o = subst (λ (xs : List Entry). TellsLast fault xs) (sym o.1) t

-- entries that tell none, and then more
tells_on : (fault : Option Fault) (es ds : List Entry) → TellsLast None es → TellsLast fault ds → TellsLast fault (es ++ ds)
tells_on fault [] ds a b = b
tells_on fault (e ∷ []) [] a b = a ∙ sym b
tells_on fault (e ∷ []) (d ∷ ds) a b = (a, b)
tells_on fault (e ∷ f ∷ fs) ds a b = (a.0, tells_on fault (f ∷ fs) ds a.1 b)

-- ---- reasons

inside_left : (why : PumpWhy) (last : List ℕ) → IsInside why → IsLeft why last
inside_left End last i = absurd i
inside_left Device last i = absurd i
inside_left (Broken fault) last i = tt
inside_left (Memory refused) last i = tt
inside_left NoThread last i = absurd i
inside_left Gate last i = tt

inside_ends : (seat : ℕ) (why : PumpWhy) → IsInside why → EndsRead seat why []
inside_ends seat End i = absurd i
inside_ends seat Device i = absurd i
inside_ends seat (Broken fault) i = refl
inside_ends seat (Memory refused) i = refl
inside_ends seat NoThread i = absurd i
inside_ends seat Gate i = refl

-- a pump that said that its input ended, or had no memory for it, ended with no fault
ended_whole : (seat : ℕ) (why result : PumpWhy) (es : List Entry) → (why ≡ End) ⊎ (why ≡ Device) → SaysEnd seat why result es → fault_of_end result ≡ None
ended_whole seat why result es (inl e) (inl s) = ap fault_of_end (s.0 ∙ e)
ended_whole seat why result es (inr e) (inl s) = ap fault_of_end (s.0 ∙ e)
ended_whole seat why result es w (inr s) = ap fault_of_end s.0

none_left : (why : PumpWhy) → IsLeft why []
none_left End = refl
none_left Device = refl
none_left (Broken fault) = tt
none_left (Memory refused) = tt
none_left NoThread = tt
none_left Gate = tt

-- ---- a feed

-- a feed under the lock
pub fed_once : (keeps : Bool) (old new : SeatView) (bytes : List ℕ) (fed : Fed) (fault : Option Fault) → fault_of_feed fed.why ≡ fault → fed.taken ≤ length bytes → Books keeps old new (Does (event.Feed bytes) reply.Fed old.number (Ok fed)) → FeedsFirst keeps old new bytes fed.taken fault
fed_once keeps old new bytes fed fault t l g =
    (l, books_weaker keeps old new _ (FeedsTo old.number bytes (take fed.taken bytes) (drop fed.taken bytes) fault) (λ es o. (one_feed old.number bytes fed es l o, one_tells old.number bytes fed fault es t o)) g)

-- the same, by why it stopped
pub fed_whole : (keeps : Bool) (old new : SeatView) (bytes : List ℕ) (done : FedAndPurged) → done.fed.why ≡ feed.All → done.fed.taken ≤ length bytes → Books keeps old new (Does (event.Feed bytes) (λ (d : FedAndPurged). reply.Fed d.fed) old.number (Ok done)) → FeedsFirst keeps old new bytes done.fed.taken None
fed_whole keeps old new bytes done e l g = fed_once keeps old new bytes done.fed None (ap fault_of_feed e) l g

pub fed_held : (keeps : Bool) (old new : SeatView) (bytes : List ℕ) (done : FedAndPurged) → done.fed.why ≡ feed.Held → done.fed.taken ≤ length bytes → Books keeps old new (Does (event.Feed bytes) (λ (d : FedAndPurged). reply.Fed d.fed) old.number (Ok done)) → FeedsFirst keeps old new bytes done.fed.taken None
fed_held keeps old new bytes done e l g = fed_once keeps old new bytes done.fed None (ap fault_of_feed e) l g

pub fed_broken : (keeps : Bool) (old new : SeatView) (bytes : List ℕ) (done : FedAndPurged) (fault : Fault) → done.fed.why ≡ feed.Broken fault → done.fed.taken ≤ length bytes → Books keeps old new (Does (event.Feed bytes) (λ (d : FedAndPurged). reply.Fed d.fed) old.number (Ok done)) → FeedsFirst keeps old new bytes done.fed.taken (Some fault)
fed_broken keeps old new bytes done fault e l g = fed_once keeps old new bytes done.fed (Some fault) (ap fault_of_feed e) l g

none_fed : (seat : ℕ) (bytes : List ℕ) → FeedsTo seat bytes (take 0 bytes) (drop 0 bytes) None []
none_fed seat bytes = ((grind (arith, common_steps), grind (arith, common_steps)), refl)

-- there was no memory for it
pub fed_none : (keeps : Bool) (old new : SeatView) (bytes : List ℕ) (refused : RefusedAllocation) → Books keeps old new (Does {A = FedAndPurged} (event.Feed bytes) (λ (d : FedAndPurged). reply.Fed d.fed) old.number (Err refused)) → FeedsFirst keeps old new bytes 0 None
fed_none keeps old new bytes refused g =
    (omega arith, books_weaker keeps old new _ (FeedsTo old.number bytes (take 0 bytes) (drop 0 bytes) None) (λ es o. subst (λ (v : List Entry). FeedsTo old.number bytes (take 0 bytes) (drop 0 bytes) None v) (sym o) (none_fed old.number bytes)) g)

drop_drop : (m n : ℕ) (xs : List ℕ) → drop n (drop m xs) ≡ drop (m + n) xs
drop_drop m n xs = grind (arith, common_steps)

first_by : (seat : ℕ) (bytes : List ℕ) (at n : ℕ) (fault : Option Fault) (es ds : List Entry) → FeedsTo seat bytes (take at bytes) (drop at bytes) None es → FeedsTo seat (drop at bytes) (take n (drop at bytes)) (drop n (drop at bytes)) fault ds → FeedsTo seat bytes (take (at + n) bytes) (drop (at + n) bytes) fault (es ++ ds)
first_by seat bytes at n fault es ds a b = (
  subst (λ (v : List ℕ). AreFeeds seat bytes v (drop (at + n) bytes) (es ++ ds)) (sym (take-add at n bytes))
      (subst (λ (v : List ℕ). AreFeeds seat bytes (take at bytes ++ take n (drop at bytes)) v (es ++ ds)) (drop_drop at n bytes)
      (feeds_on seat bytes (take at bytes) (drop at bytes) (take n (drop at bytes)) (drop n (drop at bytes)) es ds a.0 b.0)),
  tells_on fault es ds a.1 b.1,
)

-- feeds of what was left of these bytes
pub first_on : (keeps : Bool) (old mid new : SeatView) (bytes rest : List ℕ) (at n : ℕ) (fault : Option Fault) → FeedsFirst keeps old mid bytes at None → rest ≡ drop at bytes → FeedsFirst keeps mid new rest n fault → FeedsFirst keeps old new bytes (at + n) fault
first_on keeps old mid new bytes rest at n fault f r g =
    let h : FeedsFirst keeps mid new (drop at bytes) n fault = subst (λ (v : List ℕ). FeedsFirst keeps mid new v n fault) r g in (
      grind (arith, common_steps, f.0, h.0),
      books_at keeps old mid new (FeedsTo old.number bytes (take at bytes) (drop at bytes) None) (λ m. FeedsTo m (drop at bytes) (take n (drop at bytes)) (drop n (drop at bytes)) fault) (FeedsTo old.number bytes (take (at + n) bytes) (drop (at + n) bytes) fault)
          (λ es ds a b. first_by old.number bytes at n fault es ds a b) f.1 h.1,
    )

-- the pump's end came in the feeds of what was left
pub stop_on : (keeps : Bool) (old mid new : SeatView) (bytes rest : List ℕ) (at : ℕ) (stop : Stop) → FeedsFirst keeps old mid bytes at None → rest ≡ drop at bytes → TurnFed keeps mid new rest (Err stop) →
    FedAll keeps old new bytes (Err (record { moved = at + stop.moved; why = stop.why }))
stop_on keeps old mid new bytes rest at stop f r t = (t.0, first_on keeps old mid new bytes rest at stop.moved (fault_of_end stop.why) f r t.1)

pub first_none : (keeps : Bool) (old : SeatView) (bytes : List ℕ) → FeedsFirst keeps old old bytes 0 None
first_none keeps old bytes = (omega arith, books_same keeps old (FeedsTo old.number bytes (take 0 bytes) (drop 0 bytes) None) (none_fed old.number bytes))

-- all was taken
pub first_all : (keeps : Bool) (old new : SeatView) (bytes : List ℕ) (at : ℕ) → FeedsFirst keeps old new bytes at None → at ≡ length bytes → Books keeps old new (FeedsTo old.number bytes bytes [] None)
first_all keeps old new bytes at f e =
    let all : take at bytes ≡ bytes = take_all at bytes (omega (arith, e)) in
    let none : drop at bytes ≡ [] = grind (arith, common_steps) in
    subst (λ (v : List ℕ). Books keeps old new (FeedsTo old.number bytes bytes v None)) none (subst (λ (v : List ℕ). Books keeps old new (FeedsTo old.number bytes v (drop at bytes) None)) all f.1)

-- the last feed took what was left
pub all_on : (keeps : Bool) (old mid new : SeatView) (bytes rest : List ℕ) (at n : ℕ) → FeedsFirst keeps old mid bytes at None → rest ≡ drop at bytes → FeedsFirst keeps mid new rest n None → at + n ≡ length bytes → Books keeps old new (FeedsTo old.number bytes bytes [] None)
all_on keeps old mid new bytes rest at n f r g e = first_all keeps old new bytes (at + n) (first_on keeps old mid new bytes rest at n None f r g) e

-- no stream was looked at
pub none_tended : (keeps : Bool) (seat : SeatView) → Books keeps seat seat (Purges seat.number)
none_tended keeps seat = purges_none keeps seat

-- ---- a turn

-- a pump that ends before anything was read
pub turn_stops : (keeps : Bool) (fails failed : ℕ) (why : PumpWhy) (before after : Option (List ℕ)) (old : SeatView) → IsInside why → fault_of_end why ≡ None → Consumes before after [] → TurnRead keeps fails failed before after old old (Err (record { moved = 0; why = why }))
turn_stops keeps fails failed why before after old i w k =
    ([], [], [], refl, refl, none_left why, k, books_same keeps old (ReadAdds old.number [] [] [] why) (record { feeds = []; closing = []; parts = refl; fed = (refl, refl); broke = w; ended = inside_ends old.number why i }))

ended_adds : (seat : ℕ) (why result : PumpWhy) (es : List Entry) → (why ≡ End) ⊎ (why ≡ Device) → SaysEnd seat why result es → EndsRead seat result es
ended_adds seat why result es (inl e) (inl s) = rw (s.0 ∙ e) s.1
ended_adds seat why result es (inr e) (inl s) = rw (s.0 ∙ e) s.1
ended_adds seat why result es w (inr s) = rw s.0 s.1

-- the input ended
pub turn_ends : (keeps : Bool) (fails failed : ℕ) (why result : PumpWhy) (before after : Option (List ℕ)) (old new : SeatView) → (why ≡ End) ⊎ (why ≡ Device) → Consumes before after [] →
    Books keeps old new (SaysEnd old.number why result) → TurnRead keeps fails failed before after old new (Err (record { moved = 0; why = result }))
turn_ends keeps fails failed why result before after old new w k g = (
  [],
  [],
  [],
  refl,
  refl,
  none_left result,
  k,
  books_weaker keeps old new _ (ReadAdds old.number [] [] [] result) (λ es s. record { feeds = []; closing = es; parts = refl; fed = (refl, refl); broke = ended_whole old.number why result es w s; ended = ended_adds old.number why result es w s }) g,
)

-- all that was read was fed
pub turn_read : (keeps : Bool) (n fails failed : ℕ) (u : Purged) (buffer : List ℕ) (before after : Option (List ℕ)) (old new : SeatView) → n ≤ length buffer → failed ≡ fails → Consumes before after (take n buffer) →
    FedAll keeps old new (take n buffer) (Ok u) → TurnRead keeps fails failed before after old new (Ok (n, u))
turn_read keeps n fails failed u buffer before after old new l f k g = (f, take n buffer, grind (arith, common_steps), k, g)

inside_adds : (seat : ℕ) (given taken last : List ℕ) (why : PumpWhy) (es : List Entry) → IsInside why → FeedsTo seat given taken last (fault_of_end why) es → ReadAdds seat given taken last why es
inside_adds seat given taken last why es i a = record { feeds = es; closing = []; parts = sym (append-nil es); fed = a.0; broke = a.1; ended = inside_ends seat why i }

-- the pump's end came while it was fed
pub turn_broke : (keeps : Bool) (fails failed : ℕ) (stop : Stop) (bytes : List ℕ) (before after : Option (List ℕ)) (old new : SeatView) → Consumes before after bytes →
    FedAll keeps old new bytes (Err stop) → TurnRead keeps fails failed before after old new (Err stop)
turn_broke keeps fails failed stop bytes before after old new k g =
    let taken = take stop.moved bytes in
    let last = drop stop.moved bytes in (
      bytes,
      taken,
      last,
      sym (take-append-drop stop.moved bytes),
      grind (arith, common_steps, g.1.0),
      inside_left stop.why last g.0,
      k,
      books_weaker keeps old new (FeedsTo old.number bytes taken last (fault_of_end stop.why)) (ReadAdds old.number bytes taken last stop.why) (λ es a. inside_adds old.number bytes taken last stop.why es g.0 a) g.1.1,
    )

-- ---- all turns

-- what the turns read and fed so far
pub record AllFed (keeps : Bool) (fails failed : ℕ) (before after : Option (List ℕ)) (old new : SeatView) (moved : ℕ) : Type 0 where
  pub given : List ℕ
  pub failures : failed ≡ fails
  pub gave : Consumes before after given
  pub amount : moved ≡ byte_count given
  pub booked : Books keeps old new (FeedsTo old.number given given [] None)

pub fed_nothing : (keeps : Bool) (fails : ℕ) (before : Option (List ℕ)) (old : SeatView) → AllFed keeps fails fails before before old old 0
fed_nothing keeps fails before old = record {
  given = [];
  failures = refl;
  gave = Consumes-nil before;
  amount = counted_none;
  booked = books_same keeps old (FeedsTo old.number [] [] [] None) ((refl, refl), refl);
}

-- feeds of all these bytes, and then of those after
feeds_behind : (seat : ℕ) (xs ys taken last : List ℕ) (es ds : List Entry) → AreFeeds seat xs xs [] es → AreFeeds seat ys taken last ds → AreFeeds seat (xs ++ ys) (xs ++ taken) last (es ++ ds)
feeds_behind seat xs ys taken last es ds a b = feeds_on seat (xs ++ ys) xs ys taken last es ds (feeds_more seat xs xs [] ys es a) b

all_behind : (seat : ℕ) (xs ys : List ℕ) (es ds : List Entry) → FeedsTo seat xs xs [] None es → FeedsTo seat ys ys [] None ds → FeedsTo seat (xs ++ ys) (xs ++ ys) [] None (es ++ ds)
all_behind seat xs ys es ds a b = (feeds_behind seat xs ys ys [] es ds a.0 b.0, tells_on None es ds a.1 b.1)

-- one turn more
pub fed_more : (keeps : Bool) (fails failed failing : ℕ) (before mid after : Option (List ℕ)) (old between new : SeatView) (moved n now : ℕ) (s : Purged) →
    AllFed keeps fails failed before mid old between moved → TurnRead keeps failed failing mid after between new (Ok (n, s)) →
    now ≡ min (moved + n) (2 ^ 64 - 1) → AllFed keeps fails failing before after old new now
fed_more keeps fails failed failing before mid after old between new moved n now s w u k = record {
  given = w.given ++ u.1;
  failures = u.0 ∙ w.failures;
  gave = Consumes-trans before mid after w.given u.1 w.gave u.3;
  amount = counted_on w.given u.1 moved n now w.amount u.2 k;
  booked = books_at keeps old between new (FeedsTo old.number w.given w.given [] None) (λ m. FeedsTo m u.1 u.1 [] None) (FeedsTo old.number (w.given ++ u.1) (w.given ++ u.1) [] None) (λ es ds a b. all_behind old.number w.given u.1 es ds a b) w.booked u.4;
}

adds_behind : (seat : ℕ) (xs given taken last : List ℕ) (why : PumpWhy) (es ds : List Entry) → FeedsTo seat xs xs [] None es → ReadAdds seat given taken last why ds → ReadAdds seat (xs ++ given) (xs ++ taken) last why (es ++ ds)
adds_behind seat xs given taken last why es ds a r = record {
  feeds = es ++ r.feeds;
  closing = r.closing;
  parts = ap (λ (v : List Entry). es ++ v) r.parts ∙ sym (append_assoc es r.feeds r.closing);
  fed = feeds_behind seat xs given taken last es r.feeds a.0 r.fed;
  broke = tells_on (fault_of_end why) es r.feeds a.1 r.broke;
  ended = r.ended;
}

-- the last turn
pub fed_last : (keeps : Bool) (fails failed failing : ℕ) (before mid after : Option (List ℕ)) (old between new : SeatView) (moved now : ℕ) (stop : Stop) →
    AllFed keeps fails failed before mid old between moved → TurnRead keeps failed failing mid after between new (Err stop) →
    now ≡ min (moved + stop.moved) (2 ^ 64 - 1) → PumpRead keeps before after old new now stop.why
fed_last keeps fails failed failing before mid after old between new moved now stop w u k = record {
  given = w.given ++ u.0;
  taken = w.given ++ u.1;
  last = u.2;
  gave = Consumes-trans before mid after w.given u.0 w.gave u.6;
  parts = ap (λ (v : List ℕ). w.given ++ v) u.3 ∙ sym (append_assoc w.given u.1 u.2);
  whole = u.5;
  amount = counted_on w.given u.1 moved stop.moved now w.amount u.4 k;
  booked = books_at keeps old between new (FeedsTo old.number w.given w.given [] None) (λ m. ReadAdds m u.0 u.1 u.2 stop.why) (ReadAdds old.number (w.given ++ u.0) (w.given ++ u.1) u.2 stop.why) (λ es ds a b. adds_behind old.number w.given u.0 u.1 u.2 stop.why es ds a b) w.booked u.7;
}
