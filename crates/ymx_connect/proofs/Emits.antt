-- What a write pump emits and writes.
use Rattle.std.proofs.Common.{◌≡◌, ℕ, ◌+◌, ◌-◌, ◌^◌, ◌≤◌, List, [], ◌∷◌, ◌++◌, length, take, min, Bool, true, false, Option, Ok, Err, inl, inr, arith, refl, sym, ap, ◌∙◌, subst, append_assoc, append-nil}
use Rattle.std.proofs.lemmas.Grind.{common_steps}
use Rattle.std.proofs.lemmas.List.{take_all}
use Rattle.std.proofs.Math.Seq.{take-append-add}
use Rattle.std.specs.Io.KnownBytes.{Appends, Keeps}
use Rattle.std.proofs.KnownBytes.{Appends-nil, Appends-trans, Appends-kept, Keeps-refl}
use Rattle.ymx_model.specs.devices.Devices.{has_failed}
use Rattle.ymx_model.specs.declared.types.Event.TheVariants as event
use Rattle.ymx_machine.specs.declared.types.Reply.TheVariants as reply
use Rattle.ymx_model.specs.declared.types.Entry.{Entry}
use Rattle.ymx_seats.specs.Views.{SeatView}
use Rattle.ymx_memory.specs.declared.refused.RefusedAllocation.{RefusedAllocation}
use Rattle.ymx_hub.specs.Books.{Books, One}
use Rattle.ymx_hub.specs.declared.moving.Turn.TheVariants.{Emitted, Idle, Over}
use Rattle.ymx_hub.specs.Pumped.{EmitsOnce}
use Rattle.ymx_hub.specs.Shown.{IsShown, BooksShown}
use Rattle.ymx_hub.proofs.Books.{books_same, books_at, books_weaker}
use Rattle.ymx_hub.proofs.Shown.{shown_on, shown_booked, shown_alone, shown_before, shown_at, shown_weaker}
use Rattle.ymx_connect.specs.declared.pump_end.PumpWhy.{PumpWhy}
use Rattle.ymx_connect.specs.declared.pump_end.PumpWhy.TheVariants.{Device, Memory, Gate, NoThread}
use Rattle.ymx_connect.specs.declared.pump_end.Stop.{Stop}
use Rattle.ymx_connect.specs.Pumps.{byte_count, AreEmits, IsWritten, EndsWrite, WriteAdds, PumpWrote}
use Rattle.ymx_connect.specs.Turns.{SaysEnd, TurnWrote}
use Rattle.ymx_connect.proofs.Counts.{counted_on, counted_none}

-- ---- emissions

one_emit : (size seat : ℕ) (bytes : List ℕ) (es : List Entry) → One seat (event.Emit size) (reply.Emitted bytes) es → AreEmits size seat bytes es
one_emit size seat bytes es o =
    subst (λ (xs : List Entry). AreEmits size seat bytes xs) (sym o.1) (bytes, [], sym (append-nil bytes), record { named = refl; event = refl; reply = refl }, refl)

emits_on : (size seat : ℕ) (xs ys : List ℕ) (es ds : List Entry) → AreEmits size seat xs es → AreEmits size seat ys ds → AreEmits size seat (xs ++ ys) (es ++ ds)
emits_on size seat xs ys [] ds a b = subst (λ (v : List ℕ). AreEmits size seat (v ++ ys) ds) (sym a) b
emits_on size seat xs ys (e ∷ es) ds a b =
    (a.0, a.1 ++ ys, ap (λ (v : List ℕ). v ++ ys) a.2 ∙ append_assoc a.0 a.1 ys, a.3, emits_on size seat a.1 ys es ds a.4 b)

written_same : (failed : Bool) (xs : List ℕ) → IsWritten failed xs xs
written_same true xs = (length xs, sym (take_all (length xs) xs (omega arith)))
written_same false xs = refl

written_behind : (failed : Bool) (xs ys given : List ℕ) → IsWritten failed ys given → IsWritten failed (xs ++ ys) (xs ++ given)
written_behind true xs ys given w = (length xs + w.0, ap (λ (v : List ℕ). xs ++ v) w.1 ∙ sym (take-append-add xs given w.0))
written_behind false xs ys given w = ap (λ (v : List ℕ). xs ++ v) w

adds_behind : (size seat : ℕ) (failed : Bool) (xs ys : List ℕ) (why : PumpWhy) (es ds : List Entry) → AreEmits size seat xs es → WriteAdds size seat failed ys why ds → WriteAdds size seat failed (xs ++ ys) why (es ++ ds)
adds_behind size seat failed xs ys why es ds a w = record {
  emits = es ++ w.emits;
  closing = w.closing;
  parts = ap (λ (v : List Entry). es ++ v) w.parts ∙ sym (append_assoc es w.emits w.closing);
  given = xs ++ w.given;
  emitted = emits_on size seat xs w.given es w.emits a w.emitted;
  wrote = written_behind failed xs ys w.given w.wrote;
  ended = w.ended;
}

-- a pump that ends with nothing more emitted
adds_end : (size seat : ℕ) (failed : Bool) (why : PumpWhy) (ds : List Entry) → EndsWrite seat why ds → WriteAdds size seat failed [] why ds
adds_end size seat failed why ds n = record {
  emits = [];
  closing = ds;
  parts = refl;
  given = [];
  emitted = refl;
  wrote = written_same failed [];
  ended = n;
}

-- the last emission, of which the writer took a beginning before it failed
adds_failed : (size seat n : ℕ) (given : List ℕ) (why : PumpWhy) (es ds : List Entry) → AreEmits size seat given es → EndsWrite seat why ds → WriteAdds size seat true (take n given) why (es ++ ds)
adds_failed size seat n given why es ds a d = record {
  emits = es;
  closing = ds;
  parts = refl;
  given = given;
  emitted = a;
  wrote = (n, refl);
  ended = d;
}

-- ---- a turn

-- how a pump whose writer failed ends
pub says_device : (seat : ℕ) (why : PumpWhy) (ds : List Entry) → SaysEnd seat Device why ds → EndsWrite seat why ds
says_device seat why ds (inl s) = rw s.0 s.1
says_device seat why ds (inr s) = rw s.0 s.1

-- all that was emitted was written
pub turn_wrote : (keeps : Bool) (size n fails failed : ℕ) (buffer : List ℕ) (before after : Option (List ℕ)) (old new : SeatView) → n ≤ length buffer → failed ≡ fails →
    Appends before after (take n buffer) → EmitsOnce keeps size buffer old new (Ok (Emitted n)) → TurnWrote keeps size fails failed before after old new (Ok n)
turn_wrote keeps size n fails failed buffer before after old new l f a g =
    (f, take n buffer, grind (arith, common_steps), a, shown_booked keeps old new _ (books_weaker keeps old new _ (AreEmits size old.number (take n buffer)) (λ es o. one_emit size old.number (take n buffer) es o) g))

-- nothing was due, and then the pump waited
pub turn_idle : (keeps : Bool) (size fails failed : ℕ) (buffer : List ℕ) (before after : Option (List ℕ)) (old mid new : SeatView) → failed ≡ fails →
    before ≡ after → EmitsOnce keeps size buffer old mid (Ok Idle) → IsShown mid new → TurnWrote keeps size fails failed before after old new (Ok 0)
turn_idle keeps size fails failed buffer before after old mid new f k g h =
    (f, [], refl, subst (λ (v : Option (List ℕ)). Appends before v []) k (Appends-nil before), shown_alone keeps old new (AreEmits size old.number []) refl (shown_on old mid new g h))

-- the pump's end, with nothing emitted
pub turn_ends : (keeps : Bool) (size fails failed : ℕ) (why : PumpWhy) (before after : Option (List ℕ)) (old new : SeatView) → Keeps before after →
    BooksShown keeps old new (EndsWrite old.number why) → TurnWrote keeps size fails failed before after old new (Err (record { moved = 0; why = why }))
turn_ends keeps size fails failed why before after old new k g =
    ([], refl, Appends-kept before before after [] (Appends-nil before) k, shown_weaker keeps old new _ (WriteAdds size old.number (has_failed fails failed) [] why) (λ es o. adds_end size old.number (has_failed fails failed) why es o) g)

-- the gate ended the pump as nothing was due
pub turn_gated : (keeps : Bool) (size fails : ℕ) (buffer : List ℕ) (before : Option (List ℕ)) (old new : SeatView) → EmitsOnce keeps size buffer old new (Ok Idle) →
    TurnWrote keeps size fails fails before before old new (Err (record { moved = 0; why = Gate }))
turn_gated keeps size fails buffer before old new g =
    turn_ends keeps size fails fails Gate before before old new (Keeps-refl before) (shown_alone keeps old new (EndsWrite old.number Gate) refl g)

-- there was no memory for the emission
pub turn_lacked : (keeps : Bool) (size fails : ℕ) (refused : RefusedAllocation) (buffer : List ℕ) (before : Option (List ℕ)) (old new : SeatView) → EmitsOnce keeps size buffer old new (Err refused) →
    TurnWrote keeps size fails fails before before old new (Err (record { moved = 0; why = Memory refused }))
turn_lacked keeps size fails refused buffer before old new g =
    turn_ends keeps size fails fails (Memory refused) before before old new (Keeps-refl before) (shown_booked keeps old new (EndsWrite old.number (Memory refused)) g)

-- nothing more will be due, and then the writer was ended
pub turn_over : (keeps : Bool) (size fails failed : ℕ) (why : PumpWhy) (buffer : List ℕ) (before after : Option (List ℕ)) (old mid new : SeatView) → Keeps before after →
    EmitsOnce keeps size buffer old mid (Ok Over) → Books keeps mid new (EndsWrite mid.number why) → TurnWrote keeps size fails failed before after old new (Err (record { moved = 0; why = why }))
turn_over keeps size fails failed why buffer before after old mid new k s h =
    turn_ends keeps size fails failed why before after old new k
    (subst (λ (n : ℕ). BooksShown keeps old new (EndsWrite n why)) (ap (λ (v : SeatView). v.number) s.rest) (shown_before keeps old mid new (EndsWrite mid.number why) s h))

-- the writer failed
pub turn_failed : (keeps : Bool) (size n moved fails failed : ℕ) (why : PumpWhy) (buffer : List ℕ) (before after : Option (List ℕ)) (old mid new : SeatView) → n ≤ length buffer → moved ≤ n →
    has_failed fails failed ≡ true → Appends before after (take moved (take n buffer)) → EmitsOnce keeps size buffer old mid (Ok (Emitted n)) → Books keeps mid new (SaysEnd mid.number Device why) →
    TurnWrote keeps size fails failed before after old new (Err (record { moved = moved; why = why }))
turn_failed keeps size n moved fails failed why buffer before after old mid new l k f a g h = (
  take moved (take n buffer),
  grind (arith, common_steps),
  a,
  subst (λ (b : Bool). BooksShown keeps old new (WriteAdds size old.number b (take moved (take n buffer)) why)) (sym f)
      (shown_booked keeps old new _ (books_at keeps old mid new _ (λ m. SaysEnd m Device why) (WriteAdds size old.number true (take moved (take n buffer)) why)
      (λ es ds o s. adds_failed size old.number moved (take n buffer) why es ds (one_emit size old.number (take n buffer) es o) (says_device old.number why ds s)) g h)),
)

-- ---- all turns

-- what the turns wrote so far
pub record Written (keeps : Bool) (size fails failed : ℕ) (before after : Option (List ℕ)) (old new : SeatView) (moved : ℕ) : Type 0 where
  pub written : List ℕ
  pub failures : failed ≡ fails
  pub took : Appends before after written
  pub amount : moved ≡ byte_count written
  pub booked : BooksShown keeps old new (AreEmits size old.number written)

pub written_none : (keeps : Bool) (size fails : ℕ) (before : Option (List ℕ)) (old : SeatView) → Written keeps size fails fails before before old old 0
written_none keeps size fails before old = record {
  written = [];
  failures = refl;
  took = Appends-nil before;
  amount = counted_none;
  booked = shown_booked keeps old old _ (books_same keeps old (AreEmits size old.number []) refl);
}

-- one turn more
pub written_more : (keeps : Bool) (size larger fails failed failing : ℕ) (before mid after : Option (List ℕ)) (old between new : SeatView) (moved n now : ℕ) →
    Written keeps size fails failed before mid old between moved → larger ≡ size → TurnWrote keeps larger failed failing mid after between new (Ok n) →
    now ≡ min (moved + n) (2 ^ 64 - 1) → Written keeps size fails failing before after old new now
written_more keeps size larger fails failed failing before mid after old between new moved n now w l t k =
    let u : TurnWrote keeps size failed failing mid after between new (Ok n) = subst (λ (x : ℕ). TurnWrote keeps x failed failing mid after between new (Ok n)) l t in
    record {
      written = w.written ++ u.1;
      failures = u.0 ∙ w.failures;
      took = Appends-trans before mid after w.written u.1 w.took u.3;
      amount = counted_on w.written u.1 moved n now w.amount u.2 k;
      booked = shown_at keeps old between new (AreEmits size old.number w.written) (λ m. AreEmits size m u.1) (AreEmits size old.number (w.written ++ u.1)) (λ es ds a b. emits_on size old.number w.written u.1 es ds a b) w.booked u.4;
    }

-- the last turn
pub written_last : (keeps : Bool) (size larger fails failed failing : ℕ) (before mid after : Option (List ℕ)) (old between new : SeatView) (moved now : ℕ) (stop : Stop) →
    Written keeps size fails failed before mid old between moved → larger ≡ size → TurnWrote keeps larger failed failing mid after between new (Err stop) →
    now ≡ min (moved + stop.moved) (2 ^ 64 - 1) → PumpWrote keeps size (has_failed fails failing) before after old new now stop.why
written_last keeps size larger fails failed failing before mid after old between new moved now stop w l t k =
    let u : TurnWrote keeps size fails failing mid after between new (Err stop) =
    subst (λ (x : ℕ). TurnWrote keeps size x failing mid after between new (Err stop)) w.failures
    (subst (λ (x : ℕ). TurnWrote keeps x failed failing mid after between new (Err stop)) l t) in
    record {
      written = w.written ++ u.0;
      took = Appends-trans before mid after w.written u.0 w.took u.2;
      amount = counted_on w.written u.0 moved stop.moved now w.amount u.1 k;
      booked = shown_at keeps old between new (AreEmits size old.number w.written) (λ m. WriteAdds size m (has_failed fails failing) u.0 stop.why) (WriteAdds size old.number (has_failed fails failing) (w.written ++ u.0) stop.why)
          (λ es ds a b. adds_behind size old.number (has_failed fails failing) w.written u.0 stop.why es ds a b) w.booked u.3;
    }

-- a pump that did nothing
pub wrote_none : (keeps : Bool) (size : ℕ) (failed : Bool) (before : Option (List ℕ)) (old : SeatView) → PumpWrote keeps size failed before before old old 0 NoThread
wrote_none keeps size failed before old = record {
  written = [];
  took = Appends-nil before;
  amount = counted_none;
  booked = shown_booked keeps old old _ (books_same keeps old (WriteAdds size old.number failed [] NoThread) (adds_end size old.number failed NoThread [] refl));
}
