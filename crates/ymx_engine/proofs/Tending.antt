-- Nobody who can be served is forgotten.
use Rattle.std.proofs.Common.{◌==◌, if◌then◌else◌, ◌≡◌, ◌≢◌, inl, inr, ℕ, ◌<◌, List, [], ◌∷◌, length, take, Bool, true, false, ◌||◌, Option, None, Some, refl, sym, ap, ◌∙◌, subst, arith}
use Rattle.std.specs.Prelude.{nat_eq, nat_le, IsSome, count_by, Contains}
use Rattle.std.proofs.lemmas.Bool.Decides.{nat_tests}
use Rattle.ymx_machine.specs.declared.types.Call.TheVariants as call
use Rattle.ymx_machine.specs.declared.types.CallFault.TheVariants as fault
use Rattle.ymx_machine.specs.declared.types.Fed.{Fed}
use Rattle.ymx_machine.specs.declared.types.Reply.TheVariants as reply
use Rattle.ymx_machine.specs.shared.Events.{Reply, Call}
use Rattle.ymx_machine.specs.shared.Limits.{most_records, most_unacknowledged, most_pings, first_exhausted}
use Rattle.ymx_machine.specs.shared.Lists.{look as look_up}
use Rattle.ymx_machine.proofs.Tests.{split}
use Rattle.ymx_model.specs.declared.types.Event.TheVariants as event
use Rattle.ymx_model.specs.declared.types.Status.{Status}
use Rattle.ymx_model.specs.declared.types.Status.TheVariants.{Running, Lost, Broken, Closed}
use Rattle.ymx_model.specs.session.Calls.{Outcome, outcome, answers, refused, session_opened, open_stream, accept, accept_of, ping, ponged, go_away, is_unacknowledged, status_input_ends}
use Rattle.ymx_model.specs.session.GoAway.{say_away}
use Rattle.ymx_model.specs.session.Pings.{next_number, ask, has_back, collect}
use Rattle.ymx_model.specs.session.Emissions.{in_turn}
use Rattle.ymx_model.specs.session.Histories.{Gives, CallGives}
use Rattle.ymx_model.specs.session.Histories.CallGives.{Outcome as HasOutcome, NoMemory}
use Rattle.ymx_model.specs.session.Records.{End}
use Rattle.ymx_model.specs.session.Sessions.{Session, is_closed, is_running, is_lost, is_own, on_stream}
use Rattle.ymx_law_session.specs.Limits.{IsWithin, is_listed}
use Rattle.ymx_law_session.proofs.limits.HistoriesKeep.{gives-keep}
use Rattle.ymx_law_session.proofs.nothing_else.Others.{forget-others}
use Rattle.ymx_law_session.proofs.nothing_else.OthersOut.{open-others, accept-others}
use Rattle.ymx_law_session.proofs.nothing_else.StreamCalls.{forget-stays}
use Rattle.ymx_session.specs.Passing.{FeedsSome}
use Rattle.ymx_session.specs.Streams.{room_of}
use Rattle.ymx_session.specs.Touched.{Noted, is_noted, NotesChanges}
use Rattle.ymx_engine.specs.declared.device.Readiness.{Readiness}
use Rattle.ymx_engine.specs.declared.directions.Directions.{Directions}
use Rattle.ymx_engine.specs.Devices.{Seen}
use Rattle.ymx_engine.specs.Joins.{Joins, DropsOut}
use Rattle.ymx_engine.specs.Refusals.{GivesUp}
use Rattle.ymx_engine.specs.Served.{IsServed, Serving, ServingBut, GainsNone}
use Rattle.ymx_engine.specs.Serves.{is_of_turn, is_silent, is_stopped, Turn}
use Rattle.ymx_engine.specs.Steps.{TakesPart}
use Rattle.ymx_engine.specs.Tunnels.{Tunnel}
use Rattle.ymx_engine.specs.Turns.{Connection, Connections, connection_of, Awaits, Attended, SameConnections, LeavesQueues, Puts, KeepsConnections, KeepsOthers, TakesTurn, IsFirst, takes_busy, Notes}
use Rattle.ymx_engine.specs.Directions.{is_open, may_push, may_pull}
use Rattle.ymx_engine.proofs.Coming.{exchanges_calm}
use Rattle.ymx_engine.proofs.Ending.{none_there, offered_there}
use Rattle.ymx_engine.proofs.Forgetting.{fed_goes}
use Rattle.ymx_engine.proofs.Gaining.{NoneGain, gains_then, gains_none, gains_still, gains_same, turn_gains, reset_gains}
use Rattle.ymx_engine.proofs.Entries.{eq_ids, is_some_at}
use Rattle.ymx_engine.proofs.Marking.{popped}
use Rattle.ymx_engine.proofs.Turning.{left_waits}
use Rattle.ymx_engine.proofs.Queueing.{keeps_same, keeps_then, await_on, attended_on, attended_held, connection_put_at, connection_put_other, extends_added, others_put}
use Rattle.ymx_engine.proofs.Steady.{steady_all, turn_steady, reaped_status, called_status, reset_stays}

-- the session keeps its limits, no stream gained anything, and it runs on if it ran
pub record Calms (s t : Session) : Type 0 where
  pub within : IsWithin t
  pub came : NoneGain s t
  pub runs : is_running t.status ≡ false → is_running s.status ≡ false

-- the same, but of this stream
pub record CalmsBut (id : ℕ) (s t : Session) : Type 0 where
  pub within : IsWithin t
  pub came : (other : ℕ) → nat_eq id other ≡ false → GainsNone other s t
  pub runs : is_running t.status ≡ false → is_running s.status ≡ false

same_runs : (s t : Session) → t.status ≡ s.status → is_running t.status ≡ false → is_running s.status ≡ false
same_runs s t e h = sym (ap is_running e) ∙ h

pub calms_same : (s t : Session) → t ≡ s → IsWithin s → Calms s t
calms_same s t e w = subst (Calms s) (sym e) (record { within = w; came = λ id. gains_none id s; runs = λ h. h })

pub calms_but : (id : ℕ) (s t : Session) → Calms s t → CalmsBut id s t
calms_but id s t x = record { within = x.within; came = λ other ne. x.came other; runs = x.runs }

pub but_same : (id : ℕ) (s t : Session) → t ≡ s → IsWithin s → CalmsBut id s t
but_same id s t e w = calms_but id s t (calms_same s t e w)

-- ---- what stays served

served_at : (id : ℕ) (a b : Tunnel) → GainsNone id a.engine.session b.engine.session → (is_running b.engine.session.status ≡ false → is_running a.engine.session.status ≡ false) → connection_of id b.connections ≡ connection_of id a.connections →
    (IsSome (connection_of id a.connections) → Awaits id a.connections → Awaits id b.connections) → (IsSome (connection_of id a.connections) → Contains a.connections.held id → Attended id b.connections) → IsServed id a → IsServed id b
served_at id a b came runs same on holds before = record {
  gets = λ l there may some. let was = sym same ∙ there in on (is_some_at was) (before.gets l was may (came.bytes some));
  gives = λ l there may some. let was = sym same ∙ there in attended_on id a.connections b.connections (on (is_some_at was)) (holds (is_some_at was)) (before.gives l was may (came.room some));
  hears = λ l there over opened. let was = sym same ∙ there in on (is_some_at was) (before.hears l was (runs over) opened);
  ends = λ l there may silent. let was = sym same ∙ there in on (is_some_at was) (before.ends l was may (came.silence silent));
  stops = λ l there opened stopped. let was = sym same ∙ there in on (is_some_at was) (before.stops l was opened (came.stop stopped));
}

pub serving_kept : (a b : Tunnel) → (IsWithin a.engine.session → Calms a.engine.session b.engine.session) → KeepsConnections a.connections b.connections → Serving a → Serving b
serving_kept a b calm keeps h =
    let q = calm h.within in
    record { within = q.within; each = λ id. served_at id a b (q.came id) q.runs (keeps.connections id) (keeps.awaits id) (keeps.holds id) (h.each id) }

-- where the session stays
pub serving_connections : (a b : Tunnel) → b.engine.session ≡ a.engine.session → KeepsConnections a.connections b.connections → Serving a → Serving b
serving_connections a b e keeps = serving_kept a b (calms_same a.engine.session b.engine.session e) keeps

-- where the connections stay
pub serving_session : (a b : Tunnel) → (IsWithin a.engine.session → Calms a.engine.session b.engine.session) → b.connections ≡ a.connections → Serving a → Serving b
serving_session a b calm same = serving_kept a b calm (subst (KeepsConnections a.connections) (sym same) (keeps_same a.connections))

pub serving_alike : (a b : Tunnel) → b.engine.session ≡ a.engine.session → b.connections ≡ a.connections → Serving a → Serving b
serving_alike a b e same = serving_session a b (calms_same a.engine.session b.engine.session e) same

pub serving_from : (a b c : Tunnel) → a ≡ b → (Serving a → Serving c) → Serving b → Serving c
serving_from a b c e x = subst (λ (v : Tunnel). Serving v → Serving c) e x

pub serving_but_from : (id : ℕ) (a b c : Tunnel) → a ≡ b → (ServingBut id a → Serving c) → ServingBut id b → Serving c
serving_but_from id a b c e x = subst (λ (v : Tunnel). ServingBut id v → Serving c) e x

pub but_of : (id : ℕ) (a : Tunnel) → Serving a → ServingBut id a
but_of id a h = record { within = h.within; each = λ other ne. h.each other }

-- where all have a turn
pub serving_all : (b : Tunnel) → IsWithin b.engine.session → ((id : ℕ) → IsSome (connection_of id b.connections) → Awaits id b.connections) → Serving b
serving_all b w all = record {
  within = w;
  each = λ id. record {
    gets = λ l there may some. all id (is_some_at there);
    gives = λ l there may some. inl (all id (is_some_at there));
    hears = λ l there over opened. all id (is_some_at there);
    ends = λ l there may silent. all id (is_some_at there);
    stops = λ l there opened stopped. all id (is_some_at there);
  };
}

-- a connection that waits for its turn
pub served_waits : (id : ℕ) (b : Tunnel) → Awaits id b.connections → IsServed id b
served_waits id b waits = record { gets = λ l there may some. waits; gives = λ l there may some. inl waits; hears = λ l there over opened. waits; ends = λ l there may silent. waits; stops = λ l there opened stopped. waits }

-- one that is served with the others
pub serving_with : (id : ℕ) (a b : Tunnel) → (IsWithin a.engine.session → CalmsBut id a.engine.session b.engine.session) → KeepsOthers id a.connections b.connections → (IsWithin a.engine.session → IsServed id b) → ServingBut id a → Serving b
serving_with id a b calm others own h =
    let q = calm h.within in record { within = q.within; each = λ other. by q other (nat_eq id other) refl }
  where
    by : CalmsBut id a.engine.session b.engine.session → (other : ℕ) (t : Bool) → nat_eq id other ≡ t → IsServed other b
    by q other true t = subst (λ (n : ℕ). IsServed n b) (sym (eq_ids id other t)) (own h.within)
    by q other false t = served_at other a b (q.came other t) q.runs (others.connections other t) (others.awaits other t) (others.holds other t) (h.each other t)

-- one that isn't there waits for nothing
pub served_none : (id : ℕ) (b : Tunnel) → connection_of id b.connections ≡ None → IsServed id b
served_none id b none = record {
  gets = λ l there may some. let no : None ≡ Some l = sym none ∙ there in absurd cc;
  gives = λ l there may some. let no : None ≡ Some l = sym none ∙ there in absurd cc;
  hears = λ l there over opened. let no : None ≡ Some l = sym none ∙ there in absurd cc;
  ends = λ l there may silent. let no : None ≡ Some l = sym none ∙ there in absurd cc;
  stops = λ l there opened stopped. let no : None ≡ Some l = sym none ∙ there in absurd cc;
}

pub serving_unserved : (id : ℕ) (a b : Tunnel) → b ≡ a → connection_of id a.connections ≡ None → ServingBut id a → Serving b
serving_unserved id a b e none h = subst Serving (sym e) (record { within = h.within; each = λ other. by other (nat_eq id other) refl })
  where
    by : (other : ℕ) (t : Bool) → nat_eq id other ≡ t → IsServed other a
    by other true t = subst (λ (n : ℕ). IsServed n a) (sym (eq_ids id other t)) (served_none id a none)
    by other false t = h.each other t

-- ---- feeds

-- two sessions that run
pub both_run : (a b : Status) → is_running a ≡ true → is_running b ≡ true → a ≡ b
both_run Running Running h k = refl
both_run Running Lost h k = cc
both_run Running (Broken f) h k = cc
both_run Running Closed h k = cc
both_run Lost b h k = cc
both_run (Broken f) b h k = cc
both_run Closed b h k = cc

-- Those whom a feed touched were called, and of the others no bytes came; where the session is over then, all were called.
pub serving_fed : (n : Noted) (input : List ℕ) (f : Fed) (a b : Tunnel) (t : Session) (q : Connections) → FeedsSome a.engine.session input f t → NotesChanges a.engine.session t n → KeepsConnections a.connections q →
    ((id : ℕ) → is_noted id n ≡ true → IsSome (connection_of id a.connections) → Awaits id q) → b.engine.session ≡ t → KeepsConnections q b.connections →
    (is_running b.engine.session.status ≡ false → (id : ℕ) → IsSome (connection_of id b.connections) → Awaits id b.connections) → Serving a → Serving b
serving_fed n input f a b t q x notes keeps all same later over h = by (is_running b.engine.session.status) refl
  where
    within : IsWithin b.engine.session
    within = subst IsWithin (sym same) (gives-keep in_turn a.engine.session t (event.Feed (take x.count input)) (reply.Fed f) x.feeds h.within)

    runs_no_more : (r : Bool) → r ≡ true → r ≡ false → ⊥
    runs_no_more true p q = let no : true ≡ false = q in cc
    runs_no_more false p q = let no : false ≡ true = p in cc

    called : (id : ℕ) → is_noted id n ≡ true → (l : Connection) → connection_of id b.connections ≡ Some l → Awaits id b.connections
    called id is l there =
        let was : connection_of id q ≡ Some l = sym (later.connections id) ∙ there in
        let first : connection_of id a.connections ≡ Some l = sym (keeps.connections id) ∙ was in
        later.awaits id (is_some_at was) (all id is (is_some_at first))

    each : is_running b.engine.session.status ≡ true → (id : ℕ) (noted : Bool) → is_noted id n ≡ noted → IsServed id b
    each runs id true is = record { gets = λ l there may some. called id is l there; gives = λ l there may some. inl (called id is l there); hears = λ l there over opened. called id is l there; ends = λ l there may silent. called id is l there; stops = λ l there opened stopped. called id is l there }
    each runs id false is =
        let goes = ap (λ (v : Session). is_running v.status) (sym same) ∙ runs in
        let status : t.status ≡ a.engine.session.status = both_run t.status a.engine.session.status goes ((fed_goes (take x.count input) f a.engine.session t x.feeds).1 goes) in
        let came : GainsNone id a.engine.session t = gains_same id a.engine.session t status (notes.streams id is) in
        let both = keeps_then a.connections q b.connections keeps later in
        served_at id a b (subst (GainsNone id a.engine.session) (sym same) came) (λ stops. absurd (runs_no_more (is_running b.engine.session.status) runs stops)) (both.connections id) (both.awaits id) (both.holds id) (h.each id)

    by : (r : Bool) → is_running b.engine.session.status ≡ r → Serving b
    by true r = record { within = within; each = λ id. each r id (is_noted id n) refl }
    by false r = serving_all b within (over r)

-- ---- the wire's end

pub ends_within : (s t : Session) → Gives in_turn s event.FeedEnd reply.Done t → IsWithin s → IsWithin t
ends_within s t g w = gives-keep in_turn s t event.FeedEnd reply.Done g w

ended_stops : (st : Status) → is_running (status_input_ends st) ≡ false
ended_stops Running = refl
ended_stops Lost = refl
ended_stops (Broken f) = refl
ended_stops Closed = refl

pub ends_running : (s t : Session) → Gives in_turn s event.FeedEnd reply.Done t → is_running t.status ≡ false
ends_running s t g = subst (λ (x : Session). is_running x.status ≡ false) (sym g.1) (ended_stops s.status)

-- ---- a stream is opened, accepted, or given up

differ : (id other : ℕ) → nat_eq id other ≡ false → other ≢ id
differ id other ne = grind (arith, nat_tests)

forget_status : (id : ℕ) (s : Session) → (outcome (call.Forget id) s).next.status ≡ s.status
forget_status id s = forget-stays (λ (t : Session). t.status ≡ s.status) id s (record { now = refl; changed = λ f. refl; gone = λ f. reaped_status id (on_stream id f s) })

others_calm : (id : ℕ) (s t : Session) → t.status ≡ s.status → ((j : ℕ) → j ≢ id → look_up j t.table.entries ≡ look_up j s.table.entries) → IsWithin t → CalmsBut id s t
others_calm id s t status same w = record {
  within = w;
  came = λ other ne. gains_same other s t status (same other (differ id other ne));
  runs = same_runs s t status;
}

pub forgotten_status : (id : ℕ) (told : Reply) (s t : Session) → Gives in_turn s (event.Call (call.Forget id)) told t → t.status ≡ s.status
forgotten_status id told s t g = called_status (call.Forget id) s t told (forget_status id s) g

pub forgotten_calm : (id : ℕ) (told : Reply) (s t : Session) → Gives in_turn s (event.Call (call.Forget id)) told t → IsWithin s → CalmsBut id s t
forgotten_calm id told s t (HasOutcome answer state) w =
    let within = gives-keep in_turn s t (event.Call (call.Forget id)) told (HasOutcome answer state) w in
    others_calm id s t (ap (λ (x : Session). x.status) state ∙ forget_status id s) (λ j n. ap (λ (x : Session). look_up j x.table.entries) state ∙ forget-others id s j n) within
forgotten_calm id told s t (NoMemory needs answer state) w = but_same id s t state w

reset_calm : (id : ℕ) (told : Reply) (s t : Session) → Gives in_turn s (event.Call (call.Reset id)) told t → IsWithin s → CalmsBut id s t
reset_calm id told s t g w = record {
  within = gives-keep in_turn s t (event.Call (call.Reset id)) told g w;
  came = λ other ne. reset_gains id other told s t g ne;
  runs = same_runs s t (reset_stays id told s t g);
}

but_then : (id : ℕ) (s t u : Session) → CalmsBut id s t → CalmsBut id t u → CalmsBut id s u
but_then id s t u x y = record { within = y.within; came = λ other ne. gains_then other s t u (x.came other ne) (y.came other ne); runs = λ h. x.runs (y.runs h) }

pub given_up_calm : (id : ℕ) (s t : Session) → GivesUp id s t → IsWithin s → CalmsBut id s t
given_up_calm id s t x w =
    let r = reset_calm id x.told_reset s x.between x.reset w in
    but_then id s x.between t r (forgotten_calm id x.told_forget x.between t x.forgotten r.within)

-- its connection is there no more
pub serving_gone : (id : ℕ) (a b : Tunnel) → (IsWithin a.engine.session → CalmsBut id a.engine.session b.engine.session) → Puts id None a.connections b.connections → LeavesQueues id a.connections b.connections → ServingBut id a → Serving b
serving_gone id a b calm puts q h =
    let w = calm h.within in record { within = w.within; each = λ other. by w other (nat_eq id other) refl }
  where
    by : CalmsBut id a.engine.session b.engine.session → (other : ℕ) (t : Bool) → nat_eq id other ≡ t → IsServed other b
    by w other true t = subst (λ (n : ℕ). IsServed n b) (sym (eq_ids id other t)) (served_none id b (connection_put_at id None a.connections b.connections puts))
    by w other false t =
        served_at other a b (w.came other t) w.runs (connection_put_other id other None a.connections b.connections puts t) (λ some. await_on other a.connections b.connections (left_waits id other a.connections b.connections t q) (λ m. q.missed ∙ m)) (λ some c. attended_held a.connections b.connections q.held other c) (h.each other t)

-- a stream that has no connection was given up
pub serving_dropped : (id : ℕ) (a b : Tunnel) → DropsOut id a b → ServingBut id a → Serving b
serving_dropped id a b x h =
    let q = given_up_calm id a.engine.session b.engine.session x.up h.within in
    record { within = q.within; each = λ other. by q other (nat_eq id other) refl }
  where
    still : (other : ℕ) → Awaits other a.connections → Awaits other b.connections
    still other w = subst (Awaits other) (sym x.connections) w

    by : CalmsBut id a.engine.session b.engine.session → (other : ℕ) (t : Bool) → nat_eq id other ≡ t → IsServed other b
    by q other true t = subst (λ (n : ℕ). IsServed n b) (sym (eq_ids id other t)) (served_none id b (ap (connection_of id) x.connections ∙ x.free))
    by q other false t = served_at other a b (q.came other t) q.runs (ap (connection_of other) x.connections) (λ some. still other) (λ some w. attended_held a.connections b.connections (ap (λ (l : Connections). l.held) x.connections) other w) (h.each other t)

-- an open gives the next own id
opened_id : (id : ℕ) (s : Session) → reply.Opened id ≡ (open_stream s).reply → id ≡ s.next
opened_id id s =
    let P : Outcome → Type 0 = λ o. reply.Opened id ≡ o.reply → id ≡ s.next in
    split P (is_closed s.status) (refused fault.Closed s) _ (λ e h. cc) (λ e.
    split P (is_lost s.status) (refused fault.Lost s) _ (λ e h. cc) (λ e.
    split P s.away.there (refused fault.PeerAway s) _ (λ e h. cc) (λ e.
    split P (nat_le first_exhausted s.next) (refused fault.Exhausted s) _ (λ e h. cc) (λ e.
    split P (nat_le most_unacknowledged (count_by (is_unacknowledged s.role) s.table.entries)) (refused fault.OpensPending s) _ (λ e h. cc) (λ e.
    split P (nat_le most_records (length s.table.entries)) (refused fault.TooMany s) (answers (reply.Opened s.next) (session_opened false [] s)) (λ e h. cc) (λ e h. cc))))))

opened_status : (s : Session) → (open_stream s).next.status ≡ s.status
opened_status s =
    let P : Outcome → Type 0 = λ o. o.next.status ≡ s.status in
    split P (is_closed s.status) (refused fault.Closed s) _ (λ e. refl) (λ e.
    split P (is_lost s.status) (refused fault.Lost s) _ (λ e. refl) (λ e.
    split P s.away.there (refused fault.PeerAway s) _ (λ e. refl) (λ e.
    split P (nat_le first_exhausted s.next) (refused fault.Exhausted s) _ (λ e. refl) (λ e.
    split P (nat_le most_unacknowledged (count_by (is_unacknowledged s.role) s.table.entries)) (refused fault.OpensPending s) _ (λ e. refl) (λ e.
    split P (nat_le most_records (length s.table.entries)) (refused fault.TooMany s) (answers (reply.Opened s.next) (session_opened false [] s)) (λ e. refl) (λ e. refl))))))

pub opened_calm : (id : ℕ) (s t : Session) → Gives in_turn s (event.Call call.Open) (reply.Opened id) t → IsWithin s → CalmsBut id s t
opened_calm id s t (HasOutcome answer state) w =
    let within = gives-keep in_turn s t (event.Call call.Open) (reply.Opened id) (HasOutcome answer state) w in
    let is : id ≡ s.next = opened_id id s answer in
    others_calm id s t (ap (λ (x : Session). x.status) state ∙ opened_status s) (λ j n. ap (λ (x : Session). look_up j x.table.entries) state ∙ open-others s j (λ e. n (e ∙ sym is))) within
opened_calm id s t (NoMemory needs answer state) w = cc

-- a stream that says no more and takes no bytes, as one that isn't there
abbrev pub IsMute : ℕ → Session → Type 0
IsMute id s = (is_silent id s ≡ true) × (is_stopped id s ≡ true)

-- nor was it there before
pub opened_fresh : (id : ℕ) (s t : Session) → Gives in_turn s (event.Call call.Open) (reply.Opened id) t → IsWithin s → IsMute id s
opened_fresh id s t (HasOutcome answer state) w = none_there id s (by (look_up id s.table.entries) refl)
  where
    by : (o : Option End) → look_up id s.table.entries ≡ o → look_up id s.table.entries ≡ None
    by None e = e
    by (Some e) there =
        let is : id ≡ s.next = opened_id id s answer in
        let own : is_own s.role id ≡ true = ap (is_own s.role) is ∙ w.next.parity in
        let less = w.next.above id e there own in
        absurd (omega (arith, is, less))
opened_fresh id s t (NoMemory needs answer state) w = cc

accepted_status : (s : Session) → (accept s).next.status ≡ s.status
accepted_status s = let P : Outcome → Type 0 = λ o. o.next.status ≡ s.status in split P (is_closed s.status) (refused fault.Closed s) (accept_of s.offered s) (λ e. refl) (λ e. of s.offered)
  where
    of : (ids : List ℕ) → (accept_of ids s).next.status ≡ s.status
    of [] = split (λ (o : Outcome). o.next.status ≡ s.status) (is_lost s.status) (refused fault.Lost s) (answers (reply.Accepted None) s) (λ e. refl) (λ e. refl)
    of (x ∷ xs) = refl

pub accepted_calm : (id : ℕ) (s t : Session) → Gives in_turn s (event.Call call.Accept) (reply.Accepted (Some id)) t → IsWithin s → CalmsBut id s t
accepted_calm id s t (HasOutcome answer state) w =
    let within = gives-keep in_turn s t (event.Call call.Accept) (reply.Accepted (Some id)) (HasOutcome answer state) w in
    others_calm id s t (ap (λ (x : Session). x.status) state ∙ accepted_status s) (λ j n. ap (λ (x : Session). look_up j x.table.entries) state ∙ accept-others id s (sym answer) j n) within
accepted_calm id s t (NoMemory needs answer state) w = cc

listed_first : (id : ℕ) (closed : Bool) (ids : List ℕ) (s : Session) → reply.Accepted (Some id) ≡ (if closed then refused fault.Closed s else accept_of ids s).reply → is_listed id ids ≡ true
listed_first id true ids s h = cc
listed_first id false [] s h = by (is_lost s.status) h
  where
    by : (lost : Bool) → reply.Accepted (Some id) ≡ (if lost then refused fault.Lost s else answers (reply.Accepted None) s).reply → is_listed id [] ≡ true
    by true k = cc
    by false k = cc
listed_first id false (x ∷ ids) s h = let e : x ≡ id = cc in ap (λ (b : Bool). b || is_listed id ids) (same_one x id e)
  where
    same_one : (m n : ℕ) → m ≡ n → (m == n) ≡ true
    same_one m n e = grind (arith, nat_tests)

-- one that is accepted was offered until then
pub accepted_fresh : (id : ℕ) (s t : Session) → Gives in_turn s (event.Call call.Accept) (reply.Accepted (Some id)) t → IsWithin s → IsMute id s
accepted_fresh id s t (HasOutcome answer state) w = offered_there id s (sym (w.offered.listed id) ∙ listed_first id (is_closed s.status) s.offered s answer)
accepted_fresh id s t (NoMemory needs answer state) w = cc

-- the others are served where one stream changed
pub serving_but : (id : ℕ) (a b : Tunnel) → (IsWithin a.engine.session → CalmsBut id a.engine.session b.engine.session) → KeepsConnections a.connections b.connections → Serving a → ServingBut id b
serving_but id a b calm keeps h =
    let q = calm h.within in
    record { within = q.within; each = λ other ne. served_at other a b (q.came other ne) q.runs (keeps.connections other) (keeps.awaits other) (keeps.holds other) (h.each other) }

-- a device joined it, and waits for a turn
pub serving_joined : (id : ℕ) (seen : Seen) (a b : Tunnel) → Joins id seen a b → ServingBut id a → Serving b
serving_joined id seen a b x =
    serving_with id a b (λ w. but_same id a.engine.session b.engine.session (ap (λ e. e.session) x.engine) w) (others_put id _ a.connections b.connections x.connections.connections (extends_added id a.connections b.connections x.connections.turn) x.connections.turn.missed
    (λ other h. subst (λ (v : List ℕ). Contains v other) (sym x.connections.turn.held) h)) (λ w. served_waits id b (inl x.connections.waits))

-- it has one already, which is what it was
pub serving_there : (id : ℕ) (a b : Tunnel) → (IsWithin a.engine.session → CalmsBut id a.engine.session b.engine.session) → KeepsConnections a.connections b.connections → IsServed id b → Serving a → Serving b
serving_there id a b calm keeps own h =
    let q = serving_but id a b calm keeps h in record { within = q.within; each = λ other. by q other (nat_eq id other) refl }
  where
    by : ServingBut id b → (other : ℕ) (t : Bool) → nat_eq id other ≡ t → IsServed other b
    by q other true t = subst (λ (n : ℕ). IsServed n b) (sym (eq_ids id other t)) own
    by q other false t = q.each other t

-- ---- whose turn it is

awaits_popped : (busy : Bool) (id other : ℕ) (a b : Connections) → IsFirst busy id a b → b.missed ≡ a.missed → nat_eq id other ≡ false → Awaits other a → Awaits other b
awaits_popped true id other a b f m ne (inl (inl x)) = inl (inl (subst (λ (v : List ℕ). Contains v other) (sym f.1) x))
awaits_popped true id other a b f m ne (inl (inr x)) = inl (inr (popped a.busy b.busy id other f.0 ne x))
awaits_popped false id other a b f m ne (inl (inl x)) = inl (inl (popped a.fresh b.fresh id other f.0 ne x))
awaits_popped false id other a b f m ne (inl (inr x)) = inl (inr (subst (λ (v : List ℕ). Contains v other) (sym f.1) x))
awaits_popped busy id other a b f m ne (inr x) = inr (m ∙ x)

pub serving_turn : (id : ℕ) (a b : Tunnel) → b.engine ≡ a.engine → SameConnections a.connections b.connections → TakesTurn id a.connections b.connections → b.connections.missed ≡ a.connections.missed → b.connections.held ≡ a.connections.held → Serving a → ServingBut id b
serving_turn id a b e same takes m held h =
    let q = calms_same a.engine.session b.engine.session (ap (λ v. v.session) e) h.within in
    record { within = q.within; each = λ other ne. served_at other a b (q.came other) q.runs (same other) (λ some. awaits_popped (takes_busy a.connections) id other a.connections b.connections takes.first m ne) (λ some. attended_held a.connections b.connections held other) (h.each other) }

-- ---- a turn

pub turn_calm : (id most : ℕ) (s t : Session) (out out_new : List ℕ) (before after : Seen) (was now : Directions) (more : Bool) (gave : ℕ) → Turn id most s t out out_new before after was now more gave → IsWithin s → CalmsBut id s t
turn_calm id most s t out out_new before after was now more gave x w =
    let calm = exchanges_calm id s t out out_new before after x.moved w in
    record { within = calm.within; came = turn_gains id x.moved.events s t x.moved.happen x.moved.own w; runs = same_runs s t (steady_all (is_of_turn id) (turn_steady id) x.moved.events s t x.moved.happen x.moved.own) }

part_served : (id most : ℕ) (was : Connection) (a b : Tunnel) (gave : ℕ) → TakesPart id most was a.engine.session b.engine.session a.engine.outgoing b.engine.outgoing a.connections b.connections gave → IsWithin a.engine.session → IsServed id b
part_served id most was a b gave x w = record {
  gets = λ l there may some. x.again (x.turn.stays w (subst (λ (v : Connection). may_push v.directions v.seen.marks ≡ true) (is_now l there) may) some);
  gives = λ l there may some. by (most == 0) refl (subst (λ (v : Connection). may_pull v.directions v.seen.marks ≡ true) (is_now l there) may) some;
  hears = λ l there over opened. x.again (x.turn.hears over (subst (λ (v : Connection). is_open v.directions.to_peer ≡ true) (is_now l there) opened));
  ends = λ l there may silent. x.again (x.turn.ends_on (subst (λ (v : Connection). may_push v.directions v.seen.marks ≡ true) (is_now l there) may) silent);
  stops = λ l there opened stopped. x.again (x.turn.stops_on (subst (λ (v : Connection). is_open v.directions.to_peer ≡ true) (is_now l there) opened) stopped);
}
  where
    is_now : (l : Connection) → connection_of id b.connections ≡ Some l → l ≡ x.now
    is_now l there = let e : Some l ≡ Some x.now = sym there ∙ connection_put_at id (Some x.now) a.connections b.connections x.connections in cc

    by : (none : Bool) → (most == 0) ≡ none → may_pull x.now.directions x.now.seen.marks ≡ true → 0 < room_of id b.engine.session → Attended id b.connections
    by true e may some = x.put_off (grind (arith, nat_tests)) may
    by false e may some = inl (x.again (x.turn.asks_on (grind (arith, nat_tests)) may some))

pub serving_part : (id most : ℕ) (was : Connection) (a b : Tunnel) (gave : ℕ) → TakesPart id most was a.engine.session b.engine.session a.engine.outgoing b.engine.outgoing a.connections b.connections gave → KeepsOthers id a.connections b.connections → ServingBut id a → Serving b
serving_part id most was a b gave x others =
    serving_with id a b (turn_calm id most a.engine.session b.engine.session a.engine.outgoing b.engine.outgoing was.seen x.now.seen was.directions x.now.directions x.more gave x.turn) others (λ w. part_served id most was a b gave x w)

-- ---- what an event said of a device

pub serving_noted : (id : ℕ) (ready : Readiness) (was : Connection) (a b : Tunnel) → b.engine ≡ a.engine → Notes id ready was a.connections b.connections → Serving a → Serving b
serving_noted id ready was a b e x h =
    serving_with id a b (λ w. but_same id a.engine.session b.engine.session (ap (λ v. v.session) e) w) (others_put id _ a.connections b.connections x.connections (extends_added id a.connections b.connections x.turn) x.turn.missed
    (λ other h. subst (λ (v : List ℕ). Contains v other) (sym x.turn.held) h)) (λ w. served_waits id b x.awaits) (but_of id a h)

-- ---- pings

kept_calls : (c : Call) (s t : Session) (told : Reply) → ((outcome c s).next.table ≡ s.table) → ((outcome c s).next.status ≡ s.status) → CallGives s c told t → NoneGain s t
kept_calls c s t told table status (HasOutcome answer state) = subst (NoneGain s) (sym state) (λ id. gains_same id s (outcome c s).next status (ap (λ x. look_up id x.entries) table))
kept_calls c s t told table status (NoMemory needs answer state) = λ id. gains_still id s t state

ping_same : (s : Session) → ((ping s).next.table ≡ s.table) × ((ping s).next.status ≡ s.status)
ping_same s =
    let P : Outcome → Type 0 = λ o. (o.next.table ≡ s.table) × (o.next.status ≡ s.status) in
    split P (is_closed s.status) (refused fault.Closed s) _ (λ e. (refl, refl)) (λ e.
    split P (is_lost s.status) (refused fault.Lost s) _ (λ e. (refl, refl)) (λ e.
    split P (nat_le most_pings (length s.pings.pending)) (refused fault.PingsPending s) (answers (reply.Pinged (next_number s.pings)) (record s { pings = ask s.pings })) (λ e. (refl, refl)) (λ e. (refl, refl))))

ponged_same : (n : ℕ) (s : Session) → ((ponged n s).next.table ≡ s.table) × ((ponged n s).next.status ≡ s.status)
ponged_same n s =
    let P : Outcome → Type 0 = λ o. (o.next.table ≡ s.table) × (o.next.status ≡ s.status) in
    split P (is_closed s.status) (refused fault.Closed s) _ (λ e. (refl, refl)) (λ e.
    split P (has_back n s.pings.pending) (answers (reply.Ponged true) (record s { pings = collect n s.pings })) _ (λ e. (refl, refl)) (λ e.
    split P (is_lost s.status) (refused fault.Lost s) (answers (reply.Ponged false) s) (λ e. (refl, refl)) (λ e. (refl, refl))))

pub pinged_calm : (told : Reply) (s t : Session) → Gives in_turn s (event.Call call.Ping) told t → IsWithin s → Calms s t
pinged_calm told s t g w =
    let k = ping_same s in
    record { within = gives-keep in_turn s t (event.Call call.Ping) told g w; came = kept_calls call.Ping s t told k.0 k.1 g; runs = same_runs s t (called_status call.Ping s t told k.1 g) }

pub ponged_calm : (n : ℕ) (told : Reply) (s t : Session) → Gives in_turn s (event.Call (call.Ponged n)) told t → IsWithin s → Calms s t
ponged_calm n told s t g w =
    let k = ponged_same n s in
    record { within = gives-keep in_turn s t (event.Call (call.Ponged n)) told g w; came = kept_calls (call.Ponged n) s t told k.0 k.1 g; runs = same_runs s t (called_status (call.Ponged n) s t told k.1 g) }

-- ---- go away

go_away_same : (s : Session) → ((go_away s).next.table ≡ s.table) × ((go_away s).next.status ≡ s.status)
go_away_same s =
    let P : Outcome → Type 0 = λ o. (o.next.table ≡ s.table) × (o.next.status ≡ s.status) in
    split P (is_closed s.status) (refused fault.Closed s) _ (λ e. (refl, refl)) (λ e.
    split P (is_lost s.status) (refused fault.Lost s) (answers reply.Done (record s { away = say_away s.away })) (λ e. (refl, refl)) (λ e. (refl, refl)))

pub away_calm : (told : Reply) (s t : Session) → Gives in_turn s (event.Call call.GoAway) told t → IsWithin s → Calms s t
away_calm told s t g w =
    let k = go_away_same s in
    record { within = gives-keep in_turn s t (event.Call call.GoAway) told g w; came = kept_calls call.GoAway s t told k.0 k.1 g; runs = same_runs s t (called_status call.GoAway s t told k.1 g) }
