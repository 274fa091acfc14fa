-- How connections come to a tunnel and leave it, and what events and signs of life change in it.
use Rattle.std.proofs.Common.{◌≡◌, inl, inr, ℕ, ◌<◌, List, [], ◌∷◌, length, Bool, true, false, not, ◌||◌, ◌&&◌, if◌then◌else◌, Result, Ok, Err, Option, None, Some, refl, sym, ap, ◌∙◌, subst, cond, arith}
use Rattle.std.specs.Prelude.{◌⊎◌, is_some, IfOk, IfErr, IfNone, OnOk, IsSome, nat_eq, option_map}
use Rattle.std.specs.Map.{lookup}
use Rattle.ymx_machine.specs.declared.types.Call.TheVariants as call
use Rattle.ymx_machine.specs.declared.types.CallFault.{CallFault}
use Rattle.ymx_machine.specs.declared.types.CallFault.TheVariants.{Lost, Closed, NoStream, Reset}
use Rattle.ymx_machine.specs.declared.types.Reply.TheVariants as reply
use Rattle.ymx_machine.specs.shared.Events.{Reply}
use Rattle.ymx_machine.specs.shared.Lists.{look as look_up, Distinct}
use Rattle.ymx_machine.specs.shared.Phases.{is_live, is_reset}
use Rattle.ymx_machine.specs.shared.Phases.Phase.{Lingering}
use Rattle.ymx_machine.specs.shared.Replies.{forget_reply, is_done}
use Rattle.ymx_machine.proofs.Lists.{look-change_there, look-without_same, distinct-change}
use Rattle.ymx_machine.proofs.Tests.{split}
use Rattle.ymx_model.specs.declared.types.Event.TheVariants as event
use Rattle.ymx_model.specs.session.Calls.{accept, accept_of, answers, refused, forget, forget_outcome, at_record}
use Rattle.ymx_model.specs.session.Emissions.{in_turn}
use Rattle.ymx_model.specs.session.Events.{Event}
use Rattle.ymx_model.specs.session.Histories.{Gives}
use Rattle.ymx_model.specs.session.Records.{End, end_forget}
use Rattle.ymx_model.specs.session.Sessions.{Session, is_closed, is_lost, is_spent, on_stream, reap}
use Rattle.ymx_model.specs.session.Tables.{remove_record}
use Rattle.ymx_law_session.specs.Limits.{IsWithin}
use Rattle.ymx_session.specs.Replies.{end_fault, stream_fault}
use Rattle.ymx_session.specs.Streams.{waiting, room_of, unread_of, open_credit}
use Rattle.ymx_session.proofs.Sounds.{called}
use Rattle.ymx_engine.specs.declared.device.Readiness.{Readiness}
use Rattle.ymx_engine.specs.declared.joining.NotJoined.{NotJoined}
use Rattle.ymx_engine.specs.declared.joining.NotJoined.TheVariants as unjoined
use Rattle.ymx_engine.specs.Devices.{Seen, IsNoted, IsEnded, IsShut}
use Rattle.ymx_engine.specs.Engines.{Engine, KeepsWire}
use Rattle.ymx_engine.specs.Joins.{Joins, Told, DropsOut, LeavesOut, IsUnjoined, Coming, IsOpened, IsAccepted, IsJoined, Rejects, Unregisters, ComesTwice, JoinsNone, IsNotOpened, IsNotAccepted}
use Rattle.ymx_engine.specs.Lives.{Life}
use Rattle.ymx_engine.specs.Moves.{Moves}
use Rattle.ymx_engine.specs.Refusals.{GivesUp, IsForgotten, OffersNone, OpensNone}
use Rattle.ymx_engine.specs.Runs.{Runs, Stays}
use Rattle.ymx_engine.specs.Served.{Serving, GainsNone}
use Rattle.ymx_engine.specs.Tunnels.{Tunnel}
use Rattle.ymx_engine.specs.Directions.{new_directions}
use Rattle.ymx_engine.specs.Turns.{Connection, Entry, Connections, connection_of, look, Awaits, Puts, SameConnections, LeavesQueues, Extends, KeepsConnections, Notes}
use Rattle.ymx_engine.proofs.Attending.{IsDone, runs_on, runs_left_one}
use Rattle.ymx_engine.proofs.Carrying.{gives_from, loses_in}
use Rattle.ymx_engine.proofs.Gaining.{gains_then}
use Rattle.ymx_engine.proofs.Entries.{eq_ids}
use Rattle.ymx_engine.proofs.Listing.{LeavesWire}
use Rattle.ymx_engine.proofs.Quiet.{IsQuiet}
use Rattle.ymx_engine.proofs.Queueing.{extends_same, extends_then, extends_added, keeps_same, puts_behind_same}
use Rattle.ymx_engine.proofs.Running.{SameSeen, puts_look, moves_idle, moves_called, moves_opened, moves_accepted, moves_not_opened, moves_not_accepted, moves_forgot, moves_noted, moves_wire_noted, moves_ended, moves_shut, moves_pinged}
use Rattle.ymx_engine.proofs.Tending.{Calms, CalmsBut, calms_same, serving_kept, serving_session, serving_connections, serving_all, served_none, serving_but, but_of, serving_joined, serving_dropped, serving_gone, serving_noted, opened_calm, opened_fresh, accepted_calm, accepted_fresh, forgotten_calm, IsMute, pinged_calm, ponged_calm, away_calm, ends_within}
use Rattle.ymx_engine.proofs.Trading.{life_quiet}

-- ---- where the connections stay

extends_alike : (a b : Connections) → b ≡ a → Extends a b
extends_alike a b e = subst (Extends a) (sym e) (extends_same a)

seen_alike : (a b : Tunnel) → b.connections ≡ a.connections → SameSeen a b
seen_alike a b e id = ap (look id) e

keeps_wire : (a b : Engine) → b ≡ a → KeepsWire a b
keeps_wire a b e = record { outgoing = ap (λ (v : Engine). v.outgoing) e; incoming = ap (λ (v : Engine). v.incoming) e }

runs_beside : (a b : Tunnel) → Moves a b → (IsWithin a.engine.session → Calms a.engine.session b.engine.session) → b.connections ≡ a.connections → Runs a b
runs_beside a b m calm same = runs_on a b m (serving_session a b calm same) (extends_alike a.connections b.connections same)

still_calm : (a b : Tunnel) → b.engine ≡ a.engine → IsWithin a.engine.session → Calms a.engine.session b.engine.session
still_calm a b e = calms_same a.engine.session b.engine.session (ap (λ (v : Engine). v.session) e)

-- nothing moved
pub runs_unmoved : (a b : Tunnel) → b.engine ≡ a.engine → b.wire ≡ a.wire → b.connections ≡ a.connections → Runs a b
runs_unmoved a b engine wire same =
    runs_beside a b (moves_called a b [] (ap (λ (v : Engine). v.session) engine) ((refl, λ w. tt), refl, refl, refl) (keeps_wire a.engine b.engine engine) wire
    (λ other. subst (λ (l : Connections). Life other [] (look other a.connections) (look other l)) (sym same) (life_quiet other [] (look other a.connections) (refl, refl, refl, refl, refl, refl)))) (still_calm a b engine) same

-- an event said something of the wire
pub runs_wire_noted : (a b : Tunnel) (ready : Readiness) → b.engine ≡ a.engine → IsNoted ready a.wire b.wire → b.connections ≡ a.connections → Runs a b
runs_wire_noted a b ready engine x same = runs_beside a b (moves_wire_noted a b ready engine x (seen_alike a b same)) (still_calm a b engine) same

-- nothing more goes over the wire
pub runs_ended : (a b : Tunnel) → b.engine ≡ a.engine → IsEnded a.wire b.wire → b.connections ≡ a.connections → Runs a b
runs_ended a b engine x same = runs_beside a b (moves_ended a b engine x (seen_alike a b same)) (still_calm a b engine) same

-- a ping was asked
pub runs_pinged : (a b : Tunnel) (told : Reply) → Gives in_turn a.engine.session (event.Call call.Ping) told b.engine.session → KeepsWire a.engine b.engine → b.wire ≡ a.wire → b.connections ≡ a.connections → Runs a b
runs_pinged a b told g keeps wire same =
    runs_beside a b (moves_pinged a b call.Ping told (λ id. (refl, refl, refl, refl, refl, refl)) refl g keeps wire (seen_alike a b same)) (pinged_calm told a.engine.session b.engine.session g) same

-- its answer was asked for
pub runs_ponged : (a b : Tunnel) (n : ℕ) (told : Reply) → Gives in_turn a.engine.session (event.Call (call.Ponged n)) told b.engine.session → KeepsWire a.engine b.engine → b.wire ≡ a.wire → b.connections ≡ a.connections → Runs a b
runs_ponged a b n told g keeps wire same =
    runs_beside a b (moves_pinged a b (call.Ponged n) told (λ id. (refl, refl, refl, refl, refl, refl)) refl g keeps wire (seen_alike a b same)) (ponged_calm n told a.engine.session b.engine.session g) same

-- a go away was said
pub runs_went_away : (a b : Tunnel) (told : Reply) → Gives in_turn a.engine.session (event.Call call.GoAway) told b.engine.session → KeepsWire a.engine b.engine → b.wire ≡ a.wire → b.connections ≡ a.connections → Runs a b
runs_went_away a b told g keeps wire same =
    runs_beside a b (moves_pinged a b call.GoAway told (λ id. (refl, refl, refl, refl, refl, refl)) refl g keeps wire (seen_alike a b same)) (away_calm told a.engine.session b.engine.session g) same

-- ---- the wire's end

-- all connections have a turn
pub serving_lost : (a b : Tunnel) → Gives in_turn a.engine.session event.FeedEnd reply.Done b.engine.session → KeepsConnections a.connections b.connections → ((id : ℕ) → IsSome (connection_of id a.connections) → Awaits id b.connections) → Serving a → Serving b
serving_lost a b g keeps all h =
    serving_all b (ends_within a.engine.session b.engine.session g h.within) (λ id some. all id (subst (λ (o : Option Connection). IsSome o) (keeps.connections id) some))

-- the wire was shut, and then the session heard of its end
pub runs_shut : (a b c : Tunnel) → b.engine ≡ a.engine → b.connections ≡ a.connections → IsShut a.wire b.wire → Gives in_turn b.engine.session event.FeedEnd reply.Done c.engine.session → KeepsWire b.engine c.engine → c.wire ≡ b.wire →
    KeepsConnections b.connections c.connections → (Serving b → Serving c) → Runs a c
runs_shut a b c engine same x g keeps wire connections serves =
    let kept : KeepsConnections a.connections c.connections = subst (λ (l : Connections). KeepsConnections l c.connections) same connections in
    let closed : IsShut a.wire c.wire = subst (λ (w : Seen). IsShut a.wire w) (sym wire) x in
    let first : KeepsWire a.engine b.engine = keeps_wire a.engine b.engine engine in
    runs_on a c
    (moves_shut a c (loses_in a.engine c.engine b.engine.session (ap (λ (v : Engine). v.session) engine) g (keeps.incoming ∙ first.incoming) (keeps.outgoing ∙ first.outgoing)) closed (λ id. ap (option_map (λ (l : Connection). l.seen)) (kept.connections id)))
    (λ h. serves (serving_session a b (still_calm a b engine) same h)) kept.queues

-- ---- what an event said of a device

pub runs_connection_noted : (a b : Tunnel) (id : ℕ) (ready : Readiness) → b.engine ≡ a.engine → b.wire ≡ a.wire → ((was : Connection) → connection_of id a.connections ≡ Some was → Notes id ready was a.connections b.connections) → (connection_of id a.connections ≡ None → b.connections ≡ a.connections) → Runs a b
runs_connection_noted a b id ready engine wire noted none = by (connection_of id a.connections) refl
  where
    by : (o : Option Connection) → connection_of id a.connections ≡ o → Runs a b
    by None e = runs_unmoved a b engine wire (none e)
    by (Some was) e =
        let x = noted was e in
        runs_on a b (moves_noted a b id ready was.seen x.now engine wire x.noted (ap (option_map (λ (l : Connection). l.seen)) e) (λ other. puts_look id other (Some (record { seen = x.now; directions = was.directions })) a.connections b.connections x.connections))
        (serving_noted id ready was a b engine x) (extends_added id a.connections b.connections x.turn)

-- no device joined or left
there_on : (id other : ℕ) (o p : Option Seen) (e : Seen) (t : Bool) → nat_eq id other ≡ t → IsSome o → (nat_eq id other ≡ true → p ≡ o) → is_some (cond t (Some e) p) ≡ is_some p
there_on id other o p e true t some same = sym (ap is_some (same t) ∙ some)
there_on id other o p e false t some same = refl

pub stays_connection_noted : (a b : Tunnel) (id : ℕ) (ready : Readiness) → b.wire ≡ a.wire → ((was : Connection) → connection_of id a.connections ≡ Some was → Notes id ready was a.connections b.connections) → (connection_of id a.connections ≡ None → b.connections ≡ a.connections) → Stays a b
stays_connection_noted a b id ready wire noted none = record { joined = λ other. by other (connection_of id a.connections) refl; ended = ap (λ (s : Seen). s.ended) wire; shut = ap (λ (s : Seen). s.shut) wire }
  where
    by : (other : ℕ) (o : Option Connection) → connection_of id a.connections ≡ o → is_some (look other b.connections) ≡ is_some (look other a.connections)
    by other None e = ap (λ (l : Connections). is_some (look other l)) (none e)
    by other (Some was) e =
        let x = noted was e in
        let at : look id a.connections ≡ Some was.seen = ap (option_map (λ (l : Connection). l.seen)) e in
        ap is_some (puts_look id other (Some (record { seen = x.now; directions = was.directions })) a.connections b.connections x.connections)
        ∙ there_on id other (Some was.seen) (look other a.connections) x.now (nat_eq id other) refl refl (λ t. ap (λ (n : ℕ). look n a.connections) (eq_ids id other t) ∙ at)

pub stays_from : (a b c : Tunnel) → a ≡ b → Stays a c → Stays b c
stays_from a b c e x = subst (λ (v : Tunnel). Stays v c) e x

-- ---- a connection leaves

pub runs_forgot : (a b : Tunnel) (id : ℕ) (told : Reply) → IsDone id a → Gives in_turn a.engine.session (event.Call (call.Forget id)) told b.engine.session → KeepsWire a.engine b.engine → b.wire ≡ a.wire → b.is_wire_over ≡ a.is_wire_over → Puts id None a.connections b.connections →
    LeavesQueues id a.connections b.connections → Runs a b
runs_forgot a b id told over g keeps wire wire_over puts q =
    runs_left_one a b id (moves_forgot a b id told g keeps wire (λ other. puts_look id other None a.connections b.connections puts))
    (λ h. serving_gone id a b (forgotten_calm id told a.engine.session b.engine.session g) puts q (but_of id a h)) over
    (record { left = record { told = told; forgotten = g }; keeps = keeps; wire = wire; over = wire_over; connections = puts }) q

-- a stream that was forgotten takes no bytes, and none wait on it
lingers : (lost : Bool) (e : End) → (end_forget lost e).phase ≡ Lingering
lingers lost e =
    split (λ (x : End). x.phase ≡ Lingering) lost _ _ (λ a. refl) (λ a.
    split (λ (x : End). x.phase ≡ Lingering) (is_reset e.phase) _ _ (λ b. refl) (λ b.
    split (λ (x : End). x.phase ≡ Lingering) (e.writer.finished && e.reader.ended) _ _ (λ d. refl) (λ d. refl)))

abbrev Gone : ℕ → Session → Type 0
Gone id s = is_some (stream_fault id s) ≡ true

abbrev Faulty : Option End → Type 0
Faulty o = is_some (end_fault o) ≡ true

faulty_gone : (id : ℕ) (s : Session) → Faulty (look_up id s.table.entries) → Gone id s
faulty_gone id s h = split (λ (f : Option CallFault). is_some f ≡ true) (is_closed s.status) (Some Closed) (end_fault (look_up id s.table.entries)) (λ e. refl) (λ e. h)

not_live : (e : End) → e.phase ≡ Lingering → Faulty (Some e)
not_live e l = rw l refl

reaped_gone : (id : ℕ) (t : Session) → Distinct t.table.entries → Faulty (look_up id t.table.entries) → Faulty (look_up id (reap id t).table.entries)
reaped_gone id t d none =
    split (λ (u : Session). Faulty (look_up id u.table.entries)) (is_spent t.table.window t.outgoing id (look_up id t.table.entries)) (record t { table = remove_record id t.table }) t
    (λ e. rw (look-without_same id t.table.entries d) refl) (λ e. none)

refused_faulty : (e : End) → is_done (forget_reply e.phase) ≡ false → Faulty (Some e)
refused_faulty e = by (is_live e.phase) (is_reset e.phase)
  where
    by : (live reset : Bool) → is_done (if live || reset then reply.Done else reply.Refused NoStream) ≡ false → is_some (if reset then Some Reset else if not live then Some NoStream else None) ≡ true
    by true reset h = let no : true ≡ false = h in absurd cc
    by false true h = refl
    by false false h = refl

forget_gone : (id : ℕ) (s : Session) → Distinct s.table.entries → Gone id (forget id s).next
forget_gone id s d = by (is_closed s.status) refl
  where
    of : (o : Option End) → look_up id s.table.entries ≡ o → Faulty (look_up id (at_record (forget_outcome id s) s o).next.table.entries)
    of None l = rw l refl
    of (Some e) l =
        split (λ (u : Session). Faulty (look_up id u.table.entries)) (is_done (forget_reply e.phase)) (reap id (on_stream id (end_forget (is_lost s.status)) s)) s
        (λ t.
        let f = end_forget (is_lost s.status) in
        let there : look_up id (on_stream id f s).table.entries ≡ Some (f e) = look-change_there id f s.table.entries e l in
        reaped_gone id (on_stream id f s) (distinct-change id f s.table.entries d) (subst Faulty (sym there) (not_live (f e) (lingers (is_lost s.status) e))))
        (λ n. subst Faulty (sym l) (refused_faulty e n))

    by : (closed : Bool) → is_closed s.status ≡ closed → Gone id (if closed then refused Closed s else at_record (forget_outcome id s) s (look_up id s.table.entries)).next
    by true e = rw e refl
    by false e = faulty_gone id (at_record (forget_outcome id s) s (look_up id s.table.entries)).next (of (look_up id s.table.entries) refl)

none_waiting : (gone : Bool) (xs : List ℕ) → gone ≡ true → (if gone then [] else xs) ≡ []
none_waiting true xs e = refl
none_waiting false xs e = cc

no_room : (gone lost : Bool) (n : ℕ) → gone ≡ true → (if gone || lost then 0 else n) ≡ 0
no_room true lost n e = refl
no_room false lost n e = cc

gone_gains : (id : ℕ) (s t : Session) → IsMute id s → Gone id t → GainsNone id s t
gone_gains id s t fresh e =
    let none : waiting id t ≡ [] = none_waiting (is_some (stream_fault id t)) (unread_of (look_up id t.table.entries)) e in
    let full : room_of id t ≡ 0 = no_room (is_some (stream_fault id t)) (is_lost t.status) (open_credit (look_up id t.table.entries)) e in
    record { bytes = λ some. let no : 0 < 0 = subst (λ (xs : List ℕ). 0 < length xs) none some in absurd (omega arith); room = λ some. let no : 0 < 0 = subst (λ (n : ℕ). 0 < n) full some in absurd (omega arith); silence = λ h. fresh.0; stop = λ h. fresh.1 }

-- ---- a stream comes

-- A stream was opened or accepted, and no device has joined it yet. Each connection is what it was, and no other stream gained
-- anything.
pub record Comes (id : ℕ) (a b : Tunnel) : Type 0 where
  pub joins : (d : Seen) (c : Tunnel) → Joins id d b c → Moves a c
  pub drops : (c : Tunnel) → DropsOut id b c → Moves a c
  pub leaves : (c : Tunnel) → LeavesOut id b c → Moves a c
  pub calm : IsWithin a.engine.session → CalmsBut id a.engine.session b.engine.session
  pub fresh : IsWithin a.engine.session → IsMute id a.engine.session
  pub connections : KeepsConnections a.connections b.connections

same_seen : (a b : Tunnel) → KeepsConnections a.connections b.connections → SameSeen a b
same_seen a b keeps id = ap (option_map (λ (l : Connection). l.seen)) (keeps.connections id)

-- it came, and was forgotten while another device had its id
moves_left : (a b c : Tunnel) (id : ℕ) (k : Event × Reply) → Gives in_turn a.engine.session k.0 k.1 b.engine.session → KeepsWire a.engine b.engine → b.wire ≡ a.wire → SameSeen a b → (j : LeavesOut id b c) →
    LeavesWire (k ∷ (event.Call (call.Forget id), j.left.told) ∷ []) → ((other : ℕ) → IsQuiet other (k ∷ (event.Call (call.Forget id), j.left.told) ∷ [])) → Moves a c
moves_left a b c id k g keeps wire same j leaves quiet =
    let es : List (Event × Reply) = k ∷ (event.Call (call.Forget id), j.left.told) ∷ [] in
    moves_idle a c es (b.engine.session, g, (c.engine.session, j.left.forgotten, refl)) leaves (record { outgoing = j.keeps.outgoing ∙ keeps.outgoing; incoming = j.keeps.incoming ∙ keeps.incoming }) (j.wire ∙ wire)
    (λ other. ap (look other) j.connections ∙ same other) (λ other. life_quiet other es (look other a.connections) (quiet other))

pub comes_opened : (a b : Tunnel) (id : ℕ) → Gives in_turn a.engine.session (event.Call call.Open) (reply.Opened id) b.engine.session → KeepsWire a.engine b.engine → b.wire ≡ a.wire → KeepsConnections a.connections b.connections → Comes id a b
comes_opened a b id g keeps wire connections =
    let same = same_seen a b connections in
    record {
      joins = λ d c j. moves_opened a b c id d g keeps wire same j;
      drops = λ c j. moves_not_opened a b c id g keeps wire same j;
      leaves = λ c j. moves_left a b c id (event.Call call.Open, reply.Opened id) g keeps wire same j ((refl, λ w. (tt, (tt, tt))), refl, refl, refl) (λ other. (refl, refl, refl, refl, refl, refl));
      calm = opened_calm id a.engine.session b.engine.session g;
      fresh = opened_fresh id a.engine.session b.engine.session g;
      connections = connections;
    }

pub comes_accepted : (a b : Tunnel) (id : ℕ) → Gives in_turn a.engine.session (event.Call call.Accept) (reply.Accepted (Some id)) b.engine.session → KeepsWire a.engine b.engine → b.wire ≡ a.wire → KeepsConnections a.connections b.connections → Comes id a b
comes_accepted a b id g keeps wire connections =
    let same = same_seen a b connections in
    record {
      joins = λ d c j. moves_accepted a b c id d g keeps wire same j;
      drops = λ c j. moves_not_accepted a b c id g keeps wire same j;
      leaves = λ c j. moves_left a b c id (event.Call call.Accept, reply.Accepted (Some id)) g keeps wire same j ((refl, λ w. (tt, (tt, tt))), refl, refl, refl) (λ other. (refl, refl, refl, refl, refl, refl));
      calm = accepted_calm id a.engine.session b.engine.session g;
      fresh = accepted_fresh id a.engine.session b.engine.session g;
      connections = connections;
    }

-- a device joined it
pub runs_joined : (id : ℕ) (d : Seen) (a b c : Tunnel) → Comes id a b → Joins id d b c → Runs a c
runs_joined id d a b c x j =
    runs_on a c (x.joins d c j) (λ h. serving_joined id d b c j (serving_but id a b x.calm x.connections h)) (extends_then a.connections b.connections c.connections x.connections.queues (extends_added id b.connections c.connections j.connections.turn))

extends_on : (a b c : Connections) → KeepsConnections a b → c ≡ b → Extends a c
extends_on a b c keeps e = subst (Extends a) (sym e) keeps.queues

-- it was reset and forgotten
pub runs_dropped : (id : ℕ) (a b c : Tunnel) → Comes id a b → DropsOut id b c → Runs a c
runs_dropped id a b c x j = runs_on a c (x.drops c j) (λ h. serving_dropped id b c j (serving_but id a b x.calm x.connections h)) (extends_on a.connections b.connections c.connections x.connections j.connections)

-- no other stream gained anything, and this one has nothing
calm_left : (id : ℕ) (s t u : Session) → CalmsBut id s t → IsMute id s → IsForgotten id t u → Calms s u
calm_left id s t u x fresh left =
    let y = forgotten_calm id left.told t u left.forgotten x.within in
    record { within = y.within; came = λ other. by other y.came (nat_eq id other) refl; runs = λ h. x.runs (y.runs h) }
  where
    k : (left.told ≡ (forget id t).reply) × (u ≡ (forget id t).next)
    k = called (call.Forget id) t u left.told refl left.forgotten

    by : (other : ℕ) → ((o : ℕ) → nat_eq id o ≡ false → GainsNone o t u) → (test : Bool) → nat_eq id other ≡ test → GainsNone other s u
    by other came false e = gains_then other s t u (x.came other e) (came other e)
    by other came true e = subst (λ (n : ℕ). GainsNone n s u) (sym (eq_ids id other e)) (gone_gains id s u fresh (subst (Gone id) (sym k.1) (forget_gone id t x.within.table.distinct)))

-- it was forgotten while another device had its id
pub runs_left : (id : ℕ) (a b c : Tunnel) → Comes id a b → LeavesOut id b c → Runs a c
runs_left id a b c x j =
    runs_on a c (x.leaves c j) (serving_kept a c (λ w. calm_left id a.engine.session b.engine.session c.engine.session (x.calm w) (x.fresh w) j.left) (subst (KeepsConnections a.connections) (sym j.connections) x.connections)) (extends_on a.connections b.connections c.connections x.connections j.connections)

-- a device joined it, or none did
pub runs_come : (r : Result ℕ NotJoined) (id : ℕ) (d : Seen) (a b c : Tunnel) (told told_new : Option (List (ℕ × Bool))) → Comes id a b → OnOk r (Joins id d b c) → IfErr r (λ why. IsUnjoined id why b c told told_new) → Runs a c
runs_come (Ok joined) id d a b c told told_new x ok err = runs_joined id d a b c x ok
runs_come (Err unjoined.Unregistered) id d a b c told told_new x ok err = runs_dropped id a b c x err.0
runs_come (Err unjoined.Twice) id d a b c told told_new x ok err = runs_left id a b c x err.0
runs_come (Err (unjoined.BySession fault)) id d a b c told told_new x ok err = absurd err
runs_come (Err (unjoined.OutOfMemory refused)) id d a b c told told_new x ok err = absurd err

-- ---- none comes

-- the session is as it was, and so is each connection
pub runs_still : (a b : Tunnel) → b.engine.session ≡ a.engine.session → KeepsWire a.engine b.engine → b.wire ≡ a.wire → KeepsConnections a.connections b.connections → Runs a b
runs_still a b still keeps wire connections =
    runs_on a b (moves_idle a b [] still ((refl, λ w. tt), refl, refl, refl) keeps wire (same_seen a b connections) (λ id. life_quiet id [] (look id a.connections) (refl, refl, refl, refl, refl, refl)))
    (serving_connections a b still connections) connections.queues

-- an accept that gives no stream changes nothing
empty_keeps : (is_over : Bool) (s : Session) → (if is_over then refused Lost s else answers (reply.Accepted None) s).next ≡ s
empty_keeps true s = refl
empty_keeps false s = refl

none_keeps : (is_over : Bool) (ids : List ℕ) (s : Session) → reply.Accepted None ≡ (if is_over then refused Closed s else accept_of ids s).reply →
    (if is_over then refused Closed s else accept_of ids s).next ≡ s
none_keeps true ids s r = refl
none_keeps false [] s r = empty_keeps (is_lost s.status) s
none_keeps false (id ∷ ids) s r = cc

offers_none : (s t u : Session) → s ≡ u → Gives in_turn s (event.Call call.Accept) (reply.Accepted None) t → OffersNone u t
offers_none s t u same g =
    let k : (reply.Accepted None ≡ (accept s).reply) × (t ≡ (accept s).next) = called call.Accept s t (reply.Accepted None) refl g in
    (k.1 ∙ none_keeps (is_closed s.status) s.offered s k.0 ∙ same, inl (gives_from (event.Call call.Accept) (reply.Accepted None) s t u same g))

pub offer_is : (offered : Option ℕ) (s t u : Session) → s ≡ u → Gives in_turn s (event.Call call.Accept) (reply.Accepted offered) t → IfNone offered (OffersNone u t)
offer_is None s t u same g = offers_none s t u same g
offer_is (Some id) s t u same g = tt

pub refuses_all : (fault : CallFault) (s t u : Session) → s ≡ u → Gives in_turn s (event.Call call.Accept) (reply.Refused fault) t → t ≡ s → OffersNone u t
refuses_all fault s t u same g still = (still ∙ same, inr (fault, gives_from (event.Call call.Accept) (reply.Refused fault) s t u same g))

-- ---- what stays where the session alone changed

pub record OnlySession (a b : Tunnel) : Type 0 where
  pub keeps : KeepsWire a.engine b.engine
  pub wire : b.wire ≡ a.wire
  pub over : b.is_wire_over ≡ a.is_wire_over
  pub connections : b.connections ≡ a.connections

pub only_session : (a b : Tunnel) → b ≡ record a { engine = record a.engine { session = b.engine.session } } → OnlySession a b
only_session a b e = record {
  keeps = record { outgoing = ap (λ (t : Tunnel). t.engine.outgoing) e; incoming = ap (λ (t : Tunnel). t.engine.incoming) e };
  wire = ap (λ (t : Tunnel). t.wire) e;
  over = ap (λ (t : Tunnel). t.is_wire_over) e;
  connections = ap (λ (t : Tunnel). t.connections) e;
}

connections_kept : (a b : Connections) → b ≡ a → KeepsConnections a b
connections_kept a b e = subst (KeepsConnections a) (sym e) (keeps_same a)

pub drops_out : (id : ℕ) (a b : Tunnel) → connection_of id a.connections ≡ None → GivesUp id a.engine.session b.engine.session → OnlySession a b → DropsOut id a b
drops_out id a b free up only = record { free = free; up = up; keeps = only.keeps; wire = only.wire; over = only.over; connections = only.connections }

pub leaves_out : (id : ℕ) (a b : Tunnel) → IsSome (connection_of id a.connections) → IsForgotten id a.engine.session b.engine.session → OnlySession a b → LeavesOut id a b
leaves_out id a b there left only = record { there = there; left = left; keeps = only.keeps; wire = only.wire; over = only.over; connections = only.connections }

-- one was accepted
pub comes_taken : (a b : Tunnel) (id : ℕ) → Gives in_turn a.engine.session (event.Call call.Accept) (reply.Accepted (Some id)) b.engine.session → OnlySession a b → Comes id a b
comes_taken a b id g only = comes_accepted a b id g only.keeps only.wire (connections_kept a.connections b.connections only.connections)

-- none was
pub runs_offers_none : (a b : Tunnel) → OffersNone a.engine.session b.engine.session → OnlySession a b → Runs a b
runs_offers_none a b none only = runs_still a b none.0 only.keeps only.wire (connections_kept a.connections b.connections only.connections)

-- ---- what a caller is told where a stream was to come

-- the session gave no stream, or there was no memory to keep one
pub not_opened_by : (fault : CallFault) (a b c : Tunnel) (told : Option (List (ℕ × Bool))) → a ≡ b → OpensNone fault a.engine.session c.engine.session → KeepsWire a.engine c.engine → c.wire ≡ a.wire → c.is_wire_over ≡ a.is_wire_over →
    SameConnections a.connections c.connections → IsNotOpened (unjoined.BySession fault) b c told told
not_opened_by fault a b c told same none keeps wire over connections =
    subst (λ (t : Tunnel). IsNotOpened (unjoined.BySession fault) t c told told) same (record { connections = connections; keeps = keeps; wire = wire; over = over; happened = (none, refl) })

-- a stream came, and nothing changed but that
pub record Came (comes : Coming) (id : ℕ) (a b : Tunnel) : Type 0 where
  pub came : comes id a.engine.session b.engine.session
  pub keeps : KeepsWire a.engine b.engine
  pub wire : b.wire ≡ a.wire
  pub over : b.is_wire_over ≡ a.is_wire_over
  pub connections : SameConnections a.connections b.connections

pub came_taken : (a b : Tunnel) (q : Connections) (id : ℕ) → IsAccepted id a.engine.session b.engine.session → OnlySession (record a { connections = q }) b → SameConnections a.connections q → Came IsAccepted id a b
came_taken a b q id accepted only same = record { came = accepted; keeps = only.keeps; wire = only.wire; over = only.over; connections = λ other. ap (connection_of other) only.connections ∙ same other }

is_joined : (comes : Coming) (id : ℕ) (d : Seen) (a b c : Tunnel) (told told_new : Option (List (ℕ × Bool))) → Came comes id a b → Joins id d b c → Told id true told told_new → IsJoined comes id d a c told told_new
is_joined comes id d a b c told told_new x j t = record {
  free = sym (x.connections id) ∙ j.free;
  came = subst (λ (v : Engine). comes id a.engine.session v.session) (sym j.engine) x.came;
  keeps = subst (λ (v : Engine). KeepsWire a.engine v) (sym j.engine) x.keeps;
  wire = j.wire ∙ x.wire;
  over = j.over ∙ x.over;
  connections = puts_behind_same id (Some (record { seen = d; directions = new_directions })) a.connections b.connections c.connections x.connections j.connections.connections;
  waits = j.connections.waits;
  registered = t;
}

-- a device joined it
pub joined_so : (r : Result ℕ NotJoined) (comes : Coming) (id : ℕ) (d : Seen) (before a b c : Tunnel) (told told_new : Option (List (ℕ × Bool))) → before ≡ a → Came comes id before b → IfOk r (λ joined. joined ≡ id) → OnOk r (Joins id d b c) →
    OnOk r (Told id true told told_new) → IfOk r (λ joined. IsJoined comes joined d a c told told_new)
joined_so (Ok joined) comes id d before a b c told told_new view x is j t =
    subst (λ (v : Tunnel). IsJoined comes joined d v c told told_new) view (subst (λ (n : ℕ). IsJoined comes n d before c told told_new) (sym is) (is_joined comes id d before b c told told_new x j t))
joined_so (Err why) comes id d before a b c told told_new view x is j t = tt

joins_none : (happens : Session → Session → Connections → Type 0) (comes : Coming) (id : ℕ) (a b c : Tunnel) → Came comes id a b → KeepsWire b.engine c.engine → c.wire ≡ b.wire → c.is_wire_over ≡ b.is_wire_over → c.connections ≡ b.connections →
    happens a.engine.session c.engine.session a.connections → JoinsNone happens a c
joins_none happens comes id a b c x keeps wire over same h = record {
  connections = λ other. ap (connection_of other) same ∙ x.connections other;
  keeps = record { outgoing = keeps.outgoing ∙ x.keeps.outgoing; incoming = keeps.incoming ∙ x.keeps.incoming };
  wire = wire ∙ x.wire;
  over = over ∙ x.over;
  happened = h;
}

-- the registry said no
unregistered : (comes : Coming) (id : ℕ) (a b c : Tunnel) (told told_new : Option (List (ℕ × Bool))) → Came comes id a b → DropsOut id b c → Told id false told told_new →
    JoinsNone (λ s t connections. Unregisters comes s t connections told told_new) a c
unregistered comes id a b c told told_new x j t =
    joins_none (λ s t connections. Unregisters comes s t connections told told_new) comes id a b c x j.keeps j.wire j.over j.connections (id, b.engine.session, sym (x.connections id) ∙ j.free, x.came, j.up, t)

-- it had a device
came_twice : (comes : Coming) (id : ℕ) (a b c : Tunnel) (told told_new : Option (List (ℕ × Bool))) → Came comes id a b → LeavesOut id b c → told_new ≡ told →
    JoinsNone (λ s t connections. ComesTwice comes s t connections told told_new) a c
came_twice comes id a b c told told_new x j t =
    joins_none (λ s t connections. ComesTwice comes s t connections told told_new) comes id a b c x j.keeps j.wire j.over j.connections (id, b.engine.session, subst (λ (o : Option Connection). IsSome o) (x.connections id) j.there, x.came, j.left, t)

not_opened : (why : NotJoined) (id : ℕ) (a b c : Tunnel) (told told_new : Option (List (ℕ × Bool))) → Came IsOpened id a b → IsUnjoined id why b c told told_new → IsNotOpened why a c told told_new
not_opened unjoined.Unregistered id a b c told told_new x u = unregistered IsOpened id a b c told told_new x u.0 u.1
not_opened unjoined.Twice id a b c told told_new x u = came_twice IsOpened id a b c told told_new x u.0 u.1
not_opened (unjoined.BySession fault) id a b c told told_new x u = absurd u
not_opened (unjoined.OutOfMemory lacked) id a b c told told_new x u = absurd u

not_accepted : (why : NotJoined) (id : ℕ) (a b c : Tunnel) (told told_new : Option (List (ℕ × Bool))) → Came IsAccepted id a b → IsUnjoined id why b c told told_new → IsNotAccepted why a c told told_new
not_accepted unjoined.Unregistered id a b c told told_new x u = unregistered IsAccepted id a b c told told_new x u.0 u.1
not_accepted unjoined.Twice id a b c told told_new x u = came_twice IsAccepted id a b c told told_new x u.0 u.1
not_accepted (unjoined.BySession fault) id a b c told told_new x u = absurd u
not_accepted (unjoined.OutOfMemory lacked) id a b c told told_new x u = absurd u

-- no device joined the stream that was opened, or that was accepted
pub not_opened_so : (r : Result ℕ NotJoined) (id : ℕ) (before a b c : Tunnel) (told told_new : Option (List (ℕ × Bool))) → before ≡ a → Came IsOpened id before b → IfErr r (λ why. IsUnjoined id why b c told told_new) → IfErr r (λ why. IsNotOpened why a c told told_new)
not_opened_so (Ok joined) id before a b c told told_new view x u = tt
not_opened_so (Err why) id before a b c told told_new view x u = subst (λ (v : Tunnel). IsNotOpened why v c told told_new) view (not_opened why id before b c told told_new x u)

pub not_accepted_so : (r : Result ℕ NotJoined) (id : ℕ) (before a b c : Tunnel) (told told_new : Option (List (ℕ × Bool))) → before ≡ a → Came IsAccepted id before b → IfErr r (λ why. IsUnjoined id why b c told told_new) → IfErr r (λ why. IsNotAccepted why a c told told_new)
not_accepted_so (Ok joined) id before a b c told told_new view x u = tt
not_accepted_so (Err why) id before a b c told told_new view x u = subst (λ (v : Tunnel). IsNotAccepted why v c told told_new) view (not_accepted why id before b c told told_new x u)

-- none was offered
pub none_accepted : (before a b : Tunnel) (q : Connections) (told : Option (List (ℕ × Bool))) → before ≡ a → OffersNone before.engine.session b.engine.session → OnlySession (record before { connections = q }) b → SameConnections before.connections q →
    OffersNone a.engine.session b.engine.session × SameConnections a.connections b.connections × (told ≡ told)
none_accepted before a b q told view none only same =
    subst (λ (v : Tunnel). OffersNone v.engine.session b.engine.session × SameConnections v.connections b.connections × (told ≡ told)) view (none, (λ other. ap (connection_of other) only.connections ∙ same other), refl)

-- there was no memory to keep one
pub none_kept : (found : Bool) (before a b : Tunnel) (q : Connections) (told : Option (List (ℕ × Bool))) → before ≡ a → SameConnections before.connections q → b.connections ≡ q → KeepsWire before.engine b.engine → b.wire ≡ before.wire → b.is_wire_over ≡ before.is_wire_over →
    (found ≡ false → OffersNone before.engine.session b.engine.session) → (found ≡ true → Rejects before.engine.session b.engine.session) →
    JoinsNone (λ s t connections. (Rejects s t ⊎ OffersNone s t) × (told ≡ told)) a b
none_kept found before a b q told view same connections keeps wire over none some =
    subst (λ (v : Tunnel). JoinsNone (λ s t connections. (Rejects s t ⊎ OffersNone s t) × (told ≡ told)) v b) view (record { connections = λ other. ap (connection_of other) connections ∙ same other; keeps = keeps; wire = wire; over = over; happened = (by found none some, refl) })
  where
    by : (found : Bool) → (found ≡ false → OffersNone before.engine.session b.engine.session) → (found ≡ true → Rejects before.engine.session b.engine.session) → Rejects before.engine.session b.engine.session ⊎ OffersNone before.engine.session b.engine.session
    by true none some = inl (some refl)
    by false none some = inr (none refl)

none_there : (o : Option Connection) (b : Bool) → b ≡ is_some o → b ≡ false → o ≡ None
none_there None b e f = refl
none_there (Some l) b e f = let no : true ≡ false = sym e ∙ f in absurd cc

-- a stream that has a device
pub is_there : (id : ℕ) (a b : Tunnel) (found : Bool) → a ≡ b → found ≡ is_some (connection_of id a.connections) → found ≡ true → IsSome (connection_of id b.connections)
is_there id a b found same e some = subst (λ (t : Tunnel). IsSome (connection_of id t.connections)) same (sym e ∙ some)

-- one that has none
pub is_free : (id : ℕ) (a b : Tunnel) (found : Bool) → a ≡ b → found ≡ is_some (connection_of id a.connections) → found ≡ false → connection_of id b.connections ≡ None
is_free id a b found same e none = subst (λ (t : Tunnel). connection_of id t.connections ≡ None) same (none_there (connection_of id a.connections) found e none)

no_connection : (id : ℕ) (t : Connections) → t.by_id ≡ [] → connection_of id t ≡ None
no_connection id t e = ap (λ (es : List (ℕ × Entry)). option_map (λ (x : Entry). x.connection) (lookup (nat_eq id) es)) e

-- one that has no connection
pub serving_new : (a : Tunnel) → IsWithin a.engine.session → a.connections.by_id ≡ [] → Serving a
serving_new a w none = record { within = w; each = λ id. served_none id a (no_connection id a.connections none) }
