-- The events at which the state of a session as a whole stays.
use Rattle.std.proofs.Common.{◌≡◌, ℕ, List, [], ◌∷◌, length, Bool, true, false, ◌==◌, ◌&&◌, ◌||◌, nat_lt, Option, None, Some, refl, sym, ap, ◌∙◌, subst, inl, inr}
use Rattle.std.specs.List.{list_all}
use Rattle.ymx_machine.specs.declared.types.Call.TheVariants as call
use Rattle.ymx_machine.specs.shared.Events.{Reply, Call}
use Rattle.ymx_machine.specs.shared.Lists.{look}
use Rattle.ymx_machine.specs.shared.Limits.{first_credit}
use Rattle.ymx_machine.specs.shared.Phases.Phase.{WasReset}
use Rattle.ymx_machine.specs.shared.Replies.{write_reply, read_reply, finish_reply, reset_reply, bytes_moved, is_done}
use Rattle.ymx_machine.proofs.Tests.{split, one_some, both_of}
use Rattle.ymx_model.specs.declared.types.FrameKind.{FrameKind}
use Rattle.ymx_model.specs.declared.types.Event.TheVariants as event
use Rattle.ymx_model.specs.declared.types.Response.{Response}
use Rattle.ymx_model.specs.session.Records.{End, end_finish, end_reset}
use Rattle.ymx_model.specs.session.FramesDue.{next_kind}
use Rattle.ymx_model.specs.session.Tables.{remove_record}
use Rattle.ymx_model.specs.session.Sessions.{Session, is_lost, is_running, is_broken, is_spent, on_stream, reap, nothing_outgoing}
use Rattle.ymx_model.specs.session.Calls.{outcome, write_outcome, read_outcome, finish_outcome, reset_outcome}
use Rattle.ymx_model.specs.session.Emissions.{Choice, begin, begin_answer, begin_stream, begin_kind, begins, error_frame, go_away_frame, ping_frame, moves_on, reaps, Ready, Flows, in_turn}
use Rattle.ymx_model.specs.session.Emissions.Choice.{TheErrorDue, TheGoAway, TheAnswer, ThePing, AStream}
use Rattle.ymx_model.specs.session.GoAway.{away_due, begin_away}
use Rattle.ymx_model.specs.session.Pings.{has_asked, begin_ping}
use Rattle.ymx_model.specs.session.Events.{Event}
use Rattle.ymx_model.specs.session.Histories.{Gives, CallGives}
use Rattle.ymx_model.specs.session.Histories.CallGives.{Outcome as HasOutcome, NoMemory}
use Rattle.ymx_law_session.proofs.limits.CallsKeep.{with-keeps}
use Rattle.ymx_law_session.proofs.limits.EmissionsKeep.{some_if, if_some, none_if}
use Rattle.ymx_engine.specs.Events.{Happen}
use Rattle.ymx_engine.specs.Serves.{is_of_turn}

-- its state is what it was
abbrev pub SameStatus : Session → Session → Type 0
SameStatus s t = t.status ≡ s.status

pub reaped_status : (id : ℕ) (s : Session) → SameStatus s (reap id s)
reaped_status id s = split (SameStatus s) (is_spent s.table.window s.outgoing id (look id s.table.entries)) (record s { table = remove_record id s.table }) s (λ t. refl) (λ f. refl)

-- ---- calls on a stream

write_status : (id : ℕ) (bytes : List ℕ) (s : Session) → SameStatus s (outcome (call.Write id bytes) s).next
write_status id bytes s = with-keeps (SameStatus s) id (write_outcome id bytes s) s refl (λ e l.
    split (SameStatus s) (bytes_moved (write_reply (is_lost s.status) bytes e.phase e.writer.finished e.writer.credit) == 0) s _ (λ t. refl) (λ n. refl))

read_status : (id max : ℕ) (s : Session) → SameStatus s (outcome (call.Read id max) s).next
read_status id max s = with-keeps (SameStatus s) id (read_outcome id max s) s refl (λ e l.
    split (SameStatus s) (bytes_moved (read_reply (is_lost s.status) max e.phase e.reader.unread e.reader.ended) == 0) s _ (λ t. refl) (λ n. refl))

finish_status : (id : ℕ) (s : Session) → SameStatus s (outcome (call.Finish id) s).next
finish_status id s = with-keeps (SameStatus s) id (finish_outcome id s) s refl (λ e l.
    split (SameStatus s) (is_done (finish_reply (is_lost s.status) e.phase e.writer.finished)) (on_stream id end_finish s) s (λ t. refl) (λ n. refl))

reset_status : (id : ℕ) (s : Session) → SameStatus s (outcome (call.Reset id) s).next
reset_status id s = with-keeps (SameStatus s) id (reset_outcome id s) s refl (λ e l.
    split (SameStatus s) (is_done (reset_reply (is_lost s.status) e.phase)) (on_stream id (end_reset WasReset) s) s (λ t. refl) (λ n. refl))

pub called_status : (c : Call) (s t : Session) (told : Reply) → SameStatus s (outcome c s).next → CallGives s c told t → SameStatus s t
called_status c s t told h (HasOutcome answer state) = subst (SameStatus s) (sym state) h
called_status c s t told h (NoMemory needs answer state) = subst (SameStatus s) (sym state) refl

pub reset_stays : (id : ℕ) (told : Reply) (s t : Session) → Gives in_turn s (event.Call (call.Reset id)) told t → SameStatus s t
reset_stays id told s t g = called_status (call.Reset id) s t told (reset_status id s) g

-- ---- what goes out

kind_status : (id limit : ℕ) (e : End) (k : Option FrameKind) (s t : Session) → begin_kind id limit e k s ≡ Some t → SameStatus s t
kind_status id limit e None s t b = cc
kind_status id limit e (Some kind) s t b = subst (SameStatus s) (one_some _ t b) refl

stream_status : (id limit : ℕ) (o : Option End) (s t : Session) → begin_stream id limit o s ≡ Some t → SameStatus s t
stream_status id limit None s t b = cc
stream_status id limit (Some e) s t b =
    kind_status id limit e (next_kind s.table.window e) s t (none_if (limit == 0 || nat_lt first_credit limit) (begin_kind id limit e (next_kind s.table.window e) s) t b).1

answer_status : (xs : List Response) (s t : Session) → begin_answer xs s ≡ Some t → SameStatus s t
answer_status [] s t b = cc
answer_status (r ∷ more) s t b = subst (SameStatus s) (one_some _ t b) refl

begin_status : (c : Choice) (s t : Session) → begin c s ≡ Some t → SameStatus s t
begin_status TheErrorDue s t b = subst (SameStatus s) (sym (some_if (s.error_due && is_broken s.status) (begins error_frame (record s { error_due = false })) t b).1) refl
begin_status TheGoAway s t b = subst (SameStatus s) (sym (some_if (is_running s.status && away_due s.away.here) (begins go_away_frame (record s { away = begin_away s.away })) t b).1) refl
begin_status TheAnswer s t b = answer_status s.answers s t (if_some (is_running s.status) (begin_answer s.answers s) t b).1
begin_status (ThePing n) s t b = subst (SameStatus s) (sym (some_if (is_running s.status && has_asked n s.pings.pending) (begins (ping_frame n) (record s { pings = begin_ping n s.pings })) t b).1) refl
begin_status (AStream id limit) s t b = stream_status id limit (look id s.table.entries) s t (if_some (is_running s.status) (begin_stream id limit (look id s.table.entries) s) t b).1

ready_status : (may : Choice → Session → Bool) (s t : Session) → Ready may s t → SameStatus s t
ready_status may s t (inl h) = subst (SameStatus s) (sym h.1) refl
ready_status may s t (inr (e, (c, ok, b))) = begin_status c s t b

reaps_status : (of : Option ℕ) (s : Session) → SameStatus s (reaps of s)
reaps_status None s = refl
reaps_status (Some id) s = reaped_status id s

moves_status : (n : ℕ) (s : Session) → SameStatus s (moves_on n s)
moves_status n s =
    split (SameStatus s) (nat_lt n (length s.outgoing.bytes)) _ (reaps s.outgoing.of (record s { outgoing = nothing_outgoing }))
    (λ t. refl) (λ f. reaps_status s.outgoing.of (record s { outgoing = nothing_outgoing }))

flows_status : (may : Choice → Session → Bool) (bytes : List ℕ) (s t : Session) → Flows may bytes s t → SameStatus s t
flows_status may [] s t e = ap (λ (x : Session). x.status) e
flows_status may (b ∷ bytes) s t (ready, r, first, p) =
    flows_status may bytes (moves_on 1 ready) t p ∙ moves_status 1 ready ∙ ready_status may s ready r

-- ---- events

-- a write, a read or an end of a stream, or an emission
abbrev pub is_steady : Event → Bool
is_steady (event.Call (call.Write id bytes)) = true
is_steady (event.Call (call.Read id max)) = true
is_steady (event.Call (call.Finish id)) = true
is_steady (event.Call (call.Reset id)) = true
is_steady (event.Call _) = false
is_steady (event.Feed bytes) = false
is_steady event.FeedEnd = false
is_steady (event.Emit room) = true

pub steady_status : (e : Event) (told : Reply) (s t : Session) → is_steady e ≡ true → Gives in_turn s e told t → SameStatus s t
steady_status (event.Call (call.Write id bytes)) told s t steady g = called_status (call.Write id bytes) s t told (write_status id bytes s) g
steady_status (event.Call (call.Read id max)) told s t steady g = called_status (call.Read id max) s t told (read_status id max s) g
steady_status (event.Call (call.Finish id)) told s t steady g = called_status (call.Finish id) s t told (finish_status id s) g
steady_status (event.Call (call.Reset id)) told s t steady g = called_status (call.Reset id) s t told (reset_status id s) g
steady_status (event.Call call.Open) told s t steady g = cc
steady_status (event.Call (call.OpenWith bytes)) told s t steady g = cc
steady_status (event.Call call.Accept) told s t steady g = cc
steady_status (event.Call (call.Forget id)) told s t steady g = cc
steady_status (event.Call call.Ping) told s t steady g = cc
steady_status (event.Call (call.Ponged n)) told s t steady g = cc
steady_status (event.Call call.GoAway) told s t steady g = cc
steady_status (event.Call call.Close) told s t steady g = cc
steady_status (event.Feed bytes) told s t steady g = cc
steady_status event.FeedEnd told s t steady g = cc
steady_status (event.Emit room) told s t steady g = flows_status in_turn g.0 s t g.2.flows

pub steady_all : (f : Event → Bool) → ((e : Event) → f e ≡ true → is_steady e ≡ true) → (es : List (Event × Reply)) (s t : Session) → Happen es s t → list_all (λ (e : Event × Reply). f e.0) es ≡ true → SameStatus s t
steady_all f steady [] s t h own = ap (λ (x : Session). x.status) h
steady_all f steady (e ∷ es) s t h own =
    let two = both_of (f e.0) (list_all (λ (x : Event × Reply). f x.0) es) own in
    steady_all f steady es h.0 t h.2 two.1 ∙ steady_status e.0 e.1 s h.0 (steady e.0 two.0) h.1

-- each event of a turn is so
pub turn_steady : (id : ℕ) (e : Event) → is_of_turn id e ≡ true → is_steady e ≡ true
turn_steady id (event.Call (call.Write other bytes)) h = refl
turn_steady id (event.Call (call.Read other max)) h = refl
turn_steady id (event.Call (call.Finish other)) h = refl
turn_steady id (event.Call (call.Reset other)) h = refl
turn_steady id (event.Call call.Open) h = cc
turn_steady id (event.Call (call.OpenWith bytes)) h = cc
turn_steady id (event.Call call.Accept) h = cc
turn_steady id (event.Call (call.Forget other)) h = cc
turn_steady id (event.Call call.Ping) h = cc
turn_steady id (event.Call (call.Ponged n)) h = cc
turn_steady id (event.Call call.GoAway) h = cc
turn_steady id (event.Call call.Close) h = cc
turn_steady id (event.Feed bytes) h = cc
turn_steady id event.FeedEnd h = cc
turn_steady id (event.Emit room) h = refl
