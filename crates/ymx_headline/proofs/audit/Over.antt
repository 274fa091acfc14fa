-- A session whose input has ended stays so, and drops what it is fed.
use Rattle.std.proofs.Common.{◌≡◌, ℕ, List, [], ◌∷◌, length, take, Bool, true, false, ◌&&◌, ◌==◌, nat_lt, nat_le, if◌then◌else◌, Option, None, Some, refl, sym, subst, inl, inr}
use Rattle.std.specs.Prelude.{count_by}
use Rattle.ymx_model.specs.declared.types.Status.{Status}
use Rattle.ymx_model.specs.declared.types.Status.TheVariants.{Running, Lost, Broken, Closed}
use Rattle.ymx_machine.specs.shared.Events.{Reply}
use Rattle.ymx_machine.specs.shared.Events.{Call}
use Rattle.ymx_machine.specs.declared.types.Call.TheVariants as call
use Rattle.ymx_model.specs.session.Events.{Event}
use Rattle.ymx_model.specs.declared.types.Event.TheVariants as event
use Rattle.ymx_machine.specs.shared.Lists.{look}
use Rattle.ymx_machine.specs.shared.Limits.{most_pings, most_records, most_unacknowledged}
use Rattle.ymx_machine.specs.shared.Replies.{is_done, finish_reply, reset_reply, forget_reply, write_reply, read_reply, bytes_moved}
use Rattle.ymx_model.specs.session.Records.{End}
use Rattle.ymx_model.specs.session.Pings.{has_back, has_asked}
use Rattle.ymx_model.specs.session.GoAway.{away_due}
use Rattle.ymx_model.specs.session.Sessions.{Session, is_running, is_lost, is_closed, is_deaf, is_broken, is_spent, reap}
use Rattle.ymx_model.specs.session.Calls.{Outcome, outcome, open_or, accept_of, at_stream, at_record, is_unacknowledged, status_input_ends}
use Rattle.ymx_model.specs.session.Feeds.{Takes, byte_comes}
use Rattle.ymx_model.specs.session.Emissions.{Choice, Flows, Ready, begin, moves_on, reaps}
use Rattle.ymx_model.specs.session.Emissions.Choice.{TheErrorDue, TheGoAway, TheAnswer, ThePing, AStream}
use Rattle.ymx_model.specs.session.Histories.{Gives, CallGives}
use Rattle.ymx_model.specs.session.Histories.CallGives.{Outcome as HasOutcome, NoMemory}
use Rattle.ymx_machine.proofs.Tests.{split, none_of, one_some}

abbrev pub IsOver : Session → Type 0
IsOver s = is_running s.status ≡ false

-- ---- a call

abbrev OverAfter : Outcome → Type 0
OverAfter o = is_running o.next.status ≡ false

open-over : (s : Session) (o : Outcome) → IsOver s → OverAfter o → OverAfter (open_or s o)
open-over s o h k =
    split OverAfter (is_closed s.status) _ _ (λ t. h) (λ a.
    split OverAfter (is_lost s.status) _ _ (λ t. h) (λ b.
    split OverAfter s.away.there _ _ (λ t. h) (λ c.
    split OverAfter (nat_le 4294967294 s.next) _ _ (λ t. h) (λ d.
    split OverAfter (nat_le most_unacknowledged (count_by (is_unacknowledged s.role) s.table.entries)) _ _ (λ t. h) (λ e.
    split OverAfter (nat_le most_records (length s.table.entries)) _ _ (λ t. h) (λ f. k))))))

stream-over : (id : ℕ) (f : End → Outcome) (s : Session) → IsOver s → ((e : End) → OverAfter (f e)) → OverAfter (at_stream id f s)
stream-over id f s h k = split OverAfter (is_closed s.status) _ _ (λ t. h) (λ c. of (look id s.table.entries))
  where
    of : (o : Option End) → OverAfter (at_record f s o)
    of None = h
    of (Some e) = k e

accept-over : (ids : List ℕ) (s : Session) → IsOver s → OverAfter (accept_of ids s)
accept-over [] s h = split OverAfter (is_lost s.status) _ _ (λ t. h) (λ f. h)
accept-over (id ∷ ids) s h = h

reap-over : (id : ℕ) (s : Session) → IsOver s → IsOver (reap id s)
reap-over id s h = split IsOver (is_spent s.table.window s.outgoing id (look id s.table.entries)) _ _ (λ t. h) (λ f. h)

call-over : (c : Call) (s : Session) → IsOver s → OverAfter (outcome c s)
call-over call.Open s h = open-over s _ h h
call-over (call.OpenWith bytes) s h = open-over s _ h h
call-over call.Accept s h = split OverAfter (is_closed s.status) _ _ (λ t. h) (λ f. accept-over s.offered s h)
call-over (call.Write id bytes) s h =
    stream-over id _ s h (λ e. split IsOver (bytes_moved (write_reply (is_lost s.status) bytes e.phase e.writer.finished e.writer.credit) == 0) _ _ (λ t. h) (λ f. h))
call-over (call.Read id max) s h =
    stream-over id _ s h (λ e. split IsOver (bytes_moved (read_reply (is_lost s.status) max e.phase e.reader.unread e.reader.ended) == 0) _ _ (λ t. h) (λ f. h))
call-over (call.Finish id) s h = stream-over id _ s h (λ e. split IsOver (is_done (finish_reply (is_lost s.status) e.phase e.writer.finished)) _ _ (λ t. h) (λ f. h))
call-over (call.Reset id) s h = stream-over id _ s h (λ e. split IsOver (is_done (reset_reply (is_lost s.status) e.phase)) _ _ (λ t. h) (λ f. h))
call-over (call.Forget id) s h = stream-over id _ s h (λ e. split IsOver (is_done (forget_reply e.phase)) _ _ (λ t. reap-over id _ h) (λ f. h))
call-over call.Ping s h =
    split OverAfter (is_closed s.status) _ _ (λ t. h) (λ a. split OverAfter (is_lost s.status) _ _ (λ t. h) (λ b. split OverAfter (nat_le most_pings (length s.pings.pending)) _ _ (λ t. h) (λ c. h)))
call-over (call.Ponged k) s h =
    split OverAfter (is_closed s.status) _ _ (λ t. h) (λ a. split OverAfter (has_back k s.pings.pending) _ _ (λ t. h) (λ b. split OverAfter (is_lost s.status) _ _ (λ t. h) (λ c. h)))
call-over call.GoAway s h = split OverAfter (is_closed s.status) _ _ (λ t. h) (λ a. split OverAfter (is_lost s.status) _ _ (λ t. h) (λ b. h))
call-over call.Close s h = refl

gives-call : (c : Call) (s t : Session) (r : Reply) → CallGives s c r t → IsOver s → IsOver t
gives-call c s t r (HasOutcome answer state) h = subst IsOver (sym state) (call-over c s h)
gives-call c s t r (NoMemory needs answer state) h = subst IsOver (sym state) h

-- ---- a feed

deaf-then : (st : Status) → is_running st ≡ false → is_broken st ≡ false → is_deaf st ≡ true
deaf-then Running a b = absurd cc
deaf-then Lost a b = refl
deaf-then (Broken f) a b = absurd cc
deaf-then Closed a b = refl

drops : (no_memory : Bool) (b : ℕ) (s : Session) → is_deaf s.status ≡ true → byte_comes no_memory b s ≡ s
drops no_memory b s e = rw e refl

takes-over : (bytes : List ℕ) (s t : Session) (starved : ℕ) → IsOver s → Takes bytes s t starved → t ≡ s
takes-over [] s t starved h p = p.0
takes-over (b ∷ bytes) s t starved h (no_memory, more, free, counted, p) =
    let same : byte_comes no_memory b s ≡ s = drops no_memory b s (deaf-then s.status h (none_of (is_broken s.status) _ free).0) in
    takes-over bytes s t more h (subst (λ (z : Session). Takes bytes z t more) same p)

-- such a session is left by a feed as it was
pub feed-over : (s t : Session) (bytes : List ℕ) (r : Reply) (may : Choice → Session → Bool) → IsOver s → Gives may s (event.Feed bytes) r t → t ≡ s
feed-over s t bytes r may h g = takes-over (take (g.0).taken bytes) s t (g.2).took.0 h (g.2).took.1

-- ---- an emission

-- a frame that is begun where a test holds
if-over : (b : Bool) (x s t : Session) → IsOver x → (if b then Some x else None) ≡ Some t → IsOver t
if-over true x s t h e = subst IsOver (one_some x t e) h
if-over false x s t h e = absurd cc

choice-over : (choice : Choice) (s t : Session) → IsOver s → begin choice s ≡ Some t → IsOver t
choice-over TheErrorDue s t h e = if-over (s.error_due && is_broken s.status) _ s t h e
choice-over TheGoAway s t h e = if-over (is_running s.status && away_due s.away.here) _ s t h e
choice-over TheAnswer s t h e = let no : None ≡ Some t = rw h at e in absurd cc
choice-over (ThePing n) s t h e = if-over (is_running s.status && has_asked n s.pings.pending) _ s t h e
choice-over (AStream id limit) s t h e = let no : None ≡ Some t = rw h at e in absurd cc

ready-over : (may : Choice → Session → Bool) (s t : Session) → IsOver s → Ready may s t → IsOver t
ready-over may s t h r = elim r [ inl same ↦ subst IsOver (sym same.1) h | inr free ↦ choice-over (free.1).0 s t h (free.1).2 ]

reaps-over : (of : Option ℕ) (s : Session) → IsOver s → IsOver (reaps of s)
reaps-over None s h = h
reaps-over (Some id) s h = reap-over id s h

moves-over : (n : ℕ) (s : Session) → IsOver s → IsOver (moves_on n s)
moves-over n s h = split IsOver (nat_lt n (length s.outgoing.bytes)) _ _ (λ t. h) (λ f. reaps-over s.outgoing.of _ h)

flows-over : (may : Choice → Session → Bool) (bytes : List ℕ) (s t : Session) → IsOver s → Flows may bytes s t → IsOver t
flows-over may [] s t h f = subst IsOver (sym f) h
flows-over may (b ∷ bytes) s t h (ready, r, first, f) = flows-over may bytes (moves_on 1 ready) t (moves-over 1 ready (ready-over may s ready h r)) f

-- ---- the end of the input

ended-runs : (st : Status) → is_running (status_input_ends st) ≡ false
ended-runs Running = refl
ended-runs Lost = refl
ended-runs (Broken f) = refl
ended-runs Closed = refl

pub end-over : (may : Choice → Session → Bool) (s t : Session) (r : Reply) → Gives may s event.FeedEnd r t → IsOver t
end-over may s t r g = subst IsOver (sym g.1) (ended-runs s.status)

-- ---- any event

pub gives-over : (may : Choice → Session → Bool) (e : Event) (r : Reply) (s t : Session) → IsOver s → Gives may s e r t → IsOver t
gives-over may (event.Call c) r s t h g = gives-call c s t r g h
gives-over may (event.Emit n) r s t h g = flows-over may g.0 s t h (g.2).flows
gives-over may (event.Feed bytes) r s t h g = subst IsOver (sym (feed-over s t bytes r may h g)) h
gives-over may event.FeedEnd r s t h g = end-over may s t r g
