-- Bytes come to wait on a stream, and room on it, only by feeds.
use Rattle.std.proofs.Common.{◌≡◌, ◌≢◌, ◌⊎◌, inl, inr, ℕ, ◌<◌, ◌≤◌, List, [], ◌∷◌, length, drop, ◌-◌, Bool, true, false, ◌==◌, ◌&&◌, ◌||◌, nat_lt, not, if◌then◌else◌, Option, None, Some, refl, sym, ap, ◌∙◌, subst, arith, length-drop}
use Rattle.std.specs.Prelude.{is_some, option_map}
use Rattle.std.specs.List.{list_all}
use Rattle.ymx_machine.specs.declared.types.Call.TheVariants as call
use Rattle.ymx_machine.specs.declared.types.CallFault.{CallFault}
use Rattle.ymx_machine.specs.declared.types.CallFault.TheVariants.{Closed as ClosedFault, Reset as ResetFault, NoStream}
use Rattle.ymx_machine.specs.shared.Events.{Reply, Call}
use Rattle.ymx_machine.specs.shared.Lists.{look, change, without, Distinct}
use Rattle.ymx_machine.specs.shared.Phases.{Phase, is_reset, is_live, is_lingering}
use Rattle.ymx_machine.specs.shared.Phases.Phase.{WasReset, Lingering}
use Rattle.ymx_machine.specs.shared.Replies.{write_reply, read_reply, finish_reply, reset_reply, bytes_moved, is_done}
use Rattle.ymx_machine.proofs.Lists.{look-change_same, look-change_there, look-change_other, look-without_same, look-without_other}
use Rattle.ymx_machine.proofs.Tests.{split, same_or_not, one_some, both_of}
use Rattle.ymx_model.specs.declared.types.FrameKind.{FrameKind}
use Rattle.ymx_model.specs.declared.types.FrameKind.TheVariants.{Open, OpenWith, Accept, Reset, Credit, Data, Fin}
use Rattle.ymx_model.specs.declared.types.Event.TheVariants as event
use Rattle.ymx_model.specs.declared.types.Response.{Response}
use Rattle.ymx_model.specs.declared.types.Status.{Status}
use Rattle.ymx_model.specs.declared.types.Status.TheVariants.{Running, Lost, Broken, Closed}
use Rattle.ymx_model.specs.session.Records.{End, end_write, end_read, end_finish, end_reset}
use Rattle.ymx_model.specs.session.FramesDue.{begin_frame, next_kind, is_due}
use Rattle.ymx_model.specs.session.Tables.{with_record, remove_record}
use Rattle.ymx_model.specs.session.Sessions.{Session, Outgoing, is_closed, is_lost, is_running, is_broken, is_spent, belongs_to, on_stream, nothing_outgoing}
use Rattle.ymx_model.specs.session.Calls.{outcome, write_outcome, read_outcome, read_from, finish_outcome, reset_outcome, status_input_ends, feed_end}
use Rattle.ymx_model.specs.session.Emissions.{Choice, begin, begin_answer, begin_stream, begin_kind, begins, error_frame, go_away_frame, ping_frame, moves_on, reaps, Ready, Flows, in_turn}
use Rattle.ymx_model.specs.session.Emissions.Choice.{TheErrorDue, TheGoAway, TheAnswer, ThePing, AStream}
use Rattle.ymx_model.specs.session.GoAway.{away_due, begin_away}
use Rattle.ymx_model.specs.session.Pings.{has_asked, begin_ping}
use Rattle.ymx_model.specs.session.Events.{Event}
use Rattle.ymx_model.specs.session.Histories.{Gives, CallGives}
use Rattle.ymx_model.specs.session.Histories.CallGives.{Outcome as HasOutcome, NoMemory}
use Rattle.ymx_machine.specs.shared.Limits.{first_credit}
use Rattle.ymx_law_session.specs.Limits.{IsWithin}
use Rattle.ymx_law_session.proofs.limits.CallsKeep.{with-keeps}
use Rattle.ymx_law_session.proofs.limits.EmissionsKeep.{some_if, if_some, none_if, ready-keeps, moves-keep}
use Rattle.ymx_law_session.proofs.limits.HistoriesKeep.{gives-keep}
use Rattle.ymx_session.specs.Replies.{end_fault, stream_fault}
use Rattle.ymx_session.specs.Streams.{unread_of, open_credit, waiting, room_of}
use Rattle.ymx_session.proofs.Records.{MayRead, waiting-is, read-leaves}
use Rattle.ymx_engine.specs.Devices.{Seen}
use Rattle.ymx_engine.specs.Events.{Happen}
use Rattle.ymx_engine.specs.Serves.{is_of_turn, is_emission, Exchanges}
use Rattle.ymx_engine.specs.Wires.{is_of_flush}

-- where bytes of this stream wait, some waited before; and where it takes some, it took some before
pub record ComesNone (id : ℕ) (s t : Session) : Type 0 where
  pub bytes : 0 < length (waiting id t) → 0 < length (waiting id s)
  pub room : 0 < room_of id t → 0 < room_of id s

-- no bytes and no room come
abbrev pub NoneCame : Session → Session → Type 0
NoneCame s t = (id : ℕ) → ComesNone id s t

-- one that isn't closed was not, and one that runs did
abbrev pub Goes : Session → Session → Type 0
Goes s t = (is_closed t.status ≡ false → is_closed s.status ≡ false) × (is_running t.status ≡ true → is_running s.status ≡ true)

-- what waits in a record, for a caller that has it
abbrev pub had : Option End → List ℕ
had o = if is_some (end_fault o) then [] else unread_of o

-- how many bytes it takes, for a caller that has it
abbrev pub credit_had : Option End → ℕ
credit_had o = if is_some (end_fault o) then 0 else open_credit o

abbrev Less : Option End → Option End → Type 0
Less o p = (0 < length (had p) → 0 < length (had o)) × (0 < credit_had p → 0 < credit_had o)

came_at : (b c : Bool) (o p : Option End) → (c ≡ false → b ≡ false) → (0 < length (had p) → 0 < length (had o)) → 0 < length (if is_some (if c then Some ClosedFault else end_fault p) then [] else unread_of p) → 0 < length (if is_some (if b then Some ClosedFault else end_fault o) then [] else unread_of o)
came_at b true o p e h w = absurd (omega (arith, w))
came_at true false o p e h w = let no : true ≡ false = e refl in absurd cc
came_at false false o p e h w = h w

-- the room of a record in a session of this status
abbrev room_in : Status → Option End → ℕ
room_in st o = if is_some (if is_closed st then Some ClosedFault else end_fault o) || is_lost st then 0 else open_credit o

room_lost : (b : Bool) (n : ℕ) → 0 < (if b || true then 0 else n) → ⊥
room_lost true n w = omega (arith, w)
room_lost false n w = omega (arith, w)

room_left : (b : Bool) (n : ℕ) → 0 < (if b || false then 0 else n) → 0 < (if b then 0 else n)
room_left true n w = w
room_left false n w = w

left_room : (b : Bool) (n : ℕ) → 0 < (if b then 0 else n) → 0 < (if b || false then 0 else n)
left_room true n w = w
left_room false n w = w

room_at : (a b : Status) (o p : Option End) → (is_running b ≡ true → is_running a ≡ true) → (0 < credit_had p → 0 < credit_had o) → 0 < room_in b p → 0 < room_in a o
room_at Running Running o p e h w = left_room (is_some (end_fault o)) (open_credit o) (h (room_left (is_some (end_fault p)) (open_credit p) w))
room_at Lost Running o p e h w = let no : false ≡ true = e refl in absurd cc
room_at (Broken f) Running o p e h w = let no : false ≡ true = e refl in absurd cc
room_at Closed Running o p e h w = let no : false ≡ true = e refl in absurd cc
room_at a Lost o p e h w = absurd (room_lost (is_some (end_fault p)) (open_credit p) w)
room_at a (Broken f) o p e h w = absurd (room_lost (is_some (end_fault p)) (open_credit p) w)
room_at a Closed o p e h w = absurd (omega (arith, w))

pub came_by : (id : ℕ) (s t : Session) → Goes s t → Less (look id s.table.entries) (look id t.table.entries) → ComesNone id s t
came_by id s t (open_, runs) (h, r) = record {
  bytes = λ w. came_at (is_closed s.status) (is_closed t.status) (look id s.table.entries) (look id t.table.entries) open_ h w;
  room = λ w. room_at s.status t.status (look id s.table.entries) (look id t.table.entries) runs r w;
}

-- where the record stays none came
pub came_same : (id : ℕ) (s t : Session) → Goes s t → look id t.table.entries ≡ look id s.table.entries → ComesNone id s t
came_same id s t e same = came_by id s t e (λ w. subst (λ (o : Option End). 0 < length (had o)) same w, λ w. subst (λ (o : Option End). 0 < credit_had o) same w)

pub comes_then : (id : ℕ) (s t u : Session) → ComesNone id s t → ComesNone id t u → ComesNone id s u
comes_then id s t u x y = record { bytes = λ w. x.bytes (y.bytes w); room = λ r. x.room (y.room r) }

pub came_then : (s t u : Session) → NoneCame s t → NoneCame t u → NoneCame s u
came_then s t u x y id = comes_then id s t u (x id) (y id)

pub none_came : (s : Session) → NoneCame s s
none_came s id = record { bytes = λ w. w; room = λ r. r }

-- ---- one record changes, or goes

less_same : (o : Option End) → Less o o
less_same o = (λ w. w, λ r. r)

changed : (R : Option End → Option End → Type 0) → ((o : Option End) → R o o) → (id j : ℕ) (f : End → End) (ps : List (ℕ × End)) → ((e : End) → R (Some e) (Some (f e))) → R (look j ps) (look j (change id f ps))
changed R none id j f ps one = by (same_or_not j id)
  where
    mapped : (o : Option End) → R o (option_map f o)
    mapped None = none None
    mapped (Some e) = one e

    by : (j ≡ id) ⊎ (j ≢ id) → R (look j ps) (look j (change id f ps))
    by (inr n) = subst (R (look j ps)) (sym (look-change_other id j f ps n)) (none (look j ps))
    by (inl e) =
        let same : look j (change id f ps) ≡ option_map f (look j ps) = subst (λ (k : ℕ). look j (change k f ps) ≡ option_map f (look j ps)) e (look-change_same j f ps) in
        subst (R (look j ps)) (sym same) (mapped (look j ps))

pub on_came : (id : ℕ) (f : End → End) (s : Session) → ((e : End) → Less (Some e) (Some (f e))) → NoneCame s (on_stream id f s)
on_came id f s less j = came_by j s (on_stream id f s) (λ c. c, λ r. r) (changed Less less_same id j f s.table.entries less)

-- ---- calls on a stream

write_less : (b f : Bool) (c n : ℕ) → 0 < (if b then 0 else (if f then 0 else c - n)) → 0 < (if b then 0 else (if f then 0 else c))
write_less true f c n w = w
write_less false true c n w = w
write_less false false c n w = omega (arith, w)

finish_less : (b : Bool) → 0 < (if b then 0 else 0) → ⊥
finish_less true w = omega (arith, w)
finish_less false w = omega (arith, w)

read_less : (b : Bool) (n : ℕ) (xs : List ℕ) → 0 < length (if b then [] else drop n xs) → 0 < length (if b then [] else xs)
read_less true n xs w = w
read_less false n xs w = let l = length-drop n xs in omega (arith, l, w)

write_came : (id : ℕ) (bytes : List ℕ) (s : Session) → NoneCame s (outcome (call.Write id bytes) s).next
write_came id bytes s = with-keeps (NoneCame s) id (write_outcome id bytes s) s (none_came s) (λ e l.
    split (NoneCame s) (bytes_moved (write_reply (is_lost s.status) bytes e.phase e.writer.finished e.writer.credit) == 0) s _ (λ t. none_came s) (λ n. on_came id (end_write _) s (λ d. (λ w. w, λ r. write_less (is_some (end_fault (Some d))) d.writer.finished d.writer.credit _ r))))

read_came : (id max : ℕ) (s : Session) → NoneCame s (outcome (call.Read id max) s).next
read_came id max s = with-keeps (NoneCame s) id (read_outcome id max s) s (none_came s) (λ e l.
    split (NoneCame s) (bytes_moved (read_reply (is_lost s.status) max e.phase e.reader.unread e.reader.ended) == 0) s _ (λ t. none_came s)
    (λ n. on_came id (end_read max) s (λ d. (λ w. read_less (is_some (end_fault (Some d))) max d.reader.unread w, λ r. r))))

finish_came : (id : ℕ) (s : Session) → NoneCame s (outcome (call.Finish id) s).next
finish_came id s = with-keeps (NoneCame s) id (finish_outcome id s) s (none_came s) (λ e l.
    split (NoneCame s) (is_done (finish_reply (is_lost s.status) e.phase e.writer.finished)) (on_stream id end_finish s) s (λ t. on_came id end_finish s (λ d. (λ w. w, λ r. absurd (finish_less (is_some (end_fault (Some d))) r)))) (λ n. none_came s))

reset_came : (id : ℕ) (s : Session) → NoneCame s (outcome (call.Reset id) s).next
reset_came id s = with-keeps (NoneCame s) id (reset_outcome id s) s (none_came s) (λ e l.
    split (NoneCame s) (is_done (reset_reply (is_lost s.status) e.phase)) (on_stream id (end_reset WasReset) s) s (λ t. on_came id (end_reset WasReset) s (λ d. (λ w. absurd (omega (arith, w)), λ r. absurd (omega (arith, r))))) (λ n. none_came s))

pub called_came : (c : Call) (s t : Session) (told : Reply) → NoneCame s (outcome c s).next → CallGives s c told t → NoneCame s t
called_came c s t told h (HasOutcome answer state) = subst (NoneCame s) (sym state) h
called_came c s t told h (NoMemory needs answer state) = subst (NoneCame s) (sym state) (none_came s)

-- ---- what goes out

-- what waits in a record, and how many bytes it takes, is the same
abbrev Same : Option End → Option End → Type 0
Same o p = (had p ≡ had o) × (credit_had p ≡ credit_had o)

-- so of each stream, and the session runs on, or doesn't
abbrev pub Kept : Session → Session → Type 0
Kept s t = (t.status ≡ s.status) × ((j : ℕ) → Same (look j s.table.entries) (look j t.table.entries))

none_same : (o : Option End) → Same o o
none_same o = (refl, refl)

none_kept : (s : Session) → Kept s s
none_kept s = (refl, λ j. (refl, refl))

kept_then : (s t u : Session) → Kept s t → Kept t u → Kept s u
kept_then s t u (e, x) (f, y) = (f ∙ e, λ j. ((y j).0 ∙ (x j).0, (y j).1 ∙ (x j).1))

kept_came : (s t : Session) → Kept s t → NoneCame s t
kept_came s t (e, x) j = came_by j s t (λ c. ap is_closed (sym e) ∙ c, λ r. ap is_running (sym e) ∙ r) (λ w. subst (λ (xs : List ℕ). 0 < length xs) (x j).0 w, λ w. subst (λ (n : ℕ). 0 < n) (x j).1 w)

-- what waits on a stream of a session that is closed, or isn't
abbrev waits_in : Bool → Option End → List ℕ
waits_in closed o = if is_some (if closed then Some ClosedFault else end_fault o) then [] else unread_of o

pub kept_waits : (id : ℕ) (s t : Session) → Kept s t → waiting id t ≡ waiting id s
kept_waits id s t (e, x) = ap (λ (st : Status). waits_in (is_closed st) (look id t.table.entries)) e ∙ by (is_closed s.status)
  where
    by : (c : Bool) → waits_in c (look id t.table.entries) ≡ waits_in c (look id s.table.entries)
    by true = refl
    by false = (x id).0

frame_same : (window limit : ℕ) (kind : FrameKind) (e : End) → Same (Some e) (Some (begin_frame window limit kind e))
frame_same window limit Open e = (refl, refl)
frame_same window limit OpenWith e = (refl, refl)
frame_same window limit Accept e = (refl, refl)
frame_same window limit Reset e = (refl, refl)
frame_same window limit Credit e = (refl, refl)
frame_same window limit Data e = (refl, refl)
frame_same window limit Fin e = (refl, refl)

kind_kept : (id limit : ℕ) (e : End) (k : Option FrameKind) (s t : Session) → begin_kind id limit e k s ≡ Some t → Kept s t
kind_kept id limit e None s t b = cc
kind_kept id limit e (Some kind) s t b = subst (Kept s) (one_some _ t b) (refl, λ j. changed Same none_same id j (begin_frame s.table.window limit kind) s.table.entries (frame_same s.table.window limit kind))

stream_kept : (id limit : ℕ) (o : Option End) (s t : Session) → begin_stream id limit o s ≡ Some t → Kept s t
stream_kept id limit None s t b = cc
stream_kept id limit (Some e) s t b =
    kind_kept id limit e (next_kind s.table.window e) s t (none_if (limit == 0 || nat_lt first_credit limit) (begin_kind id limit e (next_kind s.table.window e) s) t b).1

answer_kept : (xs : List Response) (s t : Session) → begin_answer xs s ≡ Some t → Kept s t
answer_kept [] s t b = cc
answer_kept (r ∷ more) s t b = subst (Kept s) (one_some _ t b) (refl, λ j. (refl, refl))

begin_kept : (c : Choice) (s t : Session) → begin c s ≡ Some t → Kept s t
begin_kept TheErrorDue s t b = subst (Kept s) (sym (some_if (s.error_due && is_broken s.status) (begins error_frame (record s { error_due = false })) t b).1) (refl, λ j. (refl, refl))
begin_kept TheGoAway s t b = subst (Kept s) (sym (some_if (is_running s.status && away_due s.away.here) (begins go_away_frame (record s { away = begin_away s.away })) t b).1) (refl, λ j. (refl, refl))
begin_kept TheAnswer s t b = answer_kept s.answers s t (if_some (is_running s.status) (begin_answer s.answers s) t b).1
begin_kept (ThePing n) s t b = subst (Kept s) (sym (some_if (is_running s.status && has_asked n s.pings.pending) (begins (ping_frame n) (record s { pings = begin_ping n s.pings })) t b).1) (refl, λ j. (refl, refl))
begin_kept (AStream id limit) s t b = stream_kept id limit (look id s.table.entries) s t (if_some (is_running s.status) (begin_stream id limit (look id s.table.entries) s) t b).1

ready_kept : (may : Choice → Session → Bool) (s t : Session) → Ready may s t → Kept s t
ready_kept may s t (inl h) = subst (Kept s) (sym h.1) (none_kept s)
ready_kept may s t (inr (e, (c, ok, b))) = begin_kept c s t b

lingers : (p : Phase) → is_lingering p ≡ true → is_some (if is_reset p then Some ResetFault else if not (is_live p) then Some NoStream else None) ≡ true
lingers Lingering h = refl
lingers p h = cc

-- a record that was given up had nothing for a caller
spent_same : (window : ℕ) (begun : Outgoing) (id : ℕ) (o : Option End) → is_spent window begun id o ≡ true → Same o None
spent_same window begun id None h = cc
spent_same window begun id (Some e) h = let f = lingers e.phase (both_of (is_lingering e.phase) (not (is_due window e)) (both_of (is_lingering e.phase && not (is_due window e)) (not (belongs_to begun.of id)) h).0).0 in (rw f refl, rw f refl)

gone : (id j : ℕ) (ps : List (ℕ × End)) → Distinct ps → Same (look id ps) None → Same (look j ps) (look j (without id ps))
gone id j ps distinct nothing = by (same_or_not j id)
  where
    by : (j ≡ id) ⊎ (j ≢ id) → Same (look j ps) (look j (without id ps))
    by (inr n) = subst (Same (look j ps)) (sym (look-without_other id j ps n)) (none_same (look j ps))
    by (inl e) =
        let none : look j (without id ps) ≡ None = subst (λ (k : ℕ). look j (without k ps) ≡ None) e (look-without_same j ps distinct) in
        subst (Same (look j ps)) (sym none) (subst (λ (k : ℕ). Same (look k ps) None) (sym e) nothing)

reaps_kept : (of : Option ℕ) (s : Session) → Distinct s.table.entries → Kept s (reaps of s)
reaps_kept None s distinct = none_kept s
reaps_kept (Some id) s distinct =
    split (Kept s) (is_spent s.table.window s.outgoing id (look id s.table.entries)) (record s { table = remove_record id s.table }) s
    (λ t. (refl, λ j. gone id j s.table.entries distinct (spent_same s.table.window s.outgoing id (look id s.table.entries) t))) (λ f. none_kept s)

moves_kept : (n : ℕ) (s : Session) → Distinct s.table.entries → Kept s (moves_on n s)
moves_kept n s distinct =
    split (Kept s) (nat_lt n (length s.outgoing.bytes)) _ (reaps s.outgoing.of (record s { outgoing = nothing_outgoing }))
    (λ t. (refl, λ j. (refl, refl))) (λ f. reaps_kept s.outgoing.of (record s { outgoing = nothing_outgoing }) distinct)

flows_kept : (may : Choice → Session → Bool) (bytes : List ℕ) (s t : Session) → Flows may bytes s t → IsWithin s → Kept s t
flows_kept may [] s t e w = subst (Kept s) (sym e) (none_kept s)
flows_kept may (b ∷ bytes) s t (ready, r, first, p) w =
    let within = ready-keeps may s ready r w in
    kept_then s ready t (ready_kept may s ready r)
    (kept_then ready (moves_on 1 ready) t (moves_kept 1 ready within.table.distinct) (flows_kept may bytes (moves_on 1 ready) t p (moves-keep 1 ready within)))

-- what waits on a stream stays as what is due goes out
pub due_waits : (id : ℕ) (es : List (Event × Reply)) (s t : Session) → Happen es s t → list_all (λ (e : Event × Reply). is_emission e.0) es ≡ true → IsWithin s → waiting id t ≡ waiting id s
due_waits id [] s t h own w = ap (waiting id) h
due_waits id ((event.Emit room, told) ∷ es) s t (next, g, h) own w =
    due_waits id es next t h own (gives-keep in_turn s next (event.Emit room) told g w) ∙ kept_waits id s next (flows_kept in_turn g.0 s next g.2.flows w)
due_waits id ((event.Call c, told) ∷ es) s t h own w = cc
due_waits id ((event.Feed bytes, told) ∷ es) s t h own w = cc
due_waits id ((event.FeedEnd, told) ∷ es) s t h own w = cc

-- a read takes its bytes from the front of what waits
pub read_left : (id n : ℕ) (told : Reply) (s t : Session) → Gives in_turn s (event.Call (call.Read id n)) told t → 0 < n → n ≤ length (waiting id s) → waiting id t ≡ drop n (waiting id s)
read_left id n told s t (NoMemory needs answer state) some few = cc
read_left id n told s t (HasOutcome answer state) some few = by (stream_fault id s) refl (look id s.table.entries) refl
  where
    none : waiting id s ≡ [] → ⊥
    none e = omega (arith, ap length e, some, few)

    by : (f : Option CallFault) → stream_fault id s ≡ f → (o : Option End) → look id s.table.entries ≡ o → waiting id t ≡ drop n (waiting id s)
    by (Some f) h o l = absurd (none (rw h refl))
    by None h None l = absurd (none (rw (h, l) refl))
    by None h (Some e) l =
        let all = waiting-is id e s h l in
        let may : MayRead id n e s = record { may = h; there = l; asked = some; unread = omega (arith, some, few, ap length all) } in
        let next : on_stream id (end_read n) s ≡ (read_from id n s).next = read-leaves id n n e (with_record id (end_read n) s.table) s s refl may (omega (arith, few, ap length all)) refl in
        let found = look-change_there id (end_read n) s.table.entries e l in
        let granted : stream_fault id (on_stream id (end_read n) s) ≡ None = rw found (rw l at h) in
        ap (waiting id) (state ∙ sym next) ∙ waiting-is id (end_read n e) (on_stream id (end_read n) s) granted found ∙ ap (drop n) (sym all)

-- ---- events

pub still_open : (st : Status) → is_closed (status_input_ends st) ≡ false → is_closed st ≡ false
still_open Running c = refl
still_open Lost c = refl
still_open (Broken f) c = refl
still_open Closed c = c

pub still_runs : (st : Status) → is_running (status_input_ends st) ≡ true → is_running st ≡ true
still_runs Running c = refl
still_runs Lost c = cc
still_runs (Broken f) c = cc
still_runs Closed c = cc

-- a write, a read or an end of a stream, an emission, or that the peer's bytes have ended
abbrev pub is_calm : Event → Bool
is_calm (event.Call (call.Write id bytes)) = true
is_calm (event.Call (call.Read id max)) = true
is_calm (event.Call (call.Finish id)) = true
is_calm (event.Call (call.Reset id)) = true
is_calm (event.Call _) = false
is_calm (event.Feed bytes) = false
is_calm event.FeedEnd = true
is_calm (event.Emit room) = true

pub calm_came : (e : Event) (told : Reply) (s t : Session) → is_calm e ≡ true → Gives in_turn s e told t → IsWithin s → NoneCame s t
calm_came (event.Call (call.Write id bytes)) told s t calm g w = called_came (call.Write id bytes) s t told (write_came id bytes s) g
calm_came (event.Call (call.Read id max)) told s t calm g w = called_came (call.Read id max) s t told (read_came id max s) g
calm_came (event.Call (call.Finish id)) told s t calm g w = called_came (call.Finish id) s t told (finish_came id s) g
calm_came (event.Call (call.Reset id)) told s t calm g w = called_came (call.Reset id) s t told (reset_came id s) g
calm_came (event.Call call.Open) told s t calm g w = cc
calm_came (event.Call (call.OpenWith bytes)) told s t calm g w = cc
calm_came (event.Call call.Accept) told s t calm g w = cc
calm_came (event.Call (call.Forget id)) told s t calm g w = cc
calm_came (event.Call call.Ping) told s t calm g w = cc
calm_came (event.Call (call.Ponged n)) told s t calm g w = cc
calm_came (event.Call call.GoAway) told s t calm g w = cc
calm_came (event.Call call.Close) told s t calm g w = cc
calm_came (event.Feed bytes) told s t calm g w = cc
calm_came event.FeedEnd told s t calm g w = subst (NoneCame s) (sym g.1) (λ j. came_same j s (feed_end s) (still_open s.status, still_runs s.status) refl)
calm_came (event.Emit room) told s t calm g w = kept_came s t (flows_kept in_turn g.0 s t g.2.flows w)

-- what the limits say, and that no stream gained anything
pub record IsCalm (s t : Session) : Type 0 where
  pub within : IsWithin t
  pub came : NoneCame s t

pub happen_calm : (f : Event → Bool) → ((e : Event) → f e ≡ true → is_calm e ≡ true) → (es : List (Event × Reply)) (s t : Session) → Happen es s t → list_all (λ (e : Event × Reply). f e.0) es ≡ true → IsWithin s → IsCalm s t
happen_calm f calm [] s t h own w = subst (IsCalm s) (sym h) (record { within = w; came = none_came s })
happen_calm f calm (e ∷ es) s t h own w =
    let two = both_of (f e.0) (list_all (λ (x : Event × Reply). f x.0) es) own in
    let more = happen_calm f calm es h.0 t h.2 two.1 (gives-keep in_turn s h.0 e.0 e.1 h.1 w) in
    record { within = more.within; came = came_then s h.0 t (calm_came e.0 e.1 s h.0 (calm e.0 two.0) h.1 w) more.came }

turn_calm : (id : ℕ) (e : Event) → is_of_turn id e ≡ true → is_calm e ≡ true
turn_calm id (event.Call (call.Write other bytes)) h = refl
turn_calm id (event.Call (call.Read other max)) h = refl
turn_calm id (event.Call (call.Finish other)) h = refl
turn_calm id (event.Call (call.Reset other)) h = refl
turn_calm id (event.Call call.Open) h = cc
turn_calm id (event.Call (call.OpenWith bytes)) h = cc
turn_calm id (event.Call call.Accept) h = cc
turn_calm id (event.Call (call.Forget other)) h = cc
turn_calm id (event.Call call.Ping) h = cc
turn_calm id (event.Call (call.Ponged n)) h = cc
turn_calm id (event.Call call.GoAway) h = cc
turn_calm id (event.Call call.Close) h = cc
turn_calm id (event.Feed bytes) h = cc
turn_calm id event.FeedEnd h = cc
turn_calm id (event.Emit room) h = refl

flush_calm : (e : Event) → is_of_flush e ≡ true → is_calm e ≡ true
flush_calm (event.Call c) h = cc
flush_calm (event.Feed bytes) h = cc
flush_calm event.FeedEnd h = refl
flush_calm (event.Emit room) h = refl

-- at the events of a turn, and of a flush, no bytes come
pub turn_is_calm : (id : ℕ) (es : List (Event × Reply)) (s t : Session) → Happen es s t → list_all (λ (e : Event × Reply). is_of_turn id e.0) es ≡ true → IsWithin s → IsCalm s t
turn_is_calm id = happen_calm (is_of_turn id) (turn_calm id)

pub flush_is_calm : (es : List (Event × Reply)) (s t : Session) → Happen es s t → list_all (λ (e : Event × Reply). is_of_flush e.0) es ≡ true → IsWithin s → IsCalm s t
flush_is_calm = happen_calm is_of_flush flush_calm

pub exchanges_calm : (id : ℕ) (s t : Session) (out out_new : List ℕ) (before after : Seen) → Exchanges id s t out out_new before after → IsWithin s → IsCalm s t
exchanges_calm id s t out out_new before after x = turn_is_calm id x.events s t x.happen x.own

pub reset_gives : (id : ℕ) (told : Reply) (s t : Session) → Gives in_turn s (event.Call (call.Reset id)) told t → NoneCame s t
reset_gives id told s t g = called_came (call.Reset id) s t told (reset_came id s) g

-- whatever happens, the limits hold
pub happen_within : (es : List (Event × Reply)) (s t : Session) → Happen es s t → IsWithin s → IsWithin t
happen_within [] s t h w = subst IsWithin (sym h) w
happen_within (e ∷ es) s t h w = happen_within es h.0 t h.2 (gives-keep in_turn s h.0 e.0 e.1 h.1 w)
