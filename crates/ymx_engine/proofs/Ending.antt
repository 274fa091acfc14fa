-- What a stream says of its end, and whether it takes bytes, changes only at calls on it and as bytes come.
use Rattle.std.proofs.Common.{◌≡◌, ◌≢◌, ◌⊎◌, inl, inr, ℕ, List, [], ◌∷◌, ◌++◌, length, Bool, true, false, not, ◌==◌, ◌&&◌, ◌||◌, nat_lt, if◌then◌else◌, Option, None, Some, refl, sym, ap, ◌∙◌, subst, arith, ◌<◌}
use Rattle.std.specs.Prelude.{nat_eq, option_map, take, is_some}
use Rattle.std.specs.List.{list_all}
use Rattle.std.proofs.lemmas.Bool.Decides.{nat_tests}
use Rattle.ymx_machine.specs.declared.types.Call.TheVariants as call
use Rattle.ymx_machine.specs.declared.types.CallFault.TheVariants as fault
use Rattle.ymx_machine.specs.declared.types.Reply.TheVariants as reply
use Rattle.ymx_machine.specs.shared.Events.{Reply, Call}
use Rattle.ymx_machine.specs.shared.Limits.{first_credit}
use Rattle.ymx_machine.specs.shared.Lists.{look, change, without}
use Rattle.ymx_machine.specs.shared.Phases.{Phase, is_live, is_reset, is_offered, is_lingering}
use Rattle.ymx_machine.specs.shared.Phases.Phase.{Unborn, Offered, Live, WasReset, Refused, Lingering, Gone}
use Rattle.ymx_machine.specs.shared.Replies.{unless_refused, write_reply, read_reply, finish_reply, bytes_moved, is_done}
use Rattle.ymx_machine.proofs.Lists.{look-change_same, look-change_other, look-without_other}
use Rattle.ymx_machine.proofs.Tests.{split, same_or_not, one_some, both_of}
use Rattle.ymx_model.specs.declared.types.FrameKind.{FrameKind}
use Rattle.ymx_model.specs.declared.types.FrameKind.TheVariants.{Open, OpenWith, Accept, Reset, Credit, Data, Fin}
use Rattle.ymx_model.specs.declared.types.Event.TheVariants as event
use Rattle.ymx_model.specs.declared.types.Response.{Response}
use Rattle.ymx_model.specs.declared.types.Status.{Status}
use Rattle.ymx_model.specs.declared.types.Status.TheVariants as status
use Rattle.ymx_model.specs.session.Records.{End, end_write, end_finish, end_read}
use Rattle.ymx_model.specs.session.FramesDue.{begin_frame, next_kind, spelled, is_due}
use Rattle.ymx_model.specs.session.Tables.{with_record, pass_turn, remove_record}
use Rattle.ymx_model.specs.session.Sessions.{Session, Outgoing, is_closed, is_lost, is_running, is_broken, is_spent, belongs_to, on_stream, reap, nothing_outgoing}
use Rattle.ymx_model.specs.session.Calls.{outcome, refused, at_record, write_outcome, read_outcome, finish_outcome}
use Rattle.ymx_model.specs.session.Emissions.{Choice, begin, begin_answer, begin_stream, begin_kind, begins, error_frame, go_away_frame, ping_frame, moves_on, reaps, Ready, Flows, in_turn}
use Rattle.ymx_model.specs.session.Emissions.Choice.{TheErrorDue, TheGoAway, TheAnswer, ThePing, AStream}
use Rattle.ymx_model.specs.session.GoAway.{away_due, begin_away}
use Rattle.ymx_model.specs.session.Pings.{has_asked, begin_ping}
use Rattle.ymx_model.specs.session.Events.{Event}
use Rattle.ymx_model.specs.session.Histories.{Gives, CallGives}
use Rattle.ymx_model.specs.session.Histories.CallGives.{Outcome as HasOutcome, NoMemory}
use Rattle.ymx_law_session.specs.Limits.{is_offered_at}
use Rattle.ymx_law_session.specs.Refusals.{OthersSame}
use Rattle.ymx_law_session.proofs.limits.CallsKeep.{with-keeps}
use Rattle.ymx_law_session.proofs.limits.EmissionsKeep.{some_if, if_some, none_if}
use Rattle.ymx_law_session.proofs.nothing_else.Others.{write-others, read-others, finish-others, reset-others}
use Rattle.ymx_session.specs.Replies.{end_fault}
use Rattle.ymx_session.specs.Streams.{unread_of, waiting}
use Rattle.ymx_engine.specs.Events.{Happen, given_at, given, resets_at, has_reset, bytes_of, is_stop}
use Rattle.ymx_engine.specs.Serves.{is_of_turn, is_emission, tells_end, is_silent, is_stopped}
use Rattle.ymx_engine.proofs.Quiet.{or_neither}
use Rattle.ymx_engine.proofs.Steady.{steady_status}

-- where no more come, none came before; and where the stream takes no bytes any more, it took none before
pub record EndsNone (id : ℕ) (s t : Session) : Type 0 where
  pub silence : is_silent id t ≡ true → is_silent id s ≡ true
  pub stop : is_stopped id t ≡ true → is_stopped id s ≡ true

-- so it is with each stream
abbrev pub NoneEnd : Session → Session → Type 0
NoneEnd s t = (id : ℕ) → EndsNone id s t

-- ---- what a record says

-- a read of one byte would say that no more come
abbrev mute : (lost : Bool) → Option End → Bool
mute lost None = true
mute lost (Some e) = tells_end (read_reply lost 1 e.phase e.reader.unread e.reader.ended)

-- a write of none is refused
abbrev shut : (lost : Bool) → Option End → Bool
shut lost None = true
shut lost (Some e) = is_stop (write_reply lost [] e.phase e.writer.finished e.writer.credit)

silent_at : (closed : Bool) (o : Option End) (id : ℕ) (s : Session) → tells_end (if closed then refused fault.Closed s else at_record (read_outcome id 1 s) s o).reply ≡ (closed || mute (is_lost s.status) o)
silent_at true o id s = refl
silent_at false None id s = refl
silent_at false (Some e) id s = refl

stopped_at : (closed : Bool) (o : Option End) (id : ℕ) (s : Session) → is_stop (if closed then refused fault.Closed s else at_record (write_outcome id [] s) s o).reply ≡ (closed || shut (is_lost s.status) o)
stopped_at true o id s = refl
stopped_at false None id s = refl
stopped_at false (Some e) id s = refl

-- what the second says so, the first does
abbrev Milder : Option End → Option End → Type 0
Milder o p = ((lost : Bool) → mute lost p ≡ true → mute lost o ≡ true) × ((lost : Bool) → shut lost p ≡ true → shut lost o ≡ true)

or_by : (b x y : Bool) → (x ≡ true → y ≡ true) → (b || x) ≡ true → (b || y) ≡ true
or_by true x y f h = refl
or_by false x y f h = f h

ends_by : (id : ℕ) (s t : Session) → t.status ≡ s.status → Milder (look id s.table.entries) (look id t.table.entries) → EndsNone id s t
ends_by id s t status milder = record {
  silence = λ h.
      let was : (is_closed s.status || mute (is_lost s.status) (look id t.table.entries)) ≡ true = ap (λ (st : Status). is_closed st || mute (is_lost st) (look id t.table.entries)) (sym status) ∙ sym (silent_at (is_closed t.status) (look id t.table.entries) id t) ∙ h in
      silent_at (is_closed s.status) (look id s.table.entries) id s ∙ or_by (is_closed s.status) (mute (is_lost s.status) (look id t.table.entries)) (mute (is_lost s.status) (look id s.table.entries)) (milder.0 (is_lost s.status)) was;
  stop = λ h.
      let was : (is_closed s.status || shut (is_lost s.status) (look id t.table.entries)) ≡ true = ap (λ (st : Status). is_closed st || shut (is_lost st) (look id t.table.entries)) (sym status) ∙ sym (stopped_at (is_closed t.status) (look id t.table.entries) id t) ∙ h in
      stopped_at (is_closed s.status) (look id s.table.entries) id s ∙ or_by (is_closed s.status) (shut (is_lost s.status) (look id t.table.entries)) (shut (is_lost s.status) (look id s.table.entries)) (milder.1 (is_lost s.status)) was;
}

milder_same : (o p : Option End) → p ≡ o → Milder o p
milder_same o p e = subst (λ (v : Option End). Milder o v) (sym e) (λ lost h. h, λ lost h. h)

-- where the record and the status stay
pub ends_same : (id : ℕ) (s t : Session) → t.status ≡ s.status → look id t.table.entries ≡ look id s.table.entries → EndsNone id s t
ends_same id s t status same = ends_by id s t status (milder_same (look id s.table.entries) (look id t.table.entries) same)

pub none_end : (s : Session) → NoneEnd s s
none_end s id = record { silence = λ h. h; stop = λ h. h }

pub ends_then : (id : ℕ) (s t u : Session) → EndsNone id s t → EndsNone id t u → EndsNone id s u
ends_then id s t u x y = record { silence = λ h. x.silence (y.silence h); stop = λ h. x.stop (y.stop h) }

pub end_then : (s t u : Session) → NoneEnd s t → NoneEnd t u → NoneEnd s u
end_then s t u x y id = ends_then id s t u (x id) (y id)

-- a stream of which there is no record says no more, and takes none
pub none_there : (id : ℕ) (s : Session) → look id s.table.entries ≡ None → (is_silent id s ≡ true) × (is_stopped id s ≡ true)
none_there id s none = (
  silent_at (is_closed s.status) (look id s.table.entries) id s ∙ ap (λ (o : Option End). is_closed s.status || mute (is_lost s.status) o) none ∙ or_last (is_closed s.status),
  stopped_at (is_closed s.status) (look id s.table.entries) id s ∙ ap (λ (o : Option End). is_closed s.status || shut (is_lost s.status) o) none ∙ or_last (is_closed s.status),
)
  where
    or_last : (b : Bool) → (b || true) ≡ true
    or_last true = refl
    or_last false = refl

-- so is one that was offered and not accepted yet
pub offered_there : (id : ℕ) (s : Session) → is_offered_at (look id s.table.entries) ≡ true → (is_silent id s ≡ true) × (is_stopped id s ≡ true)
offered_there id s offered = (
  silent_at (is_closed s.status) (look id s.table.entries) id s ∙ or_is (is_closed s.status) (mute (is_lost s.status) (look id s.table.entries)) (by (look id s.table.entries) offered).0,
  stopped_at (is_closed s.status) (look id s.table.entries) id s ∙ or_is (is_closed s.status) (shut (is_lost s.status) (look id s.table.entries)) (by (look id s.table.entries) offered).1,
)
  where
    or_is : (b c : Bool) → c ≡ true → (b || c) ≡ true
    or_is true c h = refl
    or_is false c h = h

    at : (p : Phase) (lost ended finished : Bool) (unread : List ℕ) (credit : ℕ) → is_offered p ≡ true → (tells_end (read_reply lost 1 p unread ended) ≡ true) × (is_stop (write_reply lost [] p finished credit) ≡ true)
    at Unborn lost ended finished unread credit h = cc
    at Offered lost ended finished unread credit h = (refl, refl)
    at Live lost ended finished unread credit h = cc
    at WasReset lost ended finished unread credit h = cc
    at Refused lost ended finished unread credit h = cc
    at Lingering lost ended finished unread credit h = cc
    at Gone lost ended finished unread credit h = cc

    by : (o : Option End) → is_offered_at o ≡ true → (mute (is_lost s.status) o ≡ true) × (shut (is_lost s.status) o ≡ true)
    by None h = cc
    by (Some e) h = at e.phase (is_lost s.status) e.reader.ended e.writer.finished e.reader.unread e.writer.credit h

-- ---- one record changes, or goes

mapped : (f : End → End) (o : Option End) → ((e : End) → Milder (Some e) (Some (f e))) → Milder o (option_map f o)
mapped f None milder = (λ lost h. h, λ lost h. h)
mapped f (Some e) milder = milder e

changed : (id j : ℕ) (f : End → End) (ps : List (ℕ × End)) → ((e : End) → Milder (Some e) (Some (f e))) → Milder (look j ps) (look j (change id f ps))
changed id j f ps milder = by (same_or_not j id)
  where
    by : (j ≡ id) ⊎ (j ≢ id) → Milder (look j ps) (look j (change id f ps))
    by (inr n) = milder_same (look j ps) (look j (change id f ps)) (look-change_other id j f ps n)
    by (inl e) =
        let same : look j (change id f ps) ≡ option_map f (look j ps) = subst (λ (k : ℕ). look j (change k f ps) ≡ option_map f (look j ps)) e (look-change_same j f ps) in
        subst (λ (o : Option End). Milder (look j ps) o) (sym same) (mapped f (look j ps) milder)

on_ends : (id : ℕ) (f : End → End) (s : Session) → ((e : End) → Milder (Some e) (Some (f e))) → NoneEnd s (on_stream id f s)
on_ends id f s milder j = ends_by j s (on_stream id f s) refl (changed id j f s.table.entries milder)

lingers : (p : Phase) (lost ended finished : Bool) (unread : List ℕ) (credit : ℕ) → is_lingering p ≡ true → (tells_end (read_reply lost 1 p unread ended) ≡ true) × (is_stop (write_reply lost [] p finished credit) ≡ true)
lingers Unborn lost ended finished unread credit h = cc
lingers Offered lost ended finished unread credit h = cc
lingers Live lost ended finished unread credit h = cc
lingers WasReset lost ended finished unread credit h = cc
lingers Refused lost ended finished unread credit h = cc
lingers Lingering lost ended finished unread credit h = (refl, refl)
lingers Gone lost ended finished unread credit h = cc

first_of : (a b c : Bool) → (a && b && c) ≡ true → a ≡ true
first_of true b c h = refl
first_of false b c h = cc

spent_over : (window : ℕ) (begun : Outgoing) (id : ℕ) (o : Option End) (lost : Bool) → is_spent window begun id o ≡ true → (mute lost o ≡ true) × (shut lost o ≡ true)
spent_over window begun id None lost h = (refl, refl)
spent_over window begun id (Some e) lost h = lingers e.phase lost e.reader.ended e.writer.finished e.reader.unread e.writer.credit (first_of (is_lingering e.phase) (not (is_due window e)) (not (belongs_to begun.of id)) h)

removed : (id j : ℕ) (ps : List (ℕ × End)) → ((lost : Bool) → (mute lost (look id ps) ≡ true) × (shut lost (look id ps) ≡ true)) → Milder (look j ps) (look j (without id ps))
removed id j ps over = by (same_or_not j id)
  where
    by : (j ≡ id) ⊎ (j ≢ id) → Milder (look j ps) (look j (without id ps))
    by (inr n) = milder_same (look j ps) (look j (without id ps)) (look-without_other id j ps n)
    by (inl e) = (λ lost h. subst (λ (k : ℕ). mute lost (look k ps) ≡ true) (sym e) (over lost).0, λ lost h. subst (λ (k : ℕ). shut lost (look k ps) ≡ true) (sym e) (over lost).1)

reaped_ends : (id : ℕ) (s : Session) → NoneEnd s (reap id s)
reaped_ends id s =
    split (NoneEnd s) (is_spent s.table.window s.outgoing id (look id s.table.entries)) (record s { table = remove_record id s.table }) s
    (λ t j. ends_by j s (record s { table = remove_record id s.table }) refl (removed id j s.table.entries (λ lost. spent_over s.table.window s.outgoing id (look id s.table.entries) lost t))) (λ f. none_end s)

-- ---- what goes out

frame_milder : (window limit : ℕ) (kind : FrameKind) (e : End) → Milder (Some e) (Some (begin_frame window limit kind e))
frame_milder window limit Open e = (λ lost h. h, λ lost h. h)
frame_milder window limit OpenWith e = (λ lost h. h, λ lost h. h)
frame_milder window limit Accept e = (λ lost h. h, λ lost h. h)
frame_milder window limit Reset e = (λ lost h. h, λ lost h. h)
frame_milder window limit Credit e = (λ lost h. h, λ lost h. h)
frame_milder window limit Data e = (λ lost h. h, λ lost h. h)
frame_milder window limit Fin e = (λ lost h. h, λ lost h. h)

kind_ends : (id limit : ℕ) (e : End) (k : Option FrameKind) (s t : Session) → begin_kind id limit e k s ≡ Some t → NoneEnd s t
kind_ends id limit e None s t b = cc
kind_ends id limit e (Some kind) s t b = subst (NoneEnd s) (one_some _ t b) (λ j.
    ends_by j s (record s { table = pass_turn id (with_record id (begin_frame s.table.window limit kind) s.table); outgoing = record { bytes = spelled kind s.table.window limit id e; of = Some id } }) refl
    (changed id j (begin_frame s.table.window limit kind) s.table.entries (frame_milder s.table.window limit kind)))

stream_ends : (id limit : ℕ) (o : Option End) (s t : Session) → begin_stream id limit o s ≡ Some t → NoneEnd s t
stream_ends id limit None s t b = cc
stream_ends id limit (Some e) s t b =
    kind_ends id limit e (next_kind s.table.window e) s t (none_if (limit == 0 || nat_lt first_credit limit) (begin_kind id limit e (next_kind s.table.window e) s) t b).1

-- the records and the status stay
rests : (s t : Session) → t.status ≡ s.status → t.table ≡ s.table → NoneEnd s t
rests s t status table id = ends_same id s t status (ap (λ x. look id x.entries) table)

answer_ends : (xs : List Response) (s t : Session) → begin_answer xs s ≡ Some t → NoneEnd s t
answer_ends [] s t b = cc
answer_ends (r ∷ more) s t b = subst (NoneEnd s) (one_some _ t b) (rests s _ refl refl)

begin_ends : (c : Choice) (s t : Session) → begin c s ≡ Some t → NoneEnd s t
begin_ends TheErrorDue s t b = subst (NoneEnd s) (sym (some_if (s.error_due && is_broken s.status) (begins error_frame (record s { error_due = false })) t b).1) (rests s (begins error_frame (record s { error_due = false })) refl refl)
begin_ends TheGoAway s t b = subst (NoneEnd s) (sym (some_if (is_running s.status && away_due s.away.here) (begins go_away_frame (record s { away = begin_away s.away })) t b).1) (rests s (begins go_away_frame (record s { away = begin_away s.away })) refl refl)
begin_ends TheAnswer s t b = answer_ends s.answers s t (if_some (is_running s.status) (begin_answer s.answers s) t b).1
begin_ends (ThePing n) s t b = subst (NoneEnd s) (sym (some_if (is_running s.status && has_asked n s.pings.pending) (begins (ping_frame n) (record s { pings = begin_ping n s.pings })) t b).1) (rests s (begins (ping_frame n) (record s { pings = begin_ping n s.pings })) refl refl)
begin_ends (AStream id limit) s t b = stream_ends id limit (look id s.table.entries) s t (if_some (is_running s.status) (begin_stream id limit (look id s.table.entries) s) t b).1

ready_ends : (may : Choice → Session → Bool) (s t : Session) → Ready may s t → NoneEnd s t
ready_ends may s t (inl h) = subst (NoneEnd s) (sym h.1) (none_end s)
ready_ends may s t (inr (e, (c, ok, b))) = begin_ends c s t b

reaps_ends : (of : Option ℕ) (s : Session) → NoneEnd s (reaps of s)
reaps_ends None s = none_end s
reaps_ends (Some id) s = reaped_ends id s

moves_ends : (n : ℕ) (s : Session) → NoneEnd s (moves_on n s)
moves_ends n s =
    split (NoneEnd s) (nat_lt n (length s.outgoing.bytes)) _ (reaps s.outgoing.of (record s { outgoing = nothing_outgoing }))
    (λ t. rests s _ refl refl) (λ f. end_then s (record s { outgoing = nothing_outgoing }) (reaps s.outgoing.of (record s { outgoing = nothing_outgoing })) (rests s (record s { outgoing = nothing_outgoing }) refl refl) (reaps_ends s.outgoing.of (record s { outgoing = nothing_outgoing })))

flows_end : (may : Choice → Session → Bool) (bytes : List ℕ) (s t : Session) → Flows may bytes s t → NoneEnd s t
flows_end may [] s t e = subst (NoneEnd s) (sym e) (none_end s)
flows_end may (b ∷ bytes) s t (ready, r, first, p) =
    end_then s ready t (ready_ends may s ready r) (end_then ready (moves_on 1 ready) t (moves_ends 1 ready) (flows_end may bytes (moves_on 1 ready) t p))

-- ---- calls on a stream

write_ends : (id : ℕ) (bytes : List ℕ) (s : Session) → NoneEnd s (outcome (call.Write id bytes) s).next
write_ends id bytes s = with-keeps (NoneEnd s) id (write_outcome id bytes s) s (none_end s) (λ e l.
    split (NoneEnd s) (bytes_moved (write_reply (is_lost s.status) bytes e.phase e.writer.finished e.writer.credit) == 0) s _ (λ t. none_end s) (λ n. on_ends id (end_write _) s (λ d. (λ lost h. h, λ lost h. h))))

finished_less : (p : Phase) (lost finished : Bool) (r : Reply) → is_stop (unless_refused true lost p true r) ≡ true → is_stop (unless_refused true lost p finished r) ≡ true
finished_less Unborn lost finished r h = refl
finished_less Offered lost finished r h = refl
finished_less Live lost finished r h = cc
finished_less WasReset lost finished r h = refl
finished_less Refused lost finished r h = refl
finished_less Lingering lost finished r h = refl
finished_less Gone lost finished r h = refl

finish_ends : (id : ℕ) (s : Session) → NoneEnd s (outcome (call.Finish id) s).next
finish_ends id s = with-keeps (NoneEnd s) id (finish_outcome id s) s (none_end s) (λ e l.
    split (NoneEnd s) (is_done (finish_reply (is_lost s.status) e.phase e.writer.finished)) (on_stream id end_finish s) s (λ t. on_ends id end_finish s (λ d. (λ lost h. h, λ lost h. finished_less d.phase lost d.writer.finished (reply.Wrote _) h))) (λ n. none_end s))

abbrev IsMoved : Reply → Type 0
IsMoved r = bytes_moved r ≡ length (bytes_of r)

-- a read gives the bytes that it moves
reads_moved : (lost : Bool) (max : ℕ) (p : Phase) (here : List ℕ) (ended : Bool) → bytes_moved (read_reply lost max p here ended) ≡ length (bytes_of (read_reply lost max p here ended))
reads_moved lost max p here ended =
    split IsMoved (is_reset p) (reply.Refused fault.Reset) _ (λ e. refl) (λ e.
    split IsMoved (not (is_live p)) (reply.Refused fault.NoStream) _ (λ e. refl) (λ e.
    split IsMoved (max == 0) (reply.Read []) _ (λ e. refl) (λ e.
    split IsMoved (not (length here == 0)) (reply.Read (take max here)) _ (λ e. refl) (λ e.
    split IsMoved ended reply.ReadEnd _ (λ e. refl) (λ e.
    split IsMoved lost (reply.Refused fault.Lost) reply.ReadWait (λ e. refl) (λ e. refl))))))

stays_none : (n : ℕ) (s t : Session) → n ≡ 0 → (if n == 0 then s else t) ≡ s
stays_none n s t e = grind arith

read_at : (id max : ℕ) (closed : Bool) (o : Option End) (s : Session) → bytes_of (if closed then refused fault.Closed s else at_record (read_outcome id max s) s o).reply ≡ [] → (if closed then refused fault.Closed s else at_record (read_outcome id max s) s o).next ≡ s
read_at id max true o s none = refl
read_at id max false None s none = refl
read_at id max false (Some e) s none = stays_none _ s _ (reads_moved (is_lost s.status) max e.phase e.reader.unread e.reader.ended ∙ ap length none)

-- a read that gives no bytes changes nothing
pub read_none : (id max : ℕ) (told : Reply) (s t : Session) → CallGives s (call.Read id max) told t → bytes_of told ≡ [] → t ≡ s
read_none id max told s t (HasOutcome answer state) none = state ∙ read_at id max (is_closed s.status) (look id s.table.entries) s (ap bytes_of (sym answer) ∙ none)
read_none id max told s t (NoMemory needs answer state) none = state

called_ends : (c : Call) (s t : Session) (told : Reply) → NoneEnd s (outcome c s).next → CallGives s c told t → NoneEnd s t
called_ends c s t told h (HasOutcome answer state) = subst (NoneEnd s) (sym state) h
called_ends c s t told h (NoMemory needs answer state) = subst (NoneEnd s) (sym state) (none_end s)

pub finish_gives : (id : ℕ) (told : Reply) (s t : Session) → Gives in_turn s (event.Call (call.Finish id)) told t → NoneEnd s t
finish_gives id told s t g = called_ends (call.Finish id) s t told (finish_ends id s) g

-- ---- the events of a turn

-- neither a reset, nor a read that gave bytes
still_at : (id : ℕ) (e : Event) (told : Reply) (s t : Session) → is_of_turn id e ≡ true → given_at id e told ≡ [] → resets_at id e ≡ false → Gives in_turn s e told t → NoneEnd s t
still_at id (event.Call (call.Write other bytes)) told s t own none keeps g = called_ends (call.Write other bytes) s t told (write_ends other bytes s) g
still_at id (event.Call (call.Read other max)) told s t own none keeps g =
    let gave : bytes_of told ≡ [] = ap (λ (b : Bool). if b then bytes_of told else []) (sym own) ∙ none in
    subst (NoneEnd s) (sym (read_none other max told s t g gave)) (none_end s)
still_at id (event.Call (call.Finish other)) told s t own none keeps g = called_ends (call.Finish other) s t told (finish_ends other s) g
still_at id (event.Call (call.Reset other)) told s t own none keeps g = let no : true ≡ false = sym own ∙ keeps in absurd cc
still_at id (event.Call call.Open) told s t own none keeps g = cc
still_at id (event.Call (call.OpenWith bytes)) told s t own none keeps g = cc
still_at id (event.Call call.Accept) told s t own none keeps g = cc
still_at id (event.Call (call.Forget other)) told s t own none keeps g = cc
still_at id (event.Call call.Ping) told s t own none keeps g = cc
still_at id (event.Call (call.Ponged n)) told s t own none keeps g = cc
still_at id (event.Call call.GoAway) told s t own none keeps g = cc
still_at id (event.Call call.Close) told s t own none keeps g = cc
still_at id (event.Feed bytes) told s t own none keeps g = cc
still_at id event.FeedEnd told s t own none keeps g = cc
still_at id (event.Emit room) told s t own none keeps g = flows_end in_turn g.0 s t g.2.flows

none_both : (xs ys : List ℕ) → xs ++ ys ≡ [] → (xs ≡ []) × (ys ≡ [])
none_both [] ys h = (refl, h)
none_both (x ∷ xs) ys h = cc

pub turn_still : (id : ℕ) (es : List (Event × Reply)) (s t : Session) → Happen es s t → list_all (λ (e : Event × Reply). is_of_turn id e.0) es ≡ true → given id es ≡ [] → has_reset id es ≡ false → NoneEnd s t
turn_still id [] s t h own none keeps = subst (NoneEnd s) (sym h) (none_end s)
turn_still id (e ∷ es) s t h own none keeps =
    let two = both_of (is_of_turn id e.0) (list_all (λ (x : Event × Reply). is_of_turn id x.0) es) own in
    let gave = none_both (given_at id e.0 e.1) (given id es) none in
    let resets = or_neither (resets_at id e.0) (has_reset id es) keeps in
    end_then s h.0 t (still_at id e.0 e.1 s h.0 two.0 gave.0 resets.0 h.1) (turn_still id es h.0 t h.2 two.1 gave.1 resets.1)

-- emissions
pub emissions_end_none : (es : List (Event × Reply)) (s t : Session) → Happen es s t → list_all (λ (e : Event × Reply). is_emission e.0) es ≡ true → NoneEnd s t
emissions_end_none [] s t h own = subst (NoneEnd s) (sym h) (none_end s)
emissions_end_none (e ∷ es) s t h own =
    let two = both_of (is_emission e.0) (list_all (λ (x : Event × Reply). is_emission x.0) es) own in
    end_then s h.0 t (at e.0 e.1 s h.0 two.0 h.1) (emissions_end_none es h.0 t h.2 two.1)
  where
    at : (e : Event) (told : Reply) (s t : Session) → is_emission e ≡ true → Gives in_turn s e told t → NoneEnd s t
    at (event.Call c) told s t own g = cc
    at (event.Feed bytes) told s t own g = cc
    at event.FeedEnd told s t own g = cc
    at (event.Emit room) told s t own g = flows_end in_turn g.0 s t g.2.flows

-- ---- the other streams

called_looks : (c : Call) (id other : ℕ) (s t : Session) (told : Reply) → other ≢ id → OthersSame id s (outcome c s).next → CallGives s c told t → look other t.table.entries ≡ look other s.table.entries
called_looks c id other s t told ne same (HasOutcome answer state) = ap (λ (x : Session). look other x.table.entries) state ∙ same other ne
called_looks c id other s t told ne same (NoMemory needs answer state) = ap (λ (x : Session). look other x.table.entries) state

beside : (c : Call) (id other : ℕ) (s t : Session) (told : Reply) → t.status ≡ s.status → other ≢ id → OthersSame id s (outcome c s).next → CallGives s c told t → EndsNone other s t
beside c id other s t told status ne same g = ends_same other s t status (called_looks c id other s t told ne same g)

other_than : (id on other : ℕ) → (on == id) ≡ true → nat_eq id other ≡ false → other ≢ on
other_than id on other own ne = grind (arith, nat_tests)

pub reset_beside : (id other : ℕ) (told : Reply) (s t : Session) → Gives in_turn s (event.Call (call.Reset id)) told t → nat_eq id other ≡ false → EndsNone other s t
reset_beside id other told s t g ne = beside (call.Reset id) id other s t told (steady_status (event.Call (call.Reset id)) told s t refl g) (other_than id id other (is_self id) ne) (reset-others id s) g
  where
    is_self : (n : ℕ) → (n == n) ≡ true
    is_self n = grind (arith, nat_tests)

beside_at : (id other : ℕ) (e : Event) (told : Reply) (s t : Session) → is_of_turn id e ≡ true → nat_eq id other ≡ false → Gives in_turn s e told t → EndsNone other s t
beside_at id other (event.Call (call.Write on bytes)) told s t own ne g = beside (call.Write on bytes) on other s t told (steady_status (event.Call (call.Write on bytes)) told s t refl g) (other_than id on other own ne) (write-others on bytes s) g
beside_at id other (event.Call (call.Read on max)) told s t own ne g = beside (call.Read on max) on other s t told (steady_status (event.Call (call.Read on max)) told s t refl g) (other_than id on other own ne) (read-others on max s) g
beside_at id other (event.Call (call.Finish on)) told s t own ne g = beside (call.Finish on) on other s t told (steady_status (event.Call (call.Finish on)) told s t refl g) (other_than id on other own ne) (finish-others on s) g
beside_at id other (event.Call (call.Reset on)) told s t own ne g = beside (call.Reset on) on other s t told (steady_status (event.Call (call.Reset on)) told s t refl g) (other_than id on other own ne) (reset-others on s) g
beside_at id other (event.Call call.Open) told s t own ne g = cc
beside_at id other (event.Call (call.OpenWith bytes)) told s t own ne g = cc
beside_at id other (event.Call call.Accept) told s t own ne g = cc
beside_at id other (event.Call (call.Forget on)) told s t own ne g = cc
beside_at id other (event.Call call.Ping) told s t own ne g = cc
beside_at id other (event.Call (call.Ponged n)) told s t own ne g = cc
beside_at id other (event.Call call.GoAway) told s t own ne g = cc
beside_at id other (event.Call call.Close) told s t own ne g = cc
beside_at id other (event.Feed bytes) told s t own ne g = cc
beside_at id other event.FeedEnd told s t own ne g = cc
beside_at id other (event.Emit room) told s t own ne g = flows_end in_turn g.0 s t g.2.flows other

pub turn_beside : (id other : ℕ) (es : List (Event × Reply)) (s t : Session) → Happen es s t → list_all (λ (e : Event × Reply). is_of_turn id e.0) es ≡ true → nat_eq id other ≡ false → EndsNone other s t
turn_beside id other [] s t h own ne = subst (EndsNone other s) (sym h) (none_end s other)
turn_beside id other (e ∷ es) s t h own ne =
    let two = both_of (is_of_turn id e.0) (list_all (λ (x : Event × Reply). is_of_turn id x.0) es) own in
    ends_then other s h.0 t (beside_at id other e.0 e.1 s h.0 two.0 ne h.1) (turn_beside id other es h.0 t h.2 two.1 ne)

-- ---- a stream of which bytes wait

read_shut : (id n : ℕ) (lost : Bool) (ps : List (ℕ × End)) → shut lost (look id (change id (end_read n) ps)) ≡ shut lost (look id ps)
read_shut id n lost ps = ap (shut lost) (look-change_same id (end_read n) ps) ∙ by (look id ps)
  where
    by : (o : Option End) → shut lost (option_map (end_read n) o) ≡ shut lost o
    by None = refl
    by (Some e) = refl

-- a read stops no writes
abbrev StopsNone : ℕ → Session → Session → Type 0
StopsNone id s t = is_stopped id t ≡ true → is_stopped id s ≡ true

read_stops : (id max : ℕ) (s : Session) → StopsNone id s (outcome (call.Read id max) s).next
read_stops id max s = with-keeps (StopsNone id s) id (read_outcome id max s) s (λ h. h) (λ e l.
    split (StopsNone id s) (bytes_moved (read_reply (is_lost s.status) max e.phase e.reader.unread e.reader.ended) == 0) s (on_stream id (end_read max) s) (λ t h. h) (λ n h.
    stopped_at (is_closed s.status) (look id s.table.entries) id s ∙ ap (λ (b : Bool). is_closed s.status || b) (sym (read_shut id max (is_lost s.status) s.table.entries)) ∙ sym (stopped_at (is_closed s.status) (look id (change id (end_read max) s.table.entries)) id (on_stream id (end_read max) s)) ∙ h))

pub read_goes : (id max : ℕ) (told : Reply) (s t : Session) → CallGives s (call.Read id max) told t → is_stopped id t ≡ true → is_stopped id s ≡ true
read_goes id max told s t (HasOutcome answer state) h = read_stops id max s (ap (λ (x : Session). is_stopped id x) (sym state) ∙ h)
read_goes id max told s t (NoMemory needs answer state) h = ap (λ (x : Session). is_stopped id x) (sym state) ∙ h

live_goes : (p : Phase) (finished : Bool) (unread : List ℕ) (r : Reply) → is_stop r ≡ false → 0 < length (if is_some (if is_reset p then Some fault.Reset else if not (is_live p) then Some fault.NoStream else None) then [] else unread) → is_stop (unless_refused true false p finished r) ≡ false
live_goes Unborn finished unread r none some = absurd (omega (arith, some))
live_goes Offered finished unread r none some = absurd (omega (arith, some))
live_goes Live true unread r none some = refl
live_goes Live false unread r none some = none
live_goes WasReset finished unread r none some = absurd (omega (arith, some))
live_goes Refused finished unread r none some = absurd (omega (arith, some))
live_goes Lingering finished unread r none some = absurd (omega (arith, some))
live_goes Gone finished unread r none some = absurd (omega (arith, some))

some_goes : (closed lost : Bool) (o : Option End) → lost ≡ false → 0 < length (if is_some (if closed then Some fault.Closed else end_fault o) then [] else unread_of o) → (closed || shut lost o) ≡ false
some_goes true lost o runs some = absurd (omega (arith, some))
some_goes false lost None runs some = absurd (omega (arith, some))
some_goes false true (Some e) runs some = cc
some_goes false false (Some e) runs some = live_goes e.phase e.writer.finished e.reader.unread (reply.Wrote _) refl some

never_lost : (st : Status) → is_running st ≡ true → is_lost st ≡ false
never_lost status.Running h = refl
never_lost status.Lost h = cc
never_lost (status.Broken f) h = cc
never_lost status.Closed h = cc

-- in a session that runs it takes bytes, or was finished here
pub waiting_goes : (id : ℕ) (s : Session) → 0 < length (waiting id s) → is_running s.status ≡ true → is_stopped id s ≡ false
waiting_goes id s some runs = stopped_at (is_closed s.status) (look id s.table.entries) id s ∙ some_goes (is_closed s.status) (is_lost s.status) (look id s.table.entries) (never_lost s.status runs) some
