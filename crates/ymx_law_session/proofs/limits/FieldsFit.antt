-- Every event keeps the numbers of a session within the fields of a header.
use Rattle.std.proofs.Common.{◌≡◌, inl, inr, ℕ, zero, suc, ◌+◌, ◌-◌, ◌*◌, ◌^◌, ◌<◌, List, [], ◌∷◌, ◌++◌, length, take, get_or, Bool, true, false, not, ◌&&◌, ◌||◌, ◌==◌, nat_lt, nat_le, if◌then◌else◌, Option, None, Some, refl, sym, ◌∙◌, subst, arith}
use Rattle.std.specs.Prelude.{All}
use Rattle.std.proofs.lemmas.Grind.{common_steps}
use Rattle.std.proofs.lemmas.Bool.Decides.{nat_tests}
use Rattle.std.proofs.lemmas.List.Elements.{All-nil, All-cons, All-head, All-tail, All-push, All-take}
use Rattle.ymx_header.specs.declared.header.Header.{Header}
use Rattle.ymx_header.specs.Headers.{header_of, has_syn, has_fin, has_rst}
use Rattle.ymx_machine.specs.shared.Events.{Call}
use Rattle.ymx_machine.specs.declared.types.Call.TheVariants as call
use Rattle.ymx_model.specs.declared.types.Entry.{Entry}
use Rattle.ymx_model.specs.session.Events.{Event}
use Rattle.ymx_model.specs.declared.types.Event.TheVariants as event
use Rattle.ymx_model.specs.declared.types.PingStage.{PingStage}
use Rattle.ymx_model.specs.declared.types.PingStage.TheVariants.{Asked, Sent, Back}
use Rattle.ymx_machine.specs.shared.Events.{Reply}
use Rattle.ymx_model.specs.declared.types.Response.{Response}
use Rattle.ymx_model.specs.declared.types.Response.TheVariants.{Pong, Reject}
use Rattle.ymx_model.specs.declared.types.Role.{Role}
use Rattle.ymx_machine.specs.shared.Limits.{first_credit, most_pings}
use Rattle.ymx_machine.specs.shared.Phases.{is_offered}
use Rattle.ymx_model.specs.session.Records.{End, end_accept, receive_rst, receive_piece}
use Rattle.ymx_model.specs.declared.types.FrameKind.{FrameKind}
use Rattle.ymx_model.specs.session.FramesDue.{next_kind, begin_frame, spelled}
use Rattle.ymx_model.specs.session.Pings.{Ping, is_pending, has_back, has_asked, staged, without_ping, number_after, free_from, next_number, ask, begin_ping}
use Rattle.ymx_model.specs.session.GoAway.{away_due, begin_away}
use Rattle.ymx_machine.specs.shared.Lists.{look, change, without, drop_id}
use Rattle.ymx_model.specs.session.Tables.{insert_record, remove_record, with_record, pass_turn}
use Rattle.ymx_model.specs.session.Sessions.{Session, Incoming, new_session, nothing_outgoing, is_running, is_lost, is_closed, is_broken, is_deaf, is_own, is_spent, on_stream, reap}
use Rattle.ymx_model.specs.session.Sessions.Incoming.{Head, Payload}
use Rattle.ymx_model.specs.session.Calls.{Outcome, outcome, accept, accept_of, session_opened}
use Rattle.ymx_model.specs.session.Arrivals.{head_comes, piece_comes, ping_comes, go_away_comes, syn_comes, meets, meets_some, reset_comes, expects, answers_with, acknowledges, take_head, payload, is_data, record_fault, header_fault, syn_fault, session_refuses, offer}
use Rattle.ymx_model.specs.session.Feeds.{Takes, byte_comes, byte_in}
use Rattle.ymx_model.specs.session.Emissions.{Choice, begin, begin_answer, begin_stream, begin_kind, begins, error_frame, go_away_frame, answer_frame, ping_frame, moves_on, reaps, Ready, Flows}
use Rattle.ymx_model.specs.session.Emissions.Choice.{TheErrorDue, TheGoAway, TheAnswer, ThePing, AStream}
use Rattle.ymx_model.specs.session.Histories.{CallGives, Gives, ReplaysFrom}
use Rattle.ymx_model.specs.session.Histories.CallGives.{Outcome as HasOutcome, NoMemory}
use Rattle.ymx_law_session.specs.Limits.{IsWithin, is_listed, is_offered_at}
use Rattle.ymx_law_session.specs.Fields.{Fits, IsByte, IdFits, PingFits, ResponseFits, IncomingFits, PartsFit, NumbersFit, HalvesFit, FeedsBytes}
use Rattle.ymx_machine.proofs.Tests.{split, agrees}
use Rattle.ymx_law_session.proofs.limits.CallsKeep.{open_or-keeps}
use Rattle.ymx_law_session.proofs.nothing_else.StreamCalls.{StaysAt, write-stays, read-stays, finish-stays, reset-stays, forget-stays}
use Rattle.ymx_law_session.proofs.limits.FramesKeep.{unless_fault-keeps}
use Rattle.ymx_law_session.proofs.limits.EmissionsKeep.{some_if, none_if, if_some}
use Rattle.ymx_law_session.proofs.limits.HistoriesKeep.{gives-keep}

-- ---- the ids of the records

abbrev IdsFit : List (ℕ × End) → Type 0
IdsFit ps = All IdFits ps

ids-change : (id : ℕ) (f : End → End) (ps : List (ℕ × End)) → IdsFit ps → IdsFit (change id f ps)
ids-change id f [] h = h
ids-change id f (p ∷ ps) h =
    split IdsFit (p.0 == id) ((p.0, f p.1) ∷ ps) (p ∷ change id f ps)
    (λ t. All-cons IdFits (p.0, f p.1) ps (All-head IdFits p ps h) (All-tail IdFits p ps h))
    (λ n. All-cons IdFits p (change id f ps) (All-head IdFits p ps h) (ids-change id f ps (All-tail IdFits p ps h)))

ids-without : (id : ℕ) (ps : List (ℕ × End)) → IdsFit ps → IdsFit (without id ps)
ids-without id [] h = h
ids-without id (p ∷ ps) h =
    split IdsFit (p.0 == id) ps (p ∷ without id ps) (λ t. All-tail IdFits p ps h)
    (λ n. All-cons IdFits p (without id ps) (All-head IdFits p ps h) (ids-without id ps (All-tail IdFits p ps h)))

pub id-fits : (id : ℕ) (e : End) (ps : List (ℕ × End)) → look id ps ≡ Some e → IdsFit ps → Fits id
id-fits id e [] l h = cc
id-fits id e (p ∷ ps) l h =
    split (λ o. o ≡ Some e → Fits id) (p.0 == id) (Some p.1) (look id ps)
    (λ t m. subst Fits (agrees p.0 id t) (All-head IdFits p ps h))
    (λ n m. id-fits id e ps m (All-tail IdFits p ps h)) l

on_stream-fits : (id : ℕ) (f : End → End) (s : Session) → NumbersFit s → NumbersFit (on_stream id f s)
on_stream-fits id f s h = record { ids = ids-change id f s.table.entries h.ids; answers = h.answers; pings = h.pings; incoming = h.incoming }

removed-fits : (id : ℕ) (s : Session) → NumbersFit s → NumbersFit (record s { table = remove_record id s.table })
removed-fits id s h = record { ids = ids-without id s.table.entries h.ids; answers = h.answers; pings = h.pings; incoming = h.incoming }

reaped-fits : (id : ℕ) (s : Session) → NumbersFit s → NumbersFit (reap id s)
reaped-fits id s h =
    split NumbersFit (is_spent s.table.window s.outgoing id (look id s.table.entries)) (record s { table = remove_record id s.table }) s (λ t. removed-fits id s h) (λ n. h)

fit-stays : (id : ℕ) (s : Session) → NumbersFit s → StaysAt NumbersFit id s
fit-stays id s h = record { now = h; changed = λ f. on_stream-fits id f s h; gone = λ f. reaped-fits id (on_stream id f s) (on_stream-fits id f s h) }

-- ---- the numbers of the pings

abbrev PingsFit : List Ping → Type 0
PingsFit ps = All PingFits ps

pings-staged : (stage : PingStage) (n : ℕ) (ps : List Ping) → PingsFit ps → PingsFit (staged stage n ps)
pings-staged stage n [] h = h
pings-staged stage n (p ∷ ps) h =
    split PingsFit (p.number == n) (record { number = p.number; stage = stage } ∷ ps) (p ∷ staged stage n ps)
    (λ t. All-cons PingFits (record { number = p.number; stage = stage }) ps (All-head PingFits p ps h) (All-tail PingFits p ps h))
    (λ t. All-cons PingFits p (staged stage n ps) (All-head PingFits p ps h) (pings-staged stage n ps (All-tail PingFits p ps h)))

pings-without : (n : ℕ) (ps : List Ping) → PingsFit ps → PingsFit (without_ping n ps)
pings-without n [] h = h
pings-without n (p ∷ ps) h =
    split PingsFit (p.number == n) ps (p ∷ without_ping n ps) (λ t. All-tail PingFits p ps h)
    (λ t. All-cons PingFits p (without_ping n ps) (All-head PingFits p ps h) (pings-without n ps (All-tail PingFits p ps h)))

free-fits : (tries n : ℕ) (ps : List Ping) → Fits n → free_from tries n ps < 2 ^ 32
free-fits zero n ps l = l
free-fits (suc tries) n ps l =
    split Fits (is_pending n ps) (free_from tries (number_after n) ps) n (λ t. free-fits tries (number_after n) ps (omega arith)) (λ t. l)

pings-fit : (ps : List Ping) (s : Session) → PingsFit ps → NumbersFit s → PartsFit s.table.entries s.answers ps s.incoming
pings-fit ps s p h = record { ids = h.ids; answers = h.answers; pings = p; incoming = h.incoming }

-- ---- calls

opened-fits : (with_data : Bool) (bytes : List ℕ) (s : Session) → s.next < 4294967294 → NumbersFit s → NumbersFit (session_opened with_data bytes s)
opened-fits with_data bytes s l h =
    record { ids = All-push IdFits s.table.entries _ h.ids (omega arith); answers = h.answers; pings = h.pings; incoming = h.incoming }

accept-fits : (s : Session) → NumbersFit s → NumbersFit (accept s).next
accept-fits s h =
    let Q : Outcome → Type 0 = λ x. NumbersFit x.next in
    split Q (is_closed s.status) _ _ (λ t. h) (λ f. of s.offered)
  where
    of : (ids : List ℕ) → NumbersFit (accept_of ids s).next
    of [] = let Q : Outcome → Type 0 = λ x. NumbersFit x.next in split Q (is_lost s.status) _ _ (λ t. h) (λ f. h)
    of (id ∷ ids) = on_stream-fits id (end_accept (is_lost s.status)) (record s { offered = ids }) h

pub call-fits : (c : Call) (s : Session) → IsWithin s → NumbersFit s → NumbersFit (outcome c s).next
call-fits call.Open s w h = open_or-keeps NumbersFit s _ h (λ l small few. opened-fits false [] s small h)
call-fits (call.OpenWith bytes) s w h = open_or-keeps NumbersFit s _ h (λ l small few. opened-fits true (take first_credit bytes) s small h)
call-fits call.Accept s w h = accept-fits s h
call-fits (call.Write id bytes) s w h = write-stays NumbersFit id bytes s (fit-stays id s h)
call-fits (call.Read id max) s w h = read-stays NumbersFit id max s (fit-stays id s h)
call-fits (call.Finish id) s w h = finish-stays NumbersFit id s (fit-stays id s h)
call-fits (call.Reset id) s w h = reset-stays NumbersFit id s (fit-stays id s h)
call-fits (call.Forget id) s w h = forget-stays NumbersFit id s (fit-stays id s h)
call-fits call.Ping s w h =
    let Q : Outcome → Type 0 = λ x. NumbersFit x.next in
    split Q (is_closed s.status) _ _ (λ t. h) (λ f. split Q (is_lost s.status) _ _ (λ t. h) (λ g.
    split Q (nat_le most_pings (length s.pings.pending)) _ _ (λ t. h)
    (λ k. pings-fit (ask s.pings).pending s (All-push PingFits s.pings.pending (record { number = next_number s.pings; stage = Asked }) h.pings (free-fits 17 s.pings.next s.pings.pending w.pings.next)) h)))
call-fits (call.Ponged n) s w h =
    let Q : Outcome → Type 0 = λ x. NumbersFit x.next in
    split Q (is_closed s.status) _ _ (λ t. h) (λ f. split Q (has_back n s.pings.pending) _ _ (λ t.
    pings-fit (without_ping n s.pings.pending) s (pings-without n s.pings.pending h.pings) h) (λ g. split Q (is_lost s.status) _ _ (λ t. h) (λ k. h)))
call-fits call.GoAway s w h =
    let Q : Outcome → Type 0 = λ x. NumbersFit x.next in split Q (is_closed s.status) _ _ (λ t. h) (λ f. split Q (is_lost s.status) _ _ (λ t. h) (λ g. h))
call-fits call.Close s w h = h

-- ---- frames that come

pub record HeaderFits (h : Header) : Type 0 where
  pub id : Fits h.id
  pub length : Fits h.length

answer-fits : (r : Response) (s : Session) → ResponseFits r → NumbersFit s → NumbersFit (answers_with r s)
answer-fits r s l w = record { ids = w.ids; answers = All-push ResponseFits s.answers r w.answers l; pings = w.pings; incoming = w.incoming }

payload-fits : (h : Header) → HeaderFits h → payload h < 2 ^ 32
payload-fits h f = split Fits (is_data h) h.length 0 (λ t. f.length) (λ t. omega arith)

expects-fits : (h : Header) (discarded : Bool) (s : Session) → HeaderFits h → NumbersFit s → NumbersFit (expects h discarded s)
expects-fits h discarded s f w =
    split NumbersFit (payload h == 0) s (record s { incoming = Payload h.id (payload h) (has_fin h) discarded }) (λ t. w)
    (λ n. record { ids = w.ids; answers = w.answers; pings = w.pings; incoming = (f.id, payload-fits h f) })

reset-fits : (id : ℕ) (e : End) (s : Session) → NumbersFit s → NumbersFit (reset_comes id e s)
reset-fits id e s w =
    split NumbersFit (is_offered e.phase) (record s { table = remove_record id s.table; offered = drop_id id s.offered }) (reap id (on_stream id receive_rst s))
    (λ t. removed-fits id (record s { offered = drop_id id s.offered }) w) (λ n. reaped-fits id _ (on_stream-fits id receive_rst s w))

meets-fits : (h : Header) (e : End) (s : Session) → HeaderFits h → NumbersFit s → NumbersFit (meets h e s)
meets-fits h e s f w =
    let acked = on_stream h.id (acknowledges (is_own s.role h.id) h) s in
    let headed = on_stream h.id (take_head (is_own s.role h.id) h) s in
    split NumbersFit (has_rst h) (expects h true (reset_comes h.id e acked)) (expects h false headed)
    (λ t. expects-fits h true (reset_comes h.id e acked) f (reset-fits h.id e acked (on_stream-fits h.id (acknowledges (is_own s.role h.id) h) s w)))
    (λ t. expects-fits h false headed f (on_stream-fits h.id (take_head (is_own s.role h.id) h) s w))

syn-fits : (no_memory : Bool) (h : Header) (s : Session) → HeaderFits h → NumbersFit s → NumbersFit (syn_comes no_memory h s)
syn-fits no_memory h s f w = unless_fault-keeps NumbersFit (syn_fault h s) s _ (λ fault. w) (λ none.
    let new = record s { table = insert_record h.id (offer s) s.table; offered = s.offered ++ h.id ∷ [] } in
    split NumbersFit (session_refuses s || no_memory) (expects h true (answers_with (Reject h.id) s)) (meets h (offer s) new)
    (λ t. expects-fits h true (answers_with (Reject h.id) s) f (answer-fits (Reject h.id) s f.id w))
    (λ t. meets-fits h (offer s) new f (record { ids = All-push IdFits s.table.entries (h.id, offer s) w.ids f.id; answers = w.answers; pings = w.pings; incoming = w.incoming })))

ping-fits : (h : Header) (s : Session) → HeaderFits h → NumbersFit s → NumbersFit (ping_comes h s)
ping-fits h s f w =
    split NumbersFit (has_syn h) _ _ (λ t. answer-fits (Pong h.length) s f.length w)
    (λ t. pings-fit (staged Back h.length s.pings.pending) s (pings-staged Back h.length s.pings.pending w.pings) w)

go_away-fits : (h : Header) (s : Session) → NumbersFit s → NumbersFit (go_away_comes h s)
go_away-fits h s w =
    split NumbersFit (nat_lt 2 h.length) _ _ (λ t. w) (λ a. split NumbersFit (h.length == 1) _ _ (λ t. w) (λ b. split NumbersFit (h.length == 2) _ _ (λ t. w) (λ c. w)))

pub head-fits : (no_memory : Bool) (h : Header) (s : Session) → HeaderFits h → NumbersFit s → NumbersFit (head_comes no_memory h s)
head-fits no_memory h s f w = unless_fault-keeps NumbersFit (header_fault h s) s _ (λ fault. w) (λ none.
    split NumbersFit (h.kind == 2) (ping_comes h s) _ (λ t. ping-fits h s f w) (λ a.
    split NumbersFit (h.kind == 3) (go_away_comes h s) _ (λ t. go_away-fits h s w) (λ b.
    split NumbersFit (has_syn h) (syn_comes no_memory h s) (meets_some h (look h.id s.table.entries) s) (λ t. syn-fits no_memory h s f w) (λ c.
    of (look h.id s.table.entries)))))
  where
    of : (o : Option End) → NumbersFit (meets_some h o s)
    of None = expects-fits h true s f w
    of (Some e) = unless_fault-keeps NumbersFit (record_fault h e) s (meets h e s) (λ fault. w) (λ n. meets-fits h e s f w)

pub piece-fits : (bytes : List ℕ) (id n : ℕ) (fin discarded : Bool) (s : Session) → Fits id → Fits n → NumbersFit s → NumbersFit (piece_comes bytes id n fin discarded s)
piece-fits bytes id n fin discarded s l m w =
    let more = nat_lt (length bytes) n in
    let t = record s { incoming = if more then Payload id (n - length bytes) fin discarded else Head [] } in
    let rest : n - length bytes < 2 ^ 32 = omega arith in
    let i : IncomingFits t.incoming = split IncomingFits more (Payload id (n - length bytes) fin discarded) (Head []) (λ q. (l, rest)) (λ q. All-nil IsByte) in
    let u : NumbersFit t = record { ids = w.ids; answers = w.answers; pings = w.pings; incoming = i } in
    split NumbersFit discarded t (on_stream id (receive_piece (fin && not more) bytes) t) (λ q. u) (λ q. on_stream-fits id (receive_piece (fin && not more) bytes) t u)

-- ---- bytes that come

abbrev AreBytes : List ℕ → Type 0
AreBytes bytes = All IsByte bytes

byte_at : (bytes : List ℕ) → AreBytes bytes → (k : ℕ) → get_or bytes k 0 < 256
byte_at bytes small k = grind (arith, common_steps)

four_fit : (a b c d : ℕ) → a < 256 → b < 256 → c < 256 → d < 256 → a * 256 ^ 3 + (b * 256 ^ 2 + (c * 256 ^ 1 + (d * 256 ^ 0 + 0))) < 2 ^ 32
four_fit a b c d p q r s = omega arith

pub header-fits : (bytes : List ℕ) → AreBytes bytes → HeaderFits (header_of bytes)
header-fits bytes small =
    let at = byte_at bytes small in record { id = four_fit _ _ _ _ (at 4) (at 5) (at 6) (at 7); length = four_fit _ _ _ _ (at 8) (at 9) (at 10) (at 11) }

in-fits : (no_memory : Bool) (b : ℕ) (s : Session) (i : Incoming) → b < 256 → IncomingFits i → NumbersFit s → NumbersFit (byte_in no_memory b s i)
in-fits no_memory b s (Head seen) l i w =
    let all : AreBytes (seen ++ b ∷ []) = All-push IsByte seen b i l in
    split NumbersFit (length seen == 11) (head_comes no_memory (header_of (seen ++ b ∷ [])) (record s { incoming = Head [] })) (record s { incoming = Head (seen ++ b ∷ []) })
    (λ t. head-fits no_memory (header_of (seen ++ b ∷ [])) (record s { incoming = Head [] }) (header-fits (seen ++ b ∷ []) all)
    (record { ids = w.ids; answers = w.answers; pings = w.pings; incoming = All-nil IsByte }))
    (λ t. record { ids = w.ids; answers = w.answers; pings = w.pings; incoming = all })
in-fits no_memory b s (Payload id n fin discarded) l i w = piece-fits (b ∷ []) id n fin discarded s i.0 i.1 w

pub byte-fits : (no_memory : Bool) (b : ℕ) (s : Session) → b < 256 → NumbersFit s → NumbersFit (byte_comes no_memory b s)
byte-fits no_memory b s l w = split NumbersFit (is_deaf s.status) s (byte_in no_memory b s s.incoming) (λ t. w) (λ d. in-fits no_memory b s s.incoming l w.incoming w)

pub takes-fit : (bytes : List ℕ) (s t : Session) (starved : ℕ) → AreBytes bytes → Takes bytes s t starved → NumbersFit s → NumbersFit t
takes-fit [] s t starved a p w = subst NumbersFit (sym p.0) w
takes-fit (b ∷ bytes) s t starved a (no_memory, more, free, e, p) w =
    takes-fit bytes (byte_comes no_memory b s) t more (All-tail IsByte b bytes a) p (byte-fits no_memory b s (All-head IsByte b bytes a) w)

-- ---- bytes that go out

kind-fits : (id limit : ℕ) (e : End) (k : Option FrameKind) (s t : Session) → begin_kind id limit e k s ≡ Some t → NumbersFit s → NumbersFit t
kind-fits id limit e None s t b w = cc
kind-fits id limit e (Some kind) s t b w =
    let u = record s {
      table = pass_turn id (with_record id (begin_frame s.table.window limit kind) s.table);
      outgoing = record { bytes = spelled kind s.table.window limit id e; of = Some id };
    } in
    let is : t ≡ u = cc in
    let v : NumbersFit u = record { ids = ids-change id (begin_frame s.table.window limit kind) s.table.entries w.ids; answers = w.answers; pings = w.pings; incoming = w.incoming } in
    subst NumbersFit (sym is) v

stream-fits : (id limit : ℕ) (o : Option End) (s t : Session) → begin_stream id limit o s ≡ Some t → NumbersFit s → NumbersFit t
stream-fits id limit None s t b w = cc
stream-fits id limit (Some e) s t b w =
    kind-fits id limit e (next_kind s.table.window e) s t (none_if (limit == 0 || nat_lt first_credit limit) (begin_kind id limit e (next_kind s.table.window e) s) t b).1 w

begin_answer-fits : (xs : List Response) (s t : Session) → All ResponseFits xs → begin_answer xs s ≡ Some t → NumbersFit s → NumbersFit t
begin_answer-fits [] s t a b w = cc
begin_answer-fits (r ∷ more) s t a b w =
    let is : t ≡ begins (answer_frame r) (record s { answers = more }) = cc in
    let v : NumbersFit (begins (answer_frame r) (record s { answers = more })) = record { ids = w.ids; answers = All-tail ResponseFits r more a; pings = w.pings; incoming = w.incoming } in
    subst NumbersFit (sym is) v

pub begin-fits : (c : Choice) (s t : Session) → begin c s ≡ Some t → NumbersFit s → NumbersFit t
begin-fits TheErrorDue s t b w =
    subst NumbersFit (sym (some_if (s.error_due && is_broken s.status) (begins error_frame (record s { error_due = false })) t b).1) w
begin-fits TheGoAway s t b w =
    subst NumbersFit (sym (some_if (is_running s.status && away_due s.away.here) (begins go_away_frame (record s { away = begin_away s.away })) t b).1) w
begin-fits TheAnswer s t b w = begin_answer-fits s.answers s t w.answers (if_some (is_running s.status) (begin_answer s.answers s) t b).1 w
begin-fits (ThePing n) s t b w =
    let u = begins (ping_frame n) (record s { pings = begin_ping n s.pings }) in
    let v : NumbersFit u = pings-fit (staged Sent n s.pings.pending) s (pings-staged Sent n s.pings.pending w.pings) w in
    subst NumbersFit (sym (some_if (is_running s.status && has_asked n s.pings.pending) u t b).1) v
begin-fits (AStream id limit) s t b w =
    stream-fits id limit (look id s.table.entries) s t (if_some (is_running s.status) (begin_stream id limit (look id s.table.entries) s) t b).1 w

reaps-fits : (of : Option ℕ) (s : Session) → NumbersFit s → NumbersFit (reaps of s)
reaps-fits None s w = w
reaps-fits (Some id) s w = reaped-fits id s w

pub moves-fit : (n : ℕ) (s : Session) → NumbersFit s → NumbersFit (moves_on n s)
moves-fit n s w = split NumbersFit (nat_lt n (length s.outgoing.bytes)) _ _ (λ t. w) (λ f. reaps-fits s.outgoing.of (record s { outgoing = nothing_outgoing }) w)

ready-fits : (may : Choice → Session → Bool) (s t : Session) → Ready may s t → NumbersFit s → NumbersFit t
ready-fits may s t (inl h) w = subst NumbersFit (sym h.1) w
ready-fits may s t (inr (e, (c, ok, b))) w = begin-fits c s t b w

pub flows-fit : (may : Choice → Session → Bool) (bytes : List ℕ) (s t : Session) → Flows may bytes s t → NumbersFit s → NumbersFit t
flows-fit may [] s t e w = subst NumbersFit (sym e) w
flows-fit may (b ∷ bytes) s t (ready, r, first, p) w = flows-fit may bytes (moves_on 1 ready) t p (moves-fit 1 ready (ready-fits may s ready r w))

-- ---- any event

pub new-fits : (role : Role) (window first : ℕ) → NumbersFit (new_session role window first)
new-fits role window first = record { ids = All-nil IdFits; answers = All-nil ResponseFits; pings = All-nil PingFits; incoming = All-nil IsByte }

call_gives-fits : (s t : Session) (c : Call) (reply : Reply) → CallGives s c reply t → IsWithin s → NumbersFit s → NumbersFit t
call_gives-fits s t c reply (HasOutcome answer state) w h = subst NumbersFit (sym state) (call-fits c s w h)
call_gives-fits s t c reply (NoMemory needs answer state) w h = subst NumbersFit (sym state) h

pub gives-fit : (may : Choice → Session → Bool) (s t : Session) (ev : Event) (reply : Reply) → FeedsBytes ev → Gives may s ev reply t → IsWithin s → NumbersFit s → NumbersFit t
gives-fit may s t (event.Call c) reply a g w h = call_gives-fits s t c reply g w h
gives-fit may s t (event.Feed bytes) reply a g w h =
    let f = g.2 in takes-fit (take g.0.taken bytes) s t f.took.0 (All-take IsByte g.0.taken bytes a) f.took.1 h
gives-fit may s t event.FeedEnd reply a g w h = subst NumbersFit (sym g.1) h
gives-fit may s t (event.Emit room) reply a g w h = flows-fit may g.0 s t g.2.flows h

pub replays-fit : (may : Choice → Session → Bool) (at : ℕ) (entries : List Entry) (s t : Session) → All (λ entry. FeedsBytes entry.event) entries →
    ReplaysFrom may at entries s t → IsWithin s → NumbersFit s → NumbersFit t
replays-fit may at [] s t a e w h = subst NumbersFit (sym e) h
replays-fit may at (entry ∷ entries) s t a (position, (next, g, p)) w h =
    replays-fit may (at + 1) entries next t (All-tail (λ entry. FeedsBytes entry.event) entry entries a) p (gives-keep may s next entry.event entry.reply g w)
    (gives-fit may s next entry.event entry.reply (All-head (λ entry. FeedsBytes entry.event) entry entries a) g w h)

-- ---- what follows

pub halves-fit : (id : ℕ) (s : Session) (e : End) → IsWithin s → look id s.table.entries ≡ Some e → HalvesFit e
halves-fit id s e w l =
    let r = w.table.records id e l in
    record { credit = omega (arith, r.credit); granted = omega (arith, r.within, w.table.widest); owed = omega (arith, r.within, w.table.widest) }

listed-all : (xs : List ℕ) → ((id : ℕ) → is_listed id xs ≡ true → Fits id) → All Fits xs
listed-all [] k = All-nil Fits
listed-all (x ∷ xs) k = All-cons Fits x xs (k x (grind (arith, nat_tests))) (listed-all xs (λ id l. k id (grind (arith, nat_tests))))

offered-some : (o : Option End) → is_offered_at o ≡ true → (e : End) × (o ≡ Some e)
offered-some None t = cc
offered-some (Some e) t = (e, refl)

pub offered-fit : (s : Session) → IsWithin s → NumbersFit s → All Fits s.offered
offered-fit s w h = listed-all s.offered (λ id l.
    let e = offered-some (look id s.table.entries) (sym (w.offered.listed id) ∙ l) in id-fits id e.0 s.table.entries e.1 h.ids)
