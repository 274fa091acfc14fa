-- Frames that come and bytes that go out leave no spent record.
use Rattle.std.proofs.Common.{◌≡◌, ◌≢◌, ◌⊎◌, inl, inr, ℕ, zero, suc, ◌+◌, ◌<◌, List, [], ◌∷◌, ◌++◌, length, drop, Bool, true, false, not, ◌&&◌, ◌||◌, ◌==◌, nat_lt, Option, None, Some, refl, sym, ap, ◌∙◌, subst, arith}
use Rattle.std.specs.Prelude.{is_some}
use Rattle.std.proofs.lemmas.Bool.Decides.{nat_tests}
use Rattle.ymx_header.specs.declared.header.Header.{Header}
use Rattle.ymx_header.specs.declared.fault.Fault.{Fault}
use Rattle.ymx_header.specs.Headers.{header_of, has_syn, has_ack, has_fin, has_rst}
use Rattle.ymx_model.specs.declared.types.Status.{Status}
use Rattle.ymx_model.specs.declared.types.Status.TheVariants.{Running, Lost, Broken, Closed}
use Rattle.ymx_model.specs.declared.types.Response.{Response}
use Rattle.ymx_model.specs.declared.types.Response.TheVariants.{Pong, Reject}
use Rattle.ymx_model.specs.session.Events.{Event}
use Rattle.ymx_model.specs.declared.types.Event.TheVariants as event
use Rattle.ymx_model.specs.declared.types.Entry.{Entry}
use Rattle.ymx_machine.specs.shared.Events.{Reply}
use Rattle.ymx_machine.specs.shared.Events.{Call}
use Rattle.ymx_model.specs.declared.types.Role.{Role}
use Rattle.ymx_machine.specs.shared.Limits.{first_credit}
use Rattle.ymx_machine.specs.shared.Phases.{Phase, is_offered, is_lingering, takes}
use Rattle.ymx_model.specs.session.Records.{End, takes_payload, receive_data, receive_credit, receive_fin, receive_ack, receive_rst, receive_piece}
use Rattle.ymx_model.specs.declared.types.FrameKind.{FrameKind}
use Rattle.ymx_model.specs.session.FramesDue.{is_due, is_empty, begin_frame, spelled, next_kind}
use Rattle.ymx_model.specs.session.Pings.{receive_answer, has_asked, begin_ping, first_asked}
use Rattle.ymx_model.specs.session.GoAway.{away_due, begin_away}
use Rattle.ymx_machine.specs.shared.Lists.{look, change, Distinct, drop_id}
use Rattle.ymx_model.specs.session.Tables.{insert_record, remove_record, with_record, pass_turn}
use Rattle.ymx_model.specs.session.Sessions.{Session, Incoming, new_session, nothing_outgoing, is_own, belongs_to, is_closed, is_deaf, is_running, is_broken, is_spent, on_stream, reap, breaks}
use Rattle.ymx_model.specs.session.Sessions.Incoming.{Head, Payload}
use Rattle.ymx_model.specs.session.Calls.{status_input_ends}
use Rattle.ymx_model.specs.session.Arrivals.{answers_with, ping_comes, go_away_comes, payload, delta, expects, record_fault, reset_comes, ends_now, acknowledges, take_head, meets, meets_some, offer, session_refuses, syn_fault, syn_comes, header_fault, head_comes, piece_comes}
use Rattle.ymx_model.specs.session.Feeds.{Takes, byte_comes, byte_in}
use Rattle.ymx_model.specs.session.Emissions.{Choice, begin, begin_answer, begin_stream, begin_kind, begins, error_frame, go_away_frame, answer_frame, ping_frame, moves_on, reaps, Ready, Flows, is_ready, no_answers}
use Rattle.ymx_model.specs.session.Emissions.Choice.{TheErrorDue, TheGoAway, TheAnswer, ThePing, AStream}
use Rattle.ymx_model.specs.session.Histories.{CallGives, Gives, ReplaysFrom}
use Rattle.ymx_model.specs.session.Histories.CallGives.{Outcome, NoMemory}
use Rattle.ymx_law_session.specs.Limits.{IsWithin}
use Rattle.ymx_law_session.specs.Reaped.{IsReaped, NoneLingers}
use Rattle.ymx_machine.proofs.Tests.{split, both_of, none_of, same_or_not, or_true, one_some}
use Rattle.ymx_machine.proofs.Lists.{look-change_other, look-without_before, distinct-change, distinct-added}
use Rattle.ymx_law_session.proofs.limits.FramesKeep.{unless_fault-keeps, none_of_look, syn_chain}
use Rattle.ymx_law_session.proofs.limits.FeedsKeep.{byte-keeps}
use Rattle.ymx_law_session.proofs.limits.HistoriesKeep.{gives-keep}
use Rattle.ymx_law_session.proofs.limits.EmissionsKeep.{some_if, none_if, if_some, ready-keeps, moves-keep}
use Rattle.ymx_law_session.proofs.due.Ready.{any-of, begin-has}
use Rattle.ymx_law_session.proofs.given_up.Reaped.{Stays, reaped-on, others-kept, reaped-reaped, added-reaped, same-reaped, call-reaped}

-- ---- what comes to a record

-- the phase is as it was, and so is what is due of a record that takes nothing
abbrev Even : (window : ℕ) → (e x : End) → Type 0
Even window e x = (x.phase ≡ e.phase) × (takes e.phase ≡ false → is_due window x ≡ is_due window e)

even-ack : (window : ℕ) (own : Bool) (h : Header) (e : End) → Even window e (acknowledges own h e)
even-ack window own h e = split (Even window e) (has_ack h && own) (receive_ack e) e (λ t. (refl, λ k. refl)) (λ f. (refl, λ k. refl))

even-credit : (window d : ℕ) (e x : End) → Even window e x → Even window e (receive_credit d x)
even-credit window d e x p = split (Even window e) (takes x.phase) _ x (λ t. (p.0, λ k. let z : takes x.phase ≡ false = rw p.0 k in absurd cc)) (λ f. p)

even-data : (window : ℕ) (bytes : List ℕ) (e x : End) → Even window e x → Even window e (receive_data bytes x)
even-data window bytes e x p =
    split (Even window e) (takes_payload x) _ x (λ t. (p.0, λ k. let z : takes x.phase ≡ false = rw p.0 k in let y = (both_of (takes x.phase) _ t).0 in absurd cc)) (λ f. p)

even-fin : (window : ℕ) (e x : End) → Even window e x → Even window e (receive_fin x)
even-fin window e x p =
    split (Even window e) (takes_payload x) _ x (λ t. (p.0, λ k. let z : takes x.phase ≡ false = rw p.0 k in let y = (both_of (takes x.phase) _ t).0 in absurd cc)) (λ f. p)

even-head : (window : ℕ) (own : Bool) (h : Header) (e : End) → Even window e (take_head own h e)
even-head window own h e =
    let c = even-credit window (delta h) e (acknowledges own h e) (even-ack window own h e) in
    split (Even window e) (ends_now h) (receive_fin (receive_credit (delta h) (acknowledges own h e))) (receive_credit (delta h) (acknowledges own h e)) (λ t. even-fin window e _ c) (λ f. c)

even-piece : (window : ℕ) (fin : Bool) (bytes : List ℕ) (e : End) → Even window e (receive_piece fin bytes e)
even-piece window true bytes e = even-fin window e _ (even-data window bytes e e (refl, λ k. refl))
even-piece window false bytes e = even-data window bytes e e (refl, λ k. refl)

lingering_takes : (p : Phase) → (is_lingering p ≡ false) ⊎ (takes p ≡ false)
lingering_takes p = grind arith

even-stays : (window : ℕ) (f : End → End) (e : End) → Even window e (f e) → Stays window f e
even-stays window f e p = of (lingering_takes e.phase)
  where
    of : (is_lingering e.phase ≡ false) ⊎ (takes e.phase ≡ false) → Stays window f e
    of (inl n) = inl (ap is_lingering p.0 ∙ n)
    of (inr t) = inr (ap is_lingering p.0, p.1 t)

-- ---- heads

broken-reaped : (f : Fault) (s : Session) → is_closed s.status ≡ false → IsReaped s → IsReaped (breaks f s)
broken-reaped f s open_ h = record { none_spent = λ c. h.none_spent open_; none_begun = h.none_begun }

expects-reaped : (h : Header) (discarded : Bool) (s : Session) → IsReaped s → IsReaped (expects h discarded s)
expects-reaped h discarded s k =
    split IsReaped (payload h == 0) s (record s { incoming = Payload h.id (payload h) (has_fin h) discarded }) (λ t. k) (λ f. same-reaped s _ refl refl refl k)

reset-reaped : (id : ℕ) (e : End) (s : Session) → Distinct s.table.entries → IsReaped s → IsReaped (reset_comes id e s)
reset-reaped id e s d h =
    split IsReaped (is_offered e.phase) (record s { table = remove_record id s.table; offered = drop_id id s.offered }) (reap id (on_stream id receive_rst s))
    (λ t. record { none_spent = λ c j x l. h.none_spent c j x (look-without_before id j x s.table.entries d l).1; none_begun = h.none_begun })
    (λ f. reaped-reaped id (on_stream id receive_rst s) (distinct-change id receive_rst s.table.entries d) (others-kept id receive_rst s h) h.none_begun)

meets-reaped : (h : Header) (e : End) (s : Session) → Distinct s.table.entries → IsReaped s → IsReaped (meets h e s)
meets-reaped h e s d k =
    let own = is_own s.role h.id in
    split IsReaped (has_rst h) (expects h true (reset_comes h.id e (on_stream h.id (acknowledges own h) s))) (expects h false (on_stream h.id (take_head own h) s))
    (λ r. expects-reaped h true _ (reset-reaped h.id e (on_stream h.id (acknowledges own h) s) (distinct-change h.id (acknowledges own h) s.table.entries d)
    (reaped-on h.id (acknowledges own h) s (λ x l. even-stays s.table.window (acknowledges own h) x (even-ack s.table.window own h x)) k)))
    (λ r. expects-reaped h false _ (reaped-on h.id (take_head own h) s (λ x l. even-stays s.table.window (take_head own h) x (even-head s.table.window own h x)) k))

head-reaped : (no_memory : Bool) (h : Header) (s : Session) → is_closed s.status ≡ false → Distinct s.table.entries → IsReaped s → IsReaped (head_comes no_memory h s)
head-reaped no_memory h s open_ d k =
    let P = IsReaped in
    unless_fault-keeps P (header_fault h s) s _ (λ f. broken-reaped f s open_ k) (λ none.
    split P (h.kind == 2) (ping_comes h s) _ (λ t. split P (has_syn h) (answers_with (Pong h.length) s) (record s { pings = receive_answer h.length s.pings }) (λ e. same-reaped s _ refl refl refl k) (λ e. same-reaped s _ refl refl refl k)) (λ a.
    split P (h.kind == 3) (go_away_comes h s) _ (λ t. split P (nat_lt 2 h.length) _ _ (λ e. broken-reaped _ s open_ k) (λ e. split P (h.length == 1) _ _ (λ e. broken-reaped _ s open_ k) (λ e. split P (h.length == 2) _ _ (λ e. broken-reaped _ s open_ k) (λ e. same-reaped s _ refl refl refl k)))) (λ b.
    split P (has_syn h) (syn_comes no_memory h s) (meets_some h (look h.id s.table.entries) s)
    (λ t. unless_fault-keeps P (syn_fault h s) s _ (λ f. broken-reaped f s open_ k) (λ n0.
    let free = none_of_look (look h.id s.table.entries) (syn_chain _ _ _ _ _ n0).1 in
    split P (session_refuses s || no_memory) _ _ (λ e. expects-reaped h true (answers_with (Reject h.id) s) (same-reaped s _ refl refl refl k))
    (λ e. let t = record s { table = insert_record h.id (offer s) s.table; offered = s.offered ++ h.id ∷ [] } in
    meets-reaped h (offer s) t (distinct-added h.id (offer s) s.table.entries free d) (added-reaped h.id (offer s) s t refl refl refl refl refl k))))
    (λ t. of (look h.id s.table.entries)))))
  where
    of : (o : Option End) → IsReaped (meets_some h o s)
    of None = expects-reaped h true s k
    of (Some e) = unless_fault-keeps IsReaped (record_fault h e) s (meets h e s) (λ f. broken-reaped f s open_ k) (λ n0. meets-reaped h e s d k)

-- ---- bytes that come

piece-reaped : (bytes : List ℕ) (id n : ℕ) (fin discarded : Bool) (s : Session) → IsReaped s → IsReaped (piece_comes bytes id n fin discarded s)
piece-reaped bytes id n fin true s k = same-reaped s _ refl refl refl k
piece-reaped bytes id n fin false s k =
    let last = fin && not (nat_lt (length bytes) n) in
    same-reaped (on_stream id (receive_piece last bytes) s) _ refl refl refl (reaped-on id (receive_piece last bytes) s (λ x l. even-stays s.table.window (receive_piece last bytes) x (even-piece s.table.window last bytes x)) k)

deaf_closed : (st : Status) → is_deaf st ≡ false → is_closed st ≡ false
deaf_closed Running e = refl
deaf_closed Lost e = refl
deaf_closed (Broken f) e = refl
deaf_closed Closed e = e

in-reaped : (no_memory : Bool) (b : ℕ) (s : Session) (i : Incoming) → is_deaf s.status ≡ false → Distinct s.table.entries → IsReaped s → IsReaped (byte_in no_memory b s i)
in-reaped no_memory b s (Head seen) d w k =
    split IsReaped (length seen == 11) (head_comes no_memory (header_of (seen ++ b ∷ [])) (record s { incoming = Head [] })) (record s { incoming = Head (seen ++ b ∷ []) })
    (λ t. head-reaped no_memory (header_of (seen ++ b ∷ [])) (record s { incoming = Head [] }) (deaf_closed s.status d) w (same-reaped s _ refl refl refl k))
    (λ f. same-reaped s _ refl refl refl k)
in-reaped no_memory b s (Payload id n fin discarded) d w k = piece-reaped (b ∷ []) id n fin discarded s k

pub takes-reaped : (bytes : List ℕ) (s t : Session) (starved : ℕ) → Takes bytes s t starved → IsWithin s → IsReaped s → IsReaped t
takes-reaped [] s t starved p w k = subst IsReaped (sym p.0) k
takes-reaped (b ∷ bytes) s t starved (no_memory, more, free, e, p) w k =
    takes-reaped bytes (byte_comes no_memory b s) t more p (byte-keeps no_memory b s free w)
    (split IsReaped (is_deaf s.status) s (byte_in no_memory b s s.incoming) (λ t. k) (λ d. in-reaped no_memory b s s.incoming d w.table.distinct k))

-- ---- bytes that go out

and_false : (b : Bool) → (b && false) ≡ false
and_false true = refl
and_false false = refl

same_id : (id : ℕ) → (id == id) ≡ true
same_id id = grind (arith, nat_tests)

other_id : (id j : ℕ) → j ≢ id → (id == j) ≡ false
other_id id j n = grind (arith, nat_tests)

-- a frame of the session begins where none was begun
session-reaped : (bytes : List ℕ) (s t : Session) → is_empty s.outgoing.bytes ≡ true → t.table ≡ s.table → t.status ≡ s.status → IsReaped s → IsReaped (begins bytes t)
session-reaped bytes s t e table status k = record {
  none_spent = λ c j x l.
      let was : look j s.table.entries ≡ Some x = sym (ap (λ y. look j y.entries) table) ∙ l in
      let h : is_spent s.table.window s.outgoing j (Some x) ≡ false = k.none_spent (sym (ap is_closed status) ∙ c) j x was in
      let o : s.outgoing.of ≡ None = k.none_begun e in
      let g : (is_lingering x.phase && not (is_due s.table.window x) && not (belongs_to None j)) ≡ false = rw o at h in rw table g;
  none_begun = λ z. refl;
}

stream-reaped : (id limit : ℕ) (x : End) (kind : FrameKind) (s : Session) → is_empty s.outgoing.bytes ≡ true → is_empty (spelled kind s.table.window limit id x) ≡ false → IsReaped s →
    IsReaped (record s { table = pass_turn id (with_record id (begin_frame s.table.window limit kind) s.table); outgoing = record { bytes = spelled kind s.table.window limit id x; of = Some id } })
stream-reaped id limit x kind s e some k = record {
  none_spent = λ c j y l. of c j y l (same_or_not j id);
  none_begun = λ z. let q : false ≡ true = sym some ∙ z in absurd cc;
}
  where
    of : is_closed s.status ≡ false → (j : ℕ) (y : End) → look j (change id (begin_frame s.table.window limit kind) s.table.entries) ≡ Some y → (j ≡ id) ⊎ (j ≢ id) →
        (is_lingering y.phase && not (is_due s.table.window y) && not (id == j)) ≡ false
    of c j y l (inl same) = rw (same, same_id id) (and_false (is_lingering y.phase && not (is_due s.table.window y)))
    of c j y l (inr n) =
        let was : look j s.table.entries ≡ Some y = sym (look-change_other id j (begin_frame s.table.window limit kind) s.table.entries n) ∙ l in
        let h : is_spent s.table.window s.outgoing j (Some y) ≡ false = k.none_spent c j y was in
        let o : s.outgoing.of ≡ None = k.none_begun e in
        let g : (is_lingering y.phase && not (is_due s.table.window y) && not (belongs_to None j)) ≡ false = rw o at h in
        rw (other_id id j n) g

answer-reaped : (xs : List Response) (s t : Session) → is_empty s.outgoing.bytes ≡ true → begin_answer xs s ≡ Some t → IsReaped s → IsReaped t
answer-reaped [] s t e b k = cc
answer-reaped (r ∷ more) s t e b k = subst IsReaped (one_some _ t b) (session-reaped (answer_frame r) s (record s { answers = more }) e refl refl k)

kind-reaped : (id limit : ℕ) (x : End) (o : Option FrameKind) (s t : Session) → is_empty s.outgoing.bytes ≡ true → is_empty t.outgoing.bytes ≡ false → begin_kind id limit x o s ≡ Some t → IsReaped s → IsReaped t
kind-reaped id limit x None s t e some b k = cc
kind-reaped id limit x (Some kind) s t e some b k =
    let same = one_some _ t b in
    subst IsReaped same (stream-reaped id limit x kind s e (ap (λ u. is_empty u.outgoing.bytes) same ∙ some) k)

look-reaped : (id limit : ℕ) (o : Option End) (s t : Session) → is_empty s.outgoing.bytes ≡ true → is_empty t.outgoing.bytes ≡ false → begin_stream id limit o s ≡ Some t → IsReaped s → IsReaped t
look-reaped id limit None s t e some b k = cc
look-reaped id limit (Some x) s t e some b k =
    kind-reaped id limit x (next_kind s.table.window x) s t e some (none_if (limit == 0 || nat_lt first_credit limit) (begin_kind id limit x (next_kind s.table.window x) s) t b).1 k

pub begin-reaped : (c : Choice) (s t : Session) → is_empty s.outgoing.bytes ≡ true → begin c s ≡ Some t → IsReaped s → IsReaped t
begin-reaped TheErrorDue s t e b k =
    let p = some_if (s.error_due && is_broken s.status) (begins error_frame (record s { error_due = false })) t b in
    subst IsReaped (sym p.1) (session-reaped error_frame s (record s { error_due = false }) e refl refl k)
begin-reaped TheGoAway s t e b k =
    let p = some_if (is_running s.status && away_due s.away.here) (begins go_away_frame (record s { away = begin_away s.away })) t b in
    subst IsReaped (sym p.1) (session-reaped go_away_frame s (record s { away = begin_away s.away }) e refl refl k)
begin-reaped TheAnswer s t e b k = answer-reaped s.answers s t e (if_some (is_running s.status) (begin_answer s.answers s) t b).1 k
begin-reaped (ThePing n) s t e b k =
    let p = some_if (is_running s.status && has_asked n s.pings.pending) (begins (ping_frame n) (record s { pings = begin_ping n s.pings })) t b in
    subst IsReaped (sym p.1) (session-reaped (ping_frame n) s (record s { pings = begin_ping n s.pings }) e refl refl k)
begin-reaped (AStream id limit) s t e b k =
    look-reaped id limit (look id s.table.entries) s t e (begin-has (AStream id limit) s t b) (if_some (is_running s.status) (begin_stream id limit (look id s.table.entries) s) t b).1 k

pub ready-reaped : (may : Choice → Session → Bool) (s t : Session) → Ready may s t → IsReaped s → IsReaped t
ready-reaped may s t (inl h) k = subst IsReaped (sym h.1) k
ready-reaped may s t (inr (e, (c, ok, b))) k = begin-reaped c s t e b k

-- after the last byte of its frame a spent record goes
end-reaped : (o : Option ℕ) (s : Session) → s.outgoing.of ≡ o → Distinct s.table.entries → IsReaped s → IsReaped (reaps o (record s { outgoing = nothing_outgoing }))
end-reaped None s e d k = record {
  none_spent = λ c j x l.
      let h : is_spent s.table.window s.outgoing j (Some x) ≡ false = k.none_spent c j x l in
      let g : (is_lingering x.phase && not (is_due s.table.window x) && not (belongs_to None j)) ≡ false = rw e at h in g;
  none_begun = λ z. refl;
}
end-reaped (Some id) s e d k = reaped-reaped id (record s { outgoing = nothing_outgoing }) d (λ c j x n l.
    let h : is_spent s.table.window s.outgoing j (Some x) ≡ false = k.none_spent c j x l in
    let g : (is_lingering x.phase && not (is_due s.table.window x) && not (id == j)) ≡ false = rw e at h in
    let z = other_id id j n in rw z at g) (λ z. refl)

left_some : (n : ℕ) (xs : List ℕ) → nat_lt n (length xs) ≡ true → is_empty (drop n xs) ≡ false
left_some zero [] t = cc
left_some zero (x ∷ xs) t = refl
left_some (suc n) [] t = absurd (let l : suc n < 0 = grind (arith, nat_tests) in omega arith)
left_some (suc n) (x ∷ xs) t = left_some n xs (grind (arith, nat_tests))

pub moves-reaped : (n : ℕ) (s : Session) → Distinct s.table.entries → IsReaped s → IsReaped (moves_on n s)
moves-reaped n s d k =
    split IsReaped (nat_lt n (length s.outgoing.bytes)) _ (reaps s.outgoing.of (record s { outgoing = nothing_outgoing }))
    (λ t. record { none_spent = k.none_spent; none_begun = λ z. let q : false ≡ true = sym (left_some n s.outgoing.bytes t) ∙ z in absurd cc })
    (λ f. end-reaped s.outgoing.of s refl d k)

flows-reaped : (may : Choice → Session → Bool) (bytes : List ℕ) (s t : Session) → Flows may bytes s t → IsWithin s → IsReaped s → IsReaped t
flows-reaped may [] s t e w k = subst IsReaped (sym e) k
flows-reaped may (b ∷ bytes) s t (ready, r, first, p) w k =
    let v = ready-keeps may s ready r w in
    flows-reaped may bytes (moves_on 1 ready) t p (moves-keep 1 ready v) (moves-reaped 1 ready v.table.distinct (ready-reaped may s ready r k))

-- ---- any event

pub new-reaped : (role : Role) (window first : ℕ) → IsReaped (new_session role window first)
new-reaped role window first = record { none_spent = λ c j e l. absurd cc; none_begun = λ z. refl }

call-gives-reaped : (s t : Session) (call : Call) (reply : Reply) → CallGives s call reply t → IsWithin s → IsReaped s → IsReaped t
call-gives-reaped s t call reply (Outcome answer state) w k = subst IsReaped (sym state) (call-reaped call s w k)
call-gives-reaped s t call reply (NoMemory needs answer state) w k = subst IsReaped (sym state) k

ends_open : (st : Status) → is_closed (status_input_ends st) ≡ false → is_closed st ≡ false
ends_open Running e = refl
ends_open Lost e = refl
ends_open (Broken f) e = refl
ends_open Closed e = e

pub gives-reaped : (may : Choice → Session → Bool) (s t : Session) (ev : Event) (reply : Reply) → Gives may s ev reply t → IsWithin s → IsReaped s → IsReaped t
gives-reaped may s t (event.Call call) reply g w k = call-gives-reaped s t call reply g w k
gives-reaped may s t (event.Feed bytes) reply g w k = takes-reaped _ s t g.2.took.0 g.2.took.1 w k
gives-reaped may s t event.FeedEnd reply g w k =
    subst IsReaped (sym g.1) record { none_spent = λ c. k.none_spent (ends_open s.status c); none_begun = k.none_begun }
gives-reaped may s t (event.Emit room) reply g w k = flows-reaped may g.0 s t g.2.flows w k

-- ---- where nothing is due, no record lingers

running_open : (st : Status) → is_running st ≡ true → is_closed st ≡ false
running_open Running e = refl
running_open Lost e = refl
running_open (Broken f) e = refl
running_open Closed e = sym e

pub none-linger : (s : Session) → IsReaped s → is_running s.status ≡ true → is_ready s ≡ false → NoneLingers s
none-linger s k run r id e l = of (is_lingering e.phase) refl (is_due s.table.window e) refl
  where
    no_bytes : is_empty s.outgoing.bytes ≡ true
    no_bytes = negated (is_empty s.outgoing.bytes) (none_of (not (is_empty s.outgoing.bytes)) _ (none_of (not (is_empty s.outgoing.bytes) || (s.error_due && is_broken s.status)) _ r).0).0
      where
        negated : (b : Bool) → not b ≡ false → b ≡ true
        negated true e = refl
        negated false e = sym e

    of : (b : Bool) → is_lingering e.phase ≡ b → (d : Bool) → is_due s.table.window e ≡ d → is_lingering e.phase ≡ false
    of false b d due = b
    of true b true due =
        let any = any-of s.table.window id s.table.entries e l due in
        let z : is_ready s ≡ true = rw (run, any, or_true (away_due s.away.here || not (no_answers s.answers) || is_some (first_asked s.pings.pending))) (or_true _) in cc
    of true b false due =
        let h : is_spent s.table.window s.outgoing id (Some e) ≡ false = k.none_spent (running_open s.status run) id e l in
        let z : (true && not false && not (belongs_to None id)) ≡ false = rw (b, due, k.none_begun no_bytes) at h in cc

pub replays-reaped : (may : Choice → Session → Bool) (at : ℕ) (entries : List Entry) (s t : Session) → ReplaysFrom may at entries s t → IsWithin s → IsReaped s → IsReaped t
replays-reaped may at [] s t e w k = subst IsReaped (sym e) k
replays-reaped may at (entry ∷ entries) s t (position, (next, g, p)) w k =
    replays-reaped may (at + 1) entries next t p (gives-keep may s next entry.event entry.reply g w) (gives-reaped may s next entry.event entry.reply g w k)
