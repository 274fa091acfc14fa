-- What concerns one stream leaves every other record as it was.
use Rattle.std.proofs.Common.{ℕ, List, [], ◌∷◌, ◌++◌, length, Bool, true, false, not, ◌&&◌, ◌||◌, ◌==◌, nat_lt, Option, None, Some, refl, ◌∙◌}
use Rattle.ymx_header.specs.declared.header.Header.{Header}
use Rattle.ymx_header.specs.Headers.{has_syn, has_rst, has_fin}
use Rattle.ymx_model.specs.declared.types.Response.TheVariants.{Pong, Reject}
use Rattle.ymx_machine.specs.declared.types.Call.TheVariants as call
use Rattle.ymx_machine.specs.shared.Phases.{is_offered}
use Rattle.ymx_model.specs.session.Records.{End, receive_rst, receive_piece}
use Rattle.ymx_model.specs.session.Pings.{receive_answer}
use Rattle.ymx_machine.specs.shared.Lists.{look, drop_id}
use Rattle.ymx_model.specs.session.Tables.{insert_record, remove_record}
use Rattle.ymx_model.specs.session.Sessions.{Session, is_own, is_spent, on_stream, reap}
use Rattle.ymx_model.specs.session.Sessions.Incoming.{Payload}
use Rattle.ymx_model.specs.session.Calls.{Outcome, outcome}
use Rattle.ymx_model.specs.session.Arrivals.{answers_with, ping_comes, go_away_comes, payload, expects, record_fault, reset_comes, acknowledges, take_head, meets, meets_some, offer, session_refuses, syn_fault, syn_comes, header_fault, head_comes, piece_comes}
use Rattle.ymx_law_session.specs.Refusals.{OthersSame}
use Rattle.ymx_machine.proofs.Tests.{split}
use Rattle.ymx_law_session.proofs.nothing_else.StreamCalls.{StaysAt, write-stays, read-stays, finish-stays, reset-stays, forget-stays}
use Rattle.ymx_machine.proofs.Lists.{look-change_other, look-added_other, look-without_other}
use Rattle.ymx_law_session.proofs.limits.FramesKeep.{unless_fault-keeps}

abbrev pub OthersIn : (id : ℕ) → Session → Outcome → Type 0
OthersIn id s o = OthersSame id s o.next

-- ---- one record changes or goes

others-on : (id : ℕ) (f : End → End) (s t : Session) → OthersSame id s t → OthersSame id s (on_stream id f t)
others-on id f s t h j n = look-change_other id j f t.table.entries n ∙ h j n

pub others-reaped : (id : ℕ) (s t : Session) → OthersSame id s t → OthersSame id s (reap id t)
others-reaped id s t h =
    split (OthersSame id s) (is_spent t.table.window t.outgoing id (look id t.table.entries)) (record t { table = remove_record id t.table }) t
    (λ e j n. look-without_other id j t.table.entries n ∙ h j n) (λ e. h)

-- ---- calls on a stream

others-stay : (id : ℕ) (s : Session) → StaysAt (OthersSame id s) id s
others-stay id s = record {
  now = λ j n. refl;
  changed = λ f. others-on id f s s (λ j n. refl);
  gone = λ f. others-reaped id s (on_stream id f s) (others-on id f s s (λ j n. refl));
}

pub write-others : (id : ℕ) (bytes : List ℕ) (s : Session) → OthersIn id s (outcome (call.Write id bytes) s)
write-others id bytes s = write-stays (OthersSame id s) id bytes s (others-stay id s)

pub read-others : (id max : ℕ) (s : Session) → OthersIn id s (outcome (call.Read id max) s)
read-others id max s = read-stays (OthersSame id s) id max s (others-stay id s)

pub finish-others : (id : ℕ) (s : Session) → OthersIn id s (outcome (call.Finish id) s)
finish-others id s = finish-stays (OthersSame id s) id s (others-stay id s)

pub reset-others : (id : ℕ) (s : Session) → OthersIn id s (outcome (call.Reset id) s)
reset-others id s = reset-stays (OthersSame id s) id s (others-stay id s)

pub forget-others : (id : ℕ) (s : Session) → OthersIn id s (outcome (call.Forget id) s)
forget-others id s = forget-stays (OthersSame id s) id s (others-stay id s)

-- ---- frames

others-expects : (id : ℕ) (h : Header) (discarded : Bool) (s t : Session) → OthersSame id s t → OthersSame id s (expects h discarded t)
others-expects id h discarded s t o = split (OthersSame id s) (payload h == 0) t (record t { incoming = Payload h.id (payload h) (has_fin h) discarded }) (λ e. o) (λ e. o)

others-meets : (h : Header) (e : End) (s t : Session) → OthersSame h.id s t → OthersSame h.id s (meets h e t)
others-meets h e s t o =
    split (OthersSame h.id s) (has_rst h) _ _
    (λ r. others-expects h.id h true s _ (of (on_stream h.id (acknowledges (is_own t.role h.id) h) t) (others-on h.id (acknowledges (is_own t.role h.id) h) s t o)))
    (λ r. others-expects h.id h false s _ (others-on h.id (take_head (is_own t.role h.id) h) s t o))
  where
    of : (u : Session) → OthersSame h.id s u → OthersSame h.id s (reset_comes h.id e u)
    of u q = split (OthersSame h.id s) (is_offered e.phase) (record u { table = remove_record h.id u.table; offered = drop_id h.id u.offered }) (reap h.id (on_stream h.id receive_rst u))
        (λ r j n. look-without_other h.id j u.table.entries n ∙ q j n) (λ r. others-reaped h.id s _ (others-on h.id receive_rst s u q))

-- a head changes no record but that of its id
pub head-others : (no_memory : Bool) (h : Header) (s : Session) → OthersSame h.id s (head_comes no_memory h s)
head-others no_memory h s =
    let P = OthersSame h.id s in
    let same : P s = λ j n. refl in
    unless_fault-keeps P (header_fault h s) s _ (λ f j n. refl) (λ none.
    split P (h.kind == 2) (ping_comes h s) _ (λ t. split P (has_syn h) (answers_with (Pong h.length) s) (record s { pings = receive_answer h.length s.pings }) (λ e j n. refl) (λ e j n. refl)) (λ a.
    split P (h.kind == 3) (go_away_comes h s) _ (λ t. split P (nat_lt 2 h.length) _ _ (λ e j n. refl) (λ e. split P (h.length == 1) _ _ (λ e j n. refl) (λ e. split P (h.length == 2) _ _ (λ e j n. refl) (λ e j n. refl)))) (λ b.
    split P (has_syn h) (syn_comes no_memory h s) (meets_some h (look h.id s.table.entries) s)
    (λ t. unless_fault-keeps P (syn_fault h s) s _ (λ f j n. refl) (λ n0.
    split P (session_refuses s || no_memory) _ _ (λ e. others-expects h.id h true s (answers_with (Reject h.id) s) same)
    (λ e. others-meets h (offer s) s (record s { table = insert_record h.id (offer s) s.table; offered = s.offered ++ h.id ∷ [] }) (λ j n. look-added_other h.id j (offer s) s.table.entries n))))
    (λ t. of (look h.id s.table.entries)))))
  where
    of : (o : Option End) → OthersSame h.id s (meets_some h o s)
    of None = others-expects h.id h true s s (λ j n. refl)
    of (Some e) = unless_fault-keeps (OthersSame h.id s) (record_fault h e) s (meets h e s) (λ f j n. refl) (λ n0. others-meets h e s s (λ j n. refl))

-- nor does a piece of a payload
pub piece-others : (bytes : List ℕ) (id missing : ℕ) (fin discarded : Bool) (s : Session) → OthersSame id s (piece_comes bytes id missing fin discarded s)
piece-others bytes id missing fin true s j n = refl
piece-others bytes id missing fin false s j n = look-change_other id j (receive_piece (fin && not (nat_lt (length bytes) missing)) bytes) s.table.entries n
