-- What calls and frames leave alone besides other records.
use Rattle.std.proofs.Common.{◌≡◌, ℕ, ◌<◌, ◌≤◌, List, [], ◌∷◌, ◌++◌, Bool, true, false, not, ◌||◌, ◌==◌, nat_lt, if◌then◌else◌, Option, None, Some, refl, arith, ◌∙◌, take}
use Rattle.std.proofs.lemmas.Bool.Decides.{nat_tests}
use Rattle.ymx_header.specs.declared.header.Header.{Header}
use Rattle.ymx_header.specs.declared.fault.Fault.{Fault}
use Rattle.ymx_header.specs.declared.fault.Fault.TheVariants.{BadGoAwayCode, PeerSawProtocolError, PeerSawInternalError}
use Rattle.ymx_header.specs.Headers.{has_syn, has_rst, has_fin}
use Rattle.ymx_header.proofs.Frames.{good}
use Rattle.ymx_model.specs.declared.types.Response.TheVariants.{Pong, Reject}
use Rattle.ymx_machine.specs.declared.types.Call.TheVariants as call
use Rattle.ymx_machine.specs.shared.Phases.{is_offered}
use Rattle.ymx_model.specs.session.Records.{End, receive_rst}
use Rattle.ymx_model.specs.session.Pings.{receive_answer}
use Rattle.ymx_machine.specs.shared.Lists.{look, change, without, drop_id}
use Rattle.ymx_model.specs.session.Tables.{insert_record, remove_record}
use Rattle.ymx_model.specs.session.Sessions.{Session, is_own, is_spent, on_stream, reap, breaks}
use Rattle.ymx_model.specs.session.Sessions.Incoming.{Payload}
use Rattle.ymx_model.specs.session.Calls.{outcome}
use Rattle.ymx_model.specs.session.Arrivals.{answers_with, ping_comes, go_away_comes, payload, expects, record_fault, reset_comes, acknowledges, take_head, meets, meets_some, offer, session_refuses, syn_fault, syn_comes, header_fault, head_comes, piece_comes}
use Rattle.ymx_law_session.specs.Refusals.{others, OnlyTable, OnlyRecord, OnlyArrived, KeepsOwn, KeepsStreams}
use Rattle.ymx_machine.proofs.Tests.{split}
use Rattle.ymx_law_session.proofs.nothing_else.StreamCalls.{StaysAt, write-stays, read-stays, finish-stays, reset-stays, forget-stays}
use Rattle.ymx_law_session.proofs.limits.FramesKeep.{unless_fault-keeps}

-- ---- calls on a stream

others-change : (id : ℕ) (f : End → End) (ps : List (ℕ × End)) → others id (change id f ps) ≡ others id ps
others-change id f [] = refl
others-change id f (p ∷ ps) = let h = others-change id f ps in grind (arith, nat_tests)

others-without : (id : ℕ) (ps : List (ℕ × End)) → others id (without id ps) ≡ others id ps
others-without id [] = refl
others-without id (p ∷ ps) = let h = others-without id ps in grind (arith, nat_tests)

one-changed : (id : ℕ) (f : End → End) (s : Session) → OnlyRecord id s (on_stream id f s)
one-changed id f s = record { only = refl; window = refl; rest = others-change id f s.table.entries }

one-gone : (id : ℕ) (f : End → End) (s : Session) → OnlyRecord id s (reap id (on_stream id f s))
one-gone id f s =
    let t = on_stream id f s in
    split (OnlyRecord id s) (is_spent t.table.window t.outgoing id (look id t.table.entries)) (record t { table = remove_record id t.table }) t
    (λ e. record { only = refl; window = refl; rest = others-without id t.table.entries ∙ others-change id f s.table.entries }) (λ e. one-changed id f s)

one : (id : ℕ) (s : Session) → StaysAt (OnlyRecord id s) id s
one id s = record { now = record { only = refl; window = refl; rest = refl }; changed = λ f. one-changed id f s; gone = λ f. one-gone id f s }

pub write-one : (id : ℕ) (bytes : List ℕ) (s : Session) → OnlyRecord id s (outcome (call.Write id bytes) s).next
write-one id bytes s = write-stays (OnlyRecord id s) id bytes s (one id s)

pub read-one : (id max : ℕ) (s : Session) → OnlyRecord id s (outcome (call.Read id max) s).next
read-one id max s = read-stays (OnlyRecord id s) id max s (one id s)

pub finish-one : (id : ℕ) (s : Session) → OnlyRecord id s (outcome (call.Finish id) s).next
finish-one id s = finish-stays (OnlyRecord id s) id s (one id s)

pub reset-one : (id : ℕ) (s : Session) → OnlyRecord id s (outcome (call.Reset id) s).next
reset-one id s = reset-stays (OnlyRecord id s) id s (one id s)

pub forget-one : (id : ℕ) (s : Session) → OnlyRecord id s (outcome (call.Forget id) s).next
forget-one id s = forget-stays (OnlyRecord id s) id s (one id s)

-- and so but for the table nothing changes

pub write-alone : (id : ℕ) (bytes : List ℕ) (s : Session) → OnlyTable s (outcome (call.Write id bytes) s).next
write-alone id bytes s = (write-one id bytes s).only

pub read-alone : (id max : ℕ) (s : Session) → OnlyTable s (outcome (call.Read id max) s).next
read-alone id max s = (read-one id max s).only

pub finish-alone : (id : ℕ) (s : Session) → OnlyTable s (outcome (call.Finish id) s).next
finish-alone id s = (finish-one id s).only

pub reset-alone : (id : ℕ) (s : Session) → OnlyTable s (outcome (call.Reset id) s).next
reset-alone id s = (reset-one id s).only

pub forget-alone : (id : ℕ) (s : Session) → OnlyTable s (outcome (call.Forget id) s).next
forget-alone id s = (forget-one id s).only

-- ---- a piece of a payload

pub piece-alone : (bytes : List ℕ) (id missing : ℕ) (fin discarded : Bool) (s : Session) → OnlyArrived s (piece_comes bytes id missing fin discarded s)
piece-alone bytes id missing fin true s = refl
piece-alone bytes id missing fin false s = refl

-- ---- frames of a stream

own-same : (s : Session) → KeepsOwn s s
own-same s = record { role = refl; window = refl; next = refl; pings = refl; away = refl; outgoing = refl }

own-expects : (h : Header) (discarded : Bool) (s t : Session) → KeepsOwn s t → KeepsOwn s (expects h discarded t)
own-expects h discarded s t k =
    split (KeepsOwn s) (payload h == 0) t (record t { incoming = Payload h.id (payload h) (has_fin h) discarded }) (λ e. k)
    (λ e. record { role = k.role; window = k.window; next = k.next; pings = k.pings; away = k.away; outgoing = k.outgoing })

own-reaped : (id : ℕ) (s t : Session) → KeepsOwn s t → KeepsOwn s (reap id t)
own-reaped id s t k =
    split (KeepsOwn s) (is_spent t.table.window t.outgoing id (look id t.table.entries)) (record t { table = remove_record id t.table }) t
    (λ e. record { role = k.role; window = k.window; next = k.next; pings = k.pings; away = k.away; outgoing = k.outgoing }) (λ e. k)

own-on : (id : ℕ) (f : End → End) (s t : Session) → KeepsOwn s t → KeepsOwn s (on_stream id f t)
own-on id f s t k = record { role = k.role; window = k.window; next = k.next; pings = k.pings; away = k.away; outgoing = k.outgoing }

own-reset : (id : ℕ) (e : End) (s t : Session) → KeepsOwn s t → KeepsOwn s (reset_comes id e t)
own-reset id e s t k =
    split (KeepsOwn s) (is_offered e.phase) (record t { table = remove_record id t.table; offered = drop_id id t.offered }) (reap id (on_stream id receive_rst t))
    (λ r. record { role = k.role; window = k.window; next = k.next; pings = k.pings; away = k.away; outgoing = k.outgoing })
    (λ r. own-reaped id s (on_stream id receive_rst t) (own-on id receive_rst s t k))

own-meets : (h : Header) (e : End) (s t : Session) → KeepsOwn s t → KeepsOwn s (meets h e t)
own-meets h e s t k =
    let own = is_own t.role h.id in
    split (KeepsOwn s) (has_rst h) _ _
    (λ r. own-expects h true s (reset_comes h.id e (on_stream h.id (acknowledges own h) t)) (own-reset h.id e s (on_stream h.id (acknowledges own h) t) (own-on h.id (acknowledges own h) s t k)))
    (λ r. own-expects h false s (on_stream h.id (take_head own h) t) (own-on h.id (take_head own h) s t k))

own-broken : (f : Fault) (s : Session) → KeepsOwn s (breaks f s)
own-broken f s = record { role = refl; window = refl; next = refl; pings = refl; away = refl; outgoing = refl }

kind_is : (h : Header) (n : ℕ) → h.kind < 2 → 2 ≤ n → (h.kind == n) ≡ true → h.kind < h.kind
kind_is h n l m e = grind (arith, nat_tests)

pub stream_frame : (no_memory : Bool) (h : Header) (s : Session) → h.kind < 2 → KeepsOwn s (head_comes no_memory h s)
stream_frame no_memory h s l =
    let P = KeepsOwn s in
    unless_fault-keeps P (header_fault h s) s _ (λ f. own-broken f s) (λ none.
    split P (h.kind == 2) (ping_comes h s) _ (λ t. let z = kind_is h 2 l (omega arith) t in absurd (omega arith)) (λ a.
    split P (h.kind == 3) (go_away_comes h s) _ (λ t. let z = kind_is h 3 l (omega arith) t in absurd (omega arith)) (λ b.
    split P (has_syn h) (syn_comes no_memory h s) (meets_some h (look h.id s.table.entries) s)
    (λ t. unless_fault-keeps P (syn_fault h s) s _ (λ f. own-broken f s) (λ n0.
    split P (session_refuses s || no_memory) _ _ (λ e. own-expects h true s (answers_with (Reject h.id) s) (record { role = refl; window = refl; next = refl; pings = refl; away = refl; outgoing = refl }))
    (λ e. own-meets h (offer s) s (record s { table = insert_record h.id (offer s) s.table; offered = s.offered ++ h.id ∷ [] }) (record { role = refl; window = refl; next = refl; pings = refl; away = refl; outgoing = refl }))))
    (λ t. of (look h.id s.table.entries)))))
  where
    of : (o : Option End) → KeepsOwn s (meets_some h o s)
    of None = own-expects h true s s (own-same s)
    of (Some e) = unless_fault-keeps (KeepsOwn s) (record_fault h e) s (meets h e s) (λ f. own-broken f s) (λ n0. own-meets h e s s (own-same s))

-- ---- frames of the session

all-broken : (f : Fault) (s : Session) → KeepsStreams s (breaks f s)
all-broken f s = record { role = refl; table = refl; next = refl; offered = refl; outgoing = refl; incoming = refl }

kind_past : (h : Header) → 2 ≤ h.kind → (h.kind == 2) ≡ false → (h.kind == 3) ≡ false → 3 < h.kind
kind_past h l a b = grind (arith, nat_tests)

pub session_frame : (no_memory : Bool) (h : Header) (s : Session) → 2 ≤ h.kind → KeepsStreams s (head_comes no_memory h s)
session_frame no_memory h s l =
    let P = KeepsStreams s in
    unless_fault-keeps P (header_fault h s) s _ (λ f. all-broken f s) (λ none.
    split P (h.kind == 2) (ping_comes h s) _
    (λ t. split P (has_syn h) (answers_with (Pong h.length) s) (record s { pings = receive_answer h.length s.pings })
    (λ e. record { role = refl; table = refl; next = refl; offered = refl; outgoing = refl; incoming = refl })
    (λ e. record { role = refl; table = refl; next = refl; offered = refl; outgoing = refl; incoming = refl })) (λ a.
    split P (h.kind == 3) (go_away_comes h s) _
    (λ t. split P (nat_lt 2 h.length) _ _ (λ e. all-broken BadGoAwayCode s) (λ e. split P (h.length == 1) _ _ (λ e. all-broken PeerSawProtocolError s) (λ e.
    split P (h.length == 2) _ _ (λ e. all-broken PeerSawInternalError s) (λ e. record { role = refl; table = refl; next = refl; offered = refl; outgoing = refl; incoming = refl })))) (λ b.
    let past = kind_past h l a b in let one_of_four = (good s.table.window h none).kind in absurd (omega arith))))
