-- A frame that comes makes at most one answer, and else lets a session send no more than before.
use Rattle.std.proofs.Common.{◌≡◌, ◌≢◌, ℕ, ◌+◌, ◌*◌, ◌≤◌, List, [], ◌∷◌, ◌++◌, length, Bool, true, false, not, ◌&&◌, ◌||◌, ◌==◌, nat_lt, nat_le, if◌then◌else◌, Option, None, Some, refl, sym, ap, subst, ◌∙◌, arith, length-append}
use Rattle.std.proofs.lemmas.Bool.Decides.{nat_tests}
use Rattle.ymx_header.specs.declared.header.Header.{Header}
use Rattle.ymx_header.specs.declared.fault.Fault.{Fault}
use Rattle.ymx_header.specs.declared.fault.Fault.TheVariants.{BadGoAwayCode, PeerSawProtocolError, PeerSawInternalError}
use Rattle.ymx_header.specs.Headers.{has_syn, has_ack, has_fin, has_rst}
use Rattle.ymx_model.specs.declared.types.Response.TheVariants.{Pong, Reject}
use Rattle.ymx_machine.specs.shared.Phases.{Phase, is_live, is_offered, is_refused, takes, struck}
use Rattle.ymx_machine.specs.shared.Phases.Phase.{Live}
use Rattle.ymx_model.specs.session.Records.{End, takes_payload, receive_credit, receive_fin, receive_ack, receive_rst, receive_data, receive_piece, reader_arrive, writer_grant}
use Rattle.ymx_model.specs.session.Pings.{receive_answer}
use Rattle.ymx_model.specs.session.GoAway.{receive_away}
use Rattle.ymx_machine.specs.shared.Lists.{look, drop_id}
use Rattle.ymx_model.specs.session.Tables.{insert_record, remove_record}
use Rattle.ymx_model.specs.session.Sessions.{Session, Incoming, breaks, is_deaf, is_told, is_own, on_stream, reap}
use Rattle.ymx_model.specs.session.Sessions.Incoming.{Head, Payload}
use Rattle.ymx_model.specs.session.Arrivals.{payload, delta, answers_with, ping_comes, go_away_comes, expects, record_fault, reset_comes, ends_now, acknowledges, take_head, meets, meets_some, unless_fault, offer, session_refuses, syn_fault, syn_comes, header_fault, head_comes, piece_comes}
use Rattle.ymx_model.specs.world.Load.{record_load, one_if, is_inside}
use Rattle.ymx_law_session.proofs.limits.FramesKeep.{unless_fault-keeps}
use Rattle.ymx_machine.proofs.Tests.{split, agrees}
use Rattle.ymx_headline.proofs.bounds.Loads.{effort, may_answer, Eases, eases-then, removed-eases, reaped-eases, loads-change, loads-added, asked-answered, one_if-most}

-- ---- records

abbrev NoMore : (least : ℕ) (window : ℕ) → End → End → Type 0
NoMore least window e f = record_load least window f ≤ record_load least window e

ack-more : (least : ℕ) (window : ℕ) (own : Bool) (h : Header) (e : End) → NoMore least window e (acknowledges own h e)
ack-more least window own h e = split (NoMore least window e) (has_ack h && own) (receive_ack e) e (λ t. omega arith) (λ f. omega arith)

credit-more : (least : ℕ) (window d : ℕ) (e : End) → NoMore least window e (receive_credit d e)
credit-more least window d e = split (NoMore least window e) (takes e.phase) (record e { writer = writer_grant d e.writer }) e (λ t. omega arith) (λ f. omega arith)

data-more : (least : ℕ) (window : ℕ) (bytes : List ℕ) (e : End) → NoMore least window e (receive_data bytes e)
data-more least window bytes e = split (NoMore least window e) (takes_payload e) (record e { reader = reader_arrive bytes e.reader }) e (λ t. omega arith) (λ f. omega arith)

-- after the end no credit is due
ended-none : (live : Bool) (rest : Bool) → (live && not true && rest) ≡ false
ended-none true rest = refl
ended-none false rest = refl

fin-more : (least : ℕ) (window : ℕ) (e : End) → NoMore least window e (receive_fin e)
fin-more least window e = split (NoMore least window e) (takes_payload e) _ e (λ t. let z = ended-none (is_live e.phase) (false || nat_le window (2 * e.reader.owed)) in rw z (omega arith)) (λ f. omega arith)

piece-more : (least : ℕ) (window : ℕ) (fin : Bool) (bytes : List ℕ) (e : End) → NoMore least window e (receive_piece fin bytes e)
piece-more least window fin bytes e =
    let a = data-more least window bytes e in let b = fin-more least window (receive_data bytes e) in
    split (NoMore least window e) fin (receive_fin (receive_data bytes e)) (receive_data bytes e) (λ t. omega (arith, a, b)) (λ f. a)

head-more : (least : ℕ) (window : ℕ) (own : Bool) (h : Header) (e : End) → NoMore least window e (take_head own h e)
head-more least window own h e =
    let a = ack-more least window own h e in
    let b = credit-more least window (delta h) (acknowledges own h e) in
    let c = fin-more least window (receive_credit (delta h) (acknowledges own h e)) in
    split (NoMore least window e) (ends_now h) (receive_fin (receive_credit (delta h) (acknowledges own h e))) (receive_credit (delta h) (acknowledges own h e)) (λ t. omega (arith, a, b, c)) (λ f. omega (arith, a, b))

struck-dead : (p : Phase) → is_live (struck p) ≡ false
struck-dead Live = refl
struck-dead _ = refl

and-most : (a b : Bool) → one_if (a && b) ≤ one_if b
and-most true b = omega arith
and-most false b = omega arith

rst-more : (least : ℕ) (window : ℕ) (e : End) → NoMore least window e (receive_rst e)
rst-more least window e = let z = struck-dead e.phase in let k = and-most (is_refused e.phase) e.marks.rst in rw z (omega (arith, k))

-- ---- frames of streams

on-eases : (least : ℕ) (id : ℕ) (f : End → End) (s : Session) → ((e : End) → NoMore least s.table.window e (f e)) → Eases least s (on_stream id f s)
on-eases least id f s h = let l = loads-change least s.table.window id f s.table.entries h in record { effort = omega (arith, l); status = refl; incoming = refl; outgoing = refl }

reset-eases : (least : ℕ) (id : ℕ) (e : End) (s : Session) → Eases least s (reset_comes id e s)
reset-eases least id e s =
    split (Eases least s) (is_offered e.phase) (record s { table = remove_record id s.table; offered = drop_id id s.offered }) (reap id (on_stream id receive_rst s))
    (λ t. removed-eases least id s (drop_id id s.offered))
    (λ f. eases-then least s (on_stream id receive_rst s) _ (on-eases least id receive_rst s (rst-more least s.table.window)) (reaped-eases least id (on_stream id receive_rst s)))

-- The head of a frame: what it leaves to be sent, and whether the payload follows. `most`: what it may add.
pub record Heads (least : ℕ) (ends : Bool) (most : ℕ) (s t : Session) : Type 0 where
  pub rise : effort least t ≤ effort least s + most
  pub effort : effort least t + one_if (is_inside t.incoming) + one_if ends ≤ effort least s + 1 + most

stays-out : (i : Incoming) → i ≡ Head [] → one_if (is_inside i) ≡ 0
stays-out i e = rw e refl

expects-heads : (least : ℕ) (h : Header) (discarded : Bool) (s x : Session) (most : ℕ) → x.incoming ≡ Head [] → effort least x ≤ effort least s + most → Heads least (payload h == 0) most s (expects h discarded x)
expects-heads least h discarded s x most i l = of (payload h == 0)
  where
    of : (b : Bool) → Heads least b most s (if b then x else record x { incoming = Payload h.id (payload h) (has_fin h) discarded })
    of true = let z = stays-out x.incoming i in record { effort = omega (arith, z, l); rise = omega (arith, z, l) }
    of false = record { effort = omega (arith, l); rise = omega (arith, l) }

meets-heads : (least : ℕ) (h : Header) (e : End) (s : Session) → s.incoming ≡ Head [] → Heads least (payload h == 0) 0 s (meets h e s)
meets-heads least h e s i =
    let acked = on_stream h.id (acknowledges (is_own s.role h.id) h) s in
    let credited = on_stream h.id (take_head (is_own s.role h.id) h) s in
    let a = on-eases least h.id (acknowledges (is_own s.role h.id) h) s (ack-more least s.table.window (is_own s.role h.id) h) in
    let b = reset-eases least h.id e acked in
    let c = on-eases least h.id (take_head (is_own s.role h.id) h) s (head-more least s.table.window (is_own s.role h.id) h) in
    let l = a.effort in let m = b.effort in let n = c.effort in
    split (Heads least (payload h == 0) 0 s) (has_rst h) (expects h true (reset_comes h.id e acked)) (expects h false credited)
    (λ t. expects-heads least h true s (reset_comes h.id e acked) 0 (b.incoming ∙ i) (omega (arith, l, m)))
    (λ f. expects-heads least h false s credited 0 i (omega (arith, n)))

-- what may be added, at most
more-heads : (least : ℕ) (ends : Bool) (a b : ℕ) (s t : Session) → a ≤ b → Heads least ends a s t → Heads least ends b s t
more-heads least ends a b s t l h = let k = h.effort in let r = h.rise in record { effort = omega (arith, k, l); rise = omega (arith, r, l) }

-- a fault adds an error frame
fault-heads : (least : ℕ) (f : Fault) (ends : Bool) (s : Session) → s.incoming ≡ Head [] → Heads least ends 1 s (breaks f s)
fault-heads least f ends s i =
    let z = stays-out s.incoming i in
    let a = one_if-most ends in
    let b = one_if-most (is_told f && true) in
    record { effort = omega (arith, z, a, b); rise = omega (arith, z, a, b) }

fault-or : (least : ℕ) (ends : Bool) (o : Option Fault) (s t : Session) → s.incoming ≡ Head [] → (o ≡ None → Heads least ends 1 s t) → Heads least ends 1 s (unless_fault o s t)
fault-or least ends None s t i h = h refl
fault-or least ends (Some f) s t i h = fault-heads least f ends s i

syn-heads : (least : ℕ) (no_memory : Bool) (h : Header) (s : Session) → s.incoming ≡ Head [] → Heads least (payload h == 0) 1 s (syn_comes no_memory h s)
syn-heads least no_memory h s i =
    fault-or least (payload h == 0) (syn_fault h s) s _ i (λ none.
    let made : Session = record s { table = insert_record h.id (offer s) s.table; offered = s.offered ++ h.id ∷ [] } in
    let l = loads-added least s.table.window h.id (offer s) s.table.entries in
    let k = meets-heads least h (offer s) made i in
    let m = k.effort in
    let r = k.rise in
    split (Heads least (payload h == 0) 1 s) (session_refuses s || no_memory) (expects h true (answers_with (Reject h.id) s)) (meets h (offer s) made)
    (λ t. expects-heads least h true s (answers_with (Reject h.id) s) 1 i (let n = length-append s.answers (Reject h.id ∷ []) in omega (arith, n)))
    (λ f. record { effort = omega (arith, l, m); rise = omega (arith, l, r) }))

-- a reset has no fault
reset-sound : (h : Header) (e : End) → has_rst h ≡ true → record_fault h e ≡ None
reset-sound h e t = rw t refl

some-heads : (least : ℕ) (h : Header) (o : Option End) (s : Session) → s.incoming ≡ Head [] → Heads least (payload h == 0) (one_if (false || not (has_rst h))) s (meets_some h o s)
some-heads least h None s i = expects-heads least h true s s _ i (omega arith)
some-heads least h (Some e) s i = of (has_rst h) refl
  where
    of : (b : Bool) → has_rst h ≡ b → Heads least (payload h == 0) (one_if (not b)) s (meets_some h (Some e) s)
    of true t =
        let z : meets_some h (Some e) s ≡ meets h e s = ap (λ o. unless_fault o s (meets h e s)) (reset-sound h e t) in
        subst (Heads least (payload h == 0) 0 s) (sym z) (meets-heads least h e s i)
    of false t = fault-or least (payload h == 0) (record_fault h e) s (meets h e s) i (λ none. more-heads least (payload h == 0) 0 1 s (meets h e s) (omega arith) (meets-heads least h e s i))

-- ---- frames of the session

ping-heads : (least : ℕ) (h : Header) (s : Session) → s.incoming ≡ Head [] → (payload h == 0) ≡ true → Heads least (payload h == 0) (one_if (has_syn h)) s (ping_comes h s)
ping-heads least h s i p = rw p (of (has_syn h))
  where
    of : (b : Bool) → Heads least true (one_if b) s (if b then answers_with (Pong h.length) s else record s { pings = receive_answer h.length s.pings })
    of true = let z = stays-out s.incoming i in let n = length-append s.answers (Pong h.length ∷ []) in record { effort = omega (arith, z, n); rise = omega (arith, z, n) }
    of false = let z = stays-out s.incoming i in let n = asked-answered h.length s.pings.pending in record { effort = omega (arith, z, n); rise = omega (arith, z, n) }

-- what the peer told is answered by no error frame
told-heads : (least : ℕ) (f : Fault) (s : Session) → s.incoming ≡ Head [] → is_told f ≡ false → Heads least true 0 s (breaks f s)
told-heads least f s i t =
    let z = stays-out s.incoming i in
    let a : one_if (is_told f && true) ≡ 0 = rw t refl in
    record { effort = omega (arith, z, a); rise = omega (arith, z, a) }

away-heads : (least : ℕ) (h : Header) (s : Session) → s.incoming ≡ Head [] → (payload h == 0) ≡ true → Heads least (payload h == 0) (one_if (nat_lt 2 h.length)) s (go_away_comes h s)
away-heads least h s i p = rw p (of (nat_lt 2 h.length))
  where
    of : (b : Bool) → Heads least true (one_if b) s (if b then breaks BadGoAwayCode s else if h.length == 1 then breaks PeerSawProtocolError s else if h.length == 2 then breaks PeerSawInternalError s else record s { away = receive_away s.away })
    of true = fault-heads least BadGoAwayCode true s i
    of false =
        split (Heads least true 0 s) (h.length == 1) _ _ (λ t. told-heads least PeerSawProtocolError s i refl) (λ a.
        split (Heads least true 0 s) (h.length == 2) _ _ (λ t. told-heads least PeerSawInternalError s i refl) (λ b. let z = stays-out s.incoming i in record { effort = omega (arith, z); rise = omega (arith, z) }))

-- ---- any head

no-load : (h : Header) (n : ℕ) → (h.kind == n) ≡ true → n ≢ 0 → (payload h == 0) ≡ true
no-load h n t d =
    let k = agrees h.kind n t in
    let z : (h.kind == 0) ≡ false = grind (arith, nat_tests) in rw z refl

stream-heads : (least : ℕ) (no_memory : Bool) (h : Header) (s : Session) → s.incoming ≡ Head [] → (c : Bool) →
    Heads least (payload h == 0) (one_if (c || not (has_rst h))) s (if c then syn_comes no_memory h s else meets_some h (look h.id s.table.entries) s)
stream-heads least no_memory h s i true = syn-heads least no_memory h s i
stream-heads least no_memory h s i false = some-heads least h (look h.id s.table.entries) s i

kind-heads : (least : ℕ) (no_memory : Bool) (h : Header) (s : Session) → s.incoming ≡ Head [] → (a : Bool) → (h.kind == 2) ≡ a → (b : Bool) → (h.kind == 3) ≡ b →
    Heads least (payload h == 0) (one_if (if a then has_syn h else if b then nat_lt 2 h.length else has_syn h || not (has_rst h))) s
    (if a then ping_comes h s else if b then go_away_comes h s else if has_syn h then syn_comes no_memory h s else meets_some h (look h.id s.table.entries) s)
kind-heads least no_memory h s i true p b q = ping-heads least h s i (no-load h 2 p (omega arith))
kind-heads least no_memory h s i false p true q = away-heads least h s i (no-load h 3 q (omega arith))
kind-heads least no_memory h s i false p false q = stream-heads least no_memory h s i (has_syn h)

pub head-heads : (least : ℕ) (no_memory : Bool) (h : Header) (s : Session) → s.incoming ≡ Head [] → header_fault h s ≡ None → Heads least (payload h == 0) (one_if (may_answer h)) s (head_comes no_memory h s)
head-heads least no_memory h s i none =
    let t : Session = if h.kind == 2 then ping_comes h s else if h.kind == 3 then go_away_comes h s else if has_syn h then syn_comes no_memory h s else meets_some h (look h.id s.table.entries) s in
    let z : head_comes no_memory h s ≡ t = ap (λ o. unless_fault o s t) none in
    subst (Heads least (payload h == 0) (one_if (may_answer h)) s) (sym z) (kind-heads least no_memory h s i (h.kind == 2) refl (h.kind == 3) refl)

-- ---- a session that hears stays so, or breaks

abbrev Awake : Session → Type 0
Awake s = is_deaf s.status ≡ false

expects-awake : (h : Header) (discarded : Bool) (s : Session) → Awake s → Awake (expects h discarded s)
expects-awake h discarded s a = split Awake (payload h == 0) s (record s { incoming = Payload h.id (payload h) (has_fin h) discarded }) (λ t. a) (λ f. a)

meets-awake : (h : Header) (e : End) (s : Session) → Awake s → Awake (meets h e s)
meets-awake h e s a =
    let acked = on_stream h.id (acknowledges (is_own s.role h.id) h) s in
    let credited = on_stream h.id (take_head (is_own s.role h.id) h) s in
    split Awake (has_rst h) (expects h true (reset_comes h.id e acked)) (expects h false credited)
    (λ t. expects-awake h true (reset_comes h.id e acked) (ap is_deaf (reset-eases 1 h.id e acked).status ∙ a))
    (λ f. expects-awake h false credited a)

pub head-awake : (no_memory : Bool) (h : Header) (s : Session) → Awake s → Awake (head_comes no_memory h s)
head-awake no_memory h s a =
    unless_fault-keeps Awake (header_fault h s) s _ (λ f. refl) (λ none.
    split Awake (h.kind == 2) (ping_comes h s) _ (λ t. split Awake (has_syn h) (answers_with (Pong h.length) s) (record s { pings = receive_answer h.length s.pings }) (λ e. a) (λ e. a)) (λ p.
    split Awake (h.kind == 3) (go_away_comes h s) _ (λ t.
    split Awake (nat_lt 2 h.length) _ _ (λ e. refl) (λ e. split Awake (h.length == 1) _ _ (λ e. refl) (λ e. split Awake (h.length == 2) _ _ (λ e. refl) (λ e. a)))) (λ q.
    split Awake (has_syn h) (syn_comes no_memory h s) (meets_some h (look h.id s.table.entries) s)
    (λ t. unless_fault-keeps Awake (syn_fault h s) s _ (λ f. refl) (λ none.
    split Awake (session_refuses s || no_memory) _ _ (λ e. expects-awake h true (answers_with (Reject h.id) s) a)
    (λ e. meets-awake h (offer s) (record s { table = insert_record h.id (offer s) s.table; offered = s.offered ++ h.id ∷ [] }) a)))
    (λ t. of (look h.id s.table.entries)))))
  where
    of : (o : Option End) → Awake (meets_some h o s)
    of None = expects-awake h true s a
    of (Some e) = unless_fault-keeps Awake (record_fault h e) s (meets h e s) (λ f. refl) (λ none. meets-awake h e s a)

-- ---- a piece of a payload

pub piece-eases : (least : ℕ) (bytes : List ℕ) (id n : ℕ) (fin discarded : Bool) (s : Session) → effort least (piece_comes bytes id n fin discarded s) ≤ effort least s
piece-eases least bytes id n fin true s = omega arith
piece-eases least bytes id n fin false s =
    let l = loads-change least s.table.window id (receive_piece (fin && not (nat_lt (length bytes) n)) bytes) s.table.entries (piece-more least s.table.window (fin && not (nat_lt (length bytes) n)) bytes) in omega (arith, l)
