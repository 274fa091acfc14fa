-- The spelling of a whole frame does what the frame does.
use Rattle.std.proofs.Common.{◌≡◌, ◌⊎◌, inl, inr, ℕ, ◌<◌, ◌≤◌, List, [], ◌∷◌, ◌++◌, length, Bool, true, false, ◌||◌, ◌==◌, nat_lt, Option, None, Some, refl, sym, ◌∙◌, subst, arith}
use Rattle.std.proofs.lemmas.Bool.Decides.{nat_tests}
use Rattle.ymx_header.specs.declared.header.Header.{Header}
use Rattle.ymx_header.specs.Headers.{has_syn, has_rst, has_fin}
use Rattle.ymx_model.specs.declared.types.Status.{Status}
use Rattle.ymx_model.specs.declared.types.Status.TheVariants.{Running, Lost, Broken, Closed}
use Rattle.ymx_model.specs.declared.types.Response.TheVariants.{Pong, Reject}
use Rattle.ymx_machine.specs.shared.Phases.{is_offered}
use Rattle.ymx_model.specs.session.Records.{End, receive_rst}
use Rattle.ymx_model.specs.session.Pings.{receive_answer}
use Rattle.ymx_machine.specs.shared.Lists.{look, drop_id}
use Rattle.ymx_model.specs.session.Tables.{insert_record, remove_record}
use Rattle.ymx_model.specs.session.Sessions.{Session, Incoming, is_own, is_spent, is_deaf, on_stream, reap}
use Rattle.ymx_model.specs.session.Sessions.Incoming.{Head, Payload}
use Rattle.ymx_model.specs.session.Arrivals.{answers_with, ping_comes, go_away_comes, payload, expects, record_fault, reset_comes, acknowledges, take_head, meets, meets_some, offer, session_refuses, syn_fault, syn_comes, header_fault, head_comes, piece_comes}
use Rattle.ymx_model.specs.session.Feeds.{Takes, is_stuck, byte_comes, starves}
use Rattle.ymx_machine.proofs.Tests.{split, agrees}
use Rattle.ymx_law_session.proofs.pieces.Pieces.{piece-takes}
use Rattle.ymx_law_session.proofs.limits.FramesKeep.{unless_fault-keeps}

-- ---- what follows a head

-- after the head the payload is awaited, if there is one
abbrev pub Awaits : Header → Session → Type 0
Awaits h s = ((payload h ≡ 0) × (s.incoming ≡ Head [])) ⊎ ((discarded : Bool) × (0 < payload h) × (s.incoming ≡ Payload h.id (payload h) (has_fin h) discarded))

abbrev pub AwaitsRunning : Header → Session → Type 0
AwaitsRunning h s = s.status ≡ Running → Awaits h s

expects-awaits : (h : Header) (discarded : Bool) (s : Session) → s.incoming ≡ Head [] → AwaitsRunning h (expects h discarded s)
expects-awaits h discarded s inc =
    split (AwaitsRunning h) (payload h == 0) s (record s { incoming = Payload h.id (payload h) (has_fin h) discarded })
    (λ t r. inl (agrees (payload h) 0 t, inc)) (λ f r. inr (discarded, grind (arith, nat_tests), refl))

reaped-incoming : (id : ℕ) (s : Session) → (reap id s).incoming ≡ s.incoming
reaped-incoming id s =
    let P : Session → Type 0 = λ x. x.incoming ≡ s.incoming in
    split P (is_spent s.table.window s.outgoing id (look id s.table.entries)) (record s { table = remove_record id s.table }) s (λ t. refl) (λ f. refl)

reset-incoming : (id : ℕ) (e : End) (s : Session) → (reset_comes id e s).incoming ≡ s.incoming
reset-incoming id e s =
    let P : Session → Type 0 = λ x. x.incoming ≡ s.incoming in
    split P (is_offered e.phase) (record s { table = remove_record id s.table; offered = drop_id id s.offered }) (reap id (on_stream id receive_rst s))
    (λ t. refl) (λ f. reaped-incoming id (on_stream id receive_rst s))

meets-awaits : (h : Header) (e : End) (s : Session) → s.incoming ≡ Head [] → AwaitsRunning h (meets h e s)
meets-awaits h e s inc =
    split (AwaitsRunning h) (has_rst h) _ _
    (λ r. expects-awaits h true (reset_comes h.id e (on_stream h.id (acknowledges (is_own s.role h.id) h) s)) (reset-incoming h.id e _ ∙ inc))
    (λ r. expects-awaits h false (on_stream h.id (take_head (is_own s.role h.id) h) s) inc)

no_payload : (h : Header) (n : ℕ) → (h.kind == n) ≡ true → 0 < n → payload h ≡ 0
no_payload h n e l = grind (arith, nat_tests)

pub head-awaits : (no_memory : Bool) (h : Header) (s : Session) → s.incoming ≡ Head [] → AwaitsRunning h (head_comes no_memory h s)
head-awaits no_memory h s inc =
    let P = AwaitsRunning h in
    unless_fault-keeps P (header_fault h s) s _ (λ f r. cc) (λ none.
    split P (h.kind == 2) (ping_comes h s) _ (λ t. let z = no_payload h 2 t (omega arith) in
    split P (has_syn h) (answers_with (Pong h.length) s) (record s { pings = receive_answer h.length s.pings }) (λ e r. inl (z, inc)) (λ e r. inl (z, inc))) (λ a.
    split P (h.kind == 3) (go_away_comes h s) _ (λ t. let z = no_payload h 3 t (omega arith) in
    split P (nat_lt 2 h.length) _ _ (λ e r. cc) (λ e. split P (h.length == 1) _ _ (λ e r. cc) (λ e. split P (h.length == 2) _ _ (λ e r. cc) (λ e r. inl (z, inc))))) (λ b.
    split P (has_syn h) (syn_comes no_memory h s) (meets_some h (look h.id s.table.entries) s)
    (λ t. unless_fault-keeps P (syn_fault h s) s _ (λ f r. cc) (λ n0.
    split P (session_refuses s || no_memory) _ _ (λ e. expects-awaits h true (answers_with (Reject h.id) s) inc)
    (λ e. meets-awaits h (offer s) (record s { table = insert_record h.id (offer s) s.table; offered = s.offered ++ h.id ∷ [] }) inc)))
    (λ t. of (look h.id s.table.entries)))))
  where
    of : (o : Option End) → AwaitsRunning h (meets_some h o s)
    of None = expects-awaits h true s inc
    of (Some e) = unless_fault-keeps (AwaitsRunning h) (record_fault h e) s (meets h e s) (λ f r. cc) (λ n0. meets-awaits h e s inc)

-- ---- a session that is deaf takes all, and stays as it is

pub deaf-free : (s : Session) → is_deaf s.status ≡ true → is_stuck s ≡ false
deaf-free s d = of s.status refl d
  where
    of : (st : Status) → s.status ≡ st → is_deaf st ≡ true → is_stuck s ≡ false
    of Running e d = cc
    of Lost e d = rw e refl
    of (Broken f) e d = cc
    of Closed e d = rw e refl

deaf-starves : (b : ℕ) (s : Session) (i : Incoming) → starves false b s i ≡ 0
deaf-starves b s (Head seen) = refl
deaf-starves b s (Payload id n fin discarded) = refl

pub takes-deaf : (bs : List ℕ) (s : Session) → is_deaf s.status ≡ true → Takes bs s s 0
takes-deaf [] s d = (refl, refl)
takes-deaf (b ∷ bs) s d =
    let e : byte_comes false b s ≡ s = rw d refl in
    let P : Session → Type 0 = λ x. Takes bs x s 0 in
    (false, 0, deaf-free s d, rw (deaf-starves b s s.incoming) refl, subst P (sym e) (takes-deaf bs s d))

-- a payload's bytes, as a block
pub block-takes : (bytes : List ℕ) (id n : ℕ) (fin discarded : Bool) (s : Session) → s.status ≡ Running → s.incoming ≡ Payload id n fin discarded → 0 < length bytes → length bytes ≤ n →
    Takes bytes s (piece_comes bytes id n fin discarded s) 0
block-takes [] id n fin discarded s st inc some fits = absurd (omega arith)
block-takes (b ∷ bs) id n fin discarded s st inc some fits = piece-takes b bs id n fin discarded s st inc fits
