-- A frame makes at most one answer, and the frame of an answer none.
use Rattle.std.proofs.Common.{◌≡◌, ℕ, ◌+◌, ◌≤◌, [], ◌∷◌, ◌++◌, length, Bool, true, false, ◌||◌, ◌==◌, nat_lt, Option, None, Some, refl, sym, ap, ◌∙◌, arith, length-append}
use Rattle.ymx_header.specs.declared.header.Header.{Header}
use Rattle.ymx_header.specs.Headers.{header_of, has_syn, has_fin, has_rst}
use Rattle.ymx_model.specs.declared.types.Response.{Response}
use Rattle.ymx_model.specs.declared.types.Response.TheVariants.{Pong, Reject}
use Rattle.ymx_machine.specs.shared.Phases.{is_offered}
use Rattle.ymx_model.specs.session.Records.{End, receive_rst}
use Rattle.ymx_model.specs.session.Pings.{receive_answer}
use Rattle.ymx_machine.specs.shared.Lists.{look, drop_id}
use Rattle.ymx_model.specs.session.Tables.{insert_record, remove_record}
use Rattle.ymx_model.specs.session.Sessions.{Session, is_own, is_spent, on_stream, reap}
use Rattle.ymx_model.specs.session.Sessions.Incoming.{Payload}
use Rattle.ymx_model.specs.session.Arrivals.{payload, answers_with, ping_comes, go_away_comes, expects, record_fault, reset_comes, acknowledges, take_head, meets, meets_some, offer, session_refuses, syn_fault, syn_comes, header_fault, head_comes}
use Rattle.ymx_model.specs.session.Emissions.{answer_frame}
use Rattle.ymx_law_session.proofs.limits.FramesKeep.{unless_fault-keeps}
use Rattle.ymx_machine.proofs.Tests.{split}

abbrev Same : Session → Session → Type 0
Same s t = t.answers ≡ s.answers

expects-same : (h : Header) (discarded : Bool) (s t : Session) → Same s t → Same s (expects h discarded t)
expects-same h discarded s t e = split (Same s) (payload h == 0) t (record t { incoming = Payload h.id (payload h) (has_fin h) discarded }) (λ t. e) (λ f. e)

reset-same : (id : ℕ) (e : End) (s : Session) → Same s (reset_comes id e s)
reset-same id e s =
    let t : Session = on_stream id receive_rst s in
    split (Same s) (is_offered e.phase) (record s { table = remove_record id s.table; offered = drop_id id s.offered }) (reap id t) (λ y. refl)
    (λ n. split (Same s) (is_spent t.table.window t.outgoing id (look id t.table.entries)) (record t { table = remove_record id t.table }) t (λ y. refl) (λ n. refl))

meets-same : (h : Header) (e : End) (s : Session) → Same s (meets h e s)
meets-same h e s =
    let acked = on_stream h.id (acknowledges (is_own s.role h.id) h) s in
    let credited = on_stream h.id (take_head (is_own s.role h.id) h) s in
    split (Same s) (has_rst h) (expects h true (reset_comes h.id e acked)) (expects h false credited)
    (λ t. expects-same h true s (reset_comes h.id e acked) (reset-same h.id e acked)) (λ f. expects-same h false s credited refl)

some-same : (h : Header) (o : Option End) (s : Session) → Same s (meets_some h o s)
some-same h None s = expects-same h true s s refl
some-same h (Some e) s = unless_fault-keeps (Same s) (record_fault h e) s (meets h e s) (λ f. refl) (λ none. meets-same h e s)

away-same : (h : Header) (s : Session) → Same s (go_away_comes h s)
away-same h s = split (Same s) (nat_lt 2 h.length) _ _ (λ e. refl) (λ e. split (Same s) (h.length == 1) _ _ (λ e. refl) (λ e. split (Same s) (h.length == 2) _ _ (λ e. refl) (λ e. refl)))

-- ---- at most one

abbrev AtMostOne : Session → Session → Type 0
AtMostOne s t = length t.answers ≤ length s.answers + 1

few : (s t : Session) → Same s t → AtMostOne s t
few s t e = let l = ap length e in omega (arith, l)

one-more : (r : Response) (s : Session) → AtMostOne s (answers_with r s)
one-more r s = let l = length-append s.answers (r ∷ []) in omega (arith, l)

expects-few : (h : Header) (discarded : Bool) (s t : Session) → AtMostOne s t → AtMostOne s (expects h discarded t)
expects-few h discarded s t e = split (AtMostOne s) (payload h == 0) t (record t { incoming = Payload h.id (payload h) (has_fin h) discarded }) (λ t. e) (λ f. e)

syn-few : (no_memory : Bool) (h : Header) (s : Session) → AtMostOne s (syn_comes no_memory h s)
syn-few no_memory h s =
    let made : Session = record s { table = insert_record h.id (offer s) s.table; offered = s.offered ++ h.id ∷ [] } in
    unless_fault-keeps (AtMostOne s) (syn_fault h s) s _ (λ f. few s s refl) (λ none.
    split (AtMostOne s) (session_refuses s || no_memory) (expects h true (answers_with (Reject h.id) s)) (meets h (offer s) made)
    (λ e. expects-few h true s (answers_with (Reject h.id) s) (one-more (Reject h.id) s)) (λ e. few s (meets h (offer s) made) (meets-same h (offer s) made)))

pub one-answer : (no_memory : Bool) (h : Header) (s : Session) → AtMostOne s (head_comes no_memory h s)
one-answer no_memory h s =
    let P = AtMostOne s in
    unless_fault-keeps P (header_fault h s) s _ (λ f. few s s refl) (λ none.
    split P (h.kind == 2) (ping_comes h s) _ (λ t. split P (has_syn h) (answers_with (Pong h.length) s) (record s { pings = receive_answer h.length s.pings }) (λ e. one-more (Pong h.length) s) (λ e. few s s refl)) (λ a.
    split P (h.kind == 3) (go_away_comes h s) _ (λ t. few s (go_away_comes h s) (away-same h s)) (λ b.
    split P (has_syn h) (syn_comes no_memory h s) (meets_some h (look h.id s.table.entries) s) (λ t. syn-few no_memory h s)
    (λ t. few s (meets_some h (look h.id s.table.entries) s) (some-same h (look h.id s.table.entries) s)))))

-- ---- none to an answer

-- a frame without SYN makes none
no-syn-same : (no_memory : Bool) (h : Header) (s : Session) → has_syn h ≡ false → Same s (head_comes no_memory h s)
no-syn-same no_memory h s no_syn =
    let P = Same s in
    unless_fault-keeps P (header_fault h s) s _ (λ f. refl) (λ none.
    split P (h.kind == 2) (ping_comes h s) _ (λ t. split P (has_syn h) (answers_with (Pong h.length) s) (record s { pings = receive_answer h.length s.pings }) (λ e. (let no : true ≡ false = sym e ∙ no_syn in absurd cc)) (λ e. refl)) (λ a.
    split P (h.kind == 3) (go_away_comes h s) _ (λ t. away-same h s) (λ b.
    split P (has_syn h) (syn_comes no_memory h s) (meets_some h (look h.id s.table.entries) s) (λ e. (let no : true ≡ false = sym e ∙ no_syn in absurd cc)) (λ t. some-same h (look h.id s.table.entries) s))))

pub none-to-an_answer : (no_memory : Bool) (r : Response) (s : Session) → Same s (head_comes no_memory (header_of (answer_frame r)) s)
none-to-an_answer no_memory (Pong n) s = no-syn-same no_memory (header_of (answer_frame (Pong n))) s refl
none-to-an_answer no_memory (Reject id) s = no-syn-same no_memory (header_of (answer_frame (Reject id))) s refl
