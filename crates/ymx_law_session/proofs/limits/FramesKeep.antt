-- Every frame that comes keeps the limits.
use Rattle.std.proofs.Common.{◌≡◌, ◌≢◌, ◌⊎◌, inl, inr, ℕ, ◌+◌, ◌-◌, ◌<◌, ◌≤◌, List, [], ◌∷◌, ◌++◌, length, Bool, true, false, not, ◌&&◌, ◌||◌, ◌==◌, nat_lt, nat_le, if◌then◌else◌, Option, None, Some, refl, sym, ap, ◌∙◌, arith, length-append}
use Rattle.std.specs.Prelude.{is_some}
use Rattle.std.proofs.lemmas.Bool.Decides.{nat_tests}
use Rattle.ymx_header.specs.declared.header.Header.{Header}
use Rattle.ymx_header.specs.declared.fault.Fault.{Fault}
use Rattle.ymx_header.specs.declared.fault.Fault.TheVariants.{BadSyn, StreamInUse, WindowExceeded, CreditOverflow}
use Rattle.ymx_header.specs.Headers.{has_syn, has_ack, has_fin, has_rst}
use Rattle.ymx_model.specs.declared.types.Role.{Role}
use Rattle.ymx_model.specs.declared.types.Response.{Response}
use Rattle.ymx_model.specs.declared.types.Response.TheVariants.{Pong, Reject}
use Rattle.ymx_model.specs.declared.types.PingStage.TheVariants.{Back}
use Rattle.ymx_machine.specs.shared.Phases.{is_offered, is_live, is_recorded, takes, struck, Phase}
use Rattle.ymx_machine.specs.shared.Phases.Phase.{Offered}
use Rattle.ymx_model.specs.session.Records.{End, takes_payload, receive_data, receive_credit, receive_fin, receive_ack, receive_rst, receive_piece}
use Rattle.ymx_model.specs.session.Pings.{receive_answer}
use Rattle.ymx_machine.specs.shared.Lists.{look, change, without, drop_id}
use Rattle.ymx_model.specs.session.Tables.{insert_record, remove_record}
use Rattle.ymx_machine.specs.shared.Limits.{most_records, most_offered, most_answers}
use Rattle.ymx_model.specs.session.GoAway.{was_said}
use Rattle.ymx_model.specs.session.Sessions.{Session, Incoming, is_own, breaks, on_stream, reap}
use Rattle.ymx_model.specs.session.Sessions.Incoming.{Head, Payload}
use Rattle.ymx_model.specs.session.Arrivals.{answers_with, ping_comes, go_away_comes, payload, delta, expects, record_fault, reset_comes, ends_now, acknowledges, take_head, meets, unless_fault, meets_some, offer, session_refuses, syn_fault, syn_comes, header_fault, head_comes, piece_comes}
use Rattle.ymx_law_session.specs.Limits.{IsEndWithin, HasBegunRecord, IsIncomingWithin, IsPayloadWithin, IsWithin, is_taken_at, is_in_header}
use Rattle.ymx_machine.proofs.Tests.{split, same_or_not, both_of, none_of, not_le, not_lt, is_lt}
use Rattle.ymx_machine.proofs.Lists.{look_before, look-added_same, look-without_other, look-change_there}
use Rattle.ymx_law_session.proofs.limits.Ends.{new-within, credit-within, fin-within, piece-within, ack-within, rst-within}
use Rattle.ymx_law_session.proofs.limits.Offers.{offered-on, offered-added, offered-removed}
use Rattle.ymx_law_session.proofs.limits.Owns.{next-on, next-removed, next-offered}
use Rattle.ymx_law_session.proofs.limits.Pings.{staged-within}
use Rattle.ymx_law_session.proofs.limits.Records.{Keeps, table-on, table-added, table-removed, begun-on, incoming-removed, within-on, within-reaped}
use Rattle.ymx_law_session.proofs.limits.CallsKeep.{within-at, pings-keep, begun-added}

-- ---- parts that no limit speaks of

-- what a break changes no limit speaks of
pub break-keeps : (f : Fault) (s : Session) → IsWithin s → IsWithin (breaks f s)
break-keeps f s h = record { table = h.table; offered = h.offered; pings = h.pings; answers = h.answers; outgoing = h.outgoing; incoming = h.incoming; next = h.next }

pub unless_fault-keeps : (P : Session → Type 0) (o : Option Fault) (s t : Session) → ((f : Fault) → P (breaks f s)) → (o ≡ None → P t) → P (unless_fault o s t)
unless_fault-keeps P None s t broken k = k refl
unless_fault-keeps P (Some f) s t broken k = broken f

-- ---- answers and pings

in_header_not : (i : Incoming) → i ≡ Head [] → is_in_header i ≡ true → ⊥
in_header_not i e t = let n : is_in_header i ≡ false = rw e refl in cc

pub answer-keeps : (r : Response) (s : Session) → s.incoming ≡ Head [] → length s.answers < most_answers → IsWithin s → IsWithin (answers_with r s)
answer-keeps r s inc l h = record {
  table = h.table;
  offered = h.offered;
  pings = h.pings;
  answers = record { count = omega (arith, length-append {A = Response}); room = λ t. absurd (in_header_not s.incoming inc t) };
  outgoing = h.outgoing;
  incoming = h.incoming;
  next = h.next;
}

ping-keeps : (h : Header) (s : Session) → s.incoming ≡ Head [] → length s.answers < most_answers → IsWithin s → IsWithin (ping_comes h s)
ping-keeps h s inc l w =
    split IsWithin (has_syn h) (answers_with (Pong h.length) s) (record s { pings = receive_answer h.length s.pings }) (λ t. answer-keeps (Pong h.length) s inc l w)
    (λ f. pings-keep (receive_answer h.length s.pings) s (staged-within Back h.length s.pings w.pings) w)

go_away-keeps : (h : Header) (s : Session) → IsWithin s → IsWithin (go_away_comes h s)
go_away-keeps h s w =
    split IsWithin (nat_lt 2 h.length) _ _ (λ t. break-keeps _ s w) (λ a.
    split IsWithin (h.length == 1) _ _ (λ t. break-keeps _ s w) (λ b.
    split IsWithin (h.length == 2) _ _ (λ t. break-keeps _ s w) (λ c.
    record { table = w.table; offered = w.offered; pings = w.pings; answers = w.answers; outgoing = w.outgoing; incoming = w.incoming; next = w.next })))

-- ---- the payload that follows

above_zero : (n : ℕ) → (n == 0) ≡ false → 0 < n
above_zero n e = grind (arith, nat_tests)

-- a discarded payload is dropped
pub discarded-keeps : (h : Header) (s : Session) → IsWithin s → IsWithin (expects h true s)
discarded-keeps h s w =
    split IsWithin (payload h == 0) s (record s { incoming = Payload h.id (payload h) (has_fin h) true }) (λ t. w) (λ f. record { table = w.table; offered = w.offered; pings = w.pings; answers = record { count = w.answers.count; room = λ t. absurd cc }; outgoing = w.outgoing; incoming = above_zero (payload h) f; next = w.next })

taken-keeps : (h : Header) (s : Session) → (0 < payload h → IsPayloadWithin h.id (payload h) s.role s.next s.table.entries) → IsWithin s → IsWithin (expects h false s)
taken-keeps h s p w =
    split IsWithin (payload h == 0) s (record s { incoming = Payload h.id (payload h) (has_fin h) false }) (λ t. w) (λ f. record { table = w.table; offered = w.offered; pings = w.pings; answers = record { count = w.answers.count; room = λ t. absurd cc }; outgoing = w.outgoing; incoming = p (above_zero (payload h) f); next = w.next })

-- ---- a head for a record

fault_chain : (a b : Bool) (f g : Fault) → (if a then Some f else if b then Some g else None) ≡ None → (a ≡ false) × (b ≡ false)
fault_chain true b f g e = (absurd cc, absurd cc)
fault_chain false true f g e = (refl, absurd cc)
fault_chain false false f g e = (refl, refl)

implied : (a b : Bool) → (a && b) ≡ false → a ≡ true → b ≡ false
implied true b e t = e
implied false b e t = absurd cc

pub record NoFault (h : Header) (e : End) : Type 0 where
  pub window : takes_payload e ≡ true → payload h ≤ e.reader.granted
  pub credit : takes e.phase ≡ true → e.writer.credit + delta h ≤ 4294967295

pub no_fault : (h : Header) (e : End) → has_rst h ≡ false → record_fault h e ≡ None → NoFault h e
no_fault h e r f =
    let chain : (if takes_payload e && nat_lt e.reader.granted (payload h) then Some WindowExceeded else if takes e.phase && nat_lt 4294967295 (e.writer.credit + delta h) then Some CreditOverflow else None) ≡ None = rw r at f in
    let both = fault_chain _ _ WindowExceeded CreditOverflow chain in record {
      window = λ t. not_lt e.reader.granted (payload h) (implied _ _ both.0 t);
      credit = λ t. not_lt 4294967295 (e.writer.credit + delta h) (implied _ _ both.1 t);
    }

acknowledges-keeps : (window : ℕ) (own : Bool) (h : Header) (e : End) → Keeps window (acknowledges own h) e
acknowledges-keeps window own h e =
    let P : End → Type 0 = λ x. (IsEndWithin window e → IsEndWithin window x) × (is_offered x.phase ≡ is_offered e.phase) × (takes_payload x ≡ true → (takes_payload e ≡ true) × (e.reader.granted ≤ x.reader.granted)) × (is_live x.phase ≡ true → not x.marks.acked ≡ true → (is_live e.phase ≡ true) × (not e.marks.acked ≡ true)) in
    let p : P (acknowledges own h e) = split P (has_ack h && own) (receive_ack e) e (λ t. (ack-within window e, refl, λ q. (q, omega arith), λ l a. cc)) (λ f. (λ w. w, refl, λ q. (q, omega arith), λ l a. (l, a))) in
    record { within = p.0; offered = p.1; payload = p.2; unacked = p.3 }

-- what no fault leaves of a head that isn't a reset
head-keeps-record : (window : ℕ) (own : Bool) (h : Header) (e : End) → NoFault h e → Keeps window (take_head own h) e
head-keeps-record window own h e n =
    let a = acknowledges-keeps window own h e in
    let P : End → Type 0 = λ x. (IsEndWithin window e → IsEndWithin window x) × (is_offered x.phase ≡ is_offered e.phase) × (takes_payload x ≡ true → (takes_payload e ≡ true) × (e.reader.granted ≤ x.reader.granted)) × (is_live x.phase ≡ true → not x.marks.acked ≡ true → (is_live e.phase ≡ true) × (not e.marks.acked ≡ true)) in
    let c : P (receive_credit (delta h) (acknowledges own h e)) = credited own h e n a in
    let f : P (receive_fin (receive_credit (delta h) (acknowledges own h e))) = finned (receive_credit (delta h) (acknowledges own h e)) c in
    let p : P (take_head own h e) = split P (ends_now h) (receive_fin (receive_credit (delta h) (acknowledges own h e))) (receive_credit (delta h) (acknowledges own h e)) (λ t. f) (λ t. c) in
    record { within = p.0; offered = p.1; payload = p.2; unacked = p.3 }
  where
    same_credit : (own : Bool) (h : Header) (e : End) → ((acknowledges own h e).writer.credit ≡ e.writer.credit) × ((acknowledges own h e).phase ≡ e.phase)
    same_credit own h e = let P : End → Type 0 = λ x. (x.writer.credit ≡ e.writer.credit) × (x.phase ≡ e.phase) in split P (has_ack h && own) (receive_ack e) e (λ t. (refl, refl)) (λ t. (refl, refl))

    credited : (own : Bool) (h : Header) (e : End) → NoFault h e → Keeps window (acknowledges own h) e →
        (IsEndWithin window e → IsEndWithin window (receive_credit (delta h) (acknowledges own h e))) × (is_offered (receive_credit (delta h) (acknowledges own h e)).phase ≡ is_offered e.phase) × (takes_payload (receive_credit (delta h) (acknowledges own h e)) ≡ true → (takes_payload e ≡ true) × (e.reader.granted ≤ (receive_credit (delta h) (acknowledges own h e)).reader.granted)) × (is_live (receive_credit (delta h) (acknowledges own h e)).phase ≡ true → not (receive_credit (delta h) (acknowledges own h e)).marks.acked ≡ true → (is_live e.phase ≡ true) × (not e.marks.acked ≡ true))
    credited own h e n a =
        let same = same_credit own h e in
        let d = acknowledges own h e in
        let P : End → Type 0 = λ x. (is_offered x.phase ≡ is_offered e.phase) × (takes_payload x ≡ true → (takes_payload e ≡ true) × (e.reader.granted ≤ x.reader.granted)) × (is_live x.phase ≡ true → not x.marks.acked ≡ true → (is_live e.phase ≡ true) × (not e.marks.acked ≡ true)) in
        let q : P (receive_credit (delta h) d) = split P (takes d.phase) _ d (λ t. (a.offered, a.payload, a.unacked)) (λ t. (a.offered, a.payload, a.unacked)) in
        (λ w. credit-within window (delta h) d (λ t. rw same.0 (n.credit (rw (← same.1) t))) (a.within w), q.0, q.1, q.2)

    finned : (d : End) → (IsEndWithin window e → IsEndWithin window d) × (is_offered d.phase ≡ is_offered e.phase) × (takes_payload d ≡ true → (takes_payload e ≡ true) × (e.reader.granted ≤ d.reader.granted)) × (is_live d.phase ≡ true → not d.marks.acked ≡ true → (is_live e.phase ≡ true) × (not e.marks.acked ≡ true)) →
        (IsEndWithin window e → IsEndWithin window (receive_fin d)) × (is_offered (receive_fin d).phase ≡ is_offered e.phase) × (takes_payload (receive_fin d) ≡ true → (takes_payload e ≡ true) × (e.reader.granted ≤ (receive_fin d).reader.granted)) × (is_live (receive_fin d).phase ≡ true → not (receive_fin d).marks.acked ≡ true → (is_live e.phase ≡ true) × (not e.marks.acked ≡ true))
    finned d c =
        let P : End → Type 0 = λ x. (is_offered x.phase ≡ is_offered e.phase) × (takes_payload x ≡ true → (takes_payload e ≡ true) × (e.reader.granted ≤ x.reader.granted)) × (is_live x.phase ≡ true → not x.marks.acked ≡ true → (is_live e.phase ≡ true) × (not e.marks.acked ≡ true)) in
        let q : P (receive_fin d) = split P (takes_payload d) _ d (λ t. (c.1, λ k. let z = (both_of (takes d.phase) (not true) k).1 in absurd cc, c.3)) (λ t. (c.1, c.2, c.3)) in
        (λ w. fin-within window d (c.0 w), q.0, q.1, q.2)

-- ---- a reset

struck_off : (p : Phase) → is_offered p ≡ false → (is_offered (struck p) ≡ false)
struck_off p o = grind arith

struck_deaf : (p : Phase) → is_recorded p ≡ true → takes (struck p) ≡ false
struck_deaf p r = grind arith

struck_dead : (p : Phase) → is_live (struck p) ≡ false
struck_dead p = grind arith

begun-other : (id : ℕ) (of : Option ℕ) (e : End) (ps : List (ℕ × End)) → look id ps ≡ Some e → is_offered e.phase ≡ true → HasBegunRecord of ps → HasBegunRecord of (without id ps)
begun-other id None e ps l o h = tt
begun-other id (Some j) e ps l o h = of_other (same_or_not j id)
  where
    of_other : (j ≡ id) ⊎ (j ≢ id) → is_taken_at (look j (without id ps)) ≡ true
    of_other (inl same) =
        let t : is_taken_at (look id ps) ≡ true = rw (← same) h in
        let u : not (is_offered e.phase) ≡ true = rw l at t in
        let v : false ≡ true = rw o at u in absurd cc
    of_other (inr n) = rw (look-without_other id j ps n) h

-- an offered stream whose reset comes goes at once
offer-goes : (id : ℕ) (e : End) (s : Session) → look id s.table.entries ≡ Some e → is_offered e.phase ≡ true → IsWithin s →
    IsWithin (record s { table = remove_record id s.table; offered = drop_id id s.offered })
offer-goes id e s l o w = record {
  table = table-removed id s.table (rw l refl) w.table;
  offered = offered-removed id s.offered s.table.entries w.table.distinct w.offered;
  pings = w.pings;
  answers = w.answers;
  outgoing = begun-other id s.outgoing.of e s.table.entries l o w.outgoing;
  incoming = incoming-removed id s.incoming s.role s.next s.table.entries w.table.distinct w.incoming;
  next = next-removed id s.role s.next s.table.entries w.table.distinct w.next;
}

reset-keeps : (id : ℕ) (e d : End) (s : Session) → look id s.table.entries ≡ Some d → d.phase ≡ e.phase → IsWithin s → IsWithin (reset_comes id e s)
reset-keeps id e d s l same w =
    split IsWithin (is_offered e.phase) (record s { table = remove_record id s.table; offered = drop_id id s.offered }) (reap id (on_stream id receive_rst s))
    (λ t. offer-goes id d s l (rw same t) w)
    (λ f. within-reaped id _ (within-at id receive_rst s d l (λ k. record {
      within = rst-within s.table.window d (rw same f);
      offered = struck_off d.phase (rw same f) ∙ sym (rw same f);
      payload = λ q. let z = (both_of (takes (struck d.phase)) _ q).0 in let y = struck_deaf d.phase k.phase in absurd cc;
      unacked = λ l a. let y = struck_dead d.phase in absurd cc;
    }) w))

-- ---- the head of a frame

meets-keeps : (h : Header) (e : End) (s : Session) → look h.id s.table.entries ≡ Some e → record_fault h e ≡ None → IsWithin s → IsWithin (meets h e s)
meets-keeps h e s l f w =
    let own = is_own s.role h.id in
    split IsWithin (has_rst h) (expects h true (reset_comes h.id e (on_stream h.id (acknowledges own h) s))) (expects h false (on_stream h.id (take_head own h) s))
    (λ t. discarded-keeps h _ (reset-keeps h.id e (acknowledges own h e) (on_stream h.id (acknowledges own h) s) (look-change_there h.id (acknowledges own h) s.table.entries e l) (same_phase own)
    (within-on h.id (acknowledges own h) s (λ d m k. acknowledges-keeps s.table.window own h d) w)))
    (λ r. let n = no_fault h e r f in
    let keeps = head-keeps-record s.table.window own h e n in
    taken-keeps h (on_stream h.id (take_head own h) s) (λ some. record {
      some = some;
      granted = λ d m t. granted own n keeps d m t;
      own = w.next.above h.id e l;
    }) (within-at h.id (take_head own h) s e l (λ k. keeps) w))
  where
    same_phase : (own : Bool) → (acknowledges own h e).phase ≡ e.phase
    same_phase own = let P : End → Type 0 = λ x. x.phase ≡ e.phase in split P (has_ack h && own) (receive_ack e) e (λ t. refl) (λ t. refl)

    granted : (own : Bool) → NoFault h e → Keeps s.table.window (take_head own h) e → (d : End) → look h.id (change h.id (take_head own h) s.table.entries) ≡ Some d → takes_payload d ≡ true → payload h ≤ d.reader.granted
    granted own n keeps d m t =
        let there = look-change_there h.id (take_head own h) s.table.entries e l in
        let same : Some (take_head own h e) ≡ Some d = sym there ∙ m in
        let is : take_head own h e ≡ d = cc in
        let u : takes_payload (take_head own h e) ≡ true = rw is t in
        let k = keeps.payload u in
        let g = n.window k.0 in
        let fits : payload h ≤ (take_head own h e).reader.granted = omega (arith, k.1) in
        rw (← is) fits

-- ---- SYN

pub none_of_look : (o : Option End) → is_some o ≡ false → o ≡ None
none_of_look None n = refl
none_of_look (Some e) n = absurd cc

pub syn_chain : (a b : Bool) (f g : Fault) (o : Option Fault) → (if a then Some f else if b then Some g else o) ≡ None → (a ≡ false) × (b ≡ false) × (o ≡ None)
syn_chain true b f g o e = (absurd cc, absurd cc, absurd cc)
syn_chain false true f g o e = (refl, absurd cc, absurd cc)
syn_chain false false f g o e = (refl, refl, e)

-- a stream is offered
offer-keeps : (id : ℕ) (s : Session) → is_own s.role id ≡ false → look id s.table.entries ≡ None → length s.offered < most_offered → length s.table.entries < most_records →
    s.incoming ≡ Head [] → IsWithin s → IsWithin (record s { table = insert_record id (offer s) s.table; offered = s.offered ++ id ∷ [] })
offer-keeps id s own none offered records inc w = record {
  table = table-added id (offer s) s.table none records (new-within s.table.window Offered false false w.table.narrowest refl (λ o. refl)) w.table;
  offered = offered-added id (offer s) s.offered s.table.entries none refl offered w.offered;
  pings = w.pings;
  answers = w.answers;
  outgoing = begun-added id (offer s) s.outgoing.of s.table.entries w.outgoing;
  incoming = rw inc (omega arith);
  next = next-offered id s.role s.next (offer s) s.table.entries own w.next;
}

syn-keeps : (no_memory : Bool) (h : Header) (s : Session) → s.incoming ≡ Head [] → length s.answers < most_answers → IsWithin s → IsWithin (syn_comes no_memory h s)
syn-keeps no_memory h s inc l w = unless_fault-keeps IsWithin (syn_fault h s) s _ (λ f. break-keeps f s w) (λ none.
    let chain = syn_chain (h.id == 0 || is_own s.role h.id) (is_some (look h.id s.table.entries)) BadSyn StreamInUse (record_fault h (offer s)) none in
    let free = none_of_look (look h.id s.table.entries) chain.1 in
    split IsWithin (session_refuses s || no_memory) (expects h true (answers_with (Reject h.id) s)) (meets h (offer s) (record s { table = insert_record h.id (offer s) s.table; offered = s.offered ++ h.id ∷ [] }))
    (λ t. discarded-keeps h _ (answer-keeps (Reject h.id) s inc l w))
    (λ f. let a = none_of (session_refuses s) no_memory f in
    let b = none_of (was_said s.away.here || nat_le most_offered (length s.offered)) (nat_le most_records (length s.table.entries)) a.0 in
    let c = none_of (was_said s.away.here) (nat_le most_offered (length s.offered)) b.0 in
    meets-keeps h (offer s) (record s { table = insert_record h.id (offer s) s.table; offered = s.offered ++ h.id ∷ [] }) (look-added_same h.id (offer s) s.table.entries free) chain.2
    (offer-keeps h.id s (none_of (h.id == 0) (is_own s.role h.id) chain.0).1 free (not_le most_offered (length s.offered) c.1) (not_le most_records (length s.table.entries) b.1) inc w)))

-- ---- any head

pub head-keeps : (no_memory : Bool) (h : Header) (s : Session) → s.incoming ≡ Head [] → length s.answers < most_answers → IsWithin s → IsWithin (head_comes no_memory h s)
head-keeps no_memory h s inc l w = unless_fault-keeps IsWithin (header_fault h s) s _ (λ f. break-keeps f s w) (λ none.
    split IsWithin (h.kind == 2) (ping_comes h s) _ (λ t. ping-keeps h s inc l w) (λ a.
    split IsWithin (h.kind == 3) (go_away_comes h s) _ (λ t. go_away-keeps h s w) (λ b.
    split IsWithin (has_syn h) (syn_comes no_memory h s) (meets_some h (look h.id s.table.entries) s) (λ t. syn-keeps no_memory h s inc l w) (λ c.
    of (look h.id s.table.entries) refl))))
  where
    of : (o : Option End) → look h.id s.table.entries ≡ o → IsWithin (meets_some h o s)
    of None k = discarded-keeps h s w
    of (Some e) k = unless_fault-keeps IsWithin (record_fault h e) s (meets h e s) (λ f. break-keeps f s w) (λ n. meets-keeps h e s k n w)

-- ---- a piece of a payload

pub piece_phase : (fin : Bool) (bytes : List ℕ) (e : End) → (receive_piece fin bytes e).phase ≡ e.phase
piece_phase true bytes e =
    let P : End → Type 0 = λ x. x.phase ≡ e.phase in
    let d : P (receive_data bytes e) = split P (takes_payload e) _ e (λ t. refl) (λ t. refl) in
    split P (takes_payload (receive_data bytes e)) _ (receive_data bytes e) (λ t. d) (λ t. d)
piece_phase false bytes e = let P : End → Type 0 = λ x. x.phase ≡ e.phase in split P (takes_payload e) _ e (λ t. refl) (λ t. refl)

piece_acked : (fin : Bool) (bytes : List ℕ) (e : End) → (receive_piece fin bytes e).marks.acked ≡ e.marks.acked
piece_acked true bytes e =
    let P : End → Type 0 = λ x. x.marks.acked ≡ e.marks.acked in
    let d : P (receive_data bytes e) = split P (takes_payload e) _ e (λ t. refl) (λ t. refl) in
    split P (takes_payload (receive_data bytes e)) _ (receive_data bytes e) (λ t. d) (λ t. d)
piece_acked false bytes e = let P : End → Type 0 = λ x. x.marks.acked ≡ e.marks.acked in split P (takes_payload e) _ e (λ t. refl) (λ t. refl)

data_after : (bytes : List ℕ) (e : End) → takes_payload (receive_data bytes e) ≡ true → (takes_payload e ≡ true) × ((receive_data bytes e).reader.granted ≡ e.reader.granted - length bytes)
data_after bytes e =
    let P : End → Type 0 = λ x. takes_payload x ≡ true → (takes_payload e ≡ true) × (x.reader.granted ≡ e.reader.granted - length bytes) in
    split P (takes_payload e) _ e (λ t k. (t, refl)) (λ f k. let z : false ≡ true = sym f ∙ k in absurd cc)

-- a stream that still takes payload has been granted less by the piece
piece_after : (fin : Bool) (bytes : List ℕ) (e : End) → takes_payload (receive_piece fin bytes e) ≡ true →
    (takes_payload e ≡ true) × ((receive_piece fin bytes e).reader.granted ≡ e.reader.granted - length bytes)
piece_after false bytes e k = data_after bytes e k
piece_after true bytes e k =
    let d = receive_data bytes e in
    let P : End → Type 0 = λ x. takes_payload x ≡ true → (takes_payload e ≡ true) × (x.reader.granted ≡ e.reader.granted - length bytes) in
    let p : P (receive_fin d) = split P (takes_payload d) _ d (λ t q. let z = (both_of (takes d.phase) (not true) q).1 in absurd cc) (λ f q. data_after bytes e q) in p k

payload-piece : (id n : ℕ) (fin : Bool) (bytes : List ℕ) (role : Role) (next : ℕ) (ps : List (ℕ × End)) → 0 < n - length bytes →
    IsPayloadWithin id n role next ps → IsPayloadWithin id (n - length bytes) role next (change id (receive_piece fin bytes) ps)
payload-piece id n fin bytes role next ps some h = record { some = some; granted = λ e l. of e (look_before id id (receive_piece fin bytes) ps e l); own = h.own }
  where
    of : (e : End) → ((d : End) × (look id ps ≡ Some d) × (((id ≡ id) × (e ≡ receive_piece fin bytes d)) ⊎ ((id ≢ id) × (e ≡ d)))) → takes_payload e ≡ true → n - length bytes ≤ e.reader.granted
    of e (d, was, inl (same, now)) t =
        let u : takes_payload (receive_piece fin bytes d) ≡ true = rw (← now) t in
        let a = piece_after fin bytes d u in
        let g = h.granted d was a.0 in
        let m : n - length bytes ≤ (receive_piece fin bytes d).reader.granted = omega (arith, a.1) in rw now m
    of e (d, was, inr (n, now)) t = absurd (n refl)

in_header_piece : (more : Bool) (id n : ℕ) (fin discarded : Bool) → is_in_header (if more then Payload id n fin discarded else Head []) ≡ false
in_header_piece true id n fin discarded = refl
in_header_piece false id n fin discarded = refl

incoming-piece : (more : Bool) (id n : ℕ) (fin last : Bool) (bytes : List ℕ) (role : Role) (next : ℕ) (ps : List (ℕ × End)) → (more ≡ true → 0 < n - length bytes) →
    IsPayloadWithin id n role next ps → IsIncomingWithin (if more then Payload id (n - length bytes) fin false else Head []) role next (change id (receive_piece last bytes) ps)
incoming-piece true id n fin last bytes role next ps some h = payload-piece id n last bytes role next ps (some refl) h
incoming-piece false id n fin last bytes role next ps some h = omega arith

incoming-discarded : (more : Bool) (id n : ℕ) (fin : Bool) (role : Role) (next : ℕ) (ps : List (ℕ × End)) → (more ≡ true → 0 < n) →
    IsIncomingWithin (if more then Payload id n fin true else Head []) role next ps
incoming-discarded true id n fin role next ps some = some refl
incoming-discarded false id n fin role next ps some = omega arith

lacks_more : (n m : ℕ) → nat_lt m n ≡ true → 0 < n - m
lacks_more n m t = let l = is_lt m n t in omega arith

pub piece-keeps : (bytes : List ℕ) (id n : ℕ) (fin discarded : Bool) (s : Session) → s.incoming ≡ Payload id n fin discarded → length bytes ≤ n → IsWithin s →
    IsWithin (piece_comes bytes id n fin discarded s)
piece-keeps bytes id n fin true s inc l w = record {
  table = w.table;
  offered = w.offered;
  pings = w.pings;
  answers = record { count = w.answers.count; room = λ t. let z = in_header_piece (nat_lt (length bytes) n) id (n - length bytes) fin true in absurd cc };
  outgoing = w.outgoing;
  incoming = incoming-discarded (nat_lt (length bytes) n) id (n - length bytes) fin s.role s.next s.table.entries (lacks_more n (length bytes));
  next = w.next;
}
piece-keeps bytes id n fin false s inc l w =
    let p : IsPayloadWithin id n s.role s.next s.table.entries = rw inc at w.incoming in
    let more = nat_lt (length bytes) n in
    let last = fin && not more in record {
      table = table-on id (receive_piece last bytes) s.table (λ e k v. piece-within s.table.window last bytes e (λ t. let g = p.granted e k t in omega arith) v) w.table;
      offered = offered-on id (receive_piece last bytes) s.offered s.table.entries (λ e k. ap is_offered (piece_phase last bytes e)) w.offered;
      pings = w.pings;
      answers = record { count = w.answers.count; room = λ t. let z = in_header_piece more id (n - length bytes) fin false in absurd cc };
      outgoing = begun-on id (receive_piece last bytes) s.outgoing.of s.table.entries (λ e k o. ap is_offered (piece_phase last bytes e) ∙ o) w.outgoing;
      incoming = incoming-piece more id n fin last bytes s.role s.next s.table.entries (lacks_more n (length bytes)) p;
      next = next-on id (receive_piece last bytes) s.role s.next s.table.entries (λ e k o. sym (ap is_offered (piece_phase last bytes e)) ∙ o) (λ e k own l a. (sym (ap is_live (piece_phase last bytes e)) ∙ l, sym (ap not (piece_acked last bytes e)) ∙ a)) w.next;
    }
