-- Every call keeps the limits.
use Rattle.std.proofs.Common.{◌≡◌, ◌⊎◌, inl, inr, ℕ, ◌+◌, ◌<◌, ◌≤◌, List, [], ◌∷◌, ◌++◌, length, take, Bool, true, false, ◌&&◌, ◌==◌, nat_le, Option, None, Some, refl, sym, ◌∙◌, subst, arith}
use Rattle.std.specs.Prelude.{count_by}
use Rattle.std.proofs.lemmas.Bool.Decides.{nat_tests}
use Rattle.ymx_model.specs.declared.types.Role.{Role}
use Rattle.ymx_model.specs.declared.types.Role.TheVariants.{Client, Server}
use Rattle.ymx_machine.specs.shared.Events.{Reply}
use Rattle.ymx_machine.specs.shared.Events.{Call}
use Rattle.ymx_machine.specs.declared.types.Call.TheVariants as call
use Rattle.ymx_machine.specs.shared.Limits.{first_credit, most_pings, most_records, most_unacknowledged}
use Rattle.ymx_machine.specs.shared.Phases.{is_offered, is_live, is_reset, is_lingering, takes, Phase}
use Rattle.ymx_machine.specs.shared.Phases.Phase.{Live, WasReset}
use Rattle.ymx_machine.specs.shared.Replies.{write_reply, read_reply, finish_reply, reset_reply, forget_reply, bytes_moved, is_done, unless_refused}
use Rattle.ymx_model.specs.session.Records.{End, takes_payload, new_end, end_write, end_read, end_finish, end_accept, end_reset, end_forget}
use Rattle.ymx_model.specs.session.Pings.{Pings, ask, has_back, collect}
use Rattle.ymx_machine.specs.shared.Lists.{look}
use Rattle.ymx_model.specs.session.Sessions.{Session, Incoming, is_own, is_lost, is_closed, on_stream, reap}
use Rattle.ymx_model.specs.session.Sessions.Incoming.{Head, Payload}
use Rattle.ymx_model.specs.session.Calls.{Outcome, outcome, open_or, session_opened, accept, accept_of, at_stream, at_record, write_outcome, read_outcome, finish_outcome, reset_outcome, forget_outcome, is_unacknowledged}
use Rattle.ymx_law_session.specs.Limits.{IsEndWithin, IsOfferedWithin, HasBegunRecord, IsIncomingWithin, IsPingsWithin, IsWithin, is_offered_at, is_listed}
use Rattle.ymx_machine.proofs.Tests.{split, both_of, not_le, one_some}
use Rattle.ymx_machine.proofs.Lists.{look-added_before}
use Rattle.ymx_law_session.proofs.limits.Ends.{takes_offered, new-within, write-within, read-within, finish-within, accept-within, reset-within, forget-within}
use Rattle.ymx_law_session.proofs.limits.Offers.{taken-added, offered-added_other, offered-accepted}
use Rattle.ymx_law_session.proofs.limits.Pings.{pinged-within, collected-within}
use Rattle.ymx_law_session.proofs.limits.Owns.{next-on, next-opened}
use Rattle.ymx_law_session.proofs.limits.Records.{Keeps, table-on, table-added, begun-on, incoming-on, within-on, within-reaped}

-- ---- opening

pub two_more : (role : Role) (n : ℕ) → is_own role (n + 2) ≡ is_own role n
two_more Client n = grind (arith, nat_tests)
two_more Server n = grind (arith, nat_tests)

none_there : (o : Option End) → ((e : End) → o ≡ Some e → ⊥) → o ≡ None
none_there None n = refl
none_there (Some e) n = absurd (n e refl)

-- the next own id has no record
pub next_free : (s : Session) → IsWithin s → look s.next s.table.entries ≡ None
next_free s h = none_there (look s.next s.table.entries) (λ e l. let p = h.next.above s.next e l h.next.parity in omega arith)

incoming-opened : (i : Incoming) (role : Role) (next : ℕ) (e : End) (ps : List (ℕ × End)) → is_own role next ≡ true →
    IsIncomingWithin i role next ps → IsIncomingWithin i role (next + 2) (ps ++ (next, e) ∷ [])
incoming-opened (Head bytes) role next e ps p h = h
incoming-opened (Payload j no_memory fin true) role next e ps p h = h
incoming-opened (Payload j no_memory fin false) role next e ps p h = record {
  some = h.some;
  granted = λ d l. of d (look-added_before next j e d ps l);
  own = λ o. let k = h.own o in omega arith;
}
  where
    of : (d : End) → (look j ps ≡ Some d) ⊎ ((look j ps ≡ None) × (j ≡ next) × (d ≡ e)) → takes_payload d ≡ true → no_memory ≤ d.reader.granted
    of d (inl was) t = h.granted d was t
    of d (inr (n, same, now)) t = let k = h.own (rw same p) in absurd (omega arith)

pub begun-added : (id : ℕ) (e : End) (of : Option ℕ) (ps : List (ℕ × End)) → HasBegunRecord of ps → HasBegunRecord of (ps ++ (id, e) ∷ [])
begun-added id e None ps h = tt
begun-added id e (Some j) ps h = taken-added id j e ps h

pub opened-keeps : (with_data : Bool) (bytes : List ℕ) (s : Session) → length s.table.entries < most_records → s.next < 4294967294 →
    count_by (is_unacknowledged s.role) s.table.entries < most_unacknowledged → IsWithin s → IsWithin (session_opened with_data bytes s)
opened-keeps with_data bytes s l small few h =
    let none = next_free s h in
    let e = end_write bytes (new_end s.table.window Live true with_data) in record {
      table = table-added s.next e s.table none l (write-within s.table.window bytes _ refl (new-within s.table.window Live true with_data h.table.narrowest refl (λ o. cc))) h.table;
      offered = offered-added_other s.next e s.offered s.table.entries none refl h.offered;
      pings = h.pings;
      answers = h.answers;
      outgoing = begun-added s.next e s.outgoing.of s.table.entries h.outgoing;
      incoming = incoming-opened s.incoming s.role s.next e s.table.entries h.next.parity h.incoming;
      next = next-opened s.role s.next e s.table.entries (two_more s.role s.next ∙ h.next.parity) small refl few h.next;
    }

-- what a refusal and the outcome keep, the call keeps
pub open_or-keeps : (P : Session → Type 0) (s : Session) (o : Outcome) → P s → (length s.table.entries < most_records → s.next < 4294967294 → count_by (is_unacknowledged s.role) s.table.entries < most_unacknowledged → P o.next) → P (open_or s o).next
open_or-keeps P s o h k =
    let Q : Outcome → Type 0 = λ x. P x.next in
    split Q (is_closed s.status) _ _ (λ t. h) (λ f1.
    split Q (is_lost s.status) _ _ (λ t. h) (λ f2.
    split Q s.away.there _ _ (λ t. h) (λ f3.
    split Q (nat_le 4294967294 s.next) _ _ (λ t. h) (λ f4.
    split Q (nat_le most_unacknowledged (count_by (is_unacknowledged s.role) s.table.entries)) _ _ (λ t. h) (λ f5.
    split Q (nat_le most_records (length s.table.entries)) _ _ (λ t. h) (λ f6. k (not_le most_records (length s.table.entries) f6) (not_le 4294967294 s.next f4) (not_le most_unacknowledged _ f5)))))))

-- ---- accepting

accepts : (lost : Bool) (id : ℕ) (ids : List ℕ) (s : Session) → s.offered ≡ id ∷ ids → IsWithin s →
    IsWithin (on_stream id (end_accept lost) (record s { offered = ids }))
accepts lost id ids s e h =
    let o : IsOfferedWithin (id ∷ ids) s.table.entries = (let P : List ℕ → Type 0 = λ xs. IsOfferedWithin xs s.table.entries in subst P e h.offered) in
    let first : is_offered_at (look id s.table.entries) ≡ true = sym (o.listed id) ∙ listed_first id ids in record {
      table = table-on id (end_accept lost) s.table (λ d l w. accept-within s.table.window lost d (at_first d l first) w) h.table;
      offered = offered-accepted id (end_accept lost) ids s.table.entries (λ d. refl) o;
      pings = h.pings;
      answers = h.answers;
      outgoing = begun-on id (end_accept lost) s.outgoing.of s.table.entries (λ d l n. refl) h.outgoing;
      incoming = incoming-on id (end_accept lost) s.incoming s.role s.next s.table.entries (λ d l t. (taken_before d (at_first d l first) t, omega arith)) h.incoming;
      next = next-on id (end_accept lost) s.role s.next s.table.entries (λ d l o. at_first d l first) (λ d l own live acked. let n = h.next.peers id d l (at_first d l first) in absurd cc) h.next;
    }
  where
    listed_first : (id : ℕ) (ids : List ℕ) → is_listed id (id ∷ ids) ≡ true
    listed_first id ids = grind (arith, nat_tests)

    at_first : (d : End) → look id s.table.entries ≡ Some d → is_offered_at (look id s.table.entries) ≡ true → is_offered d.phase ≡ true
    at_first d l f = rw l at f

    taken_before : (d : End) → is_offered d.phase ≡ true → takes_payload (end_accept lost d) ≡ true → takes_payload d ≡ true
    taken_before d o t = rw (takes_offered d.phase o) t

pub accept-keeps : (s : Session) → IsWithin s → IsWithin (accept s).next
accept-keeps s h =
    let Q : Outcome → Type 0 = λ x. IsWithin x.next in
    split Q (is_closed s.status) _ _ (λ t. h) (λ f. of s.offered refl)
  where
    of : (xs : List ℕ) → s.offered ≡ xs → IsWithin (accept_of xs s).next
    of [] e = let Q : Outcome → Type 0 = λ x. IsWithin x.next in split Q (is_lost s.status) _ _ (λ t. h) (λ f. h)
    of (id ∷ ids) e = accepts (is_lost s.status) id ids s e h

-- ---- a stream

-- what a refusal and each record's outcome keep, the call keeps
pub with-keeps : (P : Session → Type 0) (id : ℕ) (f : End → Outcome) (s : Session) → P s →
    ((e : End) → look id s.table.entries ≡ Some e → P (f e).next) → P (at_stream id f s).next
with-keeps P id f s h k =
    let Q : Outcome → Type 0 = λ x. P x.next in
    split Q (is_closed s.status) _ _ (λ t. h) (λ n. of (look id s.table.entries) refl)
  where
    of : (o : Option End) → look id s.table.entries ≡ o → P (at_record f s o).next
    of None e = h
    of (Some e) l = k e l

-- where an offered stream refuses, nothing moves
offered_moves : (needs lost said : Bool) (p : Phase) (r : Reply) → (bytes_moved (unless_refused needs lost p said r) == 0) ≡ false → is_offered p ≡ false
offered_moves needs lost said p r n = grind arith

offered_done : (needs lost said : Bool) (p : Phase) (r : Reply) → is_done (unless_refused needs lost p said r) ≡ true → is_offered p ≡ false
offered_done needs lost said p r n = grind arith

offered_forget : (p : Phase) → is_done (forget_reply p) ≡ true → is_offered p ≡ false
offered_forget p e = grind arith

same-only : (s : Session) (id : ℕ) (d : End) (e : End) → look id s.table.entries ≡ Some e → look id s.table.entries ≡ Some d → d ≡ e
same-only s id d e l m = one_some d e (sym m ∙ l)

-- the change of one record, whose phase is known
pub within-at : (id : ℕ) (f : End → End) (s : Session) (e : End) → look id s.table.entries ≡ Some e →
    (IsEndWithin s.table.window e → Keeps s.table.window f e) → IsWithin s → IsWithin (on_stream id f s)
within-at id f s e l keeps h =
    within-on id f s (λ d m w. let P : End → Type 0 = λ x. IsEndWithin s.table.window x → Keeps s.table.window f x in subst P (sym (same-only s id d e l m)) keeps w) h

write-at : (id : ℕ) (bytes : List ℕ) (s : Session) (e : End) → look id s.table.entries ≡ Some e → IsWithin s → IsWithin (write_outcome id bytes s e).next
write-at id bytes s e l h =
    let r = write_reply (is_lost s.status) bytes e.phase e.writer.finished e.writer.credit in
    split IsWithin (bytes_moved r == 0) s (on_stream id (end_write (take (bytes_moved r) bytes)) s) (λ t. h) (λ n.
    let off = offered_moves true (is_lost s.status) e.writer.finished e.phase _ n in
    within-at id (end_write (take (bytes_moved r) bytes)) s e l (λ w. record {
      within = write-within s.table.window (take (bytes_moved r) bytes) e off;
      offered = refl;
      payload = λ t. (t, omega arith);
      unacked = λ l a. (l, a);
    }) h)

read-at : (id max : ℕ) (s : Session) (e : End) → look id s.table.entries ≡ Some e → IsWithin s → IsWithin (read_outcome id max s e).next
read-at id max s e l h =
    let r = read_reply (is_lost s.status) max e.phase e.reader.unread e.reader.ended in
    split IsWithin (bytes_moved r == 0) s (on_stream id (end_read max) s) (λ t. h) (λ n.
    let off = offered_moves false false false e.phase _ n in
    within-at id (end_read max) s e l (λ w. record {
      within = read-within s.table.window max e off;
      offered = refl;
      payload = λ t. (t, omega arith);
      unacked = λ l a. (l, a);
    }) h)

finish-at : (id : ℕ) (s : Session) (e : End) → look id s.table.entries ≡ Some e → IsWithin s → IsWithin (finish_outcome id s e).next
finish-at id s e l h =
    split IsWithin (is_done (finish_reply (is_lost s.status) e.phase e.writer.finished)) (on_stream id end_finish s) s (λ t.
    let off = offered_done true (is_lost s.status) e.writer.finished e.phase _ t in
    within-at id end_finish s e l (λ w. record { within = finish-within s.table.window e off; offered = refl; payload = λ q. (q, omega arith); unacked = λ l a. (l, a) }) h) (λ n. h)

reset-at : (id : ℕ) (s : Session) (e : End) → look id s.table.entries ≡ Some e → IsWithin s → IsWithin (reset_outcome id s e).next
reset-at id s e l h =
    split IsWithin (is_done (reset_reply (is_lost s.status) e.phase)) (on_stream id (end_reset WasReset) s) s (λ t.
    let off = offered_done false (is_lost s.status) false e.phase _ t in
    within-at id (end_reset WasReset) s e l (λ w. record {
      within = λ k. reset-within s.table.window WasReset e refl refl refl;
      offered = sym off;
      payload = λ q. absurd cc;
      unacked = λ l a. absurd cc;
    }) h) (λ n. h)

forget_phase : (lost : Bool) (e : End) → is_lingering (end_forget lost e).phase ≡ true
forget_phase lost e =
    let P : End → Type 0 = λ x. is_lingering x.phase ≡ true in
    split P lost _ _ (λ t. refl) (λ f. split P (is_reset e.phase) _ _ (λ t. refl) (λ g. split P (e.writer.finished && e.reader.ended) _ _ (λ t. refl) (λ k. refl)))

lingering_off : (p : Phase) → is_lingering p ≡ true → (is_offered p ≡ false) × (takes p ≡ false)
lingering_off p e = grind arith

lingering_live : (p : Phase) → is_lingering p ≡ true → is_live p ≡ false
lingering_live p e = grind arith

forget-at : (id : ℕ) (s : Session) (e : End) → look id s.table.entries ≡ Some e → IsWithin s → IsWithin (forget_outcome id s e).next
forget-at id s e l h =
    split IsWithin (is_done (forget_reply e.phase)) (reap id (on_stream id (end_forget (is_lost s.status)) s)) s (λ t.
    let off = offered_forget e.phase t in
    let gone = lingering_off (end_forget (is_lost s.status) e).phase (forget_phase (is_lost s.status) e) in
    within-reaped id _ (within-at id (end_forget (is_lost s.status)) s e l (λ w. record {
      within = forget-within s.table.window (is_lost s.status) e;
      offered = gone.0 ∙ sym off;
      payload = λ q. let n = (both_of (takes (end_forget (is_lost s.status) e).phase) _ q).0 in let m = gone.1 in absurd cc;
      unacked = λ l a. let n = lingering_live (end_forget (is_lost s.status) e).phase (forget_phase (is_lost s.status) e) in absurd cc;
    }) h)) (λ n. h)

-- ---- pings

-- every other part is as it was
pub pings-keep : (p : Pings) (s : Session) → IsPingsWithin p → IsWithin s → IsWithin (record s { pings = p })
pings-keep p s l h = record { table = h.table; offered = h.offered; pings = l; answers = h.answers; outgoing = h.outgoing; incoming = h.incoming; next = h.next }

-- ---- any call

pub call-keeps : (c : Call) (s : Session) → IsWithin s → IsWithin (outcome c s).next
call-keeps call.Open s h = open_or-keeps IsWithin s _ h (λ l small few. opened-keeps false [] s l small few h)
call-keeps (call.OpenWith bytes) s h = open_or-keeps IsWithin s _ h (λ l small few. opened-keeps true (take first_credit bytes) s l small few h)
call-keeps call.Accept s h = accept-keeps s h
call-keeps (call.Write id bytes) s h = with-keeps IsWithin id (write_outcome id bytes s) s h (λ e l. write-at id bytes s e l h)
call-keeps (call.Read id max) s h = with-keeps IsWithin id (read_outcome id max s) s h (λ e l. read-at id max s e l h)
call-keeps (call.Finish id) s h = with-keeps IsWithin id (finish_outcome id s) s h (λ e l. finish-at id s e l h)
call-keeps (call.Reset id) s h = with-keeps IsWithin id (reset_outcome id s) s h (λ e l. reset-at id s e l h)
call-keeps (call.Forget id) s h = with-keeps IsWithin id (forget_outcome id s) s h (λ e l. forget-at id s e l h)
call-keeps call.Ping s h =
    let Q : Outcome → Type 0 = λ x. IsWithin x.next in
    split Q (is_closed s.status) _ _ (λ t. h) (λ f. split Q (is_lost s.status) _ _ (λ t. h) (λ g.
    split Q (nat_le most_pings (length s.pings.pending)) _ _ (λ t. h) (λ k. pings-keep (ask s.pings) s (pinged-within s.pings (not_le most_pings (length s.pings.pending) k) h.pings) h)))
call-keeps (call.Ponged n) s h =
    let Q : Outcome → Type 0 = λ x. IsWithin x.next in
    split Q (is_closed s.status) _ _ (λ t. h) (λ f. split Q (has_back n s.pings.pending) _ _ (λ t.
    pings-keep (collect n s.pings) s (collected-within n s.pings h.pings) h) (λ g.
    split Q (is_lost s.status) _ _ (λ t. h) (λ k. h)))
call-keeps call.GoAway s h =
    let Q : Outcome → Type 0 = λ x. IsWithin x.next in
    split Q (is_closed s.status) _ _ (λ t. h) (λ f. split Q (is_lost s.status) _ _ (λ t. h) (λ g.
    record { table = h.table; offered = h.offered; pings = h.pings; answers = h.answers; outgoing = h.outgoing; incoming = h.incoming; next = h.next }))
call-keeps call.Close s h =
    record { table = h.table; offered = h.offered; pings = h.pings; answers = h.answers; outgoing = tt; incoming = h.incoming; next = h.next }
