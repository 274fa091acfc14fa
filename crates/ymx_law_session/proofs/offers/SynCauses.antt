-- A stream that the peer opens is rejected exactly for its causes.
use Rattle.std.proofs.Common.{◌≡◌, ◌≢◌, inl, inr, ℕ, ◌<◌, ◌≤◌, List, [], ◌∷◌, ◌++◌, length, Bool, true, false, ◌||◌, ◌==◌, nat_lt, nat_le, if◌then◌else◌, None, refl, sym, ◌∙◌, subst, arith}
use Rattle.std.specs.Prelude.{is_some}
use Rattle.std.proofs.lemmas.Bool.Decides.{nat_tests}
use Rattle.ymx_header.specs.declared.header.Header.{Header}
use Rattle.ymx_header.specs.declared.fault.Fault.TheVariants.{BadSyn, StreamInUse}
use Rattle.ymx_header.specs.Headers.{has_rst, has_fin}
use Rattle.ymx_model.specs.declared.types.GoAwayMark.{GoAwayMark}
use Rattle.ymx_model.specs.declared.types.GoAwayMark.TheVariants.{Unsaid, Due, Sent}
use Rattle.ymx_model.specs.declared.types.Response.TheVariants.{Reject}
use Rattle.ymx_model.specs.session.GoAway.{was_said}
use Rattle.ymx_model.specs.session.Records.{End}
use Rattle.ymx_model.specs.session.Tables.{Table, with_record, insert_record, remove_record}
use Rattle.ymx_machine.specs.shared.Lists.{look, drop_id}
use Rattle.ymx_machine.specs.shared.Limits.{most_records, most_offered}
use Rattle.ymx_model.specs.session.Sessions.{Session, is_own, on_stream}
use Rattle.ymx_model.specs.session.Sessions.Incoming.{Payload}
use Rattle.ymx_model.specs.session.Arrivals.{answers_with, payload, expects, record_fault, syn_fault, acknowledges, take_head, meets, offer, session_refuses, head_comes}
use Rattle.ymx_law_session.specs.Offers.{IsGoodSyn, HasCause, IsOffered, IsRejected, LeavesNoTrace}
use Rattle.ymx_law_session.specs.Limits.{IsWithin, is_listed}
use Rattle.ymx_machine.proofs.Tests.{split, none_of, or_true}
use Rattle.ymx_machine.proofs.Lists.{change-added, without-added, place-added}
use Rattle.ymx_law_session.proofs.limits.FramesKeep.{syn_chain, none_of_look}

-- ---- such a head is judged as a SYN

kind_test : (h : Header) (n : ℕ) → h.kind < 2 → 2 ≤ n → (h.kind == n) ≡ false
kind_test h n l m = grind (arith, nat_tests)

pub good-syn : (no_memory : Bool) (h : Header) (s : Session) → IsGoodSyn h s → head_comes no_memory h s ≡
    (if session_refuses s || no_memory then expects h true (answers_with (Reject h.id) s)
    else meets h (offer s) (record s { table = insert_record h.id (offer s) s.table; offered = s.offered ++ h.id ∷ [] }))
good-syn no_memory h s g = rw (g.header, kind_test h 2 g.kind (omega arith), kind_test h 3 g.kind (omega arith), g.syn, g.fault) refl

-- ---- with a cause, or without memory

rejects : (h : Header) (s t : Session) → t ≡ expects h true (answers_with (Reject h.id) s) → IsRejected h s t
rejects h s t e =
    subst (IsRejected h s) (sym e)
    (split (IsRejected h s) (payload h == 0) (answers_with (Reject h.id) s) (record (answers_with (Reject h.id) s) { incoming = Payload h.id (payload h) (has_fin h) true })
    (λ z. record { answers = refl; table = refl; offered = refl }) (λ z. record { answers = refl; table = refl; offered = refl }))

said : (m : GoAwayMark) → m ≢ Unsaid → was_said m ≡ true
said Unsaid n = absurd (n refl)
said Due n = refl
said Sent n = refl

at_least : (a b : ℕ) → a ≤ b → nat_le a b ≡ true
at_least a b l = grind (arith, nat_tests)

pub causes : (s : Session) → HasCause s → session_refuses s ≡ true
causes s (inl a) = rw (said s.away.here a) refl
causes s (inr (inl b)) = rw (at_least most_offered (length s.offered) b, or_true (was_said s.away.here)) refl
causes s (inr (inr c)) = rw (at_least most_records (length s.table.entries) c) (or_true (was_said s.away.here || nat_le most_offered (length s.offered)))

pub rejected : (no_memory : Bool) (h : Header) (s : Session) → IsGoodSyn h s → HasCause s → IsRejected h s (head_comes no_memory h s)
rejected no_memory h s g c =
    let r = causes s c in rejects h s (head_comes no_memory h s) (good-syn no_memory h s g ∙ rw r refl)

pub starved : (h : Header) (s : Session) → IsGoodSyn h s → IsRejected h s (head_comes true h s)
starved h s g = rejects h s (head_comes true h s) (good-syn true h s g ∙ rw (or_true (session_refuses s)) refl)

-- ---- without a cause

few : (a b : ℕ) → b < a → nat_le a b ≡ false
few a b l = grind (arith, nat_tests)

pub no_cause : (s : Session) → s.away.here ≡ Unsaid → length s.offered < most_offered → length s.table.entries < most_records → session_refuses s ≡ false
no_cause s a b c = rw (a, few most_offered (length s.offered) b, few most_records (length s.table.entries) c) refl

-- nobody's own id is offered, and no id that has a record
pub syn-free : (h : Header) (s : Session) → syn_fault h s ≡ None → (is_own s.role h.id ≡ false) × (look h.id s.table.entries ≡ None)
syn-free h s g =
    let c = syn_chain (h.id == 0 || is_own s.role h.id) (is_some (look h.id s.table.entries)) BadSyn StreamInUse (record_fault h (offer s)) g in
    ((none_of (h.id == 0) (is_own s.role h.id) c.0).1, none_of_look (look h.id s.table.entries) c.1)

pub not_own : (h : Header) (s : Session) → IsGoodSyn h s → (is_own s.role h.id ≡ false) × (look h.id s.table.entries ≡ None)
not_own h s g = syn-free h s g.fault

pub offered : (h : Header) (s : Session) → IsGoodSyn h s → has_rst h ≡ false → s.away.here ≡ Unsaid → length s.offered < most_offered → length s.table.entries < most_records →
    IsOffered h s (head_comes false h s)
offered h s g rst a b c =
    let r = no_cause s a b c in
    let n = not_own h s g in
    let t = record s { table = insert_record h.id (offer s) s.table; offered = s.offered ++ h.id ∷ [] } in
    let u = on_stream h.id (take_head false h) t in
    let e : head_comes false h s ≡ expects h false u = good-syn false h s g ∙ rw (r, rst, n.0) refl in
    let made : u.table ≡ insert_record h.id (take_head false h (offer s)) s.table = rw (change-added h.id (take_head false h) (offer s) s.table.entries n.1) refl in
    subst (IsOffered h s) (sym e)
    (split (IsOffered h s) (payload h == 0) u (record u { incoming = Payload h.id (payload h) (has_fin h) false })
    (λ z. record { list = refl; table = made; answers = refl }) (λ z. record { list = refl; table = made; answers = refl }))

-- ---- a stream that its first frame resets

pub drop-last : (id : ℕ) (xs : List ℕ) → is_listed id xs ≡ false → drop_id id (xs ++ id ∷ []) ≡ xs
drop-last id [] n = grind (arith, nat_tests)
drop-last id (x ∷ xs) n =
    let o = none_of (x == id) (is_listed id xs) n in let h = drop-last id xs o.1 in rw (o.0, h) refl

not_before : (n turn : ℕ) → turn ≤ n → nat_lt n turn ≡ false
not_before n turn l = grind (arith, nat_tests)

-- a record that was added and goes leaves the table as it was
pub gone : (id : ℕ) (f : End → End) (e : End) (t : Table) → look id t.entries ≡ None → t.turn ≤ length t.entries → remove_record id (with_record id f (insert_record id e t)) ≡ t
gone id f e t n l =
    rw (change-added id f e t.entries n, place-added id (f e) t.entries n, without-added id (f e) t.entries n, not_before (length t.entries) t.turn l) refl

pub unlisted : (id : ℕ) (s : Session) → IsWithin s → look id s.table.entries ≡ None → is_listed id s.offered ≡ false
unlisted id s w n = w.offered.listed id ∙ rw n refl

pub reset_at_once : (h : Header) (s : Session) → IsGoodSyn h s → has_rst h ≡ true → s.away.here ≡ Unsaid → length s.offered < most_offered → length s.table.entries < most_records →
    IsWithin s → LeavesNoTrace s (head_comes false h s)
reset_at_once h s g rst a b c w =
    let r = no_cause s a b c in
    let n = not_own h s g in
    let t = record s { table = remove_record h.id (with_record h.id (acknowledges false h) (insert_record h.id (offer s) s.table)); offered = drop_id h.id (s.offered ++ h.id ∷ []) } in
    let e : head_comes false h s ≡ expects h true t = good-syn false h s g ∙ rw (r, rst, n.0) refl in
    let table = gone h.id (acknowledges false h) (offer s) s.table n.1 w.table.turn in
    let list = drop-last h.id s.offered (unlisted h.id s w n.1) in
    subst (LeavesNoTrace s) (sym e)
    (split (LeavesNoTrace s) (payload h == 0) t (record t { incoming = Payload h.id (payload h) (has_fin h) true })
    (λ z. record { table = table; offered = list; answers = refl }) (λ z. record { table = table; offered = list; answers = refl }))
