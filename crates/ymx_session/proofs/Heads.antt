-- What the head of a frame is to a session in which its payload is awaited already.
use Rattle.std.proofs.Common.{◌≡◌, ℕ, ◌+◌, ◌≤◌, ◌==◌, List, [], ◌∷◌, ◌++◌, Bool, true, false, ◌&&◌, if◌then◌else◌, Option, None, Some, refl, sym, ap, ◌∙◌, subst, arith, rules}
use Rattle.std.specs.Prelude.{IsSome, IfSome, option_map}
use Rattle.ymx_machine.proofs.Tests.{split}
use Rattle.std.proofs.lemmas.Bool.Decides.{nat_tests}
use Rattle.ymx_header.specs.declared.header.Header.{Header}
use Rattle.ymx_header.specs.Headers.{has_ack, has_fin, has_rst}
use Rattle.ymx_machine.specs.shared.Phases.{is_offered, takes}
use Rattle.ymx_model.specs.session.Records.{End, receive_ack, receive_rst, receive_head as head_of}
use Rattle.ymx_model.specs.session.Tables.{Table, with_record, insert_record, remove_record}
use Rattle.ymx_machine.specs.shared.Lists.{look, change, without, drop_id}
use Rattle.ymx_model.specs.session.Sessions.{Session, Incoming, is_own, on_stream, reap, is_spent}
use Rattle.ymx_model.specs.session.Sessions.Incoming.{Head, Payload}
use Rattle.ymx_model.specs.session.Arrivals.{expects, payload, delta, ends_now, acknowledges, take_head, reset_comes, meets, offer, syn_comes, syn_fault, session_refuses}
use Rattle.ymx_law_session.specs.Limits.{IsWithin}
use Rattle.ymx_machine.proofs.Lists.{place-change, look-change_same, change-added}
use Rattle.ymx_law_session.proofs.offers.SynCauses.{syn-free, gone, unlisted, drop-last}
use Rattle.ymx_session.specs.Arriving.{awaited, kept}
use Rattle.ymx_session.specs.Offers.{with_offer}

-- ---- a record that changes, and one that goes

without-change : {X : Type 0} (id : ℕ) (f : X → X) (ps : List (ℕ × X)) → without id (change id f ps) ≡ without id ps
without-change id f [] = refl
without-change id f (p ∷ ps) = let h = without-change id f ps in grind (arith, nat_tests)

removed-on : (id : ℕ) (f : End → End) (t : Table) → remove_record id (with_record id f t) ≡ remove_record id t
removed-on id f t = rw (without-change id f t.entries, place-change id id f t.entries) refl

change-alike : {X : Type 0} (id : ℕ) (f g : X → X) (ps : List (ℕ × X)) → ((e : X) → f e ≡ g e) → change id f ps ≡ change id g ps
change-alike id f g [] same = refl
change-alike id f g (p ∷ ps) same = let h = change-alike id f g ps same in let k = same p.1 in grind (arith, nat_tests)

change-none : {X : Type 0} (id : ℕ) (f : X → X) (ps : List (ℕ × X)) → ((e : X) → f e ≡ e) → change id f ps ≡ ps
change-none id f [] same = refl
change-none id f (p ∷ ps) same = let h = change-none id f ps same in let k = same p.1 in grind (arith, nat_tests)

-- ---- the payload that is awaited

-- a payload that is dropped was awaited so
expects-discarded : (h : Header) (s : Session) → s.incoming ≡ awaited h → expects h true (record s { incoming = Head [] }) ≡ s
expects-discarded h s w = of (payload h == 0) refl
  where
    of : (b : Bool) → (payload h == 0) ≡ b → expects h true (record s { incoming = Head [] }) ≡ s
    of true e = let i : s.incoming ≡ Head [] = w ∙ rw e refl in rw e (ap (λ (x : Incoming). record s { incoming = x }) (sym i))
    of false e =
        let i : s.incoming ≡ Payload h.id (payload h) (has_fin h) true = w ∙ rw e refl in
        rw e (ap (λ (x : Incoming). record s { incoming = x }) (sym i))

-- one that a record takes is kept
pub expects-kept : (h : Header) (s : Session) (i : Incoming) → i ≡ awaited h → expects h false (record s { incoming = Head [] }) ≡ record s { incoming = kept i }
expects-kept h s i w = of (payload h == 0) refl
  where
    of : (b : Bool) → (payload h == 0) ≡ b → expects h false (record s { incoming = Head [] }) ≡ record s { incoming = kept i }
    of true e = rw (w, e) refl
    of false e = rw (w, e) refl

-- ---- a reset

same-if : {X : Type 0} (f : X → X) (b : Bool) (x y z w : X) → f x ≡ z → f y ≡ w → f (if b then x else y) ≡ (if b then z else w)
same-if f true x y z w p q = p
same-if f false x y z w p q = q

pub reset-meets : (h : Header) (e : End) (s : Session) → has_rst h ≡ true → s.incoming ≡ awaited h →
    reset_comes h.id e (on_stream h.id (acknowledges (is_own s.role h.id) h) s) ≡ meets h e (record s { incoming = Head [] })
reset-meets h e s rst w =
    let f = acknowledges (is_own s.role h.id) h in
    let t = on_stream h.id f s in
    let u = on_stream h.id receive_rst t in
    let gone = expects-discarded h (record t { table = remove_record h.id t.table; offered = drop_id h.id t.offered }) w in
    let over = same-if (expects h true) (is_spent u.table.window u.outgoing h.id (look h.id u.table.entries)) _ _ _ _ (expects-discarded h (record u { table = remove_record h.id u.table }) w) (expects-discarded h u w) in
    let all = same-if (expects h true) (is_offered e.phase) _ _ _ _ gone over in
    sym (rw rst all)

-- the record of an offered stream goes, acknowledged or not
pub reset-offered : (h : Header) (own : Bool) (e : End) (v s : Session) → v ≡ s → is_offered e.phase ≡ true →
    record v { table = remove_record h.id v.table; offered = drop_id h.id v.offered } ≡ reset_comes h.id e (on_stream h.id (acknowledges own h) s)
reset-offered h own e v s w o =
    rw (o, removed-on h.id (acknowledges own h) s.table) (ap (λ (x : Session). record x { table = remove_record h.id x.table; offered = drop_id h.id x.offered }) w)

-- any other is over, and goes if nothing of it is left to send
pub reset-over : (id : ℕ) (e : End) (s : Session) → is_offered e.phase ≡ false → reap id (on_stream id receive_rst s) ≡ reset_comes id e s
reset-over id e s o = rw o refl

pub reset-rest : (id : ℕ) (e : End) (f : End → End) (v u s t : Session) (table : Table) → v ≡ u → u ≡ on_stream id f s → table ≡ with_record id receive_rst v.table →
    t ≡ reap id (record v { table = table }) → is_offered e.phase ≡ false → t ≡ reset_comes id e (on_stream id f s)
reset-rest id e f v u s t table w a k b o =
    let m : record v { table = table } ≡ on_stream id receive_rst (on_stream id f s) = rw k (ap (on_stream id receive_rst) (w ∙ a)) in
    b ∙ ap (reap id) m ∙ reset-over id e (on_stream id f s) o

-- where it was acknowledged it is there as before
found : {X : Type 0} (o : Option X) (f : X → X) → IsSome o → IsSome (option_map f o)
found None f some = grind arith
found (Some x) f some = search rules

pub there-acked : (id : ℕ) (f : End → End) (v u s : Session) → v ≡ u → u ≡ on_stream id f s → IsSome (look id s.table.entries) → IsSome (look id v.table.entries)
there-acked id f v u s w a some =
    let P : Session → Type 0 = λ x. IsSome (look id x.table.entries) in
    subst P (sym (w ∙ a)) (rw (look-change_same id f s.table.entries) (found (look id s.table.entries) f some))

phase-acked : (h : Header) (own : Bool) (e : End) → (acknowledges own h e).phase ≡ e.phase
phase-acked h own e = let P : End → Type 0 = λ x. x.phase ≡ e.phase in split P (has_ack h && own) _ _ (λ t. refl) (λ t. refl)

was : {X : Type 0} (o : Option X) (f : X → X) (x : X) → option_map f o ≡ Some x → (e : X) × (o ≡ Some e) × (x ≡ f e)
was None f x l = cc
was (Some e) f x l = (e, refl, cc)

pub not_offered-acked : (h : Header) (own b : Bool) (v u s : Session) → v ≡ u → u ≡ on_stream h.id (acknowledges own h) s →
    ((e : End) → look h.id s.table.entries ≡ Some e → b ≡ is_offered e.phase) → b ≡ false → (x : End) → look h.id v.table.entries ≡ Some x → is_offered x.phase ≡ false
not_offered-acked h own b v u s w a f n x l =
    let P : Session → Type 0 = λ y. look h.id y.table.entries ≡ Some x in
    let m = was (look h.id s.table.entries) (acknowledges own h) x (sym (look-change_same h.id (acknowledges own h) s.table.entries) ∙ subst P (w ∙ a) l) in
    rw (m.2, phase-acked h own m.0) (sym (f m.0 m.1) ∙ n)

-- ---- an acknowledgement alone

-- a credit fits already
fits-of : (o : Option End) → ((e : End) → o ≡ Some e → e.writer.credit ≤ 4294967295) → IfSome o (λ e. takes e.phase ≡ true → e.writer.credit + 0 ≤ 4294967295)
fits-of None f = search rules
fits-of (Some e) f = λ t. let l = f e refl in omega arith

pub ack-fits : (id : ℕ) (v s : Session) → v ≡ s → IsWithin (record s { incoming = Head [] }) → IfSome (look id v.table.entries) (λ e. takes e.phase ≡ true → e.writer.credit + 0 ≤ 4294967295)
ack-fits id v s w h =
    let P : Session → Type 0 = λ x. IfSome (look id x.table.entries) (λ e. takes e.phase ≡ true → e.writer.credit + 0 ≤ 4294967295) in
    subst P (sym w) (fits-of (look id s.table.entries) (λ e l. (h.table.records id e l).credit))

nothing-more : (n : ℕ) → n + 0 ≡ n
nothing-more n = omega arith

head-acks : (e : End) → head_of true 0 false e ≡ receive_ack e
head-acks e = of (takes e.phase) refl
  where
    of : (b : Bool) → takes e.phase ≡ b → head_of true 0 false e ≡ receive_ack e
    of true t = rw (t, nothing-more e.writer.credit) refl
    of false t = rw t refl

pub acked-is : (h : Header) (own : Bool) (v s : Session) (table : Table) → v ≡ s → (has_ack h && own) ≡ true → table ≡ with_record h.id (head_of true 0 false) v.table →
    record v { table = table } ≡ on_stream h.id (acknowledges own h) s
acked-is h own v s table w a t =
    let same = change-alike h.id (head_of true 0 false) (acknowledges own h) v.table.entries (λ e. head-acks e ∙ rw a refl) in
    rw (t, same) (ap (on_stream h.id (acknowledges own h)) w)

pub unacked-is : (h : Header) (own : Bool) (s : Session) → (has_ack h && own) ≡ false → s ≡ on_stream h.id (acknowledges own h) s
unacked-is h own s a = sym (rw (change-none h.id (acknowledges own h) s.table.entries (λ e. rw a refl)) refl)

-- ---- a stream that is offered

and_false : (b : Bool) → (b && false) ≡ false
and_false true = refl
and_false false = refl

pub offers : (h : Header) (v s : Session) (e : End) (table : Table) (list : List ℕ) (now : Incoming) → v ≡ s → has_rst h ≡ false → s.incoming ≡ awaited h → syn_fault h s ≡ None →
    e ≡ head_of false (delta h) (ends_now h) (offer v) → table ≡ insert_record h.id e v.table → list ≡ v.offered ++ h.id ∷ [] → now ≡ kept v.incoming →
    record v { table = table; offered = list; incoming = now } ≡ meets h (offer s) (with_offer h.id (record s { incoming = Head [] }))
offers h v s e table list now w rst a good f t l n =
    let free = syn-free h s good in
    let own = free.0 in
    let none = free.1 in
    let g : take_head false h (offer s) ≡ head_of false (delta h) (ends_now h) (offer s) = rw (and_false (has_ack h)) refl in
    let i : e ≡ take_head false h (offer s) = f ∙ (ap (λ (x : Session). head_of false (delta h) (ends_now h) (offer x)) w ∙ sym g) in
    let on-added = change-added h.id (take_head false h) (offer s) s.table.entries none in
    let t_is : table ≡ with_record h.id (take_head false h) (insert_record h.id (offer s) s.table) = t ∙ rw (i, on-added) (ap (λ (x : Session). insert_record h.id (take_head false h (offer s)) x.table) w) in
    let k = expects-kept h (record s { table = table; offered = s.offered ++ h.id ∷ [] }) s.incoming a in
    let m : record v { table = table; offered = list; incoming = now } ≡ record s { table = table; offered = s.offered ++ h.id ∷ []; incoming = kept s.incoming } =
    rw (l, n) (ap (λ (x : Session). record x { table = table; offered = x.offered ++ h.id ∷ []; incoming = kept x.incoming }) w) in
    m ∙ (sym k ∙ rw (rst, own, t_is) refl)

-- one that its first frame resets leaves no trace
pub resets-at-once : (h : Header) (s : Session) → syn_fault h s ≡ None → IsWithin (record s { incoming = Head [] }) → has_rst h ≡ true → session_refuses s ≡ false → s.incoming ≡ awaited h →
    s ≡ syn_comes false h (record s { incoming = Head [] })
resets-at-once h s good within rst taken w =
    let start = record s { incoming = Head [] } in
    let own = syn-free h s good in
    let table = gone h.id (acknowledges (is_own s.role h.id) h) (offer s) s.table own.1 within.table.turn in
    let list = drop-last h.id s.offered (unlisted h.id start within own.1) in
    sym (rw (good, taken, rst, table, list) (expects-discarded h s w))
