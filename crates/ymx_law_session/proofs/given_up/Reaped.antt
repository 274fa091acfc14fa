-- Every event leaves no spent record.
use Rattle.std.proofs.Common.{◌≡◌, ◌≢◌, ◌⊎◌, inl, inr, ℕ, List, [], ◌∷◌, ◌++◌, length, take, Bool, true, false, not, ◌&&◌, ◌==◌, nat_le, if◌then◌else◌, None, Some, refl, sym, ap, ◌∙◌, subst, arith}
use Rattle.ymx_machine.specs.shared.Events.{Reply}
use Rattle.ymx_machine.specs.shared.Events.{Call}
use Rattle.ymx_machine.specs.declared.types.Call.TheVariants as call
use Rattle.ymx_machine.specs.shared.Limits.{first_credit, most_pings}
use Rattle.ymx_machine.specs.shared.Phases.{Phase, is_lingering}
use Rattle.ymx_machine.specs.shared.Replies.{forget_reply, bytes_moved, is_done, unless_refused}
use Rattle.ymx_model.specs.session.Records.{End, end_accept, end_forget}
use Rattle.ymx_model.specs.session.FramesDue.{is_due, is_empty}
use Rattle.ymx_model.specs.session.Pings.{has_back}
use Rattle.ymx_machine.specs.shared.Lists.{look, Distinct}
use Rattle.ymx_model.specs.session.Tables.{remove_record}
use Rattle.ymx_model.specs.session.Sessions.{Session, Outgoing, belongs_to, is_lost, is_closed, is_spent, on_stream, reap}
use Rattle.ymx_model.specs.session.Calls.{Outcome, outcome, session_opened, accept_of, write_outcome, read_outcome, finish_outcome, reset_outcome, forget_outcome}
use Rattle.ymx_law_session.specs.Limits.{IsWithin}
use Rattle.ymx_law_session.specs.Reaped.{IsReaped}
use Rattle.ymx_machine.proofs.Tests.{split, same_or_not, one_some}
use Rattle.ymx_machine.proofs.Lists.{look_before, look-added_before, look-change_other, look-without_before, distinct-change}
use Rattle.ymx_law_session.proofs.limits.CallsKeep.{open_or-keeps, with-keeps}

-- ---- one record changes

-- a record that isn't given up by f, or was, and has the same frames due
abbrev pub Stays : (window : ℕ) → (End → End) → End → Type 0
Stays window f e = (is_lingering (f e).phase ≡ false) ⊎ ((is_lingering (f e).phase ≡ is_lingering e.phase) × (is_due window (f e) ≡ is_due window e))

spent_not : (window : ℕ) (begun : Outgoing) (id : ℕ) (e : End) → is_lingering e.phase ≡ false → is_spent window begun id (Some e) ≡ false
spent_not window begun id e n = rw n refl

spent_same : (window : ℕ) (begun : Outgoing) (id : ℕ) (d e : End) → is_lingering d.phase ≡ is_lingering e.phase → is_due window d ≡ is_due window e → is_spent window begun id (Some e) ≡ false → is_spent window begun id (Some d) ≡ false
spent_same window begun id d e p q h = ap (λ x. x && not (is_due window d) && not (belongs_to begun.of id)) p ∙ ap (λ x. is_lingering e.phase && not x && not (belongs_to begun.of id)) q ∙ h

pub reaped-on : (id : ℕ) (f : End → End) (s : Session) → ((e : End) → look id s.table.entries ≡ Some e → Stays s.table.window f e) → IsReaped s → IsReaped (on_stream id f s)
reaped-on id f s keeps h = record { none_spent = λ c j e l. of j e c (look_before id j f s.table.entries e l); none_begun = h.none_begun }
  where
    of : (j : ℕ) (e : End) → is_closed s.status ≡ false → ((d : End) × (look j s.table.entries ≡ Some d) × (((j ≡ id) × (e ≡ f d)) ⊎ ((j ≢ id) × (e ≡ d)))) → is_spent s.table.window s.outgoing j (Some e) ≡ false
    of j e c (d, was, inr (n, now)) = rw now (h.none_spent c j d was)
    of j e c (d, was, inl (same, now)) = at (keeps d (rw (← same) was))
      where
        at : Stays s.table.window f d → is_spent s.table.window s.outgoing j (Some e) ≡ false
        at (inl n) = rw now (spent_not s.table.window s.outgoing j (f d) n)
        at (inr p) = rw now (spent_same s.table.window s.outgoing j (f d) d p.0 p.1 (h.none_spent c j d was))

-- ---- one record may go

-- no record but that of `id` is spent
abbrev pub OthersKept : (id : ℕ) → Session → Type 0
OthersKept id s = is_closed s.status ≡ false → (j : ℕ) (e : End) → j ≢ id → look j s.table.entries ≡ Some e → is_spent s.table.window s.outgoing j (Some e) ≡ false

pub others-kept : (id : ℕ) (f : End → End) (s : Session) → IsReaped s → OthersKept id (on_stream id f s)
others-kept id f s h c j e n l = h.none_spent c j e (sym (look-change_other id j f s.table.entries n) ∙ l)

pub reaped-reaped : (id : ℕ) (s : Session) → Distinct s.table.entries → OthersKept id s → (is_empty s.outgoing.bytes ≡ true → s.outgoing.of ≡ None) → IsReaped (reap id s)
reaped-reaped id s d others begun =
    split IsReaped (is_spent s.table.window s.outgoing id (look id s.table.entries)) (record s { table = remove_record id s.table }) s
    (λ t. record { none_spent = λ c j e l. let b = look-without_before id j e s.table.entries d l in others c j e b.0 b.1; none_begun = begun })
    (λ f. record { none_spent = λ c j e l. of f c j e l (same_or_not j id); none_begun = begun })
  where
    of : is_spent s.table.window s.outgoing id (look id s.table.entries) ≡ false → is_closed s.status ≡ false → (j : ℕ) (e : End) → look j s.table.entries ≡ Some e → (j ≡ id) ⊎ (j ≢ id) →
        is_spent s.table.window s.outgoing j (Some e) ≡ false
    of f c j e l (inl same) =
        let k : look id s.table.entries ≡ Some e = rw (← same) l in
        let g : is_spent s.table.window s.outgoing id (Some e) ≡ false = rw k at f in rw same g
    of f c j e l (inr n) = others c j e n l

-- ---- a record comes

pub added-reaped : (id : ℕ) (e : End) (s t : Session) → is_lingering e.phase ≡ false → t.table.entries ≡ s.table.entries ++ (id, e) ∷ [] → t.table.window ≡ s.table.window → t.outgoing ≡ s.outgoing → t.status ≡ s.status →
    IsReaped s → IsReaped t
added-reaped id e s t n entries window begun status h = record {
  none_spent = λ c j d l. of (sym (ap is_closed status) ∙ c) j d (look-added_before id j e d s.table.entries (sym (ap (λ ps. look j ps) entries) ∙ l));
  none_begun = λ k. ap (λ b. b.of) begun ∙ h.none_begun (sym (ap (λ b. is_empty b.bytes) begun) ∙ k);
}
  where
    of : is_closed s.status ≡ false → (j : ℕ) (d : End) → (look j s.table.entries ≡ Some d) ⊎ ((look j s.table.entries ≡ None) × (j ≡ id) × (d ≡ e)) → is_spent t.table.window t.outgoing j (Some d) ≡ false
    of c j d (inl was) = rw (window, begun) (h.none_spent c j d was)
    of c j d (inr (none, same, now)) = rw now (spent_not t.table.window t.outgoing j e n)

-- ---- calls

phase_done : (needs lost said : Bool) (p : Phase) (r : Reply) → is_done (unless_refused needs lost p said r) ≡ true → is_lingering p ≡ false
phase_done needs lost said p r n = grind arith

phase_moves : (needs lost said : Bool) (p : Phase) (r : Reply) → (bytes_moved (unless_refused needs lost p said r) == 0) ≡ false → is_lingering p ≡ false
phase_moves needs lost said p r n = grind arith

-- a change of the record that is there
at-reaped : (id : ℕ) (f : End → End) (s : Session) (e : End) → look id s.table.entries ≡ Some e → Stays s.table.window f e → IsReaped s → IsReaped (on_stream id f s)
at-reaped id f s e l keeps h = reaped-on id f s (λ d m. let P : End → Type 0 = λ x. Stays s.table.window f x in subst P (one_some e d (sym l ∙ m)) keeps) h

call-at : (id : ℕ) (b : Bool) (f : End → End) (s : Session) (e : End) → look id s.table.entries ≡ Some e → IsReaped s → (b ≡ true → Stays s.table.window f e) → IsReaped (if b then on_stream id f s else s)
call-at id b f s e l h keeps = split IsReaped b (on_stream id f s) s (λ t. at-reaped id f s e l (keeps t) h) (λ n. h)

call-moves : (id : ℕ) (b : Bool) (f : End → End) (s : Session) (e : End) → look id s.table.entries ≡ Some e → IsReaped s → (b ≡ false → Stays s.table.window f e) → IsReaped (if b then s else on_stream id f s)
call-moves id b f s e l h keeps = split IsReaped b s (on_stream id f s) (λ n. h) (λ t. at-reaped id f s e l (keeps t) h)

-- what a call keeps of the other parts
pub same-reaped : (s t : Session) → t.table ≡ s.table → t.outgoing ≡ s.outgoing → t.status ≡ s.status → IsReaped s → IsReaped t
same-reaped s t table begun status h = record {
  none_spent = λ c j e l. rw (table, begun) (h.none_spent (sym (ap is_closed status) ∙ c) j e (sym (ap (λ x. look j x.entries) table) ∙ l));
  none_begun = λ k. ap (λ b. b.of) begun ∙ h.none_begun (sym (ap (λ b. is_empty b.bytes) begun) ∙ k);
}

accept-reaped : (ids : List ℕ) (s : Session) → IsReaped s → IsReaped (accept_of ids s).next
accept-reaped [] s h = let Q : Outcome → Type 0 = λ x. IsReaped x.next in split Q (is_lost s.status) _ _ (λ t. h) (λ f. h)
accept-reaped (id ∷ ids) s h =
    reaped-on id (end_accept (is_lost s.status)) (record s { offered = ids }) (λ e l. inl refl) (same-reaped s (record s { offered = ids }) refl refl refl h)

forget-reaped : (id : ℕ) (s : Session) (e : End) → Distinct s.table.entries → look id s.table.entries ≡ Some e → IsReaped s → IsReaped (forget_outcome id s e).next
forget-reaped id s e d l h =
    split IsReaped (is_done (forget_reply e.phase)) (reap id (on_stream id (end_forget (is_lost s.status)) s)) s
    (λ t. reaped-reaped id (on_stream id (end_forget (is_lost s.status)) s) (distinct-change id (end_forget (is_lost s.status)) s.table.entries d) (others-kept id (end_forget (is_lost s.status)) s h) h.none_begun) (λ n. h)

pub call-reaped : (c : Call) (s : Session) → IsWithin s → IsReaped s → IsReaped (outcome c s).next
call-reaped call.Open s w h = open_or-keeps IsReaped s _ h (λ l small few. added-reaped s.next _ s (session_opened false [] s) refl refl refl refl refl h)
call-reaped (call.OpenWith bytes) s w h = open_or-keeps IsReaped s _ h (λ l small few. added-reaped s.next _ s (session_opened true (take first_credit bytes) s) refl refl refl refl refl h)
call-reaped call.Accept s w h = let Q : Outcome → Type 0 = λ x. IsReaped x.next in split Q (is_closed s.status) _ _ (λ t. h) (λ f. accept-reaped s.offered s h)
call-reaped (call.Write id bytes) s w h = with-keeps IsReaped id (write_outcome id bytes s) s h (λ e l.
    call-moves id _ _ s e l h (λ n. inl (phase_moves true (is_lost s.status) e.writer.finished e.phase _ n)))
call-reaped (call.Read id max) s w h = with-keeps IsReaped id (read_outcome id max s) s h (λ e l.
    call-moves id _ _ s e l h (λ n. inl (phase_moves false false false e.phase _ n)))
call-reaped (call.Finish id) s w h = with-keeps IsReaped id (finish_outcome id s) s h (λ e l.
    call-at id _ _ s e l h (λ t. inl (phase_done true (is_lost s.status) e.writer.finished e.phase _ t)))
call-reaped (call.Reset id) s w h = with-keeps IsReaped id (reset_outcome id s) s h (λ e l. call-at id _ _ s e l h (λ t. inl refl))
call-reaped (call.Forget id) s w h = with-keeps IsReaped id (forget_outcome id s) s h (λ e l. forget-reaped id s e w.table.distinct l h)
call-reaped call.Ping s w h =
    let Q : Outcome → Type 0 = λ x. IsReaped x.next in
    split Q (is_closed s.status) _ _ (λ t. h) (λ f. split Q (is_lost s.status) _ _ (λ t. h) (λ g.
    split Q (nat_le most_pings (length s.pings.pending)) _ _ (λ t. h) (λ k. same-reaped s _ refl refl refl h)))
call-reaped (call.Ponged n) s w h =
    let Q : Outcome → Type 0 = λ x. IsReaped x.next in
    split Q (is_closed s.status) _ _ (λ t. h) (λ f. split Q (has_back n s.pings.pending) _ _ (λ t. same-reaped s _ refl refl refl h) (λ g.
    split Q (is_lost s.status) _ _ (λ t. h) (λ k. h)))
call-reaped call.GoAway s w h =
    let Q : Outcome → Type 0 = λ x. IsReaped x.next in
    split Q (is_closed s.status) _ _ (λ t. h) (λ f. split Q (is_lost s.status) _ _ (λ t. h) (λ g. same-reaped s _ refl refl refl h))
call-reaped call.Close s w h = record { none_spent = λ c j e l. absurd cc; none_begun = λ k. refl }
