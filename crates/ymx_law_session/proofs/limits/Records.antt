-- A session stays within its limits when a record changes, comes or goes.
use Rattle.std.proofs.Common.{◌≡◌, ◌≢◌, ◌⊎◌, inl, inr, ℕ, ◌+◌, ◌-◌, ◌<◌, ◌≤◌, List, [], ◌∷◌, length, true, false, not, ◌&&◌, nat_lt, if◌then◌else◌, Option, None, Some, refl, sym, ◌∙◌, arith, length-append}
use Rattle.std.specs.Prelude.{is_some}
use Rattle.std.proofs.lemmas.Bool.Decides.{nat_tests}
use Rattle.ymx_model.specs.declared.types.Role.{Role}
use Rattle.ymx_machine.specs.shared.Phases.{is_offered, is_live, is_lingering, Phase}
use Rattle.ymx_model.specs.session.Records.{End, takes_payload}
use Rattle.ymx_model.specs.session.FramesDue.{is_due}
use Rattle.ymx_model.specs.session.Tables.{Table, with_record, insert_record, remove_record, pass_turn}
use Rattle.ymx_machine.specs.shared.Lists.{look, change, without, place, Distinct}
use Rattle.ymx_machine.specs.shared.Limits.{most_records}
use Rattle.ymx_model.specs.session.Sessions.{Session, Outgoing, Incoming, belongs_to, is_spent, reap, on_stream}
use Rattle.ymx_model.specs.session.Sessions.Incoming.{Head, Payload}
use Rattle.ymx_law_session.specs.Limits.{IsEndWithin, IsTableWithin, HasBegunRecord, IsIncomingWithin, IsPayloadWithin, IsWithin, is_offered_at}
use Rattle.ymx_machine.proofs.Tests.{split, differs, both_of, negated}
use Rattle.ymx_machine.proofs.Lists.{look_before, length-change, distinct-change, look-added_before, distinct-added, look-without_other, look-without_before, distinct-without, length-without, length-without_there, place-within}
use Rattle.ymx_law_session.proofs.limits.Owns.{next-on, next-removed}
use Rattle.ymx_law_session.proofs.limits.Offers.{offered-on, taken-change, offered-removed_other}

-- ---- the table

pub table-on : (id : ℕ) (f : End → End) (t : Table) → ((e : End) → look id t.entries ≡ Some e → IsEndWithin t.window e → IsEndWithin t.window (f e)) →
    IsTableWithin t → IsTableWithin (with_record id f t)
table-on id f t keeps h = record {
  narrowest = h.narrowest;
  widest = h.widest;
  records = λ j e l. of j e (look_before id j f t.entries e l);
  distinct = distinct-change id f t.entries h.distinct;
  count = omega (arith, h.count, length-change id f t.entries);
  turn = omega (arith, h.turn, length-change id f t.entries);
}
  where
    of : (j : ℕ) (e : End) → ((d : End) × (look j t.entries ≡ Some d) × (((j ≡ id) × (e ≡ f d)) ⊎ ((j ≢ id) × (e ≡ d)))) → IsEndWithin t.window e
    of j e (d, was, inl (same, now)) =
        let l : look id t.entries ≡ Some d = rw (← same) was in
        rw now (keeps d l (h.records id d l))
    of j e (d, was, inr (n, now)) = rw now (h.records j d was)

pub table-added : (id : ℕ) (e : End) (t : Table) → look id t.entries ≡ None → length t.entries < most_records → IsEndWithin t.window e →
    IsTableWithin t → IsTableWithin (insert_record id e t)
table-added id e t none l new h = record {
  narrowest = h.narrowest;
  widest = h.widest;
  records = λ j d k. of j d (look-added_before id j e d t.entries k);
  distinct = distinct-added id e t.entries none h.distinct;
  count = omega (arith, length-append t.entries ((id, e) ∷ []));
  turn = omega (arith, h.turn, length-append t.entries ((id, e) ∷ []));
}
  where
    of : (j : ℕ) (d : End) → (look j t.entries ≡ Some d) ⊎ ((look j t.entries ≡ None) × (j ≡ id) × (d ≡ e)) → IsEndWithin t.window d
    of j d (inl was) = h.records j d was
    of j d (inr (n, same, now)) = rw now new

turn-removed : (p turn n m : ℕ) → p < n → m + 1 ≡ n → turn ≤ n → (if nat_lt p turn then turn - 1 else turn) ≤ m
turn-removed p turn n m l e k = grind (arith, nat_tests)

pub table-removed : (id : ℕ) (t : Table) → is_some (look id t.entries) ≡ true → IsTableWithin t → IsTableWithin (remove_record id t)
table-removed id t there h = record {
  narrowest = h.narrowest;
  widest = h.widest;
  records = λ j e l. h.records j e (look-without_before id j e t.entries h.distinct l).1;
  distinct = distinct-without id t.entries h.distinct;
  count = omega (arith, h.count, length-without id t.entries);
  turn = turn-removed (place id t.entries) t.turn (length t.entries) (length (without id t.entries)) (place-within id t.entries there) (length-without_there id t.entries there) h.turn;
}

pub table-served : (id : ℕ) (t : Table) → is_some (look id t.entries) ≡ true → IsTableWithin t → IsTableWithin (pass_turn id t)
table-served id t there h = record {
  narrowest = h.narrowest;
  widest = h.widest;
  records = h.records;
  distinct = h.distinct;
  count = h.count;
  turn = omega (arith, place-within id t.entries there);
}

-- ---- one record changes

-- what a change of a record must keep
pub record Keeps (window : ℕ) (f : End → End) (e : End) : Type 0 where
  pub within : IsEndWithin window e → IsEndWithin window (f e)
  pub offered : is_offered (f e).phase ≡ is_offered e.phase
  pub payload : takes_payload (f e) ≡ true → (takes_payload e ≡ true) × (e.reader.granted ≤ (f e).reader.granted)
  pub unacked : is_live (f e).phase ≡ true → not (f e).marks.acked ≡ true → (is_live e.phase ≡ true) × (not e.marks.acked ≡ true)

pub begun-on : (id : ℕ) (f : End → End) (of : Option ℕ) (ps : List (ℕ × End)) →
    ((e : End) → look id ps ≡ Some e → is_offered e.phase ≡ false → is_offered (f e).phase ≡ false) → HasBegunRecord of ps → HasBegunRecord of (change id f ps)
begun-on id f None ps keeps h = tt
begun-on id f (Some j) ps keeps h = taken-change id j f ps keeps h

payload-on : (id : ℕ) (f : End → End) (j missing : ℕ) (role : Role) (next : ℕ) (ps : List (ℕ × End)) →
    ((e : End) → look id ps ≡ Some e → takes_payload (f e) ≡ true → (takes_payload e ≡ true) × (e.reader.granted ≤ (f e).reader.granted)) →
    IsPayloadWithin j missing role next ps → IsPayloadWithin j missing role next (change id f ps)
payload-on id f j missing role next ps keeps h = record { some = h.some; granted = λ e l. of e (look_before id j f ps e l); own = h.own }
  where
    of : (e : End) → ((d : End) × (look j ps ≡ Some d) × (((j ≡ id) × (e ≡ f d)) ⊎ ((j ≢ id) × (e ≡ d)))) → takes_payload e ≡ true → missing ≤ e.reader.granted
    of e (d, was, inl (same, now)) t =
        let l : look id ps ≡ Some d = rw (← same) was in
        let u : takes_payload (f d) ≡ true = rw (← now) t in
        let k = keeps d l u in
        let g : missing ≤ d.reader.granted = h.granted d was k.0 in
        let m : missing ≤ (f d).reader.granted = omega (arith, k.1) in rw now m
    of e (d, was, inr (n, now)) t = rw now (h.granted d was (rw (← now) t))

pub incoming-on : (id : ℕ) (f : End → End) (i : Incoming) (role : Role) (next : ℕ) (ps : List (ℕ × End)) →
    ((e : End) → look id ps ≡ Some e → takes_payload (f e) ≡ true → (takes_payload e ≡ true) × (e.reader.granted ≤ (f e).reader.granted)) →
    IsIncomingWithin i role next ps → IsIncomingWithin i role next (change id f ps)
incoming-on id f (Head bytes) role next ps keeps h = h
incoming-on id f (Payload j no_memory fin true) role next ps keeps h = h
incoming-on id f (Payload j no_memory fin false) role next ps keeps h = payload-on id f j no_memory role next ps keeps h

pub within-on : (id : ℕ) (f : End → End) (s : Session) → ((e : End) → look id s.table.entries ≡ Some e → IsEndWithin s.table.window e → Keeps s.table.window f e) →
    IsWithin s → IsWithin (on_stream id f s)
within-on id f s keeps h =
    let all = λ (e : End) (l : look id s.table.entries ≡ Some e). keeps e l (h.table.records id e l) in record {
      table = table-on id f s.table (λ e l. (all e l).within) h.table;
      offered = offered-on id f s.offered s.table.entries (λ e l. (all e l).offered) h.offered;
      pings = h.pings;
      answers = h.answers;
      outgoing = begun-on id f s.outgoing.of s.table.entries (λ e l o. (all e l).offered ∙ o) h.outgoing;
      incoming = incoming-on id f s.incoming s.role s.next s.table.entries (λ e l. (all e l).payload) h.incoming;
      next = next-on id f s.role s.next s.table.entries (λ e l o. sym (all e l).offered ∙ o) (λ e l own. (all e l).unacked) h.next;
    }

-- ---- one record goes

begun-removed : (id : ℕ) (of : Option ℕ) (ps : List (ℕ × End)) → belongs_to of id ≡ false → HasBegunRecord of ps → HasBegunRecord of (without id ps)
begun-removed id None ps n h = tt
begun-removed id (Some j) ps n h = rw (look-without_other id j ps (differs j id n)) h

pub incoming-removed : (id : ℕ) (i : Incoming) (role : Role) (next : ℕ) (ps : List (ℕ × End)) → Distinct ps →
    IsIncomingWithin i role next ps → IsIncomingWithin i role next (without id ps)
incoming-removed id (Head bytes) role next ps d h = h
incoming-removed id (Payload j no_memory fin true) role next ps d h = h
incoming-removed id (Payload j no_memory fin false) role next ps d h =
    record { some = h.some; granted = λ e l. h.granted e (look-without_before id j e ps d l).1; own = h.own }

pub within-removed : (id : ℕ) (s : Session) → is_some (look id s.table.entries) ≡ true → is_offered_at (look id s.table.entries) ≡ false → belongs_to s.outgoing.of id ≡ false →
    IsWithin s → IsWithin (record s { table = remove_record id s.table })
within-removed id s there off out h = record {
  table = table-removed id s.table there h.table;
  offered = offered-removed_other id s.offered s.table.entries h.table.distinct off h.offered;
  pings = h.pings;
  answers = h.answers;
  outgoing = begun-removed id s.outgoing.of s.table.entries out h.outgoing;
  incoming = incoming-removed id s.incoming s.role s.next s.table.entries h.table.distinct h.incoming;
  next = next-removed id s.role s.next s.table.entries h.table.distinct h.next;
}

lingers : (p : Phase) → is_lingering p ≡ true → is_offered p ≡ false
lingers p e = grind arith

spent : (window : ℕ) (begun : Outgoing) (id : ℕ) (o : Option End) → is_spent window begun id o ≡ true →
    (is_some o ≡ true) × (is_offered_at o ≡ false) × (belongs_to begun.of id ≡ false)
spent window begun id None e = cc
spent window begun id (Some e) q =
    let a = both_of (is_lingering e.phase && not (is_due window e)) (not (belongs_to begun.of id)) q in
    let b = both_of (is_lingering e.phase) (not (is_due window e)) a.0 in
    (refl, lingers e.phase b.0, negated (belongs_to begun.of id) a.1)

pub within-reaped : (id : ℕ) (s : Session) → IsWithin s → IsWithin (reap id s)
within-reaped id s h =
    split IsWithin (is_spent s.table.window s.outgoing id (look id s.table.entries)) (record s { table = remove_record id s.table }) s
    (λ t. let p = spent s.table.window s.outgoing id (look id s.table.entries) t in within-removed id s p.0 p.1 p.2 h) (λ n. h)
