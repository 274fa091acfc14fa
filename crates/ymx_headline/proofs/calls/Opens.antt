-- A stream that is opened is opened in the machine, and refused for the same reason.
use Rattle.std.proofs.Common.{◌≡◌, ℕ, ◌+◌, ◌≤◌, List, [], ◌∷◌, ◌++◌, length, take, min, Bool, true, false, not, nat_le, if◌then◌else◌, Option, None, Some, refl, sym, ap, subst, ◌∙◌, inl, inr, arith}
use Rattle.std.specs.Prelude.{count_by}
use Rattle.std.proofs.lemmas.Grind.{common_steps}
use Rattle.ymx_model.specs.declared.types.Role.{Role}
use Rattle.ymx_model.specs.declared.types.Status.{Status}
use Rattle.ymx_model.specs.declared.types.Status.TheVariants.{Running, Lost as LostStatus, Broken, Closed as ClosedStatus}
use Rattle.ymx_machine.specs.shared.Events.{Call}
use Rattle.ymx_machine.specs.declared.types.Call.TheVariants as call
use Rattle.ymx_machine.specs.shared.Events.{Reply}
use Rattle.ymx_machine.specs.declared.types.Reply.TheVariants.{Opened, OpenedWith, Refused}
use Rattle.ymx_machine.specs.declared.types.CallFault.{CallFault}
use Rattle.ymx_machine.specs.declared.types.CallFault.TheVariants.{Lost, Closed, PeerAway, OpensPending, TooMany, Exhausted}
use Rattle.ymx_model.specs.declared.types.Event.TheVariants as event
use Rattle.ymx_model.specs.declared.types.Response.{Response}
use Rattle.ymx_machine.specs.shared.Limits.{first_credit, most_records, most_unacknowledged}
use Rattle.ymx_machine.specs.stream.Lanes.{is_here}
use Rattle.ymx_machine.specs.stream.Streams.{Stream, opened_stream, stream_write}
use Rattle.ymx_machine.specs.shared.Phases.Phase.{Unborn, Live}
use Rattle.ymx_model.specs.session.Records.{End, new_end, end_write}
use Rattle.ymx_machine.specs.shared.Lists.{look}
use Rattle.ymx_model.specs.session.Sessions.{Session, is_running, is_lost, is_closed}
use Rattle.ymx_model.specs.session.Calls.{Outcome, outcome, refused, answers, open_or, session_opened, reply_opens, is_unacknowledged, takes_memory}
use Rattle.ymx_model.specs.session.Histories.{CallGives}
use Rattle.ymx_model.specs.session.Histories.CallGives.{Outcome as HasOutcome, NoMemory}
use Rattle.ymx_model.specs.world.Worlds.{World}
use Rattle.ymx_machine.specs.machine.Machines.{Machine, recorded, unacknowledged}
use Rattle.ymx_machine.specs.machine.CallRules.{Rule, OpenSideRule, OpenRule, is_close, open_refusal, machine_opened as machine_opened}
use Rattle.ymx_headline.specs.stream.Worlds.{StreamWorld as Streams}
use Rattle.ymx_headline.proofs.stream.Happenings.{Adds, Can, put}
use Rattle.ymx_headline.proofs.stream.Happenings.Act.{Opens}
use Rattle.ymx_headline.proofs.stream.Worlds.{step}
use Rattle.ymx_law_session.specs.Limits.{IsWithin}
use Rattle.ymx_law_session.specs.Reaped.{IsReaped}
use Rattle.ymx_machine.proofs.Lists.{look-added_same, look-added_other}
use Rattle.ymx_law_session.proofs.limits.HistoriesKeep.{gives-keep}
use Rattle.ymx_law_session.proofs.given_up.ReapedFrames.{gives-reaped}
use Rattle.ymx_headline.proofs.machine.order.Openers.{free}
use Rattle.ymx_headline.proofs.machine.order.Cores.{core}
use Rattle.ymx_machine.proofs.Tests.{when}
use Rattle.ymx_headline.specs.Agrees.{AgreesAs, IsNumbered, Keeps, found, is_rejected}
use Rattle.ymx_headline.proofs.relation.Mirrors.{refines-same, orders, order-call, parity}
use Rattle.ymx_headline.proofs.relation.Tables.{add-found, keeps-put, table-changes}
use Rattle.ymx_headline.proofs.relation.Counts.{Stands, no-record, stands, same-recorded, same-unacknowledged}
use Rattle.ymx_headline.proofs.calls.StreamCalls.{Called, open-rule, closed-rule, refused-at_both}

-- ---- the order of refusals

abbrev first_refusal : (closed lost away : Bool) (next pending held : ℕ) → Option CallFault
first_refusal closed lost away next pending held =
    if closed then Some Closed
    else if lost then Some Lost
    else if away then Some PeerAway
    else if nat_le 4294967294 next then Some Exhausted
    else if nat_le 256 pending then Some OpensPending
    else if nat_le 1024 held then Some TooMany
    else None

abbrev refusal : Session → Option CallFault
refusal s = first_refusal (is_closed s.status) (is_lost s.status) s.away.there s.next (count_by (is_unacknowledged s.role) s.table.entries) (length s.table.entries)

abbrev unless : Option CallFault → Session → Outcome → Outcome
unless None s o = o
unless (Some fault) s o = refused fault s

ifs : (a b c d e f : Bool) (s : Session) (o : Outcome) →
    (if a then refused Closed s else if b then refused Lost s else if c then refused PeerAway s else if d then refused Exhausted s else if e then refused OpensPending s else if f then refused TooMany s else o)
    ≡ unless (if a then Some Closed else if b then Some Lost else if c then Some PeerAway else if d then Some Exhausted else if e then Some OpensPending else if f then Some TooMany else None) s o
ifs true b c d e f s o = refl
ifs false true c d e f s o = refl
ifs false false true d e f s o = refl
ifs false false false true e f s o = refl
ifs false false false false true f s o = refl
ifs false false false false false true s o = refl
ifs false false false false false false s o = refl

open-is : (s : Session) (o : Outcome) → open_or s o ≡ unless (refusal s) s o
open-is s o = ifs (is_closed s.status) (is_lost s.status) s.away.there (nat_le 4294967294 s.next) (nat_le most_unacknowledged (count_by (is_unacknowledged s.role) s.table.entries)) (nat_le most_records (length s.table.entries)) s o

same-refusal : (x y : Role) (w : World) (m : Machine) (h : AgreesAs x y w m) → is_closed w.a.status ≡ false → open_refusal m ≡ refusal w.a
same-refusal x y w m h c =
    of false m.me.lost (is_here m.you.away) m.me.next (unacknowledged m) (recorded m) (sym c) (h.a.whole.lost c) h.b.away.arrived h.a.whole.next (same-unacknowledged x y w m h) (same-recorded x y w m h)
  where
    of : (a b c : Bool) (d e f : ℕ) → a ≡ is_closed w.a.status → b ≡ is_lost w.a.status → c ≡ w.a.away.there → d ≡ w.a.next →
        e ≡ count_by (is_unacknowledged w.a.role) w.a.table.entries → f ≡ length w.a.table.entries → first_refusal a b c d e f ≡ refusal w.a
    of a b c d e f p q r s t u = rw (p, q, r, s, t, u) refl

-- one that isn't refused runs
refusal-runs : (st : Status) (c : Bool) (d e f : ℕ) → first_refusal (is_closed st) (is_lost st) c d e f ≡ None → is_running st ≡ true
refusal-runs Running c d e f n = refl
refusal-runs LostStatus c d e f n = absurd cc
refusal-runs (Broken g) c d e f n = absurd cc
refusal-runs ClosedStatus c d e f n = absurd cc

-- ---- the stream

-- a number that the machine doesn't have: no end of it was made
record IsNew (j : ℕ) (g : Streams) (answers : List Response) (entries : List (ℕ × End)) : Type 0 where
  mine : (g.a.ends j).phase ≡ Unborn
  yours : (g.b.ends j).phase ≡ Unborn
  none : look j entries ≡ None
  unrejected : is_rejected j answers ≡ false

new-at : (j : ℕ) (g : Streams) (answers : List Response) (entries : List (ℕ × End)) (o : Option Stream) (r : Option End) → o ≡ None → look j entries ≡ r →
    Stands g.a.window g.b.window answers j g o r → IsNew j g answers entries
new-at j g answers entries (Some s) r e l h = absurd cc
new-at j g answers entries None (Some d) e l h = absurd (no-record d.phase (ap (λ (z : End). z.phase) (h.keeps.0 ∙ h.one.mine)) (h.recorded d refl))
new-at j g answers entries None None e l h = record {
  mine = ap (λ (z : End). z.phase) h.one.mine;
  yours = ap (λ (z : End). z.phase) h.one.yours;
  none = l;
  unrejected = sym h.keeps.1.rst ∙ ap (λ (z : End). z.marks.rst) h.one.mine;
}

pub opens-agree : (x y : Role) (w : World) (m : Machine) (h : AgreesAs x y w m) (with_data : Bool) (bytes : List ℕ) → is_running w.a.status ≡ true → length bytes ≤ first_credit →
    IsWithin (session_opened with_data bytes w.a) → IsReaped (session_opened with_data bytes w.a) → IsNumbered (machine_opened bytes m) → AgreesAs x y (record w { a = session_opened with_data bytes w.a }) (machine_opened bytes m)
opens-agree x y w m h with_data bytes runs fits within reaped order =
    let g = h.streams in
    let j = m.me.next in
    let none : look j m.streams ≡ None = free (core m) (orders m (parity x y w m h) h.order).numbered in
    let new = new-at j g w.a.answers w.a.table.entries (look j m.streams) (look j w.a.table.entries) none refl (stands x y w m h j) in
    let can : Can (Opens j with_data bytes) g = (h.a.records.over ∙ ap not runs, new.mine, new.yours, fits) in
    let r = step (Opens j with_data bytes) g (found m) can h.refines in
    let mine : g.a.window ≡ m.me.window = h.a.records.window ∙ sym h.a.whole.window in
    let yours : g.b.window ≡ m.you.window = h.b.records.window ∙ sym h.b.whole.window in
    let e : End = end_write bytes (new_end w.a.table.window Live true with_data) in
    let f : End = end_write bytes (new_end g.a.window Live true with_data) in
    let entries : List (ℕ × End) = w.a.table.entries ++ (w.a.next, e) ∷ [] in
    let made : look j entries ≡ Some e = rw h.a.whole.next (look-added_same w.a.next e w.a.table.entries (subst (λ k. look k w.a.table.entries ≡ None) h.a.whole.next new.none)) in
    let same : e ≡ f = ap (λ n. end_write bytes (new_end n Live true with_data)) (sym h.a.records.window) in
    let streams : List (ℕ × Stream) = m.streams ++ (j, stream_write bytes (opened_stream m.me.window m.you.window)) ∷ [] in
    table-changes x y w m h (session_opened with_data bytes w.a).table (w.a.next + 2) (m.me.next + 2) w.a.offered m.me.offered streams (put j f g.a.ends)
    (ap (λ n. n + 2) h.a.whole.next) h.a.whole.offered refl
    (keeps-put w.a.answers j w.a.table.entries entries f g.a.ends (λ i n. h.a.records.each i) (λ i n. look-added_other w.a.next i e w.a.table.entries (λ q. n (q ∙ sym h.a.whole.next)))
    (subst (λ o. Keeps w.a.answers j o f) (sym made) (same, new.unrejected)))
    within reaped
    (refines-same _ r.0 (found (record m { streams = streams })) (add-found j _ m r.0 (subst (λ n. Adds j (stream_write bytes (opened_stream m.me.window n)) (found m) r.0) yours
    (subst (λ n. Adds j (stream_write bytes (opened_stream n g.b.window)) (found m) r.0) mine r.1))) r.2)
    order

-- ---- the calls

record IsOpen (c : Call) (with_data : Bool) (bytes : List ℕ) (mine yours : Reply) (s : Session) (m : Machine) : Type 0 where
  done : outcome c s ≡ open_or s (answers mine (session_opened with_data bytes s))
  memory : takes_memory c s ≡ reply_opens (outcome c s).reply
  rule : (r : Reply) (n : Machine) → OpenRule (open_refusal m) yours bytes m r n → OpenSideRule c m r n
  same : mine ≡ yours
  fits : length bytes ≤ first_credit
  open_ : is_close c ≡ false

refuses : (c : Call) (s t : Session) (reply : Reply) (fault : CallFault) → takes_memory c s ≡ reply_opens (outcome c s).reply → outcome c s ≡ refused fault s → CallGives s c reply t → (reply ≡ Refused fault) × (t ≡ s)
refuses c s t reply fault m e (HasOutcome answer state) = (answer ∙ ap (λ (o : Outcome). o.reply) e, state ∙ ap (λ (o : Outcome). o.next) e)
refuses c s t reply fault m e (NoMemory needs answer state) =
    let no : false ≡ true = sym (m ∙ ap (λ (o : Outcome). reply_opens o.reply) e) ∙ needs in absurd cc

-- made, or no memory
made : (x y : Role) (w : World) (m : Machine) (h : AgreesAs x y w m) (s : Session) (c : Call) (with_data : Bool) (bytes : List ℕ) (mine yours reply : Reply) → IsOpen c with_data bytes mine yours w.a m →
    is_closed w.a.status ≡ false → refusal w.a ≡ None → outcome c w.a ≡ answers mine (session_opened with_data bytes w.a) → IsWithin s → IsReaped s → CallGives w.a c reply s → Called x y c reply w s m
made x y w m h s c with_data bytes mine yours reply i open_ none e within reaped (HasOutcome answer state) =
    let now : s ≡ session_opened with_data bytes w.a = state ∙ ap (λ (o : Outcome). o.next) e in
    let rule : Rule c m reply (machine_opened bytes m) = open-rule c m (machine_opened bytes m) reply (h.a.whole.closed ∙ open_) (i.rule reply (machine_opened bytes m)
    (subst (λ o. OpenRule o yours bytes m reply (machine_opened bytes m)) (sym (same-refusal x y w m h open_ ∙ none)) (inl (answer ∙ (ap (λ (o : Outcome). o.reply) e ∙ i.same), refl)))) in
    let runs = refusal-runs w.a.status w.a.away.there w.a.next (count_by (is_unacknowledged w.a.role) w.a.table.entries) (length w.a.table.entries) none in
    let P : Session → Type 0 = λ z. Called x y c reply w z m in
    subst P (sym now) (record {
      mid = machine_opened bytes m;
      ids = [];
      now = machine_opened bytes m;
      rule = rule;
      releases = refl;
      agrees = opens-agree x y w m h with_data bytes runs i.fits (subst IsWithin now within) (subst IsReaped now reaped)
          (order-call c m (machine_opened bytes m) (machine_opened bytes m) reply [] (parity x y w m h) rule refl h.order);
    })
made x y w m h s c with_data bytes mine yours reply i open_ none e within reaped (NoMemory needs answer state) =
    refused-at_both x y c reply w s m state (open-rule c m m reply (h.a.whole.closed ∙ open_) (i.rule reply m
    (subst (λ o. OpenRule o yours bytes m reply m) (sym (same-refusal x y w m h open_ ∙ none)) (inr (answer, refl))))) h

open-called : (x y : Role) (w : World) (m : Machine) (h : AgreesAs x y w m) (s : Session) (c : Call) (with_data : Bool) (bytes : List ℕ) (mine yours reply : Reply) → IsOpen c with_data bytes mine yours w.a m →
    CallGives w.a c reply s → Called x y c reply w s m
open-called x y w m h s c with_data bytes mine yours reply i gives = elim (when (is_closed w.a.status)) [
  | inl t ↦ (
      let o = answers mine (session_opened with_data bytes w.a) in
      let e : outcome c w.a ≡ refused Closed w.a = i.done ∙ (open-is w.a o ∙ ap (λ z. unless z w.a o) (closed-first t)) in
      let k = refuses c w.a s reply Closed i.memory e gives in
      refused-at_both x y c reply w s m k.1 (closed-rule c m m reply (h.a.whole.closed ∙ t) i.open_ (k.0, refl)) h)
  | inr f ↦ of f (refusal w.a) refl
]
  where
    closed-first : is_closed w.a.status ≡ true → refusal w.a ≡ Some Closed
    closed-first t = rw t refl

    of : is_closed w.a.status ≡ false → (o : Option CallFault) → refusal w.a ≡ o → Called x y c reply w s m
    of f (Some fault) q =
        let o = answers mine (session_opened with_data bytes w.a) in
        let e : outcome c w.a ≡ refused fault w.a = i.done ∙ (open-is w.a o ∙ ap (λ z. unless z w.a o) q) in
        let k = refuses c w.a s reply fault i.memory e gives in
        refused-at_both x y c reply w s m k.1 (open-rule c m m reply (h.a.whole.closed ∙ f) (i.rule reply m
        (subst (λ z. OpenRule z yours bytes m reply m) (sym (same-refusal x y w m h f ∙ q)) (k.0, refl)))) h
    of f None q =
        let o = answers mine (session_opened with_data bytes w.a) in
        made x y w m h s c with_data bytes mine yours reply i f q (i.done ∙ (open-is w.a o ∙ ap (λ z. unless z w.a o) q))
        (gives-keep (λ b z. true) w.a s (event.Call c) reply gives h.a.within) (gives-reaped (λ b z. true) w.a s (event.Call c) reply gives h.a.within h.a.reaped) gives

short : (n : ℕ) (bytes : List ℕ) → length (take n bytes) ≤ n
short n bytes = grind (arith, common_steps)

pub opens-called : (x y : Role) (w : World) (m : Machine) (h : AgreesAs x y w m) (s : Session) (reply : Reply) → CallGives w.a call.Open reply s → Called x y call.Open reply w s m
opens-called x y w m h s reply gives =
    open-called x y w m h s call.Open false [] (Opened w.a.next) (Opened m.me.next) reply
    (record { done = refl; memory = refl; rule = λ r n k. k; same = ap (λ n. Opened n) (sym h.a.whole.next); fits = omega arith; open_ = refl }) gives

pub opens_with-called : (bytes : List ℕ) (x y : Role) (w : World) (m : Machine) (h : AgreesAs x y w m) (s : Session) (reply : Reply) → CallGives w.a (call.OpenWith bytes) reply s → Called x y (call.OpenWith bytes) reply w s m
opens_with-called bytes x y w m h s reply gives =
    open-called x y w m h s (call.OpenWith bytes) true (take first_credit bytes) (OpenedWith w.a.next (min (length bytes) first_credit)) (OpenedWith m.me.next (min (length bytes) first_credit)) reply
    (record { done = refl; memory = refl; rule = λ r n k. k; same = ap (λ n. OpenedWith n (min (length bytes) first_credit)) (sym h.a.whole.next); fits = short first_credit bytes; open_ = refl }) gives
