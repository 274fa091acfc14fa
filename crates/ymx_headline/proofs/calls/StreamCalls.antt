-- A call on a stream is the machine's call, and a record that went is a release.
use Rattle.std.proofs.Common.{◌≡◌, ℕ, List, [], ◌∷◌, Bool, true, false, not, ◌&&◌, ◌||◌, Option, None, Some, refl, sym, ap, subst, ◌∙◌, if◌then◌else◌, arith, inl, inr}
use Rattle.ymx_model.specs.declared.types.Role.{Role}
use Rattle.ymx_machine.specs.shared.Events.{Call}
use Rattle.ymx_machine.specs.shared.Events.{Reply}
use Rattle.ymx_machine.specs.declared.types.CallFault.TheVariants.{Closed}
use Rattle.ymx_model.specs.declared.types.Event.TheVariants as event
use Rattle.ymx_machine.specs.shared.Phases.{Phase, is_recorded, is_live, is_reset}
use Rattle.ymx_machine.specs.stream.Streams.{Stream, after_move}
use Rattle.ymx_machine.specs.shared.Phases.Phase.{WasReset, Lingering, Gone}
use Rattle.ymx_machine.specs.stream.Streams.Move.{Released}
use Rattle.ymx_machine.specs.stream.StreamRules.{StreamCall}
use Rattle.std.specs.Prelude.{MatchBool}
use Rattle.ymx_machine.specs.shared.Replies.{is_done}
use Rattle.ymx_machine.specs.stream.StreamRules.StreamCall.{Writes, Reads, Finishes, Resets, Forgets}
use Rattle.ymx_model.specs.session.Records.{End, end_finish, end_reset, end_forget}
use Rattle.ymx_model.specs.session.FramesDue.{next_kind}
use Rattle.ymx_machine.specs.shared.Lists.{look, change}
use Rattle.ymx_model.specs.session.Sessions.{Session, is_lost, is_closed}
use Rattle.ymx_model.specs.session.Histories.{CallGives}
use Rattle.ymx_model.specs.world.Worlds.{World}
use Rattle.ymx_machine.specs.machine.Machines.{Machine}
use Rattle.ymx_machine.specs.machine.CallRules.{Rule, RefusedWith, OpenSideRule, OnStream, is_close}
use Rattle.ymx_machine.specs.machine.FreeMoves.{Releases as ReleasesOf}
use Rattle.ymx_headline.specs.stream.Answers.{EndRule, end_released}
use Rattle.ymx_headline.specs.stream.Worlds.{StreamWorld as Streams}
use Rattle.ymx_headline.proofs.stream.Happenings.{Can, acts, put}
use Rattle.ymx_headline.proofs.stream.Happenings.Act.{Calls, Releases}
use Rattle.ymx_headline.proofs.stream.Nothing.{absent-end}
use Rattle.ymx_headline.proofs.stream.Worlds.{step, put-same, put-other}
use Rattle.ymx_law_session.specs.Limits.{IsWithin}
use Rattle.ymx_law_session.specs.Reaped.{IsReaped}
use Rattle.ymx_machine.proofs.Tests.{split, when}
use Rattle.ymx_law_session.proofs.limits.HistoriesKeep.{gives-keep}
use Rattle.ymx_law_session.proofs.given_up.ReapedFrames.{gives-reaped}
use Rattle.ymx_headline.proofs.records.Ends.{call_on, Has}
use Rattle.ymx_headline.proofs.records.Calls.{calls}
use Rattle.ymx_headline.specs.Agrees.{AgreesAs, Keeps, found, is_absent, is_rejected}
use Rattle.ymx_headline.proofs.relation.Mirrors.{refines-same, order-call, parity}
use Rattle.ymx_headline.proofs.relation.Tables.{change-found, keeps-put, table-changes, Reacts, reacts, over-is}
use Rattle.ymx_headline.proofs.calls.Alone.{OnlyStream, only-stream, closed-refuses, none-refuses}

-- what a call at side A has to come to
pub record Called (x y : Role) (c : Call) (reply : Reply) (w : World) (s : Session) (m : Machine) : Type 0 where
  pub mid : Machine
  pub ids : List ℕ
  pub now : Machine
  pub rule : Rule c m reply mid
  pub releases : ReleasesOf ids mid now
  pub agrees : AgreesAs x y (record w { a = s }) now

-- the machine's step is the call alone, and no record goes
pub called-alone : (x y : Role) (c : Call) (reply : Reply) (w : World) (s : Session) (m : Machine) (t : Session) (now : Machine) → s ≡ t → Rule c m reply now → AgreesAs x y (record w { a = t }) now → Called x y c reply w s m
called-alone x y c reply w s m t now e r h =
    let P : Session → Type 0 = λ z. Called x y c reply w z m in
    subst P (sym e) (record { mid = now; ids = []; now = now; rule = r; releases = refl; agrees = h })

-- ---- the rule of a call

pub so-false : (b : Bool) (P Q : Type 0) → b ≡ false → Q → MatchBool b P Q
so-false true P Q e q = absurd cc
so-false false P Q e q = q

pub so-true : (b : Bool) (P Q : Type 0) → b ≡ true → P → MatchBool b P Q
so-true true P Q e p = p
so-true false P Q e p = absurd cc

and-true : (a b : Bool) → a ≡ true → b ≡ false → (a && not b) ≡ true
and-true a b p q = rw (p, q) refl

and-false : (a b : Bool) → a ≡ false → (a && b) ≡ false
and-false a b p = rw p refl

pub open-rule : (c : Call) (m n : Machine) (r : Reply) → m.me.closed ≡ false → OpenSideRule c m r n → Rule c m r n
open-rule c m n r e p = so-false _ _ _ (and-false m.me.closed (not (is_close c)) e) p

pub closed-rule : (c : Call) (m n : Machine) (r : Reply) → m.me.closed ≡ true → is_close c ≡ false → RefusedWith Closed m r n → Rule c m r n
closed-rule c m n r e f p = so-true _ _ _ (and-true m.me.closed (is_close c) e f) p

not-close : (c : StreamCall) (j : ℕ) → is_close (call_on c j) ≡ false
not-close (Writes bytes) j = refl
not-close (Reads max) j = refl
not-close Finishes j = refl
not-close Resets j = refl
not-close Forgets j = refl

stream-rule : (c : StreamCall) (j : ℕ) (m n : Machine) (r : Reply) → OnStream j c (look j m.streams) m r n → OpenSideRule (call_on c j) m r n
stream-rule (Writes bytes) j m n r h = h
stream-rule (Reads max) j m n r h = h
stream-rule Finishes j m n r h = h
stream-rule Resets j m n r h = h
stream-rule Forgets j m n r h = h

-- a call that is refused at both
pub refused-at_both : (x y : Role) (c : Call) (reply : Reply) (w : World) (s : Session) (m : Machine) → s ≡ w.a → Rule c m reply m → AgreesAs x y w m → Called x y c reply w s m
refused-at_both x y c reply w s m e r h = called-alone x y c reply w s m w.a m e r h

-- ---- an end without a record

absent-idle : (p : Phase) → is_absent p ≡ true → (is_live p || is_reset p) ≡ false
absent-idle p e = grind arith

-- ---- a record that stays is recorded

recorded_not_gone : (p : Phase) → is_recorded p ≡ true → p ≡ Gone → ⊥
recorded_not_gone p h g = grind arith

phase-kept : (e f : End) → is_recorded e.phase ≡ true → f.phase ≡ e.phase → f.phase ≡ Gone → ⊥
phase-kept e f h k g = recorded_not_gone e.phase h (sym k ∙ g)

if-phase : (b : Bool) (e d f : End) → is_recorded e.phase ≡ true → is_recorded d.phase ≡ true → f ≡ (if b then d else e) → f.phase ≡ Gone → ⊥
if-phase true e d f h k q g = recorded_not_gone d.phase k (ap (λ (z : End). z.phase) (sym q) ∙ g)
if-phase false e d f h k q g = recorded_not_gone e.phase h (ap (λ (z : End). z.phase) (sym q) ∙ g)

forgotten : (lost : Bool) (e : End) → is_recorded (end_forget lost e).phase ≡ true
forgotten lost e =
    split (λ (z : End). is_recorded z.phase ≡ true) lost _ _ (λ t. refl) (λ f.
    split (λ (z : End). is_recorded z.phase ≡ true) (is_reset e.phase) _ _ (λ t. refl) (λ f.
    split (λ (z : End). is_recorded z.phase ≡ true) (e.writer.finished && e.reader.ended) _ _ (λ t. refl) (λ f. refl)))

recorded-rule : (lost : Bool) (c : StreamCall) (e f : End) (r : Reply) → is_recorded e.phase ≡ true → EndRule lost c e r f → f.phase ≡ Gone → ⊥
recorded-rule lost (Writes bytes) e f r h (inl k) g = phase-kept e f h (ap (λ (z : End). z.phase) k.1) g
recorded-rule lost (Writes bytes) e f r h (inr k) g = phase-kept e f h (ap (λ (z : End). z.phase) k.2) g
recorded-rule lost (Reads max) e f r h k g = phase-kept e f h (ap (λ (z : End). z.phase) k.1) g
recorded-rule lost Finishes e f r h k g = if-phase (is_done r) e (end_finish e) f h h k.1 g
recorded-rule lost Resets e f r h k g = if-phase (is_done r) e (end_reset WasReset e) f h refl k.1 g
recorded-rule lost Forgets e f r h k g = if-phase (is_done r) e (end_forget lost e) f h (forgotten lost e) k.1 g

-- ---- the machine's change, and then a release

-- the record is the next end, or there was none and is none
reacts-keep : (x y : Role) (w : World) (m : Machine) (h : AgreesAs x y w m) (s : Session) (j : ℕ) (c : StreamCall) (reply : Reply) (next : End) →
    m.me.closed ≡ false → OnlyStream j w.a s → IsWithin s → IsReaped s → Reacts h.streams m h.streams.a.over j c reply next → Keeps w.a.answers j (look j s.table.entries) next → Called x y (call_on c j) reply w s m
reacts-keep x y w m h s j c reply next open_ only within reaped k kept =
    let g = h.streams in
    let mid : Machine = record m { streams = k.streams } in
    let rule = open-rule (call_on c j) m mid reply open_ (stream-rule c j m mid reply k.rule) in
    let order = order-call (call_on c j) m mid mid reply [] (parity x y w m h) rule refl h.order in
    called-alone x y (call_on c j) reply w s m _ mid only.alone rule
    (table-changes x y w m h s.table w.a.next m.me.next w.a.offered m.me.offered k.streams (put j next g.a.ends) h.a.whole.next h.a.whole.offered only.window
    (keeps-put w.a.answers j w.a.table.entries s.table.entries next g.a.ends (λ i n. h.a.records.each i) only.others kept)
    (subst IsWithin only.alone within) (subst IsReaped only.alone reaped) k.refines order)

-- the record has gone: it was given up, and nothing of it was left
reacts-release : (x y : Role) (w : World) (m : Machine) (h : AgreesAs x y w m) (s : Session) (j : ℕ) (c : StreamCall) (reply : Reply) (next : End) →
    m.me.closed ≡ false → OnlyStream j w.a s → IsWithin s → IsReaped s → Reacts h.streams m h.streams.a.over j c reply next → is_rejected j w.a.answers ≡ false → look j s.table.entries ≡ None →
    next.phase ≡ Lingering → next_kind w.a.table.window next ≡ None → Called x y (call_on c j) reply w s m
reacts-release x y w m h s j c reply next open_ only within reaped k rejected l lingers nothing =
    let g = h.streams in
    let mid : Machine = record m { streams = k.streams } in
    let was : Streams = acts (Calls j c reply next) g in
    let at : was.a.ends j ≡ next = put-same j next g.a.ends in
    let can : Can (Releases j) was = (ap (λ (z : End). z.phase) at ∙ lingers, inr (subst (λ d. next_kind d (was.a.ends j) ≡ None) (sym h.a.records.window) (ap (next_kind w.a.table.window) at ∙ nothing))) in
    let r = step (Releases j) was (found mid) can k.refines in
    let streams : List (ℕ × Stream) = change j (after_move Released) k.streams in
    let now : Machine = record m { streams = streams } in
    let rule = open-rule (call_on c j) m mid reply open_ (stream-rule c j m mid reply k.rule) in
    let goes : ReleasesOf (j ∷ []) mid now = ((refl, refl, (r.1.0, r.1.2.here, r.1.1)), refl) in
    let order = order-call (call_on c j) m mid now reply (j ∷ []) (parity x y w m h) rule goes h.order in
    let e : End = end_released (was.a.ends j) in
    let P : Session → Type 0 = λ z. Called x y (call_on c j) reply w z m in
    let kept : Keeps w.a.answers j (look j s.table.entries) e = subst (λ o. Keeps w.a.answers j o e) (sym l) (refl, record { syn = refl; ack = refl; rst = sym rejected; unsent = refl; finished = refl; refused = λ t. (let no : true ≡ false = sym t ∙ rejected in absurd cc) }) in
    subst P (sym only.alone) (record {
      mid = mid;
      ids = j ∷ [];
      now = now;
      rule = rule;
      releases = goes;
      agrees = table-changes x y w m h s.table w.a.next m.me.next w.a.offered m.me.offered streams (put j e was.a.ends) h.a.whole.next h.a.whole.offered only.window
          (keeps-put w.a.answers j w.a.table.entries s.table.entries e was.a.ends (λ i n. subst (Keeps w.a.answers i (look i w.a.table.entries)) (sym (put-other i j next g.a.ends n)) (h.a.records.each i)) only.others kept)
          (subst IsWithin only.alone within) (subst IsReaped only.alone reaped)
          (refines-same _ r.0 _ (change-found j (after_move Released) r.1.0 _ mid r.0 refl r.1.2) r.2) order;
    })

reacts-agree : (x y : Role) (w : World) (m : Machine) (h : AgreesAs x y w m) (s : Session) (j : ℕ) (c : StreamCall) (reply : Reply) (next : End) →
    m.me.closed ≡ false → OnlyStream j w.a s → IsWithin s → IsReaped s → Reacts h.streams m h.streams.a.over j c reply next → is_rejected j w.a.answers ≡ false →
    (next.phase ≡ Gone → ⊥) → (o : Option End) → look j s.table.entries ≡ o → Has w.a.table.window next o → Called x y (call_on c j) reply w s m
reacts-agree x y w m h s j c reply next open_ only within reaped k rejected stays (Some held) l e =
    reacts-keep x y w m h s j c reply next open_ only within reaped k (subst (λ o. Keeps w.a.answers j o next) (sym l) (e, rejected))
reacts-agree x y w m h s j c reply next open_ only within reaped k rejected stays None l (inl e) = absurd (stays e)
reacts-agree x y w m h s j c reply next open_ only within reaped k rejected stays None l (inr e) =
    reacts-release x y w m h s j c reply next open_ only within reaped k rejected l e.0 e.1

-- ---- the call

with-record : (x y : Role) (w : World) (m : Machine) (h : AgreesAs x y w m) (s : Session) (j : ℕ) (c : StreamCall) (reply : Reply) → CallGives w.a (call_on c j) reply s →
    is_closed w.a.status ≡ false → (o : Option End) → look j w.a.table.entries ≡ o → Called x y (call_on c j) reply w s m
with-record x y w m h s j c reply gives open_ None l =
    let g = h.streams in
    let k = none-refuses c j w.a s reply open_ l gives in
    let kept : Keeps w.a.answers j None (g.a.ends j) = subst (λ o. Keeps w.a.answers j o (g.a.ends j)) l (h.a.records.each j) in
    let rule : EndRule g.a.over c (g.a.ends j) reply (g.a.ends j) = subst (λ r. EndRule g.a.over c (g.a.ends j) r (g.a.ends j)) (sym k.0) (absent-end g.a.over c (g.a.ends j) (absent-idle (g.a.ends j).phase kept.0)) in
    let now : look j s.table.entries ≡ None = ap (λ z. look j z.table.entries) k.1 ∙ l in
    reacts-keep x y w m h s j c reply (g.a.ends j) (h.a.whole.closed ∙ open_) (only-stream c j w.a s reply gives)
    (gives-keep (λ b z. true) w.a s (event.Call (call_on c j)) reply gives h.a.within) (gives-reaped (λ b z. true) w.a s (event.Call (call_on c j)) reply gives h.a.within h.a.reaped)
    (reacts g m j c reply (g.a.ends j) h.refines (h.a.whole.lost open_ ∙ sym (over-is x y w m h open_)) rule)
    (subst (λ o. Keeps w.a.answers j o (g.a.ends j)) (sym now) kept)
with-record x y w m h s j c reply gives open_ (Some e) l =
    let g = h.streams in
    let kept : Keeps w.a.answers j (Some e) (g.a.ends j) = subst (λ o. Keeps w.a.answers j o (g.a.ends j)) l (h.a.records.each j) in
    let f = calls c j e reply w.a s l open_ h.a.within gives in
    let over = over-is x y w m h open_ in
    let rule : EndRule g.a.over c (g.a.ends j) reply f.0 = subst (λ o. EndRule o c (g.a.ends j) reply f.0) (sym over) (subst (λ z. EndRule (is_lost w.a.status) c z reply f.0) kept.0 f.1) in
    reacts-agree x y w m h s j c reply f.0 (h.a.whole.closed ∙ open_) (only-stream c j w.a s reply gives)
    (gives-keep (λ b z. true) w.a s (event.Call (call_on c j)) reply gives h.a.within) (gives-reaped (λ b z. true) w.a s (event.Call (call_on c j)) reply gives h.a.within h.a.reaped)
    (reacts g m j c reply f.0 h.refines (h.a.whole.lost open_ ∙ sym over) rule) kept.1
    (recorded-rule (is_lost w.a.status) c e f.0 reply (h.a.within.table.records j e l).phase f.1) (look j s.table.entries) refl f.2

pub stream-called : (x y : Role) (w : World) (m : Machine) (h : AgreesAs x y w m) (s : Session) (j : ℕ) (c : StreamCall) (reply : Reply) → CallGives w.a (call_on c j) reply s → Called x y (call_on c j) reply w s m
stream-called x y w m h s j c reply gives = elim (when (is_closed w.a.status)) [
  | inl t ↦ (let k = closed-refuses c j w.a s reply t gives in
      refused-at_both x y (call_on c j) reply w s m k.1 (closed-rule (call_on c j) m m reply (h.a.whole.closed ∙ t) (not-close c j) (k.0, refl)) h)
  | inr t ↦ with-record x y w m h s j c reply gives t (look j w.a.table.entries) refl
]
