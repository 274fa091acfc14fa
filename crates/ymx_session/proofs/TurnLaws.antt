-- A frame begun for another stream brings the turn nearer, and nothing else changes it.
use Rattle.std.proofs.Common.{◌≡◌, ◌≢◌, ◌⊎◌, inl, inr, ℕ, suc, ◌+◌, ◌<◌, ◌==◌, nat_lt, List, [], ◌∷◌, length, Bool, true, false, not, ◌&&◌, ◌||◌, cond, Option, None, Some, refl, sym, ap, ◌∙◌, subst, arith}
use Rattle.std.specs.Prelude.{count_by, is_some}
use Rattle.std.proofs.lemmas.List.Recursion.{is_count_by}
use Rattle.ymx_model.specs.declared.types.Status.{Status}
use Rattle.ymx_model.specs.declared.types.Status.TheVariants.{Running, Lost, Broken, Closed}
use Rattle.ymx_model.specs.declared.types.PingStage.TheVariants.{Sent}
use Rattle.ymx_model.specs.declared.types.Response.{Response}
use Rattle.ymx_machine.specs.shared.Limits.{first_credit, data_limit}
use Rattle.ymx_machine.specs.shared.Phases.{is_lingering}
use Rattle.ymx_model.specs.session.Records.{End}
use Rattle.ymx_model.specs.declared.types.FrameKind.{FrameKind}
use Rattle.ymx_model.specs.session.FramesDue.{is_due, next_kind, begin_frame}
use Rattle.ymx_model.specs.session.Pings.{Ping, ping_is_asked, has_asked, staged, first_asked, begin_ping}
use Rattle.ymx_model.specs.session.GoAway.{away_due, begin_away}
use Rattle.ymx_model.specs.session.Tables.{remove_record, round}
use Rattle.ymx_machine.specs.shared.Lists.{look, Distinct}
use Rattle.ymx_model.specs.session.Sessions.{Session, Outgoing, is_running, is_broken, is_spent, belongs_to, nothing_outgoing}
use Rattle.ymx_model.specs.session.Emissions.{Choice, begin, begins, begin_answer, begin_stream, begin_kind, error_frame, go_away_frame, ping_frame, answer_frame, moves_on, reaps, in_turn, is_first, no_answers}
use Rattle.ymx_model.specs.session.Emissions.Choice.{TheErrorDue, TheGoAway, TheAnswer, ThePing, AStream}
use Rattle.ymx_law_session.specs.Limits.{IsWithin}
use Rattle.ymx_machine.proofs.Tests.{split, both_of, agrees, differs, same_or_not}
use Rattle.ymx_machine.proofs.Lists.{look-change_other, look-without_other}
use Rattle.ymx_law_session.proofs.limits.EmissionsKeep.{some_if, none_if, if_some, begin-keeps, moves-keep}
use Rattle.ymx_law_session.proofs.due.Ready.{due-kind}
use Rattle.ymx_session.specs.Turns.{own_frames, counted, before, turn, HasDue, is_of_stream, ReadyPast, FlowsPast, IsNearerBy}
use Rattle.ymx_session.proofs.Waits.{served-round, served-before, listed-round, removed-round}

-- the turn is nearer, and the stream still has something due
pub record Nearer (id : ℕ) (s t : Session) : Type 0 where
  pub less : turn id t < turn id s
  pub due : HasDue id t

-- the turn is the same
pub record AsNear (id : ℕ) (s t : Session) : Type 0 where
  pub same : turn id t ≡ turn id s
  pub due : HasDue id t

not_broken : (st : Status) → is_running st ≡ true → is_broken st ≡ false
not_broken Running e = refl
not_broken Lost e = refl
not_broken (Broken f) e = sym e
not_broken Closed e = refl

-- ---- frames of the session

count-of : List Ping → ℕ
count-of [] = 0
count-of (p ∷ ps) = cond (ping_is_asked p.stage) (1 + count-of ps) (count-of ps)

count-of_is : (ps : List Ping) → count-of ps ≡ count_by (λ (p : Ping). ping_is_asked p.stage) ps
unfolding count-of
count-of_is ps = is_count_by count-of (λ (p : Ping). ping_is_asked p.stage) refl (λ p qs. refl) ps

one-sent : (n : ℕ) (ps : List Ping) → has_asked n ps ≡ true → count-of (staged Sent n ps) + 1 ≡ count-of ps
unfolding count-of
one-sent n [] h = cc
one-sent n (p ∷ ps) h = of (p.number == n) refl (ping_is_asked p.stage) refl (one-sent n ps)
  where
    of : (b : Bool) → (p.number == n) ≡ b → (c : Bool) → ping_is_asked p.stage ≡ c → (has_asked n ps ≡ true → count-of (staged Sent n ps) + 1 ≡ count-of ps) → count-of (staged Sent n (p ∷ ps)) + 1 ≡ count-of (p ∷ ps)
    of true t true u more = rw (t, u) (omega arith)
    of true t false u more = let x : ping_is_asked p.stage ≡ true = rw t at h in let y : true ≡ false = sym x ∙ u in cc
    of false t true u more = let x : has_asked n ps ≡ true = rw t at h in let i = more x in rw (t, u) (omega (arith, i))
    of false t false u more = let x : has_asked n ps ≡ true = rw t at h in let i = more x in rw (t, u) i

one-asked : (n : ℕ) (ps : List Ping) → has_asked n ps ≡ true → count_by (λ (p : Ping). ping_is_asked p.stage) (staged Sent n ps) + 1 ≡ count_by (λ (p : Ping). ping_is_asked p.stage) ps
one-asked n ps h = let a = count-of_is (staged Sent n ps) in let b = count-of_is ps in let i = one-sent n ps h in omega (arith, a, b, i)

answer-nearer : (id : ℕ) (rs : List Response) (s t : Session) → HasDue id s → s.answers ≡ rs → begin_answer rs s ≡ Some t → Nearer id s t
answer-nearer id [] s t h e b = cc
answer-nearer id (r ∷ more) s t h e b =
    let u = begins (answer_frame r) (record s { answers = more }) in
    let i : t ≡ u = cc in
    let l : length s.answers ≡ suc (length more) = rw e refl in
    let less : turn id u < turn id s = omega (arith, l) in
    subst (Nearer id s) (sym i) (record { less = less; due = record { running = h.running; end = h.end; there = h.there; due = h.due } })

-- ---- a frame of another stream

kind-nearer : (id other limit : ℕ) (e : End) (k : Option FrameKind) (s t : Session) → Distinct s.table.entries → HasDue id s → (other == id) ≡ false → is_first other (round s.table) ≡ true →
    look other s.table.entries ≡ Some e → next_kind s.table.window e ≡ k → begin_kind other limit e k s ≡ Some t → Nearer id s t
kind-nearer id other limit e None s t d h n first l q b = cc
kind-nearer id other limit e (Some kind) s t d h n first l q b =
    let f = begin_frame s.table.window limit kind in
    let due : is_due s.table.window e ≡ true = due-kind s.table.window e ∙ rw q refl in
    let v = served-round other f e s.table l d due first in
    let less = served-before id other s.table _ v n (listed-round id h.end s.table h.there h.due) in
    let apart : id ≢ other = λ x. differs other id n (sym x) in
    let there = look-change_other other id f s.table.entries apart ∙ h.there in
    let P : Session → Type 0 = λ x. Nearer id s x in
    subst P (of b) (record { less = omega (arith, less); due = record { running = h.running; end = h.end; there = there; due = h.due } })
  where
    of : {X : Type 0} {x y : X} → Some x ≡ Some y → x ≡ y
    of m = cc

stream-nearer : (id other limit : ℕ) (o : Option End) (s t : Session) → Distinct s.table.entries → HasDue id s → (other == id) ≡ false → is_first other (round s.table) ≡ true →
    look other s.table.entries ≡ o → begin_stream other limit o s ≡ Some t → Nearer id s t
stream-nearer id other limit None s t d h n first l b = cc
stream-nearer id other limit (Some e) s t d h n first l b =
    let k = none_if (limit == 0 || nat_lt first_credit limit) (begin_kind other limit e (next_kind s.table.window e) s) t b in
    kind-nearer id other limit e (next_kind s.table.window e) s t d h n first l refl k.1

-- ---- any frame but the stream's own

pub nearer : (id : ℕ) (c : Choice) (s t : Session) → Distinct s.table.entries → HasDue id s → in_turn c s ≡ true → is_of_stream id c ≡ false → begin c s ≡ Some t → Nearer id s t
nearer id TheErrorDue s t d h i n b =
    let p = some_if (s.error_due && is_broken s.status) (begins error_frame (record s { error_due = false })) t b in
    let q = (both_of s.error_due (is_broken s.status) p.0).1 in
    let r = not_broken s.status h.running in
    let x : true ≡ false = sym q ∙ r in absurd cc
nearer id TheGoAway s t d h i n b =
    let u = begins go_away_frame (record s { away = begin_away s.away }) in
    let p = some_if (is_running s.status && away_due s.away.here) u t b in
    let q : away_due s.away.here ≡ true = (both_of (is_running s.status) (away_due s.away.here) p.0).1 in
    let one : counted (away_due s.away.here) ≡ 1 = rw q refl in
    let less : turn id u < turn id s = omega (arith, one) in
    subst (Nearer id s) (sym p.1) (record { less = less; due = record { running = h.running; end = h.end; there = h.there; due = h.due } })
nearer id TheAnswer s t d h i n b =
    let p = if_some (is_running s.status) (begin_answer s.answers s) t b in answer-nearer id s.answers s t h refl p.1
nearer id (ThePing k) s t d h i n b =
    let u = begins (ping_frame k) (record s { pings = begin_ping k s.pings }) in
    let p = some_if (is_running s.status && has_asked k s.pings.pending) u t b in
    let q : has_asked k s.pings.pending ≡ true = (both_of (is_running s.status) (has_asked k s.pings.pending) p.0).1 in
    let one = one-asked k s.pings.pending q in
    let less : turn id u < turn id s = omega (arith, one) in
    subst (Nearer id s) (sym p.1) (record { less = less; due = record { running = h.running; end = h.end; there = h.there; due = h.due } })
nearer id (AStream other limit) s t d h i n b =
    let front = not (away_due s.away.here) && no_answers s.answers && not (is_some (first_asked s.pings.pending)) in
    let p = both_of (front && is_first other (round s.table)) (limit == data_limit) i in
    let first = (both_of front (is_first other (round s.table)) p.0).1 in
    let q = if_some (is_running s.status) (begin_stream other limit (look other s.table.entries) s) t b in
    stream-nearer id other limit (look other s.table.entries) s t d h n first refl q.1

-- at 0 the next frame is the stream's own
pub own-next : (id : ℕ) (c : Choice) (s t : Session) → Distinct s.table.entries → HasDue id s → turn id s ≡ 0 → in_turn c s ≡ true → begin c s ≡ Some t → c ≡ AStream id data_limit
own-next id c s t d h z i b = of c (is_of_stream id c) refl i b
  where
    of : (x : Choice) (m : Bool) → is_of_stream id x ≡ m → in_turn x s ≡ true → begin x s ≡ Some t → x ≡ AStream id data_limit
    of x false m j g = let k = (nearer id x s t d h j m g).less in absurd (omega (arith, k, z))
    of TheErrorDue true m j g = cc
    of TheGoAway true m j g = cc
    of TheAnswer true m j g = cc
    of (ThePing k) true m j g = cc
    of (AStream other limit) true m j g =
        let front = not (away_due s.away.here) && no_answers s.answers && not (is_some (first_asked s.pings.pending)) && is_first other (round s.table) in
        let l = agrees limit data_limit (both_of front (limit == data_limit) j).1 in
        let o = agrees other id m in
        ap (λ (y : ℕ). AStream y limit) o ∙ ap (λ (y : ℕ). AStream id y) l

-- ---- bytes that go out

not-due : (b : Bool) → not b ≡ true → b ≡ false
not-due true e = sym e
not-due false e = refl

spent : (w j : ℕ) (begun : Outgoing) (o : Option End) → is_spent w begun j o ≡ true → (e : End) × (o ≡ Some e) × (is_due w e ≡ false)
spent w j begun None t = cc
spent w j begun (Some e) t =
    let p = both_of (is_lingering e.phase && not (is_due w e)) (not (belongs_to begun.of j)) t in
    let q = both_of (is_lingering e.phase) (not (is_due w e)) p.0 in
    (e, refl, not-due (is_due w e) q.1)

removed-near : (id j : ℕ) (e : End) (s : Session) → Distinct s.table.entries → HasDue id s → look j s.table.entries ≡ Some e → is_due s.table.window e ≡ false → AsNear id s (record s { table = remove_record j s.table })
removed-near id j e s d h l none =
    let r = removed-round j e s.table l d none in
    record {
      same = ap (λ (xs : List ℕ). own_frames s + before id xs) r;
      due = record { running = h.running; end = h.end; there = look-without_other j id s.table.entries (apart (same_or_not id j)) ∙ h.there; due = h.due };
    }
  where
    clash : id ≡ j → ⊥
    clash x =
        let m : look id s.table.entries ≡ Some e = ap (λ (y : ℕ). look y s.table.entries) x ∙ l in
        let k : Some h.end ≡ Some e = sym h.there ∙ m in
        let i : h.end ≡ e = cc in
        let g : is_due s.table.window h.end ≡ false = ap (is_due s.table.window) i ∙ none in
        let y : true ≡ false = sym h.due ∙ g in cc

    apart : (id ≡ j) ⊎ (id ≢ j) → id ≢ j
    apart (inl x) = absurd (clash x)
    apart (inr x) = x

reaps-near : (id : ℕ) (of : Option ℕ) (s : Session) → Distinct s.table.entries → HasDue id s → AsNear id s (reaps of s)
reaps-near id None s d h = record { same = refl; due = h }
reaps-near id (Some j) s d h =
    split (AsNear id s) (is_spent s.table.window s.outgoing j (look j s.table.entries)) (record s { table = remove_record j s.table }) s
    (λ t. let p = spent s.table.window j s.outgoing (look j s.table.entries) t in removed-near id j p.0 s d h p.1 p.2) (λ f. record { same = refl; due = h })

pub moves-near : (id n : ℕ) (s : Session) → Distinct s.table.entries → HasDue id s → AsNear id s (moves_on n s)
moves-near id n s d h =
    let u = record s { outgoing = nothing_outgoing } in
    let g : HasDue id u = record { running = h.running; end = h.end; there = h.there; due = h.due } in
    let m = reaps-near id s.outgoing.of u d g in
    split (AsNear id s) (nat_lt n (length s.outgoing.bytes)) _ (reaps s.outgoing.of u)
    (λ t. record { same = refl; due = record { running = h.running; end = h.end; there = h.there; due = h.due } }) (λ f. record { same = m.same; due = m.due })

-- ---- an emission

pub past : (id : ℕ) (bytes : List ℕ) (frames : ℕ) (s t : Session) → IsWithin s → HasDue id s → FlowsPast id bytes frames s t → IsNearerBy frames id s t
past id [] frames s t w h (e, z) =
    let k : turn id t ≡ turn id s = ap (turn id) e in
    record { nearer = omega (arith, k, z); due = subst (HasDue id) (sym e) h }
past id (b ∷ bs) frames s t w h (ready, first, more, sum, r, byte, rest) = of first sum r (λ wm hm. past id bs more (moves_on 1 ready) t wm hm rest)
  where
    of : (m : ℕ) → frames ≡ m + more → ReadyPast id m s ready → (IsWithin (moves_on 1 ready) → HasDue id (moves_on 1 ready) → IsNearerBy more id (moves_on 1 ready) t) → IsNearerBy frames id s t
    of m e (inl (some, same, z)) go =
        let wr = subst IsWithin (sym same) w in
        let hr = subst (HasDue id) (sym same) h in
        let k : turn id ready ≡ turn id s = ap (turn id) same in
        let a = moves-near id 1 ready wr.table.distinct hr in
        let x = go (moves-keep 1 ready wr) a.due in
        let n = x.nearer in
        let y = a.same in
        record { nearer = omega (arith, n, y, k, z, e); due = x.due }
    of m e (inr (choice, i, n, g, z)) go =
        let l = nearer id choice s ready w.table.distinct h i n g in
        let wr = begin-keeps choice s ready g w in
        let a = moves-near id 1 ready wr.table.distinct l.due in
        let x = go (moves-keep 1 ready wr) a.due in
        let f = x.nearer in
        let y = a.same in
        let k = l.less in
        record { nearer = omega (arith, f, y, k, z, e); due = x.due }
