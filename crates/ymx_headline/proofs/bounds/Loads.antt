-- What a session may still send: a frame that begins takes its part of it.
use Rattle.std.proofs.Common.{◌≡◌, ◌≢◌, ℕ, zero, suc, ◌+◌, ◌-◌, ◌*◌, ◌/◌, ◌<◌, ◌≤◌, List, [], ◌∷◌, ◌++◌, length, take, drop, length-drop, Bool, true, false, not, ◌&&◌, ◌||◌, ◌==◌, nat_lt, nat_le, if◌then◌else◌, Option, None, Some, refl, sym, ap, subst, ◌∙◌, arith}
use Rattle.std.specs.Prelude.{count_by, is_some}
use Rattle.std.proofs.lemmas.Nat.{le-div}
use Rattle.std.proofs.Math.Nat.{div-mul-le_self, add-div_right}
use Rattle.std.proofs.lemmas.Bool.Decides.{nat_tests}
use Rattle.std.proofs.lemmas.List.Recursion.{is_sum_by, is_count_by}
use Rattle.ymx_header.specs.declared.header.Header.{Header}
use Rattle.ymx_header.specs.Headers.{header_of, has_syn, has_rst}
use Rattle.ymx_model.specs.declared.types.Response.{Response}
use Rattle.ymx_model.specs.declared.types.Response.TheVariants.{Pong, Reject}
use Rattle.ymx_model.specs.declared.types.PingStage.TheVariants.{Sent, Back}
use Rattle.ymx_machine.specs.shared.Limits.{first_credit, data_limit}
use Rattle.ymx_machine.specs.shared.Phases.{is_live}
use Rattle.ymx_model.specs.session.Records.{End}
use Rattle.ymx_model.specs.declared.types.FrameKind.{FrameKind}
use Rattle.ymx_model.specs.session.FramesDue.{next_kind, begin_frame, spelled, credit_due, fin_due, is_empty}
use Rattle.ymx_model.specs.declared.types.FrameKind.TheVariants.{Open, OpenWith, Accept, Reset, Credit, Data, Fin}
use Rattle.ymx_model.specs.session.Pings.{Ping, ping_is_asked, has_asked, staged, begin_ping, first_asked}
use Rattle.ymx_model.specs.session.GoAway.{away_due, begin_away}
use Rattle.ymx_machine.specs.shared.Lists.{look, change, without}
use Rattle.ymx_model.specs.session.Tables.{with_record, pass_turn, remove_record, round}
use Rattle.ymx_model.specs.session.Sessions.{Session, nothing_outgoing, is_broken, is_running, is_spent, reap}
use Rattle.ymx_model.specs.session.Emissions.{Choice, begin, begins, begin_answer, begin_stream, begin_kind, error_frame, go_away_frame, answer_frame, ping_frame, moves_on, reaps, in_turn, is_first, no_answers}
use Rattle.ymx_model.specs.session.Emissions.Choice.{TheErrorDue, TheGoAway, TheAnswer, ThePing, AStream}
use Rattle.ymx_model.specs.world.UnderWay.{IsOneFrame}
use Rattle.ymx_model.specs.world.Load.{frames_of, record_load, session_load, one_if}
use Rattle.ymx_law_session.specs.Limits.{IsWithin}
use Rattle.ymx_law_session.proofs.limits.EmissionsKeep.{some_if, none_if, if_some}
use Rattle.ymx_machine.proofs.Tests.{split, agrees, differs, both_of, none_of, not_lt}
use Rattle.ymx_headline.proofs.world.Frames.{short-frame}
use Rattle.ymx_headline.proofs.world.Emitted.{first_and_rest, only_one, spelled-one}

-- ---- sums

abbrev pub loads : (least : ℕ) (window : ℕ) → List (ℕ × End) → ℕ
loads least window [] = 0
loads least window (p ∷ ps) = record_load least window p.1 + loads least window ps

abbrev pub asked : List Ping → ℕ
asked [] = 0
asked (p ∷ ps) = one_if (ping_is_asked p.stage) + asked ps

pub one_if-most : (b : Bool) → one_if b ≤ 1
one_if-most true = omega arith
one_if-most false = omega arith

loads-less : (least : ℕ) (window id k : ℕ) (g : End → End) (e : End) (xs : List (ℕ × End)) → look id xs ≡ Some e → record_load least window (g e) + k ≤ record_load least window e → loads least window (change id g xs) + k ≤ loads least window xs
loads-less least window id k g e [] l h = absurd cc
loads-less least window id k g e (p ∷ ps) l h = of (p.0 == id) refl l (loads-less least window id k g e ps)
  where
    of : (b : Bool) → (p.0 == id) ≡ b → (if b then Some p.1 else look id ps) ≡ Some e → (look id ps ≡ Some e → record_load least window (g e) + k ≤ record_load least window e → loads least window (change id g ps) + k ≤ loads least window ps) →
        loads least window (if b then (p.0, g p.1) ∷ ps else p ∷ change id g ps) + k ≤ record_load least window p.1 + loads least window ps
    of true b q i = let same : p.1 ≡ e = cc in let j : record_load least window (g p.1) + k ≤ record_load least window p.1 = rw same h in omega (arith, j)
    of false b q i = let j = i q h in omega (arith, j)

pub loads-change : (least : ℕ) (window id : ℕ) (g : End → End) (xs : List (ℕ × End)) → ((e : End) → record_load least window (g e) ≤ record_load least window e) → loads least window (change id g xs) ≤ loads least window xs
loads-change least window id g [] h = omega arith
loads-change least window id g (p ∷ ps) h = of (p.0 == id) (loads-change least window id g ps h)
  where
    of : (b : Bool) → loads least window (change id g ps) ≤ loads least window ps → loads least window (if b then (p.0, g p.1) ∷ ps else p ∷ change id g ps) ≤ record_load least window p.1 + loads least window ps
    of true i = let j = h p.1 in omega (arith, j)
    of false i = omega (arith, i)

pub loads-without : (least : ℕ) (window id : ℕ) (xs : List (ℕ × End)) → loads least window (without id xs) ≤ loads least window xs
loads-without least window id [] = omega arith
loads-without least window id (p ∷ ps) = of (p.0 == id) (loads-without least window id ps)
  where
    of : (b : Bool) → loads least window (without id ps) ≤ loads least window ps → loads least window (if b then ps else p ∷ without id ps) ≤ record_load least window p.1 + loads least window ps
    of true i = omega arith
    of false i = omega (arith, i)

pub loads-added : (least : ℕ) (window id : ℕ) (e : End) (xs : List (ℕ × End)) → loads least window (xs ++ (id, e) ∷ []) ≡ loads least window xs + record_load least window e
loads-added least window id e [] = omega arith
loads-added least window id e (p ∷ ps) = let i = loads-added least window id e ps in omega (arith, i)

asked-goes : (n : ℕ) (ps : List Ping) → has_asked n ps ≡ true → asked (staged Sent n ps) + 1 ≡ asked ps
asked-goes n [] h = absurd cc
asked-goes n (p ∷ ps) h = of (p.number == n) h (asked-goes n ps)
  where
    of : (b : Bool) → (if b then ping_is_asked p.stage else has_asked n ps) ≡ true → (has_asked n ps ≡ true → asked (staged Sent n ps) + 1 ≡ asked ps) →
        asked (if b then record { number = p.number; stage = Sent } ∷ ps else p ∷ staged Sent n ps) + 1 ≡ one_if (ping_is_asked p.stage) + asked ps
    of true q i = rw q (omega arith)
    of false q i = let j = i q in omega (arith, j)

pub asked-answered : (n : ℕ) (ps : List Ping) → asked (staged Back n ps) ≤ asked ps
asked-answered n [] = omega arith
asked-answered n (p ∷ ps) = of (p.number == n) (asked-answered n ps)
  where
    of : (b : Bool) → asked (staged Back n ps) ≤ asked ps → asked (if b then record { number = p.number; stage = Back } ∷ ps else p ∷ staged Back n ps) ≤ one_if (ping_is_asked p.stage) + asked ps
    of true i = omega arith
    of false i = omega (arith, i)

-- ---- an order of frames

-- in this order each frame of Data carries at least so many bytes, unless fewer are unsent
pub record SendsAtLeast (least : ℕ) (may : Choice → Session → Bool) : Type 0 where
  pub some : 0 < least
  pub each : (id limit : ℕ) (s : Session) → may (AStream id limit) s ≡ true → (limit == 0) ≡ false → least ≤ limit

-- in any order it carries a byte
pub any-order : (may : Choice → Session → Bool) → SendsAtLeast 1 may
any-order may = record { some = omega arith; each = λ id limit s ok n. (let z : limit ≢ 0 = differs limit 0 n in omega arith) }

-- and in turn 16,384
pub turn-order : SendsAtLeast data_limit in_turn
turn-order = record {
  some = omega arith;
  each = λ id limit s ok n. (let e = agrees limit data_limit
      (both_of (not (away_due s.away.here) && no_answers s.answers && not (is_some (first_asked s.pings.pending)) && is_first id (round s.table)) (limit == data_limit) ok).1 in omega (arith, e));
}

-- ---- a frame of a stream

abbrev Cause : (syn ack rst credit bytes fin : Bool) → FrameKind → Type 0
Cause syn ack rst credit bytes fin Open = syn ≡ true
Cause syn ack rst credit bytes fin OpenWith = syn ≡ true
Cause syn ack rst credit bytes fin Accept = (syn ≡ false) × (ack ≡ true)
Cause syn ack rst credit bytes fin Reset = rst ≡ true
Cause syn ack rst credit bytes fin Credit = (syn ≡ false) × (ack ≡ false) × (credit ≡ true)
Cause syn ack rst credit bytes fin Data = bytes ≡ true
Cause syn ack rst credit bytes fin Fin = fin ≡ true

kind-is : (a b : FrameKind) → Some a ≡ Some b → a ≡ b
kind-is a b e = cc

cause : (syn with_data ack rst credit bytes fin : Bool) (k : FrameKind) →
    (if syn then Some (if with_data then OpenWith else Open) else if ack then Some Accept else if rst then Some Reset else if credit then Some Credit else if bytes then Some Data else if fin then Some Fin else None) ≡ Some k →
    Cause syn ack rst credit bytes fin k
cause true true a r c d f k e = subst (Cause true a r c d f) (kind-is OpenWith k e) refl
cause true false a r c d f k e = subst (Cause true a r c d f) (kind-is Open k e) refl
cause false b true r c d f k e = subst (Cause false true r c d f) (kind-is Accept k e) (refl, refl)
cause false b false true c d f k e = subst (Cause false false true c d f) (kind-is Reset k e) refl
cause false b false false true d f k e = subst (Cause false false false true d f) (kind-is Credit k e) (refl, refl, refl)
cause false b false false false true f k e = subst (Cause false false false false true f) (kind-is Data k e) refl
cause false b false false false false true k e = subst (Cause false false false false false true) (kind-is Fin k e) refl
cause false b false false false false false k e = absurd cc

-- nothing is owed any more
none-owed : (window : ℕ) (live : Bool) (owed : ℕ) → 0 < window → (live && (false || nat_le window (2 * (owed - owed)))) ≡ false
none-owed window true owed w = grind (arith, nat_tests)
none-owed window false owed w = refl

fin-gone : (a : Bool) → (a && not true) ≡ false
fin-gone true = refl
fin-gone false = refl

-- fewer bytes need no more frames
fewer-frames : (least m n : ℕ) → 0 < least → m ≤ n → m / least ≤ n / least
fewer-frames least m n some l = let k = div-mul-le_self m least in le-div (m / least) n least some (omega (arith, k, l))

-- a frame that carries all, or at least so many bytes, leaves one frame less
sent-less : (least limit : ℕ) (xs : List ℕ) → 0 < least → least ≤ limit → not (is_empty xs) ≡ true → frames_of least (drop limit xs) + 1 ≤ frames_of least xs
sent-less least limit [] some low h = absurd cc
sent-less least limit (x ∷ xs) some low h = of (drop limit (x ∷ xs)) (length-drop limit (x ∷ xs))
  where
    of : (left : List ℕ) → length left ≡ length (x ∷ xs) - limit → frames_of least left + 1 ≤ length xs / least + 1
    of [] e = omega arith
    of (y ∷ ys) e =
        let long : length ys + least ≤ length xs = omega (arith, e) in
        let k = fewer-frames least (length ys + least) (length xs) some long in
        let one = add-div_right (length ys) some in
        omega (arith, k, one)

fewer-left : (least limit : ℕ) (xs : List ℕ) → 0 < least → frames_of least (drop limit xs) ≤ frames_of least xs
fewer-left least limit [] some = of limit
  where
    of : (n : ℕ) → frames_of least (drop n []) ≤ 0
    of zero = omega arith
    of (suc n) = omega arith
fewer-left least limit (x ∷ xs) some = of (drop limit (x ∷ xs)) (length-drop limit (x ∷ xs))
  where
    of : (left : List ℕ) → length left ≡ length (x ∷ xs) - limit → frames_of least left ≤ length xs / least + 1
    of [] e = omega arith
    of (y ∷ ys) e = let long : length ys ≤ length xs = omega (arith, e) in let k = fewer-frames least (length ys) (length xs) some long in omega (arith, k)

sends-less : (least : ℕ) (window limit : ℕ) (k : FrameKind) (e : End) → 0 < window → 0 < least → least ≤ limit → next_kind window e ≡ Some k → record_load least window (begin_frame window limit k e) + 1 ≤ record_load least window e
sends-less least window limit k e w some low n = of k (cause e.marks.syn e.marks.with_data e.marks.ack e.marks.rst (credit_due window e) (not (is_empty e.writer.unsent)) (fin_due e) k n)
  where
    of : (k : FrameKind) → Cause e.marks.syn e.marks.ack e.marks.rst (credit_due window e) (not (is_empty e.writer.unsent)) (fin_due e) k → record_load least window (begin_frame window limit k e) + 1 ≤ record_load least window e
    of Open c = let q = one_if-most (credit_due window (begin_frame window limit Open e) && not false && not e.marks.ack) in rw c (omega (arith, q))
    of OpenWith c =
        let q = one_if-most (credit_due window (begin_frame window limit OpenWith e) && not false && not e.marks.ack) in
        let r = fewer-left least limit e.writer.unsent some in rw c (omega (arith, q, r))
    of Accept c = let q = one_if-most (credit_due window (begin_frame window limit Accept e) && not e.marks.syn && not false) in rw c.1 (omega (arith, q))
    of Reset c = rw c (omega arith)
    of Credit c =
        let z : credit_due window (begin_frame window limit Credit e) ≡ false = none-owed window (is_live e.phase && not e.reader.ended) e.reader.owed w in
        rw (z, c.2, c.0, c.1) (omega arith)
    of Data c = let r = sent-less least limit e.writer.unsent some low c in omega (arith, r)
    of Fin c = let z = fin-gone e.writer.finished in rw (c, z) (omega arith)

-- ---- a session

-- What a session may still send, and may make the other side answer: twice each frame that is due, but an
-- answer once, since nothing answers it.
abbrev pub effort : (least : ℕ) → Session → ℕ
effort least s = 2 * (loads least s.table.window s.table.entries + one_if (away_due s.away.here) + asked s.pings.pending) + length s.answers + one_if (s.error_due && is_broken s.status)

-- whether a frame may be answered: by a pong, a rejection, or an error frame
abbrev pub may_answer : Header → Bool
may_answer h = if h.kind == 2 then has_syn h else if h.kind == 3 then nat_lt 2 h.length else has_syn h || not (has_rst h)

abbrev pub weight : List ℕ → ℕ
weight bytes = 1 + one_if (may_answer (header_of bytes))

abbrev pub weights : List (List ℕ) → ℕ
weights [] = 0
weights (f ∷ fs) = weight f + weights fs

pub weight-most : (bytes : List ℕ) → weight bytes ≤ 2
weight-most bytes = let k = one_if-most (may_answer (header_of bytes)) in omega (arith, k)

pub weights-most : (frames : List (List ℕ)) → weights frames ≤ 2 * length frames
weights-most [] = omega arith
weights-most (f ∷ fs) = let k = weight-most f in let i = weights-most fs in omega (arith, k, i)

pub weights-append : (a b : List (List ℕ)) → weights (a ++ b) ≡ weights a + weights b
weights-append [] b = omega arith
weights-append (f ∷ fs) b = let i = weights-append fs b in omega (arith, i)

pub effort-most : (least : ℕ) (s : Session) → effort least s ≤ 2 * session_load least s
effort-most least s =
    let a = is_sum_by (loads least s.table.window) (λ p. record_load least s.table.window p.1) refl (λ p ps. refl) s.table.entries in
    let b = counted s.pings.pending in
    let c = error_due-most s.error_due (is_broken s.status) in
    omega (arith, a, b, c)
  where
    counted : (ps : List Ping) → asked ps ≡ count_by (λ p. ping_is_asked p.stage) ps
    counted ps = is_count_by asked (λ p. ping_is_asked p.stage) refl (λ p ps. step (ping_is_asked p.stage) (asked ps)) ps
      where
        step : (b : Bool) (n : ℕ) → one_if b + n ≡ (if b then 1 + n else n)
        step true n = refl
        step false n = omega arith

    error_due-most : (a b : Bool) → one_if (a && b) ≤ one_if a
    error_due-most true b = one_if-most b
    error_due-most false b = omega arith

-- ---- a frame begins

pub record Starts (least : ℕ) (s t : Session) : Type 0 where
  pub one : IsOneFrame t.outgoing.bytes
  pub effort : effort least t + weight t.outgoing.bytes ≤ effort least s
  pub status : t.status ≡ s.status
  pub incoming : t.incoming ≡ s.incoming

starts-is : (least : ℕ) (s u t : Session) → t ≡ u → Starts least s u → Starts least s t
starts-is least s u t e h = subst (Starts least s) (sym e) h

some-is : (a b : Session) → Some a ≡ Some b → b ≡ a
some-is a b e = cc

answer-starts : (least : ℕ) (rs : List Response) (s t : Session) → s.answers ≡ rs → begin_answer rs s ≡ Some t → Starts least s t
answer-starts least [] s t e b = absurd cc
answer-starts least (Pong n ∷ more) s t e b =
    let l : length s.answers ≡ length more + 1 = ap length e ∙ omega arith in
    starts-is least s _ t (some-is (begins (answer_frame (Pong n)) (record s { answers = more })) t b)
    (record { one = short-frame 2 2 0 n (omega arith) (omega arith); effort = omega (arith, l); status = refl; incoming = refl })
answer-starts least (Reject id ∷ more) s t e b =
    let l : length s.answers ≡ length more + 1 = ap length e ∙ omega arith in
    starts-is least s _ t (some-is (begins (answer_frame (Reject id)) (record s { answers = more })) t b)
    (record { one = short-frame 1 8 id 0 (omega arith) (omega arith); effort = omega (arith, l); status = refl; incoming = refl })

stream-starts : (least : ℕ) (id limit : ℕ) (s t : Session) → IsWithin s → 0 < least → ((limit == 0) ≡ false → least ≤ limit) → (o : Option End) → look id s.table.entries ≡ o → begin_stream id limit o s ≡ Some t → Starts least s t
stream-starts least id limit s t w pos low None l b = absurd cc
stream-starts least id limit s t w pos low (Some e) l b =
    let n = none_if (limit == 0 || nat_lt first_credit limit) (begin_kind id limit e (next_kind s.table.window e) s) t b in
    let p = none_of (limit == 0) (nat_lt first_credit limit) n.0 in
    at-kind (not_lt first_credit limit p.1) p.0 (next_kind s.table.window e) refl n.1
  where
    at-kind : limit ≤ first_credit → (limit == 0) ≡ false → (k : Option FrameKind) → next_kind s.table.window e ≡ k → begin_kind id limit e k s ≡ Some t → Starts least s t
    at-kind few some None q c = absurd cc
    at-kind few some (Some k) q c =
        let win = s.table.window in
        let less = loads-less least win id 1 (begin_frame win limit k) e s.table.entries l (sends-less least win limit k e (omega (arith, w.table.narrowest)) pos (low some) q) in
        let u : Session = record s { table = pass_turn id (with_record id (begin_frame win limit k) s.table); outgoing = record { bytes = spelled k win limit id e; of = Some id } } in
        let most = weight-most (spelled k win limit id e) in
        starts-is least s u t (some-is u t c) (record { one = spelled-one k win limit id e few; effort = omega (arith, less, most); status = refl; incoming = refl })

pub begin-starts : (least : ℕ) (c : Choice) (s t : Session) → IsWithin s → 0 < least → ((id limit : ℕ) → c ≡ AStream id limit → (limit == 0) ≡ false → least ≤ limit) → begin c s ≡ Some t → Starts least s t
begin-starts least TheErrorDue s t w pos low b =
    let p = some_if (s.error_due && is_broken s.status) (begins error_frame (record s { error_due = false })) t b in
    let z : one_if (s.error_due && is_broken s.status) ≡ 1 = ap one_if p.0 in
    starts-is least s _ t p.1 (record { one = short-frame 3 0 0 1 (omega arith) (omega arith); effort = omega (arith, z); status = refl; incoming = refl })
begin-starts least TheGoAway s t w pos low b =
    let p = some_if (is_running s.status && away_due s.away.here) (begins go_away_frame (record s { away = begin_away s.away })) t b in
    let q = both_of (is_running s.status) (away_due s.away.here) p.0 in
    let z : one_if (away_due s.away.here) ≡ 1 = ap one_if q.1 in
    starts-is least s _ t p.1 (record { one = short-frame 3 0 0 0 (omega arith) (omega arith); effort = omega (arith, z); status = refl; incoming = refl })
begin-starts least TheAnswer s t w pos low b = let p = if_some (is_running s.status) (begin_answer s.answers s) t b in answer-starts least s.answers s t refl p.1
begin-starts least (ThePing n) s t w pos low b =
    let p = some_if (is_running s.status && has_asked n s.pings.pending) (begins (ping_frame n) (record s { pings = begin_ping n s.pings })) t b in
    let q = both_of (is_running s.status) (has_asked n s.pings.pending) p.0 in
    let z = asked-goes n s.pings.pending q.1 in
    let most = weight-most (ping_frame n) in
    starts-is least s _ t p.1 (record { one = short-frame 2 1 0 n (omega arith) (omega arith); effort = omega (arith, z, most); status = refl; incoming = refl })
begin-starts least (AStream id limit) s t w pos low b =
    let p = if_some (is_running s.status) (begin_stream id limit (look id s.table.entries) s) t b in stream-starts least id limit s t w pos (low id limit refl) (look id s.table.entries) refl p.1

-- ---- a byte goes out

-- a session that may send no more than before
pub record Eases (least : ℕ) (s t : Session) : Type 0 where
  pub effort : effort least t ≤ effort least s
  pub status : t.status ≡ s.status
  pub incoming : t.incoming ≡ s.incoming
  pub outgoing : t.outgoing ≡ s.outgoing

pub eases-same : (least : ℕ) (s : Session) → Eases least s s
eases-same least s = record { effort = omega arith; status = refl; incoming = refl; outgoing = refl }

pub eases-then : (least : ℕ) (s t u : Session) → Eases least s t → Eases least t u → Eases least s u
eases-then least s t u p q = let a = p.effort in let b = q.effort in record { effort = omega (arith, a, b); status = q.status ∙ p.status; incoming = q.incoming ∙ p.incoming; outgoing = q.outgoing ∙ p.outgoing }

pub removed-eases : (least : ℕ) (id : ℕ) (s : Session) (offered : List ℕ) → Eases least s (record s { table = remove_record id s.table; offered = offered })
removed-eases least id s offered = let l = loads-without least s.table.window id s.table.entries in record { effort = omega (arith, l); status = refl; incoming = refl; outgoing = refl }

pub reaped-eases : (least : ℕ) (id : ℕ) (s : Session) → Eases least s (reap id s)
reaped-eases least id s =
    split (Eases least s) (is_spent s.table.window s.outgoing id (look id s.table.entries)) (record s { table = remove_record id s.table }) s (λ t. removed-eases least id s s.offered) (λ f. eases-same least s)

reaps-eases : (least : ℕ) (of : Option ℕ) (s : Session) → Eases least s (reaps of s)
reaps-eases least None s = eases-same least s
reaps-eases least (Some id) s = reaped-eases least id s

-- a byte has gone out: the first of the frame begun
pub record Sheds (least : ℕ) (b : ℕ) (s t : Session) : Type 0 where
  pub bytes : s.outgoing.bytes ≡ b ∷ t.outgoing.bytes
  pub effort : effort least t ≤ effort least s
  pub status : t.status ≡ s.status
  pub incoming : t.incoming ≡ s.incoming

pub sheds : (least : ℕ) (b : ℕ) (s : Session) → take 1 s.outgoing.bytes ≡ b ∷ [] → Sheds least b s (moves_on 1 s)
sheds least b s e =
    split (Sheds least b s) (nat_lt 1 (length s.outgoing.bytes)) (record s { outgoing = record { bytes = drop 1 s.outgoing.bytes; of = s.outgoing.of } }) (reaps s.outgoing.of (record s { outgoing = nothing_outgoing }))
    (λ t. record { bytes = first_and_rest b s.outgoing.bytes e; effort = omega arith; status = refl; incoming = refl })
    (λ f. let r = reaps-eases least s.outgoing.of (record s { outgoing = nothing_outgoing }) in
    record { bytes = only_one b s.outgoing.bytes e f ∙ ap (λ z. b ∷ z.bytes) (sym r.outgoing); effort = r.effort; status = r.status; incoming = r.incoming })
