-- What goes out in turn is one thing: the order leaves no choice, and no frame is longer than its limit.
use Rattle.std.proofs.Common.{◌≡◌, inl, inr, ℕ, zero, suc, ◌+◌, ◌≤◌, List, [], ◌∷◌, length, take, Bool, true, false, not, ◌&&◌, ◌||◌, ◌==◌, nat_lt, if◌then◌else◌, Option, None, Some, refl, sym, ◌∙◌, ap, subst, arith, length-take}
use Rattle.std.specs.Prelude.{is_some}
use Rattle.ymx_model.specs.declared.types.Response.{Response}
use Rattle.ymx_model.specs.declared.types.Status.{Status}
use Rattle.ymx_model.specs.declared.types.Status.TheVariants.{Running, Lost, Broken, Closed}
use Rattle.ymx_machine.specs.shared.Limits.{first_credit, data_limit}
use Rattle.ymx_model.specs.session.Records.{End}
use Rattle.ymx_model.specs.declared.types.FrameKind.{FrameKind}
use Rattle.ymx_model.specs.session.FramesDue.{next_kind, begin_frame, spelled}
use Rattle.ymx_model.specs.declared.types.FrameKind.TheVariants.{Open, OpenWith, Accept, Reset, Credit, Data, Fin}
use Rattle.ymx_model.specs.session.Pings.{first_asked, has_asked}
use Rattle.ymx_model.specs.session.GoAway.{away_due}
use Rattle.ymx_machine.specs.shared.Lists.{look}
use Rattle.ymx_model.specs.session.Tables.{round, with_record, pass_turn}
use Rattle.ymx_model.specs.session.Sessions.{Session, is_running, is_broken}
use Rattle.ymx_model.specs.session.Emissions.{Choice, begin, begin_answer, begin_stream, begin_kind, Ready, Flows, Emits, moves_on, is_ready, no_answers, in_turn, is_first, is_some_of}
use Rattle.ymx_model.specs.session.Emissions.Choice.{TheErrorDue, TheGoAway, TheAnswer, ThePing, AStream}
use Rattle.ymx_machine.proofs.Tests.{both_of, agrees, negated, one_some}
use Rattle.ymx_law_session.proofs.limits.EmissionsKeep.{some_if, none_if, if_some}
use Rattle.ymx_law_session.proofs.due.Ready.{given-due}

-- ---- one choice

-- the stream whose turn it is, if one's it is
abbrev of_a_stream : List ℕ → Session → Option Session
of_a_stream [] s = None
of_a_stream (id ∷ ids) s = begin (AStream id data_limit) s

abbrev of_pings : Option ℕ → Session → Option Session
of_pings (Some n) s = begin (ThePing n) s
of_pings None s = of_a_stream (round s.table) s

-- what begins while the session runs
abbrev running : Session → Option Session
running s = if away_due s.away.here then begin TheGoAway s else if not (no_answers s.answers) then begin TheAnswer s else of_pings (first_asked s.pings.pending) s

-- what begins in turn
abbrev turned : Session → Option Session
turned s = if is_broken s.status then begin TheErrorDue s else running s

not-broken : (status : Status) → is_running status ≡ true → is_broken status ≡ false
not-broken Running e = refl
not-broken Lost e = refl
not-broken (Broken fault) e = sym e
not-broken Closed e = refl

none-is : (o : Option ℕ) → is_some o ≡ false → o ≡ None
none-is None e = refl
none-is (Some n) e = cc

some-is : (n : ℕ) (o : Option ℕ) → is_some_of n o ≡ true → o ≡ Some n
some-is n None e = cc
some-is n (Some m) e = ap Some (agrees m n e)

first-is : (id : ℕ) (xs : List ℕ) (s : Session) → is_first id xs ≡ true → begin (AStream id data_limit) s ≡ of_a_stream xs s
first-is id [] s e = cc
first-is id (x ∷ xs) s e = ap (λ n. begin (AStream n data_limit) s) (sym (agrees x id e))

answers-left : (xs : List Response) (s t : Session) → begin_answer xs s ≡ Some t → no_answers xs ≡ false
answers-left [] s t b = cc
answers-left (r ∷ more) s t b = refl

then-is : {X : Type 0} (b : Bool) (x y : X) → b ≡ true → (if b then x else y) ≡ x
then-is true x y e = refl
then-is false x y e = cc

else-is : {X : Type 0} (b : Bool) (x y : X) → b ≡ false → (if b then x else y) ≡ y
else-is true x y e = cc
else-is false x y e = refl

runs : (s : Session) → is_running s.status ≡ true → turned s ≡ running s
runs s e = else-is (is_broken s.status) (begin TheErrorDue s) (running s) (not-broken s.status e)

no-session-frame : (s : Session) → away_due s.away.here ≡ false → no_answers s.answers ≡ true → running s ≡ of_pings (first_asked s.pings.pending) s
no-session-frame s e f = else-is (away_due s.away.here) (begin TheGoAway s) _ e ∙ else-is (not (no_answers s.answers)) (begin TheAnswer s) _ (ap not f)

by-turn : (c : Choice) (s t : Session) → in_turn c s ≡ true → begin c s ≡ Some t → turned s ≡ Some t
by-turn TheErrorDue s t e b =
    let p = both_of s.error_due (is_broken s.status) (some_if (s.error_due && is_broken s.status) _ t b).0 in then-is (is_broken s.status) (begin TheErrorDue s) (running s) p.1 ∙ b
by-turn TheGoAway s t e b =
    let p = both_of (is_running s.status) (away_due s.away.here) (some_if (is_running s.status && away_due s.away.here) _ t b).0 in
    runs s p.0 ∙ (then-is (away_due s.away.here) (begin TheGoAway s) _ p.1 ∙ b)
by-turn TheAnswer s t e b =
    let p = if_some (is_running s.status) (begin_answer s.answers s) t b in
    runs s p.0 ∙ (else-is (away_due s.away.here) (begin TheGoAway s) _ (negated (away_due s.away.here) e)
    ∙ (then-is (not (no_answers s.answers)) (begin TheAnswer s) _ (ap not (answers-left s.answers s t p.1)) ∙ b))
by-turn (ThePing n) s t e b =
    let p = both_of (is_running s.status) (has_asked n s.pings.pending) (some_if (is_running s.status && has_asked n s.pings.pending) _ t b).0 in
    let q = both_of (not (away_due s.away.here) && no_answers s.answers) (is_some_of n (first_asked s.pings.pending)) e in
    let r = both_of (not (away_due s.away.here)) (no_answers s.answers) q.0 in
    runs s p.0 ∙ (no-session-frame s (negated (away_due s.away.here) r.0) r.1
    ∙ (ap (λ o. of_pings o s) (some-is n (first_asked s.pings.pending) q.1) ∙ b))
by-turn (AStream id limit) s t e b =
    let p = if_some (is_running s.status) (begin_stream id limit (look id s.table.entries) s) t b in
    let q = both_of (not (away_due s.away.here) && no_answers s.answers && not (is_some (first_asked s.pings.pending)) && is_first id (round s.table)) (limit == data_limit) e in
    let r = both_of (not (away_due s.away.here) && no_answers s.answers && not (is_some (first_asked s.pings.pending))) (is_first id (round s.table)) q.0 in
    let x = both_of (not (away_due s.away.here) && no_answers s.answers) (not (is_some (first_asked s.pings.pending))) r.0 in
    let y = both_of (not (away_due s.away.here)) (no_answers s.answers) x.0 in
    let c : begin (AStream id data_limit) s ≡ Some t = subst (λ n. begin (AStream id n) s ≡ Some t) (agrees limit data_limit q.1) b in
    runs s p.0 ∙ (no-session-frame s (negated (away_due s.away.here) y.0) y.1
    ∙ (ap (λ o. of_pings o s) (none-is (first_asked s.pings.pending) (negated (is_some (first_asked s.pings.pending)) x.1)) ∙ (sym (first-is id (round s.table) s r.1) ∙ c)))

other_empty : (b : Bool) → b ≡ false → b ≡ true → ⊥
other_empty b e f = cc

one-ready : (s t u : Session) → Ready in_turn s t → Ready in_turn s u → t ≡ u
one-ready s t u (inl h) (inl k) = h.1 ∙ sym k.1
one-ready s t u (inl h) (inr k) = absurd (other_empty _ h.0 k.0)
one-ready s t u (inr h) (inl k) = absurd (other_empty _ k.0 h.0)
one-ready s t u (inr (e, (c, ok, b))) (inr (f, (d, may, g))) = one_some t u (sym (by-turn c s t ok b) ∙ by-turn d s u may g)

-- ---- one emission

same-byte : (b c : ℕ) (xs ys : List ℕ) → xs ≡ ys → xs ≡ b ∷ [] → ys ≡ c ∷ [] → b ≡ c
same-byte b c xs ys e f g = cc

pub one-emission : (room : ℕ) (s t u : Session) (out other : List ℕ) → Emits in_turn s room out t → Emits in_turn s room other u → (out ≡ other) × (t ≡ u)
one-emission room s t u [] [] e f = (refl, e.flows ∙ sym f.flows)
one-emission room s t u [] (c ∷ cs) e f =
    let l = f.fits in
    let due = given-due in_turn s c cs u f.flows in
    let none : is_ready s ≡ false = subst (λ x. is_ready x ≡ false) e.flows (e.full (omega arith)) in absurd (other_empty _ none due)
one-emission room s t u (b ∷ bs) [] e f =
    let l = e.fits in
    let due = given-due in_turn s b bs t e.flows in
    let none : is_ready s ≡ false = subst (λ x. is_ready x ≡ false) f.flows (f.full (omega arith)) in absurd (other_empty _ none due)
one-emission zero s t u (b ∷ bs) (c ∷ cs) e f = let l = e.fits in absurd (omega arith)
one-emission (suc room) s t u (b ∷ bs) (c ∷ cs) e f =
    let (r, re, rb, rest) = e.flows in
    let (q, qe, qb, more) = f.flows in
    let same : r ≡ q = one-ready s r q re qe in
    let byte : b ≡ c = same-byte b c (take 1 r.outgoing.bytes) (take 1 q.outgoing.bytes) (ap (λ x. take 1 x.outgoing.bytes) same) rb qb in
    let more2 : Flows in_turn cs (moves_on 1 r) u = subst (λ x. Flows in_turn cs (moves_on 1 x) u) (sym same) more in
    let i = one-emission room (moves_on 1 r) t u bs cs
    (record { fits = omega (arith, e.fits); flows = rest; full = λ l. e.full (omega arith) })
    (record { fits = omega (arith, f.fits); flows = more2; full = λ l. f.full (omega arith) }) in
    (ap (λ x. x ∷ bs) byte ∙ ap (λ xs. c ∷ xs) i.0, i.1)

-- ---- the longest frame

spelled-length : (k : FrameKind) (window limit id : ℕ) (e : End) → length (spelled k window limit id e) ≤ 12 + limit
spelled-length Open window limit id e = omega arith
spelled-length OpenWith window limit id e = omega (arith, length-take limit e.writer.unsent)
spelled-length Accept window limit id e = omega arith
spelled-length Reset window limit id e = omega arith
spelled-length Credit window limit id e = omega arith
spelled-length Data window limit id e = omega (arith, length-take limit e.writer.unsent)
spelled-length Fin window limit id e = omega arith

kind-length : (id limit : ℕ) (e : End) (k : Option FrameKind) (s t : Session) → begin_kind id limit e k s ≡ Some t → length t.outgoing.bytes ≤ 12 + limit
kind-length id limit e None s t b = cc
kind-length id limit e (Some kind) s t b =
    let u = record s {
      table = pass_turn id (with_record id (begin_frame s.table.window limit kind) s.table);
      outgoing = record { bytes = spelled kind s.table.window limit id e; of = Some id };
    } in
    let is : t ≡ u = cc in
    subst (λ (x : Session). length x.outgoing.bytes ≤ 12 + limit) (sym is) (spelled-length kind s.table.window limit id e)

stream-length : (id limit : ℕ) (o : Option End) (s t : Session) → begin_stream id limit o s ≡ Some t → length t.outgoing.bytes ≤ 12 + limit
stream-length id limit None s t b = cc
stream-length id limit (Some e) s t b =
    kind-length id limit e (next_kind s.table.window e) s t (none_if (limit == 0 || nat_lt first_credit limit) (begin_kind id limit e (next_kind s.table.window e) s) t b).1

-- a frame of a stream carries no more than the limit allows
pub frame-length : (id limit : ℕ) (s t : Session) → begin (AStream id limit) s ≡ Some t → length t.outgoing.bytes ≤ 12 + limit
frame-length id limit s t b = stream-length id limit (look id s.table.entries) s t (if_some (is_running s.status) (begin_stream id limit (look id s.table.entries) s) t b).1

-- in turn the limit is 16,384 bytes
pub turn-limit : (id limit : ℕ) (s : Session) → in_turn (AStream id limit) s ≡ true → limit ≡ data_limit
turn-limit id limit s e =
    agrees limit data_limit (both_of (not (away_due s.away.here) && no_answers s.answers && not (is_some (first_asked s.pings.pending)) && is_first id (round s.table)) (limit == data_limit) e).1
