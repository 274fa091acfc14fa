-- Something is due exactly if an emission gives a byte.
use Rattle.std.proofs.Common.{◌≡◌, ◌≢◌, ◌⊎◌, inl, inr, ℕ, zero, suc, ◌<◌, List, [], ◌∷◌, ◌++◌, length, take, drop, Bool, true, false, not, ◌&&◌, ◌||◌, ◌==◌, nat_lt, if◌then◌else◌, Option, None, Some, refl, sym, ◌∙◌, arith}
use Rattle.std.specs.Prelude.{is_some}
use Rattle.std.proofs.lemmas.Grind.{common_steps}
use Rattle.std.proofs.lemmas.Bool.Decides.{nat_tests}
use Rattle.ymx_model.specs.declared.types.Response.{Response}
use Rattle.ymx_model.specs.declared.types.Response.TheVariants.{Pong, Reject}
use Rattle.ymx_machine.specs.shared.Limits.{first_credit, data_limit}
use Rattle.ymx_model.specs.session.Records.{End}
use Rattle.ymx_model.specs.declared.types.FrameKind.{FrameKind}
use Rattle.ymx_model.specs.session.FramesDue.{next_kind, is_due, is_empty, spelled}
use Rattle.ymx_model.specs.declared.types.FrameKind.TheVariants.{Open}
use Rattle.ymx_model.specs.session.Pings.{first_asked, has_asked, begin_ping}
use Rattle.ymx_model.specs.session.GoAway.{away_due, begin_away}
use Rattle.ymx_model.specs.session.Tables.{Table, any_due, due_ids, round}
use Rattle.ymx_machine.specs.shared.Lists.{look, Distinct}
use Rattle.ymx_model.specs.session.Sessions.{Session, is_running, is_broken}
use Rattle.ymx_model.specs.session.Emissions.{Choice, begin, begin_answer, begin_stream, begin_kind, begins, error_frame, go_away_frame, ping_frame, Ready, Flows, Emits, moves_on, is_ready, no_answers, in_turn, is_first, freely}
use Rattle.ymx_model.specs.session.Emissions.Choice.{TheErrorDue, TheGoAway, TheAnswer, ThePing, AStream}
use Rattle.ymx_law_session.specs.Limits.{IsWithin}
use Rattle.ymx_machine.proofs.Tests.{both_of, none_of, or_true}
use Rattle.ymx_law_session.proofs.limits.Pings.{asked-first, asked-some}
use Rattle.ymx_law_session.proofs.due.Goes.{emits-freely}
use Rattle.ymx_law_session.proofs.limits.EmissionsKeep.{some_if, none_if, if_some, ready-keeps, moves-keep}

-- no frame is next exactly if none is due
pub due-kind : (window : ℕ) (e : End) → is_due window e ≡ is_some (next_kind window e)
due-kind window e = grind (arith, nat_tests)

or_false : (b : Bool) → (b || false) ≡ true → b ≡ true
or_false true e = refl
or_false false e = e

-- ---- what is due, in the table

pub any-of : (window id : ℕ) (ps : List (ℕ × End)) (e : End) → look id ps ≡ Some e → is_due window e ≡ true → any_due window ps ≡ true
any-of window id [] e l d = cc
any-of window id (p ∷ ps) e l d = let h = any-of window id ps e in further (p.0 == id) p.1 (look id ps) (any_due window ps) h l
  where
    further : (b : Bool) (x : End) (o : Option End) (r : Bool) → (o ≡ Some e → is_due window e ≡ true → r ≡ true) → (if b then Some x else o) ≡ Some e → (is_due window x || r) ≡ true
    further true x o r h l = let same : x ≡ e = cc in rw (same, d) refl
    further false x o r h l = rw (h l d) (or_true (is_due window x))

-- an entry stands in a list
abbrev pub Has : (id : ℕ) → End → List (ℕ × End) → Type 0
Has id e [] = ⊥
Has id e (p ∷ ps) = ((p.0 ≡ id) × (p.1 ≡ e)) ⊎ Has id e ps

has-some : (id : ℕ) (e : End) (ps : List (ℕ × End)) → Has id e ps → is_some (look id ps) ≡ true
has-some id e [] h = absurd h
has-some id e (p ∷ ps) (inl h) = let a = h.0 in grind (arith, nat_tests)
has-some id e (p ∷ ps) (inr h) = let i = has-some id e ps h in grind (arith, nat_tests)

pub has-look : (id : ℕ) (e : End) (ps : List (ℕ × End)) → Distinct ps → Has id e ps → look id ps ≡ Some e
has-look id e [] d h = absurd h
has-look id e (p ∷ ps) d (inl h) = let a = h.0 in let b = h.1 in grind (arith, nat_tests)
has-look id e (p ∷ ps) d (inr h) =
    let i = has-look id e ps d.1 h in let none = d.0 in let s = has-some id e ps h in
    let apart : p.0 ≢ id = (λ q. let z : is_some (look p.0 ps) ≡ true = rw q s in let y : is_some (look p.0 ps) ≡ false = rw none refl in cc) in grind (arith, nat_tests)

has-take : (n id : ℕ) (e : End) (ps : List (ℕ × End)) → Has id e (take n ps) → Has id e ps
has-take zero id e ps h = absurd h
has-take (suc n) id e [] h = absurd h
has-take (suc n) id e (p ∷ ps) (inl h) = inl h
has-take (suc n) id e (p ∷ ps) (inr h) = inr (has-take n id e ps h)

has-drop : (n id : ℕ) (e : End) (ps : List (ℕ × End)) → Has id e (drop n ps) → Has id e ps
has-drop zero id e ps h = h
has-drop (suc n) id e [] h = absurd h
has-drop (suc n) id e (p ∷ ps) h = inr (has-drop n id e ps h)

-- a stream with something due, found first
pub record Found (window : ℕ) (ps : List (ℕ × End)) (ids : List ℕ) : Type 0 where
  pub id : ℕ
  pub record_ : End
  pub has : Has id record_ ps
  pub due : is_due window record_ ≡ true
  pub first : is_first id ids ≡ true

found : (window : ℕ) (ps : List (ℕ × End)) → any_due window ps ≡ true → Found window ps (due_ids window ps)
found window [] a = cc
found window (p ∷ ps) a = of (λ r. found window ps r) (is_due window p.1) refl
  where
    of : (any_due window ps ≡ true → Found window ps (due_ids window ps)) → (b : Bool) → is_due window p.1 ≡ b → Found window (p ∷ ps) (due_ids window (p ∷ ps))
    of more true d = record { id = p.0; record_ = p.1; has = inl (refl, refl); due = d; first = rw d (grind (arith, nat_tests)) }
    of more false d =
        let rest : any_due window ps ≡ true = rw d at a in
        let f = more rest in record { id = f.id; record_ = f.record_; has = inr f.has; due = f.due; first = rw d f.first }

any-append : (window : ℕ) (a b : List (ℕ × End)) → any_due window (a ++ b) ≡ (any_due window a || any_due window b)
any-append window [] b = refl
any-append window (p ∷ a) b = rw (any-append window a b) (or_or (is_due window p.1) (any_due window a) (any_due window b))
  where
    or_or : (x y z : Bool) → (x || (y || z)) ≡ (x || y || z)
    or_or true y z = refl
    or_or false y z = refl

no_ids : (window : ℕ) (ps : List (ℕ × End)) → any_due window ps ≡ false → due_ids window ps ≡ []
no_ids window [] a = refl
no_ids window (p ∷ ps) a = let n = none_of (is_due window p.1) (any_due window ps) a in rw (n.0, no_ids window ps n.1) refl

first-append : (id : ℕ) (xs ys : List ℕ) → is_first id xs ≡ true → is_first id (xs ++ ys) ≡ true
first-append id [] ys f = cc
first-append id (x ∷ xs) ys f = f

take-drop : (n : ℕ) (ps : List (ℕ × End)) → take n ps ++ drop n ps ≡ ps
take-drop n ps = grind (arith, common_steps)

-- going round from the place of the next turn finds one where any is due
pub found-round : (t : Table) → any_due t.window t.entries ≡ true → Found t.window t.entries (round t)
found-round t a = of (any_due t.window (drop t.turn t.entries)) refl
  where
    of : (b : Bool) → any_due t.window (drop t.turn t.entries) ≡ b → Found t.window t.entries (round t)
    of true d =
        let f = found t.window (drop t.turn t.entries) d in
        record { id = f.id; record_ = f.record_; has = has-drop t.turn f.id f.record_ t.entries f.has; due = f.due; first = first-append f.id _ _ f.first }
    of false d =
        let both : any_due t.window (take t.turn t.entries ++ drop t.turn t.entries) ≡ true = rw (take-drop t.turn t.entries) a in
        let e : (any_due t.window (take t.turn t.entries) || any_due t.window (drop t.turn t.entries)) ≡ true = sym (any-append t.window (take t.turn t.entries) (drop t.turn t.entries)) ∙ both in
        let front : any_due t.window (take t.turn t.entries) ≡ true = or_false (any_due t.window (take t.turn t.entries)) (rw d at e) in
        let f = found t.window (take t.turn t.entries) front in
        record { id = f.id; record_ = f.record_; has = has-take t.turn f.id f.record_ t.entries f.has; due = f.due; first = rw (no_ids t.window (drop t.turn t.entries) d) f.first }

-- ---- a frame that is due begins

answer_some : (xs : List Response) (s : Session) → no_answers xs ≡ false → (t : Session) × (begin_answer xs s ≡ Some t)
answer_some [] s n = cc
answer_some (r ∷ more) s n = (_, refl)

kind_some : (id limit : ℕ) (e : End) (k : Option FrameKind) (s : Session) → is_some k ≡ true → (t : Session) × (begin_kind id limit e k s ≡ Some t)
kind_some id limit e None s n = cc
kind_some id limit e (Some kind) s n = (_, refl)

-- the next in turn
pub record Next (s : Session) : Type 0 where
  pub choice : Choice
  pub turn : in_turn choice s ≡ true
  pub after : Session
  pub begins : begin choice s ≡ Some after

some_is : (o : Option ℕ) → is_some o ≡ true → (n : ℕ) × (o ≡ Some n)
some_is None e = cc
some_is (Some n) e = (n, refl)

stream_next : (s : Session) → IsWithin s → is_running s.status ≡ true → away_due s.away.here ≡ false → no_answers s.answers ≡ true → is_some (first_asked s.pings.pending) ≡ false →
    any_due s.table.window s.table.entries ≡ true → Next s
stream_next s w run away answers asked due =
    let f = found-round s.table due in
    let l = has-look f.id f.record_ s.table.entries w.table.distinct f.has in
    let k : is_some (next_kind s.table.window f.record_) ≡ true = sym (due-kind s.table.window f.record_) ∙ f.due in
    let b = kind_some f.id data_limit f.record_ (next_kind s.table.window f.record_) s k in
    record { choice = AStream f.id data_limit; turn = rw (away, answers, asked, f.first) refl; after = b.0; begins = rw (run, l) b.1 }

ping_next : (s : Session) (n : ℕ) → IsWithin s → is_running s.status ≡ true → away_due s.away.here ≡ false → no_answers s.answers ≡ true → first_asked s.pings.pending ≡ Some n → Next s
ping_next s n w run away answers asked =
    let h = asked-first n s.pings.pending w.pings.once asked in
    record { choice = ThePing n; turn = rw (away, answers, asked) (grind (arith, nat_tests)); after = begins (ping_frame n) (record s { pings = begin_ping n s.pings }); begins = rw (run, h) refl }

running_next : (s : Session) → IsWithin s → is_running s.status ≡ true →
    (away_due s.away.here || not (no_answers s.answers) || is_some (first_asked s.pings.pending) || any_due s.table.window s.table.entries) ≡ true → Next s
running_next s w run due = of_away (away_due s.away.here) refl
  where
    of_due : (away_due s.away.here ≡ false) → (no_answers s.answers ≡ true) → (b : Bool) → is_some (first_asked s.pings.pending) ≡ b → Next s
    of_due away answers true asked = (let n = some_is (first_asked s.pings.pending) asked in ping_next s n.0 w run away answers n.1)
    of_due away answers false asked =
        let d : any_due s.table.window s.table.entries ≡ true = rw (away, answers, asked) at due in stream_next s w run away answers asked d

    of_answers : (away_due s.away.here ≡ false) → (b : Bool) → no_answers s.answers ≡ b → Next s
    of_answers away false a =
        let t = answer_some s.answers s a in record { choice = TheAnswer; turn = rw away refl; after = t.0; begins = rw run t.1 }
    of_answers away true a = of_due away a (is_some (first_asked s.pings.pending)) refl

    of_away : (b : Bool) → away_due s.away.here ≡ b → Next s
    of_away true a = record { choice = TheGoAway; turn = refl; after = begins go_away_frame (record s { away = begin_away s.away }); begins = rw (run, a) refl }
    of_away false a = of_answers a (no_answers s.answers) refl

-- where something is due and no frame is begun, the next in turn begins
pub next_of : (s : Session) → IsWithin s → is_empty s.outgoing.bytes ≡ true → is_ready s ≡ true → Next s
next_of s w e r = of_error_due (s.error_due && is_broken s.status) refl
  where
    of_error_due : (b : Bool) → (s.error_due && is_broken s.status) ≡ b → Next s
    of_error_due true a = record { choice = TheErrorDue; turn = refl; after = begins error_frame (record s { error_due = false }); begins = rw a refl }
    of_error_due false a =
        let d = rw (e, a) at r in
        let both = both_of (is_running s.status) _ d in running_next s w both.0 both.1

-- ---- a byte goes out

-- a frame that begins has a byte at least
spelled_some : (kind : FrameKind) (window limit id : ℕ) (e : End) → is_empty (spelled kind window limit id e) ≡ false
spelled_some Open window limit id e = refl
spelled_some _ window limit id e = refl

some_of : (x t : Session) → Some x ≡ Some t → is_empty x.outgoing.bytes ≡ false → is_empty t.outgoing.bytes ≡ false
some_of x t e n = let same : x ≡ t = cc in rw (← same) n

answer_has : (xs : List Response) (s t : Session) → begin_answer xs s ≡ Some t → is_empty t.outgoing.bytes ≡ false
answer_has [] s t b = cc
answer_has (Pong v ∷ more) s t b = some_of _ t b refl
answer_has (Reject id ∷ more) s t b = some_of _ t b refl

kind_has : (id limit : ℕ) (e : End) (k : Option FrameKind) (s t : Session) → begin_kind id limit e k s ≡ Some t → is_empty t.outgoing.bytes ≡ false
kind_has id limit e None s t b = cc
kind_has id limit e (Some kind) s t b = some_of _ t b (spelled_some kind s.table.window limit id e)

stream_has : (id limit : ℕ) (o : Option End) (s t : Session) → begin_stream id limit o s ≡ Some t → is_empty t.outgoing.bytes ≡ false
stream_has id limit None s t b = cc
stream_has id limit (Some e) s t b =
    kind_has id limit e (next_kind s.table.window e) s t (none_if (limit == 0 || nat_lt first_credit limit) (begin_kind id limit e (next_kind s.table.window e) s) t b).1

pub begin-has : (c : Choice) (s t : Session) → begin c s ≡ Some t → is_empty t.outgoing.bytes ≡ false
begin-has TheErrorDue s t b = let p = some_if (s.error_due && is_broken s.status) (begins error_frame (record s { error_due = false })) t b in rw p.1 refl
begin-has TheGoAway s t b = let p = some_if (is_running s.status && away_due s.away.here) (begins go_away_frame (record s { away = begin_away s.away })) t b in rw p.1 refl
begin-has TheAnswer s t b = answer_has s.answers s t (if_some (is_running s.status) (begin_answer s.answers s) t b).1
begin-has (ThePing n) s t b =
    let p = some_if (is_running s.status && has_asked n s.pings.pending) (begins (ping_frame n) (record s { pings = begin_ping n s.pings })) t b in rw p.1 refl
begin-has (AStream id limit) s t b =
    stream_has id limit (look id s.table.entries) s t (if_some (is_running s.status) (begin_stream id limit (look id s.table.entries) s) t b).1

-- a byte that goes out next
pub record GivesOne (may : Choice → Session → Bool) (s : Session) : Type 0 where
  pub byte : ℕ
  pub ready : Session
  pub is : Ready may s ready
  pub first : take 1 ready.outgoing.bytes ≡ byte ∷ []

first_byte : (xs : List ℕ) → is_empty xs ≡ false → (b : ℕ) × (take 1 xs ≡ b ∷ [])
first_byte [] e = cc
first_byte (b ∷ xs) e = (b, refl)

pub gives-one : (s : Session) → IsWithin s → is_ready s ≡ true → GivesOne in_turn s
gives-one s w r = of (is_empty s.outgoing.bytes) refl
  where
    of : (b : Bool) → is_empty s.outgoing.bytes ≡ b → GivesOne in_turn s
    of false e = let f = first_byte s.outgoing.bytes e in record { byte = f.0; ready = s; is = inl (e, refl); first = f.1 }
    of true e =
        let n = next_of s w e r in
        let f = first_byte n.after.outgoing.bytes (begin-has n.choice s n.after n.begins) in
        record { byte = f.0; ready = n.after; is = inr (e, (n.choice, n.turn, n.begins)); first = f.1 }

-- ---- an emission gives what it may

pub record Emission (may : Choice → Session → Bool) (s : Session) (room : ℕ) : Type 0 where
  pub out : List ℕ
  pub after : Session
  pub emits : Emits may s room out after

-- into any room something or nothing is emitted in turn
pub emission : (room : ℕ) (s : Session) → IsWithin s → Emission in_turn s room
emission zero s w = record { out = []; after = s; emits = record { fits = omega arith; flows = refl; full = λ l. absurd (omega arith) } }
emission (suc room) s w = of (λ t v. emission room t v) (is_ready s) refl
  where
    of : ((t : Session) → IsWithin t → Emission in_turn t room) → (b : Bool) → is_ready s ≡ b → Emission in_turn s (suc room)
    of more false r = record { out = []; after = s; emits = record { fits = omega arith; flows = refl; full = λ l. r } }
    of more true r =
        let g = gives-one s w r in
        let m = more (moves_on 1 g.ready) (moves-keep 1 g.ready (ready-keeps in_turn s g.ready g.is w)) in
        record { out = g.byte ∷ m.out; after = m.after; emits = record { fits = omega (arith, m.emits.fits); flows = (g.ready, g.is, g.first, m.emits.flows); full = λ l. m.emits.full (omega arith) } }

-- ---- where a byte goes out, something was due

or_left : (a b : Bool) → a ≡ true → (a || b) ≡ true
or_left true b e = refl
or_left false b e = cc

any_stream : (id limit : ℕ) (o : Option End) (s t : Session) → look id s.table.entries ≡ o → begin_stream id limit o s ≡ Some t → any_due s.table.window s.table.entries ≡ true
any_stream id limit None s t l b = cc
any_stream id limit (Some e) s t l b =
    let k = (none_if (limit == 0 || nat_lt first_credit limit) (begin_kind id limit e (next_kind s.table.window e) s) t b).1 in
    any-of s.table.window id s.table.entries e l (due-kind s.table.window e ∙ kind_there (next_kind s.table.window e) k)
  where
    kind_there : (k : Option FrameKind) → begin_kind id limit e k s ≡ Some t → is_some k ≡ true
    kind_there None b = cc
    kind_there (Some kind) b = refl

answers_there : (xs : List Response) (s t : Session) → begin_answer xs s ≡ Some t → no_answers xs ≡ false
answers_there [] s t b = cc
answers_there (r ∷ more) s t b = refl

pub begin-ready : (c : Choice) (s t : Session) → begin c s ≡ Some t → is_ready s ≡ true
begin-ready TheErrorDue s t b =
    let p = (some_if (s.error_due && is_broken s.status) (begins error_frame (record s { error_due = false })) t b).0 in
    rw p (or_left _ _ (or_true (not (is_empty s.outgoing.bytes))))
begin-ready TheGoAway s t b =
    let p = both_of (is_running s.status) (away_due s.away.here) (some_if (is_running s.status && away_due s.away.here) (begins go_away_frame (record s { away = begin_away s.away })) t b).0 in
    rw (p.0, p.1) (or_true _)
begin-ready TheAnswer s t b =
    let p = if_some (is_running s.status) (begin_answer s.answers s) t b in
    rw (p.0, answers_there s.answers s t p.1, or_true (away_due s.away.here)) (or_true _)
begin-ready (ThePing n) s t b =
    let p = both_of (is_running s.status) (has_asked n s.pings.pending) (some_if (is_running s.status && has_asked n s.pings.pending) (begins (ping_frame n) (record s { pings = begin_ping n s.pings })) t b).0 in
    rw (p.0, asked-some n s.pings.pending p.1, or_true (away_due s.away.here || not (no_answers s.answers))) (or_true _)
begin-ready (AStream id limit) s t b =
    let p = if_some (is_running s.status) (begin_stream id limit (look id s.table.entries) s) t b in
    rw (p.0, any_stream id limit (look id s.table.entries) s t refl p.1, or_true (away_due s.away.here || not (no_answers s.answers) || is_some (first_asked s.pings.pending))) (or_true _)

pub ready-is : (may : Choice → Session → Bool) (s t : Session) → Ready may s t → is_ready s ≡ true
ready-is may s t (inl h) = rw (h.0) refl
ready-is may s t (inr (e, (c, ok, b))) = begin-ready c s t b

-- where nothing is due, every emission gives none
pub none-due : (may : Choice → Session → Bool) (s : Session) (out : List ℕ) (t : Session) → is_ready s ≡ false → Flows may out s t → out ≡ []
none-due may s [] t n f = refl
none-due may s (b ∷ bs) t n (ready, r, first, rest) = let z = ready-is may s ready r in cc

-- ---- exactly

pub due-gives : (s : Session) → IsWithin s → is_ready s ≡ true → (b : ℕ) × (t : Session) × Emits in_turn s 1 (b ∷ []) t
due-gives s w r =
    let g = gives-one s w r in
    (g.byte, moves_on 1 g.ready, record { fits = omega arith; flows = (g.ready, g.is, g.first, refl); full = λ l. absurd (omega arith) })

pub given-due : (may : Choice → Session → Bool) (s : Session) (b : ℕ) (bs : List ℕ) (t : Session) → Flows may (b ∷ bs) s t → is_ready s ≡ true
given-due may s b bs t (ready, r, first, rest) = ready-is may s ready r

pub none-given : (s : Session) → IsWithin s → ((t : Session) (out : List ℕ) → Emits freely s 1 out t → out ≡ []) → is_ready s ≡ false
none-given s w none = of (is_ready s) refl
  where
    of : (b : Bool) → is_ready s ≡ b → is_ready s ≡ false
    of false r = r
    of true r =
        let g = due-gives s w r in
        let z : g.0 ∷ [] ≡ [] = none g.1 (g.0 ∷ []) (emits-freely in_turn s 1 (g.0 ∷ []) g.1 g.2) in cc

-- where something is due an emission gives a byte, in any order
pub always-gives : (may : Choice → Session → Bool) (s : Session) (room : ℕ) (out : List ℕ) (t : Session) → is_ready s ≡ true → 0 < room → Emits may s room out t → 0 < length out
always-gives may s room [] t r some e = let full = e.full some in let same = e.flows in cc
always-gives may s room (b ∷ bs) t r some e = omega arith
