-- Every emission keeps the limits.
use Rattle.std.proofs.Common.{◌≡◌, inl, inr, ℕ, ◌≤◌, List, [], ◌∷◌, length, Bool, true, false, not, ◌&&◌, ◌||◌, ◌==◌, nat_lt, if◌then◌else◌, Option, None, Some, refl, sym, ◌∙◌, subst, arith}
use Rattle.ymx_model.specs.declared.types.Response.{Response}
use Rattle.ymx_model.specs.declared.types.PingStage.TheVariants.{Sent}
use Rattle.ymx_machine.specs.shared.Limits.{first_credit}
use Rattle.ymx_machine.specs.shared.Phases.{is_offered, is_live, Phase}
use Rattle.ymx_model.specs.session.Records.{End, takes_payload}
use Rattle.ymx_model.specs.declared.types.FrameKind.{FrameKind}
use Rattle.ymx_model.specs.session.FramesDue.{begin_frame, spelled, next_kind}
use Rattle.ymx_model.specs.declared.types.FrameKind.TheVariants.{Open, OpenWith, Accept, Reset, Credit, Data, Fin}
use Rattle.ymx_model.specs.session.Pings.{begin_ping, has_asked}
use Rattle.ymx_model.specs.session.GoAway.{away_due, begin_away}
use Rattle.ymx_machine.specs.shared.Lists.{look, change}
use Rattle.ymx_model.specs.session.Tables.{with_record, pass_turn}
use Rattle.ymx_model.specs.session.Sessions.{Session, nothing_outgoing, is_running, is_broken}
use Rattle.ymx_model.specs.session.Emissions.{Choice, begin, begin_answer, begin_stream, begin_kind, begins, error_frame, go_away_frame, answer_frame, ping_frame, moves_on, reaps, Ready, Flows}
use Rattle.ymx_model.specs.session.Emissions.Choice.{TheErrorDue, TheGoAway, TheAnswer, ThePing, AStream}
use Rattle.ymx_law_session.specs.Limits.{IsEndWithin, IsSilent, IsWithin, IsAnswersWithin}
use Rattle.ymx_machine.proofs.Tests.{split, one_some}
use Rattle.ymx_machine.proofs.Lists.{look-change_same}
use Rattle.ymx_law_session.proofs.limits.Ends.{sends-within}
use Rattle.ymx_law_session.proofs.limits.Offers.{offered-on}
use Rattle.ymx_law_session.proofs.limits.Records.{table-on, table-served, incoming-on, within-reaped}
use Rattle.ymx_law_session.proofs.limits.Owns.{next-on}
use Rattle.ymx_law_session.proofs.limits.Pings.{staged-within}

-- ---- which frames begin

pub some_if : {X : Type 0} (b : Bool) (x t : X) → (if b then Some x else None) ≡ Some t → (b ≡ true) × (t ≡ x)
some_if true x t e = (refl, cc)
some_if false x t e = cc

pub none_if : {X : Type 0} (b : Bool) (o : Option X) (t : X) → (if b then None else o) ≡ Some t → (b ≡ false) × (o ≡ Some t)
none_if true o t e = cc
none_if false o t e = (refl, e)

pub if_some : {X : Type 0} (b : Bool) (o : Option X) (t : X) → (if b then o else None) ≡ Some t → (b ≡ true) × (o ≡ Some t)
if_some true o t e = (refl, e)
if_some false o t e = cc

offered_not_live : (p : Phase) → is_offered p ≡ true → is_live p ≡ false
offered_not_live p e = grind arith

silent-none : (window : ℕ) (e : End) → IsSilent e → is_live e.phase ≡ false → next_kind window e ≡ None
silent-none window e s l = rw (s.syn, s.ack, s.rst, l, s.unsent, s.finished) refl

-- an offered stream has no frame
pub not_offered : (window : ℕ) (e : End) (kind : FrameKind) → IsEndWithin window e → next_kind window e ≡ Some kind → is_offered e.phase ≡ false
not_offered window e kind w n = of (is_offered e.phase) refl
  where
    of : (b : Bool) → is_offered e.phase ≡ b → is_offered e.phase ≡ false
    of false o = o
    of true o = let z = silent-none window e (w.offered o) (offered_not_live e.phase o) in let y : None ≡ Some kind = sym z ∙ n in absurd cc

-- ---- a frame of the session

session-begins : (bytes : List ℕ) (s : Session) → IsWithin s → IsWithin (begins bytes s)
session-begins bytes s w =
    record { table = w.table; offered = w.offered; pings = w.pings; answers = w.answers; outgoing = tt; incoming = w.incoming; next = w.next }

answer-begins : (xs : List Response) (s t : Session) → s.answers ≡ xs → begin_answer xs s ≡ Some t → IsWithin s → IsWithin t
answer-begins [] s t e b w = cc
answer-begins (r ∷ more) s t e b w =
    let same : t ≡ begins (answer_frame r) (record s { answers = more }) = cc in
    let a : IsAnswersWithin (r ∷ more) s.incoming = (let P : List Response → Type 0 = λ xs. IsAnswersWithin xs s.incoming in subst P e w.answers) in
    subst IsWithin (sym same) record {
      table = w.table;
      offered = w.offered;
      pings = w.pings;
      answers = record { count = omega (arith, a.count); room = λ i. let l = a.room i in omega arith };
      outgoing = tt;
      incoming = w.incoming;
      next = w.next;
    }

-- ---- a frame of a stream

same_phase : (window limit : ℕ) (kind : FrameKind) (e : End) → is_offered (begin_frame window limit kind e).phase ≡ is_offered e.phase
same_phase window limit Open e = refl
same_phase window limit OpenWith e = refl
same_phase window limit Accept e = refl
same_phase window limit Reset e = refl
same_phase window limit Credit e = refl
same_phase window limit Data e = refl
same_phase window limit Fin e = refl

grants_more : (window limit : ℕ) (kind : FrameKind) (e : End) → takes_payload (begin_frame window limit kind e) ≡ true → (takes_payload e ≡ true) × (e.reader.granted ≤ (begin_frame window limit kind e).reader.granted)
grants_more window limit Open e t = (t, omega arith)
grants_more window limit OpenWith e t = (t, omega arith)
grants_more window limit Accept e t = (t, omega arith)
grants_more window limit Reset e t = (t, omega arith)
grants_more window limit Credit e t = (t, omega arith)
grants_more window limit Data e t = (t, omega arith)
grants_more window limit Fin e t = (t, omega arith)

still_unacked : (window limit : ℕ) (kind : FrameKind) (e : End) → is_live (begin_frame window limit kind e).phase ≡ true → not (begin_frame window limit kind e).marks.acked ≡ true → (is_live e.phase ≡ true) × (not e.marks.acked ≡ true)
still_unacked window limit Open e l a = (l, a)
still_unacked window limit OpenWith e l a = (l, a)
still_unacked window limit Accept e l a = (l, a)
still_unacked window limit Reset e l a = (l, a)
still_unacked window limit Credit e l a = (l, a)
still_unacked window limit Data e l a = (l, a)
still_unacked window limit Fin e l a = (l, a)

stream-begins : (id limit : ℕ) (e : End) (kind : FrameKind) (s : Session) → look id s.table.entries ≡ Some e → is_offered e.phase ≡ false → IsWithin s →
    IsWithin (record s { table = pass_turn id (with_record id (begin_frame s.table.window limit kind) s.table); outgoing = record { bytes = spelled kind s.table.window limit id e; of = Some id } })
stream-begins id limit e kind s l off w =
    let f = begin_frame s.table.window limit kind in
    let there : look id (change id f s.table.entries) ≡ Some (f e) = look-change_same id f s.table.entries ∙ rw l refl in record {
      table = table-served id (with_record id f s.table) (rw there refl) (table-on id f s.table (λ d m k. sends-within s.table.window limit kind d (of d m) k) w.table);
      offered = offered-on id f s.offered s.table.entries (λ d m. same_phase s.table.window limit kind d) w.offered;
      pings = w.pings;
      answers = w.answers;
      outgoing = rw (there, same_phase s.table.window limit kind e, off) refl;
      incoming = incoming-on id f s.incoming s.role s.next s.table.entries (λ d m. grants_more s.table.window limit kind d) w.incoming;
      next = next-on id f s.role s.next s.table.entries (λ d m o. sym (same_phase s.table.window limit kind d) ∙ o) (λ d m own. still_unacked s.table.window limit kind d) w.next;
    }
  where
    of : (d : End) → look id s.table.entries ≡ Some d → is_offered d.phase ≡ false
    of d m = rw (one_some d e (sym m ∙ l)) off

kind-begins : (id limit : ℕ) (e : End) (k : Option FrameKind) (s t : Session) → look id s.table.entries ≡ Some e → next_kind s.table.window e ≡ k →
    begin_kind id limit e k s ≡ Some t → IsWithin s → IsWithin t
kind-begins id limit e None s t l n b w = cc
kind-begins id limit e (Some kind) s t l n b w =
    subst IsWithin (one_some _ t b) (stream-begins id limit e kind s l (not_offered s.table.window e kind (w.table.records id e l) n) w)

look-begins : (id limit : ℕ) (o : Option End) (s t : Session) → look id s.table.entries ≡ o → begin_stream id limit o s ≡ Some t → IsWithin s → IsWithin t
look-begins id limit None s t l b w = cc
look-begins id limit (Some e) s t l b w =
    let n = none_if (limit == 0 || nat_lt first_credit limit) (begin_kind id limit e (next_kind s.table.window e) s) t b in
    kind-begins id limit e (next_kind s.table.window e) s t l refl n.1 w

pub begin-keeps : (c : Choice) (s t : Session) → begin c s ≡ Some t → IsWithin s → IsWithin t
begin-keeps TheErrorDue s t b w =
    let p = some_if (s.error_due && is_broken s.status) (begins error_frame (record s { error_due = false })) t b in
    subst IsWithin (sym p.1) (session-begins error_frame (record s { error_due = false })
    record { table = w.table; offered = w.offered; pings = w.pings; answers = w.answers; outgoing = w.outgoing; incoming = w.incoming; next = w.next })
begin-keeps TheGoAway s t b w =
    let p = some_if (is_running s.status && away_due s.away.here) (begins go_away_frame (record s { away = begin_away s.away })) t b in
    subst IsWithin (sym p.1) (session-begins go_away_frame (record s { away = begin_away s.away })
    record { table = w.table; offered = w.offered; pings = w.pings; answers = w.answers; outgoing = w.outgoing; incoming = w.incoming; next = w.next })
begin-keeps TheAnswer s t b w =
    let p = if_some (is_running s.status) (begin_answer s.answers s) t b in answer-begins s.answers s t refl p.1 w
begin-keeps (ThePing n) s t b w =
    let p = some_if (is_running s.status && has_asked n s.pings.pending) (begins (ping_frame n) (record s { pings = begin_ping n s.pings })) t b in
    subst IsWithin (sym p.1) (session-begins (ping_frame n) (record s { pings = begin_ping n s.pings })
    record { table = w.table; offered = w.offered; pings = staged-within Sent n s.pings w.pings; answers = w.answers; outgoing = w.outgoing; incoming = w.incoming; next = w.next })
begin-keeps (AStream id limit) s t b w =
    let p = if_some (is_running s.status) (begin_stream id limit (look id s.table.entries) s) t b in
    look-begins id limit (look id s.table.entries) s t refl p.1 w

-- ---- bytes that go out

reaps-keeps : (of : Option ℕ) (s : Session) → IsWithin s → IsWithin (reaps of s)
reaps-keeps None s w = w
reaps-keeps (Some id) s w = within-reaped id s w

pub moves-keep : (n : ℕ) (s : Session) → IsWithin s → IsWithin (moves_on n s)
moves-keep n s w =
    split IsWithin (nat_lt n (length s.outgoing.bytes)) _ (reaps s.outgoing.of (record s { outgoing = nothing_outgoing }))
    (λ t. record { table = w.table; offered = w.offered; pings = w.pings; answers = w.answers; outgoing = w.outgoing; incoming = w.incoming; next = w.next })
    (λ f. reaps-keeps s.outgoing.of (record s { outgoing = nothing_outgoing })
    record { table = w.table; offered = w.offered; pings = w.pings; answers = w.answers; outgoing = tt; incoming = w.incoming; next = w.next })

pub ready-keeps : (may : Choice → Session → Bool) (s t : Session) → Ready may s t → IsWithin s → IsWithin t
ready-keeps may s t (inl h) w = subst IsWithin (sym h.1) w
ready-keeps may s t (inr (e, (c, ok, b))) w = begin-keeps c s t b w

pub flows-keep : (may : Choice → Session → Bool) (bytes : List ℕ) (s t : Session) → Flows may bytes s t → IsWithin s → IsWithin t
flows-keep may [] s t e w = subst IsWithin (sym e) w
flows-keep may (b ∷ bytes) s t (ready, r, first, p) w = flows-keep may bytes (moves_on 1 ready) t p (moves-keep 1 ready (ready-keeps may s ready r w))
