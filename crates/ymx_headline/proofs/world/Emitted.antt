-- What a session emits is the rest of its frame begun, and then whole frames.
use Rattle.std.proofs.Common.{◌≡◌, inl, inr, ℕ, ◌-◌, ◌≤◌, List, [], ◌∷◌, ◌++◌, length, take, drop, Bool, true, false, ◌&&◌, ◌||◌, ◌==◌, nat_lt, Option, None, Some, refl, sym, ap, ◌∙◌, subst, arith}
use Rattle.std.specs.List.{All, concat}
use Rattle.std.proofs.lemmas.Grind.{common_steps}
use Rattle.std.proofs.lemmas.Bool.Decides.{nat_tests}
use Rattle.std.proofs.lemmas.List.{append-nil}
use Rattle.std.proofs.lemmas.List.Elements.{All-nil, All-cons}
use Rattle.ymx_model.specs.declared.types.Response.{Response}
use Rattle.ymx_model.specs.declared.types.Response.TheVariants.{Pong, Reject}
use Rattle.ymx_machine.specs.shared.Limits.{first_credit}
use Rattle.ymx_model.specs.session.Records.{End}
use Rattle.ymx_model.specs.declared.types.FrameKind.{FrameKind}
use Rattle.ymx_model.specs.session.FramesDue.{is_empty, frame, spelled, next_kind}
use Rattle.ymx_model.specs.declared.types.FrameKind.TheVariants.{Open, OpenWith, Accept, Reset, Credit, Data, Fin}
use Rattle.ymx_model.specs.session.Pings.{has_asked, begin_ping}
use Rattle.ymx_model.specs.session.GoAway.{away_due, begin_away}
use Rattle.ymx_machine.specs.shared.Lists.{look}
use Rattle.ymx_model.specs.session.Tables.{remove_record}
use Rattle.ymx_model.specs.session.Sessions.{Session, nothing_outgoing, is_running, is_broken, is_spent, reap}
use Rattle.ymx_model.specs.session.Emissions.{Choice, begin, begin_answer, begin_stream, begin_kind, begins, error_frame, go_away_frame, answer_frame, ping_frame, moves_on, reaps, Flows}
use Rattle.ymx_model.specs.session.Emissions.Choice.{TheErrorDue, TheGoAway, TheAnswer, ThePing, AStream}
use Rattle.ymx_model.specs.world.UnderWay.{IsOneFrame}
use Rattle.ymx_machine.proofs.Tests.{split, none_of, not_lt, one_some}
use Rattle.ymx_law_session.proofs.limits.EmissionsKeep.{some_if, none_if, if_some}
use Rattle.ymx_headline.proofs.world.Frames.{data-frame, short-frame}

-- what an emission leaves alone
pub record SameInput (s t : Session) : Type 0 where
  pub status : t.status ≡ s.status
  pub incoming : t.incoming ≡ s.incoming

pub same-then : (s t u : Session) → SameInput s t → SameInput t u → SameInput s u
same-then s t u p q = record { status = q.status ∙ p.status; incoming = q.incoming ∙ p.incoming }

-- ---- one frame begins

-- a frame has begun, and no byte of it is out
record Begins (s t : Session) : Type 0 where
  one : IsOneFrame t.outgoing.bytes
  same : SameInput s t

data-one : (flags id : ℕ) (limit : ℕ) (unsent : List ℕ) → limit ≤ first_credit → IsOneFrame (frame 0 flags id (length (take limit unsent)) (take limit unsent))
data-one flags id limit unsent few = data-frame flags id (take limit unsent) (grind (arith, common_steps))

pub spelled-one : (kind : FrameKind) (window limit id : ℕ) (e : End) → limit ≤ first_credit → IsOneFrame (spelled kind window limit id e)
spelled-one Open window limit id e few = short-frame 1 1 id (window - first_credit) (omega arith) (omega arith)
spelled-one OpenWith window limit id e few = data-one 1 id limit e.writer.unsent few
spelled-one Accept window limit id e few = short-frame 1 2 id (window - first_credit) (omega arith) (omega arith)
spelled-one Reset window limit id e few = short-frame 1 8 id 0 (omega arith) (omega arith)
spelled-one Credit window limit id e few = short-frame 1 0 id e.reader.owed (omega arith) (omega arith)
spelled-one Data window limit id e few = data-one 0 id limit e.writer.unsent few
spelled-one Fin window limit id e few = short-frame 1 4 id 0 (omega arith) (omega arith)

answer-one : (r : Response) → IsOneFrame (answer_frame r)
answer-one (Pong value) = short-frame 2 2 0 value (omega arith) (omega arith)
answer-one (Reject id) = short-frame 1 8 id 0 (omega arith) (omega arith)

answer-begins : (xs : List Response) (s t : Session) → begin_answer xs s ≡ Some t → Begins s t
answer-begins [] s t e = cc
answer-begins (r ∷ more) s t e =
    let P : Session → Type 0 = Begins s in
    subst P (one_some _ t e) (record { one = answer-one r; same = record { status = refl; incoming = refl } })

kind-begins : (id limit : ℕ) (e : End) (k : Option FrameKind) (s t : Session) → limit ≤ first_credit → begin_kind id limit e k s ≡ Some t → Begins s t
kind-begins id limit e None s t few b = cc
kind-begins id limit e (Some kind) s t few b =
    let P : Session → Type 0 = Begins s in
    subst P (one_some _ t b) (record { one = spelled-one kind s.table.window limit id e few; same = record { status = refl; incoming = refl } })

stream-begins : (id limit : ℕ) (o : Option End) (s t : Session) → begin_stream id limit o s ≡ Some t → Begins s t
stream-begins id limit None s t b = cc
stream-begins id limit (Some e) s t b =
    let n = none_if (limit == 0 || nat_lt first_credit limit) (begin_kind id limit e (next_kind s.table.window e) s) t b in
    let few = not_lt first_credit limit (none_of (limit == 0) (nat_lt first_credit limit) n.0).1 in
    kind-begins id limit e (next_kind s.table.window e) s t few n.1

begin-begins : (c : Choice) (s t : Session) → begin c s ≡ Some t → Begins s t
begin-begins TheErrorDue s t b =
    let p = some_if (s.error_due && is_broken s.status) (begins error_frame (record s { error_due = false })) t b in
    let P : Session → Type 0 = Begins s in
    subst P (sym p.1) (record { one = short-frame 3 0 0 1 (omega arith) (omega arith); same = record { status = refl; incoming = refl } })
begin-begins TheGoAway s t b =
    let p = some_if (is_running s.status && away_due s.away.here) (begins go_away_frame (record s { away = begin_away s.away })) t b in
    let P : Session → Type 0 = Begins s in
    subst P (sym p.1) (record { one = short-frame 3 0 0 0 (omega arith) (omega arith); same = record { status = refl; incoming = refl } })
begin-begins TheAnswer s t b = let p = if_some (is_running s.status) (begin_answer s.answers s) t b in answer-begins s.answers s t p.1
begin-begins (ThePing n) s t b =
    let p = some_if (is_running s.status && has_asked n s.pings.pending) (begins (ping_frame n) (record s { pings = begin_ping n s.pings })) t b in
    let P : Session → Type 0 = Begins s in
    subst P (sym p.1) (record { one = short-frame 2 1 0 n (omega arith) (omega arith); same = record { status = refl; incoming = refl } })
begin-begins (AStream id limit) s t b =
    let p = if_some (is_running s.status) (begin_stream id limit (look id s.table.entries) s) t b in stream-begins id limit (look id s.table.entries) s t p.1

-- ---- one byte goes out

-- a byte has gone out: the first of the frame begun
record Moves (b : ℕ) (s t : Session) : Type 0 where
  bytes : s.outgoing.bytes ≡ b ∷ t.outgoing.bytes
  same : SameInput s t

pub reaped-begun : (id : ℕ) (s t : Session) → t ≡ reap id s → (t.outgoing ≡ s.outgoing) × SameInput s t
reaped-begun id s t e =
    let P : Session → Type 0 = λ x. (x.outgoing ≡ s.outgoing) × SameInput s x in
    subst P (sym e) (split P (is_spent s.table.window s.outgoing id (look id s.table.entries)) (record s { table = remove_record id s.table }) s
    (λ y. (refl, record { status = refl; incoming = refl })) (λ n. (refl, record { status = refl; incoming = refl })))

reaps-begun : (of : Option ℕ) (s : Session) → ((reaps of s).outgoing ≡ s.outgoing) × SameInput s (reaps of s)
reaps-begun None s = (refl, record { status = refl; incoming = refl })
reaps-begun (Some id) s = reaped-begun id s (reap id s) refl

pub first_and_rest : (b : ℕ) (xs : List ℕ) → take 1 xs ≡ b ∷ [] → xs ≡ b ∷ drop 1 xs
first_and_rest b [] e = absurd cc
first_and_rest b (x ∷ xs) e = cc

pub only_one : (b : ℕ) (xs : List ℕ) → take 1 xs ≡ b ∷ [] → nat_lt 1 (length xs) ≡ false → xs ≡ b ∷ []
only_one b [] e l = absurd cc
only_one b (x ∷ []) e l = e
only_one b (x ∷ y ∷ xs) e l = absurd (grind (arith, nat_tests))

moves : (b : ℕ) (s : Session) → take 1 s.outgoing.bytes ≡ b ∷ [] → Moves b s (moves_on 1 s)
moves b s e =
    split (Moves b s) (nat_lt 1 (length s.outgoing.bytes)) (record s { outgoing = record { bytes = drop 1 s.outgoing.bytes; of = s.outgoing.of } }) (reaps s.outgoing.of (record s { outgoing = nothing_outgoing }))
    (λ t. record { bytes = first_and_rest b s.outgoing.bytes e; same = record { status = refl; incoming = refl } })
    (λ f. let r = reaps-begun s.outgoing.of (record s { outgoing = nothing_outgoing }) in
    record { bytes = rw r.0 (only_one b s.outgoing.bytes e f); same = record { status = r.1.status; incoming = r.1.incoming } })

-- ---- bytes go out

-- These frames have begun while these bytes went out: with the rest of the frame begun before they are the
-- bytes, and the rest of the frame begun now.
pub record Sent (out : List ℕ) (s t : Session) : Type 0 where
  pub frames : List (List ℕ)
  pub each : All IsOneFrame frames
  pub bytes : s.outgoing.bytes ++ concat frames ≡ out ++ t.outgoing.bytes
  pub same : SameInput s t

pub empty-bytes : (xs : List ℕ) → is_empty xs ≡ true → xs ≡ []
empty-bytes [] e = refl
empty-bytes (x ∷ xs) e = cc

more-begun : (b : ℕ) (a c rest : List ℕ) (frames : List ℕ) (out : List ℕ) → a ≡ b ∷ c → c ++ frames ≡ out ++ rest → a ++ frames ≡ (b ∷ out) ++ rest
more-begun b a c rest frames out e p = rw e (ap (λ xs. b ∷ xs) p)

new-begun : (b : ℕ) (was a c rest frames out : List ℕ) → was ≡ [] → a ≡ b ∷ c → c ++ frames ≡ out ++ rest → was ++ (a ++ frames) ≡ (b ∷ out) ++ rest
new-begun b was a c rest frames out z e p = rw (z, e) (ap (λ xs. b ∷ xs) p)

pub flows-sent : (may : Choice → Session → Bool) (out : List ℕ) (s t : Session) → Flows may out s t → Sent out s t
flows-sent may [] s t e =
    let P : Session → Type 0 = Sent [] s in
    subst P (sym e) (record { frames = []; each = All-nil IsOneFrame; bytes = append-nil s.outgoing.bytes; same = record { status = refl; incoming = refl } })
flows-sent may (b ∷ out) s t (ready, inl (more, same), first, p) =
    let m = moves b ready first in
    let r = flows-sent may out (moves_on 1 ready) t p in record {
      frames = r.frames;
      each = r.each;
      bytes = rw (← same) (more-begun b ready.outgoing.bytes (moves_on 1 ready).outgoing.bytes t.outgoing.bytes (concat r.frames) out m.bytes r.bytes);
      same = rw (← same) (same-then ready (moves_on 1 ready) t m.same r.same);
    }
flows-sent may (b ∷ out) s t (ready, inr (none, (choice, ok, begun)), first, p) =
    let m = moves b ready first in
    let g = begin-begins choice s ready begun in
    let r = flows-sent may out (moves_on 1 ready) t p in record {
      frames = ready.outgoing.bytes ∷ r.frames;
      each = All-cons IsOneFrame ready.outgoing.bytes r.frames g.one r.each;
      bytes = new-begun b s.outgoing.bytes ready.outgoing.bytes (moves_on 1 ready).outgoing.bytes t.outgoing.bytes (concat r.frames) out (empty-bytes s.outgoing.bytes none) m.bytes r.bytes;
      same = same-then s ready t g.same (same-then ready (moves_on 1 ready) t m.same r.same);
    }
