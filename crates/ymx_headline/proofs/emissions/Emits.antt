-- An emission is no move of the machine, but that records given up may go.
use Rattle.std.proofs.Common.{◌≡◌, ℕ, ◌≤◌, List, [], ◌∷◌, ◌++◌, length, take, drop, Bool, true, false, not, ◌&&◌, ◌||◌, ◌==◌, nat_lt, Option, None, Some, refl, sym, ap, subst, ◌∙◌, inl, inr}
use Rattle.std.proofs.lemmas.List.{append-nil, append_assoc}
use Rattle.ymx_model.specs.declared.types.Role.{Role}
use Rattle.ymx_machine.specs.shared.Limits.{first_credit}
use Rattle.ymx_machine.specs.shared.Phases.{is_lingering}
use Rattle.ymx_machine.specs.stream.Streams.{Stream, after_move}
use Rattle.ymx_machine.specs.stream.Streams.Move.{Released}
use Rattle.ymx_model.specs.session.Records.{End}
use Rattle.ymx_model.specs.declared.types.FrameKind.{FrameKind}
use Rattle.ymx_model.specs.session.FramesDue.{next_kind, is_due, is_empty}
use Rattle.ymx_machine.specs.shared.Lists.{look, change, without}
use Rattle.ymx_model.specs.session.Tables.{remove_record}
use Rattle.ymx_model.specs.session.Sessions.{Session, Outgoing, nothing_outgoing, is_running, is_broken, belongs_to, is_spent, reap}
use Rattle.ymx_model.specs.session.Emissions.{Choice, begin, begins, error_frame, begin_stream, begin_kind, moves_on, reaps, Ready, Flows}
use Rattle.ymx_model.specs.session.Emissions.Choice.{TheErrorDue, AStream}
use Rattle.ymx_model.specs.world.Worlds.{World, Pipe, pushed}
use Rattle.ymx_machine.specs.machine.Machines.{Machine}
use Rattle.ymx_machine.specs.machine.FreeMoves.{moved_by, Releases}
use Rattle.ymx_machine.specs.machine.FreeMoves.FreeMove.{OfStream}
use Rattle.ymx_headline.specs.stream.Answers.{end_released}
use Rattle.ymx_headline.proofs.stream.Happenings.{Can, put}
use Rattle.ymx_headline.proofs.stream.Happenings.Act.{Releases as ActReleases}
use Rattle.ymx_headline.proofs.stream.Worlds.{step}
use Rattle.ymx_law_session.specs.Limits.{IsWithin}
use Rattle.ymx_law_session.specs.Reaped.{IsReaped}
use Rattle.ymx_machine.proofs.Tests.{split, both_of, none_of, not_lt}
use Rattle.ymx_machine.proofs.Lists.{look-without_same, look-without_other}
use Rattle.ymx_law_session.proofs.limits.EmissionsKeep.{some_if, none_if, if_some, begin-keeps, moves-keep}
use Rattle.ymx_law_session.proofs.given_up.ReapedFrames.{begin-reaped, moves-reaped}
use Rattle.ymx_headline.proofs.records.Calls.{lingers, none_due}
use Rattle.ymx_headline.proofs.world.Emitted.{empty-bytes, first_and_rest, only_one}
use Rattle.ymx_headline.specs.Agrees.{AgreesAs, Keeps, found}
use Rattle.ymx_headline.proofs.relation.Mirrors.{refines-same, order-releases, parity}
use Rattle.ymx_headline.proofs.relation.Tables.{change-found, keeps-put}
use Rattle.ymx_headline.proofs.emissions.Begun.{begun_with, begun-agrees, moved-changes}

-- these bytes go out at side A
pub record Emitted (x y : Role) (bytes : List ℕ) (w : World) (t : Session) (m : Machine) : Type 0 where
  pub ids : List ℕ
  pub now : Machine
  pub releases : Releases ids m now
  pub agrees : AgreesAs x y (record w { a = t; ab = pushed bytes w.ab }) now

-- ---- one byte

pub is_not : (b : Bool) → not b ≡ true → b ≡ false
is_not true e = cc
is_not false e = refl

stays-byte : (x y : Role) (w : World) (m : Machine) (h : AgreesAs x y w m) (b : ℕ) (begun : Outgoing) → w.a.outgoing.bytes ≡ b ∷ begun.bytes → IsWithin (record w.a { outgoing = begun }) → IsReaped (record w.a { outgoing = begun }) →
    Emitted x y (b ∷ []) w (record w.a { outgoing = begun }) m
stays-byte x y w m h b begun e within reap = record {
  ids = [];
  now = m;
  releases = refl;
  agrees = moved-changes x y w m h w.a.table begun b m.streams h.streams.a.ends e refl h.a.records.each within reap h.refines h.order;
}

goes-byte : (x y : Role) (w : World) (m : Machine) (h : AgreesAs x y w m) (b id : ℕ) (o : Option End) → w.a.outgoing.bytes ≡ b ∷ [] → look id w.a.table.entries ≡ o → is_spent w.a.table.window nothing_outgoing id o ≡ true →
    IsWithin (record w.a { table = remove_record id w.a.table; outgoing = nothing_outgoing }) → IsReaped (record w.a { table = remove_record id w.a.table; outgoing = nothing_outgoing }) →
    Emitted x y (b ∷ []) w (record w.a { table = remove_record id w.a.table; outgoing = nothing_outgoing }) m
goes-byte x y w m h b id None e l spent within reap = absurd cc
goes-byte x y w m h b id (Some d) e l spent within reap =
    let g = h.streams in
    let win = w.a.table.window in
    let p = both_of (is_lingering d.phase && not (is_due win d)) (not (belongs_to nothing_outgoing.of id)) spent in
    let q = both_of (is_lingering d.phase) (not (is_due win d)) p.0 in
    let kept : Keeps w.a.answers id (Some d) (g.a.ends id) = subst (λ o. Keeps w.a.answers id o (g.a.ends id)) l (h.a.records.each id) in
    let can : Can (ActReleases id) g = (
      ap (λ (z : End). z.phase) (sym kept.0) ∙ lingers d.phase q.0,
      inr (subst (λ n. next_kind n (g.a.ends id) ≡ None) (sym h.a.records.window) (ap (next_kind win) (sym kept.0) ∙ none_due win d (is_not (is_due win d) q.1))),
    ) in
    let r = step (ActReleases id) g (found m) can h.refines in
    let streams : List (ℕ × Stream) = change id (after_move Released) m.streams in
    let now : Machine = record m { streams = streams } in
    let goes : Releases (id ∷ []) m now = ((refl, refl, (r.1.0, r.1.2.here, r.1.1)), refl) in
    let f : End = end_released (g.a.ends id) in
    let none : look id (without id w.a.table.entries) ≡ None = look-without_same id w.a.table.entries h.a.within.table.distinct in
    let now_kept : Keeps w.a.answers id (look id (without id w.a.table.entries)) f = subst (λ o. Keeps w.a.answers id o f) (sym none) (refl, record { syn = refl; ack = refl; rst = sym kept.1; unsent = refl; finished = refl; refused = λ t. (let no : true ≡ false = sym t ∙ kept.1 in absurd cc) }) in
    record {
      ids = id ∷ [];
      now = now;
      releases = goes;
      agrees = moved-changes x y w m h (remove_record id w.a.table) nothing_outgoing b streams (put id f g.a.ends) e refl
          (keeps-put w.a.answers id w.a.table.entries (without id w.a.table.entries) f g.a.ends (λ i n. h.a.records.each i) (λ i n. look-without_other id i w.a.table.entries n) now_kept)
          within reap (refines-same _ r.0 _ (change-found id (after_move Released) r.1.0 _ m r.0 refl r.1.2) r.2) (order-releases m now (id ∷ []) (parity x y w m h) goes h.order);
    }

last-byte : (x y : Role) (w : World) (m : Machine) (h : AgreesAs x y w m) (b : ℕ) (of : Option ℕ) → w.a.outgoing.bytes ≡ b ∷ [] →
    IsWithin (reaps of (record w.a { outgoing = nothing_outgoing })) → IsReaped (reaps of (record w.a { outgoing = nothing_outgoing })) → Emitted x y (b ∷ []) w (reaps of (record w.a { outgoing = nothing_outgoing })) m
last-byte x y w m h b None e within reap = stays-byte x y w m h b nothing_outgoing e within reap
last-byte x y w m h b (Some id) e within reap =
    let s : Session = record w.a { outgoing = nothing_outgoing } in
    split (λ z. IsWithin z → IsReaped z → Emitted x y (b ∷ []) w z m) (is_spent s.table.window s.outgoing id (look id s.table.entries)) (record s { table = remove_record id s.table }) s
    (λ t i k. goes-byte x y w m h b id (look id w.a.table.entries) e refl t i k) (λ f i k. stays-byte x y w m h b nothing_outgoing e i k) within reap

pub one-byte : (x y : Role) (w : World) (m : Machine) (h : AgreesAs x y w m) (b : ℕ) → take 1 w.a.outgoing.bytes ≡ b ∷ [] → Emitted x y (b ∷ []) w (moves_on 1 w.a) m
one-byte x y w m h b e =
    split (λ z. IsWithin z → IsReaped z → Emitted x y (b ∷ []) w z m) (nat_lt 1 (length w.a.outgoing.bytes))
    (record w.a { outgoing = record { bytes = drop 1 w.a.outgoing.bytes; of = w.a.outgoing.of } }) (reaps w.a.outgoing.of (record w.a { outgoing = nothing_outgoing }))
    (λ t i k. stays-byte x y w m h b _ (first_and_rest b w.a.outgoing.bytes e) i k) (λ f i k. last-byte x y w m h b w.a.outgoing.of (only_one b w.a.outgoing.bytes e f) i k)
    (moves-keep 1 w.a h.a.within) (moves-reaped 1 w.a h.a.within.table.distinct h.a.reaped)

-- ---- bytes

-- a frame of this choice begins, and the machine stays
abbrev pub BeginsAlike : Choice → Type 0
BeginsAlike c = (x y : Role) (w : World) (m : Machine) (t : Session) → AgreesAs x y w m → is_empty w.a.outgoing.bytes ≡ true → begin c w.a ≡ Some t → AgreesAs x y (record w { a = t }) m

pushed-none : (p : Pipe) → pushed [] p ≡ p
pushed-none p = split (λ q. q ≡ p) p.stopped p (record p { bytes = p.bytes ++ [] }) (λ t. refl) (λ f. rw (append-nil p.bytes) refl)

pushed-more : (b : ℕ) (bs : List ℕ) (p : Pipe) → pushed bs (pushed (b ∷ []) p) ≡ pushed (b ∷ bs) p
pushed-more b bs p = of p.stopped refl
  where
    of : (z : Bool) → p.stopped ≡ z → pushed bs (pushed (b ∷ []) p) ≡ pushed (b ∷ bs) p
    of true e = rw e refl
    of false e = rw e (rw (append_assoc p.bytes (b ∷ []) bs) refl)

releases-join : (a b : List ℕ) (m n k : Machine) → Releases a m n → Releases b n k → Releases (a ++ b) m k
releases-join [] b m n k p q = subst (λ z. Releases b z k) p q
releases-join (id ∷ a) b m n k p q = (p.0, releases-join a b (moved_by (OfStream id Released) m) n k p.1 q)

pub flows-agree : ((c : Choice) → BeginsAlike c) → (may : Choice → Session → Bool) (bytes : List ℕ) (x y : Role) (w : World) (m : Machine) (h : AgreesAs x y w m) (t : Session) → Flows may bytes w.a t → Emitted x y bytes w t m
flows-agree begins may [] x y w m h t e =
    let P : Session → Type 0 = λ z. Emitted x y [] w z m in
    subst P (sym e) (record { ids = []; now = m; releases = refl; agrees = subst (λ p. AgreesAs x y (record w { ab = p }) m) (sym (pushed-none w.ab)) h })
flows-agree begins may (b ∷ bs) x y w m h t (ready, r, first, p) =
    let one = one-byte x y (record w { a = ready }) m (at-ready r) b first in
    let more = flows-agree begins may bs x y (record w { a = moves_on 1 ready; ab = pushed (b ∷ []) w.ab }) one.now one.agrees t p in record {
      ids = one.ids ++ more.ids;
      now = more.now;
      releases = releases-join one.ids more.ids m one.now more.now one.releases more.releases;
      agrees = subst (λ q. AgreesAs x y (record w { a = t; ab = q }) more.now) (pushed-more b bs w.ab) more.agrees;
    }
  where
    at-ready : Ready may w.a ready → AgreesAs x y (record w { a = ready }) m
    at-ready (inl k) = subst (λ z. AgreesAs x y (record w { a = z }) m) (sym k.1) h
    at-ready (inr k) = begins k.1.0 x y w m ready h k.0 k.1.2

-- ---- a frame of a stream

some-same : {X : Type 0} (a b : X) → Some a ≡ Some b → b ≡ a
some-same a b e = cc

pub stream-begins : (id limit : ℕ) → BeginsAlike (AStream id limit)
stream-begins id limit x y w m t h none b =
    let p = if_some (is_running w.a.status) (begin_stream id limit (look id w.a.table.entries) w.a) t b in
    at-look p.0 (look id w.a.table.entries) refl p.1
  where
    at-kind : is_running w.a.status ≡ true → limit ≤ first_credit → (e : End) → look id w.a.table.entries ≡ Some e → (k : Option FrameKind) → next_kind w.a.table.window e ≡ k → begin_kind id limit e k w.a ≡ Some t → AgreesAs x y (record w { a = t }) m
    at-kind runs few e l None n q = cc
    at-kind runs few e l (Some k) n q =
        let same : t ≡ begun_with id limit k e w.a = some-same _ t q in
        subst (λ z. AgreesAs x y (record w { a = z }) m) (sym same) (begun-agrees x y w m h id limit k e runs (empty-bytes w.a.outgoing.bytes none) few l n
        (subst IsWithin same (begin-keeps (AStream id limit) w.a t b h.a.within)) (subst IsReaped same (begin-reaped (AStream id limit) w.a t none b h.a.reaped)))

    at-look : is_running w.a.status ≡ true → (o : Option End) → look id w.a.table.entries ≡ o → begin_stream id limit o w.a ≡ Some t → AgreesAs x y (record w { a = t }) m
    at-look runs None l q = cc
    at-look runs (Some e) l q =
        let n = none_if (limit == 0 || nat_lt first_credit limit) (begin_kind id limit e (next_kind w.a.table.window e) w.a) t q in
        let few = not_lt first_credit limit (none_of (limit == 0) (nat_lt first_credit limit) n.0).1 in
        at-kind runs few e l (next_kind w.a.table.window e) refl n.1

-- ---- the error frame is of a session that broke

pub error_due-begins : BeginsAlike TheErrorDue
error_due-begins x y w m t h none b =
    let p = some_if (w.a.error_due && is_broken w.a.status) (begins error_frame (record w.a { error_due = false })) t b in
    let q = (both_of w.a.error_due (is_broken w.a.status) p.0).1 in
    let no : false ≡ true = sym h.a.whole.sound ∙ q in absurd cc
