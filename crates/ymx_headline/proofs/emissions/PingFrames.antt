-- A ping, or the answer to one, that begins is no move of the machine.
use Rattle.std.proofs.Common.{◌≡◌, ℕ, ◌+◌, ◌^◌, ◌<◌, ◌≤◌, List, [], ◌∷◌, ◌++◌, Bool, true, false, ◌&&◌, ◌||◌, ◌==◌, nat_lt, if◌then◌else◌, Option, None, Some, refl, sym, ap, subst, ◌∙◌, arith, inl, inr}
use Rattle.std.proofs.lemmas.Grind.{common_steps}
use Rattle.std.proofs.lemmas.Bool.Decides.{nat_tests}
use Rattle.ymx_header.specs.Headers.{header_of}
use Rattle.ymx_model.specs.declared.types.Role.{Role}
use Rattle.ymx_model.specs.declared.types.Response.{Response}
use Rattle.ymx_model.specs.declared.types.Response.TheVariants.{Pong, Reject}
use Rattle.ymx_model.specs.session.Parts.{Part}
use Rattle.ymx_model.specs.session.Pings.{Ping, has_asked, staged, begin_ping}
use Rattle.ymx_model.specs.declared.types.PingStage.TheVariants.{Sent}
use Rattle.ymx_model.specs.session.FramesDue.{frame}
use Rattle.ymx_model.specs.session.Sessions.{Session, is_running, is_closed}
use Rattle.ymx_model.specs.session.Emissions.{begins, begin_answer, answer_frame, ping_frame}
use Rattle.ymx_model.specs.session.Emissions.Choice.{TheAnswer, ThePing}
use Rattle.ymx_machine.specs.shared.Lists.{look}
use Rattle.ymx_model.specs.world.Worlds.{World}
use Rattle.ymx_machine.specs.machine.Machines.{Machine, PingPlace}
use Rattle.ymx_machine.specs.machine.Machines.PingPlace.{Asked, There, Back}
use Rattle.ymx_law_session.specs.Limits.{IsWithin}
use Rattle.ymx_law_session.specs.Reaped.{IsReaped}
use Rattle.ymx_law_session.proofs.limits.Pings.{pending-staged}
use Rattle.ymx_machine.proofs.Tests.{both_of, same_or_not}
use Rattle.ymx_law_session.proofs.limits.EmissionsKeep.{some_if, if_some, begin-keeps}
use Rattle.ymx_law_session.proofs.given_up.ReapedFrames.{begin-reaped}
use Rattle.ymx_headline.proofs.world.Emitted.{empty-bytes}
use Rattle.ymx_headline.proofs.world.Frames.{short-frame}
use Rattle.ymx_headline.specs.Agrees.{AgreesAs, SameEnds, Sender, Receiver, Text, sending, hearing, count_in, is_go_away, asks, replies, pongs, pongs_of, is_asked_at}
use Rattle.ymx_headline.proofs.relation.Sides.{beside-streams}
use Rattle.ymx_headline.proofs.relation.Texts.{text-changes}
use Rattle.ymx_headline.proofs.emissions.Begun.{count-more, runs-open}
use Rattle.ymx_headline.proofs.emissions.Emits.{BeginsAlike}
use Rattle.ymx_headline.proofs.emissions.SessionFrames.{grown-text, count-one}
use Rattle.ymx_headline.proofs.calls.Places.{placed-pending, asked-pending, staged-numbers, sent-back, sent-asked, staged-asked_other}
use Rattle.ymx_headline.proofs.emissions.Rejections.{reject-begins}

-- ---- the number in the frame

length-is : (flags n : ℕ) → n < 2 ^ 32 → (header_of (frame 2 flags 0 n [])).length ≡ n
length-is flags n l = grind (arith, common_steps)

pong-replies : (n x : ℕ) → n < 2 ^ 32 → replies x (answer_frame (Pong n)) ≡ (n == x)
pong-replies n x l = rw (length-is 2 n l) refl

ping-asks : (n x : ℕ) → n < 2 ^ 32 → asks x (ping_frame n) ≡ (n == x)
ping-asks n x l = rw (length-is 1 n l) refl

count-last : (test : List ℕ → Bool) (frames : List (List ℕ)) (f : List ℕ) (b : Bool) → test f ≡ b → count_in test (frames ++ f ∷ []) ≡ (if b then count_in test frames + 1 else count_in test frames)
count-last test frames f true e = count-one test frames f e
count-last test frames f false e = count-more test frames f e

-- ---- the answer to a ping

-- it is one less due, and one more under way
pongs-move : (n x : ℕ) (more : List Response) (frames : List (List ℕ)) → n < 2 ^ 32 →
    pongs x more + count_in (replies x) (frames ++ answer_frame (Pong n) ∷ []) ≡ pongs x (Pong n ∷ more) + count_in (replies x) frames
pongs-move n x more frames l = rw (count-last (replies x) frames (answer_frame (Pong n)) (n == x) (pong-replies n x l)) (of (n == x) (pongs x more) (count_in (replies x) frames))
  where
    of : (b : Bool) (i j : ℕ) → i + (if b then j + 1 else j) ≡ (if b then i + 1 else i) + j
    of true i j = omega arith
    of false i j = refl

pong-text : (s : Sender) (r : Receiver) (bytes : List ℕ) (parts : List (ℕ × Part)) (n : ℕ) (more : List Response) → n < 2 ^ 32 → is_closed s.status ≡ false → s.answers ≡ Pong n ∷ more → s.outgoing ≡ [] → Text s r bytes parts →
    Text (record s { outgoing = answer_frame (Pong n); answers = more }) r bytes parts
pong-text s r bytes parts n more small open_ e none t =
    let f = answer_frame (Pong n) in
    let same : (x : ℕ) → pongs x more + count_in (replies x) (t.frames ++ f ∷ []) ≡ pongs x s.answers + count_in (replies x) t.frames = λ x. pongs-move n x more t.frames small ∙ ap (λ a. pongs x a + count_in (replies x) t.frames) (sym e) in
    let k = count-more is_go_away t.frames f refl in
    grown-text s (record s { outgoing = f; answers = more }) r bytes parts f t open_ refl none refl (short-frame 2 2 0 n (omega arith) (omega arith))
    (record { reset = λ e. absurd cc; away = λ e. absurd cc }) refl
    (record { once = rw k t.away.once; means = rw k t.away.means; said = rw k t.away.said })
    (record {
      once = λ x. rw (count-more (asks x) t.frames f refl) (t.pings.once x);
      means = λ x. rw (count-more (asks x) t.frames f refl) (t.pings.means x);
      asked = λ x. rw (count-more (asks x) t.frames f refl) (t.pings.asked x);
    })
    (record { once = λ x. rw (same x) (t.pongs.once x); means = λ x. rw (same x) (t.pongs.means x); there = λ x. rw (same x) (t.pongs.there x) })

-- the number of an answer that is due is one of the other side's pings
pong-fits : (x y : Role) (w : World) (m : Machine) (h : AgreesAs x y w m) (n : ℕ) (more : List Response) → w.a.answers ≡ Pong n ∷ more → Text (sending w.a m.me) (hearing w.b m.you) w.ab.bytes h.streams.ab → n < 2 ^ 32
pong-fits x y w m h n more e t =
    let due : nat_lt 0 (pongs_of n (sending w.a m.me) t.frames) ≡ true = rw e (some n more (count_in (replies n) t.frames)) in
    h.b.pings.fits n (placed-pending m.you.pings w.b.pings.pending h.b.pings.numbers n There (t.pongs.means n due))
  where
    some : (n : ℕ) (more : List Response) (j : ℕ) → nat_lt 0 (pongs n (Pong n ∷ more) + j) ≡ true
    some n more j = grind (arith, nat_tests)

answers-less : (s : Session) (t : Session) (n : ℕ) (more : List Response) (ends : _) → SameEnds s.status s.table (Pong n ∷ more) ends → SameEnds s.status s.table more ends
answers-less s t n more ends h = record { window = h.window; over = h.over; each = h.each; once = h.once }

pong-begins : (x y : Role) (w : World) (m : Machine) (h : AgreesAs x y w m) (n : ℕ) (more : List Response) → w.a.answers ≡ Pong n ∷ more → is_running w.a.status ≡ true → w.a.outgoing.bytes ≡ [] →
    IsWithin (begins (answer_frame (Pong n)) (record w.a { answers = more })) → IsReaped (begins (answer_frame (Pong n)) (record w.a { answers = more })) →
    AgreesAs x y (record w { a = begins (answer_frame (Pong n)) (record w.a { answers = more }) }) m
pong-begins x y w m h n more e runs none within reaped = record {
  roles = h.roles;
  streams = h.streams;
  refines = h.refines;
  a = record {
    whole = record { role = h.a.whole.role; window = h.a.whole.window; next = h.a.whole.next; offered = h.a.whole.offered; closed = h.a.whole.closed; lost = h.a.whole.lost; sound = h.a.whole.sound };
    records = answers-less w.a w.a n more h.streams.a (subst (λ a. SameEnds w.a.status w.a.table a h.streams.a) e h.a.records);
    pings = h.a.pings;
    away = h.a.away;
    within = within;
    reaped = reaped;
  };
  b = h.b;
  ab = text-changes (sending w.a m.me) _ (hearing w.b m.you) w.ab h.streams.ab h.streams.ab _ _
      (λ t. pong-text (sending w.a m.me) (hearing w.b m.you) w.ab.bytes h.streams.ab n more (pong-fits x y w m h n more e t) (runs-open w.a.status runs) e none t) h.ab;
  ba = h.ba;
  order = h.order;
}

-- ---- an answer

some-is : (a b : Session) → Some a ≡ Some b → b ≡ a
some-is a b e = cc

pub answer-begins : BeginsAlike TheAnswer
answer-begins x y w m t h none b =
    let p = if_some (is_running w.a.status) (begin_answer w.a.answers w.a) t b in
    of w.a.answers refl p.0 p.1
  where
    of : (rs : List Response) → w.a.answers ≡ rs → is_running w.a.status ≡ true → begin_answer rs w.a ≡ Some t → AgreesAs x y (record w { a = t }) m
    of [] e runs q = cc
    of (Pong n ∷ more) e runs q =
        let now : Session = begins (answer_frame (Pong n)) (record w.a { answers = more }) in
        let same : t ≡ now = some-is now t q in
        subst (λ z. AgreesAs x y (record w { a = z }) m) (sym same) (pong-begins x y w m h n more e runs (empty-bytes w.a.outgoing.bytes none)
        (subst IsWithin same (begin-keeps TheAnswer w.a t b h.a.within)) (subst IsReaped same (begin-reaped TheAnswer w.a t none b h.a.reaped)))
    of (Reject j ∷ more) e runs q =
        let now : Session = begins (answer_frame (Reject j)) (record w.a { answers = more }) in
        let same : t ≡ now = some-is now t q in
        subst (λ z. AgreesAs x y (record w { a = z }) m) (sym same) (reject-begins x y w m h j more e runs (empty-bytes w.a.outgoing.bytes none)
        (subst IsWithin same (begin-keeps TheAnswer w.a t b h.a.within)) (subst IsReaped same (begin-reaped TheAnswer w.a t none b h.a.reaped)))

-- ---- a ping

is-asked : (o : Option PingPlace) → is_asked_at o ≡ true → o ≡ Some Asked
is-asked None e = cc
is-asked (Some Asked) e = refl
is-asked (Some There) e = cc
is-asked (Some Back) e = cc

not-some : (k : ℕ) → (nat_lt 0 k ≡ true → ⊥) → k ≡ 0
not-some k h = of (nat_lt 0 k) refl
  where
    of : (b : Bool) → nat_lt 0 k ≡ b → k ≡ 0
    of true e = absurd (h e)
    of false e = grind (arith, nat_tests)

pub record PingGone (places : List (ℕ × PingPlace)) (pending : List Ping) (frames : List (List ℕ)) (x : ℕ) : Type 0 where
  pub once : count_in (asks x) frames ≤ 1
  pub means : nat_lt 0 (count_in (asks x) frames) ≡ true → (look x places ≡ Some Asked) × (has_asked x pending ≡ false)
  pub asked : is_asked_at (look x places) ≡ (has_asked x pending || nat_lt 0 (count_in (asks x) frames))

-- its number is one more under way and no longer due
ping-moves : (s : Sender) (r : Receiver) (bytes : List ℕ) (parts : List (ℕ × Part)) (n : ℕ) → n < 2 ^ 32 → is_running s.status ≡ true → has_asked n s.pings.pending ≡ true → (t : Text s r bytes parts) → (x : ℕ) →
    PingGone s.places (staged Sent n s.pings.pending) (t.frames ++ ping_frame n ∷ []) x
ping-moves s r bytes parts n small runs due t x = elim (same_or_not x n) [
  | inl q ↦ rw q (let f = ping_frame n in
      let none = not-some (count_in (asks n) t.frames) (λ e. let no : true ≡ false = sym due ∙ (t.pings.means n e).1 in absurd cc) in
      let one : count_in (asks n) (t.frames ++ f ∷ []) ≡ 1 = count-one (asks n) t.frames f (ping-asks n n small ∙ grind (arith, nat_tests)) ∙ rw none (omega arith) in
      let mark : is_asked_at (look n s.places) ≡ true = t.pings.asked n runs ∙ rw due refl in
      let gone = sent-asked n s.pings.pending in
      record { once = rw one (omega arith); means = λ e. (is-asked (look n s.places) mark, gone); asked = rw (one, gone) mark })
  | inr d ↦ (let f = ping_frame n in
      let same = count-more (asks x) t.frames f (ping-asks n x small ∙ grind (arith, nat_tests)) in
      let other = staged-asked_other Sent n x s.pings.pending d in
      record { once = rw same (t.pings.once x); means = rw (same, other) (t.pings.means x); asked = rw (same, other) (t.pings.asked x runs) })
]

ping-text : (s : Sender) (r : Receiver) (bytes : List ℕ) (parts : List (ℕ × Part)) (n : ℕ) → n < 2 ^ 32 → is_running s.status ≡ true → is_closed s.status ≡ false → has_asked n s.pings.pending ≡ true → s.outgoing ≡ [] → Text s r bytes parts →
    Text (record s { outgoing = ping_frame n; pings = begin_ping n s.pings }) r bytes parts
ping-text s r bytes parts n small runs open_ due none t =
    let f = ping_frame n in
    let k = count-more is_go_away t.frames f refl in
    let moves = ping-moves s r bytes parts n small runs due t in
    grown-text s (record s { outgoing = f; pings = begin_ping n s.pings }) r bytes parts f t open_ refl none refl (short-frame 2 1 0 n (omega arith) (omega arith))
    (record { reset = λ e. absurd cc; away = λ e. absurd cc }) refl
    (record { once = rw k t.away.once; means = rw k t.away.means; said = rw k t.away.said })
    (record { once = λ x. (moves x).once; means = λ x. (moves x).means; asked = λ x r. (moves x).asked })
    (record {
      once = λ x. rw (count-more (replies x) t.frames f refl) (t.pongs.once x);
      means = λ x. rw (count-more (replies x) t.frames f refl) (t.pongs.means x);
      there = λ x. rw (count-more (replies x) t.frames f refl) (t.pongs.there x);
    })

pub ping-begins : (n : ℕ) → BeginsAlike (ThePing n)
ping-begins n x y w m t h none b =
    let now : Session = begins (ping_frame n) (record w.a { pings = begin_ping n w.a.pings }) in
    let p = some_if (is_running w.a.status && has_asked n w.a.pings.pending) now t b in
    let q = both_of (is_running w.a.status) (has_asked n w.a.pings.pending) p.0 in
    let small = h.a.pings.fits n (asked-pending n w.a.pings.pending q.1) in
    subst (λ z. AgreesAs x y (record w { a = z }) m) (sym p.1) (record {
      roles = h.roles;
      streams = h.streams;
      refines = h.refines;
      a = beside-streams h.a now.pings m.me.next_ping m.me.pings w.a.away.here m.me.away now.outgoing
          (record {
            next = h.a.pings.next;
            numbers = h.a.pings.numbers ∙ sym (staged-numbers Sent n w.a.pings.pending);
            back = λ x. h.a.pings.back x ∙ sym (sent-back n x w.a.pings.pending q.1);
            fits = λ x e. h.a.pings.fits x (sym (pending-staged Sent n x w.a.pings.pending) ∙ e);
          })
          h.a.away (subst IsWithin p.1 (begin-keeps (ThePing n) w.a t b h.a.within)) (subst IsReaped p.1 (begin-reaped (ThePing n) w.a t none b h.a.reaped));
      b = h.b;
      ab = text-changes (sending w.a m.me) _ (hearing w.b m.you) w.ab h.streams.ab h.streams.ab _ _
          (ping-text (sending w.a m.me) (hearing w.b m.you) w.ab.bytes h.streams.ab n small q.0 (runs-open w.a.status q.0) q.1 (empty-bytes w.a.outgoing.bytes none)) h.ab;
      ba = h.ba;
      order = h.order;
    })
