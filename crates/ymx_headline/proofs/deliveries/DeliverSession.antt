-- A ping, an answer to one and a go away that come are moves of the machine.
use Rattle.std.proofs.Common.{◌≡◌, ℕ, ◌+◌, ◌≤◌, List, [], ◌∷◌, ◌++◌, Bool, true, false, ◌&&◌, ◌==◌, nat_lt, if◌then◌else◌, Option, None, Some, refl, sym, ap, subst, ◌∙◌, arith}
use Rattle.std.proofs.lemmas.Bool.Decides.{nat_tests}
use Rattle.ymx_header.specs.declared.header.Header.{Header}
use Rattle.ymx_header.specs.Headers.{header_of}
use Rattle.ymx_model.specs.declared.types.Role.{Role}
use Rattle.ymx_model.specs.declared.types.Response.{Response}
use Rattle.ymx_model.specs.declared.types.GoAwayMark.TheVariants.{Sent}
use Rattle.ymx_machine.specs.stream.Lanes.{Mark, is_unsaid}
use Rattle.ymx_machine.specs.stream.Lanes.Mark.{Said, Here}
use Rattle.ymx_model.specs.session.Records.{End}
use Rattle.ymx_model.specs.session.Parts.{Part}
use Rattle.ymx_model.specs.session.Pings.{Pings}
use Rattle.ymx_model.specs.session.GoAway.{Away, receive_away}
use Rattle.ymx_machine.specs.shared.Lists.{look}
use Rattle.ymx_model.specs.session.Sessions.{Session}
use Rattle.ymx_model.specs.session.Sessions.Incoming.{Head}
use Rattle.ymx_model.specs.session.Arrivals.{payload, head_comes}
use Rattle.ymx_model.specs.session.Feeds.{byte_comes, starves}
use Rattle.ymx_model.specs.world.Worlds.{World}
use Rattle.ymx_machine.specs.machine.Machines.{Machine, PingPlace}
use Rattle.ymx_machine.specs.machine.FreeMoves.{FreeMove, FreeMoves}
use Rattle.ymx_machine.specs.machine.FreeMoves.FreeMove.{AwayArrives}
use Rattle.ymx_law_session.specs.Limits.{IsWithin}
use Rattle.ymx_law_session.specs.Reaped.{IsReaped}
use Rattle.ymx_headline.specs.Agrees.{AgreesAs, Keeps, OnlyRejects, RejectsOnce, SamePings, SameAway, IsPlain, Sender, Text, AwayUnderWay, PingsUnderWay, PongsUnderWay, sending, hearing, parts_in, all_parts, parts_left, is_rejected, is_go_away, count_in, pongs}
use Rattle.ymx_headline.proofs.relation.Mirrors.{order-moves, parity}
use Rattle.ymx_headline.proofs.deliveries.DeliverTexts.{awaited, text-after, count-first, pings-rest, pongs-rest}
use Rattle.ymx_headline.proofs.deliveries.DeliverBytes.{Delivered, delivered-is}
use Rattle.ymx_headline.proofs.deliveries.DeliverHeads.{discarded-left}
use Rattle.ymx_headline.proofs.deliveries.DeliverStreams.{TakingHead, body_of, not-starved}

-- ---- what comes of the session changes pings, go away and answers

pub session-arrives : (x y : Role) (w : World) (m : Machine) (h : AgreesAs x y w m) (rest : List ℕ) (pings : Pings) (away : Away) (answers : List Response) (mine yours : List (ℕ × PingPlace)) (mark : Mark) (move : FreeMove) →
    away.here ≡ w.a.away.here → ((i : ℕ) → is_rejected i answers ≡ is_rejected i w.a.answers) → RejectsOnce answers → SamePings pings m.me.next_ping mine → SamePings w.b.pings m.you.next_ping yours → SameAway w.b.away.here away.there mark →
    IsWithin (record w.a { pings = pings; away = away; answers = answers; incoming = Head [] }) → IsReaped (record w.a { pings = pings; away = away; answers = answers; incoming = Head [] }) → w.ba.stopped ≡ false →
    ((bytes : List ℕ) (parts : List (ℕ × Part)) → Text (sending w.a m.me) (hearing w.b m.you) bytes parts → Text (record (sending w.a m.me) { pings = pings; answers = answers; places = mine }) (record (hearing w.b m.you) { places = yours }) bytes parts) →
    Text (record (sending w.b m.you) { mark = mark; places = yours }) (record (hearing w.a m.me) { incoming = Head []; places = mine }) rest h.streams.ba →
    FreeMoves (move ∷ []) m 0 (record m { me = record m.me { pings = mine }; you = record m.you { away = mark; pings = yours } }) →
    Delivered x y (record w.a { pings = pings; away = away; answers = answers; incoming = Head [] }) rest w m 0
session-arrives x y w m h rest pings away answers mine yours mark move here rejected once pa pb ay within reaped runs ab ba did =
    let n : Machine = record m { me = record m.me { pings = mine }; you = record m.you { away = mark; pings = yours } } in
    record {
      now = n;
      moves = move ∷ [];
      did = did;
      agrees = record {
        roles = h.roles;
        streams = h.streams;
        refines = h.refines;
        a = record {
          whole = record { role = h.a.whole.role; window = h.a.whole.window; next = h.a.whole.next; offered = h.a.whole.offered; closed = h.a.whole.closed; lost = h.a.whole.lost; sound = h.a.whole.sound };
          records = record { window = h.a.records.window; over = h.a.records.over; each = λ i. keeps-as i (look i w.a.table.entries) (h.streams.a.ends i) (h.a.records.each i); once = once };
          pings = pa;
          away = rw here h.a.away;
          within = within;
          reaped = reaped;
        };
        b = record {
          whole = record { role = h.b.whole.role; window = h.b.whole.window; next = h.b.whole.next; offered = h.b.whole.offered; closed = h.b.whole.closed; lost = h.b.whole.lost; sound = h.b.whole.sound };
          records = h.b.records;
          pings = pb;
          away = ay;
          within = h.b.within;
          reaped = h.b.reaped;
        };
        ab = record { machine = h.ab.machine; streams = h.ab.streams; text = λ on. rw here (ab w.ab.bytes h.streams.ab (h.ab.text on)) };
        ba = record {
          machine = h.ba.machine;
          streams = record { same = h.ba.streams.same; empty = λ t. (let no : true ≡ false = sym t ∙ runs in absurd cc) };
          text = λ on. ba;
        };
        order = order-moves (move ∷ []) m 0 n (parity x y w m h) did h.order;
      };
    }
  where
    keeps-as : (i : ℕ) (o : Option End) (e : End) → Keeps w.a.answers i o e → Keeps answers i o e
    keeps-as i (Some d) e k = (k.0, rejected i ∙ k.1)
    keeps-as i None e k = (k.0, subst (λ z. OnlyRejects z e) (sym (rejected i)) k.1)

-- ---- the frame says nothing of streams

pub record SessionFrame (x y : Role) (no_memory : Bool) (b : ℕ) (seen rest : List ℕ) (w : World) (m : Machine) (h : AgreesAs x y w m) (k : TakingHead x y no_memory b seen rest w m h) : Type 0 where
  pub none_follows : awaited (header_of (seen ++ b ∷ [])) true ≡ Head []
  pub says : h.streams.ba ≡ parts_left (awaited (header_of (seen ++ b ∷ [])) true) (body_of k.first.frame) ++ all_parts k.first.frames
  pub starves_none : starves no_memory b w.a w.a.incoming ≡ 0

pub session-frame : (x y : Role) (no_memory : Bool) (b : ℕ) (seen rest : List ℕ) (w : World) (m : Machine) (h : AgreesAs x y w m) (k : TakingHead x y no_memory b seen rest w m h) → nat_lt (header_of (seen ++ b ∷ [])).kind 2 ≡ false → SessionFrame x y no_memory b seen rest w m h k
session-frame x y no_memory b seen rest w m h k high =
    let hd = header_of (seen ++ b ∷ []) in
    let no_data : (hd.kind == 0) ≡ false = grind (arith, nat_tests) in
    let none : (payload hd == 0) ≡ true = rw no_data refl in
    let parts : parts_in k.first.frame ≡ [] = (let e : nat_lt (header_of k.first.frame).kind 2 ≡ false = ap (λ (z : Header). nat_lt z.kind 2) k.first.header ∙ high in rw e refl) in
    record {
      none_follows = rw none refl;
      says = k.first.says ∙ (ap (λ ps. ps ++ all_parts k.first.frames) parts ∙ ap (λ ps. ps ++ all_parts k.first.frames) (sym (discarded-left hd (body_of k.first.frame))));
      starves_none = not-starved no_memory b seen w.a k.inc (rw high (none-starved _ _ _ _));
    }
  where
    none-starved : (p q r s : Bool) → (p && false && q && r && s) ≡ false
    none-starved true q r s = refl
    none-starved false q r s = refl

-- the text after such a frame
pub session-text : (x y : Role) (no_memory : Bool) (b : ℕ) (seen rest : List ℕ) (w : World) (m : Machine) (h : AgreesAs x y w m) (k : TakingHead x y no_memory b seen rest w m h) (f : SessionFrame x y no_memory b seen rest w m h k) (mark : Mark) (mine yours : List (ℕ × PingPlace)) →
    AwayUnderWay (record (sending w.b m.you) { mark = mark; places = yours }) k.first.frames → PingsUnderWay (record (sending w.b m.you) { mark = mark; places = yours }) k.first.frames →
    PongsUnderWay (record (sending w.b m.you) { mark = mark; places = yours }) (record (hearing w.a m.me) { incoming = Head []; places = mine }) k.first.frames →
    Text (record (sending w.b m.you) { mark = mark; places = yours }) (record (hearing w.a m.me) { incoming = Head []; places = mine }) rest h.streams.ba
session-text x y no_memory b seen rest w m h k f mark mine yours away pings pongs =
    text-after (sending w.b m.you) (record (sending w.b m.you) { mark = mark; places = yours }) (hearing w.a m.me) (record (hearing w.a m.me) { incoming = Head []; places = mine }) (seen ++ b ∷ []) rest h.streams.ba h.streams.ba true k.first refl refl (sym f.none_follows) f.says away pings pongs

-- ---- counts

pub one-less : (n : ℕ) → n + 1 ≤ 1 → n ≡ 0
one-less n l = omega arith

pub some-more : (n : ℕ) → nat_lt 0 (n + 1) ≡ true
some-more n = grind (arith, nat_tests)

pub count-less : (test : List ℕ → Bool) (f : List ℕ) (fs : List (List ℕ)) → count_in test fs ≤ count_in test (f ∷ fs)
count-less test f fs = of (test f)
  where
    of : (z : Bool) → count_in test fs ≤ (if z then count_in test fs + 1 else count_in test fs)
    of true = omega arith
    of false = omega arith

pub no-count : (n : ℕ) → n ≡ 0 → nat_lt 0 n ≡ true → ⊥
no-count n z t = absurd (grind (arith, nat_tests))

-- ---- a go away

away-done : (s : Sender) (f : List ℕ) (fs : List (List ℕ)) → is_go_away f ≡ true → AwayUnderWay s (f ∷ fs) → AwayUnderWay (record s { mark = Here }) fs
away-done s f fs e h =
    let k = count-first is_go_away f fs e in
    let none = one-less (count_in is_go_away fs) (rw k at h.once) in
    let means : nat_lt 0 (count_in is_go_away fs + 1) ≡ true → (s.here ≡ Sent) × (s.mark ≡ Said) = rw k at h.means in
    let sent = (means (some-more (count_in is_go_away fs))).0 in
    record {
      once = omega (arith, none);
      means = λ t. absurd (no-count (count_in is_go_away fs) none t);
      said = λ r. rw (none, sent) refl;
    }

pub go-away-arrives : (x y : Role) (no_memory : Bool) (b : ℕ) (seen rest : List ℕ) (w : World) (m : Machine) (h : AgreesAs x y w m) → TakingHead x y no_memory b seen rest w m h → (header_of (seen ++ b ∷ [])).kind ≡ 3 →
    Delivered x y (byte_comes no_memory b w.a) rest w m (starves no_memory b w.a w.a.incoming)
go-away-arrives x y no_memory b seen rest w m h k kind =
    let hd = header_of (seen ++ b ∷ []) in
    let high : nat_lt hd.kind 2 ≡ false = grind (arith, nat_tests) in
    let two : (hd.kind == 2) ≡ false = grind (arith, nat_tests) in
    let three : (hd.kind == 3) ≡ true = grind (arith, nat_tests) in
    let f = session-frame x y no_memory b seen rest w m h k high in
    let plain : IsPlain hd = subst IsPlain k.first.header k.first.plain in
    let zero_ : hd.length ≡ 0 = plain.away kind in
    let s : Session = record w.a { incoming = Head [] } in
    let t : Session = record w.a { away = receive_away w.a.away; incoming = Head [] } in
    let good = k.good in
    let head : head_comes no_memory hd s ≡ t = rw (good, two, three, zero_) refl in
    let is : byte_comes no_memory b w.a ≡ t = k.is ∙ head in
    let it : is_go_away k.first.frame ≡ true = ap (λ (z : Header). z.kind == 3) k.first.header ∙ three in
    let frame_two : ((header_of k.first.frame).kind == 2) ≡ false = ap (λ (z : Header). z.kind == 2) k.first.header ∙ two in
    let a = k.first.away in
    let means : nat_lt 0 (count_in is_go_away k.first.frames + 1) ≡ true → (w.b.away.here ≡ Sent) × (m.you.away ≡ Said) = rw (count-first is_go_away k.first.frame k.first.frames it) at a.means in
    let said = (means (some-more (count_in is_go_away k.first.frames))).1 in
    let unsaid : is_unsaid m.you.away ≡ false = ap is_unsaid said in
    let pings = pings-rest (sending w.b m.you) k.first.frame k.first.frames (λ n. rw frame_two refl) k.first.pings in
    let pongs = pongs-rest (sending w.b m.you) (hearing w.a m.me) k.first.frame k.first.frames (λ n. rw frame_two refl) k.first.pongs in
    delivered-is x y (byte_comes no_memory b w.a) t rest w m _ 0 is f.starves_none
    (session-arrives x y w m h rest w.a.pings (receive_away w.a.away) w.a.answers m.me.pings m.you.pings Here AwayArrives refl (λ i. refl) h.a.records.once h.a.pings h.b.pings
    (record { said = sym unsaid ∙ h.b.away.said; arrived = refl }) (subst IsWithin is k.taking.within) (subst IsReaped is k.taking.reaped) k.taking.not_stopped (λ bytes parts z. z)
    (session-text x y no_memory b seen rest w m h k f Here m.me.pings m.you.pings (away-done (sending w.b m.you) k.first.frame k.first.frames it a)
    (record { once = pings.once; means = pings.means; asked = pings.asked }) (record { once = pongs.once; means = pongs.means; there = pongs.there }))
    ((k.taking.hears_it, said), (0, refl, (refl, refl))))
