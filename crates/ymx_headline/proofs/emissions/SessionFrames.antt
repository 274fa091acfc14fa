-- A go away that begins is no move of the machine, and what a frame of the session adds to the text.
use Rattle.std.proofs.Common.{◌≡◌, ℕ, ◌+◌, List, [], ◌∷◌, ◌++◌, Bool, true, false, not, ◌&&◌, nat_lt, if◌then◌else◌, refl, sym, ap, subst, ◌∙◌, arith}
use Rattle.std.specs.List.{concat}
use Rattle.std.proofs.lemmas.Bool.Decides.{nat_tests}
use Rattle.std.proofs.lemmas.List.{append-nil}
use Rattle.std.proofs.lemmas.List.Elements.{All-nil, All-cons, All-append}
use Rattle.ymx_model.specs.declared.types.GoAwayMark.{GoAwayMark}
use Rattle.ymx_model.specs.declared.types.GoAwayMark.TheVariants.{Unsaid as NotSaid, Due, Sent}
use Rattle.ymx_machine.specs.stream.Lanes.{Mark, is_said}
use Rattle.ymx_machine.specs.stream.Lanes.Mark.{Unsaid, Said, Here}
use Rattle.ymx_model.specs.session.Parts.{Part}
use Rattle.ymx_model.specs.session.GoAway.{away_due, begin_away, was_said}
use Rattle.ymx_model.specs.session.Sessions.{Session, is_running, is_closed}
use Rattle.ymx_model.specs.session.Emissions.{begins, go_away_frame}
use Rattle.ymx_model.specs.session.Emissions.Choice.{TheGoAway}
use Rattle.ymx_model.specs.world.UnderWay.{IsOneFrame, held_bytes}
use Rattle.ymx_machine.proofs.Tests.{both_of}
use Rattle.ymx_law_session.specs.Limits.{IsWithin}
use Rattle.ymx_law_session.specs.Reaped.{IsReaped}
use Rattle.ymx_law_session.proofs.limits.EmissionsKeep.{some_if, begin-keeps}
use Rattle.ymx_law_session.proofs.given_up.ReapedFrames.{begin-reaped}
use Rattle.ymx_headline.proofs.world.Emitted.{empty-bytes}
use Rattle.ymx_headline.proofs.world.Frames.{short-frame}
use Rattle.ymx_headline.specs.Agrees.{AgreesAs, Sender, Receiver, Text, AwayUnderWay, PingsUnderWay, PongsUnderWay, sending, hearing, IsPlainFrame, parts_in, all_parts, parts_left, count_in, is_go_away, asks, replies}
use Rattle.ymx_headline.proofs.relation.Sides.{beside-streams}
use Rattle.ymx_headline.proofs.relation.Texts.{text-changes}
use Rattle.ymx_headline.proofs.emissions.Begun.{count-more, parts-more, concat-more, text-more, runs-open}
use Rattle.ymx_headline.proofs.emissions.Emits.{BeginsAlike}

-- the text grows by a frame that says nothing of streams
pub grown-text : (s t : Sender) (r : Receiver) (bytes : List ℕ) (parts : List (ℕ × Part)) (f : List ℕ) (old : Text s r bytes parts) → is_closed s.status ≡ false → t.status ≡ s.status → s.outgoing ≡ [] → t.outgoing ≡ f → IsOneFrame f → IsPlainFrame f → parts_in f ≡ [] →
    AwayUnderWay t (old.frames ++ f ∷ []) → PingsUnderWay t (old.frames ++ f ∷ []) → PongsUnderWay t r (old.frames ++ f ∷ []) → Text t r bytes parts
grown-text s t r bytes parts f old open_ st none now one plain says away pings pongs = record {
  cut = old.cut;
  tail = old.tail;
  frames = old.frames ++ f ∷ [];
  kept = λ c. old.kept open_;
  missing = old.missing;
  each = All-append IsOneFrame old.frames (f ∷ []) old.each (All-cons IsOneFrame f [] one (All-nil IsOneFrame));
  plain = All-append IsPlainFrame old.frames (f ∷ []) old.plain (All-cons IsPlainFrame f [] plain (All-nil IsPlainFrame));
  text = ap (λ xs. held_bytes r.incoming ++ (bytes ++ (xs ++ old.cut))) now
      ∙ (text-more (held_bytes r.incoming) bytes s.outgoing old.cut old.tail (concat old.frames) f none (old.kept open_) old.text ∙ ap (λ xs. old.tail ++ xs) (sym (concat-more old.frames f)));
  says = old.says ∙ ap (λ ps. parts_left r.incoming old.tail ++ ps) (sym (parts-more old.frames f ∙ (ap (λ ps. all_parts old.frames ++ ps) says ∙ append-nil (all_parts old.frames))));
  away = away;
  pings = pings;
  pongs = pongs;
}

pub count-one : (test : List ℕ → Bool) (frames : List (List ℕ)) (f : List ℕ) → test f ≡ true → count_in test (frames ++ f ∷ []) ≡ count_in test frames + 1
count-one test [] f e = rw e refl
count-one test (g ∷ gs) f e = rw (count-one test gs f e) (of (test g) (count_in test gs))
  where
    of : (b : Bool) (n : ℕ) → (if b then (n + 1) + 1 else n + 1) ≡ (if b then n + 1 else n) + 1
    of true n = refl
    of false n = refl

is-due : (here : GoAwayMark) → away_due here ≡ true → here ≡ Due
is-due Due e = refl
is-due NotSaid e = cc
is-due Sent e = cc

is-said : (m : Mark) → is_said m ≡ true → m ≡ Said
is-said Said e = refl
is-said Unsaid e = cc
is-said Here e = cc

pub none-yet : (n : ℕ) (here : GoAwayMark) → away_due here ≡ true → (nat_lt 0 n ≡ true → here ≡ Sent) → n ≡ 0
none-yet n here d h = of (nat_lt 0 n) refl
  where
    of : (b : Bool) → nat_lt 0 n ≡ b → n ≡ 0
    of true e = let no : Due ≡ Sent = sym (is-due here d) ∙ h e in absurd cc
    of false e = grind (arith, nat_tests)

pub some-of : (n : ℕ) → nat_lt 0 (n + 1) ≡ true
some-of n = grind (arith, nat_tests)

go_away-text : (s : Sender) (r : Receiver) (bytes : List ℕ) (parts : List (ℕ × Part)) → is_running s.status ≡ true → is_closed s.status ≡ false → away_due s.here ≡ true → s.outgoing ≡ [] → Text s r bytes parts →
    Text (record s { outgoing = go_away_frame; here = Sent }) r bytes parts
go_away-text s r bytes parts runs open_ due none t =
    let f = go_away_frame in
    let k = count-one is_go_away t.frames f refl in
    let zero_ = none-yet (count_in is_go_away t.frames) s.here due (λ e. (t.away.means e).0) in
    let mark : is_said s.mark ≡ true = t.away.said runs ∙ rw due refl in
    grown-text s (record s { outgoing = f; here = Sent }) r bytes parts f t open_ refl none refl (short-frame 3 0 0 0 (omega arith) (omega arith))
    (record { reset = λ e. absurd cc; away = λ e. refl }) refl
    (record { once = rw (k, zero_) (omega arith); means = λ e. (refl, is-said s.mark mark); said = λ e. mark ∙ sym (rw k (some-of (count_in is_go_away t.frames))) })
    (record {
      once = λ n. rw (count-more (asks n) t.frames f refl) (t.pings.once n);
      means = λ n. rw (count-more (asks n) t.frames f refl) (t.pings.means n);
      asked = λ n. rw (count-more (asks n) t.frames f refl) (t.pings.asked n);
    })
    (record {
      once = λ n. rw (count-more (replies n) t.frames f refl) (t.pongs.once n);
      means = λ n. rw (count-more (replies n) t.frames f refl) (t.pongs.means n);
      there = λ n. rw (count-more (replies n) t.frames f refl) (t.pongs.there n);
    })

pub go_away-begins : BeginsAlike TheGoAway
go_away-begins x y w m t h none b =
    let now : Session = begins go_away_frame (record w.a { away = begin_away w.a.away }) in
    let p = some_if (is_running w.a.status && away_due w.a.away.here) now t b in
    let q = both_of (is_running w.a.status) (away_due w.a.away.here) p.0 in
    subst (λ z. AgreesAs x y (record w { a = z }) m) (sym p.1) (record {
      roles = h.roles;
      streams = h.streams;
      refines = h.refines;
      a = beside-streams h.a w.a.pings m.me.next_ping m.me.pings Sent m.me.away now.outgoing h.a.pings
          (record { said = h.a.away.said ∙ ap (λ z. not (was_said z)) (is-due w.a.away.here q.1); arrived = h.a.away.arrived })
          (subst IsWithin p.1 (begin-keeps TheGoAway w.a t b h.a.within)) (subst IsReaped p.1 (begin-reaped TheGoAway w.a t none b h.a.reaped));
      b = h.b;
      ab = text-changes (sending w.a m.me) _ (hearing w.b m.you) w.ab h.streams.ab h.streams.ab _ _
          (go_away-text (sending w.a m.me) (hearing w.b m.you) w.ab.bytes h.streams.ab q.0 (runs-open w.a.status q.0) q.1 (empty-bytes w.a.outgoing.bytes none)) h.ab;
      ba = h.ba;
      order = h.order;
    })
