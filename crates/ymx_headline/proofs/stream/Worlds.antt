-- What happens at a side touches one stream, and is a step of the machine's streams.
use Rattle.std.proofs.Common.{◌≡◌, ◌≢◌, ℕ, ◌≤◌, List, [], ◌∷◌, ◌++◌, take, drop, Bool, true, false, not, ◌||◌, ◌⊎◌, inl, inr, Option, None, Some, refl, sym, ap, subst, ◌∙◌, append-nil, arith}
use Rattle.std.proofs.lemmas.Grind.{common_steps}
use Rattle.std.proofs.lemmas.Bool.Decides.{nat_tests}
use Rattle.ymx_machine.proofs.Tests.{same_or_not}
use Rattle.ymx_machine.specs.shared.Limits.{first_credit}
use Rattle.ymx_machine.specs.shared.Phases.{Phase, is_live, is_reset, is_early}
use Rattle.ymx_machine.specs.stream.Streams.{Stream, flip, after_move, opened_stream, stream_write, stream_accept}
use Rattle.ymx_machine.specs.shared.Phases.Phase.{Unborn, Offered, Live, Lingering}
use Rattle.ymx_machine.specs.stream.Streams.Move.{Released}
use Rattle.ymx_machine.specs.stream.StreamRules.{StreamCall}
use Rattle.ymx_machine.specs.shared.Events.{Reply}
use Rattle.ymx_model.specs.session.Records.{End, new_end, end_write, end_accept, receive_data}
use Rattle.ymx_model.specs.declared.types.FrameKind.{FrameKind}
use Rattle.ymx_model.specs.session.FramesDue.{next_kind, begin_frame}
use Rattle.ymx_model.specs.session.Parts.{Part, parts_of}
use Rattle.ymx_model.specs.session.Parts.Part.{Syn, Ack, Data, Credit, Fin, Rst}
use Rattle.ymx_headline.specs.stream.Flight.{load}
use Rattle.ymx_headline.proofs.stream.Happenings.{part_is_data}
use Rattle.ymx_headline.specs.stream.Links.{Related}
use Rattle.ymx_headline.specs.stream.Arrivals.{comes_to, Goes}
use Rattle.ymx_headline.proofs.stream.Faults.{BreaksNothing}
use Rattle.ymx_headline.proofs.stream.Flight.{no_list}
use Rattle.ymx_headline.specs.stream.Answers.{end_released}
use Rattle.ymx_headline.specs.stream.OneStream.{IsOneStream, IsQuiet}
use Rattle.ymx_headline.specs.stream.Worlds.{parts_of_stream, tagged, StreamWorld, Streams, IsFresh, AreOne, Refines}
use Rattle.ymx_headline.proofs.stream.Happenings.{put, put_end, stream_mirror, new_streams, no_streams, flip_some, mirrored, Changes, Same, Act, Happening, rest_of, came, came_in, acts, happens, is_payload, Can, CanHappen, Delivers, StreamSteps, StreamStepsAt, IsQuietWorld, StillIf, AllStill}
use Rattle.ymx_headline.proofs.stream.Happenings.Act.{Opens, Calls, Accepts, Sends, Comes, ComesIn, Releases, Ends, Stops}
use Rattle.ymx_headline.proofs.stream.Happenings.Happening.{AtA, AtB}
use Rattle.ymx_headline.proofs.stream.Links.{not_not}
use Rattle.ymx_headline.proofs.stream.Nothing.{absent-only}
use Rattle.ymx_headline.proofs.stream.OneStream.{one-begins, one-flip, one-calls, one-accepts, one-shows, one-sends, one-comes, one-pieces, one-releases, one-loses, one-still, one-breaks}
use Rattle.ymx_headline.proofs.stream.Marks.{fresh-none}

-- ---- lists and maps by number

pub of-append : (i : ℕ) (ps qs : List (ℕ × Part)) → parts_of_stream i (ps ++ qs) ≡ parts_of_stream i ps ++ parts_of_stream i qs
of-append i [] qs = refl
of-append i (p ∷ ps) qs = let h = of-append i ps qs in grind (arith, nat_tests, common_steps)

pub of-tagged_same : (i : ℕ) (fs : List Part) → parts_of_stream i (tagged i fs) ≡ fs
of-tagged_same i [] = refl
of-tagged_same i (f ∷ fs) = let h = of-tagged_same i fs in grind (arith, nat_tests)

pub of-tagged_other : (i j : ℕ) (fs : List Part) → i ≢ j → parts_of_stream i (tagged j fs) ≡ []
of-tagged_other i j [] n = refl
of-tagged_other i j (f ∷ fs) n = let h = of-tagged_other i j fs n in grind (arith, nat_tests)

of-push_same : (i : ℕ) (ps : List (ℕ × Part)) (fs : List Part) → parts_of_stream i (ps ++ tagged i fs) ≡ parts_of_stream i ps ++ fs
of-push_same i ps fs = of-append i ps (tagged i fs) ∙ ap (λ (l : List Part). parts_of_stream i ps ++ l) (of-tagged_same i fs)

of-push_other : (i j : ℕ) (ps : List (ℕ × Part)) (fs : List Part) → i ≢ j → parts_of_stream i (ps ++ tagged j fs) ≡ parts_of_stream i ps
of-push_other i j ps fs n = of-append i ps (tagged j fs) ∙ ap (λ (l : List Part). parts_of_stream i ps ++ l) (of-tagged_other i j fs n) ∙ append-nil (parts_of_stream i ps)

of-front_same : (j : ℕ) (fs : List Part) (ps : List (ℕ × Part)) → parts_of_stream j (tagged j fs ++ ps) ≡ fs ++ parts_of_stream j ps
of-front_same j fs ps = of-append j (tagged j fs) ps ∙ ap (λ (l : List Part). l ++ parts_of_stream j ps) (of-tagged_same j fs)

of-front_other : (i j : ℕ) (fs : List Part) (ps : List (ℕ × Part)) → i ≢ j → parts_of_stream i (tagged j fs ++ ps) ≡ parts_of_stream i ps
of-front_other i j fs ps n = of-append i (tagged j fs) ps ∙ ap (λ (l : List Part). l ++ parts_of_stream i ps) (of-tagged_other i j fs n)

pub put-same : {A : Type 0} (j : ℕ) (v : A) (f : ℕ → A) → put j v f j ≡ v
put-same j v f = grind (arith, nat_tests)

pub put-other : {A : Type 0} (i j : ℕ) (v : A) (f : ℕ → A) → i ≢ j → put j v f i ≡ f i
put-other i j v f n = grind (arith, nat_tests)

-- ---- one stream changes

are-is : (ox oy : Bool) (wx wy : ℕ) (x x' y y' : End) (xy xy' yx yx' : List Part) (s s' : Option Stream) →
    x' ≡ x → y' ≡ y → xy' ≡ xy → yx' ≡ yx → s' ≡ s → AreOne ox oy wx wy x y xy yx s → AreOne ox oy wx wy x' y' xy' yx' s'
are-is ox oy wx wy x x' y y' xy xy' yx yx' s s' a b c d e h = rw (a, b, c, d, e) h

one : (j : ℕ) (w w' : StreamWorld) (m : Streams) (t : Stream) → (w'.a.window ≡ w.a.window) × (w'.b.window ≡ w.b.window) × (w'.a.over ≡ w.a.over) × (w'.b.over ≡ w.b.over) →
    ((i : ℕ) → i ≢ j → (w'.a.ends i ≡ w.a.ends i) × (w'.b.ends i ≡ w.b.ends i) × (parts_of_stream i w'.ab ≡ parts_of_stream i w.ab) × (parts_of_stream i w'.ba ≡ parts_of_stream i w.ba)) →
    IsOneStream w'.a.over w'.b.over w'.a.window w'.b.window (w'.a.ends j) (w'.b.ends j) (parts_of_stream j w'.ab) (parts_of_stream j w'.ba) t → Refines w m → Refines w' (put j (Some t) m)
one j w w' m t e apart mine r = record {
  a_window = rw e.0 r.a_window;
  b_window = rw e.1 r.b_window;
  streams = λ i. elim (same_or_not i j) [
    | inl q ↦ rw q (subst (AreOne w'.a.over w'.b.over w'.a.window w'.b.window (w'.a.ends j) (w'.b.ends j) (parts_of_stream j w'.ab) (parts_of_stream j w'.ba)) (sym (put-same j (Some t) m)) mine)
    | inr n ↦ (let k = apart i n in rw (e.0, e.1, e.2, e.3) (are-is w.a.over w.b.over w.a.window w.b.window _ _ _ _ _ _ _ _ _ _ k.0 k.1 k.2 k.3 (put-other i j (Some t) m n) (r.streams i)))
  ];
}

changes : (j : ℕ) (s t : Stream) (m : Streams) → m j ≡ Some s → Changes j s t m (put j (Some t) m)
changes j s t m e = record { here = e; now = put-same j (Some t) m; others = λ i n. put-other i j (Some t) m n }

put-back : (i j : ℕ) (s : Stream) (m : Streams) → m j ≡ Some s → put j (Some s) m i ≡ m i
put-back i j s m e = grind (arith, nat_tests)

-- a stream is there, or its number is fresh
found : (ox oy : Bool) (wx wy : ℕ) (x y : End) (xy yx : List Part) (o : Option Stream) → AreOne ox oy wx wy x y xy yx o →
    ((s : Stream) × (o ≡ Some s) × IsOneStream ox oy wx wy x y xy yx s) ⊎ ((o ≡ None) × IsFresh wx wy x y xy yx)
found ox oy wx wy x y xy yx None l = inr (refl, l)
found ox oy wx wy x y xy yx (Some s) l = inl (s, refl, l)

-- ---- steps at side a

over-is : (ox o oy : Bool) (wx wy : ℕ) (x y : End) (xy yx : List Part) (s : Stream) → ox ≡ o → IsOneStream ox oy wx wy x y xy yx s → IsOneStream o oy wx wy x y xy yx s
over-is ox o oy wx wy x y xy yx s e c = subst (λ k. IsOneStream k oy wx wy x y xy yx s) e c

-- the end and the parts of the stream that changed, as they stand at the sides
stands-at : (ox oy : Bool) (wx wy : ℕ) (x x' y : End) (xy xy' yx yx' : List Part) (s : Stream) →
    x' ≡ x → xy' ≡ xy → yx' ≡ yx → IsOneStream ox oy wx wy x y xy yx s → IsOneStream ox oy wx wy x' y xy' yx' s
stands-at ox oy wx wy x x' y xy xy' yx yx' s a b c h = rw (a, b, c) h

-- one of the two ends of a stream is born
never-both : (ox oy : Bool) (wx wy : ℕ) (x y : End) (xy yx : List Part) (s : Stream) → IsOneStream ox oy wx wy x y xy yx s → x.phase ≡ Unborn → y.phase ≡ Unborn → ⊥
never-both ox oy wx wy x y xy yx s c a b =
    neither wx wy c.mine c.yours xy yx s ((one-shows ox oy wx wy x y xy yx s c).phase ∙ a) ((one-shows oy ox wy wx y x yx xy (flip s) (one-flip ox oy wx wy x y xy yx s c)).phase ∙ b) c.related
  where
    late : (own : Bool) (p q : Phase) → (own ≡ true → is_early p ≡ false) → (not own ≡ true → is_early q ≡ false) → p ≡ Unborn → q ≡ Unborn → ⊥
    late own p q f g a b = grind arith

    neither : (wx wy : ℕ) (x y : End) (xy yx : List Part) (s : Stream) → s.me ≡ Unborn → s.you ≡ Unborn → Related wx wy x y xy yx s → ⊥
    neither wx wy x y xy yx s a b (inl c) = late s.own x.phase y.phase c.outbound.born.own_late c.inbound.born.own_late (sym c.outbound.phase ∙ a) (sym c.inbound.phase ∙ b)
    neither wx wy x y xy yx s a b (inr (inl c)) = let m = c.me in let d = c.spent_x.down in absurd (grind arith)
    neither wx wy x y xy yx s a b (inr (inr c)) = let m = c.me in let d = c.spent_x.down in absurd (grind arith)

step-opens : (j : ℕ) (with_data : Bool) (bytes : List ℕ) (w : StreamWorld) (m : Streams) → Can (Opens j with_data bytes) w → Refines w m →
    (n : Streams) × StreamSteps (Opens j with_data bytes) w m n × Refines (acts (Opens j with_data bytes) w) n
step-opens j with_data bytes w m can r = elim (found _ _ _ _ _ _ _ _ (m j) (r.streams j)) [
  | inl k ↦ absurd (never-both _ _ _ _ _ _ _ _ k.0 k.2 can.1 can.2)
  | inr k ↦ (
    put j (Some (stream_write bytes (opened_stream w.a.window w.b.window))) m,
    record { none = k.0; now = put-same j _ m; others = λ i n. put-other i j _ m n },
    one j w (acts (Opens j with_data bytes) w) m (stream_write bytes (opened_stream w.a.window w.b.window)) (refl, refl, refl, refl)
        (λ i n. (put-other i j _ w.a.ends n, refl, refl, refl))
        (over-is false w.a.over w.b.over _ _ _ _ _ _ _ (sym can.0)
        (rw (put-same j (end_write bytes (new_end w.a.window Live true with_data)) w.a.ends, k.1.yours, k.1.none_outbound, k.1.none_inbound)
        (one-begins bytes with_data w.b.over w.a.window w.b.window r.a_window r.b_window can.3)))
        r,
  )
]

-- nothing that matters changes
alike : (w w' : StreamWorld) (m n : Streams) → (w'.a.window ≡ w.a.window) × (w'.b.window ≡ w.b.window) × (w'.a.over ≡ w.a.over) × (w'.b.over ≡ w.b.over) →
    ((i : ℕ) → (w'.a.ends i ≡ w.a.ends i) × (w'.b.ends i ≡ w.b.ends i) × (parts_of_stream i w'.ab ≡ parts_of_stream i w.ab) × (parts_of_stream i w'.ba ≡ parts_of_stream i w.ba)) → Same m n → Refines w m → Refines w' n
alike w w' m n e h same r = record {
  a_window = rw e.0 r.a_window;
  b_window = rw e.1 r.b_window;
  streams = λ i. let k = h i in rw (e.0, e.1, e.2, e.3) (are-is w.a.over w.b.over w.a.window w.b.window _ _ _ _ _ _ _ _ _ _ k.0 k.1 k.2 k.3 (same i) (r.streams i));
}

put-back_end : (i j : ℕ) (e : End) (f : ℕ → End) → e ≡ f j → put j e f i ≡ f i
put-back_end i j e f h = grind (arith, nat_tests)

step-calls : (j : ℕ) (call : StreamCall) (reply : Reply) (next : End) (w : StreamWorld) (m : Streams) → Can (Calls j call reply next) w → Refines w m →
    (n : Streams) × StreamSteps (Calls j call reply next) w m n × Refines (acts (Calls j call reply next) w) n
step-calls j call reply next w m can r = elim (found _ _ _ _ _ _ _ _ (m j) (r.streams j)) [
  | inl k ↦ (let law = one-calls w.a.over call reply w.b.over w.a.window w.b.window (w.a.ends j) next (w.b.ends j) (parts_of_stream j w.ab) (parts_of_stream j w.ba) k.0 k.2 can in (
    put j (Some law.0) m,
    inl (k.0, law.0, law.1, changes j k.0 law.0 m k.1),
    one j w (acts (Calls j call reply next) w) m law.0 (refl, refl, refl, refl) (λ i n. (put-other i j _ w.a.ends n, refl, refl, refl))
        (stands-at _ _ _ _ _ _ _ _ _ _ _ law.0 (put-same j next w.a.ends) refl refl law.2) r,
  ))
  | inr k ↦ (let u = absent-only w.a.over call (w.a.ends j) next reply (ap (λ (e : End). is_live e.phase || is_reset e.phase) k.1.mine) can in (
    m,
    inr (k.0, u.0, λ i. refl),
    alike w (acts (Calls j call reply next) w) m m (refl, refl, refl, refl) (λ i. (put-back_end i j next w.a.ends u.1, refl, refl, refl)) (λ i. refl) r,
  ))
]

step-accepts : (j : ℕ) (w : StreamWorld) (m : Streams) → Can (Accepts j) w → Refines w m → (n : Streams) × StreamSteps (Accepts j) w m n × Refines (acts (Accepts j) w) n
step-accepts j w m can r = elim (found _ _ _ _ _ _ _ _ (m j) (r.streams j)) [
  | inl k ↦ (
    put j (Some (stream_accept w.a.over k.0)) m,
    (k.0, (one-shows _ _ _ _ _ _ _ _ k.0 k.2).phase ∙ can, changes j k.0 _ m k.1),
    one j w (acts (Accepts j) w) m (stream_accept w.a.over k.0) (refl, refl, refl, refl) (λ i n. (put-other i j _ w.a.ends n, refl, refl, refl))
        (stands-at _ _ _ _ _ _ _ _ _ _ _ _ (put-same j (end_accept w.a.over (w.a.ends j)) w.a.ends) refl refl
        (one-accepts w.a.over w.b.over w.a.window w.b.window (w.a.ends j) (w.b.ends j) (parts_of_stream j w.ab) (parts_of_stream j w.ba) k.0 can k.2)) r,
  )
  | inr k ↦ absurd (let e = k.1.mine in let c : (w.a.ends j).phase ≡ Offered = can in let u : (w.a.ends j).phase ≡ Unborn = ap (λ (e : End). e.phase) e in cc)
]

step-sends : (j : ℕ) (k : FrameKind) (limit : ℕ) (w : StreamWorld) (m : Streams) → Can (Sends j k limit) w → Refines w m →
    (n : Streams) × StreamSteps (Sends j k limit) w m n × Refines (acts (Sends j k limit) w) n
step-sends j k limit w m can r = elim (found _ _ _ _ _ _ _ _ (m j) (r.streams j)) [
  | inl f ↦ (
    put j (Some f.0) m,
    (λ i. put-back i j f.0 m f.1),
    one j w (acts (Sends j k limit) w) m f.0 (refl, refl, refl, refl) (λ i n. (put-other i j _ w.a.ends n, refl, of-push_other i j w.ab _ n, refl))
        (stands-at _ _ _ _ _ _ _ _ _ _ _ f.0 (put-same j (begin_frame w.a.window limit k (w.a.ends j)) w.a.ends) (of-push_same j w.ab (parts_of k w.a.window limit (w.a.ends j))) refl
        (over-is false w.a.over w.b.over _ _ _ _ _ _ f.0 (sym can.0)
        (one-sends k limit w.b.over w.a.window w.b.window (w.a.ends j) (w.b.ends j) (parts_of_stream j w.ab) (parts_of_stream j w.ba) f.0 can.1
        (over-is w.a.over false w.b.over _ _ _ _ _ _ f.0 can.0 f.2)))) r,
  )
  | inr f ↦ absurd (fresh-none w.a.window k (subst (λ e. next_kind w.a.window e ≡ Some k) f.1.mine can.1))
]

-- a number whose parts are under way was opened
opened_is : (ox oy : Bool) (wx wy : ℕ) (x y : End) (xy yx : List Part) (f : Part) (o : Option Stream) → AreOne ox oy wx wy x y xy (f ∷ yx) o → (s : Stream) × (o ≡ Some s) × IsOneStream ox oy wx wy x y xy (f ∷ yx) s
opened_is ox oy wx wy x y xy yx f None l = absurd (no_list l.none_inbound)
opened_is ox oy wx wy x y xy yx f (Some s) l = (s, refl, l)

-- the oldest part comes: its end becomes x', and `left` is left of it
brings : (refuse : Bool) (f : Part) (left : List Part) (x' : End) (p : ℕ × Part) (ps : List (ℕ × Part)) (w : StreamWorld) (m : Streams) →
    w.ba ≡ p ∷ ps → w.a.over ≡ false → Refines w m →
    ((s : Stream) → IsOneStream false w.b.over w.a.window w.b.window (w.a.ends p.0) (w.b.ends p.0) (parts_of_stream p.0 w.ab) (p.1 ∷ parts_of_stream p.0 ps) s →
    (t : Stream) × Goes refuse f s t × IsOneStream false w.b.over w.a.window w.b.window x' (w.b.ends p.0) (parts_of_stream p.0 w.ab) (left ++ parts_of_stream p.0 ps) t) →
    (n : Streams) × ((s : Stream) × (t : Stream) × BreaksNothing w.b.window s.own p.1 (parts_of_stream p.0 ps) (w.a.ends p.0) × Goes refuse f s t × Changes p.0 s t m n)
    × Refines (record w { a = put_end p.0 x' w.a; ba = tagged p.0 left ++ ps }) n
brings refuse f left x' p ps w m e o r law =
    let here : parts_of_stream p.0 w.ba ≡ p.1 ∷ parts_of_stream p.0 ps = ap (parts_of_stream p.0) e ∙ of-front_same p.0 (p.1 ∷ []) ps in
    let k = opened_is _ _ _ _ _ _ _ (parts_of_stream p.0 ps) p.1 (m p.0) (rw here at (r.streams p.0)) in
    let c = over-is w.a.over false w.b.over _ _ _ _ _ _ k.0 o k.2 in
    let l = law k.0 c in (
      put p.0 (Some l.0) m,
      (k.0, l.0, one-breaks p.1 w.b.over w.a.window w.b.window (w.a.ends p.0) (w.b.ends p.0) (parts_of_stream p.0 w.ab) (parts_of_stream p.0 ps) k.0 c, l.1, changes p.0 k.0 l.0 m k.1),
      one p.0 w (record w { a = put_end p.0 x' w.a; ba = tagged p.0 left ++ ps }) m l.0 (refl, refl, refl, refl)
          (λ i n. (put-other i p.0 _ w.a.ends n, refl, refl, of-front_other i p.0 left ps n ∙ sym (ap (parts_of_stream i) e ∙ of-front_other i p.0 (p.1 ∷ []) ps n)))
          (stands-at _ _ _ _ _ _ _ _ _ _ _ l.0 (put-same p.0 x' w.a.ends) refl (of-front_same p.0 left ps) (over-is false w.a.over w.b.over _ _ _ _ _ _ l.0 (sym o) l.2)) r,
    )

delivers : (refuse : Bool) (ps : List (ℕ × Part)) (w : StreamWorld) (m : Streams) → w.ba ≡ ps → w.a.over ≡ false → Refines w m →
    (n : Streams) × Delivers refuse (λ f. f) ps w m n × Refines (came refuse ps w) n
delivers refuse [] w m e o r = (m, (λ i. refl), r)
delivers refuse (p ∷ ps) w m e o r =
    brings refuse p.1 [] (comes_to refuse w.a.window p.1 (w.a.ends p.0)) p ps w m e o r
    (λ s c. one-comes refuse p.1 w.b.over w.a.window w.b.window (w.a.ends p.0) (w.b.ends p.0) (parts_of_stream p.0 w.ab) (parts_of_stream p.0 ps) s c)

step-comes : (refuse : Bool) (w : StreamWorld) (m : Streams) → Can (Comes refuse) w → Refines w m → (n : Streams) × StreamSteps (Comes refuse) w m n × Refines (acts (Comes refuse) w) n
step-comes refuse w m can r = delivers refuse w.ba w m refl can.0 r

payload-is : (f : Part) → part_is_data f ≡ true → f ≡ Data (load f)
payload-is (Data b) e = refl
payload-is (Syn d) e = absurd (cc)
payload-is (Ack d) e = absurd (cc)
payload-is (Credit d) e = absurd (cc)
payload-is Fin e = absurd (cc)
payload-is Rst e = absurd (cc)

take-and-drop : (n : ℕ) (b : List ℕ) → take n b ++ drop n b ≡ b
take-and-drop n b = grind (arith, common_steps)

cut-is : (n : ℕ) (f : Part) → part_is_data f ≡ true → f ≡ Data (take n (load f) ++ drop n (load f))
cut-is n f e = payload-is f e ∙ ap (λ (b : List ℕ). Data b) (sym (take-and-drop n (load f)))

delivers_in : (k : ℕ) (ps : List (ℕ × Part)) (w : StreamWorld) (m : Streams) → w.ba ≡ ps → w.a.over ≡ false → is_payload ps ≡ true → Refines w m →
    (n : Streams) × Delivers false (λ f. Data (take k (load f))) ps w m n × Refines (came_in k ps w) n
delivers_in k [] w m e o d r = absurd (cc)
delivers_in k (p ∷ ps) w m e o d r =
    brings false (Data (take k (load p.1))) (rest_of k p.1 ∷ []) (receive_data (take k (load p.1)) (w.a.ends p.0)) p ps w m e o r
    (λ s c. one-pieces (take k (load p.1)) (drop k (load p.1)) w.b.over w.a.window w.b.window (w.a.ends p.0) (w.b.ends p.0) (parts_of_stream p.0 w.ab) (parts_of_stream p.0 ps) s
    (subst (λ t. IsOneStream false w.b.over w.a.window w.b.window (w.a.ends p.0) (w.b.ends p.0) (parts_of_stream p.0 w.ab) (t ∷ parts_of_stream p.0 ps) s) (cut-is k p.1 d) c))

step-comes_in : (k : ℕ) (w : StreamWorld) (m : Streams) → Can (ComesIn k) w → Refines w m → (n : Streams) × StreamSteps (ComesIn k) w m n × Refines (acts (ComesIn k) w) n
step-comes_in k w m can r = delivers_in k w.ba w m refl can.0 can.2 r

step-releases : (j : ℕ) (w : StreamWorld) (m : Streams) → Can (Releases j) w → Refines w m → (n : Streams) × StreamSteps (Releases j) w m n × Refines (acts (Releases j) w) n
step-releases j w m can r = elim (found _ _ _ _ _ _ _ _ (m j) (r.streams j)) [
  | inl k ↦ (let law = one-releases w.a.over w.b.over w.a.window w.b.window (w.a.ends j) (w.b.ends j) (parts_of_stream j w.ab) (parts_of_stream j w.ba) k.0 can.0 can.1 k.2 in (
    put j (Some (after_move Released k.0)) m,
    (k.0, law.0, changes j k.0 _ m k.1),
    one j w (acts (Releases j) w) m (after_move Released k.0) (refl, refl, refl, refl) (λ i n. (put-other i j _ w.a.ends n, refl, refl, refl))
        (stands-at _ _ _ _ _ _ _ _ _ _ _ _ (put-same j (end_released (w.a.ends j)) w.a.ends) refl refl law.1) r,
  ))
  | inr k ↦ absurd (let c : (w.a.ends j).phase ≡ Lingering = can.0 in let u : (w.a.ends j).phase ≡ Unborn = ap (λ (e : End). e.phase) k.1.mine in cc)
]

are-over : (over oy : Bool) (wx wy : ℕ) (x y : End) (xy yx : List Part) (o : Option Stream) → AreOne over oy wx wy x y xy yx o → AreOne true oy wx wy x y xy yx o
are-over over oy wx wy x y xy yx None l = l
are-over true oy wx wy x y xy yx (Some s) l = l
are-over false oy wx wy x y xy yx (Some s) l = one-loses oy wx wy x y xy yx s l

step-ends : (w : StreamWorld) (m : Streams) → Refines w m → (n : Streams) × StreamSteps Ends w m n × Refines (acts Ends w) n
step-ends w m r = (m, (λ i. refl), record { a_window = r.a_window; b_window = r.b_window; streams = λ i. are-over w.a.over w.b.over w.a.window w.b.window _ _ _ _ (m i) (r.streams i) })

step-stops : (w : StreamWorld) (m : Streams) → Refines w m → (n : Streams) × StreamSteps Stops w m n × Refines (acts Stops w) n
step-stops w m r = (m, (λ i. refl), record { a_window = r.a_window; b_window = r.b_window; streams = r.streams })

pub step : (act : Act) (w : StreamWorld) (m : Streams) → Can act w → Refines w m → (n : Streams) × StreamSteps act w m n × Refines (acts act w) n
step (Opens j with_data bytes) w m can r = step-opens j with_data bytes w m can r
step (Calls j call reply next) w m can r = step-calls j call reply next w m can r
step (Accepts j) w m can r = step-accepts j w m can r
step (Sends j k limit) w m can r = step-sends j k limit w m can r
step (Comes refuse) w m can r = step-comes refuse w m can r
step (ComesIn k) w m can r = step-comes_in k w m can r
step (Releases j) w m can r = step-releases j w m can r
step Ends w m can r = step-ends w m r
step Stops w m can r = step-stops w m r

-- ---- the same, seen from the other side

are-flip : (ox oy : Bool) (wx wy : ℕ) (x y : End) (xy yx : List Part) (o : Option Stream) → AreOne ox oy wx wy x y xy yx o → AreOne oy ox wy wx y x yx xy (flip_some o)
are-flip ox oy wx wy x y xy yx None l = record { mine = l.yours; yours = l.mine; none_outbound = l.none_inbound; none_inbound = l.none_outbound }
are-flip ox oy wx wy x y xy yx (Some s) l = one-flip ox oy wx wy x y xy yx s l

pub mirrors : (w : StreamWorld) (m : Streams) → Refines w m → Refines (stream_mirror w) (mirrored m)
mirrors w m r = record { a_window = r.b_window; b_window = r.a_window; streams = λ i. are-flip w.a.over w.b.over w.a.window w.b.window _ _ _ _ (m i) (r.streams i) }

flips_back : (o : Option Stream) → flip_some (flip_some o) ≡ o
flips_back None = refl
flips_back (Some s) = rw not_not refl

pub mirrored-back : (m : Streams) (i : ℕ) → mirrored (mirrored m) i ≡ m i
mirrored-back m i = flips_back (m i)

changes-same : (j : ℕ) (s t : Stream) (m n k : Streams) → Same n k → Changes j s t m n → Changes j s t m k
changes-same j s t m n k e c = record { here = c.here; now = e j ∙ c.now; others = λ i d. e i ∙ c.others i d }

delivers-same : (refuse : Bool) (part : Part → Part) (ps : List (ℕ × Part)) (w : StreamWorld) (m n k : Streams) → Same n k → Delivers refuse part ps w m n → Delivers refuse part ps w m k
delivers-same refuse part [] w m n k e h = λ i. e i ∙ h i
delivers-same refuse part (p ∷ ps) w m n k e h = (h.0, h.1, h.2, h.3, changes-same p.0 h.0 h.1 m n k e h.4)

steps-same : (act : Act) (w : StreamWorld) (m n k : Streams) → Same n k → StreamSteps act w m n → StreamSteps act w m k
steps-same (Opens j with_data bytes) w m n k e h = record { none = h.none; now = e j ∙ h.now; others = λ i d. e i ∙ h.others i d }
steps-same (Calls j call reply next) w m n k e h = elim h [
  | inl g ↦ inl (g.0, g.1, g.2, changes-same j g.0 g.1 m n k e g.3)
  | inr g ↦ inr (g.0, g.1, λ i. e i ∙ g.2 i)
]
steps-same (Accepts j) w m n k e h = (h.0, h.1, changes-same j h.0 _ m n k e h.2)
steps-same (Sends j f limit) w m n k e h = λ i. e i ∙ h i
steps-same (Comes refuse) w m n k e h = delivers-same refuse (λ f. f) w.ba w m n k e h
steps-same (ComesIn q) w m n k e h = delivers-same false (λ f. Data (take q (load f))) w.ba w m n k e h
steps-same (Releases j) w m n k e h = (h.0, h.1, changes-same j h.0 _ m n k e h.2)
steps-same Ends w m n k e h = λ i. e i ∙ h i
steps-same Stops w m n k e h = λ i. e i ∙ h i

pub step_at : (e : Happening) (w : StreamWorld) (m : Streams) → CanHappen e w → Refines w m → (n : Streams) × StreamStepsAt e w m n × Refines (happens e w) n
step_at (AtA act) w m can r = step act w m can r
step_at (AtB act) w m can r =
    let s = step act (stream_mirror w) (mirrored m) can (mirrors w m r) in (
      mirrored s.0,
      steps-same act (stream_mirror w) (mirrored m) s.0 (mirrored (mirrored s.0)) (λ i. mirrored-back s.0 i) s.1,
      mirrors (acts act (stream_mirror w)) s.0 s.2,
    )

-- ---- still

are-still : (ox oy : Bool) (wx wy : ℕ) (x y : End) (xy yx : List Part) (o : Option Stream) → ox ≡ false → oy ≡ false → xy ≡ [] → yx ≡ [] → IsQuiet wx x → IsQuiet wy y →
    AreOne ox oy wx wy x y xy yx o → StillIf wx wy o
are-still ox oy wx wy x y xy yx None a b c d p q l = tt
are-still ox oy wx wy x y xy yx (Some s) a b c d p q l = one-still wx wy x y s p q (rw (a, b, c, d) at l)

pub all-still : (w : StreamWorld) (m : Streams) → IsQuietWorld w → Refines w m → AllStill w m
all-still w m q r i = are-still w.a.over w.b.over w.a.window w.b.window (w.a.ends i) (w.b.ends i) (parts_of_stream i w.ab) (parts_of_stream i w.ba) (m i) q.a_runs q.b_runs (ap (parts_of_stream i) q.ab) (ap (parts_of_stream i) q.ba) (q.a i) (q.b i) (r.streams i)

-- ---- before any stream was opened

pub new-refines : (mine yours : ℕ) → first_credit ≤ mine → first_credit ≤ yours → Refines (new_streams mine yours) no_streams
new-refines mine yours a b = record { a_window = a; b_window = b; streams = λ i. record { mine = refl; yours = refl; none_outbound = refl; none_inbound = refl } }
