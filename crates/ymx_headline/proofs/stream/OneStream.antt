-- The law of one stream, also where a side is lost or closed.
use Rattle.std.proofs.Common.{◌≡◌, ℕ, ◌≤◌, List, [], ◌∷◌, ◌++◌, length, Bool, true, false, ◌||◌, ◌⊎◌, inl, inr, None, Some, refl, sym, ap, subst, ◌∙◌, arith}
use Rattle.ymx_machine.proofs.Tests.{when}
use Rattle.ymx_machine.specs.shared.Phases.{Phase, is_live, is_reset, takes}
use Rattle.ymx_machine.specs.stream.Streams.{Stream, flip, Allowed, after_move, IsStill, opened_stream, stream_write, stream_forget, stream_accept}
use Rattle.ymx_machine.specs.shared.Phases.Phase.{Unborn, Offered, Live, Lingering, Gone}
use Rattle.ymx_machine.specs.stream.Streams.Move.{Released}
use Rattle.ymx_machine.specs.stream.StreamRules.{StreamCall, StreamRule}
use Rattle.ymx_machine.specs.shared.Replies.{forget_reply, is_done}
use Rattle.ymx_machine.specs.stream.StreamRules.StreamCall.{Forgets}
use Rattle.ymx_machine.specs.shared.Events.{Reply}
use Rattle.ymx_model.specs.session.Records.{End, new_end, reader_empty, end_accept, end_write, end_forget, receive_data}
use Rattle.ymx_model.specs.declared.types.FrameKind.{FrameKind}
use Rattle.ymx_model.specs.session.FramesDue.{next_kind, begin_frame}
use Rattle.ymx_model.specs.session.Parts.{Part, parts_of}
use Rattle.ymx_model.specs.session.Parts.Part.{Data}
use Rattle.ymx_headline.specs.stream.Links.{Related}
use Rattle.ymx_headline.specs.stream.Arrivals.{comes_to, Goes}
use Rattle.ymx_headline.specs.stream.Answers.{EndRule, end_released}
use Rattle.ymx_headline.specs.stream.OneStream.{is_given_up, Stands, IsOneStream, EndShows, IsQuiet}
use Rattle.ymx_headline.proofs.stream.Links.{related-flip, begins-with}
use Rattle.ymx_headline.proofs.stream.Nothing.{absent-only, absent-rule}
use Rattle.ymx_headline.proofs.stream.Rules.{forgets_lost, shows, law-call, law-forget_lost}
use Rattle.ymx_headline.proofs.stream.Calls.{none-done, related-accepts, related-goes, related-releases}
use Rattle.ymx_headline.proofs.stream.Sends.{related-sends}
use Rattle.ymx_headline.proofs.stream.Faults.{related-breaks}
use Rattle.ymx_headline.proofs.stream.Faults.{BreaksNothing}
use Rattle.ymx_machine.specs.shared.Limits.{first_credit}
use Rattle.ymx_headline.proofs.stream.Still.{related-still}
use Rattle.ymx_headline.proofs.stream.Comes.{part-comes, piece-comes, payload-over}

-- ---- which end stands

related-mine : (wx wy : ℕ) (x x' y : End) (xy yx : List Part) (s : Stream) → x ≡ x' → Related wx wy x y xy yx s → Related wx wy x' y xy yx s
related-mine wx wy x x' y xy yx s e c = subst (λ k. Related wx wy k y xy yx s) e c

pub one-flip : (ox oy : Bool) (wx wy : ℕ) (x y : End) (xy yx : List Part) (s : Stream) → IsOneStream ox oy wx wy x y xy yx s → IsOneStream oy ox wy wx y x yx xy (flip s)
one-flip ox oy wx wy x y xy yx s c = record { mine = c.yours; yours = c.mine; mine_stands = c.yours_stands; yours_stands = c.mine_stands; related = related-flip wx wy c.mine c.yours xy yx s c.related }

-- at a side that isn't over each end stands for itself
pub stands-itself : (e g : End) → Stands false e g → e ≡ g
stands-itself e g (inl c) = c
stands-itself e g (inr c) = absurd (let h = c.0 in cc)

-- a new end that stands for itself
one-mine : (ox oy : Bool) (wx wy : ℕ) (x x' y : End) (xy yx xy' yx' : List Part) (s t : Stream) (c : IsOneStream ox oy wx wy x y xy yx s) →
    Related wx wy x' c.yours xy' yx' t → IsOneStream ox oy wx wy x' y xy' yx' t
one-mine ox oy wx wy x x' y xy yx xy' yx' s t c r = record { mine = x'; yours = c.yours; mine_stands = inl refl; yours_stands = c.yours_stands; related = r }

-- ---- calls

gone-absent : (p : Phase) → is_given_up p ≡ true → (is_live p || is_reset p) ≡ false
gone-absent p g = grind arith

mine-calls : (lost : Bool) (call : StreamCall) (r : Reply) (oy : Bool) (wx wy : ℕ) (x x' y : End) (xy yx : List Part) (s : Stream) (c : IsOneStream lost oy wx wy x y xy yx s) →
    x ≡ c.mine → EndRule lost call x r x' → forgets_lost lost call ≡ false →
    (t : Stream) × StreamRule lost call s r t × IsOneStream lost oy wx wy x' y xy yx t
mine-calls lost call r oy wx wy x x' y xy yx s c e h n =
    let k = law-call lost call r wx wy x x' c.yours xy yx s (related-mine wx wy c.mine x c.yours xy yx s (sym e) c.related) n h in
    (k.0, k.1, one-mine lost oy wx wy x x' y xy yx xy yx s k.0 c k.2)

mine-forgets : (r : Reply) (oy : Bool) (wx wy : ℕ) (x x' y : End) (xy yx : List Part) (s : Stream) (c : IsOneStream true oy wx wy x y xy yx s) →
    x ≡ c.mine → EndRule true Forgets x r x' →
    (t : Stream) × StreamRule true Forgets s r t × IsOneStream true oy wx wy x' y xy yx t
mine-forgets r oy wx wy x x' y xy yx s c e h = go (when (is_done r))
  where
    rel : Related wx wy x c.yours xy yx s
    rel = related-mine wx wy c.mine x c.yours xy yx s (sym e) c.related

    go : (is_done r ≡ true) ⊎ (is_done r ≡ false) → (t : Stream) × StreamRule true Forgets s r t × IsOneStream true oy wx wy x' y xy yx t
    go (inl d) =
        let k = law-forget_lost r wx wy x c.yours xy yx s rel h.0 d in
        let q : x' ≡ end_forget true x = h.1 ∙ rw d in
        let p : x'.phase ≡ Lingering = ap (λ (k : End). k.phase) q in (
          stream_forget s,
          k.0,
          record {
            mine = record x { phase = Lingering; reader = reader_empty x.reader };
            yours = c.yours;
            mine_stands = inr (refl, p, ap is_given_up p);
            yours_stands = c.yours_stands;
            related = k.1;
          },
        )
    go (inr d) =
        let q : x' ≡ x = h.1 ∙ rw d refl in
        let z = shows wx wy x c.yours xy yx s rel in (
          s,
          (let f = z.phase in rw (d) (h.0 ∙ ap forget_reply (sym f), refl)),
          one-mine true oy wx wy x x' y xy yx xy yx s s c (related-mine wx wy x x' c.yours xy yx s (sym q) rel),
        )

pub one-calls : (lost : Bool) (call : StreamCall) (r : Reply) (oy : Bool) (wx wy : ℕ) (x x' y : End) (xy yx : List Part) (s : Stream) →
    IsOneStream lost oy wx wy x y xy yx s → EndRule lost call x r x' → (t : Stream) × StreamRule lost call s r t × IsOneStream lost oy wx wy x' y xy yx t
one-calls lost call r oy wx wy x x' y xy yx s c h = go lost call c h c.mine_stands
  where
    go : (lost : Bool) (call : StreamCall) (c : IsOneStream lost oy wx wy x y xy yx s) → EndRule lost call x r x' → Stands lost x c.mine →
        (t : Stream) × StreamRule lost call s r t × IsOneStream lost oy wx wy x' y xy yx t
    go true Forgets c h (inl e) = mine-forgets r oy wx wy x x' y xy yx s c e h
    go lost call c h (inl e) = mine-calls lost call r oy wx wy x x' y xy yx s c e h refl
    go lost call c h (inr g) =
        let k = absent-only lost call x x' r (gone-absent x.phase g.2) h in
        let p = (shows wx wy c.mine c.yours xy yx s c.related).phase in (
          s,
          rw k.0 (absent-rule lost call s (gone-absent s.me (ap is_given_up (p ∙ sym g.1) ∙ g.2))),
          record { mine = c.mine; yours = c.yours; mine_stands = inr (g.0, ap (λ (q : End). q.phase) k.1 ∙ g.1, ap (λ (q : End). is_given_up q.phase) k.1 ∙ g.2); yours_stands = c.yours_stands; related = c.related },
        )

-- an end that a caller may have, or that takes what comes, stands for itself
takes-itself : (over : Bool) (e g : End) → takes e.phase ≡ true → Stands over e g → e ≡ g
takes-itself over e g t (inl c) = c
takes-itself over e g t (inr c) = absurd (let h = c.2 in grind arith)

pub one-shows : (ox oy : Bool) (wx wy : ℕ) (x y : End) (xy yx : List Part) (s : Stream) → IsOneStream ox oy wx wy x y xy yx s → EndShows x s
one-shows ox oy wx wy x y xy yx s c = go c.mine_stands
  where
    h : EndShows c.mine s
    h = shows wx wy c.mine c.yours xy yx s c.related

    go : Stands ox x c.mine → EndShows x s
    go (inl e) = subst (λ k. EndShows k s) (sym e) h
    go (inr g) =
        let p = h.phase in let q = g.1 in let u = g.2 in
        record { phase = p ∙ sym q; finished = λ l. absurd (grind arith); credit = λ l. absurd (grind arith); unread = λ l. absurd (grind arith); ended = λ l. absurd (grind arith); acked = λ l. absurd (grind arith) }

-- ---- accept

pub one-accepts : (lost oy : Bool) (wx wy : ℕ) (x y : End) (xy yx : List Part) (s : Stream) →
    x.phase ≡ Offered → IsOneStream lost oy wx wy x y xy yx s → IsOneStream lost oy wx wy (end_accept lost x) y xy yx (stream_accept lost s)
one-accepts lost oy wx wy x y xy yx s o c =
    let e = takes-itself lost x c.mine (ap takes o) c.mine_stands in
    one-mine lost oy wx wy x (end_accept lost x) y xy yx xy yx s (stream_accept lost s) c (related-accepts lost wx wy x c.yours xy yx s o (related-mine wx wy c.mine x c.yours xy yx s (sym e) c.related))

-- ---- frames that go out

pub one-sends : (k : FrameKind) (limit : ℕ) (oy : Bool) (wx wy : ℕ) (x y : End) (xy yx : List Part) (s : Stream) →
    next_kind wx x ≡ Some k → IsOneStream false oy wx wy x y xy yx s → IsOneStream false oy wx wy (begin_frame wx limit k x) y (xy ++ parts_of k wx limit x) yx s
one-sends k limit oy wx wy x y xy yx s n c =
    let e = stands-itself x c.mine c.mine_stands in
    one-mine false oy wx wy x _ y xy yx _ yx s s c (related-sends k limit wx wy x c.yours xy yx s n (related-mine wx wy c.mine x c.yours xy yx s (sym e) c.related))

-- ---- frames that come

pub one-comes : (refuse : Bool) (f : Part) (oy : Bool) (wx wy : ℕ) (x y : End) (xy yx : List Part) (s : Stream) →
    IsOneStream false oy wx wy x y xy (f ∷ yx) s → (t : Stream) × Goes refuse f s t × IsOneStream false oy wx wy (comes_to refuse wx f x) y xy yx t
one-comes refuse f oy wx wy x y xy yx s c =
    let e = stands-itself x c.mine c.mine_stands in
    let r = part-comes refuse f wx wy x c.yours xy yx s (related-mine wx wy c.mine x c.yours xy (f ∷ yx) s (sym e) c.related) in
    (r.0, r.1, one-mine false oy wx wy x _ y xy _ xy yx s r.0 c r.2)

pub one-pieces : (bytes rest : List ℕ) (oy : Bool) (wx wy : ℕ) (x y : End) (xy yx : List Part) (s : Stream) →
    IsOneStream false oy wx wy x y xy (Data (bytes ++ rest) ∷ yx) s →
    (t : Stream) × Goes false (Data bytes) s t × IsOneStream false oy wx wy (receive_data bytes x) y xy (Data rest ∷ yx) t
one-pieces bytes rest oy wx wy x y xy yx s c =
    let e = stands-itself x c.mine c.mine_stands in
    let r = piece-comes bytes rest wx wy x c.yours xy yx s (related-mine wx wy c.mine x c.yours xy (Data (bytes ++ rest) ∷ yx) s (sym e) c.related) in
    (r.0, r.1, one-mine false oy wx wy x _ y xy _ xy _ s r.0 c r.2)

pub one-over : (ox oy : Bool) (wx wy : ℕ) (x y : End) (xy yx : List Part) (s : Stream) →
    IsOneStream ox oy wx wy x y xy (Data [] ∷ yx) s → IsOneStream ox oy wx wy x y xy yx s
one-over ox oy wx wy x y xy yx s c = record { mine = c.mine; yours = c.yours; mine_stands = c.mine_stands; yours_stands = c.yours_stands; related = payload-over wx wy c.mine c.yours xy yx s c.related }

-- ---- a side is lost or closed

pub one-loses : (oy : Bool) (wx wy : ℕ) (x y : End) (xy yx : List Part) (s : Stream) → IsOneStream false oy wx wy x y xy yx s → IsOneStream true oy wx wy x y xy yx s
one-loses oy wx wy x y xy yx s c = record {
  mine = c.mine;
  yours = c.yours;
  mine_stands = inl (stands-itself x c.mine c.mine_stands);
  yours_stands = c.yours_stands;
  related = c.related;
}

-- ---- release

goes-lost : (oy : Bool) (wx wy : ℕ) (x y : End) (xy yx : List Part) (s : Stream) → x.phase ≡ Lingering → IsOneStream true oy wx wy x y xy yx s →
    Allowed Released s × IsOneStream true oy wx wy (end_released x) y xy yx (after_move Released s)
goes-lost oy wx wy x y xy yx s l c =
    let p : s.me ≡ Lingering = (one-shows true oy wx wy x y xy yx s c).phase ∙ l in
    let q : c.mine.phase ≡ Lingering = sym (shows wx wy c.mine c.yours xy yx s c.related).phase ∙ p in (
      p,
      record {
        mine = record c.mine { phase = Gone };
        yours = c.yours;
        mine_stands = inr (refl, refl, refl);
        yours_stands = c.yours_stands;
        related = related-goes wx wy c.mine c.yours xy yx s q c.related;
      },
    )

pub one-releases : (ox oy : Bool) (wx wy : ℕ) (x y : End) (xy yx : List Part) (s : Stream) →
    x.phase ≡ Lingering → (ox ≡ true) ⊎ (next_kind wx x ≡ None) → IsOneStream ox oy wx wy x y xy yx s →
    Allowed Released s × IsOneStream ox oy wx wy (end_released x) y xy yx (after_move Released s)
one-releases true oy wx wy x y xy yx s l n c = goes-lost oy wx wy x y xy yx s l c
one-releases false oy wx wy x y xy yx s l (inl n) c = absurd (cc)
one-releases false oy wx wy x y xy yx s l (inr n) c =
    let e = stands-itself x c.mine c.mine_stands in (
      (one-shows false oy wx wy x y xy yx s c).phase ∙ l,
      one-mine false oy wx wy x _ y xy yx xy yx s _ c
          (related-releases wx wy x c.yours xy yx s l (none-done wx x n) (related-mine wx wy c.mine x c.yours xy yx s (sym e) c.related)),
    )

-- ---- still

pub one-still : (wx wy : ℕ) (x y : End) (s : Stream) → IsQuiet wx x → IsQuiet wy y → IsOneStream false false wx wy x y [] [] s → IsStill wx wy s
one-still wx wy x y s p q c =
    let e = stands-itself x c.mine c.mine_stands in let f = stands-itself y c.yours c.yours_stands in
    related-still wx wy c.mine c.yours s (subst (IsQuiet wx) e p) (subst (IsQuiet wy) f q) c.related

-- ---- a stream begins

pub one-begins : (bytes : List ℕ) (with_data : Bool) (oy : Bool) (wx wy : ℕ) → first_credit ≤ wx → first_credit ≤ wy → length bytes ≤ first_credit →
    IsOneStream false oy wx wy (end_write bytes (new_end wx Live true with_data)) (new_end wy Unborn false false) [] [] (stream_write bytes (opened_stream wx wy))
one-begins bytes with_data oy wx wy a b fits = record {
  mine = end_write bytes (new_end wx Live true with_data);
  yours = new_end wy Unborn false false;
  mine_stands = inl refl;
  yours_stands = inl refl;
  related = inl (begins-with bytes with_data wx wy a b fits);
}

-- ---- nothing that comes is a fault

pub one-breaks : (f : Part) (oy : Bool) (wx wy : ℕ) (x y : End) (xy yx : List Part) (s : Stream) → IsOneStream false oy wx wy x y xy (f ∷ yx) s → BreaksNothing wy s.own f yx x
one-breaks f oy wx wy x y xy yx s c =
    let e = stands-itself x c.mine c.mine_stands in related-breaks f wx wy x c.yours xy yx s (related-mine wx wy c.mine x c.yours xy (f ∷ yx) s (sym e) c.related)
