-- What an end answers is what the machine may answer.
use Rattle.std.proofs.Common.{◌≡◌, ◌≢◌, ℕ, ◌≤◌, List, [], length, take, Bool, true, false, not, ◌&&◌, ◌⊎◌, inl, inr, refl, sym, ap, ◌∙◌, arith}
use Rattle.std.proofs.lemmas.Grind.{common_steps}
use Rattle.std.proofs.lemmas.Bool.Decides.{nat_tests}
use Rattle.ymx_machine.proofs.Tests.{when}
use Rattle.ymx_machine.specs.stream.Lanes.{is_unsaid, is_here}
use Rattle.ymx_machine.specs.shared.Phases.{Phase, is_live, is_reset}
use Rattle.ymx_machine.specs.stream.Streams.{Stream, flip, stream_write, stream_read, stream_finish, stream_reset, stream_forget}
use Rattle.ymx_machine.specs.shared.Phases.Phase.{Live, WasReset, Lingering}
use Rattle.ymx_machine.specs.stream.StreamRules.{StreamCall, ResetsTo, forgets_quietly, StreamRule}
use Rattle.ymx_machine.specs.shared.Replies.{write_reply, read_reply, finish_reply, reset_reply, forget_reply, bytes_moved, is_done}
use Rattle.std.specs.Prelude.{MatchBool}
use Rattle.ymx_machine.specs.stream.StreamRules.StreamCall.{Writes, Reads, Finishes, Resets, Forgets}
use Rattle.ymx_machine.specs.shared.Events.{Reply}
use Rattle.ymx_model.specs.session.Records.{End, Reader, reader_empty, end_write, end_read, end_reset, end_forget}
use Rattle.ymx_model.specs.session.Parts.{Part}
use Rattle.ymx_headline.specs.stream.Flight.{loads}
use Rattle.ymx_headline.specs.stream.Links.{Alive, Heard, Related}
use Rattle.ymx_headline.specs.stream.Answers.{EndRule}
use Rattle.ymx_headline.specs.stream.OneStream.{EndShows}
use Rattle.ymx_headline.proofs.stream.Links.{not_not}
use Rattle.ymx_headline.proofs.stream.Directions.{lists}
use Rattle.ymx_headline.proofs.stream.Heard.{heard-forgets, said-forgets}
use Rattle.ymx_headline.proofs.stream.Calls.{alive-writes, alive-reads, alive-finishes, alive-resets, alive-given_up, resets-allowed, kept_fin, kept_ack}
use Rattle.ymx_headline.proofs.stream.Phases.{live_not_reset, reset-down, is-live}

shows-alive : (wx wy : ℕ) (x y : End) (xy yx : List Part) (s : Stream) → Alive wx wy x y xy yx s → EndShows x s
shows-alive wx wy x y xy yx s c = grind arith

shows-heard : (wx wy : ℕ) (x y : End) (xy yx : List Part) (s : Stream) → Heard wx wy x y xy yx s → EndShows x s
shows-heard wx wy x y xy yx s c = grind arith

shows-said : (wx wy : ℕ) (x y : End) (xy yx : List Part) (s : Stream) → Heard wy wx y x yx xy (flip s) → EndShows x s
shows-said wx wy x y xy yx s c = grind arith

pub shows : (wx wy : ℕ) (x y : End) (xy yx : List Part) (s : Stream) → Related wx wy x y xy yx s → EndShows x s
shows wx wy x y xy yx s (inl c) = shows-alive wx wy x y xy yx s c
shows wx wy x y xy yx s (inr (inl c)) = shows-heard wx wy x y xy yx s c
shows wx wy x y xy yx s (inr (inr c)) = shows-said wx wy x y xy yx s c

live_alive : (wx wy : ℕ) (x y : End) (xy yx : List Part) (s : Stream) → x.phase ≡ Live → Related wx wy x y xy yx s → Alive wx wy x y xy yx s
live_alive wx wy x y xy yx s l (inl c) = c
live_alive wx wy x y xy yx s l (inr (inl c)) = absurd (let d = c.spent_x in grind arith)
live_alive wx wy x y xy yx s l (inr (inr c)) = absurd (let d = c.spent_y in grind arith)

same-write : (lost : Bool) (bytes : List ℕ) (x : End) (s : Stream) → EndShows x s →
    write_reply lost bytes x.phase x.writer.finished x.writer.credit ≡ write_reply lost bytes s.me (not (is_unsaid s.outbound.fin)) s.outbound.credit
same-write lost bytes x s c = grind arith

same-read : (lost : Bool) (max : ℕ) (x : End) (s : Stream) → EndShows x s →
    read_reply lost max x.phase x.reader.unread x.reader.ended ≡ read_reply lost max s.me s.inbound.here (is_here s.inbound.fin)
same-read lost max x s c = grind arith

same-finish : (lost : Bool) (x : End) (s : Stream) → EndShows x s → finish_reply lost x.phase x.writer.finished ≡ finish_reply lost s.me (not (is_unsaid s.outbound.fin))
same-finish lost x s c = grind arith

same-reset : (lost : Bool) (x : End) (s : Stream) → EndShows x s → reset_reply lost x.phase ≡ reset_reply lost s.me
same-reset lost x s c = grind arith

same-forget : (x : End) (s : Stream) → EndShows x s → forget_reply x.phase ≡ forget_reply s.me
same-forget x s c = grind arith

-- ---- write

pub zero_or : (n : ℕ) → (n ≡ 0) ⊎ (n ≢ 0)
zero_or n = grind arith

writes-none : (n : ℕ) (bytes : List ℕ) (e : End) → n ≡ 0 → end_write (take n bytes) e ≡ e
writes-none n bytes e z = grind (arith, lists)

stream_writes-none : (n : ℕ) (bytes : List ℕ) (s : Stream) → n ≡ 0 → stream_write (take n bytes) s ≡ s
stream_writes-none n bytes s z = grind (arith, lists)

-- a write that takes bytes was allowed
wrote : (lost : Bool) (bytes : List ℕ) (p : Phase) (said : Bool) (credit : ℕ) → bytes_moved (write_reply lost bytes p said credit) ≢ 0 →
    (p ≡ Live) × (said ≡ false) × (length (take (bytes_moved (write_reply lost bytes p said credit)) bytes) ≤ credit)
wrote lost bytes p said credit n = grind (arith, nat_tests, common_steps)

related-is : (wx wy : ℕ) (x x' y : End) (xy yx : List Part) (s s' : Stream) → x' ≡ x → s' ≡ s → Related wx wy x y xy yx s → Related wx wy x' y xy yx s'
related-is wx wy x x' y xy yx s s' a b c = rw (a, b) c

law-write : (lost : Bool) (bytes : List ℕ) (r : Reply) (wx wy : ℕ) (x x' y : End) (xy yx : List Part) (s : Stream) → Related wx wy x y xy yx s →
    EndRule lost (Writes bytes) x r x' → (t : Stream) × StreamRule lost (Writes bytes) s r t × Related wx wy x' y xy yx t
law-write lost bytes r wx wy x x' y xy yx s c (inr h) =
    let e = same-write lost bytes x s (shows wx wy x y xy yx s c) in
    (s, inr ((λ z. h.0 (ap bytes_moved e ∙ z)), h.1, refl), related-is wx wy x x' y xy yx s s h.2 refl c)
law-write lost bytes r wx wy x x' y xy yx s c (inl h) =
    let e = same-write lost bytes x s (shows wx wy x y xy yx s c) in
    (stream_write (take (bytes_moved r) bytes) s, inl (h.0 ∙ e, refl), go (zero_or (bytes_moved r)))
  where
    go : (bytes_moved r ≡ 0) ⊎ (bytes_moved r ≢ 0) → Related wx wy x' y xy yx (stream_write (take (bytes_moved r) bytes) s)
    go (inl z) = related-is wx wy x x' y xy yx s _ (h.1 ∙ writes-none (bytes_moved r) bytes x z) (stream_writes-none (bytes_moved r) bytes s z) c
    go (inr z) =
        let k = wrote lost bytes x.phase x.writer.finished x.writer.credit (λ q. z (ap bytes_moved h.0 ∙ q)) in
        related-is wx wy _ x' y xy yx _ _ h.1 refl
        (inl (alive-writes (take (bytes_moved r) bytes) wx wy x y xy yx s k.0 k.1 (rw (h.0) k.2) (live_alive wx wy x y xy yx s k.0 c)))

-- ---- read

reads-none : (n : ℕ) (e : End) → n ≡ 0 → end_read n e ≡ e
reads-none n e z = grind (arith, lists)

stream_reads-none : (n : ℕ) (s : Stream) → n ≡ 0 → stream_read n s ≡ s
stream_reads-none n s z = grind (arith, lists)

read_some : (lost : Bool) (max : ℕ) (p : Phase) (here : List ℕ) (ended : Bool) → bytes_moved (read_reply lost max p here ended) ≢ 0 → p ≡ Live
read_some lost max p here ended n = grind (arith, nat_tests, common_steps)

law-read : (lost : Bool) (max : ℕ) (r : Reply) (wx wy : ℕ) (x x' y : End) (xy yx : List Part) (s : Stream) → Related wx wy x y xy yx s →
    EndRule lost (Reads max) x r x' → (t : Stream) × StreamRule lost (Reads max) s r t × Related wx wy x' y xy yx t
law-read lost max r wx wy x x' y xy yx s c h =
    let e = same-read lost max x s (shows wx wy x y xy yx s c) in
    (stream_read (bytes_moved r) s, (h.0 ∙ e, refl), go (zero_or (bytes_moved r)))
  where
    go : (bytes_moved r ≡ 0) ⊎ (bytes_moved r ≢ 0) → Related wx wy x' y xy yx (stream_read (bytes_moved r) s)
    go (inl z) = related-is wx wy x x' y xy yx s _ (h.1 ∙ reads-none (bytes_moved r) x z) (stream_reads-none (bytes_moved r) s z) c
    go (inr z) =
        let l = read_some lost max x.phase x.reader.unread x.reader.ended (λ q. z (ap bytes_moved h.0 ∙ q)) in
        related-is wx wy _ x' y xy yx _ _ h.1 refl (inl (alive-reads (bytes_moved r) wx wy x y xy yx s l (live_alive wx wy x y xy yx s l c)))

-- ---- finish

finish_done : (lost : Bool) (p : Phase) (said : Bool) → is_done (finish_reply lost p said) ≡ true → (p ≡ Live) × (said ≡ false)
finish_done lost p said e = grind arith

law-finish : (lost : Bool) (r : Reply) (wx wy : ℕ) (x x' y : End) (xy yx : List Part) (s : Stream) → Related wx wy x y xy yx s →
    EndRule lost Finishes x r x' → (t : Stream) × StreamRule lost Finishes s r t × Related wx wy x' y xy yx t
law-finish lost r wx wy x x' y xy yx s c h = go (when (is_done r))
  where
    e : r ≡ finish_reply lost s.me (not (is_unsaid s.outbound.fin))
    e = h.0 ∙ same-finish lost x s (shows wx wy x y xy yx s c)

    go : (is_done r ≡ true) ⊎ (is_done r ≡ false) → (t : Stream) × StreamRule lost Finishes s r t × Related wx wy x' y xy yx t
    go (inl d) =
        let k = finish_done lost x.phase x.writer.finished (ap is_done (sym h.0) ∙ d) in
        (stream_finish s, (e, rw d), related-is wx wy _ x' y xy yx _ _ (h.1 ∙ rw d) refl (inl (alive-finishes wx wy x y xy yx s k.0 k.1 (live_alive wx wy x y xy yx s k.0 c))))
    go (inr d) = (s, (e, rw d), related-is wx wy x x' y xy yx s s (h.1 ∙ rw d) refl c)

-- ---- reset

reset_done : (lost : Bool) (p : Phase) → is_done (reset_reply lost p) ≡ true → p ≡ Live
reset_done lost p e = grind arith

law-reset : (lost : Bool) (r : Reply) (wx wy : ℕ) (x x' y : End) (xy yx : List Part) (s : Stream) → Related wx wy x y xy yx s →
    EndRule lost Resets x r x' → (t : Stream) × StreamRule lost Resets s r t × Related wx wy x' y xy yx t
law-reset lost r wx wy x x' y xy yx s c h = go (when (is_done r))
  where
    e : r ≡ reset_reply lost s.me
    e = h.0 ∙ same-reset lost x s (shows wx wy x y xy yx s c)

    go : (is_done r ≡ true) ⊎ (is_done r ≡ false) → (t : Stream) × StreamRule lost Resets s r t × Related wx wy x' y xy yx t
    go (inl d) =
        let l = reset_done lost x.phase (ap is_done (sym h.0) ∙ d) in
        let a = live_alive wx wy x y xy yx s l c in (
          stream_reset WasReset (length (loads xy)) (kept_fin x s) (kept_ack x s) s,
          (e, rw d (length (loads xy), kept_fin x s, kept_ack x s, resets-allowed wx wy x y xy yx s l a, refl)),
          related-is wx wy _ x' y xy yx _ _ (h.1 ∙ rw d) refl (inl (alive-resets WasReset wx wy x y xy yx s l refl a)),
        )
    go (inr d) = (s, (e, rw d), related-is wx wy x x' y xy yx s s (h.1 ∙ rw d) refl c)

-- ---- forget

forget_done : (p : Phase) → is_done (forget_reply p) ≡ true → (is_live p ≡ true) ⊎ (is_reset p ≡ true)
forget_done p e = grind arith

-- what is forgotten without a reset, whatever the record keeps
given_up : (q : Reader) (wx wy : ℕ) (x y : End) (xy yx : List Part) (s : Stream) → q.unread ≡ [] → (is_live x.phase ≡ true) ⊎ (is_reset x.phase ≡ true) →
    Related wx wy x y xy yx s → Related wx wy (record x { phase = Lingering; reader = q }) y xy yx (stream_forget s)
given_up q wx wy x y xy yx s e l (inl c) = inl (alive-given_up q wx wy x y xy yx s e (elim l [ inl a ↦ inl a | inr b ↦ inr (reset-down x.phase b) ]) c)
given_up q wx wy x y xy yx s e l (inr (inl c)) = inr (inl (heard-forgets q wx wy x y xy yx s c))
given_up q wx wy x y xy yx s e l (inr (inr c)) = inr (inr (simp not_not at (said-forgets q wy wx y x yx xy (flip s) c)))

-- a forget in a lost session: in the relation the end keeps what it had to send
pub law-forget_lost : (r : Reply) (wx wy : ℕ) (x y : End) (xy yx : List Part) (s : Stream) → Related wx wy x y xy yx s → r ≡ forget_reply x.phase → is_done r ≡ true →
    StreamRule true Forgets s r (stream_forget s) × Related wx wy (record x { phase = Lingering; reader = reader_empty x.reader }) y xy yx (stream_forget s)
law-forget_lost r wx wy x y xy yx s c h d =
    let k = forget_done x.phase (ap is_done (sym h) ∙ d) in
    let q : forgets_quietly true s ≡ true = grind arith in (
      (h ∙ same-forget x s (shows wx wy x y xy yx s c), rw (d, q) refl),
      given_up (reader_empty x.reader) wx wy x y xy yx s refl k c,
    )

-- a stream that was reset
forget-was_reset : (x : End) → is_reset x.phase ≡ true → end_forget false x ≡ record x { phase = Lingering; reader = x.reader }
forget-was_reset x z = grind arith

-- one that is over in both directions
forget-over : (x : End) → is_reset x.phase ≡ false → (x.writer.finished && x.reader.ended) ≡ true → end_forget false x ≡ record x { phase = Lingering; reader = reader_empty x.reader }
forget-over x z o = grind arith

-- any other
forget-resets : (x : End) → is_reset x.phase ≡ false → (x.writer.finished && x.reader.ended) ≡ false → end_forget false x ≡ end_reset Lingering x
forget-resets x z o = grind arith

reset-given_up : (wx wy : ℕ) (x y : End) (xy yx : List Part) (s : Stream) → is_reset x.phase ≡ true → Related wx wy x y xy yx s →
    Related wx wy (record x { phase = Lingering; reader = x.reader }) y xy yx (stream_forget s)
reset-given_up wx wy x y xy yx s z (inl c) = inl (alive-given_up x.reader wx wy x y xy yx s (let u = c.inbound.holds.cleared in grind arith) (inr (reset-down x.phase z)) c)
reset-given_up wx wy x y xy yx s z (inr (inl c)) = inr (inl (heard-forgets x.reader wx wy x y xy yx s c))
reset-given_up wx wy x y xy yx s z (inr (inr c)) = inr (inr (simp not_not at (said-forgets x.reader wy wx y x yx xy (flip s) c)))

-- a forget that is answered Done
forgets : (wx wy : ℕ) (x y : End) (xy yx : List Part) (s : Stream) → Related wx wy x y xy yx s → (is_live x.phase ≡ true) ⊎ (is_reset x.phase ≡ true) →
    (t : Stream) × MatchBool (forgets_quietly false s) (t ≡ stream_forget s) (ResetsTo Lingering s t) × Related wx wy (end_forget false x) y xy yx t
forgets wx wy x y xy yx s c (inr z) =
    let h = shows wx wy x y xy yx s c in
    let q : forgets_quietly false s ≡ true = grind arith in
    (stream_forget s, rw q refl, related-is wx wy _ _ y xy yx _ _ (forget-was_reset x z) refl (reset-given_up wx wy x y xy yx s z c))
forgets wx wy x y xy yx s c (inl l) = go (when (x.writer.finished && x.reader.ended))
  where
    h : EndShows x s
    h = shows wx wy x y xy yx s c

    same : forgets_quietly false s ≡ (x.writer.finished && x.reader.ended)
    same = let p = h.phase in let f = h.finished in let e = h.ended in grind arith

    go : ((x.writer.finished && x.reader.ended) ≡ true) ⊎ ((x.writer.finished && x.reader.ended) ≡ false) →
        (t : Stream) × MatchBool (forgets_quietly false s) (t ≡ stream_forget s) (ResetsTo Lingering s t) × Related wx wy (end_forget false x) y xy yx t
    go (inl o) = (
      stream_forget s,
      rw (same ∙ o) refl,
      related-is wx wy _ _ y xy yx _ _ (forget-over x (live_not_reset x.phase l) o) refl (given_up (reader_empty x.reader) wx wy x y xy yx s refl (inl l) c),
    )
    go (inr o) =
        let v = is-live x.phase l in let a = live_alive wx wy x y xy yx s v c in (
          stream_reset Lingering (length (loads xy)) (kept_fin x s) (kept_ack x s) s,
          rw (same ∙ o) (length (loads xy), kept_fin x s, kept_ack x s, resets-allowed wx wy x y xy yx s v a, refl),
          related-is wx wy _ _ y xy yx _ _ (forget-resets x (live_not_reset x.phase l) o) refl (inl (alive-resets Lingering wx wy x y xy yx s v refl a)),
        )

if_so : (b : Bool) (P Q : Type 0) → b ≡ true → P → MatchBool b P Q
if_so b P Q e h = rw e h

law-forget : (r : Reply) (wx wy : ℕ) (x x' y : End) (xy yx : List Part) (s : Stream) → Related wx wy x y xy yx s →
    EndRule false Forgets x r x' → (t : Stream) × StreamRule false Forgets s r t × Related wx wy x' y xy yx t
law-forget r wx wy x x' y xy yx s c h = go (when (is_done r))
  where
    e : r ≡ forget_reply s.me
    e = h.0 ∙ same-forget x s (shows wx wy x y xy yx s c)

    go : (is_done r ≡ true) ⊎ (is_done r ≡ false) → (t : Stream) × StreamRule false Forgets s r t × Related wx wy x' y xy yx t
    go (inl d) =
        let k = forgets wx wy x y xy yx s c (forget_done x.phase (ap is_done (sym h.0) ∙ d)) in
        (k.0, (e, if_so (is_done r) _ _ d k.1), related-is wx wy _ x' y xy yx _ _ (h.1 ∙ rw d) refl k.2)
    go (inr d) = (s, (e, rw d refl), related-is wx wy x x' y xy yx s s (h.1 ∙ rw d) refl c)

-- the one call after which an end may stand for another
abbrev pub forgets_lost : Bool → StreamCall → Bool
forgets_lost true Forgets = true
forgets_lost _ _ = false

-- any other call
pub law-call : (lost : Bool) (call : StreamCall) (r : Reply) (wx wy : ℕ) (x x' y : End) (xy yx : List Part) (s : Stream) → Related wx wy x y xy yx s →
    forgets_lost lost call ≡ false → EndRule lost call x r x' → (t : Stream) × StreamRule lost call s r t × Related wx wy x' y xy yx t
law-call lost (Writes bytes) r wx wy x x' y xy yx s c n h = law-write lost bytes r wx wy x x' y xy yx s c h
law-call lost (Reads max) r wx wy x x' y xy yx s c n h = law-read lost max r wx wy x x' y xy yx s c h
law-call lost Finishes r wx wy x x' y xy yx s c n h = law-finish lost r wx wy x x' y xy yx s c h
law-call lost Resets r wx wy x x' y xy yx s c n h = law-reset lost r wx wy x x' y xy yx s c h
law-call false Forgets r wx wy x x' y xy yx s c n h = law-forget r wx wy x x' y xy yx s c h
law-call true Forgets r wx wy x x' y xy yx s c n h = absurd (cc)
