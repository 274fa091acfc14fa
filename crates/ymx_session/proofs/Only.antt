-- Who is noted anew was touched.
use Rattle.std.proofs.Common.{◌≡◌, ◌⊎◌, ℕ, ◌+◌, ◌≤◌, ◌==◌, nat_eq, nat_lt, List, [], ◌∷◌, ◌++◌, length, take, drop, Bool, true, false, if◌then◌else◌, None, refl, sym, ap, ◌∙◌, subst, inl, inr, append_assoc, append-nil, arith}
use Rattle.std.proofs.lemmas.Grind.{common_steps}
use Rattle.std.proofs.lemmas.Bool.Decides.{nat_tests}
use Rattle.std.proofs.Math.Seq.{take-add}
use Rattle.std.proofs.lemmas.List.Elements.{All-nil, All-push, All-append, All-weaker}
use Rattle.ymx_header.specs.declared.header.Header.{Header}
use Rattle.ymx_header.specs.Headers.{has_syn, header_of}
use Rattle.ymx_header.specs.Frames.{fault_of}
use Rattle.ymx_header.proofs.Frames.{good}
use Rattle.ymx_machine.specs.shared.Limits.{most_records}
use Rattle.ymx_model.specs.session.Sessions.{Session, Incoming}
use Rattle.ymx_model.specs.session.Feeds.{Takes}
use Rattle.ymx_machine.proofs.Tests.{split}
use Rattle.ymx_law_session.proofs.pieces.Chunks.{takes-join}
use Rattle.ymx_session.specs.Arriving.{EndsHeader, GoesIn}
use Rattle.ymx_session.specs.Touched.{Noted, is_noted, note, note_head, is_head_of, is_pong, IsPartOf, Came, FrameCame, NotesOnly}

-- ---- what came among bytes

module _ (head : Header → Bool) (stream : ℕ → Bool) where
  -- came among more
  pub came-front : (bytes more : List ℕ) (s : Session) → Came head stream bytes s → Came head stream (bytes ++ more) s
  came-front bytes more s c = record {
    before = c.before;
    part = c.part;
    behind = c.behind ++ more;
    at = c.at;
    starved = c.starved;
    are =
        ap (λ (x : List ℕ). x ++ more) c.are ∙ append_assoc c.before (c.part ++ c.behind) more
        ∙ ap (λ (x : List ℕ). c.before ++ x) (append_assoc c.part c.behind more);
    reached = c.reached;
    came = c.came;
  }

  -- and among those after others
  pub came-later : (front bytes : List ℕ) (s t : Session) (k : ℕ) → Takes front s t k → Came head stream bytes t → Came head stream (front ++ bytes) s
  came-later front bytes s t k took c = record {
    before = front ++ c.before;
    part = c.part;
    behind = c.behind;
    at = c.at;
    starved = k + c.starved;
    are = ap (λ (x : List ℕ). front ++ x) c.are ∙ sym (append_assoc front c.before (c.part ++ c.behind));
    reached = takes-join front c.before s t c.at k c.starved took c.reached;
    came = c.came;
  }

  pub came-now : (bytes : List ℕ) (s : Session) → IsPartOf head stream s.table.window bytes s.incoming → Came head stream bytes s
  came-now bytes s is = record {
    before = [];
    part = bytes;
    behind = [];
    at = s;
    starved = 0;
    are = sym (append-nil bytes);
    reached = (refl, refl);
    came = is;
  }

  -- the last bytes of a header
  pub header-came : (limit : ℕ) (h : Header) (bytes : List ℕ) (v s : Session) → v ≡ s → limit ≡ v.table.window → EndsHeader limit None h v.incoming bytes →
      head h ≡ true → Came head stream bytes s
  header-came limit h bytes v s e w g t =
      let fault : fault_of v.table.window (header_of (g.seen ++ bytes)) ≡ None =
      subst (λ (n : ℕ). fault_of n (header_of (g.seen ++ bytes)) ≡ None) w (subst (λ (x : Header). fault_of limit x ≡ None) g.header g.judged) in
      let passes : head (header_of (g.seen ++ bytes)) ≡ true = subst (λ (x : Header). head x ≡ true) g.header t in
      subst (λ (x : Session). Came head stream bytes x) e
      (came-now bytes v (subst (λ (i : Incoming). IsPartOf head stream v.table.window bytes i) (sym g.was) (g.whole, fault, passes)))

  -- bytes of a payload
  pub piece-came : (id : ℕ) (end discarded : Bool) (bytes : List ℕ) (v s : Session) (now : Incoming) → v ≡ s → GoesIn id end discarded v.incoming now bytes → discarded ≡ false →
      stream id ≡ true → Came head stream bytes s
  piece-came id end discarded bytes v s now e g kept t =
      subst (λ (x : Session). Came head stream bytes x) e
      (came-now bytes v (subst (λ (i : Incoming). IsPartOf head stream v.table.window bytes i) (sym g.was) (g.some, kept, t)))

-- ---- who is noted

pub only-same : (bytes : List ℕ) (s : Session) (t : Noted) → NotesOnly bytes s t t
only-same bytes s t = record { ids = ([], sym (append-nil t.ids), All-nil (λ id. FrameCame id bytes s)); pongs = λ a. inl a }

pub only-note : (bytes : List ℕ) (s : Session) (id : ℕ) (t : Noted) → FrameCame id bytes s → NotesOnly bytes s t (note id t)
only-note bytes s id t c =
    split (NotesOnly bytes s t) (is_noted id t) t (if nat_lt (length t.ids) most_records then record t { ids = t.ids ++ id ∷ [] } else record t { all = true }) (λ e. only-same bytes s t) (λ e.
    split (NotesOnly bytes s t) (nat_lt (length t.ids) most_records) (record t { ids = t.ids ++ id ∷ [] }) (record t { all = true })
    (λ f. record { ids = (id ∷ [], refl, All-push (λ i. FrameCame i bytes s) [] id (All-nil (λ i. FrameCame i bytes s)) c); pongs = λ a. inl a })
    (λ f. record { ids = ([], sym (append-nil t.ids), All-nil (λ i. FrameCame i bytes s)); pongs = λ a. inl a }))

of-itself : (h : Header) → h.kind ≤ 3 → (h.kind == 2) ≡ false → (h.kind == 3) ≡ false → is_head_of h.id h ≡ true
of-itself h k a b = grind (arith, nat_tests)

pub only-head : (limit : ℕ) (h : Header) (bytes : List ℕ) (v s : Session) (t : Noted) → v ≡ s → limit ≡ v.table.window → EndsHeader limit None h v.incoming bytes →
    NotesOnly bytes s t (note_head h t)
only-head limit h bytes v s t e w g =
    split (NotesOnly bytes s t) (h.kind == 2) (if has_syn h then t else record t { ponged = true }) (if h.kind == 3 then t else note h.id t)
    (λ two. split (NotesOnly bytes s t) (has_syn h) t (record t { ponged = true }) (λ f. only-same bytes s t)
    (λ f. record {
      ids = ([], sym (append-nil t.ids), All-nil (λ i. FrameCame i bytes s));
      pongs = λ a. inr (header-came is_pong (λ id. false) limit h bytes v s e w g (rw (two, f) refl));
    }))
    (λ two. split (NotesOnly bytes s t) (h.kind == 3) t (note h.id t) (λ f. only-same bytes s t)
    (λ f. only-note bytes s h.id t (header-came (is_head_of h.id) (nat_eq h.id) limit h bytes v s e w g (of-itself h (good limit h g.judged).kind two f))))

itself : (id : ℕ) → nat_eq id id ≡ true
itself id = grind (arith, nat_tests)

pub only-piece : (id : ℕ) (end discarded : Bool) (bytes : List ℕ) (v s : Session) (now : Incoming) (t : Noted) → v ≡ s → GoesIn id end discarded v.incoming now bytes → discarded ≡ false →
    NotesOnly bytes s t (note id t)
only-piece id end discarded bytes v s now t e g kept = only-note bytes s id t (piece-came (is_head_of id) (nat_eq id) id end discarded bytes v s now e g kept (itself id))

-- ---- a feed goes on

pub only-on : (front back : List ℕ) (s t : Session) (k : ℕ) (a b c : Noted) → Takes front s t k → NotesOnly front s a b → NotesOnly back t b c → NotesOnly (front ++ back) s a c
only-on front back s t k a b c took x y = record {
  ids = (
    x.ids.0 ++ y.ids.0,
    y.ids.1 ∙ ap (λ (z : List ℕ). z ++ y.ids.0) x.ids.1 ∙ append_assoc a.ids x.ids.0 y.ids.0,
    All-append (λ id. FrameCame id (front ++ back) s) x.ids.0 y.ids.0
        (All-weaker (λ id. FrameCame id front s) (λ id. FrameCame id (front ++ back) s) (λ id. came-front (is_head_of id) (nat_eq id) front back s) x.ids.0 x.ids.2)
        (All-weaker (λ id. FrameCame id back t) (λ id. FrameCame id (front ++ back) s) (λ id. came-later (is_head_of id) (nat_eq id) front back s t k took) y.ids.0 y.ids.2),
  );
  pongs = λ p. of (y.pongs p);
}
  where
    before : (a.ponged ≡ true) ⊎ Came is_pong (λ id. false) front s → (a.ponged ≡ true) ⊎ Came is_pong (λ id. false) (front ++ back) s
    before (inl p) = inl p
    before (inr q) = inr (came-front is_pong (λ id. false) front back s q)

    of : (b.ponged ≡ true) ⊎ Came is_pong (λ id. false) back t → (a.ponged ≡ true) ⊎ Came is_pong (λ id. false) (front ++ back) s
    of (inl p) = before (x.pongs p)
    of (inr q) = inr (came-later is_pong (λ id. false) front back s t k took q)

pub only-step : (f k m : ℕ) (input part : List ℕ) (s t : Session) (a b c : Noted) → part ≡ drop f input → Takes (take f input) s t m → NotesOnly (take f input) s a b →
    NotesOnly (take k part) t b c → NotesOnly (take (f + k) input) s a c
only-step f k m input part s t a b c e took x y =
    let go = only-on (take f input) (take k (drop f input)) s t m a b c took x (subst (λ (z : List ℕ). NotesOnly (take k z) t b c) e y) in
    subst (λ (z : List ℕ). NotesOnly z s a c) (sym (take-add f k input)) go

-- nobody more is noted by what is dropped
pub only-rest : (f : ℕ) (input : List ℕ) (s t : Session) (m : ℕ) (a b : Noted) → f ≤ length input → Takes (take f input) s t m → NotesOnly (take f input) s a b → NotesOnly (take (length input) input) s a b
only-rest f input s t m a b l took x =
    let e : take f input ++ drop f input ≡ take (length input) input = grind (arith, common_steps) in
    subst (λ (z : List ℕ). NotesOnly z s a b) e (only-on (take f input) (drop f input) s t m a b b took x (only-same (drop f input) t b))
