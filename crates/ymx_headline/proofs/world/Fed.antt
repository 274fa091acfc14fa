-- What is fed leaves whole frames under way, after the rest of a payload.
use Rattle.std.proofs.Common.{◌≡◌, inl, inr, ℕ, suc, ◌+◌, ◌-◌, ◌<◌, ◌≤◌, List, [], ◌∷◌, ◌++◌, length, drop, Bool, true, false, ◌||◌, ◌==◌, nat_lt, if◌then◌else◌, Option, None, Some, refl, sym, ap, ◌∙◌, subst, arith, length-append}
use Rattle.std.specs.List.{All, concat}
use Rattle.std.proofs.Math.Seq.{drop-append_seam}
use Rattle.std.proofs.lemmas.Grind.{common_steps}
use Rattle.std.proofs.lemmas.Bool.Decides.{nat_tests}
use Rattle.std.proofs.lemmas.List.{append_assoc, drop-append-le}
use Rattle.ymx_header.specs.declared.header.Header.{Header}
use Rattle.ymx_header.specs.Headers.{header_of, has_syn, has_rst}
use Rattle.ymx_model.specs.declared.types.Status.{Status}
use Rattle.ymx_model.specs.declared.types.Status.TheVariants.{Running, Lost, Broken, Closed}
use Rattle.ymx_model.specs.declared.types.Response.TheVariants.{Pong, Reject}
use Rattle.ymx_machine.specs.shared.Phases.{is_offered}
use Rattle.ymx_model.specs.session.Records.{End, receive_rst}
use Rattle.ymx_model.specs.session.Pings.{receive_answer}
use Rattle.ymx_machine.specs.shared.Lists.{look, drop_id}
use Rattle.ymx_model.specs.session.Tables.{insert_record, remove_record}
use Rattle.ymx_model.specs.session.Sessions.{Session, Incoming, is_own, is_deaf, is_closed, on_stream, reap}
use Rattle.ymx_model.specs.session.Sessions.Incoming.{Head, Payload}
use Rattle.ymx_model.specs.session.Arrivals.{answers_with, ping_comes, go_away_comes, payload, expects, record_fault, reset_comes, acknowledges, take_head, meets, meets_some, offer, session_refuses, syn_fault, syn_comes, header_fault, head_comes, piece_comes}
use Rattle.ymx_model.specs.session.Feeds.{Takes, byte_comes, byte_in}
use Rattle.ymx_model.specs.world.UnderWay.{IsOneFrame, held_bytes, lacking}
use Rattle.ymx_law_session.specs.Limits.{IsWithin}
use Rattle.ymx_machine.proofs.Tests.{split, agrees}
use Rattle.ymx_law_session.proofs.pieces.Frames.{Awaits, head-awaits}
use Rattle.ymx_law_session.proofs.limits.FramesKeep.{unless_fault-keeps}
use Rattle.ymx_law_session.proofs.limits.FeedsKeep.{header_few, payload_some, byte-keeps}
use Rattle.ymx_header.proofs.Frames.{header_of-append}
use Rattle.ymx_headline.proofs.world.Emitted.{reaped-begun}

-- ---- what comes leaves the frame begun, and a session that runs after it ran before it

abbrev Hears : Session → Session → Type 0
Hears s x = (x.status ≡ Running → s.status ≡ Running) × (x.outgoing ≡ s.outgoing)

expects-hears : (h : Header) (discarded : Bool) (s x : Session) → Hears s x → Hears s (expects h discarded x)
expects-hears h discarded s x p = split (Hears s) (payload h == 0) x (record x { incoming = Payload h.id (payload h) _ discarded }) (λ t. p) (λ f. p)

reset-hears : (id : ℕ) (e : End) (s : Session) → Hears s (reset_comes id e s)
reset-hears id e s =
    split (Hears s) (is_offered e.phase) (record s { table = remove_record id s.table; offered = drop_id id s.offered }) (reap id (on_stream id receive_rst s))
    (λ t. (λ r. r, refl)) (λ f. let b = reaped-begun id (on_stream id receive_rst s) _ refl in (λ r. sym b.1.status ∙ r, b.0))

meets-hears : (h : Header) (e : End) (s : Session) → Hears s (meets h e s)
meets-hears h e s =
    split (Hears s) (has_rst h) _ _
    (λ r. expects-hears h true s (reset_comes h.id e (on_stream h.id (acknowledges (is_own s.role h.id) h) s)) (reset-hears h.id e (on_stream h.id (acknowledges (is_own s.role h.id) h) s)))
    (λ r. expects-hears h false s (on_stream h.id (take_head (is_own s.role h.id) h) s) (λ y. y, refl))

head-hears : (no_memory : Bool) (h : Header) (s : Session) → Hears s (head_comes no_memory h s)
head-hears no_memory h s =
    let P = Hears s in
    unless_fault-keeps P (header_fault h s) s _ (λ f. (λ r. absurd cc, refl)) (λ none.
    split P (h.kind == 2) (ping_comes h s) _ (λ t.
    split P (has_syn h) (answers_with (Pong h.length) s) (record s { pings = receive_answer h.length s.pings }) (λ e. (λ r. r, refl)) (λ e. (λ r. r, refl))) (λ a.
    split P (h.kind == 3) (go_away_comes h s) _ (λ t.
    split P (nat_lt 2 h.length) _ _ (λ e. (λ r. absurd cc, refl)) (λ e. split P (h.length == 1) _ _ (λ e. (λ r. absurd cc, refl)) (λ e. split P (h.length == 2) _ _ (λ e. (λ r. absurd cc, refl)) (λ e. (λ r. r, refl))))) (λ b.
    split P (has_syn h) (syn_comes no_memory h s) (meets_some h (look h.id s.table.entries) s)
    (λ t. unless_fault-keeps P (syn_fault h s) s _ (λ f. (λ r. absurd cc, refl)) (λ n0.
    split P (session_refuses s || no_memory) _ _ (λ e. expects-hears h true s (answers_with (Reject h.id) s) (λ r. r, refl))
    (λ e. meets-hears h (offer s) (record s { table = insert_record h.id (offer s) s.table; offered = s.offered ++ h.id ∷ [] }))))
    (λ t. of (look h.id s.table.entries)))))
  where
    of : (o : Option End) → Hears s (meets_some h o s)
    of None = expects-hears h true s s (λ r. r, refl)
    of (Some e) = unless_fault-keeps (Hears s) (record_fault h e) s (meets h e s) (λ f. (λ r. absurd cc, refl)) (λ n0. meets-hears h e s)

in-hears : (no_memory : Bool) (b : ℕ) (s : Session) (i : Incoming) → Hears s (byte_in no_memory b s i)
in-hears no_memory b s (Head seen) =
    split (Hears s) (length seen == 11) (head_comes no_memory (header_of (seen ++ b ∷ [])) (record s { incoming = Head [] })) (record s { incoming = Head (seen ++ b ∷ []) })
    (λ t. head-hears no_memory (header_of (seen ++ b ∷ [])) (record s { incoming = Head [] })) (λ f. (λ r. r, refl))
in-hears no_memory b s (Payload id n fin true) = (λ r. r, refl)
in-hears no_memory b s (Payload id n fin false) = (λ r. r, refl)

byte-hears : (no_memory : Bool) (b : ℕ) (s : Session) → Hears s (byte_comes no_memory b s)
byte-hears no_memory b s = split (Hears s) (is_deaf s.status) s (byte_in no_memory b s s.incoming) (λ t. (λ r. r, refl)) (λ f. in-hears no_memory b s s.incoming)

-- a session that was closed stays so
deaf-closed : (st : Status) → is_deaf st ≡ false → is_closed st ≡ false
deaf-closed Running e = refl
deaf-closed Lost e = refl
deaf-closed (Broken f) e = refl
deaf-closed Closed e = e

byte-closed : (no_memory : Bool) (b : ℕ) (s : Session) → is_closed (byte_comes no_memory b s).status ≡ false → is_closed s.status ≡ false
byte-closed no_memory b s =
    split (λ x. is_closed x.status ≡ false → is_closed s.status ≡ false) (is_deaf s.status) s (byte_in no_memory b s s.incoming) (λ t c. c) (λ f c. deaf-closed s.status f)

-- so it is of all bytes of a feed
pub record Heard (s t : Session) : Type 0 where
  pub running : t.status ≡ Running → s.status ≡ Running
  pub closed : is_closed t.status ≡ false → is_closed s.status ≡ false
  pub outgoing : t.outgoing ≡ s.outgoing

pub takes-heard : (bytes : List ℕ) (s t : Session) (starved : ℕ) → Takes bytes s t starved → Heard s t
takes-heard [] s t starved p =
    let P : Session → Type 0 = Heard s in subst P (sym p.0) (record { running = λ r. r; closed = λ c. c; outgoing = refl })
takes-heard (b ∷ bytes) s t starved (no_memory, more, free, e, p) =
    let r = takes-heard bytes (byte_comes no_memory b s) t more p in
    let h = byte-hears no_memory b s in
    record { running = λ x. h.0 (r.running x); closed = λ c. byte-closed no_memory b s (r.closed c); outgoing = r.outgoing ∙ h.1 }

-- ---- the bytes of frames

-- After what has come of a frame these bytes follow, which are the rest of its payload and then frames.
pub record Follow (incoming : Incoming) (rest : List ℕ) (frames : List (List ℕ)) : Type 0 where
  pub tail : List ℕ
  pub missing : length tail ≡ lacking incoming
  pub each : All IsOneFrame frames
  pub text : held_bytes incoming ++ rest ≡ tail ++ concat frames

-- so it is of the frames after the first few, whose last bytes have come or are a payload's
pub record Left (incoming : Incoming) (rest : List ℕ) (frames : List (List ℕ)) : Type 0 where
  pub gone : List (List ℕ)
  pub left : List (List ℕ)
  pub sum : frames ≡ gone ++ left
  pub follow : Follow incoming rest left

pub no-tail : (xs : List ℕ) → length xs ≡ 0 → xs ≡ []
no-tail [] e = refl
no-tail (x ∷ xs) e = absurd (omega arith)

pub all-first : (f : List ℕ) (fs : List (List ℕ)) → All IsOneFrame (f ∷ fs) → IsOneFrame f
all-first f fs a = a 0 [] (omega arith)

pub all-rest : (f : List ℕ) (fs : List (List ℕ)) → All IsOneFrame (f ∷ fs) → All IsOneFrame fs
all-rest f fs a = λ k d l. let z = a (suc k) d (omega arith) in z

-- ---- a byte of a payload

payload-left : (more : Bool) (id n : ℕ) (fin discarded : Bool) (b : ℕ) (rest tail : List ℕ) (frames : List (List ℕ)) → nat_lt 1 n ≡ more → 0 < n →
    length tail ≡ n → All IsOneFrame frames → b ∷ rest ≡ tail ++ concat frames → Left (if more then Payload id (n - 1) fin discarded else Head []) rest frames
payload-left more id n fin discarded b rest [] frames m some l a e = absurd (omega arith)
payload-left true id n fin discarded b rest (x ∷ tail) frames m some l a e =
    record { gone = []; left = frames; sum = refl; follow = record { tail = tail; missing = omega arith; each = a; text = cc } }
payload-left false id n fin discarded b rest (x ∷ []) frames m some l a e =
    record { gone = []; left = frames; sum = refl; follow = record { tail = []; missing = refl; each = a; text = cc } }
payload-left false id n fin discarded b rest (x ∷ y ∷ tail) frames m some l a e = absurd (grind (arith, nat_tests))

pub piece-incoming : (b id n : ℕ) (fin discarded : Bool) (s : Session) →
    (piece_comes (b ∷ []) id n fin discarded s).incoming ≡ (if nat_lt 1 n then Payload id (n - 1) fin discarded else Head [])
piece-incoming b id n fin true s = refl
piece-incoming b id n fin false s = refl

-- ---- a byte of a header

pub assoc : (xs : List ℕ) (b : ℕ) (rest : List ℕ) → (xs ++ b ∷ []) ++ rest ≡ xs ++ b ∷ rest
assoc [] b rest = refl
assoc (x ∷ xs) b rest = ap (λ ys. x ∷ ys) (assoc xs b rest)

-- after twelve bytes of a text stands what follows them in its first frame
pub behind : (head rest f more : List ℕ) → length head ≡ 12 → 12 ≤ length f → head ++ rest ≡ f ++ more → rest ≡ drop 12 f ++ more
behind head rest f more l m e =
    let at : drop 12 (head ++ rest) ≡ rest = rw (← l) (drop-append_seam head rest) in
    sym at ∙ ap (drop 12) e ∙ drop-append-le 12 f more m

-- the header that they make is its header
pub same-header : (head rest f more : List ℕ) → length head ≡ 12 → 12 ≤ length f → head ++ rest ≡ f ++ more → header_of f ≡ header_of head
same-header head rest f more l m e =
    sym (header_of-append f more m) ∙ ap header_of (sym e) ∙ header_of-append head rest (omega arith)

pub drop-length : (f : List ℕ) (n : ℕ) → length f ≡ 12 + n → length (drop 12 f) ≡ n
drop-length f n e = grind (arith, common_steps)

whole-left : (h : Header) (s : Session) (head rest f : List ℕ) (fs : List (List ℕ)) → h ≡ header_of head → Awaits h s →
    length head ≡ 12 → All IsOneFrame (f ∷ fs) → head ++ rest ≡ f ++ concat fs → Left s.incoming rest (f ∷ fs)
whole-left h s head rest f fs is awaits l a e =
    let one = all-first f fs a in
    let same : header_of f ≡ h = same-header head rest f (concat fs) l one.header e ∙ sym is in
    let long : length f ≡ 12 + payload h = one.whole ∙ ap (λ x. 12 + payload x) same in
    of awaits (drop-length f (payload h) long) (behind head rest f (concat fs) l one.header e)
  where
    of : Awaits h s → length (drop 12 f) ≡ payload h → rest ≡ drop 12 f ++ concat fs → Left s.incoming rest (f ∷ fs)
    of (inl (none, now)) n t =
        let z = no-tail (drop 12 f) (n ∙ none) in
        rw now (record { gone = f ∷ []; left = fs; sum = refl; follow = record { tail = []; missing = refl; each = all-rest f fs a; text = rw z at t } })
    of (inr (discarded, some, now)) n t =
        rw now (record { gone = f ∷ []; left = fs; sum = refl; follow = record { tail = drop 12 f; missing = n; each = all-rest f fs a; text = t } })

-- the twelfth byte of a header
twelfth : (h : Header) (s : Session) (head rest : List ℕ) (frames : List (List ℕ)) → h ≡ header_of head → Awaits h s → length head ≡ 12 →
    All IsOneFrame frames → head ++ rest ≡ concat frames → Left s.incoming rest frames
twelfth h s head rest [] is awaits l a e = absurd (omega (arith, length-append head rest, ap length e))
twelfth h s head rest (f ∷ fs) is awaits l a e = whole-left h s head rest f fs is awaits l a e

head-left : (no_memory : Bool) (b : ℕ) (seen rest : List ℕ) (frames : List (List ℕ)) (s : Session) → length seen < 12 → All IsOneFrame frames →
    seen ++ b ∷ rest ≡ concat frames → (byte_in no_memory b s (Head seen)).status ≡ Running → Left (byte_in no_memory b s (Head seen)).incoming rest frames
head-left no_memory b seen rest frames s few a e =
    split (λ x. x.status ≡ Running → Left x.incoming rest frames) (length seen == 11) (head_comes no_memory (header_of (seen ++ b ∷ [])) (record s { incoming = Head [] })) (record s { incoming = Head (seen ++ b ∷ []) })
    (λ t r. twelfth (header_of (seen ++ b ∷ [])) (head_comes no_memory (header_of (seen ++ b ∷ [])) (record s { incoming = Head [] })) (seen ++ b ∷ []) rest frames refl (head-awaits no_memory (header_of (seen ++ b ∷ [])) (record s { incoming = Head [] }) refl r)
    (omega (arith, agrees (length seen) 11 t, length-append seen (b ∷ []))) a (assoc seen b rest ∙ e))
    (λ f r. record { gone = []; left = frames; sum = refl; follow = record { tail = []; missing = refl; each = a; text = assoc seen b rest ∙ e } })

-- ---- a byte, and many

in-left : (no_memory : Bool) (b : ℕ) (rest : List ℕ) (frames : List (List ℕ)) (s : Session) (i : Incoming) → s.incoming ≡ i → IsWithin s →
    Follow i (b ∷ rest) frames → (byte_in no_memory b s i).status ≡ Running → Left (byte_in no_memory b s i).incoming rest frames
in-left no_memory b rest frames s (Head seen) inc w u r =
    let z = no-tail u.tail u.missing in
    let e : seen ++ b ∷ rest ≡ concat frames = rw z at u.text in
    head-left no_memory b seen rest frames s (header_few seen s inc w) u.each e r
in-left no_memory b rest frames s (Payload id n fin discarded) inc w u r =
    let l = payload-left (nat_lt 1 n) id n fin discarded b rest u.tail frames refl (payload_some id n fin discarded s inc w) u.missing u.each u.text in
    let P : Incoming → Type 0 = λ i. Left i rest frames in
    subst P (sym (piece-incoming b id n fin discarded s)) l

running-free : (st : Status) → st ≡ Running → is_deaf st ≡ false
running-free st e = rw e refl

byte-left : (no_memory : Bool) (b : ℕ) (rest : List ℕ) (frames : List (List ℕ)) (s : Session) → IsWithin s → Follow s.incoming (b ∷ rest) frames →
    (byte_comes no_memory b s).status ≡ Running → Left (byte_comes no_memory b s).incoming rest frames
byte-left no_memory b rest frames s w u r =
    let free = running-free s.status ((byte-hears no_memory b s).0 r) in
    let same : byte_comes no_memory b s ≡ byte_in no_memory b s s.incoming = rw free refl in
    let P : Session → Type 0 = λ x. Left x.incoming rest frames in
    subst P (sym same) (in-left no_memory b rest frames s s.incoming refl w u (rw same at r))

left-then : (i j : Incoming) (a b : List ℕ) (frames : List (List ℕ)) (l : Left i a frames) → Left j b l.left → Left j b frames
left-then i j a b frames l m =
    record { gone = l.gone ++ m.gone; left = m.left; sum = l.sum ∙ ap (λ xs. l.gone ++ xs) m.sum ∙ sym (append_assoc l.gone m.gone m.left); follow = m.follow }

pub takes-left : (bytes rest : List ℕ) (frames : List (List ℕ)) (s t : Session) (starved : ℕ) → Takes bytes s t starved → IsWithin s → t.status ≡ Running →
    Follow s.incoming (bytes ++ rest) frames → Left t.incoming rest frames
takes-left [] rest frames s t starved p w r u =
    let P : Session → Type 0 = λ x. Left x.incoming rest frames in
    subst P (sym p.0) (record { gone = []; left = frames; sum = refl; follow = u })
takes-left (b ∷ bytes) rest frames s t starved (no_memory, more, free, e, p) w r u =
    let running = (takes-heard bytes (byte_comes no_memory b s) t more p).running r in
    let l = byte-left no_memory b (bytes ++ rest) frames s w u running in
    left-then _ _ (bytes ++ rest) rest frames l (takes-left bytes rest l.left (byte_comes no_memory b s) t more p (byte-keeps no_memory b s free w) r l.follow)
