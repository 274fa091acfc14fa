-- A delivery is moves of the machine, byte after byte, and finds no fault.
use Rattle.std.proofs.Common.{◌≡◌, ℕ, ◌<◌, ◌≤◌, List, [], ◌∷◌, ◌++◌, length, take, drop, Bool, true, false, not, ◌&&◌, ◌==◌, Option, None, Some, refl, sym, ap, subst, ◌∙◌, inl, inr, arith}
use Rattle.std.proofs.lemmas.Grind.{common_steps}
use Rattle.std.proofs.lemmas.List.{take-take}
use Rattle.ymx_header.specs.declared.header.Header.{Header}
use Rattle.ymx_header.specs.Headers.{header_of, has_syn, has_rst}
use Rattle.ymx_model.specs.declared.types.Role.{Role}
use Rattle.ymx_machine.specs.declared.types.Direction.{Direction}
use Rattle.ymx_machine.specs.declared.types.Step.TheVariants as step
use Rattle.ymx_machine.specs.declared.types.Answer.{Answer}
use Rattle.ymx_model.specs.declared.types.Status.{Status}
use Rattle.ymx_model.specs.declared.types.Status.TheVariants.{Running, Lost, Broken, Closed}
use Rattle.ymx_machine.specs.declared.types.Fed.{Fed}
use Rattle.ymx_model.specs.session.Records.{End}
use Rattle.ymx_machine.specs.shared.Lists.{look}
use Rattle.ymx_model.specs.session.Sessions.{Session, Incoming, is_deaf, is_running, is_broken}
use Rattle.ymx_model.specs.session.Sessions.Incoming.{Head, Payload}
use Rattle.ymx_model.specs.session.Feeds.{Takes, Feeds, is_stuck, byte_comes, starves, why_of}
use Rattle.ymx_model.specs.session.Emissions.{Choice}
use Rattle.ymx_model.specs.world.Worlds.{World, Steps, fed_count, without_front, mirror_world as world_mirror}
use Rattle.ymx_machine.specs.shared.Steps.{answer_of}
use Rattle.ymx_machine.specs.machine.Machines.{Machine, mirror_machine}
use Rattle.ymx_machine.specs.machine.Runs.{why_is_broken as is_broken_why}
use Rattle.ymx_machine.specs.machine.FreeMoves.{FreeMoves}
use Rattle.ymx_machine.proofs.Tests.{differs, agrees, when}
use Rattle.ymx_law_session.proofs.limits.FeedsKeep.{payload_some}
use Rattle.ymx_headline.specs.Agrees.{Agrees, AgreesAs, Follows}
use Rattle.ymx_headline.proofs.relation.Mirrors.{mirrors-agree}
use Rattle.ymx_headline.proofs.runs.Steps.{AtA, at-either, mirror-back}
use Rattle.ymx_headline.proofs.deliveries.DeliverMoves.{moves-join}
use Rattle.ymx_headline.proofs.deliveries.DeliverBytes.{Delivered, delivered-is, Taking, taking, no-stop, header-byte, discarded-byte, payload-byte}
use Rattle.ymx_headline.proofs.deliveries.DeliverStreams.{TakingHead, taking-head, no-record, at-record, not-starved, no-syn_starves}
use Rattle.ymx_headline.proofs.deliveries.DeliverResets.{reset-arrives}
use Rattle.ymx_headline.proofs.deliveries.DeliverSyns.{syn-arrives}
use Rattle.ymx_headline.proofs.deliveries.DeliverSession.{go-away-arrives}
use Rattle.ymx_headline.proofs.deliveries.DeliverPings.{ping-arrives, reply-arrives}

-- ---- a side that is lost or closed drops what comes

deaf-starves : (no_memory : Bool) (b : ℕ) (s : Session) (i : Incoming) → is_deaf s.status ≡ true → starves no_memory b s i ≡ 0
deaf-starves no_memory b s (Head seen) d = rw (d, and-none) refl
  where
    and-none : (p q r : Bool) → (p && not true && q && r) ≡ false
    and-none true q r = refl
    and-none false q r = refl
deaf-starves no_memory b s (Payload id n fin discarded) d = refl

deaf-byte : (x y : Role) (no_memory : Bool) (b : ℕ) (rest : List ℕ) (w : World) (m : Machine) (h : AgreesAs x y w m) → w.ba.bytes ≡ b ∷ rest → is_deaf w.a.status ≡ true → is_running w.a.status ≡ false →
    Delivered x y (byte_comes no_memory b w.a) rest w m (starves no_memory b w.a w.a.incoming)
deaf-byte x y no_memory b rest w m h e deaf still =
    let not_stopped = no-stop w.ba b rest h.ba.streams.empty e in
    let is : byte_comes no_memory b w.a ≡ w.a = rw deaf refl in
    delivered-is x y (byte_comes no_memory b w.a) w.a rest w m _ 0 is (deaf-starves no_memory b w.a w.a.incoming deaf) (record {
      now = m;
      moves = [];
      did = (refl, refl);
      agrees = record { roles = h.roles; streams = h.streams; refines = h.refines; a = h.a; b = h.b; ab = h.ab; ba = record { machine = h.ba.machine; streams = record { same = h.ba.streams.same; empty = λ t. (let no : true ≡ false = sym t ∙ not_stopped in absurd cc) }; text = λ on. (let no : false ≡ true = rw (not_stopped, still) at on in absurd cc) }; order = h.order };
    })

-- ---- the last byte of a header

low-kind : (h : Header) → h.kind ≤ 3 → (h.kind == 2) ≡ false → (h.kind == 3) ≡ false → h.kind < 2
low-kind h k a b = let p = differs h.kind 2 a in let q = differs h.kind 3 b in omega (arith, k, p, q)

stream-byte : (x y : Role) (no_memory : Bool) (b : ℕ) (seen rest : List ℕ) (w : World) (m : Machine) (h : AgreesAs x y w m) → TakingHead x y no_memory b seen rest w m h → (header_of (seen ++ b ∷ [])).kind < 2 →
    Delivered x y (byte_comes no_memory b w.a) rest w m (starves no_memory b w.a w.a.incoming)
stream-byte x y no_memory b seen rest w m h k kind =
    let hd = header_of (seen ++ b ∷ []) in
    elim (when (has_rst hd)) [
      | inl rst ↦ reset-arrives x y no_memory b seen rest w m h k kind rst
      | inr rst ↦ elim (when (has_syn hd)) [
        | inl syn ↦ syn-arrives x y no_memory b seen rest w m h k kind syn
        | inr syn ↦ subst (λ n. Delivered x y (byte_comes no_memory b w.a) rest w m n) (sym (not-starved no_memory b seen w.a k.inc (no-syn_starves hd w.a syn))) (of rst syn (look hd.id w.a.table.entries) refl)
      ]
    ]
  where
    of : has_rst (header_of (seen ++ b ∷ [])) ≡ false → has_syn (header_of (seen ++ b ∷ [])) ≡ false → (o : Option End) → look (header_of (seen ++ b ∷ [])).id w.a.table.entries ≡ o → Delivered x y (byte_comes no_memory b w.a) rest w m 0
    of rst syn None l = no-record x y no_memory b seen rest w m h k kind syn rst l
    of rst syn (Some e) l = at-record x y no_memory b seen rest w m h k e kind syn rst l

last-byte : (x y : Role) (no_memory : Bool) (b : ℕ) (seen rest : List ℕ) (w : World) (m : Machine) (h : AgreesAs x y w m) → TakingHead x y no_memory b seen rest w m h → Delivered x y (byte_comes no_memory b w.a) rest w m (starves no_memory b w.a w.a.incoming)
last-byte x y no_memory b seen rest w m h k =
    let hd = header_of (seen ++ b ∷ []) in
    let known : hd.kind ≤ 3 = subst (λ (z : Header). z.kind ≤ 3) k.first.header k.first.one.kind in
    elim (when (hd.kind == 2)) [
      | inl two ↦ elim (when (has_syn hd)) [
        | inl syn ↦ ping-arrives x y no_memory b seen rest w m h k (agrees hd.kind 2 two) syn
        | inr syn ↦ reply-arrives x y no_memory b seen rest w m h k (agrees hd.kind 2 two) syn
      ]
      | inr two ↦ elim (when (hd.kind == 3)) [
        | inl three ↦ go-away-arrives x y no_memory b seen rest w m h k (agrees hd.kind 3 three)
        | inr three ↦ stream-byte x y no_memory b seen rest w m h k (low-kind hd known two three)
      ]
    ]

-- ---- any byte

running-byte : (x y : Role) (no_memory : Bool) (b : ℕ) (rest : List ℕ) (w : World) (m : Machine) (h : AgreesAs x y w m) → Taking x y no_memory b rest w m h → (i : Incoming) → w.a.incoming ≡ i →
    Delivered x y (byte_comes no_memory b w.a) rest w m (starves no_memory b w.a w.a.incoming)
running-byte x y no_memory b rest w m h k (Head seen) e = elim (when (length seen == 11)) [
  | inl t ↦ last-byte x y no_memory b seen rest w m h (taking-head x y no_memory b seen rest w m h k e t)
  | inr f ↦ header-byte x y no_memory b rest seen w m h k e f
]
running-byte x y no_memory b rest w m h k (Payload id n fin true) e =
    let none : starves no_memory b w.a w.a.incoming ≡ 0 = rw e refl in
    subst (λ c. Delivered x y (byte_comes no_memory b w.a) rest w m c) (sym none) (discarded-byte x y no_memory b rest id n fin w m h k e (payload_some id n fin true w.a e h.a.within))
running-byte x y no_memory b rest w m h k (Payload id n fin false) e =
    let none : starves no_memory b w.a w.a.incoming ≡ 0 = rw e refl in
    subst (λ c. Delivered x y (byte_comes no_memory b w.a) rest w m c) (sym none) (payload-byte x y no_memory b rest id n fin w m h k e (payload_some id n fin false w.a e h.a.within))

pub one-byte : (x y : Role) (no_memory : Bool) (b : ℕ) (rest : List ℕ) (w : World) (m : Machine) (h : AgreesAs x y w m) → w.ba.bytes ≡ b ∷ rest → is_stuck w.a ≡ false → Delivered x y (byte_comes no_memory b w.a) rest w m (starves no_memory b w.a w.a.incoming)
one-byte x y no_memory b rest w m h e free = of w.a.status refl
  where
    of : (st : Status) → w.a.status ≡ st → Delivered x y (byte_comes no_memory b w.a) rest w m (starves no_memory b w.a w.a.incoming)
    of Running s = running-byte x y no_memory b rest w m h (taking x y no_memory b rest w m h e free s) w.a.incoming refl
    of Lost s = deaf-byte x y no_memory b rest w m h e (ap is_deaf s) (ap is_running s)
    of (Broken f) s = let no : true ≡ false = sym (ap is_broken s) ∙ h.a.whole.sound in absurd cc
    of Closed s = deaf-byte x y no_memory b rest w m h e (ap is_deaf s) (ap is_running s)

-- ---- many

pub bytes-agree : (bytes rest : List ℕ) (x y : Role) (w : World) (m : Machine) (h : AgreesAs x y w m) (t : Session) (starved : ℕ) → w.ba.bytes ≡ bytes ++ rest → Takes bytes w.a t starved → Delivered x y t rest w m starved
bytes-agree [] rest x y w m h t starved e p =
    let P : List ℕ → Type 0 = λ bs. AgreesAs x y (record w { ba = record w.ba { bytes = bs } }) m in
    delivered-is x y t w.a rest w m starved 0 p.0 p.1 (record { now = m; moves = []; did = (refl, refl); agrees = subst P e h })
bytes-agree (b ∷ bytes) rest x y w m h t starved e (no_memory, more, free, sum, p) =
    let one = one-byte x y no_memory b (bytes ++ rest) w m h e free in
    let s = byte_comes no_memory b w.a in
    let next = bytes-agree bytes rest x y (record w { a = s; ba = record w.ba { bytes = bytes ++ rest } }) one.now one.agrees t more refl p in
    record {
      now = next.now;
      moves = one.moves ++ next.moves;
      did = subst (λ c. FreeMoves (one.moves ++ next.moves) m c next.now) (sym sum) (moves-join one.moves next.moves m one.now next.now (starves no_memory b w.a w.a.incoming) more one.did next.did);
      agrees = next.agrees;
    }

-- ---- the step

taken-first : (k : ℕ) (xs : List ℕ) → xs ≡ take k xs ++ drop k xs
taken-first k xs = grind (arith, common_steps)

all-taken : (k n : ℕ) (xs : List ℕ) → k ≤ length (take n xs) → take k (take n xs) ≡ take k xs
all-taken k n xs l = let fits : k ≤ n = grind (arith, common_steps) in take-take k n xs fits

not-broken : (st : Status) (all : Bool) → is_broken st ≡ false → is_broken_why (why_of st all) ≡ false
not-broken Running true e = refl
not-broken Running false e = refl
not-broken Lost all e = refl
not-broken (Broken f) all e = cc
not-broken Closed all e = refl

pub deliver-step : (may : Choice → Session → Bool) (d : Direction) (n : ℕ) (given : Answer) → AtA may (step.Deliver d n) given
deliver-step may d n given x y w v m s h =
    let fed : Fed = s.2.0 in
    let feeds : Feeds w.b (take n w.ab.bytes) fed s.1 = s.2.2 in
    let rest : List ℕ = drop fed.taken w.ab.bytes in
    let first : List ℕ = take fed.taken (take n w.ab.bytes) in
    let bytes : w.ab.bytes ≡ first ++ rest = taken-first fed.taken w.ab.bytes ∙ ap (λ xs. xs ++ rest) (sym (all-taken fed.taken n w.ab.bytes feeds.fits)) in
    let k = bytes-agree first rest y x (world_mirror w) (mirror_machine m) (mirrors-agree x y w m h) s.1 feeds.took.0 bytes feeds.took.1 in
    let now : Machine = mirror_machine k.now in
    let whole : v ≡ record w { b = s.1; ab = record w.ab { bytes = rest } } = s.4 ∙ ap (λ r. record w { b = s.1; ab = without_front (fed_count r) w.ab }) s.2.1 in
    let why : is_broken_why fed.why ≡ false = ap is_broken_why feeds.why ∙ not-broken s.1.status (fed.taken == length (take n w.ab.bytes)) k.agrees.a.whole.sound in (
      now,
      (fed, k.moves, feeds.took.0, s.3 ∙ ap answer_of s.2.1, why, feeds.took.2, subst (FreeMoves k.moves (mirror_machine m) feeds.took.0) (sym (mirror-back k.now)) k.did),
      subst (λ u. AgreesAs x y u now) (sym whole) (mirrors-agree y x (record (world_mirror w) { a = s.1; ba = record w.ab { bytes = rest } }) k.now k.agrees),
    )

pub delivers : (may : Choice → Session → Bool) (d : Direction) (n : ℕ) (given : Answer) (w v : World) (m : Machine) → Steps may (step.Deliver d n) given w v → Agrees w m → Follows (step.Deliver d n) given v m
delivers may d n given w v m s h = at-either may (step.Deliver d n) given w v m (deliver-step may d n given) s h
