-- A ping that is asked or collected is so in the machine.
use Rattle.std.proofs.Common.{◌≡◌, ◌≢◌, ℕ, ◌+◌, ◌<◌, ◌^◌, ◌%◌, List, [], ◌∷◌, ◌++◌, length, map, Bool, true, false, ◌||◌, ◌==◌, nat_le, nat_lt, Option, None, Some, refl, sym, ap, subst, ◌∙◌, inl, inr}
use Rattle.std.specs.Prelude.{is_some}
use Rattle.std.proofs.lemmas.List.{map-append, length-map}
use Rattle.ymx_model.specs.declared.types.Role.{Role}
use Rattle.ymx_machine.specs.shared.Events.{Call}
use Rattle.ymx_machine.specs.declared.types.Call.TheVariants as call
use Rattle.ymx_machine.specs.shared.Events.{Reply}
use Rattle.ymx_machine.specs.declared.types.Reply.TheVariants.{Pinged, Ponged}
use Rattle.ymx_machine.specs.declared.types.CallFault.TheVariants.{Lost, Closed, PingsPending}
use Rattle.ymx_model.specs.declared.types.Event.TheVariants as event
use Rattle.ymx_model.specs.declared.types.PingStage.TheVariants.{Asked as AskedStage}
use Rattle.ymx_model.specs.session.Parts.{Part}
use Rattle.ymx_model.specs.session.Pings.{Ping, Pings, free_from, is_pending, has_asked, has_back, next_number, ask, collect}
use Rattle.ymx_machine.specs.shared.Limits.{most_pings}
use Rattle.ymx_machine.specs.shared.Lists.{look, without, Distinct}
use Rattle.ymx_model.specs.session.Sessions.{Session, is_lost, is_closed}
use Rattle.ymx_model.specs.session.Calls.{Outcome, outcome, refused, answers}
use Rattle.ymx_model.specs.session.Histories.{CallGives}
use Rattle.ymx_model.specs.session.Histories.CallGives.{Outcome as HasOutcome, NoMemory}
use Rattle.ymx_model.specs.world.Worlds.{World}
use Rattle.ymx_machine.specs.machine.Machines.{Machine, PingPlace}
use Rattle.ymx_machine.specs.machine.Machines.PingPlace.{Asked, There, Back}
use Rattle.ymx_machine.specs.machine.CallRules.{Rule, PingRule, PongedRule, ask_number, free_number, found_back}
use Rattle.ymx_law_session.specs.Limits.{IsWithin, OncePending}
use Rattle.ymx_law_session.specs.Reaped.{IsReaped}
use Rattle.ymx_machine.proofs.Lists.{look-without_same, look-without_other, look-added_same, look-added_other, look-added_there}
use Rattle.ymx_law_session.proofs.limits.HistoriesKeep.{gives-keep}
use Rattle.ymx_law_session.proofs.limits.Pings.{pending-added, number-free}
use Rattle.ymx_law_session.proofs.given_up.ReapedFrames.{gives-reaped}
use Rattle.ymx_machine.proofs.Tests.{same_or_not, agrees, when}
use Rattle.ymx_headline.specs.Agrees.{AgreesAs, IsNumbered, SamePings, Sender, Receiver, Text, PingsUnderWay, sending, hearing, entry_number, number_of, count_in, asks, is_asked_at, is_there_at}
use Rattle.ymx_headline.proofs.relation.Mirrors.{order-call, parity}
use Rattle.ymx_headline.proofs.relation.Sides.{beside-streams}
use Rattle.ymx_headline.proofs.relation.Texts.{same-text, text-changes}
use Rattle.ymx_headline.proofs.calls.Places.{placed, places-distinct, place-asked, asked-back, asked-asked_same, asked-asked_other, free-same, free-fits, collected-numbers, collected-back, collected-back_other, collected-asked, collected-pending}
use Rattle.ymx_headline.proofs.calls.StreamCalls.{so-true, so-false, Called, called-alone, open-rule, closed-rule, refused-at_both}

-- ---- a call that changes the pings alone

-- what it leaves of the other side's answers under way
record Answered (old new : List (ℕ × PingPlace)) : Type 0 where
  means : (n : ℕ) → look n old ≡ Some There → look n new ≡ Some There
  there : (n : ℕ) → is_there_at (look n new) ≡ is_there_at (look n old)

-- and of the pings under way
abbrev StillAsked : Sender → List (List ℕ) → Pings → List (ℕ × PingPlace) → Type 0
StillAsked s frames p places = PingsUnderWay (record s { pings = p; places = places }) frames

asker-text : (s : Sender) (r : Receiver) (bytes : List ℕ) (parts : List (ℕ × Part)) (p : Pings) (places : List (ℕ × PingPlace)) → ((frames : List (List ℕ)) → PingsUnderWay s frames → StillAsked s frames p places) →
    Text s r bytes parts → Text (record s { pings = p; places = places }) r bytes parts
asker-text s r bytes parts p places f t =
    same-text s (record s { pings = p; places = places }) r r bytes parts t refl refl refl (record { once = t.away.once; means = t.away.means; said = t.away.said })
    (f t.frames t.pings) (record { once = t.pongs.once; means = t.pongs.means; there = t.pongs.there })

answerer-text : (s : Sender) (r : Receiver) (bytes : List ℕ) (parts : List (ℕ × Part)) (places : List (ℕ × PingPlace)) → Answered r.places places → Text s r bytes parts → Text s (record r { places = places }) bytes parts
answerer-text s r bytes parts places f t =
    same-text s s r (record r { places = places }) bytes parts t refl refl refl t.away t.pings
    (record { once = t.pongs.once; means = λ n e. f.means n (t.pongs.means n e); there = λ n e. f.there n ∙ t.pongs.there n e })

pings-change : (x y : Role) (w : World) (m : Machine) (h : AgreesAs x y w m) (p : Pings) (next : ℕ) (places : List (ℕ × PingPlace)) → SamePings p next places → Answered m.me.pings places →
    ((frames : List (List ℕ)) → PingsUnderWay (sending w.a m.me) frames → StillAsked (sending w.a m.me) frames p places) →
    IsWithin (record w.a { pings = p }) → IsReaped (record w.a { pings = p }) → IsNumbered (record m { me = record m.me { next_ping = next; pings = places } }) →
    AgreesAs x y (record w { a = record w.a { pings = p } }) (record m { me = record m.me { next_ping = next; pings = places } })
pings-change x y w m h p next places same answered still within reaped order = record {
  roles = h.roles;
  streams = h.streams;
  refines = h.refines;
  a = beside-streams h.a p next places w.a.away.here m.me.away w.a.outgoing same h.a.away within reaped;
  b = h.b;
  ab = text-changes (sending w.a m.me) _ (hearing w.b m.you) w.ab h.streams.ab h.streams.ab _ _ (asker-text (sending w.a m.me) (hearing w.b m.you) w.ab.bytes h.streams.ab p places still) h.ab;
  ba = record {
    machine = h.ba.machine;
    streams = h.ba.streams;
    text = λ on. answerer-text (sending w.b m.you) (hearing w.a m.me) w.ba.bytes h.streams.ba places answered (h.ba.text on);
  };
  order = order;
}

-- ---- a ping is asked

none-there : (places : List (ℕ × PingPlace)) (ps : List Ping) (k : ℕ) → map entry_number places ≡ map number_of ps → is_pending k ps ≡ false → look k places ≡ None
none-there places ps k e f = of (look k places) (placed places ps e k ∙ f)
  where
    of : (o : Option PingPlace) → is_some o ≡ false → o ≡ None
    of None z = refl
    of (Some q) z = absurd cc

not-counted : (c : ℕ) → (nat_lt 0 c ≡ true → ⊥) → nat_lt 0 c ≡ false
not-counted c h = of (nat_lt 0 c) refl
  where
    of : (b : Bool) → nat_lt 0 c ≡ b → nat_lt 0 c ≡ false
    of true e = absurd (h e)
    of false e = e

ping-same : (p : Pings) (next k : ℕ) (places : List (ℕ × PingPlace)) → p.next < 2 ^ 32 → k ≡ next_number p → SamePings p next places → SamePings (ask p) ((k + 1) % 2 ^ 32) (places ++ (k, Asked) ∷ [])
ping-same p next k places small e h = record {
  next = ap (λ n. (n + 1) % 2 ^ 32) e;
  numbers = map-append entry_number places ((k, Asked) ∷ []) ∙ (ap (λ xs. xs ++ k ∷ []) h.numbers ∙ (ap (λ n. map number_of p.pending ++ n ∷ []) e ∙ sym (map-append number_of p.pending (record { number = next_number p; stage = AskedStage } ∷ []))));
  back = λ n. place-asked found_back k Asked n places refl ∙ (h.back n ∙ sym (asked-back (next_number p) n p.pending));
  fits = λ n t. fits n (is_pending n p.pending) refl (sym (pending-added (next_number p) n AskedStage p.pending) ∙ t);
}
  where
    fits : (n : ℕ) (b : Bool) → is_pending n p.pending ≡ b → (is_pending n p.pending || next_number p == n) ≡ true → n < 2 ^ 32
    fits n true q t = h.fits n q
    fits n false q t =
        let z : (next_number p == n) ≡ true = rw q at t in
        subst (λ z. z < 2 ^ 32) (agrees (next_number p) n z) (free-fits 17 p.next p.pending small)

ping-answered : (k : ℕ) (places : List (ℕ × PingPlace)) → Answered places (places ++ (k, Asked) ∷ [])
ping-answered k places = record { means = λ n e. look-added_there k n Asked There places e; there = λ n. place-asked is_there_at k Asked n places refl }

ping-still : (s : Sender) (k : ℕ) (frames : List (List ℕ)) → k ≡ next_number s.pings → is_pending k s.pings.pending ≡ false → look k s.places ≡ None → PingsUnderWay s frames → StillAsked s frames (ask s.pings) (s.places ++ (k, Asked) ∷ [])
ping-still s k frames e free none h =
    let none_way : nat_lt 0 (count_in (asks k) frames) ≡ false = not-counted (count_in (asks k) frames) (λ t. let no : None ≡ Some Asked = sym none ∙ (h.means k t).0 in absurd cc) in
    let same : (n : ℕ) → n ≢ k → has_asked n (ask s.pings).pending ≡ has_asked n s.pings.pending = λ n d. asked-asked_other (next_number s.pings) n s.pings.pending (λ q. d (q ∙ sym e)) in
    record {
      once = h.once;
      means = λ n t. elim (same_or_not n k) [
        | inl q ↦ (let no : false ≡ true = sym none_way ∙ (ap (λ z. nat_lt 0 (count_in (asks z) frames)) (sym q) ∙ t) in absurd cc)
        | inr d ↦ (look-added_other k n Asked s.places d ∙ (h.means n t).0, same n d ∙ (h.means n t).1)
      ];
      asked = λ n r. elim (same_or_not n k) [
        | inl q ↦ (let due : has_asked k (ask s.pings).pending ≡ true = rw e (asked-asked_same (next_number s.pings) s.pings.pending (subst (λ z. is_pending z s.pings.pending ≡ false) e free)) in
            rw q (ap is_asked_at (look-added_same k Asked s.places none) ∙ sym (rw due refl)))
        | inr d ↦ ap is_asked_at (look-added_other k n Asked s.places d) ∙ (h.asked n r ∙ ap (λ b. b || nat_lt 0 (count_in (asks n) frames)) (sym (same n d)))
      ];
    }

ping-agrees : (x y : Role) (w : World) (m : Machine) (h : AgreesAs x y w m) (k : ℕ) → k ≡ next_number w.a.pings → IsWithin (record w.a { pings = ask w.a.pings }) → IsReaped (record w.a { pings = ask w.a.pings }) →
    IsNumbered (record m { me = ask_number k m.me }) → AgreesAs x y (record w { a = record w.a { pings = ask w.a.pings } }) (record m { me = ask_number k m.me })
ping-agrees x y w m h k e within reaped order =
    let free : is_pending k w.a.pings.pending ≡ false = rw e (number-free w.a.pings h.a.within.pings.count h.a.within.pings) in
    let none = none-there m.me.pings w.a.pings.pending k h.a.pings.numbers free in
    pings-change x y w m h (ask w.a.pings) ((k + 1) % 2 ^ 32) (m.me.pings ++ (k, Asked) ∷ [])
    (ping-same w.a.pings m.me.next_ping k m.me.pings h.a.within.pings.next e h.a.pings) (ping-answered k m.me.pings) (λ frames u. ping-still (sending w.a m.me) k frames e free none u)
    within reaped order

same-length : (places : List (ℕ × PingPlace)) (ps : List Ping) → map entry_number places ≡ map number_of ps → length places ≡ length ps
same-length places ps e = sym (length-map places entry_number) ∙ (ap length e ∙ length-map ps number_of)

pub refused-is : (x y : Role) (c : Call) (w : World) (m : Machine) (h : AgreesAs x y w m) (s : Session) (reply : Reply) (o : Outcome) → CallGives w.a c reply s → outcome c w.a ≡ o → o.next ≡ w.a → reply ≡ (outcome c w.a).reply → s ≡ (outcome c w.a).next → Rule c m o.reply m → Called x y c reply w s m
refused-is x y c w m h s reply o gives e n answer state rule =
    refused-at_both x y c reply w s m (state ∙ (ap (λ (z : Outcome). z.next) e ∙ n)) (subst (λ r. Rule c m r m) (sym (answer ∙ ap (λ (z : Outcome). z.reply) e)) rule) h

pub ping-called : (x y : Role) (w : World) (m : Machine) (h : AgreesAs x y w m) (s : Session) (reply : Reply) → CallGives w.a call.Ping reply s → Called x y call.Ping reply w s m
ping-called x y w m h s reply (NoMemory needs answer state) = absurd cc
ping-called x y w m h s reply (HasOutcome answer state) = elim (when (is_closed w.a.status)) [
  | inl t ↦ refused-is x y call.Ping w m h s reply (refused Closed w.a) gives (rw t refl) refl answer state (closed-rule call.Ping m m _ (h.a.whole.closed ∙ t) refl (refl, refl))
  | inr f ↦ elim (when (is_lost w.a.status)) [
    | inl t ↦ refused-is x y call.Ping w m h s reply (refused Lost w.a) gives (rw (f, t) refl) refl answer state (rule-of f m _ (so-true m.me.lost _ _ (h.a.whole.lost f ∙ t) (refl, refl)))
    | inr l ↦ elim (when (nat_le most_pings (length w.a.pings.pending))) [
      | inl t ↦ refused-is x y call.Ping w m h s reply (refused PingsPending w.a) gives (rw (f, l, t) refl) refl answer state
          (rule-of f m _ (so-false m.me.lost _ _ (h.a.whole.lost f ∙ l) (so-true (nat_le 16 (length m.me.pings)) _ _ (ap (nat_le 16) lengths ∙ t) (refl, refl))))
      | inr q ↦ asks-one f l q (rw (f, l, q) refl)
    ]
  ]
]
  where
    gives : CallGives w.a call.Ping reply s
    gives = HasOutcome answer state

    lengths : length m.me.pings ≡ length w.a.pings.pending
    lengths = same-length m.me.pings w.a.pings.pending h.a.pings.numbers

    rule-of : is_closed w.a.status ≡ false → (n : Machine) (r : Reply) → PingRule m r n → Rule call.Ping m r n
    rule-of f n r p = open-rule call.Ping m n r (h.a.whole.closed ∙ f) p

    asks-one : is_closed w.a.status ≡ false → is_lost w.a.status ≡ false → nat_le most_pings (length w.a.pings.pending) ≡ false →
        outcome call.Ping w.a ≡ answers (Pinged (next_number w.a.pings)) (record w.a { pings = ask w.a.pings }) → Called x y call.Ping reply w s m
    asks-one f l q e =
        let k = free_number 17 m.me.next_ping m.me.pings in
        let same : k ≡ next_number w.a.pings = free-same 17 m.me.next_ping m.me.pings w.a.pings.pending h.a.pings.numbers ∙ ap (λ n. free_from 17 n w.a.pings.pending) h.a.pings.next in
        let now : Machine = record m { me = ask_number k m.me } in
        let told : reply ≡ Pinged k = answer ∙ (ap (λ (z : Outcome). z.reply) e ∙ ap (λ n. Pinged n) (sym same)) in
        let next : s ≡ record w.a { pings = ask w.a.pings } = state ∙ ap (λ (z : Outcome). z.next) e in
        let rule = rule-of f now reply (so-false m.me.lost _ _ (h.a.whole.lost f ∙ l) (so-false (nat_le 16 (length m.me.pings)) _ _ (ap (nat_le 16) lengths ∙ q) (told, refl))) in
        called-alone x y call.Ping reply w s m _ now next rule
        (ping-agrees x y w m h k same
        (subst IsWithin next (gives-keep (λ b z. true) w.a s (event.Call call.Ping) reply gives h.a.within))
        (subst IsReaped next (gives-reaped (λ b z. true) w.a s (event.Call call.Ping) reply gives h.a.within h.a.reaped))
        (order-call call.Ping m now now reply [] (parity x y w m h) rule refl h.order))

-- ---- a ping is collected

is-back : (o : Option PingPlace) → found_back o ≡ true → o ≡ Some Back
is-back None e = absurd cc
is-back (Some Asked) e = absurd cc
is-back (Some There) e = absurd cc
is-back (Some Back) e = refl

collected-same : (p : Pings) (next k : ℕ) (places : List (ℕ × PingPlace)) → OncePending p.pending → SamePings p next places → SamePings (collect k p) next (without k places)
collected-same p next k places once h = record {
  next = h.next;
  numbers = collected-numbers k places p.pending h.numbers;
  back = λ n. elim (same_or_not n k) [
    | inl q ↦ rw q (ap found_back (look-without_same k places (places-distinct places p.pending h.numbers once)) ∙ sym (collected-back k p.pending once))
    | inr d ↦ ap found_back (look-without_other k n places d) ∙ (h.back n ∙ sym (collected-back_other k n p.pending d))
  ];
  fits = λ n t. h.fits n (collected-pending k n p.pending t);
}

-- where the answer was back, no other place changes its meaning
abbrev Tells : (Option PingPlace → Bool) → Type 0
Tells test = test None ≡ test (Some Back)

collected-tells : (test : Option PingPlace → Bool) (k n : ℕ) (places : List (ℕ × PingPlace)) → Tells test → Distinct places → look k places ≡ Some Back → test (look n (without k places)) ≡ test (look n places)
collected-tells test k n places e d b = elim (same_or_not n k) [
  | inl q ↦ rw q (ap test (look-without_same k places d) ∙ (e ∙ ap test (sym b)))
  | inr o ↦ ap test (look-without_other k n places o)
]

collected-keeps : (k n : ℕ) (z : PingPlace) (places : List (ℕ × PingPlace)) → (Some z ≡ Some Back → ⊥) → look k places ≡ Some Back → look n places ≡ Some z → look n (without k places) ≡ Some z
collected-keeps k n z places unlike b e = elim (same_or_not n k) [
  | inl q ↦ absurd (unlike (sym e ∙ (ap (λ i. look i places) q ∙ b)))
  | inr o ↦ look-without_other k n places o ∙ e
]

collected-answered : (k : ℕ) (places : List (ℕ × PingPlace)) → Distinct places → look k places ≡ Some Back → Answered places (without k places)
collected-answered k places d b = record { means = λ n e. collected-keeps k n There places (λ q. absurd cc) b e; there = λ n. collected-tells is_there_at k n places refl d b }

collected-still : (s : Sender) (k : ℕ) (frames : List (List ℕ)) → OncePending s.pings.pending → has_back k s.pings.pending ≡ true → Distinct s.places → look k s.places ≡ Some Back → PingsUnderWay s frames →
    StillAsked s frames (collect k s.pings) (without k s.places)
collected-still s k frames once back d b h = record {
  once = h.once;
  means = λ n t. (collected-keeps k n Asked s.places (λ q. absurd cc) b (h.means n t).0, collected-asked k n s.pings.pending once back ∙ (h.means n t).1);
  asked = λ n r. collected-tells is_asked_at k n s.places refl d b ∙ (h.asked n r ∙ ap (λ z. z || nat_lt 0 (count_in (asks n) frames)) (sym (collected-asked k n s.pings.pending once back)));
}

pub ponged-called : (k : ℕ) (x y : Role) (w : World) (m : Machine) (h : AgreesAs x y w m) (s : Session) (reply : Reply) → CallGives w.a (call.Ponged k) reply s → Called x y (call.Ponged k) reply w s m
ponged-called k x y w m h s reply (NoMemory needs answer state) = absurd cc
ponged-called k x y w m h s reply (HasOutcome answer state) = elim (when (is_closed w.a.status)) [
  | inl t ↦ refused-is x y (call.Ponged k) w m h s reply (refused Closed w.a) gives (rw t refl) refl answer state (closed-rule (call.Ponged k) m m _ (h.a.whole.closed ∙ t) refl (refl, refl))
  | inr f ↦ elim (when (has_back k w.a.pings.pending)) [
    | inl b ↦ collects f b (rw (f, b) refl)
    | inr b ↦ elim (when (is_lost w.a.status)) [
      | inl t ↦ refused-is x y (call.Ponged k) w m h s reply (refused Lost w.a) gives (rw (f, b, t) refl) refl answer state
          (rule-of f m _ (so-false (found_back (look k m.me.pings)) _ _ (h.a.pings.back k ∙ b) (so-true m.me.lost _ _ (h.a.whole.lost f ∙ t) (refl, refl))))
      | inr t ↦ refused-is x y (call.Ponged k) w m h s reply (answers (Ponged false) w.a) gives (rw (f, b, t) refl) refl answer state
          (rule-of f m _ (so-false (found_back (look k m.me.pings)) _ _ (h.a.pings.back k ∙ b) (so-false m.me.lost _ _ (h.a.whole.lost f ∙ t) (refl, refl))))
    ]
  ]
]
  where
    gives : CallGives w.a (call.Ponged k) reply s
    gives = HasOutcome answer state

    rule-of : is_closed w.a.status ≡ false → (n : Machine) (r : Reply) → PongedRule k m r n → Rule (call.Ponged k) m r n
    rule-of f n r p = open-rule (call.Ponged k) m n r (h.a.whole.closed ∙ f) p

    collects : is_closed w.a.status ≡ false → has_back k w.a.pings.pending ≡ true → outcome (call.Ponged k) w.a ≡ answers (Ponged true) (record w.a { pings = collect k w.a.pings }) → Called x y (call.Ponged k) reply w s m
    collects f b e =
        let now : Machine = record m { me = record m.me { pings = without k m.me.pings } } in
        let told : reply ≡ Ponged true = answer ∙ ap (λ (z : Outcome). z.reply) e in
        let next : s ≡ record w.a { pings = collect k w.a.pings } = state ∙ ap (λ (z : Outcome). z.next) e in
        let at : found_back (look k m.me.pings) ≡ true = h.a.pings.back k ∙ b in
        let rule = rule-of f now reply (so-true (found_back (look k m.me.pings)) _ _ at (told, refl)) in
        let once = h.a.within.pings.once in
        let d = places-distinct m.me.pings w.a.pings.pending h.a.pings.numbers once in
        let there = is-back (look k m.me.pings) at in
        called-alone x y (call.Ponged k) reply w s m _ now next rule
        (pings-change x y w m h (collect k w.a.pings) m.me.next_ping (without k m.me.pings)
        (collected-same w.a.pings m.me.next_ping k m.me.pings once h.a.pings) (collected-answered k m.me.pings d there)
        (λ frames u. collected-still (sending w.a m.me) k frames once b d there u)
        (subst IsWithin next (gives-keep (λ b z. true) w.a s (event.Call (call.Ponged k)) reply gives h.a.within))
        (subst IsReaped next (gives-reaped (λ b z. true) w.a s (event.Call (call.Ponged k)) reply gives h.a.within h.a.reaped))
        (order-call (call.Ponged k) m now now reply [] (parity x y w m h) rule refl h.order))
