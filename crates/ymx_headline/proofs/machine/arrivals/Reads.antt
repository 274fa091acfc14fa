-- What a read and an accept answer where all is at rest.
use Rattle.std.proofs.Common.{◌≡◌, ◌⊎◌, inl, inr, ℕ, List, [], ◌∷◌, ◌++◌, length, drop, Bool, true, false, ◌&&◌, Option, None, Some, refl, sym, ◌∙◌, ap, subst, append-nil, arith}
use Rattle.std.proofs.lemmas.Bool.Decides.{nat_tests}
use Rattle.ymx_machine.specs.declared.types.Side.{Side}
use Rattle.ymx_machine.specs.shared.Events.{Call, Reply}
use Rattle.ymx_machine.specs.declared.types.Reply.TheVariants as reply
use Rattle.ymx_machine.specs.declared.types.Call.TheVariants as call
use Rattle.ymx_machine.specs.declared.types.CallFault.{CallFault}
use Rattle.ymx_machine.specs.declared.types.CallFault.TheVariants.{NoStream, Reset}
use Rattle.ymx_machine.specs.declared.types.Step.TheVariants as step
use Rattle.ymx_machine.specs.declared.types.Answer.{Answer}
use Rattle.ymx_machine.specs.declared.types.Answer.TheVariants as answer
use Rattle.ymx_machine.specs.shared.Phases.{Phase, is_up, is_live, is_offered, is_refused, is_unborn}
use Rattle.ymx_machine.specs.shared.Phases.Phase.{Live, WasReset}
use Rattle.ymx_machine.specs.shared.Lists.{look}
use Rattle.ymx_machine.specs.shared.Steps.{answer_of}
use Rattle.ymx_machine.specs.shared.Replies.{read_reply}
use Rattle.ymx_machine.specs.stream.Lanes.{Mark, is_unsaid, is_said, is_here}
use Rattle.ymx_machine.specs.stream.Streams.{Stream}
use Rattle.ymx_machine.specs.stream.Streams.Move.{Released}
use Rattle.ymx_machine.specs.stream.StreamRules.StreamCall.{Reads}
use Rattle.ymx_machine.specs.machine.Machines.{Machine, SideState}
use Rattle.ymx_machine.specs.machine.FreeMoves.{Releases, moved_by}
use Rattle.ymx_machine.specs.machine.FreeMoves.FreeMove.{OfStream}
use Rattle.ymx_machine.specs.machine.CallRules.{OnStream, AcceptRule}
use Rattle.ymx_machine.specs.machine.Runs.{MachineStepOfA}
use Rattle.ymx_machine.proofs.Tests.{when, both_of}
use Rattle.ymx_headline.specs.machine.Arrivals.{read_of}
use Rattle.ymx_headline.proofs.machine.lanes.LaneLaws.{lists}
use Rattle.ymx_headline.proofs.machine.lanes.StreamFacts.{live-up}
use Rattle.ymx_headline.proofs.machine.order.Cores.{core, Sound}
use Rattle.ymx_headline.proofs.machine.order.Others.{you-call}
use Rattle.ymx_headline.specs.machine.Numbers.{is_in, offered_there}
use Rattle.ymx_headline.proofs.machine.faces.Pasts.{Past, HasFaces}
use Rattle.ymx_headline.proofs.machine.faces.MachineFaces.{FaceAt, Faced}
use Rattle.ymx_headline.proofs.machine.arrivals.Rests.{IsResting, RestsAt, IsRestingMachine, open-rule}
use Rattle.ymx_headline.proofs.machine.arrivals.Tales.{Tale, has, is_old}
use Rattle.ymx_headline.proofs.machine.arrivals.Told.{FitsAt, FitsStream}
use Rattle.ymx_headline.proofs.machine.arrivals.Places.{PlacesOfYou, passes, refused_you}
use Rattle.ymx_headline.proofs.machine.faces.StreamFaces.{not-both}

-- ---- a live end at rest

-- the bytes after a beginning
behind : (xs ys : List ℕ) → drop (length xs) (xs ++ ys) ≡ ys
behind [] ys = grind (arith, lists)
behind (x ∷ xs) ys = let h = behind xs ys in grind (arith, lists)

-- a mark that isn't under way is here or was never said
unsaid-mark : (m : Mark) → is_said m ≡ false → is_here m ≡ false → is_unsaid m ≡ true
unsaid-mark m e f = grind arith

over-mark : (m : Mark) (b : Bool) → is_said m ≡ false → (is_unsaid m ≡ false → b ≡ true) → (b ≡ true → is_unsaid m ≡ false) → is_here m ≡ b
over-mark m b e f g = grind arith

-- a read of a live end
read-live : (room : ℕ) (here : List ℕ) (over : Bool) → answer_of (read_reply false room Live here over) ≡ read_of room here over
read-live room here over = grind (arith, nat_tests, lists)

no-reset : (s : Stream) (mine yours : ℕ) (po pi : Past) → s.me ≡ Live → IsResting s → HasFaces mine yours s po pi → is_unsaid s.rst_inbound ≡ true
no-reset s mine yours po pi l q f = elim (when (is_here s.rst_inbound)) [
  | inl h ↦ absurd (not-both (is_up s.me) (live-up s.me l) (f.came_inbound h))
  | inr h ↦ unsaid-mark s.rst_inbound q.inbound.rst h
]

-- it has all that was written and not got
pub live-left : (mine yours : ℕ) (s : Stream) (po pi : Past) → s.me ≡ Live → IsResting s → HasFaces mine yours s po pi → drop (length pi.got) pi.written ≡ s.inbound.here
live-left mine yours s po pi l q f =
    let up = live-up s.me l in
    let whole = f.whole_inbound up (no-reset s mine yours po pi l q f) in
    let face = f.inbound.2 in
    let rest : f.inbound.0 ≡ s.inbound.here = face.holds up ∙ (ap (λ (w : List ℕ). s.inbound.here ++ (w ++ f.inbound.1)) q.inbound.way ∙ (ap (λ (b : List ℕ). s.inbound.here ++ ([] ++ b)) whole.0 ∙ append-nil s.inbound.here)) in
    ap (λ (w : List ℕ). drop (length pi.got) w) face.begins ∙ (behind pi.got f.inbound.0 ∙ rest)

-- and the end if it was finished
pub live-reads : (mine yours room : ℕ) (s : Stream) (po pi : Past) → s.me ≡ Live → IsResting s → HasFaces mine yours s po pi →
    answer_of (read_reply false room s.me s.inbound.here (is_here s.inbound.fin)) ≡ read_of room (drop (length pi.got) pi.written) pi.finished
live-reads mine yours room s po pi l q f =
    let whole = f.whole_inbound (live-up s.me l) (no-reset s mine yours po pi l q f) in
    let face = f.inbound.2 in
    let there = live-left mine yours s po pi l q f in
    let over : is_here s.inbound.fin ≡ pi.finished = over-mark s.inbound.fin pi.finished q.inbound.fin face.said whole.1 in
    rw (l, there, over) (read-live room s.inbound.here pi.finished)

-- an end that isn't live refuses
not-live : (lost : Bool) (room : ℕ) (p : Phase) (here : List ℕ) (over : Bool) → is_live p ≡ false → (fault : CallFault) × (read_reply lost room p here over ≡ reply.Refused fault)
not-live lost room Live here over e = absurd cc
not-live lost room WasReset here over e = (Reset, refl)
not-live lost room _ here over e = (NoStream, refl)

live-is : (p : Phase) → is_live p ≡ true → p ≡ Live
live-is p e = grind arith

-- ---- a read at rest

abbrev pub GivesBy : ℕ → Past → Bool → Answer → Type 0
GivesBy room past both given =
    (given ≡ read_of room (drop (length past.got) past.written) past.finished) ⊎ ((fault : CallFault) × (given ≡ answer.Refused fault) × (both ≡ false))

no-both : (b c : Bool) → c ≡ false → (b && c) ≡ false
no-both b c e = grind arith

has-live : (x y : Tale) (s : Stream) → FitsStream x y s → is_live s.me ≡ false → (has y && has x) ≡ false
has-live x y s f e = elim (when (has y && has x)) [
  | inl h ↦ (let k = both_of (has y) (has x) h in absurd (not-both (is_live s.me) (ap is_live (f.both k.1 k.0).0) e))
  | inr h ↦ h
]

read-at : (mine yours room i : ℕ) (po pi : Past) (x y : Tale) (o : Option Stream) (m : Machine) (r : Reply) (n : Machine) → m.me.lost ≡ false → FaceAt mine yours po pi o → FitsAt x y o → RestsAt o →
    OnStream i (Reads room) o m r n → GivesBy room pi (has y && has x) (answer_of r)
read-at mine yours room i po pi x y None m r n l f t q h = inr (NoStream, ap answer_of h.0, no-both (has y) (has x) t.0)
read-at mine yours room i po pi x y (Some s) m r n l f t q h =
    let e : r ≡ read_reply false room s.me s.inbound.here (is_here s.inbound.fin) = h.1.0 ∙ ap (λ (b : Bool). read_reply b room s.me s.inbound.here (is_here s.inbound.fin)) l in
    elim (when (is_live s.me)) [
      | inl v ↦ inl (ap answer_of e ∙ live-reads mine yours room s po pi (live-is s.me v) q f)
      | inr v ↦ (let k = not-live false room s.me s.inbound.here (is_here s.inbound.fin) v in inr (k.0, ap answer_of (e ∙ k.1), has-live x y s t v))
    ]

pub gives : (mine yours room i : ℕ) (side : Side) (po pi : Past) (x y : Tale) (m n : Machine) (given : Answer) → Faced mine yours i po pi (core m) → FitsAt x y (look i m.streams) → IsRestingMachine m →
    MachineStepOfA (step.At side (call.Read i room)) given m n → GivesBy room pi (has y && has x) given
gives mine yours room i side po pi x y m n given f t q h =
    subst (GivesBy room pi (has y && has x)) (sym h.3)
    (read-at mine yours room i po pi x y (look i m.streams) m h.0 h.1 q.open_.me_hears f.face t (q.each i) (open-rule (call.Read i room) m h.0 h.1 q.open_.me_open h.4))

-- ---- an accept at rest

-- an end that was born is refused, offered or old
born-is : (p : Phase) → is_unborn p ≡ false → is_refused p ≡ false → is_offered p ≡ false → is_old p ≡ true
born-is p a b c = grind arith

-- beside a live end the other one is offered, or was given to its side
came-over : (mine yours : ℕ) (po pi : Past) (x y : Tale) (s : Stream) → s.me ≡ Live → is_offered s.you ≡ false → IsResting s → HasFaces mine yours s po pi → FitsStream x y s → y.began ≡ true
came-over mine yours po pi x y s l o q f t =
    let up = live-up s.me l in
    let sound : is_refused s.you ≡ false = elim (when (is_refused s.you)) [
      | inl e ↦ absurd (not-both (is_unsaid s.rst_inbound) (no-reset s mine yours po pi l q f) (t.yours.refused up e))
      | inr e ↦ e
    ] in
    t.yours.old up (born-is s.you q.inbound.born sound o)

not-in : (i : ℕ) (ids : List ℕ) → ids ≡ [] → is_in i ids ≡ false
not-in i ids e = ap (is_in i) e

-- where the other side's list is empty its end isn't offered
unoffered : (mine yours i : ℕ) (s : Stream) (o : Option Stream) (m : Machine) → Sound mine yours (core m) → m.you.offered ≡ [] → look i m.streams ≡ o → o ≡ Some s → is_offered s.you ≡ false
unoffered mine yours i s o m so e a b = elim (when (is_offered s.you)) [
  | inl p ↦ absurd (not-both (is_in i m.you.offered) (so.offered_you.every i (subst (λ (w : Option Stream). offered_there w ≡ true) (sym (a ∙ b)) p)) (not-in i m.you.offered e))
  | inr p ↦ p
]

-- the read was refused, or the stream was given to the other side
came-at : (mine yours room i : ℕ) (po pi : Past) (x y : Tale) (o : Option Stream) (m : Machine) (r : Reply) (n : Machine) → look i m.streams ≡ o → m.you.offered ≡ [] → Sound mine yours (core m) →
    FaceAt mine yours po pi o → FitsAt x y o → RestsAt o → OnStream i (Reads room) o m r n → ((fault : CallFault) × (answer_of r ≡ answer.Refused fault)) ⊎ (y.began ≡ true)
came-at mine yours room i po pi x y None m r n e u so f t q h = inl (NoStream, ap answer_of h.0)
came-at mine yours room i po pi x y (Some s) m r n e u so f t q h = elim (when (is_live s.me)) [
  | inl v ↦ inr (came-over mine yours po pi x y s (live-is s.me v) (unoffered mine yours i s (Some s) m so u e refl) q f t)
  | inr v ↦ (let k = not-live m.me.lost room s.me s.inbound.here (is_here s.inbound.fin) v in inl (k.0, ap answer_of (h.1.0 ∙ k.1)))
]

releases-you : (ids : List ℕ) (m n : Machine) → Releases ids m n → n.you ≡ m.you
releases-you [] m n h = ap (λ (v : Machine). v.you) h
releases-you (id ∷ ids) m n h = releases-you ids (moved_by (OfStream id Released) m) n h.1

-- a call leaves the other side's list
pub list-stays : (side : Side) (c : Call) (given : Answer) (m n : Machine) → MachineStepOfA (step.At side c) given m n → n.you.offered ≡ m.you.offered
list-stays side c given m n h = ap (λ (v : SideState). v.offered) (releases-you h.2 h.1 n h.5 ∙ you-call c m h.0 h.1 h.4)

accept-rule : (ids : List ℕ) (m : Machine) (r : Reply) (n : Machine) → m.me.lost ≡ false → answer_of r ≡ answer.Accepted None → AcceptRule ids m r n → ids ≡ []
accept-rule [] m r n l e h = refl
accept-rule (id ∷ ids) m r n l e h = let k : answer.Accepted (Some id) ≡ answer.Accepted None = sym (ap answer_of h.0) ∙ e in absurd (cc)

-- an accept that finds no stream finds an empty list
pub none-waits : (side : Side) (m n : Machine) → m.me.closed ≡ false → m.me.lost ≡ false → MachineStepOfA (step.At side call.Accept) (answer.Accepted None) m n → m.me.offered ≡ []
none-waits side m n o l h = accept-rule m.me.offered m h.0 h.1 l (sym h.3) (open-rule call.Accept m h.0 h.1 o h.4)

pub comes : (mine yours room i : ℕ) (side : Side) (po pi : Past) (x y : Tale) (m n : Machine) (given : Answer) → Faced mine yours i po pi (core m) → FitsAt x y (look i m.streams) → IsRestingMachine m →
    MachineStepOfA (step.At side (call.Read i room)) given m n → n.you.offered ≡ [] → ((fault : CallFault) × (given ≡ answer.Refused fault)) ⊎ (y.began ≡ true)
comes mine yours room i side po pi x y m n given f t q h e =
    subst (λ (g : Answer). ((fault : CallFault) × (g ≡ answer.Refused fault)) ⊎ (y.began ≡ true)) (sym h.3)
    (came-at mine yours room i po pi x y (look i m.streams) m h.0 h.1 refl (sym (list-stays side (call.Read i room) given m n h) ∙ e) f.sound f.face t (q.each i)
    (open-rule (call.Read i room) m h.0 h.1 q.open_.me_open h.4))

-- ---- an accept of a side that refused none

-- a stream that the one side has was given to the other, whose list is empty and which refused none
given-at : (mine yours i : ℕ) (x y : Tale) (o : Option Stream) (m : Machine) → look i m.streams ≡ o → m.you.offered ≡ [] → Sound mine yours (core m) → passes refused_you o ≡ false →
    FitsAt x y o → RestsAt o → has x ≡ true → y.began ≡ true
given-at mine yours i x y None m e u so n t q h = absurd (not-both (has x) h t.0)
given-at mine yours i x y (Some s) m e u so n t q h = t.yours.given h (born-is s.you q.inbound.born n (unoffered mine yours i s (Some s) m so u e refl))

pub all-given : (mine yours op i : ℕ) (x y : Tale) (m : Machine) → m.you.offered ≡ [] → Sound mine yours (core m) → PlacesOfYou op m → FitsAt x y (look i m.streams) → IsRestingMachine m → has x ≡ true → y.began ≡ true
all-given mine yours op i x y m u so n t q h = given-at mine yours i x y (look i m.streams) m refl u so (n.none i) t (q.each i) h
