-- After its finish a stream takes no bytes.
use Rattle.std.proofs.Common.{◌≡◌, inl, inr, ℕ, List, [], take, Bool, true, false, not, ◌==◌, if◌then◌else◌, Option, None, Some, refl, sym, ap, subst, ◌∙◌, arith}
use Rattle.ymx_machine.specs.declared.types.Answer.{Answer}
use Rattle.ymx_machine.specs.declared.types.Answer.TheVariants as answer
use Rattle.ymx_machine.specs.declared.types.Call.TheVariants as call
use Rattle.ymx_machine.specs.declared.types.Reply.TheVariants as reply
use Rattle.ymx_machine.specs.declared.types.Wrote.TheVariants.{Took}
use Rattle.ymx_machine.specs.shared.Events.{Call, Reply}
use Rattle.ymx_machine.specs.shared.Lists.{look}
use Rattle.ymx_machine.specs.shared.Phases.{Phase, is_early, is_live, is_up, struck}
use Rattle.ymx_machine.specs.shared.Phases.Phase.{Unborn, Offered, Live, WasReset, Refused, Lingering, Gone}
use Rattle.ymx_machine.specs.shared.Replies.{is_done, write_reply}
use Rattle.ymx_machine.specs.shared.Steps.{answer_of}
use Rattle.ymx_machine.specs.stream.Lanes.{Lane, is_unsaid, lane_arrive, lane_vanish}
use Rattle.ymx_machine.specs.stream.Streams.{Stream, Move, Allowed, after_move, stream_finish, stream_accept}
use Rattle.ymx_machine.specs.stream.Streams.Move.{Arrive, EndArrives, Return, SynOffered, SynRefused, AckArrives, ResetArrives, Released}
use Rattle.ymx_machine.specs.stream.StreamRules.{StreamCall, StreamRule, forgets_quietly}
use Rattle.ymx_machine.specs.stream.StreamRules.StreamCall.{Writes, Reads, Finishes, Resets, Forgets}
use Rattle.ymx_machine.specs.machine.Machines.{Machine}
use Rattle.ymx_machine.specs.machine.CallRules.{OnStream, Rule}
use Rattle.ymx_machine.proofs.Tests.{when, agrees, one_some}
use Rattle.ymx_model.specs.session.Events.{Event}
use Rattle.ymx_model.specs.declared.types.Event.TheVariants as event
use Rattle.ymx_model.specs.declared.types.Entry.{Entry}
use Rattle.ymx_headline.proofs.machine.lanes.StreamFacts.{if-so_true, if-so_false, finish-live, live-up}
use Rattle.ymx_headline.proofs.machine.order.Maps.{look-change}
use Rattle.ymx_headline.proofs.machine.order.Cores.{core}
use Rattle.ymx_headline.proofs.machine.faces.Pasts.{Past, HasFaces}
use Rattle.ymx_headline.proofs.machine.faces.MachineFaces.{Faced, FaceAt}
use Rattle.ymx_engine.specs.Events.{is_refusal}
use Rattle.ymx_joined.specs.Callers.{finished_at, TakeNoneBehindFinish}
use Rattle.ymx_joined.proofs.Traces.{wrote_by, finishes_by, finished_is, taken_in}
use Rattle.ymx_joined.proofs.Lasting.{BothKeep, HasAt, step_keeps, releases_keep}
use Rattle.ymx_joined.proofs.Behind.{Stands, Law, Played, marked, behind, nothing_joined}
use Rattle.ymx_joined.proofs.Given.{IsGiven, IsGivenThere, move_given, open_side, gives, not_given}

-- ---- a stream whose end was said at this side, or that this side has no more

-- It was given, and while it is live its end is said and no reset is.
abbrev pub IsShut : Stream → Type 0
IsShut s = IsGiven s × (is_live s.me ≡ true → (is_unsaid s.outbound.fin ≡ false) × (is_unsaid s.rst_outbound ≡ true))

-- so it is at the other side
abbrev pub IsShutThere : Stream → Type 0
IsShutThere s = IsGivenThere s × (is_live s.you ≡ true → (is_unsaid s.inbound.fin ≡ false) × (is_unsaid s.rst_inbound ≡ true))

not_live : (s : Stream) → IsGiven s → is_live s.me ≡ false → IsShut s
not_live s g d = (g, λ e. (let no : true ≡ false = sym e ∙ d in absurd cc))

dead : (p : Phase) (t : Stream) → t.me ≡ p → is_early p ≡ false → is_live p ≡ false → IsShut t
dead p t e g d = not_live t (ap is_early e ∙ g) (ap is_live e ∙ d)

finish_shut : (b : Bool) (s : Stream) → IsShut s → IsShut (if b then stream_finish s else s)
finish_shut true s (g, h) = (g, λ e. (refl, (h e).1))
finish_shut false s h = h

rule_shut : (lost : Bool) (c : StreamCall) (s t : Stream) (r : Reply) → StreamRule lost c s r t → IsShut s → IsShut t
rule_shut lost (Writes bytes) s t r (inl h) g = subst IsShut (sym h.1) g
rule_shut lost (Writes bytes) s t r (inr h) g = subst IsShut (sym h.2) g
rule_shut lost (Reads max) s t r h g = subst IsShut (sym h.1) g
rule_shut lost Finishes s t r h g = subst IsShut (sym h.1) (finish_shut (is_done r) s g)
rule_shut lost Resets s t r h g = elim (when (is_done r)) [
  | inl d ↦ dead WasReset t (ap (λ (x : Stream). x.me) (if-so_true _ _ _ d h.1).4) refl refl
  | inr d ↦ subst IsShut (sym (if-so_false _ _ _ d h.1)) g
]
rule_shut lost Forgets s t r h g = elim (when (is_done r)) [
  | inl d ↦ (let k = if-so_true _ _ _ d h.1 in elim (when (forgets_quietly lost s)) [
    | inl q ↦ dead Lingering t (ap (λ (x : Stream). x.me) (if-so_true _ _ _ q k)) refl refl
    | inr q ↦ dead Lingering t (ap (λ (x : Stream). x.me) (if-so_false _ _ _ q k).4) refl refl
  ])
  | inr d ↦ subst IsShut (sym (if-so_false _ _ _ d h.1)) g
]

struck_dead : (p : Phase) → is_live (struck p) ≡ false
struck_dead p = grind arith

move_shut : (v : Move) (s : Stream) → Allowed v s → IsShut s → IsShut (after_move v s)
move_shut (Arrive n) s a g = g
move_shut EndArrives s a g = g
move_shut (Return n) s a g = g
move_shut SynOffered s a g = not_live (after_move SynOffered s) (move_given SynOffered s a g.0) refl
move_shut SynRefused s a g = not_live (after_move SynRefused s) (move_given SynRefused s a g.0) refl
move_shut AckArrives s a g = g
move_shut ResetArrives s a g = not_live (after_move ResetArrives s) (move_given ResetArrives s a g.0) (struck_dead s.me)
move_shut Released s a g = not_live (after_move Released s) refl refl

accept_shut : (lost : Bool) (s : Stream) → s.me ≡ Offered → IsShut s → IsShut (stream_accept lost s)
accept_shut lost s o g = let no : true ≡ false = sym (ap is_early o) ∙ g.0 in absurd cc

-- ---- what the other side does leaves it

finish_there : (b : Bool) (s : Stream) → IsShutThere s → IsShutThere (if b then stream_finish s else s)
finish_there true s h = h
finish_there false s h = h

rule_there : (lost : Bool) (c : StreamCall) (s t : Stream) (r : Reply) → StreamRule lost c s r t → IsShutThere s → IsShutThere t
rule_there lost (Writes bytes) s t r (inl h) g = subst IsShutThere (sym h.1) g
rule_there lost (Writes bytes) s t r (inr h) g = subst IsShutThere (sym h.2) g
rule_there lost (Reads max) s t r h g = subst IsShutThere (sym h.1) g
rule_there lost Finishes s t r h g = subst IsShutThere (sym h.1) (finish_there (is_done r) s g)
rule_there lost Resets s t r h g = elim (when (is_done r)) [
  | inl d ↦ subst IsShutThere (sym (if-so_true _ _ _ d h.1).4) g
  | inr d ↦ subst IsShutThere (sym (if-so_false _ _ _ d h.1)) g
]
rule_there lost Forgets s t r h g = elim (when (is_done r)) [
  | inl d ↦ (let k = if-so_true _ _ _ d h.1 in elim (when (forgets_quietly lost s)) [
    | inl q ↦ subst IsShutThere (sym (if-so_true _ _ _ q k)) g
    | inr q ↦ subst IsShutThere (sym (if-so_false _ _ _ q k).4) g
  ])
  | inr d ↦ subst IsShutThere (sym (if-so_false _ _ _ d h.1)) g
]

arrive_fin : (b : Bool) (n : ℕ) (l : Lane) → (if b then lane_arrive n l else lane_vanish n l).fin ≡ l.fin
arrive_fin true n l = refl
arrive_fin false n l = refl

move_there : (v : Move) (s : Stream) → Allowed v s → IsShutThere s → IsShutThere (after_move v s)
move_there (Arrive n) s a (g, h) = (g, λ e. (ap is_unsaid (arrive_fin _ n s.inbound) ∙ (h e).0, (h e).1))
move_there EndArrives s a (g, h) = (g, λ e. (refl, (h e).1))
move_there (Return n) s a g = g
move_there SynOffered s a g = g
move_there SynRefused s a g = g
move_there AckArrives s a g = g
-- a reset is under way only where the stream is live no more
move_there ResetArrives s a (g, h) = (g, λ e. (let no : false ≡ true = sym (ap is_unsaid a.0) ∙ (h e).1 in absurd cc))
move_there Released s a g = g

shut_kept : BothKeep IsShut IsShutThere
shut_kept = record {
  here = record { rule = rule_shut; move = move_shut; accept = accept_shut };
  there = record { rule = rule_there; move = move_there; accept = λ lost s o g. g };
  over = λ s g. g;
  back = λ s g. g;
  over_too = λ s g. g;
  back_too = λ s g. g;
}

-- ---- a finish that is done shuts it

is_done_reply : (r : Reply) → answer_of r ≡ answer.Done → is_done r ≡ true
is_done_reply reply.Done e = refl
is_done_reply r e = let no : ⊥ = cc in absurd no

done_plain : (r : Reply) → is_done r ≡ true → is_refusal r ≡ false
done_plain reply.Done e = refl
done_plain r e = let no : ⊥ = cc in absurd no

unreset : (m : Phase) (b : Bool) → m ≡ Live → (b ≡ false → is_up m ≡ false) → b ≡ true
unreset m true live h = refl
unreset m false live h = sym (h refl) ∙ live-up m live

-- what has happened to a stream that is there
pub faces_of : (mine yours id : ℕ) (m : Machine) (s : Stream) (po pi : Past) → Faced mine yours id po pi (core m) → look id m.streams ≡ Some s → HasFaces mine yours s po pi
faces_of mine yours id m s po pi k e = subst (FaceAt mine yours po pi) e k.face

shut_on : (mine yours id : ℕ) (m : Machine) (r : Reply) (n : Machine) (o : Option Stream) → Stands mine yours id m → look id m.streams ≡ o → OnStream id Finishes o m r n → is_done r ≡ true → HasAt IsShut id n.streams
shut_on mine yours id m r n None st e h d = let no : true ≡ false = sym d ∙ ap is_done h.0 in absurd cc
shut_on mine yours id m r n (Some s) (po, pi, k) e (t, rule, now) d =
    let live = finish-live m.me.lost s.me (not (is_unsaid s.outbound.fin)) (sym (ap is_done rule.0) ∙ d) in
    let kept = unreset s.me (is_unsaid s.rst_outbound) live.0 (faces_of mine yours id m s po pi k e).rst_outbound in
    let shut : IsShut (stream_finish s) = (ap is_early live.0, λ x. (refl, kept)) in
    let is : t ≡ stream_finish s = rw d at rule.1 in
    (t, ap (λ (v : Machine). look id v.streams) now ∙ look-change id (λ _. t) m.streams s e, subst IsShut (sym is) shut)

finish_shuts : (mine yours id : ℕ) (c : Call) (g : Answer) (m : Machine) (r : Reply) (n : Machine) → Stands mine yours id m → Rule c m r n → g ≡ answer_of r → finishes_by id c g ≡ true → HasAt IsShut id n.streams
finish_shuts mine yours id (call.Finish to) answer.Done m r n s h e k =
    let done = is_done_reply r (sym e) in
    let same = agrees to id k in
    shut_on mine yours id m r n (look id m.streams) s refl
    (subst (λ (v : ℕ). OnStream v Finishes (look v m.streams) m r n) same (open_side (call.Finish to) m r n h (done_plain r done))) done
finish_shuts mine yours id c g m r n s h e k = let no : ⊥ = cc in absurd no

-- ---- then it takes nothing

takes_none : (lost : Bool) (bytes : List ℕ) (p : Phase) (said : Bool) (credit : ℕ) → (is_live p ≡ true → said ≡ true) → is_refusal (write_reply lost bytes p said credit) ≡ true
takes_none lost bytes Live true credit h = refl
takes_none lost bytes Live false credit h = let no : false ≡ true = h refl in absurd cc
takes_none lost bytes Unborn said credit h = refl
takes_none lost bytes Offered said credit h = refl
takes_none lost bytes WasReset said credit h = refl
takes_none lost bytes Refused said credit h = refl
takes_none lost bytes Lingering said credit h = refl
takes_none lost bytes Gone said credit h = refl

none_on : (id : ℕ) (bytes : List ℕ) (m : Machine) (r : Reply) (n : Machine) (o : Option Stream) (s : Stream) → o ≡ Some s → IsShut s → OnStream id (Writes bytes) o m r n → is_refusal r ≡ true
none_on id bytes m r n None s e g h = let no : ⊥ = cc in absurd no
none_on id bytes m r n (Some x) s e g (t, inl rule, now) =
    let shut = subst IsShut (sym (one_some x s e)) g in
    ap is_refusal rule.0 ∙ takes_none m.me.lost bytes x.me (not (is_unsaid x.outbound.fin)) x.outbound.credit (λ l. ap not (shut.1 l).0)
none_on id bytes m r n (Some x) s e g (t, inr rule, now) = ap is_refusal rule.1

pub if_not : (b : Bool) (xs : List ℕ) → b ≡ false → (if b then xs else []) ≡ []
if_not b xs e = rw e refl

writes_none : (mine yours id : ℕ) (c : Call) (m : Machine) (r : Reply) (n : Machine) → Stands mine yours id m → Rule c m r n → HasAt IsShut id m.streams → wrote_by id c (answer_of r) ≡ []
writes_none mine yours id (call.Write to bytes) m (reply.Wrote (Took k)) n st h (s, there, g) = elim (when (to == id)) [
  | inl d ↦ (let o = open_side (call.Write to bytes) m (reply.Wrote (Took k)) n h refl in
      let is : look to m.streams ≡ Some s = ap (λ (v : ℕ). look v m.streams) (agrees to id d) ∙ there in
      let no : false ≡ true = none_on to bytes m (reply.Wrote (Took k)) n (look to m.streams) s is g o in absurd cc)
  | inr d ↦ if_not (to == id) (take k bytes) d
]
writes_none mine yours id (call.OpenWith bytes) m (reply.OpenedWith new k) n st h (s, there, g) = elim (when (new == id)) [
  | inl d ↦ absurd (not_given mine yours id m n st.2.sound st.2.numbered (gives id (call.OpenWith bytes) m (reply.OpenedWith new k) n h d) (s, there, g.0))
  | inr d ↦ if_not (new == id) (take k bytes) d
]
writes_none mine yours id c m r n st h has = refl

-- After a finish that was done each call writes nothing to the stream.
shut_law : (mine yours id : ℕ) → Law mine yours id (finishes_by id) (λ m. HasAt IsShut id m.streams) (λ c g. wrote_by id c g ≡ [])
shut_law mine yours id = record {
  marks = λ c g m n s h e. releases_keep IsShut shut_kept.here id h.2 h.1 n h.5 (finish_shuts mine yours id c g m h.0 h.1 s h.4 h.3 e);
  keeps = λ st g m n s h l. step_keeps IsShut IsShutThere shut_kept mine yours id st g m n s.2.sound h l;
  quiet = λ c g m n s h l. ap (wrote_by id c) h.3 ∙ writes_none mine yours id c m h.0 h.1 s h.4 l;
}

finished_marked : (id : ℕ) (e : Event) (told : Reply) → finished_at id e told ≡ marked (finishes_by id) e told
finished_marked id (event.Call c) told = finished_is id c told
finished_marked id e told = refl

-- In a history that was played a stream takes nothing after its finish.
pub none_behind_its_finish : (mine yours : ℕ) (xs : List Entry) → Played mine yours xs → TakeNoneBehindFinish xs
none_behind_its_finish mine yours xs p id before after x is e =
    taken_in id after ∙ nothing_joined (wrote_by id) _ (behind (shut_law mine yours id) xs p before after x is (sym (finished_marked id x.event x.reply) ∙ e))
