-- A call and a move touch one stream, and a call has one answer.
use Rattle.std.proofs.Common.{◌≡◌, ◌≢◌, ◌⊎◌, inl, inr, ℕ, zero, suc, List, [], ◌∷◌, length, min, Bool, true, false, not, ◌||◌, ◌&&◌, nat_le, if◌then◌else◌, Option, None, Some, refl, sym, ◌∙◌, ap, arith}
use Rattle.std.proofs.lemmas.Grind.{common_steps}
use Rattle.std.proofs.lemmas.Bool.Decides.{nat_tests}
use Rattle.ymx_machine.specs.shared.Evidence.{evidence}
use Rattle.ymx_machine.specs.shared.Events.{Call}
use Rattle.ymx_machine.specs.declared.types.Call.TheVariants as call
use Rattle.ymx_machine.specs.declared.types.CallFault.{CallFault}
use Rattle.ymx_machine.specs.declared.types.CallFault.TheVariants as fault
use Rattle.ymx_machine.specs.shared.Events.{Reply}
use Rattle.ymx_machine.specs.declared.types.Reply.TheVariants as reply
use Rattle.ymx_machine.specs.declared.types.Wrote.TheVariants.{Took}
use Rattle.ymx_machine.specs.shared.Limits.{first_credit}
use Rattle.ymx_machine.specs.stream.Lanes.{is_unsaid, is_here}
use Rattle.ymx_machine.specs.stream.Streams.{Stream, after_move, stream_accept}
use Rattle.ymx_machine.specs.stream.Streams.Move.{SynOffered, SynRefused}
use Rattle.ymx_machine.specs.stream.StreamRules.{StreamCall, StreamRule}
use Rattle.ymx_machine.specs.shared.Replies.{bytes_moved, write_reply, read_reply, finish_reply, reset_reply, forget_reply}
use Rattle.ymx_machine.specs.stream.StreamRules.StreamCall.{Writes, Reads, Finishes, Resets, Forgets}
use Rattle.ymx_machine.specs.shared.Lists.{look}
use Rattle.ymx_machine.specs.machine.Machines.{Machine}
use Rattle.ymx_machine.specs.machine.CallRules.{open_refusal, OpenRule, AcceptRule, OnStream, PingRule, PongedRule, OpenSideRule, Rule, is_close, found_back, free_number}
use Rattle.ymx_machine.specs.machine.FreeMoves.{FreeMove, moved_by, machine_refuses}
use Rattle.ymx_machine.specs.machine.FreeMoves.FreeMove.{OfStream, SynArrives, AwayArrives, PingThere, PingBack}
use Rattle.ymx_machine.proofs.Tests.{when}
use Rattle.ymx_headline.specs.machine.Others.{touched, touched_by, needs_memory}
use Rattle.ymx_headline.proofs.machine.lanes.StreamFacts.{if-so_true, if-so_false}
use Rattle.ymx_headline.proofs.machine.order.Maps.{look-change_other, look-add_other}
use Rattle.ymx_headline.proofs.machine.faces.Effects.{Effect, effect}
use Rattle.ymx_headline.proofs.machine.faces.Effects.Effect.{Idles, OpensOne, AcceptsOne, TouchesOne}

not-it : (o : Option ℕ) (i j : ℕ) → o ≡ Some j → o ≢ Some i → i ≢ j
not-it o i j e n d = n (e ∙ ap (λ (x : ℕ). Some x) (sym d))

others-effect : (c : Call) (m : Machine) (r : Reply) (n : Machine) (i : ℕ) → Effect c m r n → touched c m ≢ Some i → look i n.streams ≡ look i m.streams
others-effect c m r n i (Idles h) d = ap (look i) h.same.streams
others-effect c m r n i (OpensOne bytes h) d = ap (λ (x : Machine). look i x.streams) h.now ∙ look-add_other i m.me.next _ m.streams (not-it _ i _ h.number d)
others-effect c m r n i (AcceptsOne id ids h) d = ap (λ (x : Machine). look i x.streams) h.now ∙ look-change_other i id (stream_accept m.me.lost) m.streams (not-it _ i id h.number d)
others-effect c m r n i (TouchesOne id sc s t h) d = ap (λ (x : Machine). look i x.streams) h.now ∙ look-change_other i id (λ _. t) m.streams (not-it _ i id h.number d)

pub others-call : (c : Call) (m : Machine) (r : Reply) (n : Machine) (i : ℕ) → Rule c m r n → touched c m ≢ Some i → look i n.streams ≡ look i m.streams
others-call c m r n i h d = others-effect c m r n i (effect c m r n h) d

you-effect : (c : Call) (m : Machine) (r : Reply) (n : Machine) → Effect c m r n → n.you ≡ m.you
you-effect c m r n (Idles h) = h.same.you
you-effect c m r n (OpensOne bytes h) = ap (λ (x : Machine). x.you) h.now
you-effect c m r n (AcceptsOne id ids h) = ap (λ (x : Machine). x.you) h.now
you-effect c m r n (TouchesOne id sc s t h) = ap (λ (x : Machine). x.you) h.now

pub you-call : (c : Call) (m : Machine) (r : Reply) (n : Machine) → Rule c m r n → n.you ≡ m.you
you-call c m r n h = you-effect c m r n (effect c m r n h)

pub others-move : (v : FreeMove) (m : Machine) (i : ℕ) → touched_by v ≢ Some i → look i (moved_by v m).streams ≡ look i m.streams
others-move (OfStream id v) m i d = look-change_other i id (after_move v) m.streams (not-it (Some id) i id refl d)
others-move (SynArrives id counted) m i d = elim (when (machine_refuses m || counted)) [
  | inl b ↦ rw b (look-change_other i id (after_move SynRefused) m.streams (not-it (Some id) i id refl d))
  | inr b ↦ rw b (look-change_other i id (after_move SynOffered) m.streams (not-it (Some id) i id refl d))
]
others-move AwayArrives m i d = refl
others-move (PingThere number) m i d = refl
others-move (PingBack number) m i d = refl

-- ---- one answer

-- the answer of a call, or lack of memory in its place
abbrev Or_memory : Reply → Reply → Type 0
Or_memory r told = (r ≡ told) ⊎ ((r ≡ reply.Refused (fault.OutOfMemory evidence)) × (needs_memory told ≡ true))

took-needs : (n : ℕ) → n ≢ 0 → needs_memory (reply.Wrote (Took n)) ≡ true
took-needs zero d = absurd (d refl)
took-needs (suc n) d = refl

write-took : (lost : Bool) (bytes : List ℕ) (s : Stream) → bytes_moved (write_reply lost bytes s.me (not (is_unsaid s.outbound.fin)) s.outbound.credit) ≢ 0 →
    write_reply lost bytes s.me (not (is_unsaid s.outbound.fin)) s.outbound.credit ≡ reply.Wrote (Took (bytes_moved (write_reply lost bytes s.me (not (is_unsaid s.outbound.fin)) s.outbound.credit)))
write-took lost bytes s d = grind (arith, nat_tests, common_steps)

write-needs : (lost : Bool) (bytes : List ℕ) (s : Stream) → bytes_moved (write_reply lost bytes s.me (not (is_unsaid s.outbound.fin)) s.outbound.credit) ≢ 0 →
    needs_memory (write_reply lost bytes s.me (not (is_unsaid s.outbound.fin)) s.outbound.credit) ≡ true
write-needs lost bytes s d = ap needs_memory (write-took lost bytes s d) ∙ took-needs _ d

abbrev reply_on : Bool → StreamCall → Stream → Reply
reply_on lost (Writes bytes) s = write_reply lost bytes s.me (not (is_unsaid s.outbound.fin)) s.outbound.credit
reply_on lost (Reads max) s = read_reply lost max s.me s.inbound.here (is_here s.inbound.fin)
reply_on lost Finishes s = finish_reply lost s.me (not (is_unsaid s.outbound.fin))
reply_on lost Resets s = reset_reply lost s.me
reply_on lost Forgets s = forget_reply s.me

one-on : (lost : Bool) (c : StreamCall) (s t : Stream) (r : Reply) → StreamRule lost c s r t → Or_memory r (reply_on lost c s)
one-on lost (Writes bytes) s t r (inl h) = inl h.0
one-on lost (Writes bytes) s t r (inr h) = inr (h.1, write-needs lost bytes s h.0)
one-on lost (Reads max) s t r h = inl h.0
one-on lost Finishes s t r h = inl h.0
one-on lost Resets s t r h = inl h.0
one-on lost Forgets s t r h = inl h.0

abbrev reply_at : Bool → StreamCall → Option Stream → Reply
reply_at lost c None = reply.Refused fault.NoStream
reply_at lost c (Some s) = reply_on lost c s

one-at : (id : ℕ) (c : StreamCall) (o : Option Stream) (m : Machine) (r : Reply) (n : Machine) → OnStream id c o m r n → Or_memory r (reply_at m.me.lost c o)
one-at id c None m r n h = inl h.0
one-at id c (Some s) m r n h = one-on m.me.lost c s h.0 r h.1

abbrev reply_open : Option CallFault → Reply → Reply
reply_open (Some f) told = reply.Refused f
reply_open None told = told

one-open : (o : Option CallFault) (told : Reply) (bytes : List ℕ) (m : Machine) (r : Reply) (n : Machine) → needs_memory told ≡ true → OpenRule o told bytes m r n → Or_memory r (reply_open o told)
one-open (Some f) told bytes m r n k h = inl h.0
one-open None told bytes m r n k (inl h) = inl h.0
one-open None told bytes m r n k (inr h) = inr (h.0, k)

abbrev reply_accept : Bool → List ℕ → Reply
reply_accept lost [] = if lost then reply.Refused fault.Lost else reply.Accepted None
reply_accept lost (id ∷ ids) = reply.Accepted (Some id)

one-accept : (ids : List ℕ) (m : Machine) (r : Reply) (n : Machine) → AcceptRule ids m r n → r ≡ reply_accept m.me.lost ids
one-accept [] m r n h = elim (when m.me.lost) [ inl l ↦ rw l (if-so_true _ _ _ l h).0 | inr l ↦ rw l (if-so_false _ _ _ l h).0 ]
one-accept (id ∷ ids) m r n h = h.0

abbrev told : Call → Machine → Reply
told call.Open m = reply_open (open_refusal m) (reply.Opened m.me.next)
told (call.OpenWith bytes) m = reply_open (open_refusal m) (reply.OpenedWith m.me.next (min (length bytes) first_credit))
told call.Accept m = reply_accept m.me.lost m.me.offered
told (call.Write id bytes) m = reply_at m.me.lost (Writes bytes) (look id m.streams)
told (call.Read id max) m = reply_at m.me.lost (Reads max) (look id m.streams)
told (call.Finish id) m = reply_at m.me.lost Finishes (look id m.streams)
told (call.Reset id) m = reply_at m.me.lost Resets (look id m.streams)
told (call.Forget id) m = reply_at m.me.lost Forgets (look id m.streams)
told call.Ping m =
    if m.me.lost then reply.Refused fault.Lost
    else if nat_le 16 (length m.me.pings) then reply.Refused fault.PingsPending
    else reply.Pinged (free_number 17 m.me.next_ping m.me.pings)
told (call.Ponged k) m = if found_back (look k m.me.pings) then reply.Ponged true else if m.me.lost then reply.Refused fault.Lost else reply.Ponged false
told call.GoAway m = if m.me.lost then reply.Refused fault.Lost else reply.Done
told call.Close m = reply.Done

one-ping : (m : Machine) (r : Reply) (n : Machine) → PingRule m r n → r ≡ told call.Ping m
one-ping m r n h = elim (when m.me.lost) [
  | inl l ↦ rw l (if-so_true _ _ _ l h).0
  | inr l ↦ (let k = if-so_false _ _ _ l h in elim (when (nat_le 16 (length m.me.pings))) [
    | inl p ↦ rw (l, p) (if-so_true _ _ _ p k).0
    | inr p ↦ rw (l, p) (if-so_false _ _ _ p k).0
  ])
]

one-pong : (k : ℕ) (m : Machine) (r : Reply) (n : Machine) → PongedRule k m r n → r ≡ told (call.Ponged k) m
one-pong k m r n h = elim (when (found_back (look k m.me.pings))) [
  | inl b ↦ rw b (if-so_true _ _ _ b h).0
  | inr b ↦ (let q = if-so_false _ _ _ b h in elim (when m.me.lost) [
    | inl l ↦ rw (b, l) (if-so_true _ _ _ l q).0
    | inr l ↦ rw (b, l) (if-so_false _ _ _ l q).0
  ])
]

one-away : (m : Machine) (r : Reply) (n : Machine) → OpenSideRule call.GoAway m r n → r ≡ told call.GoAway m
one-away m r n h = elim (when m.me.lost) [ inl l ↦ rw l (if-so_true _ _ _ l h).0 | inr l ↦ rw l (if-so_false _ _ _ l h).0 ]

one-open_side : (c : Call) (m : Machine) (r : Reply) (n : Machine) → OpenSideRule c m r n → Or_memory r (told c m)
one-open_side call.Open m r n h = one-open (open_refusal m) _ _ m r n refl h
one-open_side (call.OpenWith bytes) m r n h = one-open (open_refusal m) _ _ m r n refl h
one-open_side call.Accept m r n h = inl (one-accept m.me.offered m r n h)
one-open_side (call.Write id bytes) m r n h = one-at id (Writes bytes) (look id m.streams) m r n h
one-open_side (call.Read id max) m r n h = one-at id (Reads max) (look id m.streams) m r n h
one-open_side (call.Finish id) m r n h = one-at id Finishes (look id m.streams) m r n h
one-open_side (call.Reset id) m r n h = one-at id Resets (look id m.streams) m r n h
one-open_side (call.Forget id) m r n h = one-at id Forgets (look id m.streams) m r n h
one-open_side call.Ping m r n h = inl (one-ping m r n h)
one-open_side (call.Ponged k) m r n h = inl (one-pong k m r n h)
one-open_side call.GoAway m r n h = inl (one-away m r n h)
one-open_side call.Close m r n h = inl h.0

abbrev told_any : Call → Machine → Reply
told_any c m = if m.me.closed && not (is_close c) then reply.Refused fault.Closed else told c m

one : (c : Call) (m : Machine) (r : Reply) (n : Machine) → Rule c m r n → Or_memory r (told_any c m)
one c m r n h = elim (when (m.me.closed && not (is_close c))) [
  | inl b ↦ inl (rw b (if-so_true _ _ _ b h).0)
  | inr b ↦ rw b (one-open_side c m r n (if-so_false _ _ _ b h))
]

-- two answers of a call in a state are the same, but for lack of memory where memory is needed
pub one-answer : (c : Call) (m : Machine) (r r' : Reply) (n n' : Machine) → Rule c m r n → Rule c m r' n' → r ≢ reply.Refused (fault.OutOfMemory evidence) →
    (r' ≡ r) ⊎ ((r' ≡ reply.Refused (fault.OutOfMemory evidence)) × (needs_memory r ≡ true))
one-answer c m r r' n n' h h' d = elim (one c m r n h) [
  | inl e ↦ elim (one c m r' n' h') [
    | inl e' ↦ inl (e' ∙ sym e)
    | inr e' ↦ inr (e'.0, ap needs_memory e ∙ e'.1)
  ]
  | inr e ↦ absurd (d e.0)
]
