-- What a call does to the machine, and what it tells of the streams.
use Rattle.std.proofs.Common.{◌≡◌, ◌≢◌, inl, inr, ℕ, ◌≤◌, List, [], ◌∷◌, length, take, min, Bool, true, false, not, ◌&&◌, ◌==◌, nat_le, if◌then◌else◌, Option, None, Some, refl, sym, ap, subst, append-nil, arith}
use Rattle.ymx_machine.specs.shared.Evidence.{evidence}
use Rattle.ymx_machine.specs.shared.Events.{Reply}
use Rattle.ymx_machine.specs.declared.types.Reply.TheVariants as reply
use Rattle.ymx_machine.specs.declared.types.CallFault.{CallFault}
use Rattle.ymx_machine.specs.declared.types.CallFault.TheVariants.{NoStream, Lost, Closed, OutOfMemory, PingsPending}
use Rattle.ymx_machine.specs.shared.Events.{Call}
use Rattle.ymx_machine.specs.declared.types.Call.TheVariants as call
use Rattle.ymx_machine.specs.shared.Limits.{first_credit}
use Rattle.ymx_machine.specs.stream.Streams.{Stream, stream_accept}
use Rattle.ymx_machine.specs.stream.StreamRules.{StreamCall, StreamRule}
use Rattle.ymx_machine.specs.stream.StreamRules.StreamCall.{Writes, Reads, Finishes, Resets, Forgets}
use Rattle.ymx_machine.specs.shared.Lists.{look, change}
use Rattle.ymx_machine.specs.machine.Machines.{Machine}
use Rattle.ymx_machine.specs.machine.CallRules.{RefusedWith, open_refusal, machine_opened, OpenRule, AcceptRule, OnStream, PingRule, PongedRule, OpenSideRule, is_close, Rule, found_back}
use Rattle.ymx_machine.proofs.Tests.{when, is-self, is-other}
use Rattle.ymx_headline.proofs.machine.faces.Pasts.{Past}
use Rattle.ymx_headline.specs.machine.Others.{front, touched}
use Rattle.ymx_headline.proofs.machine.lanes.LaneLaws.{lists}
use Rattle.ymx_headline.proofs.machine.faces.LaneFaces.{wrote}
use Rattle.ymx_headline.proofs.machine.faces.StreamFaces.{past_out, past_inbound}
use Rattle.ymx_headline.proofs.machine.lanes.StreamFacts.{if-so_true, if-so_false}

-- the past of the lane that the caller writes, of the stream i
abbrev pub tell_outbound : ℕ → Call → Reply → Past → Past
tell_outbound i (call.Write id bytes) r h = if id == i then past_out (Writes bytes) r h else h
tell_outbound i (call.Finish id) r h = if id == i then past_out Finishes r h else h
tell_outbound i (call.OpenWith bytes) (reply.OpenedWith id n) h = if id == i then wrote (take n bytes) h else h
tell_outbound i _ r h = h

-- and of the one that it reads
abbrev pub tell_inbound : ℕ → Call → Reply → Past → Past
tell_inbound i (call.Read id max) r h = if id == i then past_inbound (Reads max) r h else h
tell_inbound i _ r h = h

-- the streams and what speaks of them are the same
pub record Unmoved (m n : Machine) : Type 0 where
  pub streams : n.streams ≡ m.streams
  pub you : n.you ≡ m.you
  pub window : n.me.window ≡ m.me.window
  pub next : n.me.next ≡ m.me.next
  pub offered : n.me.offered ≡ m.me.offered

pub unmoved : (m n : Machine) → n ≡ m → Unmoved m n
unmoved m n e = subst (Unmoved m) (sym e) (record { streams = refl; you = refl; window = refl; next = refl; offered = refl })

-- nothing is told of a stream
pub record Untold (c : Call) (r : Reply) (i : ℕ) : Type 0 where
  pub outbound : (h : Past) → tell_outbound i c r h ≡ h
  pub inbound : (h : Past) → tell_inbound i c r h ≡ h

pub record Idle (c : Call) (m : Machine) (r : Reply) (n : Machine) : Type 0 where
  pub same : Unmoved m n
  pub told : (i : ℕ) → Untold c r i

pub record Opens (c : Call) (m : Machine) (r : Reply) (n : Machine) (bytes : List ℕ) : Type 0 where
  pub number : touched c m ≡ Some m.me.next
  pub fits : length bytes ≤ first_credit
  pub now : n ≡ machine_opened bytes m
  pub outbound : (h : Past) → tell_outbound m.me.next c r h ≡ wrote bytes h
  pub inbound : (h : Past) → tell_inbound m.me.next c r h ≡ h
  pub others : (i : ℕ) → i ≢ m.me.next → Untold c r i

pub record Accepts (c : Call) (m : Machine) (r : Reply) (n : Machine) (id : ℕ) (ids : List ℕ) : Type 0 where
  pub number : touched c m ≡ Some id
  pub front : m.me.offered ≡ id ∷ ids
  pub now : n ≡ record m { streams = change id (stream_accept m.me.lost) m.streams; me = record m.me { offered = ids } }
  pub told : (i : ℕ) → Untold c r i

pub record Touches (c : Call) (m : Machine) (r : Reply) (n : Machine) (id : ℕ) (sc : StreamCall) (s t : Stream) : Type 0 where
  pub number : touched c m ≡ Some id
  pub there : look id m.streams ≡ Some s
  pub rule : StreamRule m.me.lost sc s r t
  pub now : n ≡ record m { streams = change id (λ _. t) m.streams }
  pub outbound : (h : Past) → tell_outbound id c r h ≡ past_out sc r h
  pub inbound : (h : Past) → tell_inbound id c r h ≡ past_inbound sc r h
  pub others : (i : ℕ) → i ≢ id → Untold c r i

pub data Effect (c : Call) (m : Machine) (r : Reply) (n : Machine) : Type 0 where
  Idles : Idle c m r n → Effect c m r n
  OpensOne : (bytes : List ℕ) → Opens c m r n bytes → Effect c m r n
  AcceptsOne : (id : ℕ) → (ids : List ℕ) → Accepts c m r n id ids → Effect c m r n
  TouchesOne : (id : ℕ) → (sc : StreamCall) → (s : Stream) → (t : Stream) → Touches c m r n id sc s t → Effect c m r n

-- ---- refusals

either-way : {X : Type 0} (b : Bool) (x y : X) → x ≡ y → (if b then x else y) ≡ y
either-way true x y e = e
either-way false x y e = refl

wrote-nothing : (h : Past) → wrote [] h ≡ h
wrote-nothing h = rw append-nil refl

refused-untold : (c : Call) (fault : CallFault) (i : ℕ) → Untold c (reply.Refused fault) i
refused-untold (call.Write id bytes) fault i = record { outbound = λ h. either-way (id == i) _ h (wrote-nothing h); inbound = λ h. refl }
refused-untold (call.Finish id) fault i = record { outbound = λ h. either-way (id == i) _ h refl; inbound = λ h. refl }
refused-untold (call.Read id max) fault i = record { outbound = λ h. refl; inbound = λ h. either-way (id == i) _ h (rw append-nil refl) }
refused-untold call.Open fault i = record { outbound = λ h. refl; inbound = λ h. refl }
refused-untold (call.OpenWith bytes) fault i = record { outbound = λ h. refl; inbound = λ h. refl }
refused-untold call.Accept fault i = record { outbound = λ h. refl; inbound = λ h. refl }
refused-untold (call.Reset id) fault i = record { outbound = λ h. refl; inbound = λ h. refl }
refused-untold (call.Forget id) fault i = record { outbound = λ h. refl; inbound = λ h. refl }
refused-untold call.Ping fault i = record { outbound = λ h. refl; inbound = λ h. refl }
refused-untold (call.Ponged k) fault i = record { outbound = λ h. refl; inbound = λ h. refl }
refused-untold call.GoAway fault i = record { outbound = λ h. refl; inbound = λ h. refl }
refused-untold call.Close fault i = record { outbound = λ h. refl; inbound = λ h. refl }

pub untold-is : (c : Call) (r r' : Reply) (i : ℕ) → r' ≡ r → Untold c r i → Untold c r' i
untold-is c r r' i e u = subst (λ (x : Reply). Untold c x i) (sym e) u

pub refused : (c : Call) (fault : CallFault) (m : Machine) (r : Reply) (n : Machine) → RefusedWith fault m r n → Effect c m r n
refused c fault m r n h = Idles (record { same = unmoved m n h.1; told = λ i. untold-is c (reply.Refused fault) r i h.0 (refused-untold c fault i) })

-- ---- opening

open-untold : (r : Reply) (i : ℕ) → Untold call.Open r i
open-untold r i = record { outbound = λ h. refl; inbound = λ h. refl }

opens : (m : Machine) (r : Reply) (n : Machine) (o : Option CallFault) → OpenRule o (reply.Opened m.me.next) [] m r n → Effect call.Open m r n
opens m r n (Some fault) h = refused call.Open fault m r n h
opens m r n None (inr h) = refused call.Open (OutOfMemory evidence) m r n h
opens m r n None (inl h) = OpensOne [] (record {
  number = refl;
  fits = omega arith;
  now = h.1;
  outbound = λ p. sym (wrote-nothing p);
  inbound = λ p. refl;
  others = λ i d. open-untold r i;
})

-- the first of so many, or as many as there are
take-least : (n : ℕ) (xs : List ℕ) → take (min (length xs) n) xs ≡ take n xs
take-least n xs = grind (arith, lists)

take-fits : (n : ℕ) (xs : List ℕ) → length (take n xs) ≤ n
take-fits n xs = grind (arith, lists)

opens-with : (bytes : List ℕ) (m : Machine) (r : Reply) (n : Machine) (o : Option CallFault) (k : ℕ) → k ≡ first_credit →
    OpenRule o (reply.OpenedWith m.me.next (min (length bytes) k)) (take k bytes) m r n → Effect (call.OpenWith bytes) m r n
opens-with bytes m r n (Some fault) k e h = refused (call.OpenWith bytes) fault m r n h
opens-with bytes m r n None k e (inr h) = refused (call.OpenWith bytes) (OutOfMemory evidence) m r n h
opens-with bytes m r n None k e (inl h) = OpensOne (take k bytes) (record {
  number = refl;
  fits = subst (λ (x : ℕ). length (take k bytes) ≤ x) e (take-fits k bytes);
  now = h.1;
  outbound = λ p. subst (λ (x : Reply). tell_outbound m.me.next (call.OpenWith bytes) x p ≡ wrote (take k bytes) p) (sym h.0) (rw (is-self m.me.next) (rw (take-least k bytes) refl));
  inbound = λ p. subst (λ (x : Reply). tell_inbound m.me.next (call.OpenWith bytes) x p ≡ p) (sym h.0) refl;
  others = λ i d. untold-is (call.OpenWith bytes) _ r i h.0 (record { outbound = λ p. rw (is-other i m.me.next d) refl; inbound = λ p. refl });
})

-- ---- accepting

accept-untold : (r : Reply) (i : ℕ) → Untold call.Accept r i
accept-untold r i = record { outbound = λ h. refl; inbound = λ h. refl }

accepts : (m : Machine) (r : Reply) (n : Machine) (ids : List ℕ) → m.me.offered ≡ ids → AcceptRule ids m r n → Effect call.Accept m r n
accepts m r n [] e h = Idles (record { same = unmoved m n (elim (when m.me.lost) [ inl l ↦ (if-so_true _ _ _ l h).1 | inr l ↦ (if-so_false _ _ _ l h).1 ]); told = accept-untold r })
accepts m r n (id ∷ ids) e h = AcceptsOne id ids (record { number = ap front e; front = e; now = h.1; told = accept-untold r })

-- ---- a stream

-- the calls of one stream
abbrev pub call_on : ℕ → StreamCall → Call
call_on id (Writes bytes) = call.Write id bytes
call_on id (Reads max) = call.Read id max
call_on id Finishes = call.Finish id
call_on id Resets = call.Reset id
call_on id Forgets = call.Forget id

self-out : (id : ℕ) (sc : StreamCall) (r : Reply) (h : Past) → tell_outbound id (call_on id sc) r h ≡ past_out sc r h
self-out id (Writes bytes) r h = rw (is-self id) refl
self-out id (Reads max) r h = refl
self-out id Finishes r h = rw (is-self id) refl
self-out id Resets r h = refl
self-out id Forgets r h = refl

self-inbound : (id : ℕ) (sc : StreamCall) (r : Reply) (h : Past) → tell_inbound id (call_on id sc) r h ≡ past_inbound sc r h
self-inbound id (Writes bytes) r h = refl
self-inbound id (Reads max) r h = rw (is-self id) refl
self-inbound id Finishes r h = refl
self-inbound id Resets r h = refl
self-inbound id Forgets r h = refl

other-untold : (id i : ℕ) (sc : StreamCall) (r : Reply) → i ≢ id → Untold (call_on id sc) r i
other-untold id i (Writes bytes) r d = record { outbound = λ h. rw (is-other i id d) refl; inbound = λ h. refl }
other-untold id i (Reads max) r d = record { outbound = λ h. refl; inbound = λ h. rw (is-other i id d) refl }
other-untold id i Finishes r d = record { outbound = λ h. rw (is-other i id d) refl; inbound = λ h. refl }
other-untold id i Resets r d = record { outbound = λ h. refl; inbound = λ h. refl }
other-untold id i Forgets r d = record { outbound = λ h. refl; inbound = λ h. refl }

touched-on : (id : ℕ) (sc : StreamCall) (m : Machine) → touched (call_on id sc) m ≡ Some id
touched-on id (Writes bytes) m = refl
touched-on id (Reads max) m = refl
touched-on id Finishes m = refl
touched-on id Resets m = refl
touched-on id Forgets m = refl

touches : (id : ℕ) (sc : StreamCall) (o : Option Stream) (m : Machine) (r : Reply) (n : Machine) → look id m.streams ≡ o → OnStream id sc o m r n → Effect (call_on id sc) m r n
touches id sc None m r n e h = refused (call_on id sc) NoStream m r n h
touches id sc (Some s) m r n e h = TouchesOne id sc s h.0 (record {
  number = touched-on id sc m;
  there = e;
  rule = h.1;
  now = h.2;
  outbound = self-out id sc r;
  inbound = self-inbound id sc r;
  others = λ i d. other-untold id i sc r d;
})

-- ---- the session

idle : (c : Call) (m : Machine) (r : Reply) (n k : Machine) → n ≡ k → Unmoved m k → ((i : ℕ) → Untold c r i) → Effect c m r n
idle c m r n k e u t = Idles (record { same = subst (Unmoved m) (sym e) u; told = t })

pings : (m : Machine) (r : Reply) (n : Machine) → PingRule m r n → Effect call.Ping m r n
pings m r n h = elim (when m.me.lost) [
  | inl l ↦ refused call.Ping Lost m r n (if-so_true _ _ _ l h)
  | inr l ↦ (let k = if-so_false _ _ _ l h in elim (when (nat_le 16 (length m.me.pings))) [
    | inl p ↦ refused call.Ping PingsPending m r n (if-so_true _ _ _ p k)
    | inr p ↦ (let q = if-so_false _ _ _ p k in idle call.Ping m r n _ q.1 (record { streams = refl; you = refl; window = refl; next = refl; offered = refl }) (λ i. record { outbound = λ x. refl; inbound = λ x. refl }))
  ])
]

pongs : (k : ℕ) (m : Machine) (r : Reply) (n : Machine) → PongedRule k m r n → Effect (call.Ponged k) m r n
pongs k m r n h = elim (when (found_back (look k m.me.pings))) [
  | inl b ↦ (let q = if-so_true _ _ _ b h in idle (call.Ponged k) m r n _ q.1 (record { streams = refl; you = refl; window = refl; next = refl; offered = refl }) (λ i. record { outbound = λ x. refl; inbound = λ x. refl }))
  | inr b ↦ (let q = if-so_false _ _ _ b h in elim (when m.me.lost) [
    | inl l ↦ refused (call.Ponged k) Lost m r n (if-so_true _ _ _ l q)
    | inr l ↦ (let q2 = if-so_false _ _ _ l q in idle (call.Ponged k) m r n _ q2.1 (record { streams = refl; you = refl; window = refl; next = refl; offered = refl }) (λ i. record { outbound = λ x. refl; inbound = λ x. refl }))
  ])
]

goes-away : (m : Machine) (r : Reply) (n : Machine) → OpenSideRule call.GoAway m r n → Effect call.GoAway m r n
goes-away m r n h = elim (when m.me.lost) [
  | inl l ↦ refused call.GoAway Lost m r n (if-so_true _ _ _ l h)
  | inr l ↦ (let q = if-so_false _ _ _ l h in idle call.GoAway m r n _ q.1 (record { streams = refl; you = refl; window = refl; next = refl; offered = refl }) (λ i. record { outbound = λ x. refl; inbound = λ x. refl }))
]

effect-open_side : (c : Call) (m : Machine) (r : Reply) (n : Machine) → OpenSideRule c m r n → Effect c m r n
effect-open_side call.Open m r n h = opens m r n (open_refusal m) h
effect-open_side (call.OpenWith bytes) m r n h = opens-with bytes m r n (open_refusal m) first_credit refl h
effect-open_side call.Accept m r n h = accepts m r n m.me.offered refl h
effect-open_side (call.Write id bytes) m r n h = touches id (Writes bytes) (look id m.streams) m r n refl h
effect-open_side (call.Read id max) m r n h = touches id (Reads max) (look id m.streams) m r n refl h
effect-open_side (call.Finish id) m r n h = touches id Finishes (look id m.streams) m r n refl h
effect-open_side (call.Reset id) m r n h = touches id Resets (look id m.streams) m r n refl h
effect-open_side (call.Forget id) m r n h = touches id Forgets (look id m.streams) m r n refl h
effect-open_side call.Ping m r n h = pings m r n h
effect-open_side (call.Ponged k) m r n h = pongs k m r n h
effect-open_side call.GoAway m r n h = goes-away m r n h
effect-open_side call.Close m r n h = idle call.Close m r n _ h.1 (record { streams = refl; you = refl; window = refl; next = refl; offered = refl }) (λ i. record { outbound = λ x. refl; inbound = λ x. refl })

-- every call does one of these
pub effect : (c : Call) (m : Machine) (r : Reply) (n : Machine) → Rule c m r n → Effect c m r n
effect c m r n h = elim (when (m.me.closed && not (is_close c))) [
  | inl b ↦ refused c Closed m r n (if-so_true _ _ _ b h)
  | inr b ↦ effect-open_side c m r n (if-so_false _ _ _ b h)
]
