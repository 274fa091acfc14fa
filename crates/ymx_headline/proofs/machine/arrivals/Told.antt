-- What callers were told of a stream, over the steps of the machine.
use Rattle.std.proofs.Common.{◌≡◌, ◌≢◌, ◌⊎◌, inl, inr, ℕ, List, [], ◌∷◌, ◌++◌, min, length, take, Bool, true, false, not, ◌&&◌, ◌||◌, ◌==◌, if◌then◌else◌, nat_le, Option, None, Some, refl, sym, ◌∙◌, ap, subst, arith}
use Rattle.std.specs.Prelude.{MatchBool}
use Rattle.std.proofs.lemmas.Bool.Decides.{nat_tests}
use Rattle.ymx_machine.specs.shared.Evidence.{evidence}
use Rattle.ymx_machine.specs.declared.types.Side.{Side}
use Rattle.ymx_machine.specs.shared.Events.{Call, Reply}
use Rattle.ymx_machine.specs.declared.types.Reply.TheVariants as reply
use Rattle.ymx_machine.specs.declared.types.Call.TheVariants as call
use Rattle.ymx_machine.specs.declared.types.CallFault.{CallFault}
use Rattle.ymx_machine.specs.declared.types.CallFault.TheVariants.{NoStream, Lost, Closed, OutOfMemory, PingsPending}
use Rattle.ymx_machine.specs.declared.types.Step.{Step}
use Rattle.ymx_machine.specs.declared.types.Step.TheVariants as step
use Rattle.ymx_machine.specs.declared.types.Answer.{Answer}
use Rattle.ymx_machine.specs.declared.types.Answer.TheVariants as answer
use Rattle.ymx_machine.specs.shared.Limits.{first_credit}
use Rattle.ymx_machine.specs.shared.Phases.{Phase, is_up}
use Rattle.ymx_machine.specs.shared.Phases.Phase.{Unborn, Live, WasReset, Lingering}
use Rattle.ymx_machine.specs.shared.Lists.{look, change}
use Rattle.ymx_machine.specs.shared.Steps.{answer_of}
use Rattle.ymx_machine.specs.shared.Replies.{is_done, write_reply, read_reply, finish_reply, reset_reply, forget_reply}
use Rattle.ymx_machine.specs.stream.Lanes.{Mark, is_unsaid, is_here, taken_back}
use Rattle.ymx_machine.specs.stream.Lanes.Mark.{Said, Here}
use Rattle.ymx_machine.specs.stream.Streams.{Stream, opened_stream, stream_write, stream_accept, stream_forget, stream_finish, Move, Allowed, after_move}
use Rattle.ymx_machine.specs.stream.Streams.Move.{Arrive, EndArrives, Return, SynOffered, SynRefused, AckArrives, ResetArrives, Released}
use Rattle.ymx_machine.specs.stream.StreamRules.{StreamCall, StreamRule, ResetsTo, forgets_quietly}
use Rattle.ymx_machine.specs.stream.StreamRules.StreamCall.{Writes, Reads, Finishes, Resets, Forgets}
use Rattle.ymx_machine.specs.machine.Machines.{Machine, mirror_machine}
use Rattle.ymx_machine.specs.machine.CallRules.{Rule, RefusedWith, OpenRule, AcceptRule, OnStream, PingRule, PongedRule, OpenSideRule, open_refusal, machine_opened, found_back, is_close}
use Rattle.ymx_machine.specs.machine.FreeMoves.{FreeMove, MayMove, moved_by, machine_refuses}
use Rattle.ymx_machine.specs.machine.FreeMoves.FreeMove.{OfStream, SynArrives, AwayArrives, PingThere, PingBack}
use Rattle.ymx_machine.proofs.Tests.{when, same_or_not, is-self, is-other, or_true}
use Rattle.ymx_headline.specs.machine.Arrivals.{began_by, left_by}
use Rattle.ymx_headline.proofs.machine.lanes.StreamFacts.{if-so_true, if-so_false, reset-live}
use Rattle.ymx_headline.proofs.machine.lanes.StreamLaws.{struck-down}
use Rattle.ymx_headline.proofs.machine.order.Maps.{look-change, look-change_other, look-add, look-add_other, flipped, look-mirror}
use Rattle.ymx_headline.proofs.machine.order.Cores.{core, Sound, offered-front, offered-stream}
use Rattle.ymx_headline.proofs.machine.order.Openers.{Numbered, free}
use Rattle.ymx_headline.proofs.machine.faces.Pasts.{Past, HasFaces}
use Rattle.ymx_headline.proofs.machine.faces.MachineFaces.{FaceAt, Faced}
use Rattle.ymx_headline.proofs.machine.faces.Effects.{call_on}
use Rattle.ymx_headline.proofs.machine.faces.RunFaces.{or-false, same-side}
use Rattle.ymx_headline.proofs.machine.arrivals.Tales.{Tale, has, is_old, Fits, fits-flip, fits-less, fits-offered, fits-refused, fits-released, fits-struck, fits-left, fits-accepted, fits-opened}

-- a stream fits what was told of it
abbrev pub FitsStream : Tale → Tale → Stream → Type 0
FitsStream x y s = Fits x y s.me s.you s.rst_outbound s.rst_inbound

abbrev pub FitsAt : Tale → Tale → Option Stream → Type 0
FitsAt x y None = (has x ≡ false) × (has y ≡ false)
FitsAt x y (Some s) = FitsStream x y s

at-is : (x y : Tale) (o q : Option Stream) → q ≡ o → FitsAt x y o → FitsAt x y q
at-is x y o q e h = subst (FitsAt x y) (sym e) h

stream-is : (x y : Tale) (s t : Stream) → t ≡ s → FitsStream x y s → FitsStream x y t
stream-is x y s t e h = subst (FitsStream x y) (sym e) h

-- ---- what may arrive

back-unsaid : (m : Mark) → is_unsaid m ≡ true → is_unsaid (taken_back m) ≡ true
back-unsaid m e = grind arith

fits-move : (x y : Tale) (v : Move) (s : Stream) → (is_unsaid s.rst_inbound ≡ false → is_up s.you ≡ false) → Allowed v s → FitsStream x y s → FitsStream x y (after_move v s)
fits-move x y (Arrive n) s d a h = h
fits-move x y EndArrives s d a h = h
fits-move x y (Return n) s d a h = h
fits-move x y SynOffered s d a h = fits-offered x y s.me s.you s.rst_outbound s.rst_inbound a h
fits-move x y SynRefused s d a h = fits-refused x y s.me s.you s.rst_outbound s.rst_inbound a h
fits-move x y AckArrives s d a h = h
fits-move x y ResetArrives s d a h = fits-struck x y s.me s.you s.rst_outbound s.rst_inbound (taken_back s.rst_outbound) Here (struck-down s.me a.1) (d (ap is_unsaid a.0)) (ap is_unsaid a.0) (back-unsaid s.rst_outbound) h
fits-move x y Released s d a h = fits-released x y s.me s.you s.rst_outbound s.rst_inbound a h

-- one stream changes
at-change : (x z y : Tale) (i j : ℕ) (f : Stream → Stream) (s : Stream) (xs : List (ℕ × Stream)) → look j xs ≡ Some s →
    (i ≡ j → FitsStream x y s → FitsStream z y (f s)) → (i ≢ j → (o : Option Stream) → FitsAt x y o → FitsAt z y o) →
    FitsAt x y (look i xs) → FitsAt z y (look i (change j f xs))
at-change x z y i j f s xs e g u h = elim (same_or_not i j) [
  | inl d ↦ at-is z y (Some (f s)) _ (ap (λ (k : ℕ). look k (change j f xs)) d ∙ look-change j f xs s e)
      (g d (at-is x y _ (Some s) (sym (ap (λ (k : ℕ). look k xs) d ∙ e)) h))
  | inr d ↦ at-is z y _ _ (look-change_other i j f xs d) (u d (look i xs) h)
]

-- what the face of a stream knows of resets
said-down : (mine yours i : ℕ) (po pi : Past) (s : Stream) (o : Option Stream) → o ≡ Some s → FaceAt mine yours po pi o → is_unsaid s.rst_inbound ≡ false → is_up s.you ≡ false
said-down mine yours i po pi s o e f = let k : HasFaces mine yours s po pi = subst (FaceAt mine yours po pi) e f in k.rst_inbound

syn-at : (x y : Tale) (i id : ℕ) (counted : Bool) (m : Machine) (s : Stream) → look id m.streams ≡ Some s → s.me ≡ Unborn →
    ((machine_refuses m || counted) ≡ true) ⊎ ((machine_refuses m || counted) ≡ false) → FitsAt x y (look i m.streams) → FitsAt x y (look i (moved_by (SynArrives id counted) m).streams)
syn-at x y i id counted m s e a (inl b) h =
    rw b (at-change x x y i id (after_move SynRefused) s m.streams e (λ d q. fits-refused x y s.me s.you s.rst_outbound s.rst_inbound a q) (λ d o q. q) h)
syn-at x y i id counted m s e a (inr b) h =
    rw b (at-change x x y i id (after_move SynOffered) s m.streams e (λ d q. fits-offered x y s.me s.you s.rst_outbound s.rst_inbound a q) (λ d o q. q) h)

pub told-move : (mine yours i : ℕ) (po pi : Past) (x y : Tale) (v : FreeMove) (m : Machine) → MayMove v m → Faced mine yours i po pi (core m) →
    FitsAt x y (look i m.streams) → FitsAt x y (look i (moved_by v m).streams)
told-move mine yours i po pi x y (OfStream id v) m a k h =
    at-change x x y i id (after_move v) a.2.0 m.streams a.2.1
    (λ d q. fits-move x y v a.2.0 (said-down mine yours i po pi a.2.0 (look i m.streams) (ap (λ (n : ℕ). look n m.streams) d ∙ a.2.1) k.face) a.2.2 q) (λ d o q. q) h
told-move mine yours i po pi x y (SynArrives id counted) m a k h = syn-at x y i id counted m a.1.0 a.1.1 a.1.2 (when (machine_refuses m || counted)) h
told-move mine yours i po pi x y AwayArrives m a k h = h
told-move mine yours i po pi x y (PingThere number) m a k h = h
told-move mine yours i po pi x y (PingBack number) m a k h = h

-- ---- from the other side

at-flip : (x y : Tale) (o : Option Stream) → FitsAt x y o → FitsAt y x (flipped o)
at-flip x y None h = (h.1, h.0)
at-flip x y (Some s) h = fits-flip x y s.me s.you s.rst_outbound s.rst_inbound h

at-unflip : (x y : Tale) (o : Option Stream) → FitsAt x y (flipped o) → FitsAt y x o
at-unflip x y None h = (h.1, h.0)
at-unflip x y (Some s) h = fits-flip x y s.you s.me s.rst_inbound s.rst_outbound h

pub told-mirror : (x y : Tale) (i : ℕ) (m : Machine) → FitsAt x y (look i m.streams) → FitsAt y x (look i (mirror_machine m).streams)
told-mirror x y i m h = at-is y x _ _ (look-mirror i m.streams) (at-flip x y (look i m.streams) h)

pub told-unmirror : (x y : Tale) (i : ℕ) (m : Machine) → FitsAt x y (look i (mirror_machine m).streams) → FitsAt y x (look i m.streams)
told-unmirror x y i m h = at-unflip x y (look i m.streams) (at-is x y _ _ (sym (look-mirror i m.streams)) h)

-- ---- a call

-- what a step adds to what a side was told of a stream
abbrev pub longer : Side → ℕ → Step → Answer → Tale → Tale
longer side i st given x = record { began = x.began || began_by side i st given; left = x.left || left_by side i st given }

no-more : (b c d : Bool) → (b && not (c || d)) ≡ true → (b && not c) ≡ true
no-more b c d e = grind arith

none-left : (b c : Bool) → (b && not (c || true)) ≡ false
none-left b c = grind arith

-- a step that gives no stream leaves a side no more than it had
less : (side : Side) (i : ℕ) (st : Step) (given : Answer) (x : Tale) → began_by side i st given ≡ false → has (longer side i st given x) ≡ true → has x ≡ true
less side i st given x e u = no-more x.began x.left (left_by side i st given) (subst (λ (b : Bool). (b && not (x.left || left_by side i st given)) ≡ true) (ap (λ (b : Bool). x.began || b) e ∙ or-false x.began) u)

same-began : (side : Side) (i : ℕ) (st : Step) (given : Answer) (x : Tale) → began_by side i st given ≡ false → (longer side i st given x).began ≡ x.began
same-began side i st given x e = ap (λ (b : Bool). x.began || b) e ∙ or-false x.began

has-none : (a b : Bool) → (a ≡ true → b ≡ true) → b ≡ false → a ≡ false
has-none a b f e = grind arith

at-less : (side : Side) (i : ℕ) (st : Step) (given : Answer) (x y : Tale) (o : Option Stream) → began_by side i st given ≡ false → FitsAt x y o → FitsAt (longer side i st given x) y o
at-less side i st given x y None e h = (has-none _ _ (less side i st given x e) h.0, h.1)
at-less side i st given x y (Some s) e h = fits-less x (longer side i st given x) y s.me s.you s.rst_outbound s.rst_inbound (less side i st given x e) (same-began side i st given x e) h

-- a reply that gives a stream
abbrev is_given : Reply → Bool
is_given (reply.Opened id) = true
is_given (reply.OpenedWith id n) = true
is_given (reply.Accepted (Some id)) = true
is_given _ = false

not-given : (side a : Side) (i : ℕ) (c : Call) (r : Reply) → is_given r ≡ false → began_by side i (step.At a c) (answer_of r) ≡ false
not-given side a i c (reply.Opened id) e = absurd cc
not-given side a i c (reply.OpenedWith id n) e = absurd cc
not-given side a i c (reply.Accepted (Some id)) e = absurd cc
not-given side a i c (reply.Accepted None) e = refl
not-given side a i c _ e = refl

refused-not : (fault : CallFault) (r : Reply) → r ≡ reply.Refused fault → is_given r ≡ false
refused-not fault r e = ap is_given e

-- the streams are the same, and none was given
at-same : (a : Side) (i : ℕ) (c : Call) (r : Reply) (x y : Tale) (m n : Machine) → is_given r ≡ false → n.streams ≡ m.streams →
    FitsAt x y (look i m.streams) → FitsAt (longer a i (step.At a c) (answer_of r) x) y (look i n.streams)
at-same a i c r x y m n g e h =
    at-is _ y _ _ (ap (look i) e) (at-less a i (step.At a c) (answer_of r) x y (look i m.streams) (not-given a a i c r g) h)

at-refused : (a : Side) (i : ℕ) (c : Call) (fault : CallFault) (r : Reply) (x y : Tale) (m n : Machine) → RefusedWith fault m r n →
    FitsAt x y (look i m.streams) → FitsAt (longer a i (step.At a c) (answer_of r) x) y (look i n.streams)
at-refused a i c fault r x y m n e h = at-same a i c r x y m n (refused-not fault r e.0) (ap (λ (k : Machine). k.streams) e.1) h

-- a stream is opened
at-opened : (a : Side) (i : ℕ) (st : Step) (given : Answer) (bytes : List ℕ) (x y : Tale) (m n : Machine) → Numbered (core m) →
    began_by a i st given ≡ (m.me.next == i) → n ≡ machine_opened bytes m → FitsAt x y (look i m.streams) → FitsAt (longer a i st given x) y (look i n.streams)
at-opened a i st given bytes x y m n k g e h = at-is _ y _ _ (ap (λ (v : Machine). look i v.streams) e) (elim (same_or_not i m.me.next) [
  | inl d ↦ (let none : look i m.streams ≡ None = ap (λ (v : ℕ). look v m.streams) d ∙ free (core m) k in
      let was : FitsAt x y None = at-is x y _ None (sym none) h in
      let began : began_by a i st given ≡ true = g ∙ (ap (λ (v : ℕ). m.me.next == v) d ∙ is-self m.me.next) in
      at-is _ y (Some (stream_write bytes (opened_stream m.me.window m.you.window))) _
      (ap (λ (v : ℕ). look i (m.streams ++ (v, stream_write bytes (opened_stream m.me.window m.you.window)) ∷ [])) (sym d) ∙ look-add i _ m.streams none)
      (fits-opened (longer a i st given x) y (ap (λ (b : Bool). x.began || b) began ∙ or_true x.began) was.1))
  | inr d ↦ at-is _ y _ _ (look-add_other i m.me.next _ m.streams d) (at-less a i st given x y (look i m.streams) (g ∙ is-other i m.me.next d) h)
])

opens-told : (a : Side) (i : ℕ) (c : Call) (o : Option CallFault) (given : Reply) (bytes : List ℕ) (x y : Tale) (m : Machine) (r : Reply) (n : Machine) → Numbered (core m) →
    began_by a i (step.At a c) (answer_of given) ≡ (m.me.next == i) → OpenRule o given bytes m r n →
    FitsAt x y (look i m.streams) → FitsAt (longer a i (step.At a c) (answer_of r) x) y (look i n.streams)
opens-told a i c (Some fault) given bytes x y m r n k g e h = at-refused a i c fault r x y m n e h
opens-told a i c None given bytes x y m r n k g (inr e) h = at-refused a i c (OutOfMemory evidence) r x y m n e h
opens-told a i c None given bytes x y m r n k g (inl e) h =
    subst (λ (w : Reply). FitsAt (longer a i (step.At a c) (answer_of w) x) y (look i n.streams)) (sym e.0) (at-opened a i (step.At a c) (answer_of given) bytes x y m n k g e.1 h)

-- one is accepted
accepts-told : (mine yours : ℕ) (a : Side) (i : ℕ) (ids : List ℕ) (x y : Tale) (m : Machine) (r : Reply) (n : Machine) → m.me.offered ≡ ids → Sound mine yours (core m) → AcceptRule ids m r n →
    FitsAt x y (look i m.streams) → FitsAt (longer a i (step.At a call.Accept) (answer_of r) x) y (look i n.streams)
accepts-told mine yours a i [] x y m r n o so e h = elim (when m.me.lost) [
  | inl l ↦ at-refused a i call.Accept Lost r x y m n (if-so_true _ _ _ l e) h
  | inr l ↦ (let k = if-so_false _ _ _ l e in at-same a i call.Accept r x y m n (ap is_given k.0) (ap (λ (v : Machine). v.streams) k.1) h)
]
accepts-told mine yours a i (id ∷ ids) x y m r n o so e h =
    let s = offered-stream (look id m.streams) (offered-front mine yours (core m) id ids o so) in
    let given = answer.Accepted (Some id) in
    let began : began_by a i (step.At a call.Accept) given ≡ (id == i) = rw (same-side a) refl in
    subst (λ (w : Reply). FitsAt (longer a i (step.At a call.Accept) (answer_of w) x) y (look i n.streams)) (sym e.0)
    (at-is _ y _ _ (ap (λ (v : Machine). look i v.streams) e.1)
    (at-change x (longer a i (step.At a call.Accept) given x) y i id (stream_accept m.me.lost) s.0 m.streams s.1
    (λ d q. fits-accepted x (longer a i (step.At a call.Accept) given x) y s.0.me s.0.you s.0.rst_outbound s.0.rst_inbound s.2
    (ap (λ (b : Bool). x.began || b) (began ∙ (ap (λ (v : ℕ). id == v) d ∙ is-self id)) ∙ or_true x.began) q)
    (λ d w q. at-less a i (step.At a call.Accept) given x y w (began ∙ is-other i id d) q) h))

-- ---- a call on the stream

write-not : (lost : Bool) (bytes : List ℕ) (p : Phase) (said : Bool) (credit : ℕ) → is_given (write_reply lost bytes p said credit) ≡ false
write-not lost bytes p said credit = grind (arith, nat_tests)

read-not : (lost : Bool) (max : ℕ) (p : Phase) (here : List ℕ) (ended : Bool) → is_given (read_reply lost max p here ended) ≡ false
read-not lost max p here ended = grind (arith, nat_tests)

finish-not : (lost : Bool) (p : Phase) (said : Bool) → is_given (finish_reply lost p said) ≡ false
finish-not lost p said = grind arith

reset-not : (lost : Bool) (p : Phase) → is_given (reset_reply lost p) ≡ false
reset-not lost p = grind arith

forget-not : (p : Phase) → is_given (forget_reply p) ≡ false
forget-not p = grind arith

rule-not : (lost : Bool) (c : StreamCall) (s t : Stream) (r : Reply) → StreamRule lost c s r t → is_given r ≡ false
rule-not lost (Writes bytes) s t r (inl h) = ap is_given h.0 ∙ write-not lost bytes s.me (not (is_unsaid s.outbound.fin)) s.outbound.credit
rule-not lost (Writes bytes) s t r (inr h) = ap is_given h.1
rule-not lost (Reads max) s t r h = ap is_given h.0 ∙ read-not lost max s.me s.inbound.here (is_here s.inbound.fin)
rule-not lost Finishes s t r h = ap is_given h.0 ∙ finish-not lost s.me (not (is_unsaid s.outbound.fin))
rule-not lost Resets s t r h = ap is_given h.0 ∙ reset-not lost s.me
rule-not lost Forgets s t r h = ap is_given h.0 ∙ forget-not s.me

-- the calls by which a side leaves a stream
abbrev leaves : StreamCall → Bool
leaves Resets = true
leaves Forgets = true
leaves _ = false

is-done : (r : Reply) → is_done r ≡ true → r ≡ reply.Done
is-done r e = grind arith

-- what a call does to a stream that a side doesn't leave
kept-ends : (z y : Tale) (s t : Stream) → t.me ≡ s.me → t.you ≡ s.you → t.rst_outbound ≡ s.rst_outbound → t.rst_inbound ≡ s.rst_inbound →
    Fits z y s.me s.you s.rst_outbound s.rst_inbound → FitsStream z y t
kept-ends z y s t a b c d h = rw (a, b, c, d) h

finish-ends : (b : Bool) (s : Stream) → (let t = if b then stream_finish s else s in (t.me ≡ s.me) × (t.you ≡ s.you) × (t.rst_outbound ≡ s.rst_outbound) × (t.rst_inbound ≡ s.rst_inbound))
finish-ends true s = (refl, refl, refl, refl)
finish-ends false s = (refl, refl, refl, refl)

live-old : (p : Phase) → p ≡ Live → is_old p ≡ true
live-old p e = ap is_old e

forget-old : (p : Phase) → is_done (forget_reply p) ≡ true → is_old p ≡ true
forget-old p e = grind arith

resets-fits : (x z y : Tale) (o : Phase) (s t : Stream) → is_old o ≡ true → is_up o ≡ false → is_old s.me ≡ true → has z ≡ false → z.began ≡ x.began → ResetsTo o s t → FitsStream x y s → FitsStream z y t
resets-fits x z y o s t w u l n e h f = stream-is z y _ t h.4 (fits-left x z y s.me o s.you s.rst_outbound Said s.rst_inbound l w u n e f)

forgets-fits : (lost : Bool) (x z y : Tale) (s t : Stream) → is_old s.me ≡ true → has z ≡ false → z.began ≡ x.began → (forgets_quietly lost s ≡ true) ⊎ (forgets_quietly lost s ≡ false) →
    MatchBool (forgets_quietly lost s) (t ≡ stream_forget s) (ResetsTo Lingering s t) → FitsStream x y s → FitsStream z y t
forgets-fits lost x z y s t l n e (inl q) h f =
    stream-is z y _ t (if-so_true _ _ _ q h) (fits-left x z y s.me Lingering s.you s.rst_outbound s.rst_outbound s.rst_inbound l refl refl n e f)
forgets-fits lost x z y s t l n e (inr q) h f = resets-fits x z y Lingering s t refl refl l n e (if-so_false _ _ _ q h) f

-- `gone`: where the call was done, the side has the stream no more
rule-fits : (lost : Bool) (c : StreamCall) (s t : Stream) (r : Reply) (x z y : Tale) → (has z ≡ true → has x ≡ true) → z.began ≡ x.began →
    (leaves c ≡ true → is_done r ≡ true → has z ≡ false) → StreamRule lost c s r t → FitsStream x y s → FitsStream z y t
rule-fits lost (Writes bytes) s t r x z y l b gone (inl h) f = stream-is z y _ t h.1 (fits-less x z y s.me s.you s.rst_outbound s.rst_inbound l b f)
rule-fits lost (Writes bytes) s t r x z y l b gone (inr h) f = stream-is z y _ t h.2 (fits-less x z y s.me s.you s.rst_outbound s.rst_inbound l b f)
rule-fits lost (Reads max) s t r x z y l b gone h f = stream-is z y _ t h.1 (fits-less x z y s.me s.you s.rst_outbound s.rst_inbound l b f)
rule-fits lost Finishes s t r x z y l b gone h f =
    let k = finish-ends (is_done r) s in
    stream-is z y (if is_done r then stream_finish s else s) t h.1
    (kept-ends z y s (if is_done r then stream_finish s else s) k.0 k.1 k.2 k.3 (fits-less x z y s.me s.you s.rst_outbound s.rst_inbound l b f))
rule-fits lost Resets s t r x z y l b gone h f = elim (when (is_done r)) [
  | inl d ↦ resets-fits x z y WasReset s t refl refl (live-old s.me (reset-live lost s.me (subst (λ (w : Reply). is_done w ≡ true) h.0 d))) (gone refl d) b (if-so_true _ _ _ d h.1) f
  | inr d ↦ stream-is z y s t (if-so_false _ _ _ d h.1) (fits-less x z y s.me s.you s.rst_outbound s.rst_inbound l b f)
]
rule-fits lost Forgets s t r x z y l b gone h f = elim (when (is_done r)) [
  | inl d ↦ forgets-fits lost x z y s t (forget-old s.me (subst (λ (w : Reply). is_done w ≡ true) h.0 d)) (gone refl d) b (when (forgets_quietly lost s)) (if-so_true _ _ _ d h.1) f
  | inr d ↦ stream-is z y s t (if-so_false _ _ _ d h.1) (fits-less x z y s.me s.you s.rst_outbound s.rst_inbound l b f)
]

left-done : (a : Side) (id : ℕ) (c : StreamCall) → leaves c ≡ true → left_by a id (step.At a (call_on id c)) answer.Done ≡ true
left-done a id Resets e = rw (same-side a, is-self id) refl
left-done a id Forgets e = rw (same-side a, is-self id) refl
left-done a id _ e = absurd cc

touches-told : (a : Side) (i id : ℕ) (c : StreamCall) (o : Option Stream) (x y : Tale) (m : Machine) (r : Reply) (n : Machine) → look id m.streams ≡ o → OnStream id c o m r n →
    FitsAt x y (look i m.streams) → FitsAt (longer a i (step.At a (call_on id c)) (answer_of r) x) y (look i n.streams)
touches-told a i id c None x y m r n e h f = at-refused a i (call_on id c) NoStream r x y m n h f
touches-told a i id c (Some s) x y m r n e h f =
    let not_now : began_by a i (step.At a (call_on id c)) (answer_of r) ≡ false = not-given a a i (call_on id c) r (rule-not m.me.lost c s h.0 r h.1) in
    let z = longer a i (step.At a (call_on id c)) (answer_of r) x in
    at-is _ y _ _ (ap (λ (v : Machine). look i v.streams) h.2)
    (at-change x z y i id (λ _. h.0) s m.streams e
    (λ d q. rule-fits m.me.lost c s h.0 r x z y (less a i (step.At a (call_on id c)) (answer_of r) x not_now) (same-began a i (step.At a (call_on id c)) (answer_of r) x not_now)
    (λ l g. gone d l g) h.1 q)
    (λ d w q. at-less a i (step.At a (call_on id c)) (answer_of r) x y w not_now q) f)
  where
    gone : i ≡ id → leaves c ≡ true → is_done r ≡ true → has (longer a i (step.At a (call_on id c)) (answer_of r) x) ≡ false
    gone d l g =
        let b : left_by a i (step.At a (call_on id c)) (answer_of r) ≡ true =
        subst (λ (w : Reply). left_by a i (step.At a (call_on id c)) (answer_of w) ≡ true) (sym (is-done r g)) (subst (λ (k : ℕ). left_by a k (step.At a (call_on id c)) answer.Done ≡ true) (sym d) (left-done a id c l)) in
        ap (λ (k : Bool). (x.began || began_by a i (step.At a (call_on id c)) (answer_of r)) && not (x.left || k)) b ∙ none-left (x.began || began_by a i (step.At a (call_on id c)) (answer_of r)) x.left

-- ---- any call

pings-told : (a : Side) (i : ℕ) (x y : Tale) (m : Machine) (r : Reply) (n : Machine) → PingRule m r n → FitsAt x y (look i m.streams) →
    FitsAt (longer a i (step.At a call.Ping) (answer_of r) x) y (look i n.streams)
pings-told a i x y m r n h f = elim (when m.me.lost) [
  | inl l ↦ at-refused a i call.Ping Lost r x y m n (if-so_true _ _ _ l h) f
  | inr l ↦ (let k = if-so_false _ _ _ l h in elim (when (nat_le 16 (length m.me.pings))) [
    | inl p ↦ at-refused a i call.Ping PingsPending r x y m n (if-so_true _ _ _ p k) f
    | inr p ↦ (let q = if-so_false _ _ _ p k in at-same a i call.Ping r x y m n (ap is_given q.0) (ap (λ (v : Machine). v.streams) q.1) f)
  ])
]

pongs-told : (a : Side) (i k : ℕ) (x y : Tale) (m : Machine) (r : Reply) (n : Machine) → PongedRule k m r n → FitsAt x y (look i m.streams) →
    FitsAt (longer a i (step.At a (call.Ponged k)) (answer_of r) x) y (look i n.streams)
pongs-told a i k x y m r n h f = elim (when (found_back (look k m.me.pings))) [
  | inl b ↦ (let q = if-so_true _ _ _ b h in at-same a i (call.Ponged k) r x y m n (ap is_given q.0) (ap (λ (v : Machine). v.streams) q.1) f)
  | inr b ↦ (let q = if-so_false _ _ _ b h in elim (when m.me.lost) [
    | inl l ↦ at-refused a i (call.Ponged k) Lost r x y m n (if-so_true _ _ _ l q) f
    | inr l ↦ (let p = if-so_false _ _ _ l q in at-same a i (call.Ponged k) r x y m n (ap is_given p.0) (ap (λ (v : Machine). v.streams) p.1) f)
  ])
]

aways-told : (a : Side) (i : ℕ) (x y : Tale) (m : Machine) (r : Reply) (n : Machine) → OpenSideRule call.GoAway m r n → FitsAt x y (look i m.streams) →
    FitsAt (longer a i (step.At a call.GoAway) (answer_of r) x) y (look i n.streams)
aways-told a i x y m r n h f = elim (when m.me.lost) [
  | inl l ↦ at-refused a i call.GoAway Lost r x y m n (if-so_true _ _ _ l h) f
  | inr l ↦ (let q = if-so_false _ _ _ l h in at-same a i call.GoAway r x y m n (ap is_given q.0) (ap (λ (v : Machine). v.streams) q.1) f)
]

open_side-told : (mine yours : ℕ) (a : Side) (i : ℕ) (c : Call) (x y : Tale) (m : Machine) (r : Reply) (n : Machine) → Sound mine yours (core m) → Numbered (core m) → OpenSideRule c m r n →
    FitsAt x y (look i m.streams) → FitsAt (longer a i (step.At a c) (answer_of r) x) y (look i n.streams)
open_side-told mine yours a i call.Open x y m r n so k h f = opens-told a i call.Open (open_refusal m) (reply.Opened m.me.next) [] x y m r n k (rw (same-side a) refl) h f
open_side-told mine yours a i (call.OpenWith bytes) x y m r n so k h f =
    opens-told a i (call.OpenWith bytes) (open_refusal m) (reply.OpenedWith m.me.next (min (length bytes) first_credit)) (take first_credit bytes) x y m r n k (rw (same-side a) refl) h f
open_side-told mine yours a i call.Accept x y m r n so k h f = accepts-told mine yours a i m.me.offered x y m r n refl so h f
open_side-told mine yours a i (call.Write id bytes) x y m r n so k h f = touches-told a i id (Writes bytes) (look id m.streams) x y m r n refl h f
open_side-told mine yours a i (call.Read id max) x y m r n so k h f = touches-told a i id (Reads max) (look id m.streams) x y m r n refl h f
open_side-told mine yours a i (call.Finish id) x y m r n so k h f = touches-told a i id Finishes (look id m.streams) x y m r n refl h f
open_side-told mine yours a i (call.Reset id) x y m r n so k h f = touches-told a i id Resets (look id m.streams) x y m r n refl h f
open_side-told mine yours a i (call.Forget id) x y m r n so k h f = touches-told a i id Forgets (look id m.streams) x y m r n refl h f
open_side-told mine yours a i call.Ping x y m r n so k h f = pings-told a i x y m r n h f
open_side-told mine yours a i (call.Ponged number) x y m r n so k h f = pongs-told a i number x y m r n h f
open_side-told mine yours a i call.GoAway x y m r n so k h f = aways-told a i x y m r n h f
open_side-told mine yours a i call.Close x y m r n so k h f = at-same a i call.Close r x y m n (ap is_given h.0) (ap (λ (v : Machine). v.streams) h.1) f

pub told-call : (mine yours : ℕ) (a : Side) (i : ℕ) (c : Call) (x y : Tale) (m : Machine) (r : Reply) (n : Machine) → Sound mine yours (core m) → Numbered (core m) → Rule c m r n →
    FitsAt x y (look i m.streams) → FitsAt (longer a i (step.At a c) (answer_of r) x) y (look i n.streams)
told-call mine yours a i c x y m r n so k h f = elim (when (m.me.closed && not (is_close c))) [
  | inl b ↦ at-refused a i c Closed r x y m n (if-so_true _ _ _ b h) f
  | inr b ↦ open_side-told mine yours a i c x y m r n so k (if-so_false _ _ _ b h) f
]
