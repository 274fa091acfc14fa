-- Each step of a world leaves whole frames under way.
use Rattle.std.proofs.Common.{◌≡◌, ℕ, ◌≤◌, List, [], ◌∷◌, ◌++◌, length, take, drop, Bool, true, false, not, ◌&&◌, refl, sym, ap, ◌∙◌, subst, arith}
use Rattle.std.specs.List.{concat}
use Rattle.std.proofs.lemmas.Grind.{common_steps}
use Rattle.std.proofs.lemmas.List.{append_assoc}
use Rattle.std.proofs.lemmas.List.Elements.{All-nil, All-append}
use Rattle.std.proofs.lemmas.List.Folds.{concat-append}
use Rattle.ymx_model.specs.declared.types.Status.{Status}
use Rattle.ymx_model.specs.declared.types.Status.TheVariants.{Running, Lost, Broken, Closed}
use Rattle.ymx_machine.specs.declared.types.Fed.{Fed}
use Rattle.ymx_machine.specs.shared.Events.{Call}
use Rattle.ymx_model.specs.declared.types.Event.TheVariants as event
use Rattle.ymx_machine.specs.shared.Events.{Reply}
use Rattle.ymx_machine.specs.declared.types.Reply.TheVariants as reply
use Rattle.ymx_machine.specs.declared.types.Step.{Step}
use Rattle.ymx_machine.specs.declared.types.Step.TheVariants as step
use Rattle.ymx_machine.specs.declared.types.Answer.{Answer}
use Rattle.std.specs.Prelude.{MatchBool}
use Rattle.ymx_model.specs.session.Sessions.{Session, is_running, is_closed}
use Rattle.ymx_model.specs.session.Sessions.Incoming.{Head}
use Rattle.ymx_model.specs.session.Calls.{feed_end, status_input_ends}
use Rattle.ymx_model.specs.session.Feeds.{Feeds}
use Rattle.ymx_model.specs.session.Emissions.{Choice, Emits}
use Rattle.ymx_model.specs.session.Histories.{CallGives}
use Rattle.ymx_model.specs.session.Histories.CallGives.{Outcome, NoMemory}
use Rattle.ymx_model.specs.world.Worlds.{World, Pipe, pushed, without_front, fed_count, StepOfA, Steps, Runs, mirror_world}
use Rattle.ymx_model.specs.world.UnderWay.{IsUnderWay, IsOneFrame, held_bytes}
use Rattle.ymx_machine.specs.shared.Steps.{is_of_a}
use Rattle.ymx_law_session.specs.Limits.{IsWithin}
use Rattle.ymx_machine.proofs.Tests.{both_of}
use Rattle.ymx_law_session.proofs.limits.HistoriesKeep.{gives-keep}
use Rattle.ymx_headline.specs.world.Texts.{is_open, HasFrames, AreFrames, AreWithin, IsLater, IsDelivered}
use Rattle.ymx_headline.proofs.world.Emitted.{SameInput, flows-sent}
use Rattle.ymx_headline.proofs.world.Fed.{Follow, Heard, takes-heard, takes-left}
use Rattle.ymx_headline.proofs.world.Called.{call-keeps}

-- ---- one direction

moved : (held pipe out rest begun tail frames more : List ℕ) → held ++ (pipe ++ begun) ≡ tail ++ frames → begun ++ more ≡ out ++ rest →
    held ++ ((pipe ++ out) ++ rest) ≡ tail ++ (frames ++ more)
moved held pipe out rest begun tail frames more e p =
    ap (λ xs. held ++ xs) (append_assoc pipe out rest ∙ ap (λ xs. pipe ++ xs) (sym p) ∙ sym (append_assoc pipe begun more))
    ∙ sym (append_assoc held (pipe ++ begun) more) ∙ ap (λ xs. xs ++ more) e ∙ append_assoc tail frames more

-- what is emitted goes after the frames under way
pub emitted : (may : Choice → Session → Bool) (room : ℕ) (out : List ℕ) (receiver : Session) (pipe : Pipe) (s t : Session) (frames : List (List ℕ)) →
    Emits may s room out t → pipe.stopped ≡ false → IsUnderWay receiver pipe s frames → IsLater receiver pipe t out frames
emitted may room out receiver pipe s t frames e on u =
    let m = flows-sent may out s t e.flows in record {
      more = m.frames;
      under = rw on (record {
        tail = u.tail;
        missing = u.missing;
        each = All-append IsOneFrame frames m.frames u.each m.each;
        text = moved (held_bytes receiver.incoming) pipe.bytes out t.outgoing.bytes s.outgoing.bytes u.tail (concat frames) (concat m.frames) u.text m.bytes
            ∙ ap (λ xs. u.tail ++ xs) (sym (concat-append frames m.frames));
      });
    }

parted : (n k : ℕ) (xs : List ℕ) → k ≤ length (take n xs) → take k (take n xs) ++ drop k xs ≡ xs
parted n k xs l = grind (arith, common_steps)

-- what is fed are the bytes of the first frames under way
pub delivered : (n : ℕ) (fed : Fed) (s t sender : Session) (pipe : Pipe) (frames : List (List ℕ)) → Feeds s (take n pipe.bytes) fed t → IsWithin s → t.status ≡ Running →
    IsUnderWay s pipe sender frames → IsDelivered t (without_front fed.taken pipe) sender frames
delivered n fed s t sender pipe frames f w r u =
    let bytes = take fed.taken (take n pipe.bytes) in
    let rest = drop fed.taken pipe.bytes ++ sender.outgoing.bytes in
    let whole : bytes ++ rest ≡ pipe.bytes ++ sender.outgoing.bytes =
    sym (append_assoc bytes (drop fed.taken pipe.bytes) sender.outgoing.bytes) ∙ ap (λ xs. xs ++ sender.outgoing.bytes) (parted n fed.taken pipe.bytes f.fits) in
    let follow : Follow s.incoming (bytes ++ rest) frames = record {
      tail = u.tail;
      missing = u.missing;
      each = u.each;
      text = ap (λ xs. held_bytes s.incoming ++ xs) whole ∙ u.text;
    } in
    let l = takes-left bytes rest frames s t f.took.0 f.took.1 w r follow in record {
      gone = l.gone;
      left = l.left;
      sum = l.sum;
      under = record { tail = l.follow.tail; missing = l.follow.missing; each = l.follow.each; text = l.follow.text };
    }

-- ---- what a direction needs

pub running_is : (st : Status) → is_running st ≡ true → st ≡ Running
running_is Running e = refl
running_is Lost e = cc
running_is (Broken f) e = cc
running_is Closed e = cc

pub is_on : (b : Bool) → not b ≡ true → b ≡ false
is_on true e = cc
is_on false e = refl

pub record Flows (receiver : Session) (pipe : Pipe) (sender : Session) : Type 0 where
  pub on : pipe.stopped ≡ false
  pub runs : receiver.status ≡ Running
  pub sends : is_closed sender.status ≡ false

flows-is : (receiver : Session) (pipe : Pipe) (sender : Session) → is_open receiver pipe sender ≡ true → Flows receiver pipe sender
flows-is receiver pipe sender c =
    let p = both_of (not pipe.stopped && is_running receiver.status) (not (is_closed sender.status)) c in
    let q = both_of (not pipe.stopped) (is_running receiver.status) p.0 in
    record { on = is_on pipe.stopped q.0; runs = running_is receiver.status q.1; sends = is_on (is_closed sender.status) p.1 }

pub flows-so : (receiver : Session) (pipe : Pipe) (sender : Session) → Flows receiver pipe sender → is_open receiver pipe sender ≡ true
flows-so receiver pipe sender c = rw (c.on, c.runs, c.sends) refl

-- the same frames are under way where nothing of the direction has changed
same-way : (r t : Session) (pipe : Pipe) (s u : Session) (frames : List (List ℕ)) → t.incoming ≡ r.incoming → u.outgoing ≡ s.outgoing →
    IsUnderWay r pipe s frames → IsUnderWay t pipe u frames
same-way r t pipe s u frames i b w = record { tail = w.tail; missing = rw i w.missing; each = w.each; text = rw (i, b) w.text }

same-frames : (r t : Session) (pipe : Pipe) (s u : Session) → t.incoming ≡ r.incoming → (t.status ≡ Running → r.status ≡ Running) →
    (is_closed u.status ≡ false → (is_closed s.status ≡ false) × (u.outgoing ≡ s.outgoing)) → HasFrames r pipe s → HasFrames t pipe u
same-frames r t pipe s u i runs opens h c =
    let k = flows-is t pipe u c in
    let o = opens k.sends in
    let was = h (flows-so r pipe s (record { on = k.on; runs = runs k.runs; sends = o.0 })) in (was.0, same-way r t pipe s u was.0 i o.1 was.1)

-- ---- a step

-- what an emission, a feed, the end of the input and a call leave of the other direction's receiver and sender
emit-receiver : (s t : Session) (pipe : Pipe) (u : Session) → SameInput s t → HasFrames s pipe u → HasFrames t pipe u
emit-receiver s t pipe u m h = same-frames s t pipe u u m.incoming (λ r. sym m.status ∙ r) (λ c. (c, refl)) h

feed-sender : (r : Session) (pipe : Pipe) (s t : Session) → Heard s t → HasFrames r pipe s → HasFrames r pipe t
feed-sender r pipe s t m h = same-frames r r pipe s t refl (λ x. x) (λ c. (m.closed c, m.outgoing)) h

ended-closed : (st : Status) → is_closed (status_input_ends st) ≡ false → is_closed st ≡ false
ended-closed Running c = refl
ended-closed Lost c = refl
ended-closed (Broken f) c = refl
ended-closed Closed c = c

end-sender : (r : Session) (pipe : Pipe) (s : Session) → HasFrames r pipe s → HasFrames r pipe (feed_end s)
end-sender r pipe s h = same-frames r r pipe s (feed_end s) refl (λ x. x) (λ c. (ended-closed s.status c, refl)) h

-- what a call leaves
record Called (s t : Session) : Type 0 where
  status : is_closed t.status ≡ false → t.status ≡ s.status
  outgoing : is_closed t.status ≡ false → t.outgoing ≡ s.outgoing
  incoming : t.incoming ≡ s.incoming

called : (s t : Session) (c : Call) (told : Reply) → CallGives s c told t → Called s t
called s t c told (Outcome answer state) =
    let P : Session → Type 0 = Called s in
    let k = call-keeps c s in subst P (sym state) (record { status = λ o. (k.0 o).0; outgoing = λ o. (k.0 o).1; incoming = k.1 })
called s t c told (NoMemory needs answer state) =
    let P : Session → Type 0 = Called s in subst P (sym state) (record { status = λ o. refl; outgoing = λ o. refl; incoming = refl })

pub running_not_closed : (st : Status) → st ≡ Running → is_closed st ≡ false
running_not_closed st e = rw e refl

call-receiver : (s t : Session) (pipe : Pipe) (u : Session) → Called s t → HasFrames s pipe u → HasFrames t pipe u
call-receiver s t pipe u m h =
    same-frames s t pipe u u m.incoming (λ r. sym (m.status (running_not_closed t.status r)) ∙ r) (λ c. (c, refl)) h

call-sender : (r : Session) (pipe : Pipe) (s t : Session) → Called s t → HasFrames r pipe s → HasFrames r pipe t
call-sender r pipe s t m h = same-frames r r pipe s t refl (λ x. x) (λ c. (ap is_closed (sym (m.status c)) ∙ c, m.outgoing c)) h

-- the direction in which bytes go out
emit-direction : (may : Choice → Session → Bool) (room : ℕ) (out : List ℕ) (r : Session) (pipe : Pipe) (s t : Session) → Emits may s room out t →
    HasFrames r pipe s → HasFrames r (pushed out pipe) t
emit-direction may room out r pipe s t e h c =
    let m = flows-sent may out s t e.flows in
    let k = flows-is r (pushed out pipe) t c in
    let on : pipe.stopped ≡ false = pushed-on pipe.stopped refl k.on in
    let was = h (flows-so r pipe s (record { on = on; runs = k.runs; sends = ap is_closed (sym m.same.status) ∙ k.sends })) in
    let l = emitted may room out r pipe s t was.0 e on was.1 in (was.0 ++ l.more, l.under)
  where
    pushed-on : (b : Bool) → pipe.stopped ≡ b → (pushed out pipe).stopped ≡ false → pipe.stopped ≡ false
    pushed-on true e x = let z : true ≡ false = rw e at x in absurd cc
    pushed-on false e x = e

-- the direction in which bytes come
deliver-direction : (n : ℕ) (fed : Fed) (s t sender : Session) (pipe : Pipe) → Feeds s (take n pipe.bytes) fed t → IsWithin s →
    HasFrames s pipe sender → HasFrames t (without_front fed.taken pipe) sender
deliver-direction n fed s t sender pipe f w h c =
    let k = flows-is t (without_front fed.taken pipe) sender c in
    let m = takes-heard (take fed.taken (take n pipe.bytes)) s t f.took.0 f.took.1 in
    let was = h (flows-so s pipe sender (record { on = k.on; runs = m.running k.runs; sends = k.sends })) in
    let l = delivered n fed s t sender pipe was.0 f w k.runs was.1 in (l.left, l.under)

-- ---- a step of a world

if-so : (X Y : Type 0) (b : Bool) → b ≡ true → MatchBool b X Y → X
if-so X Y true e x = x
if-so X Y false e x = absurd cc

if-not : (X Y : Type 0) (b : Bool) → b ≡ false → MatchBool b X Y → Y
if-not X Y true e x = absurd cc
if-not X Y false e x = x

-- the world after a step
record Steps-well (w v : World) : Type 0 where
  frames : AreFrames w → AreFrames v
  within : AreWithin v

of-a : (may : Choice → Session → Bool) (st : Step) (given : Answer) (w v : World) → StepOfA may st given w v → AreWithin w → Steps-well w v
of-a may (step.At side c) given w v (told, s, g, answer, state) h =
    let m = called w.a s c told g in
    let P : World → Type 0 = Steps-well w in
    subst P (sym state) (record {
      frames = λ f. record { ab = call-sender w.b w.ab w.a s m f.ab; ba = call-receiver w.a s w.ba w.b m f.ba };
      within = record { a = gives-keep may w.a s (event.Call c) told g h.a; b = h.b };
    })
of-a may (step.Emit side room) given w v (out, s, (bytes, same, e), answer, state) h =
    let P : World → Type 0 = Steps-well w in
    let is : out ≡ bytes = cc in
    let e2 : Emits may w.a room out s = rw is e in
    subst P (sym state) (record {
      frames = λ f. record {
        ab = emit-direction may room out w.b w.ab w.a s e2 f.ab;
        ba = emit-receiver w.a s w.ba w.b (flows-sent may out w.a s e2.flows).same f.ba;
      };
      within = record { a = gives-keep may w.a s (event.Emit room) (reply.Emitted out) (bytes, same, e) h.a; b = h.b };
    })
of-a may (step.Deliver direction n) given w v (told, s, (fed, same, f), answer, state) h =
    let P : World → Type 0 = Steps-well w in
    let is : told ≡ reply.Fed fed = same in
    let count : fed_count told ≡ fed.taken = rw is refl in
    let m = takes-heard (take fed.taken (take n w.ab.bytes)) w.b s f.took.0 f.took.1 in
    subst P (sym state) (record {
      frames = λ x. record {
        ab = rw count (deliver-direction n fed w.b s w.a w.ab f h.b x.ab);
        ba = feed-sender w.a w.ba w.b s m x.ba;
      };
      within = record { a = h.a; b = gives-keep may w.b s (event.Feed (take n w.ab.bytes)) told (fed, same, f) h.b };
    })
of-a may (step.Stop direction) given w v (answer, state) h =
    let P : World → Type 0 = Steps-well w in
    subst P (sym state) (record { frames = λ f. record { ab = λ c. absurd cc; ba = f.ba }; within = record { a = h.a; b = h.b } })
of-a may (step.End direction) given w v x h = of w.ab.stopped refl x
  where
    ended : (v : World) → w.ab.stopped ≡ true → v ≡ record w { b = feed_end w.b; ab = record w.ab { ended = true } } → Steps-well w v
    ended v on state =
        let P : World → Type 0 = Steps-well w in
        subst P (sym state) (record {
          frames = λ f. record { ab = λ c. (let k = flows-is (feed_end w.b) (record w.ab { ended = true }) w.a c in let z = k.on in absurd cc); ba = end-sender w.a w.ba w.b f.ba };
          within = record { a = h.a; b = gives-keep may w.b (feed_end w.b) event.FeedEnd reply.Done (refl, refl) h.b };
        })

    of : (b : Bool) → w.ab.stopped ≡ b → StepOfA may (step.End direction) given w v → Steps-well w v
    of true on y = ended v on (if-so _ _ w.ab.stopped on y).1
    of false on y = let P : World → Type 0 = Steps-well w in subst P (sym (if-not _ _ w.ab.stopped on y).1) (record { frames = λ f. f; within = h })

flip : (w : World) → AreWithin w → AreWithin (mirror_world w)
flip w h = record { a = h.b; b = h.a }

flip-frames : (w : World) → AreFrames w → AreFrames (mirror_world w)
flip-frames w f = record { ab = f.ba; ba = f.ab }

steps : (may : Choice → Session → Bool) (st : Step) (given : Answer) (w v : World) → Steps may st given w v → AreWithin w → Steps-well w v
steps may st given w v p h = of (is_of_a st) refl
  where
    of : (b : Bool) → is_of_a st ≡ b → Steps-well w v
    of true e = of-a may st given w v (rw e at p) h
    of false e =
        let m = of-a may st given (mirror_world w) (mirror_world v) (rw e at p) (flip w h) in
        record { frames = λ f. flip-frames (mirror_world v) (m.frames (flip-frames w f)); within = flip (mirror_world v) m.within }

pub step-frames : (may : Choice → Session → Bool) (st : Step) (given : Answer) (w v : World) → Steps may st given w v → AreWithin w → AreFrames w → AreFrames v
step-frames may st given w v p h f = (steps may st given w v p h).frames f

pub step-within : (may : Choice → Session → Bool) (st : Step) (given : Answer) (w v : World) → Steps may st given w v → AreWithin w → AreWithin v
step-within may st given w v p h = (steps may st given w v p h).within

-- ---- a run

pub run-frames : (may : Choice → Session → Bool) (sts : List Step) (given : List Answer) (w v : World) → Runs may sts given w v → AreWithin w → AreFrames w → AreWithin v × AreFrames v
run-frames may [] [] w v e h f = let P : World → Type 0 = λ x. AreWithin x × AreFrames x in subst P (sym e) (h, f)
run-frames may (st ∷ sts) (g ∷ given) w v (mid, p, more) h f =
    run-frames may sts given mid v more (step-within may st g w mid p h) (step-frames may st g w mid p h f)
run-frames may [] (g ∷ given) w v e h f = absurd e
run-frames may (st ∷ sts) [] w v e h f = absurd e

-- two new sessions
pub new-frames : (w : World) → w.a.incoming ≡ Head [] → w.b.incoming ≡ Head [] → w.ab.bytes ≡ [] → w.ba.bytes ≡ [] → w.a.outgoing.bytes ≡ [] → w.b.outgoing.bytes ≡ [] → AreFrames w
new-frames w ia ib pa pb ba bb = record { ab = λ c. ([], empty w.b w.ab w.a ib pa ba); ba = λ c. ([], empty w.a w.ba w.b ia pb bb) }
  where
    empty : (r : Session) (p : Pipe) (s : Session) → r.incoming ≡ Head [] → p.bytes ≡ [] → s.outgoing.bytes ≡ [] → IsUnderWay r p s []
    empty r p s i b g = record { tail = []; missing = rw i refl; each = All-nil IsOneFrame; text = rw (i, b, g) refl }
