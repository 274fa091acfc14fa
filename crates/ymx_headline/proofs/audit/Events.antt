-- One event of a side as steps of the world.
use Rattle.std.proofs.Common.{◌≡◌, ℕ, List, [], ◌∷◌, length, take, Bool, true, false, if◌then◌else◌, refl, sym, ap, subst, ◌∙◌}
use Rattle.std.specs.Prelude.{MatchBool}
use Rattle.ymx_machine.specs.declared.types.Side.TheVariants.{A, B}
use Rattle.ymx_machine.specs.declared.types.Direction.TheVariants.{AB, BA}
use Rattle.ymx_machine.specs.declared.types.Step.{Step}
use Rattle.ymx_machine.specs.declared.types.Step.TheVariants as step
use Rattle.ymx_machine.specs.declared.types.Answer.{Answer}
use Rattle.ymx_machine.specs.declared.types.Answer.TheVariants as answer
use Rattle.ymx_machine.specs.shared.Events.{Reply}
use Rattle.ymx_model.specs.session.Events.{Event}
use Rattle.ymx_model.specs.declared.types.Event.TheVariants as event
use Rattle.ymx_model.specs.session.Sessions.{Session}
use Rattle.ymx_model.specs.session.Calls.{feed_end}
use Rattle.ymx_model.specs.session.Emissions.{Choice}
use Rattle.ymx_model.specs.session.Histories.{Gives}
use Rattle.ymx_machine.specs.shared.Steps.{answer_of}
use Rattle.ymx_model.specs.world.Worlds.{World, Pipe, Steps, Runs, pushed, without_front, fed_count}
use Rattle.ymx_headline.specs.audit.Joints.{ended_pipe, emitted_of, sent_into, TakesFront, Gets, world_steps}
use Rattle.ymx_headline.specs.audit.Told.{answers_of, is_ended_behind}
use Rattle.ymx_headline.proofs.audit.Over.{IsOver, feed-over, gives-over, end-over}

-- ---- the end of a pipe

ended-feed : (bytes : List ℕ) (told : Reply) (p q : Pipe) (en : Bool) → en ≡ p.ended → MatchBool en (q ≡ p) (TakesFront bytes told p q) → q.ended ≡ p.ended
ended-feed bytes told p q true is g = ap (λ (z : Pipe). z.ended) g
ended-feed bytes told p q false is g = ap (λ (z : Pipe). z.ended) g.5

-- a pipe's end is told by the end of its receiver's input alone
pub gets-ended : (e : Event) (told : Reply) (p q : Pipe) → Gets e told p q → q.ended ≡ is_ended_behind p.ended e
gets-ended (event.Call c) told p q g = ap (λ (z : Pipe). z.ended) g
gets-ended (event.Emit n) told p q g = ap (λ (z : Pipe). z.ended) g.2
gets-ended (event.Feed bytes) told p q g = ended-feed bytes told p q p.ended refl g
gets-ended event.FeedEnd told p q g = ap (λ (z : Pipe). z.ended) g

pushed-ended : (out bytes : List ℕ) (stopped ended : Bool) → (pushed out (record { bytes = bytes; stopped = stopped; ended = ended })).ended ≡ ended
pushed-ended out bytes true ended = refl
pushed-ended out bytes false ended = refl

pub put-ended : (e : Event) (told : Reply) (p : Pipe) → (sent_into e told p).ended ≡ p.ended
put-ended (event.Call c) told p = refl
put-ended (event.Emit n) told p = pushed-ended (emitted_of told) p.bytes p.stopped p.ended
put-ended (event.Feed bytes) told p = refl
put-ended event.FeedEnd told p = refl

-- after the end of its input a session is over
pub over-behind : (may : Choice → Session → Bool) (e : Event) (told : Reply) (s t : Session) (p q : Pipe) → Gives may s e told t → Gets e told p q →
    (p.ended ≡ true → IsOver s) → q.ended ≡ true → IsOver t
over-behind may event.FeedEnd told s t p q g h over is = end-over may s t told g
over-behind may (event.Call c) told s t p q g h over is = gives-over may (event.Call c) told s t (over (sym (gets-ended (event.Call c) told p q h) ∙ is)) g
over-behind may (event.Emit n) told s t p q g h over is = gives-over may (event.Emit n) told s t (over (sym (gets-ended (event.Emit n) told p q h) ∙ is)) g
over-behind may (event.Feed bytes) told s t p q g h over is = gives-over may (event.Feed bytes) told s t (over (sym (gets-ended (event.Feed bytes) told p q h) ∙ is)) g

-- ---- an event of A

-- a world of these sessions and pipes
abbrev pub world : (a b : Session) (ab ba : Pipe) → World
world a b ab ba = record { a = a; b = b; ab = ab; ba = ba }

one-step : (may : Choice → Session → Bool) (st : Step) (given : Answer) (w v : World) → Steps may st given w v → Runs may (st ∷ []) (given ∷ []) w v
one-step may st given w v s = (v, s, refl)

feed-a : (may : Choice → Session → Bool) (bytes : List ℕ) (told : Reply) (a b s : Session) (ab q : Pipe) (held : List ℕ) (stopped ended : Bool) →
    let ba : Pipe = record { bytes = held; stopped = stopped; ended = ended } in
    Gives may a (event.Feed bytes) told s → MatchBool ended (q ≡ ba) (TakesFront bytes told ba q) → (ended ≡ true → IsOver a) →
    Runs may (if ended then [] else step.Deliver BA (length bytes) ∷ []) (if ended then [] else answer_of told ∷ []) (world a b ab ba) (world s b ab q)
feed-a may bytes told a b s ab q held stopped true g h over =
    ap (λ (z : Session). world z b ab q) (feed-over a s bytes told may (over refl) g) ∙ ap (λ (z : Pipe). world a b ab z) h
feed-a may bytes told a b s ab q held stopped false g h over =
    let ba : Pipe = record { bytes = held; stopped = stopped; ended = false } in
    let fed : Gives may a (event.Feed (take (length bytes) held)) told s = subst (λ (zs : List ℕ). Gives may a (event.Feed zs) told s) (sym h.4) g in
    let left : q ≡ without_front (fed_count told) ba = h.5 ∙ sym (ap (λ (r : Reply). without_front (fed_count r) ba) h.1) in
    one-step may (step.Deliver BA (length bytes)) (answer_of told) (world a b ab ba) (world s b ab q)
    (told, s, fed, refl, ap (λ (z : Pipe). record { a = b; b = s; ab = z; ba = ab }) left)

pub event-a : (may : Choice → Session → Bool) (e : Event) (told : Reply) (a b s : Session) (ab ba q : Pipe) →
    Gives may a e told s → Gets e told ba q → (ba.ended ≡ true → IsOver a) →
    Runs may (world_steps A ba e) (answers_of ba.ended e told) (world a b ab ba) (world s b (sent_into e told ab) q)
event-a may (event.Call c) told a b s ab ba q g h over =
    one-step may (step.At A c) (answer_of told) (world a b ab ba) (world s b ab q)
    (told, s, g, refl, ap (λ (z : Pipe). world s b ab z) h)
event-a may (event.Emit n) told a b s ab ba q g h over =
    one-step may (step.Emit A n) (answer_of told) (world a b ab ba) (world s b (pushed (emitted_of told) ab) q) (
      h.0,
      s,
      subst (λ (r : Reply). Gives may a (event.Emit n) r s) h.1 g,
      ap answer_of h.1,
      ap (λ (r : Reply). world s b (pushed (emitted_of r) ab) q) h.1 ∙ ap (λ (z : Pipe). world s b (pushed h.0 ab) z) h.2,
    )
event-a may (event.Feed bytes) told a b s ab ba q g h over = feed-a may bytes told a b s ab q ba.bytes ba.stopped ba.ended g h over
event-a may event.FeedEnd told a b s ab ba q g h over =
    let end : Runs may (step.Stop BA ∷ step.End BA ∷ []) (answer.Done ∷ answer.Done ∷ []) (world a b ab ba) (world (feed_end a) b ab ended_pipe) =
    (world a b ab (record { bytes = []; stopped = true; ended = ba.ended }), (refl, refl), (world (feed_end a) b ab ended_pipe, (refl, refl), refl)) in
    let same : world (feed_end a) b ab ended_pipe ≡ world s b ab q = ap (λ (z : Session). world z b ab ended_pipe) (sym g.1) ∙ ap (λ (z : Pipe). world s b ab z) (sym h) in
    subst (λ (v : World). Runs may (step.Stop BA ∷ step.End BA ∷ []) (answer.Done ∷ answer.Done ∷ []) (world a b ab ba) v) same end

-- ---- an event of B

feed-b : (may : Choice → Session → Bool) (bytes : List ℕ) (told : Reply) (a b s : Session) (ba q : Pipe) (held : List ℕ) (stopped ended : Bool) →
    let ab : Pipe = record { bytes = held; stopped = stopped; ended = ended } in
    Gives may b (event.Feed bytes) told s → MatchBool ended (q ≡ ab) (TakesFront bytes told ab q) → (ended ≡ true → IsOver b) →
    Runs may (if ended then [] else step.Deliver AB (length bytes) ∷ []) (if ended then [] else answer_of told ∷ []) (world a b ab ba) (world a s q ba)
feed-b may bytes told a b s ba q held stopped true g h over =
    ap (λ (z : Session). world a z q ba) (feed-over b s bytes told may (over refl) g) ∙ ap (λ (z : Pipe). world a b z ba) h
feed-b may bytes told a b s ba q held stopped false g h over =
    let ab : Pipe = record { bytes = held; stopped = stopped; ended = false } in
    let fed : Gives may b (event.Feed (take (length bytes) held)) told s = subst (λ (zs : List ℕ). Gives may b (event.Feed zs) told s) (sym h.4) g in
    let left : q ≡ without_front (fed_count told) ab = h.5 ∙ sym (ap (λ (r : Reply). without_front (fed_count r) ab) h.1) in
    one-step may (step.Deliver AB (length bytes)) (answer_of told) (world a b ab ba) (world a s q ba)
    (told, s, fed, refl, ap (λ (z : Pipe). world a s z ba) left)

pub event-b : (may : Choice → Session → Bool) (e : Event) (told : Reply) (a b s : Session) (ab ba q : Pipe) →
    Gives may b e told s → Gets e told ab q → (ab.ended ≡ true → IsOver b) →
    Runs may (world_steps B ab e) (answers_of ab.ended e told) (world a b ab ba) (world a s q (sent_into e told ba))
event-b may (event.Call c) told a b s ab ba q g h over =
    one-step may (step.At B c) (answer_of told) (world a b ab ba) (world a s q ba)
    (told, s, g, refl, ap (λ (z : Pipe). record { a = s; b = a; ab = ba; ba = z }) h)
event-b may (event.Emit n) told a b s ab ba q g h over =
    one-step may (step.Emit B n) (answer_of told) (world a b ab ba) (world a s q (pushed (emitted_of told) ba)) (
      h.0,
      s,
      subst (λ (r : Reply). Gives may b (event.Emit n) r s) h.1 g,
      ap answer_of h.1,
      ap (λ (r : Reply). record { a = s; b = a; ab = pushed (emitted_of r) ba; ba = q }) h.1 ∙ ap (λ (z : Pipe). record { a = s; b = a; ab = pushed h.0 ba; ba = z }) h.2,
    )
event-b may (event.Feed bytes) told a b s ab ba q g h over = feed-b may bytes told a b s ba q ab.bytes ab.stopped ab.ended g h over
event-b may event.FeedEnd told a b s ab ba q g h over =
    let end : Runs may (step.Stop AB ∷ step.End AB ∷ []) (answer.Done ∷ answer.Done ∷ []) (world a b ab ba) (world a (feed_end b) ended_pipe ba) =
    (world a b (record { bytes = []; stopped = true; ended = ab.ended }) ba, (refl, refl), (world a (feed_end b) ended_pipe ba, (refl, refl), refl)) in
    let same : world a (feed_end b) ended_pipe ba ≡ world a s q ba = ap (λ (z : Session). world a z ended_pipe ba) (sym g.1) ∙ ap (λ (z : Pipe). world a s z ba) (sym h) in
    subst (λ (v : World). Runs may (step.Stop AB ∷ step.End AB ∷ []) (answer.Done ∷ answer.Done ∷ []) (world a b ab ba) v) same end
