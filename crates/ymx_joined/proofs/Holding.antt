-- Which streams a side was given and left, and which finishes were done, in a joint order of two histories.
use Rattle.std.proofs.Common.{◌≡◌, ℕ, List, [], ◌∷◌, Bool, true, false, ◌||◌, ◌&&◌, ◌==◌, None, Some, refl, ap, ◌∙◌}
use Rattle.ymx_machine.specs.declared.types.Side.{Side}
use Rattle.ymx_machine.specs.declared.types.Direction.{Direction}
use Rattle.ymx_machine.specs.declared.types.Step.{Step}
use Rattle.ymx_machine.specs.declared.types.Step.TheVariants as step
use Rattle.ymx_machine.specs.declared.types.Answer.{Answer}
use Rattle.ymx_machine.specs.declared.types.Answer.TheVariants as answer
use Rattle.ymx_machine.specs.declared.types.Call.TheVariants as call
use Rattle.ymx_machine.specs.declared.types.Reply.TheVariants as reply
use Rattle.ymx_machine.specs.shared.Events.{Call, Reply}
use Rattle.ymx_machine.specs.shared.Steps.{answer_of}
use Rattle.ymx_machine.specs.Promise.{is_same_side, finished_by}
use Rattle.ymx_model.specs.declared.types.Event.TheVariants as event
use Rattle.ymx_model.specs.session.Events.{Event}
use Rattle.ymx_headline.specs.machine.Arrivals.{began_by, left_by, any_step}
use Rattle.ymx_engine.specs.Lives.{opens_at}
use Rattle.ymx_joined.specs.Quiet.{finish_done_at, is_finished, was_given, leaves_at, was_left}
use Rattle.ymx_joined.proofs.Tracing.{Gathers, total, either, same_side, finishes_of}

-- ---- finishes that were done

own_done : (near : Side) (id : ℕ) (c : Call) (told : Reply) → finished_by near id (step.At near c) (answer_of told) ≡ finish_done_at id (event.Call c) told
own_done near id (call.Finish to) reply.Done = rw (same_side near) refl
own_done near id c told = refl

pub all_done : (near far : Side) (apart : is_same_side near far ≡ false) (id : ℕ) (es : List (Event × Reply)) → total (finishes_of near far apart id) es ≡ is_finished id es
all_done near far apart id [] = refl
all_done near far apart id ((event.Call c, told) ∷ es) = ap (λ (v : Bool). v || total (finishes_of near far apart id) es) (own_done near id c told) ∙ ap (λ (v : Bool). finish_done_at id (event.Call c) told || v) (all_done near far apart id es)
all_done near far apart id ((event.Feed bytes, told) ∷ es) = all_done near far apart id es
all_done near far apart id ((event.FeedEnd, told) ∷ es) = all_done near far apart id es
all_done near far apart id ((event.Emit n, told) ∷ es) = all_done near far apart id es

-- ---- who was given a stream, and left it

pub far_given : (near far : Side) → is_same_side near far ≡ false → (id : ℕ) (c : Call) (g : Answer) → began_by near id (step.At far c) g ≡ false
far_given near far apart id c (answer.Opened to) = rw apart refl
far_given near far apart id c (answer.OpenedWith to n) = rw apart refl
far_given near far apart id c (answer.Accepted (Some to)) = rw apart refl
far_given near far apart id c (answer.Accepted None) = refl
far_given near far apart id c g = refl

pub far_left : (near far : Side) → is_same_side near far ≡ false → (id : ℕ) (c : Call) (g : Answer) → left_by near id (step.At far c) g ≡ false
far_left near far apart id (call.Reset to) answer.Done = rw apart refl
far_left near far apart id (call.Forget to) answer.Done = rw apart refl
far_left near far apart id c g = refl

-- whether any step is such a one of the near side
abbrev any_of : (near far : Side) (by : Step → Answer → Bool) → ((c : Call) (g : Answer) → by (step.At far c) g ≡ false) →
    ((side : Side) (n : ℕ) (g : Answer) → by (step.Emit side n) g ≡ false) → ((d : Direction) (n : ℕ) (g : Answer) → by (step.Deliver d n) g ≡ false) →
    ((d : Direction) (g : Answer) → by (step.Stop d) g ≡ false) → ((d : Direction) (g : Answer) → by (step.End d) g ≡ false) → Gathers near far Bool
any_of near far by far_call emits delivers stops ends = record {
  unit = false;
  op = λ x y. x || y;
  unit_left = λ x. refl;
  all = any_step by;
  one = by;
  none = refl;
  next = λ st sts g gs. refl;
  at = λ c told. by (step.At near c) (answer_of told);
  own = λ c told p. refl;
  far_call = far_call;
  emits = emits;
  delivers = delivers;
  stops = stops;
  ends = ends;
}

abbrev pub given_of : (near far : Side) → is_same_side near far ≡ false → ℕ → Gathers near far Bool
given_of near far apart id = any_of near far (began_by near id) (far_given near far apart id) (λ side n g. refl) (λ d n g. refl) (λ d g. refl) (λ d g. refl)

abbrev pub left_of : (near far : Side) → is_same_side near far ≡ false → ℕ → Gathers near far Bool
left_of near far apart id = any_of near far (left_by near id) (far_left near far apart id) (λ side n g. refl) (λ d n g. refl) (λ d g. refl) (λ d g. refl)

own_given : (near : Side) (id : ℕ) (c : Call) (told : Reply) → opens_at id (event.Call c) told ≡ true → began_by near id (step.At near c) (answer_of told) ≡ true
own_given near id call.Open (reply.Opened to) h = ap (λ (b : Bool). b && (to == id)) (same_side near) ∙ h
own_given near id call.Accept (reply.Accepted (Some to)) h = ap (λ (b : Bool). b && (to == id)) (same_side near) ∙ h
own_given near id c told h = let no : ⊥ = cc in absurd no

pub all_given : (near far : Side) (apart : is_same_side near far ≡ false) (id : ℕ) (es : List (Event × Reply)) → was_given id es ≡ true → total (given_of near far apart id) es ≡ true
all_given near far apart id [] h = h
all_given near far apart id ((event.Call c, told) ∷ es) h = either (opens_at id (event.Call c) told) (was_given id es) _ (total (given_of near far apart id) es) h (own_given near id c told) (all_given near far apart id es)
all_given near far apart id ((event.Feed bytes, told) ∷ es) h = all_given near far apart id es h
all_given near far apart id ((event.FeedEnd, told) ∷ es) h = all_given near far apart id es h
all_given near far apart id ((event.Emit n, told) ∷ es) h = all_given near far apart id es h

own_left : (near : Side) (id : ℕ) (c : Call) (told : Reply) → left_by near id (step.At near c) (answer_of told) ≡ leaves_at id (event.Call c) told
own_left near id (call.Reset to) reply.Done = rw (same_side near) refl
own_left near id (call.Forget to) reply.Done = rw (same_side near) refl
own_left near id c told = refl

pub all_left : (near far : Side) (apart : is_same_side near far ≡ false) (id : ℕ) (es : List (Event × Reply)) → total (left_of near far apart id) es ≡ was_left id es
all_left near far apart id [] = refl
all_left near far apart id ((event.Call c, told) ∷ es) = ap (λ (v : Bool). v || total (left_of near far apart id) es) (own_left near id c told) ∙ ap (λ (v : Bool). leaves_at id (event.Call c) told || v) (all_left near far apart id es)
all_left near far apart id ((event.Feed bytes, told) ∷ es) = all_left near far apart id es
all_left near far apart id ((event.FeedEnd, told) ∷ es) = all_left near far apart id es
all_left near far apart id ((event.Emit n, told) ∷ es) = all_left near far apart id es
