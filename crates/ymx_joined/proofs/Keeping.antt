-- In a quiet world both sessions have a stream that both sides were given, and that neither left.
use Rattle.std.proofs.Common.{◌≡◌, inl, inr, ℕ, suc, List, [], ◌∷◌, ◌++◌, length, take, Bool, true, false, ◌||◌, ◌&&◌, if◌then◌else◌, Option, None, Some, refl, sym, ap, subst}
use Rattle.std.proofs.Math.Seq.{take-append_seam}
use Rattle.std.specs.Prelude.{slice_get}
use Rattle.ymx_machine.specs.declared.types.Side.{Side}
use Rattle.ymx_machine.specs.declared.types.Side.TheVariants.{A, B}
use Rattle.ymx_machine.specs.declared.types.Step.{Step}
use Rattle.ymx_machine.specs.declared.types.Step.TheVariants as step
use Rattle.ymx_machine.specs.declared.types.Answer.{Answer}
use Rattle.ymx_machine.specs.declared.types.Answer.TheVariants as answer
use Rattle.ymx_machine.specs.declared.types.Call.TheVariants as call
use Rattle.ymx_machine.specs.declared.types.CallFault.{CallFault}
use Rattle.ymx_machine.specs.declared.types.CallFault.TheVariants.{Closed, NoStream, Reset}
use Rattle.ymx_machine.specs.declared.types.Reply.TheVariants as reply
use Rattle.ymx_machine.specs.shared.Lists.{look}
use Rattle.ymx_machine.specs.shared.Phases.{Phase}
use Rattle.ymx_machine.specs.shared.Phases.Phase.{Live, WasReset}
use Rattle.ymx_machine.specs.shared.Replies.{read_reply}
use Rattle.ymx_machine.specs.shared.Steps.{answer_of}
use Rattle.ymx_machine.specs.machine.Machines.{new_machine}
use Rattle.ymx_machine.specs.Promise.{is_same_side}
use Rattle.ymx_machine.proofs.Tests.{one_some}
use Rattle.ymx_model.specs.session.Records.{End}
use Rattle.ymx_model.specs.session.Calls.{outcome, refused, at_record, read_outcome}
use Rattle.ymx_model.specs.session.Histories.CallGives.{Outcome as HasOutcome}
use Rattle.ymx_model.specs.session.Sessions.{Session, is_closed, is_lost}
use Rattle.ymx_model.specs.session.Emissions.{Choice}
use Rattle.ymx_model.specs.world.Worlds.{World, Runs, Steps, new_world, is_quiet}
use Rattle.ymx_session.specs.Replies.{end_fault, stream_fault}
use Rattle.ymx_headline.specs.Laws.{AreGood}
use Rattle.ymx_headline.specs.QuietRuns.{QuietRuns}
use Rattle.ymx_headline.specs.machine.Arrivals.{only_takes, is_at_rest, has_stream, GivesAll}
use Rattle.ymx_headline.proofs.relation.Begins.{begins}
use Rattle.ymx_headline.proofs.runs.Runs.{client-odd, server-even}
use Rattle.ymx_headline.proofs.runs.QuietRuns.{still-run}
use Rattle.ymx_headline.proofs.machine.faces.RunFaces.{odd-even}
use Rattle.ymx_headline.proofs.machine.arrivals.RunArrivals.{arrives}

-- ---- a run that ends in a quiet world, and one step more

next_of : {X : Type 0} (xs : List X) (y : X) → slice_get (xs ++ y ∷ []) (length xs) ≡ Some y
next_of [] y = refl
next_of (x ∷ xs) y = next_of xs y

-- A run that tells when it is quiet, to the step after it; before that step all is at rest.
record Quiets (may : Choice → Session → Bool) (steps : List Step) (answers : List Answer) (now : Bool) (st : Step) (given : Answer) (w u : World) : Type 0 where
  told : List Bool
  last : Bool
  runs : QuietRuns may (steps ++ st ∷ []) (answers ++ given ∷ []) (told ++ last ∷ []) w u
  rests : is_at_rest now steps told ≡ true
  as_answers : length answers ≡ length steps
  as_told : length told ≡ length steps

rests_now : (now b : Bool) → b ≡ true → (b || now) ≡ true
rests_now now b e = rw e refl

quiets : (may : Choice → Session → Bool) (steps : List Step) (answers : List Answer) (now : Bool) (st : Step) (given : Answer) (w v u : World) → Runs may steps answers w v → (is_quiet w ≡ true → now ≡ true) → is_quiet v ≡ true →
    Steps may st given v u → Quiets may steps answers now st given w u
quiets may [] [] now st given w v u r n q s = record {
  told = [];
  last = is_quiet u;
  runs = (u, subst (λ (z : World). Steps may st given z u) r s, refl, refl);
  rests = n (subst (λ (z : World). is_quiet z ≡ true) r q);
  as_answers = refl;
  as_told = refl;
}
quiets may (x ∷ steps) (g ∷ answers) now st given w v u r n q s =
    let k = quiets may steps answers (is_quiet r.0 || (now && only_takes x)) st given r.0 v u r.2 (λ e. rests_now (now && only_takes x) (is_quiet r.0) e) q s in record {
      told = is_quiet r.0 ∷ k.told;
      last = k.last;
      runs = (r.0, r.1, refl, k.runs);
      rests = k.rests;
      as_answers = ap (λ (n : ℕ). suc n) k.as_answers;
      as_told = ap (λ (n : ℕ). suc n) k.as_told;
    }
quiets may [] (g ∷ answers) now st given w v u r n q s = absurd r
quiets may (x ∷ steps) [] now st given w v u r n q s = absurd r

-- ---- a read there

front_as : {X Y : Type 0} (xs : List X) (ys : List Y) (y : Y) → length ys ≡ length xs → take (length xs) (ys ++ y ∷ []) ≡ ys
front_as xs ys y e = subst (λ (n : ℕ). take n (ys ++ y ∷ []) ≡ ys) e (take-append_seam ys (y ∷ []))

next_as : {X Y : Type 0} (xs : List X) (ys : List Y) (y : Y) → length ys ≡ length xs → slice_get (ys ++ y ∷ []) (length xs) ≡ Some y
next_as xs ys y e = subst (λ (n : ℕ). slice_get (ys ++ y ∷ []) n ≡ Some y) e (next_of ys y)

gives_all : (may : Choice → Session → Bool) (steps : List Step) (answers : List Answer) (wa fa wb fb id room : ℕ) (writer reader : Side) (given : Answer) (w u : World) → AreGood wa fa wb fb →
    Runs may steps answers (new_world wa fa wb fb) w → is_quiet w ≡ true → is_same_side writer reader ≡ false → Steps may (step.At reader (call.Read id room)) given w u → GivesAll writer reader id room steps answers given
gives_all may steps answers wa fa wb fb id room writer reader given w u good r quiet sides s =
    let read = step.At reader (call.Read id room) in
    let k = quiets may steps answers true read given (new_world wa fa wb fb) w u r (λ e. refl) quiet s in
    let alike = still-run may (steps ++ read ∷ []) (answers ++ given ∷ []) (k.told ++ k.last ∷ []) (new_world wa fa wb fb) u (new_machine wa fa wb fb) k.runs
    (begins wa fa wb fb good.low_a good.high_a good.low_b good.high_b good.client good.server good.small_a good.some_b good.small_b) in
    let all = arrives wa fa wb fb (steps ++ read ∷ []) (answers ++ given ∷ []) (k.told ++ k.last ∷ []) alike.0 good.low_a good.low_b
    (odd-even fa fb (client-odd fa good.client) (server-even fb good.server)) alike.1 in
    let front_steps : take (length steps) (steps ++ read ∷ []) ≡ steps = take-append_seam steps (read ∷ []) in
    let front_answers : take (length steps) (answers ++ given ∷ []) ≡ answers = front_as steps answers given k.as_answers in
    let front_told : take (length steps) (k.told ++ k.last ∷ []) ≡ k.told = front_as steps k.told k.last k.as_told in
    let rests : is_at_rest true (take (length steps) (steps ++ read ∷ [])) (take (length steps) (k.told ++ k.last ∷ [])) ≡ true = rw (front_steps, front_told) k.rests in
    subst (λ (v : List Step). GivesAll writer reader id room v answers given) front_steps
    (subst (λ (v : List Answer). GivesAll writer reader id room (take (length steps) (steps ++ read ∷ [])) v given) front_answers
    (all (length steps) id room writer reader given sides rests (next_of steps read) (next_as steps answers given k.as_answers)))

-- ---- what a session answers that hasn't the stream

no_end : (lost over : Bool) (room : ℕ) (here : List ℕ) (p : Phase) (fault : CallFault) → (e : End) → e.phase ≡ p → end_fault (Some e) ≡ Some fault → read_reply lost room p here over ≡ reply.Refused fault
no_end lost over room here Live fault e k h = let no : None ≡ Some fault = rw k at h in absurd cc
no_end lost over room here WasReset fault e k h = let same : Some Reset ≡ Some fault = rw k at h in ap reply.Refused (one_some Reset fault same)
no_end lost over room here _ fault e k h = let same : Some NoStream ≡ Some fault = rw k at h in ap reply.Refused (one_some NoStream fault same)

no_record : (id room : ℕ) (s : Session) (fault : CallFault) (closed : Bool) (o : Option End) → (if closed then Some Closed else end_fault o) ≡ Some fault →
    (if closed then refused Closed s else at_record (read_outcome id room s) s o).reply ≡ reply.Refused fault
no_record id room s fault true o h = ap reply.Refused (one_some Closed fault h)
no_record id room s fault false None h = ap reply.Refused (one_some NoStream fault h)
no_record id room s fault false (Some e) h = no_end (is_lost s.status) e.reader.ended room e.reader.unread e.phase fault e refl h

read_refused : (id room : ℕ) (s : Session) (fault : CallFault) → stream_fault id s ≡ Some fault → (outcome (call.Read id room) s).reply ≡ reply.Refused fault
read_refused id room s fault h = no_record id room s fault (is_closed s.status) (look id s.table.entries) h

-- ---- both have it

-- a read of no bytes is not refused
not_refused : (writer reader : Side) (id : ℕ) (steps : List Step) (answers : List Answer) (fault : CallFault) → has_stream writer id steps answers ≡ true → has_stream reader id steps answers ≡ true →
    GivesAll writer reader id 0 steps answers (answer.Refused fault) → ⊥
not_refused writer reader id steps answers fault p q (inl e) = absurd cc
not_refused writer reader id steps answers fault p q (inr e) = let no : true ≡ false = rw (p, q) at e.2 in absurd cc

no_fault : (o : Option CallFault) → ((fault : CallFault) → o ≡ Some fault → ⊥) → o ≡ None
no_fault None f = refl
no_fault (Some fault) f = absurd (f fault refl)

pub both_have : (may : Choice → Session → Bool) (steps : List Step) (answers : List Answer) (wa fa wb fb : ℕ) (w : World) → AreGood wa fa wb fb → Runs may steps answers (new_world wa fa wb fb) w → is_quiet w ≡ true → (id : ℕ) →
    has_stream A id steps answers ≡ true → has_stream B id steps answers ≡ true → (stream_fault id w.a ≡ None) × (stream_fault id w.b ≡ None)
both_have may steps answers wa fa wb fb w good r quiet id p q = (no_fault (stream_fault id w.a) at_a, no_fault (stream_fault id w.b) at_b)
  where
    at_a : (fault : CallFault) → stream_fault id w.a ≡ Some fault → ⊥
    at_a fault e =
        let o = outcome (call.Read id 0) w.a in
        let same : answer.Refused fault ≡ answer_of o.reply = sym (ap answer_of (read_refused id 0 w.a fault e)) in
        not_refused B A id steps answers fault q p
        (gives_all may steps answers wa fa wb fb id 0 B A (answer.Refused fault) w (record w { a = o.next }) good r quiet refl (o.reply, o.next, HasOutcome refl refl, same, refl))

    at_b : (fault : CallFault) → stream_fault id w.b ≡ Some fault → ⊥
    at_b fault e =
        let o = outcome (call.Read id 0) w.b in
        let same : answer.Refused fault ≡ answer_of o.reply = sym (ap answer_of (read_refused id 0 w.b fault e)) in
        not_refused A B id steps answers fault p q
        (gives_all may steps answers wa fa wb fb id 0 A B (answer.Refused fault) w (record w { b = o.next }) good r quiet refl (o.reply, o.next, HasOutcome refl refl, same, refl))
