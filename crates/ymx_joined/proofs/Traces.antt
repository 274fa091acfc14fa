-- The calls of one side and their answers: in a run, and in a history of that side.
use Rattle.std.proofs.Common.{◌≡◌, ℕ, ◌==◌, List, [], ◌∷◌, ◌++◌, take, Bool, true, false, ◌||◌, ◌&&◌, if◌then◌else◌, Some, refl, sym, ap, subst, ◌∙◌}
use Rattle.ymx_machine.specs.declared.types.Side.{Side}
use Rattle.ymx_machine.specs.declared.types.Side.TheVariants.{A, B}
use Rattle.ymx_machine.specs.declared.types.Step.{Step}
use Rattle.ymx_machine.specs.declared.types.Step.TheVariants as step
use Rattle.ymx_machine.specs.declared.types.Answer.{Answer}
use Rattle.ymx_machine.specs.declared.types.Answer.TheVariants as answer
use Rattle.ymx_machine.specs.declared.types.Call.TheVariants as call
use Rattle.ymx_machine.specs.declared.types.Reply.TheVariants as reply
use Rattle.ymx_machine.specs.declared.types.Wrote.TheVariants.{Took}
use Rattle.ymx_machine.specs.shared.Events.{Call, Reply}
use Rattle.ymx_machine.specs.shared.Steps.{answer_of}
use Rattle.ymx_machine.specs.Promise.{is_same_side, written_by, got_by, written, got, finished_by, ended_by, finished, ended}
use Rattle.ymx_model.specs.session.Events.{Event}
use Rattle.ymx_model.specs.declared.types.Event.TheVariants as event
use Rattle.ymx_model.specs.declared.types.Entry.{Entry}
use Rattle.ymx_model.specs.world.Worlds.{Pipe}
use Rattle.ymx_headline.specs.audit.Joints.{world_steps, Gets, sent_into, IsJoint}
use Rattle.ymx_headline.specs.audit.Told.{answers_of, is_ended_behind, told_from}
use Rattle.ymx_headline.proofs.audit.Events.{gets-ended, put-ended}
use Rattle.ymx_joined.specs.Callers.{took_at, all_taken, gave_at, all_given, ended_at, was_ended, finished_at, was_finished, opens_or_accepts}

-- the call of a step at this side, with its answer
abbrev pub call_by : Side → Step → Answer → List (Call × Answer)
call_by side (step.At at c) g = if is_same_side side at then (c, g) ∷ [] else []
call_by side _ g = []

abbrev pub calls_at : Side → List Step → List Answer → List (Call × Answer)
calls_at side [] gs = []
calls_at side (st ∷ sts) [] = []
calls_at side (st ∷ sts) (g ∷ gs) = call_by side st g ++ calls_at side sts gs

-- the call of an event, with its answer
abbrev pub call_of : Event → Reply → List (Call × Answer)
call_of (event.Call c) told = (c, answer_of told) ∷ []
call_of _ told = []

abbrev pub calls_in : List Entry → List (Call × Answer)
calls_in [] = []
calls_in (x ∷ xs) = call_of x.event x.reply ++ calls_in xs

-- ---- the steps of one event

-- what is the call's, if the event is of this side
abbrev own_call : (side at : Side) → Event → Reply → List (Call × Answer)
own_call side at e told = if is_same_side side at then call_of e told else []

no_call : (b : Bool) (cs : List (Call × Answer)) → (if b then [] else []) ++ cs ≡ cs
no_call true cs = refl
no_call false cs = refl

fed_or_not : (side : Side) (b en : Bool) (st : Step) (sts : List Step) (g : Answer) (gs : List Answer) → b ≡ en → call_by side st g ≡ [] →
    calls_at side ((if b then [] else st ∷ []) ++ sts) ((if en then [] else g ∷ []) ++ gs) ≡ calls_at side sts gs
fed_or_not side true true st sts g gs e h = refl
fed_or_not side false false st sts g gs e h = ap (λ (v : List (Call × Answer)). v ++ calls_at side sts gs) h
fed_or_not side true false st sts g gs e h = let no : ⊥ = cc in absurd no
fed_or_not side false true st sts g gs e h = let no : ⊥ = cc in absurd no

event_calls : (side at : Side) (p : Pipe) (en : Bool) (e : Event) (told : Reply) (sts : List Step) (gs : List Answer) → p.ended ≡ en →
    calls_at side (world_steps at p e ++ sts) (answers_of en e told ++ gs) ≡ own_call side at e told ++ calls_at side sts gs
event_calls side at p en (event.Call c) told sts gs h = refl
event_calls side at p en (event.Emit n) told sts gs h = sym (no_call (is_same_side side at) (calls_at side sts gs))
event_calls side at p en (event.Feed bytes) told sts gs h = fed_or_not side p.ended en _ sts _ gs h refl ∙ sym (no_call (is_same_side side at) (calls_at side sts gs))
event_calls side at p en event.FeedEnd told sts gs h = sym (no_call (is_same_side side at) (calls_at side sts gs))

turn_calls : (side at : Side) (p : Pipe) (en : Bool) (e : Event) (told : Reply) (steps rest : List Step) (gs : List Answer) (behind : List (Call × Answer)) → steps ≡ world_steps at p e ++ rest → p.ended ≡ en →
    calls_at side rest gs ≡ behind → calls_at side steps (answers_of en e told ++ gs) ≡ own_call side at e told ++ behind
turn_calls side at p en e told steps rest gs behind begins h same =
    ap (λ (v : List Step). calls_at side v (answers_of en e told ++ gs)) begins ∙ event_calls side at p en e told rest gs h ∙ ap (λ (v : List (Call × Answer)). own_call side at e told ++ v) same

-- ---- over a joint order

-- one entry of a side: what is left of its pipe then, and of the order
pub record Turned (side : Side) (x : Entry) (pipe : Pipe) (steps : List Step) (Joint : Pipe → List Step → Type 0) : Type 0 where
  pub left : Pipe
  pub rest : List Step
  pub gets : Gets x.event x.reply pipe left
  pub begins : steps ≡ world_steps side pipe x.event ++ rest
  pub joint : Joint left rest

pub turn_a : (turns : List Bool) (ab ba : Pipe) (x : Entry) (xs ys : List Entry) (steps : List Step) → IsJoint (true ∷ turns) ab ba (x ∷ xs) ys steps →
    Turned A x ba steps (λ left rest. IsJoint turns (sent_into x.event x.reply ab) left xs ys rest)
turn_a turns ab ba x xs ys steps (y, more, r, rest, is, g, st, k) =
    let same : y ≡ x = cc in
    let behind : more ≡ xs = cc in
    record {
      left = r;
      rest = rest;
      gets = subst (λ (v : Entry). Gets v.event v.reply ba r) same g;
      begins = subst (λ (v : Entry). steps ≡ world_steps A ba v.event ++ rest) same st;
      joint = subst (λ (v : List Entry). IsJoint turns (sent_into x.event x.reply ab) r v ys rest) behind (subst (λ (v : Entry). IsJoint turns (sent_into v.event v.reply ab) r more ys rest) same k);
    }

pub turn_b : (turns : List Bool) (ab ba : Pipe) (y : Entry) (xs ys : List Entry) (steps : List Step) → IsJoint (false ∷ turns) ab ba xs (y ∷ ys) steps →
    Turned B y ab steps (λ left rest. IsJoint turns left (sent_into y.event y.reply ba) xs ys rest)
turn_b turns ab ba y xs ys steps (x, more, r, rest, is, g, st, k) =
    let same : x ≡ y = cc in
    let behind : more ≡ ys = cc in
    record {
      left = r;
      rest = rest;
      gets = subst (λ (v : Entry). Gets v.event v.reply ab r) same g;
      begins = subst (λ (v : Entry). steps ≡ world_steps B ab v.event ++ rest) same st;
      joint = subst (λ (v : List Entry). IsJoint turns r (sent_into y.event y.reply ba) xs v rest) behind (subst (λ (v : Entry). IsJoint turns r (sent_into v.event v.reply ba) xs more rest) same k);
    }

-- whether its pipe has ended then
pub ended_behind : (en : Bool) (x : Entry) (pipe left : Pipe) → Gets x.event x.reply pipe left → pipe.ended ≡ en → left.ended ≡ is_ended_behind en x.event
ended_behind en x pipe left g h = gets-ended x.event x.reply pipe left g ∙ ap (λ (b : Bool). is_ended_behind b x.event) h

-- The calls of each side in a run are those of its history.
pub traced : (turns : List Bool) (ab ba : Pipe) (ea eb : Bool) (xs ys : List Entry) (steps : List Step) → IsJoint turns ab ba xs ys steps → ba.ended ≡ ea → ab.ended ≡ eb →
    (calls_at A steps (told_from turns ea eb xs ys) ≡ calls_in xs) × (calls_at B steps (told_from turns ea eb xs ys) ≡ calls_in ys)
traced [] ab ba ea eb xs ys steps (no_xs, no_ys, none) p q =
    (ap (λ (v : List Step). calls_at A v []) none ∙ sym (ap calls_in no_xs), ap (λ (v : List Step). calls_at B v []) none ∙ sym (ap calls_in no_ys))
traced (true ∷ turns) ab ba ea eb [] ys steps (x, more, r, rest, is, g, st, k) p q = let no : ⊥ = cc in absurd no
traced (true ∷ turns) ab ba ea eb (x ∷ xs) ys steps h p q =
    let o = turn_a turns ab ba x xs ys steps h in
    let k = traced turns (sent_into x.event x.reply ab) o.left (is_ended_behind ea x.event) eb xs ys o.rest o.joint (ended_behind ea x ba o.left o.gets p) (put-ended x.event x.reply ab ∙ q) in
    (turn_calls A A ba ea x.event x.reply steps o.rest _ _ o.begins p k.0, turn_calls B A ba ea x.event x.reply steps o.rest _ _ o.begins p k.1)
traced (false ∷ turns) ab ba ea eb xs [] steps (x, more, r, rest, is, g, st, k) p q = let no : ⊥ = cc in absurd no
traced (false ∷ turns) ab ba ea eb xs (y ∷ ys) steps h p q =
    let o = turn_b turns ab ba y xs ys steps h in
    let k = traced turns o.left (sent_into y.event y.reply ba) ea (is_ended_behind eb y.event) xs ys o.rest o.joint (put-ended y.event y.reply ba ∙ p) (ended_behind eb y ab o.left o.gets q) in
    (turn_calls A B ab eb y.event y.reply steps o.rest _ _ o.begins q k.0, turn_calls B B ab eb y.event y.reply steps o.rest _ _ o.begins q k.1)

-- ---- what a call says of a stream

abbrev pub wrote_by : ℕ → Call → Answer → List ℕ
wrote_by id (call.Write to bytes) (answer.Wrote (Took n)) = if to == id then take n bytes else []
wrote_by id (call.OpenWith bytes) (answer.OpenedWith to n) = if to == id then take n bytes else []
wrote_by id _ _ = []

abbrev pub gave_by : ℕ → Call → Answer → List ℕ
gave_by id (call.Read from room) (answer.Read bytes) = if from == id then bytes else []
gave_by id _ _ = []

abbrev pub ends_by : ℕ → Call → Answer → Bool
ends_by id (call.Read from room) answer.ReadEnd = from == id
ends_by id _ _ = false

abbrev pub finishes_by : ℕ → Call → Answer → Bool
finishes_by id (call.Finish to) answer.Done = to == id
finishes_by id _ _ = false

abbrev pub gives_stream_by : ℕ → Call → Answer → Bool
gives_stream_by id call.Open (answer.Opened new) = new == id
gives_stream_by id (call.OpenWith bytes) (answer.OpenedWith new n) = new == id
gives_stream_by id call.Accept (answer.Accepted (Some new)) = new == id
gives_stream_by id _ _ = false

-- so the reply says in the history

pub took_is : (id : ℕ) (c : Call) (told : Reply) → took_at id (event.Call c) told ≡ wrote_by id c (answer_of told)
took_is id (call.Write to bytes) (reply.Wrote (Took n)) = refl
took_is id (call.OpenWith bytes) (reply.OpenedWith to n) = refl
took_is id c told = refl

pub gave_is : (id : ℕ) (c : Call) (told : Reply) → gave_at id (event.Call c) told ≡ gave_by id c (answer_of told)
gave_is id (call.Read from room) (reply.Read bytes) = refl
gave_is id c told = refl

pub ended_is : (id : ℕ) (c : Call) (told : Reply) → ended_at id (event.Call c) told ≡ ends_by id c (answer_of told)
ended_is id (call.Read from room) reply.ReadEnd = refl
ended_is id c told = refl

pub finished_is : (id : ℕ) (c : Call) (told : Reply) → finished_at id (event.Call c) told ≡ finishes_by id c (answer_of told)
finished_is id (call.Finish to) reply.Done = refl
finished_is id c told = refl

pub gives_stream_is : (id : ℕ) (c : Call) (told : Reply) → opens_or_accepts id (event.Call c) told ≡ gives_stream_by id c (answer_of told)
gives_stream_is id call.Open (reply.Opened new) = refl
gives_stream_is id (call.OpenWith bytes) (reply.OpenedWith new n) = refl
gives_stream_is id call.Accept (reply.Accepted (Some new)) = refl
gives_stream_is id c told = refl

-- and the answer in the run

abbrev if_own : {X : Type 0} → (side at : Side) → X → X → X
if_own side at x none = if is_same_side side at then x else none

abbrev no_bytes : List ℕ
no_bytes = []

either_none : (b : Bool) → (if b then no_bytes else no_bytes) ≡ no_bytes
either_none true = refl
either_none false = refl

both_ways : (b c : Bool) (xs : List ℕ) → (if b && c then xs else []) ≡ (if b then (if c then xs else []) else [])
both_ways true c xs = refl
both_ways false c xs = refl

either_no : (b : Bool) → (if b then false else false) ≡ false
either_no true = refl
either_no false = refl

and_then : (b c : Bool) → (b && c) ≡ (if b then c else false)
and_then true c = refl
and_then false c = refl

written_is : (side at : Side) (id : ℕ) (c : Call) (g : Answer) → written_by side id (step.At at c) g ≡ if_own side at (wrote_by id c g) []
written_is side at id (call.Write to bytes) (answer.Wrote (Took n)) = both_ways (is_same_side side at) (to == id) (take n bytes)
written_is side at id (call.OpenWith bytes) (answer.OpenedWith to n) = both_ways (is_same_side side at) (to == id) (take n bytes)
written_is side at id c g = sym (either_none (is_same_side side at))

got_is : (side at : Side) (id : ℕ) (c : Call) (g : Answer) → got_by side id (step.At at c) g ≡ if_own side at (gave_by id c g) []
got_is side at id (call.Read from room) (answer.Read bytes) = both_ways (is_same_side side at) (from == id) bytes
got_is side at id c g = sym (either_none (is_same_side side at))

pub ends_is : (side at : Side) (id : ℕ) (c : Call) (g : Answer) → ended_by side id (step.At at c) g ≡ if_own side at (ends_by id c g) false
ends_is side at id (call.Read from room) answer.ReadEnd = and_then (is_same_side side at) (from == id)
ends_is side at id c g = sym (either_no (is_same_side side at))

finishes_is : (side at : Side) (id : ℕ) (c : Call) (g : Answer) → finished_by side id (step.At at c) g ≡ if_own side at (finishes_by id c g) false
finishes_is side at id (call.Finish to) answer.Done = and_then (is_same_side side at) (to == id)
finishes_is side at id c g = sym (either_no (is_same_side side at))

-- ---- gathered

-- What is gathered of calls, from the last to the first.
abbrev pub joined : {M : Type 0} → M → (M → M → M) → (Call → Answer → M) → List (Call × Answer) → M
joined unit op by [] = unit
joined unit op by (c ∷ cs) = op (by c.0 c.1) (joined unit op by cs)

if_called : {M : Type 0} (unit : M) (op : M → M → M) (by : Call → Answer → M) (unit_left : (x : M) → op unit x ≡ x) (b : Bool) (c : Call) (g : Answer) (cs : List (Call × Answer)) →
    op (if b then by c g else unit) (joined unit op by cs) ≡ joined unit op by ((if b then (c, g) ∷ [] else []) ++ cs)
if_called unit op by unit_left true c g cs = refl
if_called unit op by unit_left false c g cs = unit_left (joined unit op by cs)

abbrev pub all_wrote : ℕ → List (Call × Answer) → List ℕ
all_wrote id cs = joined [] (λ x y. x ++ y) (wrote_by id) cs

abbrev pub all_gave : ℕ → List (Call × Answer) → List ℕ
all_gave id cs = joined [] (λ x y. x ++ y) (gave_by id) cs

abbrev pub one_ends : ℕ → List (Call × Answer) → Bool
one_ends id cs = joined false (λ x y. x || y) (ends_by id) cs

abbrev pub one_finishes : ℕ → List (Call × Answer) → Bool
one_finishes id cs = joined false (λ x y. x || y) (finishes_by id) cs

-- ---- what is written, got, ended and finished: in a run, and in a history

all_written_step : (side : Side) (id : ℕ) (st : Step) (g : Answer) (cs : List (Call × Answer)) → (written_by side id st g ++ all_wrote id cs) ≡ all_wrote id (call_by side st g ++ cs)
all_written_step side id (step.At at c) g cs =
    ap (λ (v : List ℕ). v ++ all_wrote id cs) (written_is side at id c g) ∙ if_called [] (λ x y. x ++ y) (wrote_by id) (λ x. refl) (is_same_side side at) c g cs
all_written_step side id st g cs = refl

pub all_written : (side : Side) (id : ℕ) (sts : List Step) (gs : List Answer) → written side id sts gs ≡ all_wrote id (calls_at side sts gs)
all_written side id [] gs = refl
all_written side id (st ∷ sts) [] = refl
all_written side id (st ∷ sts) (g ∷ gs) = ap (λ (v : List ℕ). written_by side id st g ++ v) (all_written side id sts gs) ∙ all_written_step side id st g (calls_at side sts gs)

taken_in_step : (id : ℕ) (e : Event) (told : Reply) (cs : List (Call × Answer)) → (took_at id e told ++ all_wrote id cs) ≡ all_wrote id (call_of e told ++ cs)
taken_in_step id (event.Call c) told cs = ap (λ (v : List ℕ). v ++ all_wrote id cs) (took_is id c told)
taken_in_step id e told cs = refl

pub taken_in : (id : ℕ) (xs : List Entry) → all_taken id xs ≡ all_wrote id (calls_in xs)
taken_in id [] = refl
taken_in id (x ∷ xs) = ap (λ (v : List ℕ). took_at id x.event x.reply ++ v) (taken_in id xs) ∙ taken_in_step id x.event x.reply (calls_in xs)

all_got_step : (side : Side) (id : ℕ) (st : Step) (g : Answer) (cs : List (Call × Answer)) → (got_by side id st g ++ all_gave id cs) ≡ all_gave id (call_by side st g ++ cs)
all_got_step side id (step.At at c) g cs =
    ap (λ (v : List ℕ). v ++ all_gave id cs) (got_is side at id c g) ∙ if_called [] (λ x y. x ++ y) (gave_by id) (λ x. refl) (is_same_side side at) c g cs
all_got_step side id st g cs = refl

pub all_got : (side : Side) (id : ℕ) (sts : List Step) (gs : List Answer) → got side id sts gs ≡ all_gave id (calls_at side sts gs)
all_got side id [] gs = refl
all_got side id (st ∷ sts) [] = refl
all_got side id (st ∷ sts) (g ∷ gs) = ap (λ (v : List ℕ). got_by side id st g ++ v) (all_got side id sts gs) ∙ all_got_step side id st g (calls_at side sts gs)

given_in_step : (id : ℕ) (e : Event) (told : Reply) (cs : List (Call × Answer)) → (gave_at id e told ++ all_gave id cs) ≡ all_gave id (call_of e told ++ cs)
given_in_step id (event.Call c) told cs = ap (λ (v : List ℕ). v ++ all_gave id cs) (gave_is id c told)
given_in_step id e told cs = refl

pub given_in : (id : ℕ) (xs : List Entry) → all_given id xs ≡ all_gave id (calls_in xs)
given_in id [] = refl
given_in id (x ∷ xs) = ap (λ (v : List ℕ). gave_at id x.event x.reply ++ v) (given_in id xs) ∙ given_in_step id x.event x.reply (calls_in xs)

one_ended_step : (side : Side) (id : ℕ) (st : Step) (g : Answer) (cs : List (Call × Answer)) → (ended_by side id st g || one_ends id cs) ≡ one_ends id (call_by side st g ++ cs)
one_ended_step side id (step.At at c) g cs =
    ap (λ (v : Bool). v || one_ends id cs) (ends_is side at id c g) ∙ if_called false (λ x y. x || y) (ends_by id) (λ x. refl) (is_same_side side at) c g cs
one_ended_step side id st g cs = refl

pub one_ended : (side : Side) (id : ℕ) (sts : List Step) (gs : List Answer) → ended side id sts gs ≡ one_ends id (calls_at side sts gs)
one_ended side id [] gs = refl
one_ended side id (st ∷ sts) [] = refl
one_ended side id (st ∷ sts) (g ∷ gs) = ap (λ (v : Bool). ended_by side id st g || v) (one_ended side id sts gs) ∙ one_ended_step side id st g (calls_at side sts gs)

ended_in_step : (id : ℕ) (e : Event) (told : Reply) (cs : List (Call × Answer)) → (ended_at id e told || one_ends id cs) ≡ one_ends id (call_of e told ++ cs)
ended_in_step id (event.Call c) told cs = ap (λ (v : Bool). v || one_ends id cs) (ended_is id c told)
ended_in_step id e told cs = refl

pub ended_in : (id : ℕ) (xs : List Entry) → was_ended id xs ≡ one_ends id (calls_in xs)
ended_in id [] = refl
ended_in id (x ∷ xs) = ap (λ (v : Bool). ended_at id x.event x.reply || v) (ended_in id xs) ∙ ended_in_step id x.event x.reply (calls_in xs)

one_finished_step : (side : Side) (id : ℕ) (st : Step) (g : Answer) (cs : List (Call × Answer)) → (finished_by side id st g || one_finishes id cs) ≡ one_finishes id (call_by side st g ++ cs)
one_finished_step side id (step.At at c) g cs =
    ap (λ (v : Bool). v || one_finishes id cs) (finishes_is side at id c g) ∙ if_called false (λ x y. x || y) (finishes_by id) (λ x. refl) (is_same_side side at) c g cs
one_finished_step side id st g cs = refl

pub one_finished : (side : Side) (id : ℕ) (sts : List Step) (gs : List Answer) → finished side id sts gs ≡ one_finishes id (calls_at side sts gs)
one_finished side id [] gs = refl
one_finished side id (st ∷ sts) [] = refl
one_finished side id (st ∷ sts) (g ∷ gs) = ap (λ (v : Bool). finished_by side id st g || v) (one_finished side id sts gs) ∙ one_finished_step side id st g (calls_at side sts gs)

finished_in_step : (id : ℕ) (e : Event) (told : Reply) (cs : List (Call × Answer)) → (finished_at id e told || one_finishes id cs) ≡ one_finishes id (call_of e told ++ cs)
finished_in_step id (event.Call c) told cs = ap (λ (v : Bool). v || one_finishes id cs) (finished_is id c told)
finished_in_step id e told cs = refl

pub finished_in : (id : ℕ) (xs : List Entry) → was_finished id xs ≡ one_finishes id (calls_in xs)
finished_in id [] = refl
finished_in id (x ∷ xs) = ap (λ (v : Bool). finished_at id x.event x.reply || v) (finished_in id xs) ∙ finished_in_step id x.event x.reply (calls_in xs)
