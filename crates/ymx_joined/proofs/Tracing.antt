-- What a side writes, reads, finishes and sees the end of, in a joint order of two histories.
use Rattle.std.proofs.Common.{◌≡◌, ℕ, ◌+◌, ◌==◌, List, [], ◌∷◌, ◌++◌, length, take, Bool, true, false, ◌||◌, ◌&&◌, if◌then◌else◌, refl, sym, ap, ◌∙◌}
use Rattle.ymx_machine.specs.declared.types.Side.{Side}
use Rattle.ymx_machine.specs.declared.types.Side.TheVariants.{A, B}
use Rattle.ymx_machine.specs.declared.types.Direction.{Direction}
use Rattle.ymx_machine.specs.declared.types.Step.{Step}
use Rattle.ymx_machine.specs.declared.types.Step.TheVariants as step
use Rattle.ymx_machine.specs.declared.types.Answer.{Answer}
use Rattle.ymx_machine.specs.declared.types.Answer.TheVariants as answer
use Rattle.ymx_machine.specs.declared.types.Call.TheVariants as call
use Rattle.ymx_machine.specs.declared.types.Reply.TheVariants as reply
use Rattle.ymx_machine.specs.declared.types.Wrote.TheVariants.{Took}
use Rattle.ymx_machine.specs.shared.Events.{Call, Reply}
use Rattle.ymx_machine.specs.shared.Steps.{answer_of}
use Rattle.ymx_machine.specs.Promise.{is_same_side, written_by, got_by, written, got, finished_by, ended_by, finished, ended}
use Rattle.ymx_model.specs.session.Events.{Event}
use Rattle.ymx_model.specs.declared.types.Event.TheVariants as event
use Rattle.ymx_model.specs.declared.types.Entry.{Entry}
use Rattle.ymx_model.specs.world.Worlds.{Pipe}
use Rattle.ymx_headline.specs.audit.Joints.{world_steps, sent_into, IsJoint}
use Rattle.ymx_headline.specs.audit.Told.{answers_of, is_ended_behind, told_from}
use Rattle.ymx_headline.proofs.audit.Events.{put-ended}
use Rattle.ymx_engine.specs.Events.{taken_at, taken, given_at, given, ends_at, has_end, finishes_at, has_finish, opens_with, has_open_with}
use Rattle.ymx_engine.proofs.Quiet.{or_neither}
use Rattle.ymx_engine.proofs.Exchanging.{or_second}
use Rattle.ymx_joined.specs.Tunnels.{entries_from}
use Rattle.ymx_joined.proofs.Traces.{turn_a, turn_b, ended_behind}

-- What is gathered over a run, step by step, of the calls of one side alone: `near`.
pub record Gathers (near far : Side) (M : Type 0) : Type 0 where
  pub unit : M
  pub op : M → M → M
  pub unit_left : (x : M) → op unit x ≡ x
  pub all : List Step → List Answer → M
  pub one : Step → Answer → M
  pub none : all [] [] ≡ unit
  pub next : (st : Step) (sts : List Step) (g : Answer) (gs : List Answer) → all (st ∷ sts) (g ∷ gs) ≡ op (one st g) (all sts gs)
  pub at : Call → Reply → M
  pub own : (c : Call) (told : Reply) → opens_with (event.Call c) ≡ false → one (step.At near c) (answer_of told) ≡ at c told
  pub far_call : (c : Call) (g : Answer) → one (step.At far c) g ≡ unit
  pub emits : (side : Side) (n : ℕ) (g : Answer) → one (step.Emit side n) g ≡ unit
  pub delivers : (d : Direction) (n : ℕ) (g : Answer) → one (step.Deliver d n) g ≡ unit
  pub stops : (d : Direction) (g : Answer) → one (step.Stop d) g ≡ unit
  pub ends : (d : Direction) (g : Answer) → one (step.End d) g ≡ unit

abbrev pub at_event : {near far : Side} {M : Type 0} → Gathers near far M → Event → Reply → M
at_event t (event.Call c) told = t.at c told
at_event t _ told = t.unit

abbrev pub total : {near far : Side} {M : Type 0} → Gathers near far M → List (Event × Reply) → M
total t [] = t.unit
total t (e ∷ es) = t.op (at_event t e.0 e.1) (total t es)

-- a step at which nothing is gathered
idle : {near far : Side} {M : Type 0} (t : Gathers near far M) (st : Step) (sts : List Step) (g : Answer) (gs : List Answer) → t.one st g ≡ t.unit → t.all (st ∷ sts) (g ∷ gs) ≡ t.all sts gs
idle t st sts g gs e = t.next st sts g gs ∙ ap (λ (v : _). t.op v (t.all sts gs)) e ∙ t.unit_left (t.all sts gs)

fed_or_not : {near far : Side} {M : Type 0} (t : Gathers near far M) (b en : Bool) (st : Step) (sts : List Step) (g : Answer) (gs : List Answer) → b ≡ en → t.one st g ≡ t.unit →
    t.all ((if b then [] else st ∷ []) ++ sts) ((if en then [] else g ∷ []) ++ gs) ≡ t.all sts gs
fed_or_not t true true st sts g gs e h = refl
fed_or_not t false false st sts g gs e h = idle t st sts g gs h
fed_or_not t true false st sts g gs e h = let no : ⊥ = cc in absurd no
fed_or_not t false true st sts g gs e h = let no : ⊥ = cc in absurd no

-- an event of the near side, and one of the far side
near_event : {near far : Side} {M : Type 0} (t : Gathers near far M) (p : Pipe) (en : Bool) (e : Event) (told : Reply) (sts : List Step) (gs : List Answer) → p.ended ≡ en → opens_with e ≡ false →
    t.all (world_steps near p e ++ sts) (answers_of en e told ++ gs) ≡ t.op (at_event t e told) (t.all sts gs)
near_event t p en (event.Call c) told sts gs h k = t.next _ sts _ gs ∙ ap (λ (v : _). t.op v (t.all sts gs)) (t.own c told k)
near_event t p en (event.Emit n) told sts gs h k = idle t _ sts _ gs (t.emits _ n _) ∙ sym (t.unit_left (t.all sts gs))
near_event t p en (event.Feed bytes) told sts gs h k = fed_or_not t p.ended en _ sts _ gs h (t.delivers _ (length bytes) _) ∙ sym (t.unit_left (t.all sts gs))
near_event t p en event.FeedEnd told sts gs h k = idle t _ _ _ _ (t.stops _ _) ∙ idle t _ sts _ gs (t.ends _ _) ∙ sym (t.unit_left (t.all sts gs))

far_event : {near far : Side} {M : Type 0} (t : Gathers near far M) (p : Pipe) (en : Bool) (e : Event) (told : Reply) (sts : List Step) (gs : List Answer) → p.ended ≡ en →
    t.all (world_steps far p e ++ sts) (answers_of en e told ++ gs) ≡ t.all sts gs
far_event t p en (event.Call c) told sts gs h = idle t _ sts _ gs (t.far_call c _)
far_event t p en (event.Emit n) told sts gs h = idle t _ sts _ gs (t.emits _ n _)
far_event t p en (event.Feed bytes) told sts gs h = fed_or_not t p.ended en _ sts _ gs h (t.delivers _ (length bytes) _)
far_event t p en event.FeedEnd told sts gs h = idle t _ _ _ _ (t.stops _ _) ∙ idle t _ sts _ gs (t.ends _ _)

-- ---- over a joint order

abbrev entry_of : ℕ → Event × Reply → Entry
entry_of i e = record { position = i; seat = 0; event = e.0; reply = e.1 }

-- it is of the near side, or of the far one
near_turn : {near far : Side} {M : Type 0} (t : Gathers near far M) (p : Pipe) (en : Bool) (e : Event × Reply) (steps rest : List Step) (gs : List Answer) (behind : M) → steps ≡ world_steps near p e.0 ++ rest → p.ended ≡ en → opens_with e.0 ≡ false →
    t.all rest gs ≡ behind → t.all steps (answers_of en e.0 e.1 ++ gs) ≡ t.op (at_event t e.0 e.1) behind
near_turn t p en e steps rest gs behind begins h plain same = ap (λ (v : List Step). t.all v (answers_of en e.0 e.1 ++ gs)) begins ∙ near_event t p en e.0 e.1 rest gs h plain ∙ ap (t.op (at_event t e.0 e.1)) same

far_turn : {near far : Side} {M : Type 0} (t : Gathers near far M) (p : Pipe) (en : Bool) (e : Event × Reply) (steps rest : List Step) (gs : List Answer) (behind : M) → steps ≡ world_steps far p e.0 ++ rest → p.ended ≡ en →
    t.all rest gs ≡ behind → t.all steps (answers_of en e.0 e.1 ++ gs) ≡ behind
far_turn t p en e steps rest gs behind begins h same = ap (λ (v : List Step). t.all v (answers_of en e.0 e.1 ++ gs)) begins ∙ far_event t p en e.0 e.1 rest gs h ∙ same

pub gathers_a : {M : Type 0} (t : Gathers A B M) (turns : List Bool) (ab ba : Pipe) (ea eb : Bool) (i j : ℕ) (es fs : List (Event × Reply)) (steps : List Step) →
    IsJoint turns ab ba (entries_from i es) (entries_from j fs) steps → ba.ended ≡ ea → ab.ended ≡ eb → has_open_with es ≡ false →
    t.all steps (told_from turns ea eb (entries_from i es) (entries_from j fs)) ≡ total t es
gathers_a t [] ab ba ea eb i j [] fs steps h p q plain = ap (λ (v : List Step). t.all v []) h.2 ∙ t.none
gathers_a t [] ab ba ea eb i j (e ∷ es) fs steps h p q plain = let no : ⊥ = cc in absurd no
gathers_a t (true ∷ turns) ab ba ea eb i j [] fs steps (x, more, r, rest, xs, g, st, k) p q plain = let no : ⊥ = cc in absurd no
gathers_a t (true ∷ turns) ab ba ea eb i j (e ∷ es) fs steps h p q plain =
    let two = or_neither (opens_with e.0) (has_open_with es) plain in
    let o = turn_a turns ab ba (entry_of i e) (entries_from (i + 1) es) (entries_from j fs) steps h in
    near_turn t ba ea e steps o.rest _ _ o.begins p two.0
    (gathers_a t turns (sent_into e.0 e.1 ab) o.left (is_ended_behind ea e.0) eb (i + 1) j es fs o.rest o.joint (ended_behind ea (entry_of i e) ba o.left o.gets p) (put-ended e.0 e.1 ab ∙ q) two.1)
gathers_a t (false ∷ turns) ab ba ea eb i j es [] steps (x, more, r, rest, ys, g, st, k) p q plain = let no : ⊥ = cc in absurd no
gathers_a t (false ∷ turns) ab ba ea eb i j es (f ∷ fs) steps h p q plain =
    let o = turn_b turns ab ba (entry_of j f) (entries_from i es) (entries_from (j + 1) fs) steps h in
    far_turn t ab eb f steps o.rest _ _ o.begins q
    (gathers_a t turns o.left (sent_into f.0 f.1 ba) ea (is_ended_behind eb f.0) i (j + 1) es fs o.rest o.joint (put-ended f.0 f.1 ba ∙ p) (ended_behind eb (entry_of j f) ab o.left o.gets q) plain)

pub gathers_b : {M : Type 0} (t : Gathers B A M) (turns : List Bool) (ab ba : Pipe) (ea eb : Bool) (i j : ℕ) (es fs : List (Event × Reply)) (steps : List Step) →
    IsJoint turns ab ba (entries_from i es) (entries_from j fs) steps → ba.ended ≡ ea → ab.ended ≡ eb → has_open_with fs ≡ false →
    t.all steps (told_from turns ea eb (entries_from i es) (entries_from j fs)) ≡ total t fs
gathers_b t [] ab ba ea eb i j es [] steps h p q plain = ap (λ (v : List Step). t.all v []) h.2 ∙ t.none
gathers_b t [] ab ba ea eb i j es (f ∷ fs) steps h p q plain = let no : ⊥ = cc in absurd no
gathers_b t (false ∷ turns) ab ba ea eb i j es [] steps (x, more, r, rest, ys, g, st, k) p q plain = let no : ⊥ = cc in absurd no
gathers_b t (false ∷ turns) ab ba ea eb i j es (f ∷ fs) steps h p q plain =
    let two = or_neither (opens_with f.0) (has_open_with fs) plain in
    let o = turn_b turns ab ba (entry_of j f) (entries_from i es) (entries_from (j + 1) fs) steps h in
    near_turn t ab eb f steps o.rest _ _ o.begins q two.0
    (gathers_b t turns o.left (sent_into f.0 f.1 ba) ea (is_ended_behind eb f.0) i (j + 1) es fs o.rest o.joint (put-ended f.0 f.1 ba ∙ p) (ended_behind eb (entry_of j f) ab o.left o.gets q) two.1)
gathers_b t (true ∷ turns) ab ba ea eb i j [] fs steps (x, more, r, rest, xs, g, st, k) p q plain = let no : ⊥ = cc in absurd no
gathers_b t (true ∷ turns) ab ba ea eb i j (e ∷ es) fs steps h p q plain =
    let o = turn_a turns ab ba (entry_of i e) (entries_from (i + 1) es) (entries_from j fs) steps h in
    far_turn t ba ea e steps o.rest _ _ o.begins p
    (gathers_b t turns (sent_into e.0 e.1 ab) o.left (is_ended_behind ea e.0) eb (i + 1) j es fs o.rest o.joint (ended_behind ea (entry_of i e) ba o.left o.gets p) (put-ended e.0 e.1 ab ∙ q) plain)

-- ---- what is written, read, ended and finished

either_none : (b : Bool) (bytes : List ℕ) → (if b then take 0 bytes else []) ≡ []
either_none true bytes = refl
either_none false bytes = refl

abbrev no_bytes : List ℕ
no_bytes = []

either_empty : (b : Bool) → (if b then no_bytes else no_bytes) ≡ no_bytes
either_empty true = refl
either_empty false = refl

and_yes : (b : Bool) → (b && true) ≡ b
and_yes true = refl
and_yes false = refl

and_no : (b : Bool) → (b && false) ≡ false
and_no true = refl
and_no false = refl

pub same_side : (s : Side) → is_same_side s s ≡ true
same_side A = refl
same_side B = refl

pub own_writes : (near : Side) (id : ℕ) (c : Call) (told : Reply) → opens_with (event.Call c) ≡ false → written_by near id (step.At near c) (answer_of told) ≡ taken_at id (event.Call c) told
own_writes near id (call.Write to bytes) (reply.Wrote (Took n)) p = rw (same_side near) refl
own_writes near id (call.Write to bytes) told p = sym (either_none (to == id) bytes)
own_writes near id (call.OpenWith bytes) told p = let no : ⊥ = cc in absurd no
own_writes near id c told p = refl

pub far_writes : (near far : Side) → is_same_side near far ≡ false → (id : ℕ) (c : Call) (g : Answer) → written_by near id (step.At far c) g ≡ []
far_writes near far apart id (call.Write to bytes) (answer.Wrote (Took n)) = rw apart refl
far_writes near far apart id (call.OpenWith bytes) (answer.OpenedWith to n) = rw apart refl
far_writes near far apart id c g = refl

abbrev pub writes_of : (near far : Side) → is_same_side near far ≡ false → ℕ → Gathers near far (List ℕ)
writes_of near far apart id = record {
  unit = [];
  op = λ x y. x ++ y;
  unit_left = λ x. refl;
  all = written near id;
  one = written_by near id;
  none = refl;
  next = λ st sts g gs. refl;
  at = λ c told. taken_at id (event.Call c) told;
  own = own_writes near id;
  far_call = far_writes near far apart id;
  emits = λ side n g. refl;
  delivers = λ d n g. refl;
  stops = λ d g. refl;
  ends = λ d g. refl;
}

pub all_written : (near far : Side) (apart : is_same_side near far ≡ false) (id : ℕ) (es : List (Event × Reply)) → total (writes_of near far apart id) es ≡ taken id es
all_written near far apart id [] = refl
all_written near far apart id ((event.Call c, told) ∷ es) = ap (λ (v : List ℕ). taken_at id (event.Call c) told ++ v) (all_written near far apart id es)
all_written near far apart id ((event.Feed bytes, told) ∷ es) = all_written near far apart id es
all_written near far apart id ((event.FeedEnd, told) ∷ es) = all_written near far apart id es
all_written near far apart id ((event.Emit n, told) ∷ es) = all_written near far apart id es

pub own_reads : (near : Side) (id : ℕ) (c : Call) (told : Reply) → opens_with (event.Call c) ≡ false → got_by near id (step.At near c) (answer_of told) ≡ given_at id (event.Call c) told
own_reads near id (call.Read from max) (reply.Read bytes) p = rw (same_side near) refl
own_reads near id (call.Read from max) told p = sym (either_empty (from == id))
own_reads near id c told p = refl

pub far_reads : (near far : Side) → is_same_side near far ≡ false → (id : ℕ) (c : Call) (g : Answer) → got_by near id (step.At far c) g ≡ []
far_reads near far apart id (call.Read from max) (answer.Read bytes) = rw apart refl
far_reads near far apart id c g = refl

abbrev pub reads_of : (near far : Side) → is_same_side near far ≡ false → ℕ → Gathers near far (List ℕ)
reads_of near far apart id = record {
  unit = [];
  op = λ x y. x ++ y;
  unit_left = λ x. refl;
  all = got near id;
  one = got_by near id;
  none = refl;
  next = λ st sts g gs. refl;
  at = λ c told. given_at id (event.Call c) told;
  own = own_reads near id;
  far_call = far_reads near far apart id;
  emits = λ side n g. refl;
  delivers = λ d n g. refl;
  stops = λ d g. refl;
  ends = λ d g. refl;
}

pub all_read : (near far : Side) (apart : is_same_side near far ≡ false) (id : ℕ) (es : List (Event × Reply)) → total (reads_of near far apart id) es ≡ given id es
all_read near far apart id [] = refl
all_read near far apart id ((event.Call c, told) ∷ es) = ap (λ (v : List ℕ). given_at id (event.Call c) told ++ v) (all_read near far apart id es)
all_read near far apart id ((event.Feed bytes, told) ∷ es) = all_read near far apart id es
all_read near far apart id ((event.FeedEnd, told) ∷ es) = all_read near far apart id es
all_read near far apart id ((event.Emit n, told) ∷ es) = all_read near far apart id es

pub own_ends : (near : Side) (id : ℕ) (c : Call) (told : Reply) → opens_with (event.Call c) ≡ false → ended_by near id (step.At near c) (answer_of told) ≡ ends_at id (event.Call c) told
own_ends near id (call.Read from max) reply.ReadEnd p = rw (same_side near) (sym (and_yes (from == id)))
own_ends near id (call.Read from max) told p = sym (and_no (from == id))
own_ends near id c told p = refl

pub far_ends : (near far : Side) → is_same_side near far ≡ false → (id : ℕ) (c : Call) (g : Answer) → ended_by near id (step.At far c) g ≡ false
far_ends near far apart id (call.Read from max) answer.ReadEnd = rw apart refl
far_ends near far apart id c g = refl

abbrev pub ends_of : (near far : Side) → is_same_side near far ≡ false → ℕ → Gathers near far Bool
ends_of near far apart id = record {
  unit = false;
  op = λ x y. x || y;
  unit_left = λ x. refl;
  all = ended near id;
  one = ended_by near id;
  none = refl;
  next = λ st sts g gs. refl;
  at = λ c told. ends_at id (event.Call c) told;
  own = own_ends near id;
  far_call = far_ends near far apart id;
  emits = λ side n g. refl;
  delivers = λ d n g. refl;
  stops = λ d g. refl;
  ends = λ d g. refl;
}

pub all_ended : (near far : Side) (apart : is_same_side near far ≡ false) (id : ℕ) (es : List (Event × Reply)) → total (ends_of near far apart id) es ≡ has_end id es
all_ended near far apart id [] = refl
all_ended near far apart id ((event.Call c, told) ∷ es) = ap (λ (v : Bool). ends_at id (event.Call c) told || v) (all_ended near far apart id es)
all_ended near far apart id ((event.Feed bytes, told) ∷ es) = all_ended near far apart id es
all_ended near far apart id ((event.FeedEnd, told) ∷ es) = all_ended near far apart id es
all_ended near far apart id ((event.Emit n, told) ∷ es) = all_ended near far apart id es

pub far_finishes : (near far : Side) → is_same_side near far ≡ false → (id : ℕ) (c : Call) (g : Answer) → finished_by near id (step.At far c) g ≡ false
far_finishes near far apart id (call.Finish to) answer.Done = rw apart refl
far_finishes near far apart id c g = refl

abbrev pub finishes_of : (near far : Side) → is_same_side near far ≡ false → ℕ → Gathers near far Bool
finishes_of near far apart id = record {
  unit = false;
  op = λ x y. x || y;
  unit_left = λ x. refl;
  all = finished near id;
  one = finished_by near id;
  none = refl;
  next = λ st sts g gs. refl;
  at = λ c told. finished_by near id (step.At near c) (answer_of told);
  own = λ c told p. refl;
  far_call = far_finishes near far apart id;
  emits = λ side n g. refl;
  delivers = λ d n g. refl;
  stops = λ d g. refl;
  ends = λ d g. refl;
}

own_finishes : (near : Side) (id : ℕ) (c : Call) (told : Reply) → finished_by near id (step.At near c) (answer_of told) ≡ true → finishes_at id (event.Call c) ≡ true
own_finishes near id (call.Finish to) reply.Done h = ap (λ (b : Bool). b && (to == id)) (sym (same_side near)) ∙ h
own_finishes near id c told h = let no : ⊥ = cc in absurd no

pub either : (a b p q : Bool) → (a || b) ≡ true → (a ≡ true → p ≡ true) → (b ≡ true → q ≡ true) → (p || q) ≡ true
either true b p q h f g = ap (λ (v : Bool). v || q) (f refl)
either false b p q h f g = or_second p q (g h)

pub all_finished : (near far : Side) (apart : is_same_side near far ≡ false) (id : ℕ) (es : List (Event × Reply)) → total (finishes_of near far apart id) es ≡ true → has_finish id es ≡ true
all_finished near far apart id [] h = h
all_finished near far apart id ((event.Call c, told) ∷ es) h =
    either (finished_by near id (step.At near c) (answer_of told)) (total (finishes_of near far apart id) es) (finishes_at id (event.Call c)) (has_finish id es) h (own_finishes near id c told) (all_finished near far apart id es)
all_finished near far apart id ((event.Feed bytes, told) ∷ es) h = all_finished near far apart id es h
all_finished near far apart id ((event.FeedEnd, told) ∷ es) h = all_finished near far apart id es h
all_finished near far apart id ((event.Emit n, told) ∷ es) h = all_finished near far apart id es h
