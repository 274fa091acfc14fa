-- A write of no bytes changes nothing, and what an empty stream says.
use Rattle.std.proofs.Common.{◌≡◌, ℕ, List, [], ◌∷◌, Bool, true, false, ◌&&◌, if◌then◌else◌, Option, None, Some, refl, sym, ap, ◌∙◌, arith}
use Rattle.std.specs.Prelude.{◌==◌, not, length, take, Result, Ok, Err, OnErr}
use Rattle.ymx_machine.specs.shared.Replies.{bytes_moved}
use Rattle.ymx_machine.specs.shared.Phases.{is_live, is_reset}
use Rattle.ymx_machine.specs.shared.Lists.{look}
use Rattle.ymx_machine.specs.declared.types.Reply.TheVariants.{Refused, Wrote as WroteReply, Read as ReadReply, ReadEnd, ReadWait}
use Rattle.ymx_machine.specs.declared.types.Wrote.{Wrote}
use Rattle.ymx_machine.specs.declared.types.Wrote.TheVariants.{Took}
use Rattle.ymx_machine.specs.declared.types.CallFault.{CallFault}
use Rattle.ymx_machine.specs.declared.types.CallFault.TheVariants.{NoStream, Finished, Reset, Lost, Closed}
use Rattle.ymx_model.specs.session.Records.{End}
use Rattle.ymx_model.specs.session.Sessions.{Session, is_lost, is_closed, is_running}
use Rattle.ymx_model.specs.declared.types.Status.{Status}
use Rattle.ymx_model.specs.declared.types.Status.TheVariants.{Running, Lost as LostStatus, Broken, Closed as ClosedStatus}
use Rattle.ymx_model.specs.session.Calls.{Outcome, refused, at_record, write_outcome, write_to, read_outcome, read_from}
use Rattle.ymx_machine.specs.shared.Events.{Reply}
use Rattle.ymx_machine.specs.declared.types.Call.TheVariants as call
use Rattle.ymx_model.specs.session.Histories.{CallGives}
use Rattle.ymx_model.specs.session.Histories.CallGives.{Outcome as HasOutcome, NoMemory}
use Rattle.ymx_session.specs.Replies.{is_out_of_memory}
use Rattle.ymx_engine.specs.Events.{is_memory_refusal, is_stop}
use Rattle.std.proofs.lemmas.Bool.Decides.{nat_tests}

moved_none : (a b c d : Bool) → bytes_moved (if a then Refused Reset else if b then Refused NoStream else if c then Refused Finished else if d then Refused Lost else WroteReply (Took 0)) ≡ 0
moved_none true b c d = refl
moved_none false true c d = refl
moved_none false false true d = refl
moved_none false false false true = refl
moved_none false false false false = refl

stays_if : (n : ℕ) (s t : Session) → n ≡ 0 → (if n == 0 then s else t) ≡ s
stays_if n s t e = grind arith

at_same : (c : Bool) (o : Option End) (f : End → Outcome) (s : Session) → ((e : End) → (f e).next ≡ s) → (if c then refused Closed s else at_record f s o).next ≡ s
at_same true o f s h = refl
at_same false None f s h = refl
at_same false (Some e) f s h = h e

nothing_written : (id : ℕ) (s : Session) → (write_to id [] s).next ≡ s
nothing_written id s = at_same (is_closed s.status) (look id s.table.entries) (write_outcome id [] s) s (λ e. stays_if _ s _ (moved_none (is_reset e.phase) (not (is_live e.phase)) (true && e.writer.finished) (is_lost s.status)))

pub writes_nothing : {X : Type 0} (id : ℕ) (s t : Session) (r : Result Wrote CallFault) → (is_out_of_memory r ≡ false → X × (t ≡ (write_to id [] s).next)) → OnErr r (t ≡ s) → t ≡ s
writes_nothing id s t (Ok w) done refuses = (done refl).1 ∙ nothing_written id s
writes_nothing id s t (Err fault) done refuses = refuses

memory_none : (a b c d : Bool) → is_memory_refusal (if a then Refused Reset else if b then Refused NoStream else if c then Refused Finished else if d then Refused Lost else WroteReply (Took 0)) ≡ false
memory_none true b c d = refl
memory_none false true c d = refl
memory_none false false true d = refl
memory_none false false false true = refl
memory_none false false false false = refl

reply_at : (P : Reply → Type 0) (c : Bool) (o : Option End) (f : End → Outcome) (s : Session) → P (Refused Closed) → P (Refused NoStream) → ((e : End) → P (f e).reply) → P (if c then refused Closed s else at_record f s o).reply
reply_at P true o f s closed none h = closed
reply_at P false None f s closed none h = none
reply_at P false (Some e) f s closed none h = h e

moved_zero : (id : ℕ) (s : Session) → bytes_moved (write_to id [] s).reply ≡ 0
moved_zero id s = reply_at (λ r. bytes_moved r ≡ 0) (is_closed s.status) (look id s.table.entries) (write_outcome id [] s) s refl refl (λ e. moved_none (is_reset e.phase) (not (is_live e.phase)) (true && e.writer.finished) (is_lost s.status))

wants_none : (a : Bool) (n : ℕ) → n ≡ 0 → (a && not (n == 0)) ≡ true → ⊥
wants_none true n e h = grind (arith, nat_tests)
wants_none false n e h = cc

-- what a write of no bytes answers
pub empty_told : (id : ℕ) (s t : Session) (told : Reply) → CallGives s (call.Write id []) told t → (write_to id [] s).reply ≡ told
empty_told id s t told (HasOutcome answer state) = sym answer
empty_told id s t told (NoMemory needs answer state) = absurd (wants_none _ (bytes_moved (write_to id [] s).reply) (moved_zero id s) needs)

-- it lacks no memory
pub empty_never_lacks : (id : ℕ) (s t : Session) (told : Reply) → CallGives s (call.Write id []) told t → is_memory_refusal told ≡ false
empty_never_lacks id s t told (HasOutcome answer state) =
    ap is_memory_refusal answer ∙ reply_at (λ r. is_memory_refusal r ≡ false) (is_closed s.status) (look id s.table.entries) (write_outcome id [] s) s refl refl (λ e. memory_none (is_reset e.phase) (not (is_live e.phase)) (true && e.writer.finished) (is_lost s.status))
empty_never_lacks id s t told (NoMemory needs answer state) = absurd (wants_none _ (bytes_moved (write_to id [] s).reply) (moved_zero id s) needs)

-- ---- what an empty stream says

some_is : (x : ℕ) (xs : List ℕ) → (length (x ∷ xs) == 0) ≡ false
some_is x xs = grind (arith, nat_tests)

over_end : (reset dead ended lost : Bool) (here : List ℕ) → lost ≡ true →
    (if reset then Refused Reset else if dead then Refused NoStream else if not (length here == 0) then ReadReply (take 1 here) else if ended then ReadEnd else if lost then Refused Lost else ReadWait) ≡ ReadWait → ⊥
over_end true dead ended lost here over h = cc
over_end false true ended lost here over h = cc
over_end false false ended lost (x ∷ here) over h = let no = rw (some_is x here) at h in cc
over_end false false true lost [] over h = cc
over_end false false false true [] over h = cc
over_end false false false false [] over h = cc

over_at : (closed : Bool) (o : Option End) (id : ℕ) (s : Session) → (closed ≡ false → is_lost s.status ≡ true) → (if closed then refused Closed s else at_record (read_outcome id 1 s) s o).reply ≡ ReadWait → ⊥
over_at true o id s over h = cc
over_at false None id s over h = cc
over_at false (Some e) id s over h = over_end (is_reset e.phase) (not (is_live e.phase)) e.reader.ended (is_lost s.status) e.reader.unread (over refl) h

over_lost : (st : Status) → is_running st ≡ false → is_closed st ≡ false → is_lost st ≡ true
over_lost Running h k = cc
over_lost LostStatus h k = refl
over_lost (Broken f) h k = refl
over_lost ClosedStatus h k = cc

-- in a session that is over no stream says 'wait'
pub over_never_waits : (id : ℕ) (s : Session) → is_running s.status ≡ false → (read_from id 1 s).reply ≡ ReadWait → ⊥
over_never_waits id s over h = over_at (is_closed s.status) (look id s.table.entries) id s (over_lost s.status over) h

-- ---- what a stream that says 'wait' takes

wait_takes : (reset dead ended lost finished : Bool) (here : List ℕ) →
    (if reset then Refused Reset else if dead then Refused NoStream else if not (length here == 0) then ReadReply (take 1 here) else if ended then ReadEnd else if lost then Refused Lost else ReadWait) ≡ ReadWait →
    is_stop (if reset then Refused Reset else if dead then Refused NoStream else if true && finished then Refused Finished else if lost then Refused Lost else WroteReply (Took 0)) ≡ false
wait_takes true dead ended lost finished here h = cc
wait_takes false true ended lost finished here h = cc
wait_takes false false ended lost true here h = refl
wait_takes false false ended true false here h = absurd (over_end false false ended true here refl h)
wait_takes false false ended false false here h = refl

wait_at : (closed : Bool) (o : Option End) (id : ℕ) (s : Session) → (if closed then refused Closed s else at_record (read_outcome id 1 s) s o).reply ≡ ReadWait → is_stop (if closed then refused Closed s else at_record (write_outcome id [] s) s o).reply ≡ false
wait_at true o id s h = cc
wait_at false None id s h = cc
wait_at false (Some e) id s h = wait_takes (is_reset e.phase) (not (is_live e.phase)) e.reader.ended (is_lost s.status) e.writer.finished e.reader.unread h

-- a stream that says 'wait' takes bytes, or was finished here
pub wait_goes : (id : ℕ) (s : Session) → (read_from id 1 s).reply ≡ ReadWait → is_stop (write_to id [] s).reply ≡ false
wait_goes id s h = wait_at (is_closed s.status) (look id s.table.entries) id s h
