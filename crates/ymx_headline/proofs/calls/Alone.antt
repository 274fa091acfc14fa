-- What a call on a stream leaves of its session.
use Rattle.std.proofs.Common.{◌≡◌, ℕ, Bool, true, false, not, ◌&&◌, ◌==◌, Option, None, Some, refl, sym, ap, subst, ◌∙◌}
use Rattle.ymx_machine.specs.shared.Events.{Reply}
use Rattle.ymx_machine.specs.declared.types.Reply.TheVariants.{Refused}
use Rattle.ymx_machine.specs.declared.types.CallFault.{CallFault}
use Rattle.ymx_machine.specs.declared.types.CallFault.TheVariants.{NoStream, Closed}
use Rattle.ymx_machine.specs.shared.Phases.Phase.{WasReset}
use Rattle.ymx_machine.specs.stream.StreamRules.{StreamCall}
use Rattle.ymx_machine.specs.shared.Replies.{write_reply, read_reply, finish_reply, reset_reply, forget_reply, bytes_moved, is_done}
use Rattle.ymx_machine.specs.stream.StreamRules.StreamCall.{Writes, Reads, Finishes, Resets, Forgets}
use Rattle.ymx_model.specs.session.Records.{End, end_finish, end_reset, end_forget}
use Rattle.ymx_machine.specs.shared.Lists.{look}
use Rattle.ymx_model.specs.session.Tables.{remove_record}
use Rattle.ymx_model.specs.session.Sessions.{Session, is_lost, is_closed, is_spent, on_stream, reap}
use Rattle.ymx_model.specs.session.Calls.{Outcome, outcome, refused, at_record, at_stream, write_outcome, read_outcome, if_done, finish_outcome, reset_outcome, forget_outcome, takes_memory}
use Rattle.ymx_model.specs.session.Histories.{CallGives}
use Rattle.ymx_model.specs.session.Histories.CallGives.{Outcome as HasOutcome, NoMemory}
use Rattle.ymx_law_session.specs.Refusals.{OthersSame, OnlyTable}
use Rattle.ymx_machine.proofs.Tests.{split}
use Rattle.ymx_law_session.proofs.nothing_else.Others.{write-others, read-others, finish-others, reset-others, forget-others}
use Rattle.ymx_law_session.proofs.nothing_else.Alone.{write-alone, read-alone, finish-alone, reset-alone, forget-alone}
use Rattle.ymx_headline.proofs.records.Ends.{call_on}

-- ---- the window stays

abbrev Stays : Session → Outcome → Type 0
Stays s o = o.next.table.window ≡ s.table.window

abbrev StaysIn : Session → Session → Type 0
StaysIn s t = t.table.window ≡ s.table.window

with-stays : (id : ℕ) (f : End → Outcome) (s : Session) → ((e : End) → Stays s (f e)) → Stays s (at_stream id f s)
with-stays id f s h = split (Stays s) (is_closed s.status) _ _ (λ t. refl) (λ c. of (look id s.table.entries))
  where
    of : (o : Option End) → Stays s (at_record f s o)
    of None = refl
    of (Some e) = h e

reaped-stays : (id : ℕ) (f : End → End) (s : Session) → StaysIn s (reap id (on_stream id f s))
reaped-stays id f s =
    let t = on_stream id f s in
    split (StaysIn s) (is_spent t.table.window t.outgoing id (look id t.table.entries)) (record t { table = remove_record id t.table }) t (λ e. refl) (λ e. refl)

done-stays : (r : Reply) (s t : Session) → StaysIn s t → Stays s (if_done r t s)
done-stays r s t h = split (StaysIn s) (is_done r) t s (λ e. h) (λ e. refl)

pub record OnlyStream (id : ℕ) (s t : Session) : Type 0 where
  pub alone : OnlyTable s t
  pub others : OthersSame id s t
  pub window : t.table.window ≡ s.table.window

only-outcome : (c : StreamCall) (id : ℕ) (s : Session) → OnlyStream id s (outcome (call_on c id) s).next
only-outcome (Writes bytes) id s = record {
  alone = write-alone id bytes s;
  others = write-others id bytes s;
  window = with-stays id (write_outcome id bytes s) s (λ e. split (StaysIn s) (bytes_moved (write_reply (is_lost s.status) bytes e.phase e.writer.finished e.writer.credit) == 0) s _ (λ t. refl) (λ f. refl));
}
only-outcome (Reads max) id s = record {
  alone = read-alone id max s;
  others = read-others id max s;
  window = with-stays id (read_outcome id max s) s (λ e. split (StaysIn s) (bytes_moved (read_reply (is_lost s.status) max e.phase e.reader.unread e.reader.ended) == 0) s _ (λ t. refl) (λ f. refl));
}
only-outcome Finishes id s = record {
  alone = finish-alone id s;
  others = finish-others id s;
  window = with-stays id (finish_outcome id s) s (λ e. done-stays (finish_reply (is_lost s.status) e.phase e.writer.finished) s (on_stream id end_finish s) refl);
}
only-outcome Resets id s = record {
  alone = reset-alone id s;
  others = reset-others id s;
  window = with-stays id (reset_outcome id s) s (λ e. done-stays (reset_reply (is_lost s.status) e.phase) s (on_stream id (end_reset WasReset) s) refl);
}
only-outcome Forgets id s = record {
  alone = forget-alone id s;
  others = forget-others id s;
  window = with-stays id (forget_outcome id s) s (λ e. done-stays (forget_reply e.phase) s (reap id (on_stream id (end_forget (is_lost s.status)) s)) (reaped-stays id (end_forget (is_lost s.status)) s));
}

pub only-stream : (c : StreamCall) (id : ℕ) (s t : Session) (reply : Reply) → CallGives s (call_on c id) reply t → OnlyStream id s t
only-stream c id s t reply (HasOutcome answer state) = subst (OnlyStream id s) (sym state) (only-outcome c id s)
only-stream c id s t reply (NoMemory needs answer state) = subst (OnlyStream id s) (sym state) (record { alone = refl; others = λ j n. refl; window = refl })

-- ---- a closed session refuses, and so does one without the record

with-closed : (id : ℕ) (f : End → Outcome) (s : Session) → is_closed s.status ≡ true → at_stream id f s ≡ refused Closed s
with-closed id f s c = rw c refl

with-none : (id : ℕ) (f : End → Outcome) (s : Session) → is_closed s.status ≡ false → look id s.table.entries ≡ None → at_stream id f s ≡ refused NoStream s
with-none id f s c l = rw (c, l) refl

closed-outcome : (c : StreamCall) (id : ℕ) (s : Session) → is_closed s.status ≡ true → outcome (call_on c id) s ≡ refused Closed s
closed-outcome (Writes bytes) id s c = with-closed id _ s c
closed-outcome (Reads max) id s c = with-closed id _ s c
closed-outcome Finishes id s c = with-closed id _ s c
closed-outcome Resets id s c = with-closed id _ s c
closed-outcome Forgets id s c = with-closed id _ s c

none-outcome : (c : StreamCall) (id : ℕ) (s : Session) → is_closed s.status ≡ false → look id s.table.entries ≡ None → outcome (call_on c id) s ≡ refused NoStream s
none-outcome (Writes bytes) id s c l = with-none id _ s c l
none-outcome (Reads max) id s c l = with-none id _ s c l
none-outcome Finishes id s c l = with-none id _ s c l
none-outcome Resets id s c l = with-none id _ s c l
none-outcome Forgets id s c l = with-none id _ s c l

and-not : (a : Bool) → a && not (0 == 0) ≡ true → ⊥
and-not true e = cc
and-not false e = cc

-- a call that is refused wants no memory
wants-none : (c : StreamCall) (id : ℕ) (s : Session) (fault : CallFault) → outcome (call_on c id) s ≡ refused fault s → takes_memory (call_on c id) s ≡ true → ⊥
wants-none (Writes bytes) id s fault e m = and-not _ (rw e at m)
wants-none (Reads max) id s fault e m = cc
wants-none Finishes id s fault e m = cc
wants-none Resets id s fault e m = cc
wants-none Forgets id s fault e m = cc

pub refuses : (c : StreamCall) (id : ℕ) (s t : Session) (reply : Reply) (fault : CallFault) → outcome (call_on c id) s ≡ refused fault s → CallGives s (call_on c id) reply t → (reply ≡ Refused fault) × (t ≡ s)
refuses c id s t reply fault e (HasOutcome answer state) = (answer ∙ ap (λ o. o.reply) e, state ∙ ap (λ o. o.next) e)
refuses c id s t reply fault e (NoMemory needs answer state) = absurd (wants-none c id s fault e needs)

pub closed-refuses : (c : StreamCall) (id : ℕ) (s t : Session) (reply : Reply) → is_closed s.status ≡ true → CallGives s (call_on c id) reply t → (reply ≡ Refused Closed) × (t ≡ s)
closed-refuses c id s t reply e g = refuses c id s t reply Closed (closed-outcome c id s e) g

pub none-refuses : (c : StreamCall) (id : ℕ) (s t : Session) (reply : Reply) → is_closed s.status ≡ false → look id s.table.entries ≡ None → CallGives s (call_on c id) reply t → (reply ≡ Refused NoStream) × (t ≡ s)
none-refuses c id s t reply e l g = refuses c id s t reply NoStream (none-outcome c id s e l) g
