-- A call leaves what has come of a frame, and but for a close the rest of a frame begun.
use Rattle.std.proofs.Common.{◌≡◌, ℕ, List, [], ◌∷◌, take, false, ◌==◌, nat_le, Option, None, Some, length, refl}
use Rattle.std.specs.Prelude.{count_by}
use Rattle.ymx_machine.specs.shared.Events.{Call}
use Rattle.ymx_machine.specs.declared.types.Call.TheVariants as call
use Rattle.ymx_machine.specs.shared.Events.{Reply}
use Rattle.ymx_model.specs.session.Records.{End, end_write, end_read, end_finish, end_reset, end_forget}
use Rattle.ymx_machine.specs.shared.Phases.Phase.{WasReset}
use Rattle.ymx_machine.specs.shared.Replies.{write_reply, read_reply, finish_reply, reset_reply, forget_reply, bytes_moved, is_done}
use Rattle.ymx_machine.specs.shared.Limits.{most_pings, most_records, most_unacknowledged}
use Rattle.ymx_model.specs.session.Pings.{has_back}
use Rattle.ymx_machine.specs.shared.Lists.{look}
use Rattle.ymx_model.specs.session.Sessions.{Session, is_lost, is_closed, on_stream, reap}
use Rattle.ymx_model.specs.session.Calls.{Outcome, outcome, open_or, accept, accept_of, at_record, at_stream, write_outcome, read_outcome, if_done, finish_outcome, reset_outcome, forget_outcome, is_unacknowledged}
use Rattle.ymx_machine.proofs.Tests.{split}
use Rattle.ymx_headline.proofs.world.Emitted.{reaped-begun}

abbrev Leaves : Session → Session → Type 0
Leaves s x = (is_closed x.status ≡ false → (x.status ≡ s.status) × (x.outgoing ≡ s.outgoing)) × (x.incoming ≡ s.incoming)

abbrev Keeps : Session → Outcome → Type 0
Keeps s o = Leaves s o.next

same : (s : Session) → Leaves s s
same s = (λ c. (refl, refl), refl)

open-keeps : (s : Session) (o : Outcome) → Keeps s o → Keeps s (open_or s o)
open-keeps s o k =
    split (Keeps s) (is_closed s.status) _ _ (λ t. same s) (λ f1.
    split (Keeps s) (is_lost s.status) _ _ (λ t. same s) (λ f2.
    split (Keeps s) s.away.there _ _ (λ t. same s) (λ f3.
    split (Keeps s) (nat_le 4294967294 s.next) _ _ (λ t. same s) (λ f4.
    split (Keeps s) (nat_le most_unacknowledged (count_by (is_unacknowledged s.role) s.table.entries)) _ _ (λ t. same s) (λ f5.
    split (Keeps s) (nat_le most_records (length s.table.entries)) _ o (λ t. same s) (λ f6. k))))))

accept-keeps : (s : Session) → Keeps s (accept s)
accept-keeps s = split (Keeps s) (is_closed s.status) _ _ (λ t. same s) (λ f. of s.offered)
  where
    of : (ids : List ℕ) → Keeps s (accept_of ids s)
    of [] = split (Keeps s) (is_lost s.status) _ _ (λ t. same s) (λ f. same s)
    of (id ∷ ids) = (λ c. (refl, refl), refl)

with-keeps : (id : ℕ) (f : End → Outcome) (s : Session) → ((e : End) → Keeps s (f e)) → Keeps s (at_stream id f s)
with-keeps id f s k = split (Keeps s) (is_closed s.status) _ _ (λ t. same s) (λ n. of (look id s.table.entries))
  where
    of : (o : Option End) → Keeps s (at_record f s o)
    of None = same s
    of (Some e) = k e

done-keeps : (r : Reply) (s changed : Session) → Leaves s changed → Keeps s (if_done r changed s)
done-keeps r s changed k = split (Leaves s) (is_done r) changed s (λ t. k) (λ f. same s)

write-keeps : (id : ℕ) (bytes : List ℕ) (s : Session) (e : End) → Keeps s (write_outcome id bytes s e)
write-keeps id bytes s e =
    let r = write_reply (is_lost s.status) bytes e.phase e.writer.finished e.writer.credit in
    split (Leaves s) (bytes_moved r == 0) s (on_stream id (end_write (take (bytes_moved r) bytes)) s) (λ t. same s) (λ f. (λ c. (refl, refl), refl))

read-keeps : (id max : ℕ) (s : Session) (e : End) → Keeps s (read_outcome id max s e)
read-keeps id max s e =
    let r = read_reply (is_lost s.status) max e.phase e.reader.unread e.reader.ended in
    split (Leaves s) (bytes_moved r == 0) s (on_stream id (end_read max) s) (λ t. same s) (λ f. (λ c. (refl, refl), refl))

forget-keeps : (id : ℕ) (s : Session) (e : End) → Keeps s (forget_outcome id s e)
forget-keeps id s e =
    let b = reaped-begun id (on_stream id (end_forget (is_lost s.status)) s) _ refl in
    done-keeps (forget_reply e.phase) s (reap id (on_stream id (end_forget (is_lost s.status)) s)) (λ c. (b.1.status, b.0), b.1.incoming)

pub call-keeps : (c : Call) (s : Session) → Leaves s (outcome c s).next
call-keeps call.Open s = open-keeps s _ (λ c. (refl, refl), refl)
call-keeps (call.OpenWith bytes) s = open-keeps s _ (λ c. (refl, refl), refl)
call-keeps call.Accept s = accept-keeps s
call-keeps (call.Write id bytes) s = with-keeps id (write_outcome id bytes s) s (write-keeps id bytes s)
call-keeps (call.Read id max) s = with-keeps id (read_outcome id max s) s (read-keeps id max s)
call-keeps (call.Finish id) s = with-keeps id (finish_outcome id s) s (λ e. done-keeps (finish_reply (is_lost s.status) e.phase e.writer.finished) s (on_stream id end_finish s) (λ c. (refl, refl), refl))
call-keeps (call.Reset id) s = with-keeps id (reset_outcome id s) s (λ e. done-keeps (reset_reply (is_lost s.status) e.phase) s (on_stream id (end_reset WasReset) s) (λ c. (refl, refl), refl))
call-keeps (call.Forget id) s = with-keeps id (forget_outcome id s) s (forget-keeps id s)
call-keeps call.Ping s =
    split (Keeps s) (is_closed s.status) _ _ (λ t. same s) (λ f. split (Keeps s) (is_lost s.status) _ _ (λ t. same s) (λ g.
    split (Keeps s) (nat_le most_pings (length s.pings.pending)) _ _ (λ t. same s) (λ k. (λ c. (refl, refl), refl))))
call-keeps (call.Ponged n) s =
    split (Keeps s) (is_closed s.status) _ _ (λ t. same s) (λ f. split (Keeps s) (has_back n s.pings.pending) _ _ (λ t. (λ c. (refl, refl), refl)) (λ g.
    split (Keeps s) (is_lost s.status) _ _ (λ t. same s) (λ k. same s)))
call-keeps call.GoAway s =
    split (Keeps s) (is_closed s.status) _ _ (λ t. same s) (λ f. split (Keeps s) (is_lost s.status) _ _ (λ t. same s) (λ g. (λ c. (refl, refl), refl)))
call-keeps call.Close s = (λ c. absurd cc, refl)
