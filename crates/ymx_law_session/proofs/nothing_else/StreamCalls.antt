-- What the change of one record keeps, and its going, every call on its stream keeps.
use Rattle.std.proofs.Common.{ℕ, List, take, ◌==◌}
use Rattle.ymx_machine.specs.declared.types.Call.TheVariants as call
use Rattle.ymx_machine.specs.shared.Phases.Phase.{WasReset}
use Rattle.ymx_machine.specs.shared.Replies.{write_reply, read_reply, finish_reply, reset_reply, forget_reply, bytes_moved, is_done}
use Rattle.ymx_model.specs.session.Records.{End, end_write, end_read, end_finish, end_reset, end_forget}
use Rattle.ymx_model.specs.session.Sessions.{Session, is_lost, on_stream, reap}
use Rattle.ymx_model.specs.session.Calls.{outcome, write_outcome, read_outcome, finish_outcome, reset_outcome, forget_outcome}
use Rattle.ymx_machine.proofs.Tests.{split}
use Rattle.ymx_law_session.proofs.limits.CallsKeep.{with-keeps}

-- it holds now, after any change of the record, and after one after which the record may go
pub record StaysAt (P : Session → Type 0) (id : ℕ) (s : Session) : Type 0 where
  pub now : P s
  pub changed : (f : End → End) → P (on_stream id f s)
  pub gone : (f : End → End) → P (reap id (on_stream id f s))

pub write-stays : (P : Session → Type 0) (id : ℕ) (bytes : List ℕ) (s : Session) → StaysAt P id s → P (outcome (call.Write id bytes) s).next
write-stays P id bytes s h = with-keeps P id (write_outcome id bytes s) s h.now (λ e l.
    let r = write_reply (is_lost s.status) bytes e.phase e.writer.finished e.writer.credit in
    split P (bytes_moved r == 0) s (on_stream id (end_write (take (bytes_moved r) bytes)) s) (λ t. h.now) (λ n. h.changed (end_write (take (bytes_moved r) bytes))))

pub read-stays : (P : Session → Type 0) (id max : ℕ) (s : Session) → StaysAt P id s → P (outcome (call.Read id max) s).next
read-stays P id max s h = with-keeps P id (read_outcome id max s) s h.now (λ e l.
    split P (bytes_moved (read_reply (is_lost s.status) max e.phase e.reader.unread e.reader.ended) == 0) s (on_stream id (end_read max) s) (λ t. h.now) (λ n. h.changed (end_read max)))

pub finish-stays : (P : Session → Type 0) (id : ℕ) (s : Session) → StaysAt P id s → P (outcome (call.Finish id) s).next
finish-stays P id s h = with-keeps P id (finish_outcome id s) s h.now (λ e l.
    split P (is_done (finish_reply (is_lost s.status) e.phase e.writer.finished)) (on_stream id end_finish s) s (λ t. h.changed end_finish) (λ n. h.now))

pub reset-stays : (P : Session → Type 0) (id : ℕ) (s : Session) → StaysAt P id s → P (outcome (call.Reset id) s).next
reset-stays P id s h = with-keeps P id (reset_outcome id s) s h.now (λ e l.
    split P (is_done (reset_reply (is_lost s.status) e.phase)) (on_stream id (end_reset WasReset) s) s (λ t. h.changed (end_reset WasReset)) (λ n. h.now))

pub forget-stays : (P : Session → Type 0) (id : ℕ) (s : Session) → StaysAt P id s → P (outcome (call.Forget id) s).next
forget-stays P id s h = with-keeps P id (forget_outcome id s) s h.now (λ e l.
    split P (is_done (forget_reply e.phase)) (reap id (on_stream id (end_forget (is_lost s.status)) s)) s (λ t. h.gone (end_forget (is_lost s.status))) (λ n. h.now))
