-- What a session says of a stream that has ended, or that it has no more.
use Rattle.std.proofs.Common.{◌≡◌, ℕ, List, [], ◌∷◌, Bool, true, false, not, if◌then◌else◌, Option, None, Some, refl}
use Rattle.std.specs.Prelude.{IsSome, is_some}
use Rattle.ymx_machine.specs.declared.types.CallFault.TheVariants as fault
use Rattle.ymx_machine.specs.shared.Lists.{look}
use Rattle.ymx_machine.specs.shared.Phases.{Phase, is_live, is_reset}
use Rattle.ymx_machine.specs.shared.Phases.Phase.{Unborn, Offered, Live, WasReset, Refused, Lingering, Gone}
use Rattle.ymx_machine.specs.shared.Replies.{read_reply, write_reply}
use Rattle.ymx_model.specs.session.Calls.{refused, at_record, read_outcome, write_outcome}
use Rattle.ymx_model.specs.session.Records.{End}
use Rattle.ymx_model.specs.session.Sessions.{Session, is_closed, is_lost}
use Rattle.ymx_session.specs.Replies.{end_fault, stream_fault}
use Rattle.ymx_session.specs.Streams.{waiting, unread_of, has_ended, ended_of}
use Rattle.ymx_engine.specs.Events.{is_stop}
use Rattle.ymx_engine.specs.Serves.{tells_end, is_silent, is_stopped}

-- ---- a stream that the session has no more

gone_from : (p : Phase) (lost ended finished : Bool) (unread : List ℕ) (credit : ℕ) → IsSome (if is_reset p then Some fault.Reset else if not (is_live p) then Some fault.NoStream else None) →
    (tells_end (read_reply lost 1 p unread ended) ≡ true) × (is_stop (write_reply lost [] p finished credit) ≡ true)
gone_from Unborn lost ended finished unread credit h = (refl, refl)
gone_from Offered lost ended finished unread credit h = (refl, refl)
gone_from Live lost ended finished unread credit h = let no : false ≡ true = h in absurd cc
gone_from WasReset lost ended finished unread credit h = (refl, refl)
gone_from Refused lost ended finished unread credit h = (refl, refl)
gone_from Lingering lost ended finished unread credit h = (refl, refl)
gone_from Gone lost ended finished unread credit h = (refl, refl)

gone_at : (closed : Bool) (o : Option End) (id : ℕ) (s : Session) → IsSome (if closed then Some fault.Closed else end_fault o) →
    (tells_end (if closed then refused fault.Closed s else at_record (read_outcome id 1 s) s o).reply ≡ true) × (is_stop (if closed then refused fault.Closed s else at_record (write_outcome id [] s) s o).reply ≡ true)
gone_at true o id s h = (refl, refl)
gone_at false None id s h = (refl, refl)
gone_at false (Some e) id s h = gone_from e.phase (is_lost s.status) e.reader.ended e.writer.finished e.reader.unread e.writer.credit h

-- a read of it says so, and a write
pub gone_says : (id : ℕ) (s : Session) → IsSome (stream_fault id s) → (is_silent id s ≡ true) × (is_stopped id s ≡ true)
gone_says id s h = gone_at (is_closed s.status) (look id s.table.entries) id s h

-- ---- a stream that has ended

over_from : (p : Phase) (lost ended : Bool) (unread : List ℕ) → (if is_reset p then Some fault.Reset else if not (is_live p) then Some fault.NoStream else None) ≡ None → unread ≡ [] → ended ≡ true → tells_end (read_reply lost 1 p unread ended) ≡ true
over_from Live lost true [] none empty over = refl
over_from Live lost true (x ∷ xs) none empty over = cc
over_from Live lost false unread none empty over = cc
over_from Unborn lost ended unread none empty over = refl
over_from Offered lost ended unread none empty over = refl
over_from WasReset lost ended unread none empty over = refl
over_from Refused lost ended unread none empty over = refl
over_from Lingering lost ended unread none empty over = refl
over_from Gone lost ended unread none empty over = refl

over_at : (closed : Bool) (o : Option End) (id : ℕ) (s : Session) → (if closed then Some fault.Closed else end_fault o) ≡ None → (if is_some (if closed then Some fault.Closed else end_fault o) then [] else unread_of o) ≡ [] →
    (if is_some (if closed then Some fault.Closed else end_fault o) then false else ended_of o) ≡ true → tells_end (if closed then refused fault.Closed s else at_record (read_outcome id 1 s) s o).reply ≡ true
over_at true o id s none empty over = refl
over_at false None id s none empty over = refl
over_at false (Some e) id s none empty over = over_from e.phase (is_lost s.status) e.reader.ended e.reader.unread none (unread_is (end_fault (Some e)) none empty) (ended_is (end_fault (Some e)) none over)
  where
    unread_is : {A : Type 0} {xs : List ℕ} (o : Option A) → o ≡ None → (if is_some o then [] else xs) ≡ [] → xs ≡ []
    unread_is None none e = e
    unread_is (Some x) none e = cc

    ended_is : {A : Type 0} {b : Bool} (o : Option A) → o ≡ None → (if is_some o then false else b) ≡ true → b ≡ true
    ended_is None none e = e
    ended_is (Some x) none e = cc

-- a read of it says so once no bytes wait
pub over_says : (id : ℕ) (s : Session) → stream_fault id s ≡ None → waiting id s ≡ [] → has_ended id s ≡ true → is_silent id s ≡ true
over_says id s none empty over = over_at (is_closed s.status) (look id s.table.entries) id s none empty over
