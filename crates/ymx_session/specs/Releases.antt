-- What becomes of streams that were released: their users are done with them, and what they wrote is still to arrive
-- (half-close, flow control; this project's own).
use Rattle.std.specs.Prelude.{◌≡◌, ℕ, ◌==◌, ◌≤◌, ◌&&◌, ◌||◌, nat_eq, nat_le, not, if◌then◌else◌, List, [], ◌∷◌, ◌++◌, length, filter, Bool, true, false, Option, None, Some}
use Rattle.std.specs.List.{list_any}
use Rattle.ymx_machine.specs.declared.types.Call.TheVariants as call
use Rattle.ymx_machine.specs.declared.types.CallFault.{CallFault}
use Rattle.ymx_machine.specs.declared.types.CallFault.TheVariants.{NoStream, Closed, TooMany}
use Rattle.ymx_machine.specs.shared.Events.{Call, Reply}
use Rattle.ymx_machine.specs.shared.Limits.{most_records}
use Rattle.ymx_machine.specs.shared.Lists.{look}
use Rattle.ymx_machine.specs.shared.Phases.{is_live}
use Rattle.ymx_model.specs.session.Events.{Event}
use Rattle.ymx_model.specs.declared.types.Event.TheVariants as event
use Rattle.ymx_model.specs.session.Records.{End}
use Rattle.ymx_model.specs.session.Sessions.{Session, is_running, is_closed}
use Rattle.ymx_model.specs.session.Calls.{outcome, finish}
use Rattle.ymx_model.specs.session.Emissions.{in_turn}
use Rattle.ymx_model.specs.session.Histories.{Gives}
use Rattle.ymx_table.specs.Listing.{is_held}
use Rattle.ymx_session.specs.Streams.{waiting}
use Rattle.ymx_session.specs.Touched.{Noted}

-- They are few, and there is memory for 1,024.
pub record KeepsReleased (ids : List ℕ) (capacity : ℕ) : Type 0 where
  pub few : length ids ≤ most_records
  pub room : most_records ≤ capacity

abbrev pub is_among : ℕ → List ℕ → Bool
is_among id ids = list_any (nat_eq id) ids

-- ---- one stream

abbrev pub held_at : Option End → Bool
held_at None = false
held_at (Some e) = is_held e

-- the caller of the session has a stream of this id: it was opened or accepted, and not forgotten
abbrev pub has_stream : ℕ → Session → Bool
has_stream id s = held_at (look id s.table.entries)

abbrev pub open_at : Option End → Bool
open_at None = false
open_at (Some e) = is_live e.phase && not e.reader.ended

-- more may still come of it: the session runs, and the stream was neither reset nor ended by the peer
abbrev pub goes_on : ℕ → Session → Bool
goes_on id s = is_running s.status && open_at (look id s.table.entries)

-- the call that a released stream gets: a read of all that waits, as long as it goes on, and else a forget
abbrev pub tending : ℕ → Session → Call
tending id s = if goes_on id s then call.Read id (length (waiting id s)) else call.Forget id

abbrev pub tended : ℕ → Session → Session
tended id s = (outcome (tending id s) s).next

-- It is finished, which is refused where it was finished or reset, or nothing more goes out; then it gets such a call.
abbrev pub let_go : ℕ → Session → Session
let_go id s = tended id (finish id s).next

-- why a stream isn't released: first that the session is closed, then that the caller has no such stream, or has none
-- any more, then that 1,024 others are
abbrev pub release_fault : List ℕ → ℕ → Session → Option CallFault
release_fault ids id s =
    if is_closed s.status then Some Closed
    else if is_among id ids || not (has_stream id s) then Some NoStream
    else if nat_le most_records (length ids) then Some TooMany
    else None

-- it stays among the released ones only if it goes on
abbrev pub with_released : Bool → ℕ → List ℕ → List ℕ
with_released stays id ids = if stays then ids ++ id ∷ [] else ids

-- ---- some streams, one after another

abbrev pub tended_all : List ℕ → Session → Session
tended_all [] s = s
tended_all (x ∷ xs) s = tended_all xs (tended x s)

-- one of them gets a forget
abbrev pub forgets : List ℕ → Session → Bool
forgets [] s = false
forgets (x ∷ xs) s = not (goes_on x s) || forgets xs (tended x s)

-- Which of the released ones are looked at: those that were touched; all of them where any may have been, or where the
-- session runs no more.
abbrev pub looked_at : List ℕ → Noted → Session → List ℕ
looked_at ids noted s = if noted.all || not (is_running s.status) then ids else filter (λ x. is_among x ids) noted.ids

-- where one was forgotten, those are left that the caller of the session still has
abbrev pub left_of : Bool → List ℕ → Session → List ℕ
left_of forgot ids s = if forgot then filter (λ x. has_stream x s) ids else ids

-- ---- what that is

-- nothing of the stream is unread, and its end has not come: it waits for the peer's end alone
abbrev pub is_quiet : Option End → Bool
is_quiet None = false
is_quiet (Some e) = is_live e.phase && not e.reader.ended && length e.reader.unread == 0

-- a finish, a read or a forget of one of these streams
abbrev pub is_end_of : List ℕ → Event → Bool
is_end_of ids (event.Call (call.Finish id)) = is_among id ids
is_end_of ids (event.Call (call.Read id room)) = is_among id ids
is_end_of ids (event.Call (call.Forget id)) = is_among id ids
is_end_of ids _ = false

-- From s each of these events is such a call, gives its reply, and the last state is t.
abbrev pub Ends : List ℕ → List (Event × Reply) → Session → Session → Type 0
Ends ids [] s t = t ≡ s
Ends ids (e ∷ es) s t = (is_end_of ids e.0 ≡ true) × ((next : Session) × Gives in_turn s e.0 e.1 next × Ends ids es next t)

-- some such events lead from s to t
abbrev pub OnlyEnds : List ℕ → Session → Session → Type 0
OnlyEnds ids s t = (events : List (Event × Reply)) × Ends ids events s t
