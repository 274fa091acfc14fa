-- A session with the streams that its caller has released, and what is proved of a call on it.
use Rattle.std.specs.Prelude.{◌≡◌, ◌⊎◌, ◌+◌, ◌<◌, ◌++◌, ℕ, ℤ, pos, List, [], ◌∷◌, length, take, drop, min, Bool, true, false, IsTrue, ◌↔◌, if◌then◌else◌, Option, None, Some, IsSome, MatchBool, MatchOption}
use Rattle.ymx_machine.specs.declared.types.CallFault.TheVariants.{NoStream, Closed, Reset}
use Rattle.ymx_machine.specs.declared.types.Fed.{Fed}
use Rattle.ymx_model.specs.session.Events.{Event}
use Rattle.ymx_machine.specs.declared.types.Reply.TheVariants as reply
use Rattle.ymx_model.specs.session.Calls.{read_from}
use Rattle.ymx_session.specs.Replies.{stream_fault}
use Rattle.ymx_model.specs.session.Sessions.{Session, is_closed, new_session}
use Rattle.ymx_model.specs.session.Feeds.{is_stuck}
use Rattle.ymx_model.specs.session.FramesDue.{frame}
use Rattle.ymx_session.specs.declared.passing.Passing.{Passing}
use Rattle.ymx_session.specs.NewSessions.{first_id}
use Rattle.ymx_session.specs.Passing.{passing, Passes, FeedsSome, TakesUnpassed}
use Rattle.ymx_session.specs.Releases.{is_among, goes_on, let_go, release_fault, with_released, tended_all, forgets, looked_at, left_of}
use Rattle.ymx_session.specs.Through.{goes_through, WritesThrough}
use Rattle.ymx_session.specs.Touched.{Noted, NotesChanges, NotesOnly, StaysNoted}
use Rattle.ymx_table.specs.Listing.{held_ids}
use Rattle.ymx_c.specs.declared.handle.Handle.{Handle}
use Rattle.ymx_c.specs.Answers.{Answers, Fills, refusal, flag, role_of}
use Rattle.ymx_c.specs.Readiness.{Touches, Shows, Consumes, number_limit, total_limit}

-- a session that has done nothing, of which no stream is released
abbrev pub new_handle : (role window first : ℕ) → Handle
new_handle role window first = record { session = new_session (role_of role) window (first_id (role_of role) first); releases = [] }

-- the stream of this id was released, and is none of the caller's
abbrev pub is_released : ℕ → Handle → Bool
is_released id h = is_among id h.releases

-- what a call on such a stream answers
abbrev pub no_stream : Session → ℤ
no_stream s = if is_closed s.status then refusal Closed else refusal NoStream

-- it answers so, and nothing changes
abbrev pub IsNone : Handle → ℤ → Handle → Type 0
IsNone old n new = (n ≡ no_stream old.session) × (new ≡ old)

-- ---- calls that are events

-- a call on the session, which leaves the released streams
abbrev pub AnswersIn : Handle → Event → ℤ → Handle → Type 0
AnswersIn old event n new = Answers old.session event n new.session × (new.releases ≡ old.releases)

-- a call on a stream
abbrev pub AnswersOf : (id : ℕ) → Handle → Event → ℤ → Handle → Type 0
AnswersOf id old event n new = MatchBool (is_released id old) (IsNone old n new) (AnswersIn old event n new)

-- the same, with the bytes of the reply at the front of the buffer
abbrev pub FillsIn : Handle → Event → ℤ → List ℕ → Handle → Type 0
FillsIn old event n buffer new = Fills old.session event n buffer new.session × (new.releases ≡ old.releases)

abbrev pub FillsOf : (id : ℕ) → Handle → Event → ℤ → (before after : List ℕ) → Handle → Type 0
FillsOf id old event n before after new = MatchBool (is_released id old) (IsNone old n new × (after ≡ before)) (FillsIn old event n after new)

abbrev pub ConsumesOf : (id count : ℕ) → Handle → ℤ → Handle → Type 0
ConsumesOf id count old n new = MatchBool (is_released id old) (IsNone old n new) (Consumes id count old.session n new.session × (new.releases ≡ old.releases))

-- ---- calls that only ask

-- the number, or 0 where the stream was released
abbrev pub told : (id : ℕ) → Handle → ℤ → ℤ
told id h n = if is_released id h then pos 0 else n

-- a number of bytes, or the largest that is answered
abbrev pub at_most : ℕ → ℤ
at_most count = pos (min count number_limit)

-- a sum of bytes, or the largest that is answered
abbrev pub at_most_total : ℕ → ℤ
at_most_total count = pos (min count total_limit)

abbrev pub ShowsOf : (id : ℕ) → Handle → ℤ → Type 0
ShowsOf id h n = MatchBool (is_released id h) (n ≡ pos 0) (Shows id h.session n)

-- 1 where a read would answer the end, else 0
pub record TellsEnd (id : ℕ) (h : Handle) (n : ℤ) : Type 0 where
  pub ended : Bool
  pub answer : n ≡ flag ended
  pub ends : IsTrue ended ↔ ((is_released id h ≡ false) × ((read_from id 1 h.session).reply ≡ reply.ReadEnd))

-- 1 where the stream was reset, else 0
pub record TellsReset (id : ℕ) (h : Handle) (n : ℤ) : Type 0 where
  pub reset : Bool
  pub answer : n ≡ flag reset
  pub was : IsTrue reset ↔ ((is_released id h ≡ false) × (stream_fault id h.session ≡ Some Reset))

-- How many streams the caller has; and their ids stand at the front of the buffer, as many as fit. The rest of it is as it
-- was.
abbrev pub ListsStreams : Handle → ℤ → (old new : List ℕ) → Type 0
ListsStreams h n old new =
    let ids = held_ids h.releases h.session.table.entries in
    (n ≡ at_most (length ids)) × (new ≡ take (length old) ids ++ drop (length ids) old)

-- ---- memory

-- 1 where memory was given back, 0 where none was
abbrev pub SaysGiven : ℤ → Type 0
SaysGiven n = (given : Bool) × (n ≡ flag given)

-- The same of a stream that the caller has; or the refusal that says why the caller has none.
abbrev pub SaysGivenOf : (id : ℕ) → Handle → ℤ → Type 0
SaysGivenOf id h n = MatchBool (is_released id h) (n ≡ no_stream h.session) (MatchOption (stream_fault id h.session) (SaysGiven n) (λ fault. n ≡ refusal fault))

-- ---- streams that are released

-- It is released, or it isn't, and nothing changes.
abbrev pub ReleasesOne : (id : ℕ) → Handle → ℤ → Handle → Type 0
ReleasesOne id old n new =
    MatchOption (release_fault old.releases id old.session)
    ((n ≡ pos 0) × (new.session ≡ let_go id old.session) × (new.releases ≡ with_released (goes_on id old.session) id old.releases))
    (λ fault. (n ≡ refusal fault) × (new ≡ old))

-- The released streams that are looked at get their calls, and those that are forgotten are released no more.
pub record Purges (looked released : List ℕ) (s : Session) (new : Handle) : Type 0 where
  pub tends : new.session ≡ tended_all looked s
  pub left : new.releases ≡ left_of (forgets looked s) released new.session

-- an event of the session, after which all released streams are looked at
abbrev pub AnswersThenPurges : Handle → Event → ℤ → Handle → Type 0
AnswersThenPurges old event n new = (mid : Session) × Answers old.session event n mid × Purges old.releases old.releases mid new

-- a feed, after which those are looked at that it touched
abbrev pub TouchesThenPurges : Handle → Noted → List ℕ → ℤ → Handle → Noted → Type 0
TouchesThenPurges old noted input n new noted_new =
    (mid : Session) × Touches old.session noted input n mid noted_new × Purges (looked_at old.releases noted_new mid) old.releases mid new

-- ---- without copies

-- So many of the bytes are fed, up to the first payload that may be passed on, and the streams that they touched are noted.
pub record FeedsToPayload (old : Session) (noted : Noted) (input : List ℕ) (taken : ℕ) (new : Session) (noted_new : Noted) : Type 0 where
  pub fed : Fed
  pub count : taken ≡ fed.taken
  pub feeds : FeedsSome old input fed new
  pub stops : fed.taken < length input → (is_stuck new ≡ true) ⊎ IsSome (passing new)
  pub no_further : TakesUnpassed (take fed.taken input) old new
  pub notes : NotesChanges old new noted_new
  pub kept : StaysNoted noted noted_new
  pub only : NotesOnly (take fed.taken input) old noted noted_new

abbrev pub if_released : List ℕ → Option Passing → Option Passing
if_released released None = None
if_released released (Some p) = if is_among p.id released then Some p else None

-- These bytes, so many of them, are payload that comes of a released stream, and are read at once.
abbrev pub DropsPayload : (released bytes : List ℕ) (count : ℕ) (s t : Session) → Type 0
DropsPayload released bytes count s t =
    MatchOption (if_released released (passing s)) ((count ≡ 0) × (t ≡ s))
    (λ p. (count ≡ min (length bytes) p.missing) × (((count ≡ 0) × (t ≡ s)) ⊎ Passes p.id (take count bytes) s t))

-- a feed up to the first payload that may be passed on, after which what comes of a released stream is dropped, and all
-- released streams are looked at: the last byte dropped may be a stream's end, of which no note tells
pub record ToPayloadThenPurges (old : Handle) (noted : Noted) (input : List ℕ) (n : ℤ) (new : Handle) (noted_new : Noted) : Type 0 where
  pub taken : ℕ
  pub dropped : ℕ
  pub answer : n ≡ pos (taken + dropped)
  pub fed : Session
  pub mid : Session
  pub feeds : FeedsToPayload old.session noted input taken fed noted_new
  pub drops : DropsPayload old.releases (drop taken input) dropped fed mid
  pub purges : Purges old.releases old.releases mid new

abbrev pub unless_released : List ℕ → Option Passing → Option Passing
unless_released released None = None
unless_released released (Some p) = if is_among p.id released then None else Some p

-- the payload that the caller may take right from the bytes that come
abbrev pub passing_of : Handle → Option Passing
passing_of h = unless_released h.releases (passing h.session)

abbrev pub missing_of : Option Passing → ℕ
missing_of None = 0
missing_of (Some p) = p.missing

abbrev pub placed : Option Passing → List ℕ → List ℕ
placed None ids = ids
placed (Some p) [] = []
placed (Some p) (_ ∷ ids) = p.id ∷ ids

-- How many bytes of such payload are still to come; and its stream's id stands in the first place, where there is one.
abbrev pub TellsPassing : Handle → ℤ → (old new : List ℕ) → Type 0
TellsPassing h n old new = (n ≡ pos (missing_of (passing_of h))) × (new ≡ placed (passing_of h) old)

-- As many of the bytes were passed on as are of such payload, and were read on its stream.
abbrev pub PassesSome : Handle → List ℕ → ℤ → Handle → Type 0
PassesSome old bytes n new =
    MatchOption (passing_of old) ((n ≡ pos 0) × (new ≡ old))
    (λ p. let count = min (length bytes) p.missing in
    (n ≡ pos count) × (new.releases ≡ old.releases) × (((count ≡ 0) × (new.session ≡ old.session)) ⊎ Passes p.id (take count bytes) old.session new.session))

-- The bytes went through the stream into the buffer, or nothing changed.
pub record WentThrough (id : ℕ) (bytes : List ℕ) (before after : List ℕ) (old : Handle) (n : ℤ) (new : Handle) : Type 0 where
  pub answer : n ≡ pos (12 + length bytes)
  pub event : WritesThrough id bytes (length before) (take (12 + length bytes) after) old.session new.session
  pub written : after ≡ frame 0 0 id (length bytes) bytes ++ drop (12 + length bytes) before
  pub released : new.releases ≡ old.releases

abbrev pub may_go_through : (id count size : ℕ) → Handle → Bool
may_go_through id count size h = if is_released id h then false else goes_through id count size h.session

abbrev pub WritesOn : (id : ℕ) → List ℕ → (before after : List ℕ) → Handle → ℤ → Handle → Type 0
WritesOn id bytes before after old n new =
    MatchBool (may_go_through id (length bytes) (length before) old)
    (WentThrough id bytes before after old n new)
    ((n ≡ pos 0) × (new ≡ old) × (after ≡ before))
