-- What C learns of streams without a read or a write: what waits, what fits, and which ones bytes have touched.
use Rattle.std.specs.Prelude.{◌≡◌, ◌≤◌, ◌<◌, ◌++◌, ℕ, ℤ, pos, List, [], ◌∷◌, length, take, drop, min}
use Rattle.ymx_model.specs.declared.types.Event.TheVariants as event
use Rattle.ymx_machine.specs.declared.types.Call.TheVariants as call
use Rattle.ymx_machine.specs.shared.Events.{Reply}
use Rattle.ymx_machine.specs.declared.types.Reply.TheVariants.{Read}
use Rattle.ymx_model.specs.session.Sessions.{Session}
use Rattle.ymx_model.specs.session.Emissions.{in_turn}
use Rattle.ymx_model.specs.session.Histories.{Gives}
use Rattle.ymx_session.specs.Streams.{waiting}
use Rattle.ymx_session.specs.Touched.{Noted, NotesChanges, NotesOnly, StaysNoted, nothing_noted}
use Rattle.std.specs.Ptr.{Ptr}
use Rattle.ymx_c.specs.NewAnswers.{IsSomewhere}
use Rattle.ymx_c.specs.Answers.{Answers, code}

-- The largest number of bytes or streams that is answered where the call moves none. No credit is above it (flow control).
abbrev pub number_limit : ℕ
number_limit = 4294967295

-- The largest sum of bytes that is answered: the greatest answer of a call.
abbrev pub total_limit : ℕ
total_limit = 9223372036854775807

-- The bytes were fed, and the streams that they touched stand in the note, after those that stood there before. None
-- is added that no frame among the bytes taken was of.
pub record Touches (old : Session) (noted : Noted) (input : List ℕ) (n : ℤ) (new : Session) (noted_new : Noted) : Type 0 where
  pub feeds : Answers old (event.Feed input) n new
  pub notes : NotesChanges old new noted_new
  pub kept : StaysNoted noted noted_new
  pub taken : ℕ
  pub answer : n ≡ pos taken
  pub only : NotesOnly (take taken input) old noted noted_new

-- So many of the first bytes that wait on a stream are shown: some, if any byte waits.
pub record Shows (id : ℕ) (s : Session) (n : ℤ) : Type 0 where
  pub count : ℕ
  pub answer : n ≡ pos count
  pub within : count ≤ length (waiting id s)
  pub some : 0 < length (waiting id s) → 0 < count

-- the number that stands for the reply to a read of bytes that the caller has seen: 0 for the bytes
abbrev pub seen_code : Reply → ℤ
seen_code (Read bytes) = pos 0
seen_code answer = code answer

-- this was a read of so many bytes, and the number stands for its reply
abbrev pub Consumes : (id count : ℕ) → Session → ℤ → Session → Type 0
Consumes id count old n new = (answer : Reply) × Gives in_turn old (event.Call (call.Read id count)) answer new × (n ≡ seen_code answer)

-- how many streams of the peer's wait to be accepted
abbrev pub CountsOffered : Session → ℤ → Type 0
CountsOffered s n = n ≡ pos (min (length s.offered) number_limit)

-- How many ids are noted; and they stand at the front of the buffer, as many as fit. The rest of it is as it was.
abbrev pub ListsIds : Noted → ℤ → (old new : List ℕ) → Type 0
ListsIds noted n old new = (n ≡ pos (length noted.ids)) × (new ≡ take (length old) noted.ids ++ drop (length noted.ids) old)

-- nothing is noted from here on, and the answer is 0
abbrev pub IsCleared : Noted → ℤ → Noted → Type 0
IsCleared old n new = (n ≡ pos 0) × (new ≡ nothing_noted old.blind)

-- An address that isn't NULL stands in the first place, where there is one, and the other places are as they were.
abbrev pub IsPlaced : (old new : List Ptr) → Type 0
IsPlaced [] new = new ≡ []
IsPlaced (_ ∷ rest) new = (at : Ptr) × IsSomewhere at × (new ≡ at ∷ rest)
