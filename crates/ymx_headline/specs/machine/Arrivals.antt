-- What has come once all is at rest (this project's own).
use Rattle.std.specs.Prelude.{ℕ, ◌≡◌, ◌⊎◌, ◌<◌, ◌*◌, ◌+◌, ◌==◌, ◌&&◌, ◌||◌, if◌then◌else◌, not, List, [], ◌∷◌, length, take, drop, slice_get, nat_lt, nat_le, Bool, true, false, Some, None}
use Rattle.ymx_machine.specs.declared.types.Side.{Side}
use Rattle.ymx_machine.specs.declared.types.Side.TheVariants.{A}
use Rattle.ymx_machine.specs.declared.types.Step.{Step}
use Rattle.ymx_machine.specs.declared.types.Step.TheVariants as step
use Rattle.ymx_machine.specs.declared.types.Call.TheVariants as call
use Rattle.ymx_machine.specs.declared.types.CallFault.{CallFault}
use Rattle.ymx_machine.specs.declared.types.CallFault.TheVariants.{OutOfMemory}
use Rattle.ymx_machine.specs.declared.types.Wrote.TheVariants.{Took, Wait}
use Rattle.ymx_machine.specs.shared.Evidence.{evidence}
use Rattle.ymx_machine.specs.shared.Limits.{most_offered}
use Rattle.ymx_machine.specs.declared.types.Answer.{Answer}
use Rattle.ymx_machine.specs.declared.types.Answer.TheVariants as answer
use Rattle.ymx_machine.specs.Promise.{is_same_side, written, got, finished}

-- ---- reads

-- whether a step gave a side this stream: it opened it, or accepted it
abbrev pub began_by : Side → ℕ → Step → Answer → Bool
began_by side id (step.At at c) (answer.Opened to) = is_same_side side at && to == id
began_by side id (step.At at c) (answer.OpenedWith to n) = is_same_side side at && to == id
began_by side id (step.At at c) (answer.Accepted (Some to)) = is_same_side side at && to == id
began_by side id _ _ = false

-- whether in a step a side reset it, or gave it up
abbrev pub left_by : Side → ℕ → Step → Answer → Bool
left_by side id (step.At at (call.Reset to)) answer.Done = is_same_side side at && to == id
left_by side id (step.At at (call.Forget to)) answer.Done = is_same_side side at && to == id
left_by side id _ _ = false

-- whether some step of a run did
abbrev pub any_step : (Step → Answer → Bool) → List Step → List Answer → Bool
any_step did [] given = false
any_step did (st ∷ sts) [] = false
any_step did (st ∷ sts) (given ∷ more) = did st given || any_step did sts more

-- whether a side has the stream: it opened or accepted it, and neither reset it nor gave it up
abbrev pub has_stream : Side → ℕ → List Step → List Answer → Bool
has_stream side id steps answers = any_step (began_by side id) steps answers && not (any_step (left_by side id) steps answers)

-- a read or an accept takes what has come, and sends nothing on its way
abbrev pub only_takes : Step → Bool
only_takes (step.At side (call.Read id room)) = true
only_takes (step.At side call.Accept) = true
only_takes _ = false

-- Whether all is at rest after these steps: the world was quiet after one of them, and those after it were reads and
-- accepts. `now`: it was at rest before them.
abbrev pub is_at_rest : (now : Bool) → List Step → (quiet : List Bool) → Bool
is_at_rest now [] quiet = now
is_at_rest now (st ∷ sts) [] = now
is_at_rest now (st ∷ sts) (q ∷ more) = is_at_rest (q || (now && only_takes st)) sts more

-- what a read of so much room gives of the bytes that are left: the first of them; where there are none, the end if the
-- writer finished, and else that there is nothing yet
abbrev pub read_of : (room : ℕ) → (left : List ℕ) → (is_over : Bool) → Answer
read_of room left is_over =
    if room == 0 || not (length left == 0) then answer.Read (take room left) else if is_over then answer.ReadEnd else answer.ReadWait

-- what was written and not got
abbrev pub left_over : (writer reader : Side) → (id : ℕ) → List Step → List Answer → List ℕ
left_over writer reader id steps answers = drop (length (got reader id steps answers)) (written writer id steps answers)

-- A read gives all that is left. It is refused only where one of the sides hasn't the stream.
abbrev pub GivesAll : (writer reader : Side) → (id room : ℕ) → List Step → List Answer → Answer → Type 0
GivesAll writer reader id room steps answers given =
    (given ≡ read_of room (left_over writer reader id steps answers) (finished writer id steps answers))
    ⊎ ((fault : CallFault) × (given ≡ answer.Refused fault) × ((has_stream writer id steps answers && has_stream reader id steps answers) ≡ false))

-- so does each read that is made where all is at rest, of every stream, in both directions; a new world is at rest
abbrev pub AllArrive : List Step → List Answer → (quiet : List Bool) → Type 0
AllArrive steps answers quiet = (made id room : ℕ) (writer reader : Side) (given : Answer) →
    is_same_side writer reader ≡ false → is_at_rest true (take made steps) (take made quiet) ≡ true →
    slice_get steps made ≡ Some (step.At reader (call.Read id room)) → slice_get answers made ≡ Some given →
    GivesAll writer reader id room (take made steps) (take made answers) given

-- ---- accepts

-- whether in a step a side said that it takes no more streams
abbrev pub away_by : Side → Step → Answer → Bool
away_by side (step.At at call.GoAway) answer.Done = is_same_side side at
away_by side _ _ = false

-- whether a step was a delivery that refused a stream for lack of memory
abbrev pub lacked_by : Step → Answer → Bool
lacked_by st (answer.Fed fed) = nat_lt 0 fed.no_memory
lacked_by st _ = false

-- how many streams were opened, at both sides together
abbrev pub opened : List Answer → ℕ
opened [] = 0
opened (answer.Opened id ∷ more) = opened more + 1
opened (answer.OpenedWith id n ∷ more) = opened more + 1
opened (given ∷ more) = opened more

-- Whether a side had no cause to refuse a stream: it said no go away, no memory was wanting, and no more streams were opened
-- than may wait to be accepted.
abbrev pub takes_streams : Side → List Step → List Answer → Bool
takes_streams side steps answers =
    not (any_step (away_by side) steps answers) && not (any_step lacked_by steps answers) && nat_le (opened answers) most_offered

-- Where all is at rest, an accept of a side that had no cause to refuse a stream finds none that waits: then this side was
-- given each stream that the other side has.
abbrev pub AllAreGiven : List Step → List Answer → (quiet : List Bool) → Type 0
AllAreGiven steps answers quiet = (made id : ℕ) (side other : Side) →
    is_same_side side other ≡ false → is_at_rest true (take made steps) (take made quiet) ≡ true →
    slice_get steps made ≡ Some (step.At side call.Accept) → slice_get answers made ≡ Some (answer.Accepted None) →
    takes_streams side (take made steps) (take made answers) ≡ true → has_stream other id (take made steps) (take made answers) ≡ true →
    any_step (began_by side id) (take made steps) (take made answers) ≡ true

-- Where all is at rest, one side's read of a stream isn't refused, and the other side's accept right after it finds none
-- that waits: then the other side was given this one.
abbrev pub AllAreOffered : List Step → List Answer → (quiet : List Bool) → Type 0
AllAreOffered steps answers quiet = (made id room : ℕ) (reader other : Side) (given : Answer) →
    is_same_side other reader ≡ false → is_at_rest true (take made steps) (take made quiet) ≡ true →
    slice_get steps made ≡ Some (step.At reader (call.Read id room)) → slice_get answers made ≡ Some given →
    slice_get steps (made + 1) ≡ Some (step.At other call.Accept) → slice_get answers (made + 1) ≡ Some (answer.Accepted None) →
    ((fault : CallFault) × (given ≡ answer.Refused fault)) ⊎ (any_step (began_by other id) (take made steps) (take made answers) ≡ true)

-- ---- writes

-- A write takes all the bytes, or so many that more than half of the reader's window is unread then, or there is no
-- memory. `unread`: how many bytes were left before it.
abbrev pub TakesEnough : (window unread : ℕ) → (bytes : List ℕ) → Answer → Type 0
TakesEnough window unread bytes (answer.Wrote (Took n)) = (n ≡ length bytes) ⊎ (window < 2 * (unread + n))
TakesEnough window unread bytes (answer.Wrote Wait) = window < 2 * unread
TakesEnough window unread bytes given = given ≡ answer.Refused (OutOfMemory evidence)

-- so does each write, right after a step after which the world is quiet, to a stream that both sides have and that the
-- writer has not finished: the windows of A and B
abbrev pub AllTakeEnough : (window_a window_b : ℕ) → List Step → List Answer → (quiet : List Bool) → Type 0
AllTakeEnough window_a window_b steps answers quiet = (made id : ℕ) (bytes : List ℕ) (writer reader : Side) (given : Answer) →
    is_same_side writer reader ≡ false → slice_get quiet made ≡ Some true →
    slice_get steps (made + 1) ≡ Some (step.At writer (call.Write id bytes)) → slice_get answers (made + 1) ≡ Some given →
    (let so_far = take (made + 1) steps in let told = take (made + 1) answers in
    has_stream writer id so_far told ≡ true → has_stream reader id so_far told ≡ true → finished writer id so_far told ≡ false →
    TakesEnough (if is_same_side reader A then window_a else window_b) (length (left_over writer reader id so_far told)) bytes given)
