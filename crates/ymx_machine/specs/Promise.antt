-- The promise: what the callers of a stream see of it, over a whole run (this project's own).
use Rattle.std.specs.Prelude.{ℕ, ◌≡◌, List, [], ◌∷◌, ◌++◌, take, Bool, true, false, ◌&&◌, ◌||◌, ◌==◌, if◌then◌else◌}
use Rattle.ymx_machine.specs.declared.types.Side.{Side}
use Rattle.ymx_machine.specs.declared.types.Side.TheVariants.{A, B}
use Rattle.ymx_machine.specs.declared.types.Step.{Step}
use Rattle.ymx_machine.specs.declared.types.Step.TheVariants as step
use Rattle.ymx_machine.specs.declared.types.Answer.{Answer}
use Rattle.ymx_machine.specs.declared.types.Answer.TheVariants as answer
use Rattle.ymx_machine.specs.declared.types.Call.TheVariants as call
use Rattle.ymx_machine.specs.declared.types.Wrote.TheVariants.{Took}

abbrev pub is_same_side : Side → Side → Bool
is_same_side A A = true
is_same_side A B = false
is_same_side B A = false
is_same_side B B = true

-- the bytes that a step wrote to a stream at a side
abbrev pub written_by : Side → ℕ → Step → Answer → List ℕ
written_by side id (step.At at (call.Write to bytes)) (answer.Wrote (Took n)) =
    if is_same_side side at && to == id then take n bytes else []
written_by side id (step.At at (call.OpenWith bytes)) (answer.OpenedWith to n) =
    if is_same_side side at && to == id then take n bytes else []
written_by side id _ _ = []

-- the bytes that a step read from a stream at a side
abbrev pub got_by : Side → ℕ → Step → Answer → List ℕ
got_by side id (step.At at (call.Read from max)) (answer.Read bytes) = if is_same_side side at && from == id then bytes else []
got_by side id _ _ = []

-- joined, over a run
abbrev pub written : Side → ℕ → List Step → List Answer → List ℕ
written side id [] given = []
written side id (st ∷ sts) [] = []
written side id (st ∷ sts) (given ∷ more) = written_by side id st given ++ written side id sts more

abbrev pub got : Side → ℕ → List Step → List Answer → List ℕ
got side id [] given = []
got side id (st ∷ sts) [] = []
got side id (st ∷ sts) (given ∷ more) = got_by side id st given ++ got side id sts more

-- whether a step was a Finish of a stream at a side, and was done
abbrev pub finished_by : Side → ℕ → Step → Answer → Bool
finished_by side id (step.At at (call.Finish to)) answer.Done = is_same_side side at && to == id
finished_by side id _ _ = false

-- whether a step was a Read of a stream at a side, and was answered with the end
abbrev pub ended_by : Side → ℕ → Step → Answer → Bool
ended_by side id (step.At at (call.Read from max)) answer.ReadEnd = is_same_side side at && from == id
ended_by side id _ _ = false

-- whether any step of a run was
abbrev pub finished : Side → ℕ → List Step → List Answer → Bool
finished side id [] given = false
finished side id (st ∷ sts) [] = false
finished side id (st ∷ sts) (given ∷ more) = finished_by side id st given || finished side id sts more

abbrev pub ended : Side → ℕ → List Step → List Answer → Bool
ended side id [] given = false
ended side id (st ∷ sts) [] = false
ended side id (st ∷ sts) (given ∷ more) = ended_by side id st given || ended side id sts more

-- What the reader got is a beginning of what the writer wrote. Once a read was answered with the end,
-- it is all of it, and a finish was done before.
pub record DeliversInOrder (writer reader : Side) (id : ℕ) (steps : List Step) (answers : List Answer) : Type 0 where
  pub begins : (rest : List ℕ) × (written writer id steps answers ≡ got reader id steps answers ++ rest)
  pub whole : ended reader id steps answers ≡ true → written writer id steps answers ≡ got reader id steps answers
  pub finish : ended reader id steps answers ≡ true → finished writer id steps answers ≡ true

-- so it is at every moment of the run, for every stream, in both directions
abbrev pub AllDeliverInOrder : List Step → List Answer → Type 0
AllDeliverInOrder steps answers = (made id : ℕ) →
    DeliversInOrder A B id (take made steps) (take made answers) × DeliversInOrder B A id (take made steps) (take made answers)
