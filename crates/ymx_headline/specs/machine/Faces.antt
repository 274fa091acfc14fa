-- What callers see of a stream, and what fits the window meanwhile (this project's own).
use Rattle.std.specs.Prelude.{ℕ, ◌+◌, ◌≤◌, List, length, take}
use Rattle.ymx_machine.specs.declared.types.Side.{Side}
use Rattle.ymx_machine.specs.declared.types.Side.TheVariants.{A, B}
use Rattle.ymx_machine.specs.declared.types.Step.{Step}
use Rattle.ymx_machine.specs.declared.types.Answer.{Answer}
use Rattle.ymx_machine.specs.Promise.{written, got, DeliversInOrder}

-- What the writer wrote and the reader did not get fits the reader's window.
abbrev pub FitsWindow : (window : ℕ) (writer reader : Side) (id : ℕ) → List Step → List Answer → Type 0
FitsWindow window writer reader id steps answers = length (written writer id steps answers) ≤ length (got reader id steps answers) + window

-- so it is at every moment of the run, for every stream, in both directions: the windows of A and B
abbrev pub FitWindows : (window_a window_b : ℕ) → List Step → List Answer → Type 0
FitWindows window_a window_b steps answers = (made id : ℕ) →
    FitsWindow window_b A B id (take made steps) (take made answers) × FitsWindow window_a B A id (take made steps) (take made answers)

-- delivered in order, and within the window
pub record DeliversWithin (window : ℕ) (writer reader : Side) (id : ℕ) (steps : List Step) (answers : List Answer) : Type 0 where
  pub face : DeliversInOrder writer reader id steps answers
  pub within_window : FitsWindow window writer reader id steps answers
