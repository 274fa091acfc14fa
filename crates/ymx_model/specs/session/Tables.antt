-- The records of a session by stream id, in an order (this project's own).
use Rattle.std.specs.Prelude.{ℕ, ◌+◌, ◌∷◌, ◌++◌, ◌-◌, if◌then◌else◌, ◌||◌, List, [], nat_lt, Bool, false, count_by, drop, take}
use Rattle.ymx_model.specs.session.Records.{End}
use Rattle.ymx_machine.specs.shared.Lists.{change, place, without}
use Rattle.ymx_model.specs.session.FramesDue.{is_due}

-- The window of the session, the records with their ids in order, and the place in that order from
-- which the next turn starts: just after the stream served last.
pub record Table : Type 0 where
  pub window : ℕ
  pub entries : List (ℕ × End)
  pub turn : ℕ

abbrev pub new_table : ℕ → Table
new_table window = record { window = window; entries = []; turn = 0 }

-- a record is added at the end
abbrev pub insert_record : ℕ → End → Table → Table
insert_record id e t = record t { entries = t.entries ++ (id, e) ∷ [] }

-- one record changes
abbrev pub with_record : ℕ → (End → End) → Table → Table
with_record id f t = record t { entries = change id f t.entries }

-- one record goes, and the place of the next turn moves with those after it
abbrev pub remove_record : ℕ → Table → Table
remove_record id t = record t {
  entries = without id t.entries;
  turn = if nat_lt (place id t.entries) t.turn then t.turn - 1 else t.turn;
}

-- the stream was served: the next turn starts after it
abbrev pub pass_turn : ℕ → Table → Table
pass_turn id t = record t { turn = place id t.entries + 1 }

-- whether any stream has a frame due
abbrev pub any_due : ℕ → List (ℕ × End) → Bool
any_due window [] = false
any_due window (p ∷ ps) = is_due window p.1 || any_due window ps

-- how many streams have a frame due
abbrev pub due_count : Table → ℕ
due_count t = count_by (λ p. is_due t.window p.1) t.entries

-- the ids of the streams with a frame due, in order
abbrev pub due_ids : ℕ → List (ℕ × End) → List ℕ
due_ids window [] = []
due_ids window (p ∷ ps) = if is_due window p.1 then p.0 ∷ due_ids window ps else due_ids window ps

-- the same, going round from the place of the next turn
abbrev pub round : Table → List ℕ
round t = due_ids t.window (drop t.turn t.entries) ++ due_ids t.window (take t.turn t.entries)
