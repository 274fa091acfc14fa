-- What is true of every table (this project's own).
use Rattle.std.specs.Prelude.{ℕ, ◌≡◌, ◌<◌, ◌≤◌, ◌^◌, Bool, List, length, map, All}
use Rattle.std.specs.Map.{keys_of}
use Rattle.ymx_machine.specs.shared.Limits.{first_credit, most_records, widest_window}
use Rattle.ymx_model.specs.session.FramesDue.{is_due}
use Rattle.ymx_model.specs.session.Tables.{Table}
use Rattle.ymx_table.specs.Unsent.{unsent_counts, IsTotal}

-- for each record, in order, whether its stream has a frame due
abbrev pub due_flags : Table → List Bool
due_flags t = map (λ p. is_due t.window p.1) t.entries

-- The window is one that a session may have; `due` says which streams have a frame due; `unsent` is how many
-- bytes of all streams are unsent; the records are few enough; the next turn starts at one of them, or just
-- after the last; and each stream id is one of the protocol (32 bits).
pub record IsKept (t : Table) (due : List Bool) (unsent : ℕ) : Type 0 where
  pub narrowest : first_credit ≤ t.window
  pub widest : t.window ≤ widest_window
  pub flagged : due ≡ due_flags t
  pub counted : IsTotal (unsent_counts t) unsent
  pub few : length t.entries ≤ most_records
  pub turn_within : t.turn ≤ length t.entries
  pub ids_fit : All (λ id. id < 2 ^ 32) (keys_of t.entries)
