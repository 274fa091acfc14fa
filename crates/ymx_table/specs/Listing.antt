-- Which streams their caller has (this project's own).
use Rattle.std.specs.Prelude.{ℕ, ◌∷◌, ◌&&◌, ◌||◌, nat_eq, not, if◌then◌else◌, List, [], Bool}
use Rattle.std.specs.List.{list_any}
use Rattle.ymx_machine.specs.shared.Phases.{is_live, is_reset}
use Rattle.ymx_model.specs.session.Records.{End}

-- the caller has the stream: it was opened or accepted, and not forgotten
abbrev pub is_held : End → Bool
is_held e = is_live e.phase || is_reset e.phase

-- the ids of such streams, in order, without those of a list
abbrev pub held_ids : (but : List ℕ) → List (ℕ × End) → List ℕ
held_ids but [] = []
held_ids but (p ∷ ps) = if is_held p.1 && not (list_any (nat_eq p.0) but) then p.0 ∷ held_ids but ps else held_ids but ps
