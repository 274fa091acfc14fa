-- The flags are those of the words.
use Rattle.ymx_table.proofs.DueFlags.{first_view}
use Rattle.ymx_table.proofs.due_places.DuePlaces.first_from.Goals as goal

pub returns : goal.returns
returns c = first_view _ _ _ _ c.self.view_is c.self.invariant _ _ c.first_flag.ensures
