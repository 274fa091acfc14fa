-- No flag is set.
use Rattle.std.proofs.Common.{refl}
use Rattle.ymx_table.specs.Flags.{flags_of}
use Rattle.ymx_table.proofs.DueFlags.{are-none}
use Rattle.ymx_table.proofs.due_places.DuePlaces.new.Goals as goal

pub invariant_of-result : goal.invariant_of-result
invariant_of-result c = are-none 16

pub returns : goal.returns
unfolding flags_of
returns c = refl
