use Rattle.std.proofs.Common.{rules}
use Rattle.std.proofs.lemmas.List.Sorted.{IsNonDecreasingBy-from_sort, answers_always}
use Rattle.ymx_seats.specs.Views.{SeatView}
use Rattle.ymx_seats.proofs.compare.arrange.Goals as goal

pub returns-clause-sorted : goal.returns-clause-sorted
returns-clause-sorted g c = let k = λ (s : SeatView). s.number in IsNonDecreasingBy-from_sort k _ (c.sort_unstable_by_key.ensures.sorted k (answers_always _ _ _ (λ f a r g h. search rules)))
