use Rattle.ymx_session.proofs.Opens.{none, none-with, some, some-with, less, less-with}
use Rattle.ymx_session.proofs.law.opens_count_down.Goals as goal

pub returns : goal.returns
returns c = record { none = none; some = some; less = less; none_with = none-with; some_with = some-with; less_with = less-with }
