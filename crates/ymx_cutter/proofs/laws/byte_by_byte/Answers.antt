use Rattle.ymx_cutter.proofs.Fold.{seen_in-append, events_in-append, calls_do}
use Rattle.ymx_cutter.proofs.laws.byte_by_byte.Goals as goal

pub returns-clause-seen : goal.returns-clause-seen
returns-clause-seen c = seen_in-append

pub returns-clause-events : goal.returns-clause-events
returns-clause-events c = events_in-append

pub returns-clause-calls : goal.returns-clause-calls
returns-clause-calls c = λ limit seen end calls u are. let d = calls_do limit seen end calls u are in (d.ends, d.tells)
