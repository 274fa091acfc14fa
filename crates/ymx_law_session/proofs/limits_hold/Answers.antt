use Rattle.ymx_law_session.proofs.limits.HistoriesKeep.{new-keeps, gives-keep, replays-keep}
use Rattle.ymx_law_session.proofs.limits_hold.Goals as goal

pub returns : goal.returns
returns c = record {
  at_first = new-keeps;
  kept = gives-keep;
  always = replays-keep;
}
