use Rattle.ymx_session.proofs.Waits.{turn-few}
use Rattle.ymx_session.proofs.TurnLaws.{nearer, own-next, moves-near, past}
use Rattle.ymx_session.proofs.law.turns_are_bounded.Goals as goal

pub returns : goal.returns
returns c = record {
  nearer = λ id x s t w h i n b. (nearer id x s t w.table.distinct h i n b).less;
  still_due = λ id x s t w h i n b. (nearer id x s t w.table.distinct h i n b).due;
  moved = λ id n s w h. (moves-near id n s w.table.distinct h).same;
  due_behind = λ id n s w h. (moves-near id n s w.table.distinct h).due;
  own_next = λ id x s t w h. own-next id x s t w.table.distinct h;
  few = turn-few;
  among = past;
}
