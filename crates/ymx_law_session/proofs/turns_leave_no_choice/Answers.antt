use Rattle.ymx_law_session.proofs.due.Turns.{one-emission, frame-length, turn-limit}
use Rattle.ymx_law_session.proofs.turns_leave_no_choice.Goals as goal

pub returns : goal.returns
returns c = record {
  unique = one-emission;
  frame_limit = frame-length;
  data_limit = turn-limit;
}
