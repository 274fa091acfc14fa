use Rattle.ymx_headline.proofs.machine.order.Others.{others-call, others-move, you-call}
use Rattle.ymx_headline.proofs.queue_machine.others_keep.Goals as goal

pub returns : goal.returns
returns c = record {
  of_call = λ call m n r id h d. others-call call m r n id h d;
  of_move = λ v m id d. others-move v m id d;
  other_side = λ call m n r h. you-call call m r n h;
}
