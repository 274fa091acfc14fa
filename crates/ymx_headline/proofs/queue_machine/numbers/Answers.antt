-- Of a step by what it does, of a run by induction.
use Rattle.ymx_headline.proofs.machine.order.Orders.{order-run, order-step, next-free}
use Rattle.ymx_headline.proofs.machine.faces.RunFaces.{odd-even}
use Rattle.ymx_headline.proofs.queue_machine.numbers.Goals as goal

pub returns : goal.returns
returns c = record {
  in_order = λ wa fa wb fb steps answers m p q run. order-run wa fa wb fb steps answers m (odd-even fa fb p q) run;
  kept = order-step;
  next_is_unused = next-free;
}
