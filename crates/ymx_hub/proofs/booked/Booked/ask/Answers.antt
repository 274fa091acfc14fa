use Rattle.std.proofs.Common.{inr}
use Rattle.ymx_hub.proofs.Books.{books_weaker}
use Rattle.ymx_hub.proofs.Spares.{call_spares, fault_spares}
use Rattle.ymx_hub.proofs.booked.Booked.ask.Goals as goal

pub returns-in-Refused-clause-booked : goal.returns-in-Refused-clause-booked
returns-in-Refused-clause-booked g c =
    books_weaker g.R.Recorder.KEEPS c.args.seat.now c.record_event.new.seat _ _ (λ es one. inr (c.in-Refused.fault, c.hub_fault.ensures, one)) (rw c.in-Refused.is at c.in_ok-told.ensures.booked)

pub returns-in-Refused-clause-off : goal.returns-in-Refused-clause-off
returns-in-Refused-clause-off g c = λ keeps none.
    fault_spares c.in-Refused.fault c.hub_fault.result c.hub_fault.ensures
    (call_spares c.args.call c.args.self.now.session c.record_event.new.self.session _ none (rw c.in-Refused.is at c.in_ok-told.ensures.steps).gives)
