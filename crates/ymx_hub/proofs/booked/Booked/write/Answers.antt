use Rattle.ymx_hub.proofs.Books.{books_weaker}
use Rattle.ymx_hub.proofs.booked.Booked.write.Goals as goal

pub returns-in-Ok-Wrote-clause-booked : goal.returns-in-Ok-Wrote-clause-booked
returns-in-Ok-Wrote-clause-booked g c = books_weaker g.R.Recorder.KEEPS c.args.seat.now c.ask.new.seat _ _ (λ es x. x) (rw (c.in-Ok-Wrote.field-0-is, c.new.ensures) at c.in-Ok-Wrote.ensures.booked)

pub returns-in-Err-clause-booked : goal.returns-in-Err-clause-booked
returns-in-Err-clause-booked g c = books_weaker g.R.Recorder.KEEPS c.args.seat.now c.ask.new.seat _ _ (λ es x. x) (rw c.new.ensures at c.in-Err.ensures.booked)
