use Rattle.ymx_hub.proofs.Books.{books_weaker}
use Rattle.ymx_hub.proofs.booked.Booked.ping.Goals as goal

pub returns-in-Ok-Pinged-clause-booked : goal.returns-in-Ok-Pinged-clause-booked
returns-in-Ok-Pinged-clause-booked g c = books_weaker g.R.Recorder.KEEPS c.args.seat.now c.ask.new.seat _ _ (λ es x. x) (rw c.in-Ok-Pinged.field-0-is at c.in-Ok-Pinged.ensures.booked)

pub returns-in-Err-clause-booked : goal.returns-in-Err-clause-booked
returns-in-Err-clause-booked g c = books_weaker g.R.Recorder.KEEPS c.args.seat.now c.ask.new.seat _ _ (λ es x. x) c.in-Err.ensures.booked
