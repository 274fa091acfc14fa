use Rattle.ymx_hub.proofs.Books.{books_weaker}
use Rattle.std.proofs.Common.{inr}
use Rattle.ymx_hub.proofs.booked.Booked.close_half.Goals as goal

pub returns-in-Ok-Done-clause-booked : goal.returns-in-Ok-Done-clause-booked
returns-in-Ok-Done-clause-booked g c = books_weaker g.R.Recorder.KEEPS c.args.seat.now c.ask.new.seat _ _ (λ es x. inr x) (rw c.in-Ok-Done.field-0-is at c.in-Ok-Done.ensures.booked)

pub returns-in-Err-clause-booked : goal.returns-in-Err-clause-booked
returns-in-Err-clause-booked g c = books_weaker g.R.Recorder.KEEPS c.args.seat.now c.ask.new.seat _ _ (λ es x. x) c.in-Err.ensures.booked
