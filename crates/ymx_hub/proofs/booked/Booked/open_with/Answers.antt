use Rattle.ymx_hub.proofs.Books.{books_weaker}
use Rattle.std.proofs.Common.{subst}
use Rattle.ymx_hub.specs.Books.{IsGiven, to_open_with}
use Rattle.ymx_hub.proofs.booked.Booked.open_with.Goals as goal

pub returns-in-Ok-Some-clause-booked : goal.returns-in-Ok-Some-clause-booked
returns-in-Ok-Some-clause-booked g c = books_weaker g.R.Recorder.KEEPS c.args.seat.now c.give.new.seat _ _ (λ es x. subst (λ told. IsGiven (to_open_with c.args.bytes.now) told c.args.seat.now.number c.in-Ok-Some.given.2 c.in-Ok-Some.given.3 es) x.1 x.2) (rw (c.in-Ok-Some.field-0-is, c.new.ensures) at c.in-Ok-Some.ensures.booked)

pub returns-in-Err-clause-booked : goal.returns-in-Err-clause-booked
returns-in-Err-clause-booked g c = books_weaker g.R.Recorder.KEEPS c.args.seat.now c.give.new.seat _ _ (λ es x. x) (rw c.new.ensures at c.in-Err.ensures.booked)
