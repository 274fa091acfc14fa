use Rattle.ymx_hub.proofs.Books.{books_weaker}
use Rattle.std.proofs.Common.{subst}
use Rattle.ymx_hub.specs.Books.{IsGiven, to_open}
use Rattle.ymx_hub.proofs.booked.Booked.open.Goals as goal

pub returns-in-Ok-Some-clause-booked : goal.returns-in-Ok-Some-clause-booked
returns-in-Ok-Some-clause-booked g c = books_weaker g.R.Recorder.KEEPS c.args.seat.now c.give.new.seat _ _ (λ es x. subst (λ told. IsGiven to_open told c.args.seat.now.number c.in-Ok-Some.first c.in-Ok-Some.second es) x.1 x.2) (rw c.in-Ok-Some.field-0-is at c.in-Ok-Some.ensures.booked)
