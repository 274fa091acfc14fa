use Rattle.std.proofs.Common.{ℕ, Option, None, Ok, subst}
use Rattle.ymx_seats.specs.Views.{SeatView}
use Rattle.ymx_hub.specs.Books.{Books}
use Rattle.ymx_hub.specs.Halves.{AcceptsHalves}
use Rattle.ymx_hub.specs.Turns.{AcceptsInTurns}
use Rattle.ymx_hub.proofs.Books.{books_weaker}
use Rattle.ymx_hub.proofs.acceptor.accept_at_seat.Goals as goal

pub returns-in-Ok-None-clause-booked : goal.returns-in-Ok-None-clause-booked
returns-in-Ok-None-clause-booked g c =
    books_weaker g.R.Recorder.KEEPS _ _ (AcceptsInTurns c.args.seat.now.number (Ok None)) (AcceptsHalves c.args.seat.now.number (Ok None)) (λ es a. a)
    (subst (λ (o : Option (ℕ × SeatView × SeatView)). Books g.R.Recorder.KEEPS c.args.seat.now c.accept.new.seat (AcceptsInTurns c.args.seat.now.number (Ok o))) c.in-Ok-None.field-0-is c.in-Ok-None.ensures.booked)
