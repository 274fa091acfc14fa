use Rattle.ymx_hub.proofs.Books.{books_weaker}
use Rattle.std.proofs.Common.{length}
use Rattle.ymx_hub.proofs.Given.{read_some}
use Rattle.ymx_hub.proofs.booked.Booked.read.Goals as goal

pub returns-in-Ok-Read-clause-booked : goal.returns-in-Ok-Read-clause-booked
returns-in-Ok-Read-clause-booked g c = books_weaker g.R.Recorder.KEEPS c.args.seat.now c.ask.new.seat _ _ (λ es x. x) (rw c.in-Ok-Read.field-0-is at c.in-Ok-Read.ensures.booked)

pub returns-in-Ok-ReadEnd-clause-booked : goal.returns-in-Ok-ReadEnd-clause-booked
returns-in-Ok-ReadEnd-clause-booked g c = books_weaker g.R.Recorder.KEEPS c.args.seat.now c.ask.new.seat _ _ (λ es x. x) (rw c.in-Ok-ReadEnd.field-0-is at c.in-Ok-ReadEnd.ensures.booked)

pub returns-in-Ok-ReadWait-clause-booked : goal.returns-in-Ok-ReadWait-clause-booked
returns-in-Ok-ReadWait-clause-booked g c = books_weaker g.R.Recorder.KEEPS c.args.seat.now c.ask.new.seat _ _ (λ es x. x) (rw c.in-Ok-ReadWait.field-0-is at c.in-Ok-ReadWait.ensures.booked)

pub returns-in-Err-clause-booked : goal.returns-in-Err-clause-booked
returns-in-Err-clause-booked g c = books_weaker g.R.Recorder.KEEPS c.args.seat.now c.ask.new.seat _ _ (λ es x. x) c.in-Err.ensures.booked

pub returns-in-Ok-Read-clause-some : goal.returns-in-Ok-Read-clause-some
returns-in-Ok-Read-clause-some g c = λ room. read_some c.args.id (length c.args.buffer.now) c.in-Ok-Read.count c.ask.new.buffer c.args.self.now.session c.ask.new.self.session (rw c.in-Ok-Read.field-0-is at c.in-Ok-Read.ensures.steps).gives room
