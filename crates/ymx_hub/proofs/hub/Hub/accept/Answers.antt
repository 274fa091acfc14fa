use Rattle.std.proofs.Common.{ℕ, Option, None, Ok, subst, rules}
use Rattle.ymx_machine.specs.declared.types.Reply.TheVariants.{Accepted}
use Rattle.ymx_seats.specs.Views.{SeatView}
use Rattle.ymx_hub.specs.Books.{Books, AcceptsOnce, to_accept}
use Rattle.ymx_hub.proofs.Waits.{waits_on}
use Rattle.ymx_hub.proofs.Accepts.{accept_given, accept_refused}
use Rattle.ymx_hub.proofs.hub.Hub.accept.Goals as goal

pub loop-preserved : goal.loop-preserved
loop-preserved g c = record {
  next = (tt, tt);
  waits = waits_on g.R.Recorder.KEEPS _ _ _ to_accept (Accepted None) c.loop.invariant.waits (subst (λ (o : Option (ℕ × SeatView × SeatView)). Books g.R.Recorder.KEEPS c.loop.seat c.accept.new.seat (AcceptsOnce c.loop.seat.number (Ok o))) c.in-Ok-None.field-0-is c.in-Ok-None.ensures.booked);
}

pub returns-in-Err : goal.returns-in-Err
returns-in-Err g c = record { right = search rules; booked = accept_refused g.R.Recorder.KEEPS _ _ _ c.in-Err.fault c.none_or-refused.result c.none_or-refused.ensures c.loop.invariant.waits c.in-Err.ensures.booked }

pub returns-in-Ok-Some : goal.returns-in-Ok-Some
returns-in-Ok-Some g c = record {
  right = rw c.in-Ok-Some.field-0-is at c.in-Ok-Some.ensures.right;
  booked = accept_given g.R.Recorder.KEEPS _ _ _ c.in-Ok-Some.offer c.loop.invariant.waits (subst (λ (o : Option (ℕ × SeatView × SeatView)). Books g.R.Recorder.KEEPS c.loop.seat c.accept.new.seat (AcceptsOnce c.loop.seat.number (Ok o))) c.in-Ok-Some.field-0-is c.in-Ok-Some.ensures.booked);
}
