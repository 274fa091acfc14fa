use Rattle.std.proofs.Common.{Bool, false, Ok, subst, rules}
use Rattle.ymx_machine.specs.declared.types.Reply.TheVariants.{Ponged}
use Rattle.ymx_session.specs.Replies.{ponged_or}
use Rattle.ymx_hub.specs.Books.{Books, Asks, to_collect}
use Rattle.ymx_hub.proofs.Waits.{waits_on, pong_back, pong_refused, ping_refused}
use Rattle.ymx_hub.proofs.hub.Hub.ping.Goals as goal

pub loop-preserved : goal.loop-preserved
loop-preserved g c = record {
  next = (tt, tt);
  waits = waits_on g.R.Recorder.KEEPS _ _ _ (to_collect c.in-Ok.number) (Ponged false) c.loop.invariant.waits (subst (λ (back : Bool). Books g.R.Recorder.KEEPS c.loop.seat c.ponged.new.seat (Asks (to_collect c.in-Ok.number) ponged_or c.loop.seat.number (Ok back))) (search rules) c.in-Ok-false.ensures.booked);
}

pub returns-in-Ok-true-clause-booked : goal.returns-in-Ok-true-clause-booked
returns-in-Ok-true-clause-booked g c =
    pong_back g.R.Recorder.KEEPS _ _ _ _ c.in-Ok.number c.in-Ok.ensures.booked c.loop.invariant.waits (subst (λ (back : Bool). Books g.R.Recorder.KEEPS c.loop.seat c.ponged.new.seat (Asks (to_collect c.in-Ok.number) ponged_or c.loop.seat.number (Ok back))) (search rules) c.in-Ok-true.ensures.booked)

pub returns-in-Err-ponged-clause-booked : goal.returns-in-Err-ponged-clause-booked
returns-in-Err-ponged-clause-booked g c = pong_refused g.R.Recorder.KEEPS _ _ _ _ c.in-Ok.number c.in-Err-ponged.fault c.in-Ok.ensures.booked c.loop.invariant.waits c.in-Err-ponged.ensures.booked

pub returns-in-Err-clause-booked : goal.returns-in-Err-clause-booked
returns-in-Err-clause-booked g c = ping_refused g.R.Recorder.KEEPS _ _ c.in-Err.fault c.in-Err.ensures.booked
