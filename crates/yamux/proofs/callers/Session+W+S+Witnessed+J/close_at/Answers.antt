-- Nobody else has read the stream.
use Rattle.std.proofs.Common.{Result, Ok, false, true, refl, subst, rules}
use Rattle.ymx_seats.specs.Views.{IsWitnessed}
use Rattle.ymx_hub.specs.declared.faults.HubFault.{HubFault}
use Rattle.ymx_hub.specs.Books.{Books, Closes}
use Rattle.ymx_hub.specs.Halves.{HalfView}
use Rattle.ymx_connect.specs.Told.{ClosesHalf}
use Rattle.yamux.proofs.Calls.{closes_at, shown_grows}
use Rattle.yamux.proofs.callers.Session+W+S+Witnessed+J.close_at.Goals as goal

pub returns-in-Ok-clause-grows : goal.returns-in-Ok-clause-grows
returns-in-Ok-clause-grows g c = shown_grows c.args.caller.now c.meet.new.one c.meet.ensures.one

pub returns-in-Err-clause-grows : goal.returns-in-Err-clause-grows
returns-in-Err-clause-grows g c = shown_grows c.args.caller.now c.meet.new.one c.meet.ensures.one

pub returns-in-Ok-clause-closed : goal.returns-in-Ok-clause-closed
returns-in-Ok-clause-closed g c =
    let half : HalfView = c.into_half.result in
    let booked : Books false half.seat c.close-last.result.0 (Closes half.id half.seat.number (Ok tt)) =
    subst (λ (a : Result (Unit {0}) HubFault). Books false half.seat c.close-last.result.0 (Closes half.id half.seat.number a)) c.in-Ok.is c.close-last.ensures.booked in
    let history : IsWitnessed true g.J.Naming.role g.J.Naming.config c.meet.new.one.seen = search rules in
    subst (λ (v : HalfView). ClosesHalf c.args.caller.now c.meet.new.one v) c.into_half.ensures
    (closes_at g.J.Naming.role g.J.Naming.config c.args.caller.now c.meet.new.one c.close-last.result.0 c.meet.new.other half booked
    (c.close-last.ensures.may refl) c.close-last.ensures.right c.meet.ensures.one c.meet.ensures.other c.meet.ensures.sole_other c.meet.ensures.same history)
