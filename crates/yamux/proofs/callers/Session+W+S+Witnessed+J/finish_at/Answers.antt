-- Nobody else has called the writing half.
use Rattle.std.proofs.Common.{◌≡◌, Result, Some, Ok, false, true, refl, subst, rules}
use Rattle.ymx_seats.specs.Views.{IsWitnessed}
use Rattle.ymx_hub.specs.declared.faults.HubFault.{HubFault}
use Rattle.ymx_hub.specs.Books.{Books, Spends, to_finish}
use Rattle.ymx_connect.proofs.Told.{stands_itself}
use Rattle.yamux.proofs.Calls.{finishes_at, shown_grows}
use Rattle.yamux.proofs.callers.Session+W+S+Witnessed+J.finish_at.Goals as goal

pub returns-in_default-clause-grows : goal.returns-in_default-clause-grows
returns-in_default-clause-grows g c = stands_itself c.args.caller.now.seen

pub returns-in-Ok-clause-grows : goal.returns-in-Ok-clause-grows
returns-in-Ok-clause-grows g c = shown_grows c.args.caller.now c.meet.new.one c.meet.ensures.one

pub returns-in-Err-clause-grows : goal.returns-in-Err-clause-grows
returns-in-Err-clause-grows g c = shown_grows c.args.caller.now c.meet.new.one c.meet.ensures.one

pub returns-in-Ok-clause-finished : goal.returns-in-Ok-clause-finished
returns-in-Ok-clause-finished g c =
    let is : c.args.writer ≡ Some c.in-Some.half = search rules in
    let booked : Books false c.in-Some.half.seat c.finish-last.result.0 (Spends (to_finish c.in-Some.half.id) c.in-Some.half.id c.in-Some.half.seat.number (Ok tt)) =
    subst (λ (a : Result (Unit {0}) HubFault). Books false c.in-Some.half.seat c.finish-last.result.0 (Spends (to_finish c.in-Some.half.id) c.in-Some.half.id c.in-Some.half.seat.number a)) c.in-Ok.is c.finish-last.ensures.booked in
    let history : IsWitnessed true g.J.Naming.role g.J.Naming.config c.meet.new.one.seen = search rules in
    finishes_at g.J.Naming.role g.J.Naming.config c.args.caller.now c.meet.new.one c.finish-last.result.0 c.meet.new.other c.args.writer c.in-Some.half is booked
    (c.finish-last.ensures.may refl) c.finish-last.ensures.right c.meet.ensures.one c.meet.ensures.other c.meet.ensures.sole_other c.meet.ensures.same history
