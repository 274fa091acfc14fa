-- The caller accepted the stream.
use Rattle.std.proofs.Common.{◌≡◌, Option, Some, Ok, false, rules, subst, sym, ap}
use Rattle.ymx_hub.specs.Books.{Books}
use Rattle.ymx_hub.specs.Halves.{HalfView, AcceptsHalves}
use Rattle.ymx_connect.proofs.Told.{extends_stands}
use Rattle.yamux.specs.Api.{StreamView}
use Rattle.yamux.proofs.callers.Session+W+S+Witnessed+J.accept_at.Goals as goal

pub returns-in-Ok-Some-clause-grows : goal.returns-in-Ok-Some-clause-grows
returns-in-Ok-Some-clause-grows g c = extends_stands _ _ _ _ c.accept_at_seat.ensures.booked.extends

pub returns-in-Ok-None-clause-grows : goal.returns-in-Ok-None-clause-grows
returns-in-Ok-None-clause-grows g c = extends_stands _ _ _ _ c.accept_at_seat.ensures.booked.extends

pub returns-in-Err-clause-grows : goal.returns-in-Err-clause-grows
returns-in-Err-clause-grows g c = extends_stands _ _ _ _ c.accept_at_seat.ensures.booked.extends

pub returns-in-Ok-Some-clause-accepted : goal.returns-in-Ok-Some-clause-accepted
returns-in-Ok-Some-clause-accepted g c =
    let some : c.in-Ok-Some.field-0 ≡ Some c.in-Ok-Some.halves = search rules in
    let booked : Books false c.args.caller.now c.accept_at_seat.new.seat (AcceptsHalves c.args.caller.now.number (Ok (Some c.in-Ok-Some.halves))) = subst (λ (offer : Option (HalfView × HalfView)). Books false c.args.caller.now c.accept_at_seat.new.seat (AcceptsHalves c.args.caller.now.number (Ok offer))) some c.in-Ok-Some.ensures.booked in (
      c.in-Ok-Some.halves.0,
      search rules,
      subst (λ (half : HalfView). Books false c.args.caller.now c.accept_at_seat.new.seat (AcceptsHalves c.args.caller.now.number (Ok (Some (c.in-Ok-Some.halves.0, half))))) (sym (ap (λ (v : StreamView). v.reader.half) c.new.ensures)) booked,
    )
