-- A caller that had made no call accepted the stream.
use Rattle.std.proofs.Common.{◌≡◌, rules, Option, Ok, Some, subst, sym, ap}
use Rattle.ymx_hub.specs.Books.{Books}
use Rattle.ymx_hub.specs.Halves.{HalfView, AcceptsHalves}
use Rattle.yamux.specs.Api.{StreamView}
use Rattle.yamux.proofs.session.Session.accept.Goals as goal

pub returns-in-Ok-Some : goal.returns-in-Ok-Some
returns-in-Ok-Some g c =
    let some : c.in-Ok-Some.field-0 ≡ Some c.in-Ok-Some.halves = search rules in
    let booked : Books g.R.Recorder.KEEPS c.in_ok-seat.seat c.accept_at_seat-offer.new.seat (AcceptsHalves c.in_ok-seat.seat.number (Ok (Some c.in-Ok-Some.halves))) = subst (λ (offer : Option (HalfView × HalfView)). Books g.R.Recorder.KEEPS c.in_ok-seat.seat c.accept_at_seat-offer.new.seat (AcceptsHalves c.in_ok-seat.seat.number (Ok offer))) some c.in-Ok-Some.ensures.booked in
    record {
      accepted = record {
        before = c.in_ok-seat.seat;
        after = c.accept_at_seat-offer.new.seat;
        writer = c.in-Ok-Some.halves.0;
        fresh = c.in_ok-seat.ensures.newcomer;
        unfinished = search rules;
        caller = search rules;
        booked = subst (λ (half : HalfView). Books g.R.Recorder.KEEPS c.in_ok-seat.seat c.accept_at_seat-offer.new.seat (AcceptsHalves c.in_ok-seat.seat.number (Ok (Some (c.in-Ok-Some.halves.0, half))))) (sym (ap (λ (v : StreamView). v.reader.half) c.new.ensures)) booked;
      };
    }
