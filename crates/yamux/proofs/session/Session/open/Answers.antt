-- A caller that had made no call opened the stream.
use Rattle.std.proofs.Common.{rules}
use Rattle.yamux.proofs.session.Session.open.Goals as goal

pub returns-in-Ok : goal.returns-in-Ok
returns-in-Ok g c =
    record { opened = record { before = c.in_ok-seat.seat; after = c.open_at_seat-opened.new.seat; writer = c.in-Ok.halves.0; fresh = c.in_ok-seat.ensures.newcomer; unfinished = search rules; caller = search rules; booked = search rules } }
