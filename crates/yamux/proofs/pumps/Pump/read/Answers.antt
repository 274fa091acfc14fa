-- The pump has ended, and its seat is let go.
use Rattle.std.proofs.Common.{sym, subst}
use Rattle.ymx_seats.specs.Views.{SeatView, IsNewcomer}
use Rattle.yamux.proofs.PumpEnds.{has_read}
use Rattle.yamux.proofs.pumps.Pump.read.Goals as goal

pub returns : goal.returns
returns g c = λ off.
    has_read g.R.Recorder.KEEPS _ _ _ _ c.into_seat-seat.result c.read_pump-ended.result.0.seat _ _ _ off
    (subst (λ (v : SeatView). IsNewcomer v.number v.seen) (sym c.into_seat-seat.ensures) c.requires) c.read_pump-ended.ensures.gave c.read_pump-ended.ensures.ended c.into_parked.ensures
