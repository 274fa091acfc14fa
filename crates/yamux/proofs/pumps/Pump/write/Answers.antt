-- The pump has ended, and its seat is let go.
use Rattle.std.proofs.Common.{sym, subst}
use Rattle.ymx_seats.specs.Views.{SeatView, IsNewcomer}
use Rattle.yamux.proofs.PumpEnds.{has_written}
use Rattle.yamux.proofs.pumps.Pump.write.Goals as goal

pub returns : goal.returns
returns g c = λ off on.
    has_written g.R.Recorder.KEEPS g.R.Recorder.WITNESSED _ _ _ _ _ _ _ _ c.into_seat-seat.result c.write_pump-ended.result.seat _ _ _ off on
    (subst (λ (v : SeatView). IsNewcomer v.number v.seen) (sym c.into_seat-seat.ensures) c.requires) c.write_pump-ended.ensures.wrote c.write_pump-ended.ensures.ended c.write_pump-ended.ensures.out c.into_parked.ensures
