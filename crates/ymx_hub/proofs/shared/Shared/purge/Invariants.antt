use Rattle.std.proofs.Common.{◌≡◌, ◌≤◌, ◌-◌, length}
use Rattle.ymx_hub.specs.Books.{Books}
use Rattle.ymx_hub.specs.Releasing.{PurgesAmong, LeavesSome, WaitFrom}
use Rattle.ymx_hub.proofs.shared.Shared.purge.Given as goal

abbrev pub invariant-loop-done : goal.invariant-loop-done
invariant-loop-done g l = record {
  purges : Books g.R.Recorder.KEEPS l.initial.seat l.seat (PurgesAmong l.initial.self.booked.released l.initial.seat.number);
  left : LeavesSome l.initial.self.booked.released l.self.booked.released l.initial.self.booked l.self.booked;
  within : l.count - l.done ≤ length l.self.booked.released;
  waits : WaitFrom l.self.booked.session l.self.booked.released (l.count - l.done);
  rest : l.self ≡ record l.initial.self { booked = l.self.booked };
}
