use Rattle.std.proofs.Common.{◌≡◌, length}
use Rattle.ymx_connect.proofs.Emits.{Written}
use Rattle.ymx_connect.proofs.writing.write_on.Given as goal

abbrev pub invariant-loop : goal.invariant-loop
invariant-loop g l = record {
  next : (goal.iterator-loop g).can_next l.iterator' × (goal.iterator-loop g).is_finite l.iterator';
  room : length l.buffer ≡ length l.initial.buffer;
  written : Written g.R.Recorder.KEEPS (length l.initial.buffer) (g.O.Outlet.failures l.initial.device) (g.O.Outlet.failures l.device) (g.O.Outlet.contents l.initial.device) (g.O.Outlet.contents l.device) l.initial.seat l.seat l.count;
}
