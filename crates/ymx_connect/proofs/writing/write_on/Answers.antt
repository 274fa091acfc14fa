use Rattle.std.proofs.Common.{length, rules, refl}
use Rattle.ymx_connect.proofs.Emits.{written_none, written_more, written_last}
use Rattle.ymx_connect.proofs.writing.write_on.Goals as goal

pub loop-init : goal.loop-init
loop-init g c = record { next = (tt, tt); room = refl; written = written_none g.R.Recorder.KEEPS _ _ _ _ }

pub loop-preserved : goal.loop-preserved
loop-preserved g c = record {
  next = (tt, tt);
  room = search rules;
  written = written_more g.R.Recorder.KEEPS (length c.args.lent.2.now) (length c.loop.buffer) (g.O.Outlet.failures c.args.lent.0.now) (g.O.Outlet.failures c.loop.device) (g.O.Outlet.failures c.write_turn.new.lent.0) (g.O.Outlet.contents c.args.lent.0.now) (g.O.Outlet.contents c.loop.device) (g.O.Outlet.contents c.write_turn.new.lent.0) c.args.seat.now c.loop.seat c.write_turn.new.seat c.loop.count c.in-Ok.written c.saturating_add-count.result c.loop.invariant.written c.loop.invariant.room c.in-Ok.ensures.turned c.saturating_add-count.ensures;
}

pub returns-in-Err-clause-wrote : goal.returns-in-Err-clause-wrote
returns-in-Err-clause-wrote g c =
    rw c.behind.ensures (written_last g.R.Recorder.KEEPS (length c.args.lent.2.now) (length c.loop.buffer) (g.O.Outlet.failures c.args.lent.0.now) (g.O.Outlet.failures c.loop.device) (g.O.Outlet.failures c.write_turn.new.lent.0) (g.O.Outlet.contents c.args.lent.0.now) (g.O.Outlet.contents c.loop.device) (g.O.Outlet.contents c.write_turn.new.lent.0) c.args.seat.now c.loop.seat c.write_turn.new.seat c.loop.count _ c.in-Err.stop c.loop.invariant.written c.loop.invariant.room c.in-Err.ensures.turned refl)
