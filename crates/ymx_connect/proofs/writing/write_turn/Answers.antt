use Rattle.std.proofs.Common.{length, rules, refl, inl, inr}
use Rattle.ymx_hub.proofs.Shown.{shown_on}
use Rattle.ymx_connect.proofs.Emits.{turn_wrote, turn_failed, turn_idle, turn_gated, turn_lacked, turn_over}
use Rattle.ymx_connect.proofs.writing.write_turn.Goals as goal

pub returns-in-Err-push_all-clause-turned : goal.returns-in-Err-push_all-clause-turned
returns-in-Err-push_all-clause-turned g c =
    rw c.behind_bytes.ensures (turn_failed g.R.Recorder.KEEPS (length c.args.lent.2.now) c.in-Ok-Emitted.count c.in-Err-push_all.moved (g.O.Outlet.failures c.args.lent.0.now) (g.O.Outlet.failures c.push_all.new.outlet) c.lose_writer.result c.emit_turn.new.buffer (g.O.Outlet.contents c.args.lent.0.now) (g.O.Outlet.contents c.push_all.new.outlet)
    c.args.seat.now c.emit_turn.new.seat c.lose_writer.new.seat
    (search rules) (search rules) c.in-Err-push_all.ensures.failed c.in-Err-push_all.ensures.taken.1 (rw c.in-Ok-Emitted.field-0-is at c.in-Ok-Emitted.ensures.booked) c.lose_writer.ensures.ended)

pub returns-then-not-before_wait-clause-turned : goal.returns-then-not-before_wait-clause-turned
returns-then-not-before_wait-clause-turned g c =
    rw c.at_once.ensures (turn_gated g.R.Recorder.KEEPS (length c.args.lent.2.now) (g.O.Outlet.failures c.args.lent.0.now) c.emit_turn.new.buffer (g.O.Outlet.contents c.args.lent.0.now) c.args.seat.now c.emit_turn.new.seat (rw c.in-Ok-Idle.field-0-is at c.in-Ok-Idle.ensures.booked))

pub returns-in-Ok-Over-clause-turned : goal.returns-in-Ok-Over-clause-turned
returns-in-Ok-Over-clause-turned g c =
    rw c.at_once-in-Ok-Over.ensures (turn_over g.R.Recorder.KEEPS (length c.args.lent.2.now) (g.O.Outlet.failures c.args.lent.0.now) (g.O.Outlet.failures c.end_writer.new.writer) c.end_writer.result c.emit_turn.new.buffer (g.O.Outlet.contents c.args.lent.0.now) (g.O.Outlet.contents c.end_writer.new.writer)
    c.args.seat.now c.emit_turn.new.seat c.end_writer.new.seat
    c.end_writer.ensures.kept (rw c.in-Ok-Over.field-0-is at c.in-Ok-Over.ensures.booked) c.end_writer.ensures.ended)

pub returns-in-Err-clause-turned : goal.returns-in-Err-clause-turned
returns-in-Err-clause-turned g c =
    rw c.at_once-in-Err.ensures (turn_lacked g.R.Recorder.KEEPS (length c.args.lent.2.now) (g.O.Outlet.failures c.args.lent.0.now) c.in-Err.refused c.emit_turn.new.buffer (g.O.Outlet.contents c.args.lent.0.now) c.args.seat.now c.emit_turn.new.seat c.in-Err.ensures.booked)

pub returns-in-Ok-Idle-clause-turned : goal.returns-in-Ok-Idle-clause-turned
returns-in-Ok-Idle-clause-turned g c =
    turn_idle g.R.Recorder.KEEPS (length c.args.lent.2.now) (g.O.Outlet.failures c.args.lent.0.now) (g.O.Outlet.failures c.args.lent.0.now) c.emit_turn.new.buffer (g.O.Outlet.contents c.args.lent.0.now) (g.O.Outlet.contents c.args.lent.0.now)
    c.args.seat.now c.emit_turn.new.seat c.wait_until_due.new.seat refl refl (rw c.in-Ok-Idle.field-0-is at c.in-Ok-Idle.ensures.booked) c.wait_until_due.ensures.shown

pub returns-in-Ok-Idle-clause-awake : goal.returns-in-Ok-Idle-clause-awake
returns-in-Ok-Idle-clause-awake g c =
    inr (shown_on c.args.seat.now c.emit_turn.new.seat c.wait_until_due.new.seat (rw c.in-Ok-Idle.field-0-is at c.in-Ok-Idle.ensures.booked) c.wait_until_due.ensures.shown, c.wait_until_due.ensures.due)

pub returns-clause-awake : goal.returns-clause-awake
returns-clause-awake g c = inl (rw c.in-Ok-Emitted.field-0-is at c.in-Ok-Emitted.ensures.booked)

pub returns-in-Ok-Over-clause-ended : goal.returns-in-Ok-Over-clause-ended
returns-in-Ok-Over-clause-ended g c = rw c.at_once-in-Ok-Over.ensures (c.end_writer.ensures.reason (g.G.Gate.has_refused c.args.lent.1.now))

pub returns-clause-turned : goal.returns-clause-turned
returns-clause-turned g c =
    turn_wrote g.R.Recorder.KEEPS (length c.args.lent.2.now) c.in-Ok-Emitted.count (g.O.Outlet.failures c.args.lent.0.now) (g.O.Outlet.failures c.push_all.new.outlet) c.emit_turn.new.buffer (g.O.Outlet.contents c.args.lent.0.now) (g.O.Outlet.contents c.push_all.new.outlet) c.args.seat.now c.emit_turn.new.seat
    (search rules) (search rules) (search rules) (rw c.in-Ok-Emitted.field-0-is at c.in-Ok-Emitted.ensures.booked)
