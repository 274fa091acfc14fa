use Rattle.std.proofs.Common.{ℕ, take, inl, inr, refl, subst, []}
use Rattle.std.specs.Io.KnownBytes.{Consumes}
use Rattle.std.proofs.KnownBytes.{Consumes-nil, Consumes-kept}
use Rattle.ymx_connect.specs.declared.pump_end.PumpWhy.TheVariants.{End, Device, Gate}
use Rattle.ymx_connect.proofs.Feeds.{turn_stops, turn_ends, turn_broke}
use Rattle.ymx_connect.proofs.reading.read_turn.Goals as goal

pub returns-then-not-before_read-clause-turned : goal.returns-then-not-before_read-clause-turned
returns-then-not-before_read-clause-turned g c =
    rw c.at_once.ensures (turn_stops g.R.Recorder.KEEPS (g.I.Inlet.failures c.args.lent.0.now) (g.I.Inlet.failures c.args.lent.0.now) Gate (g.I.Inlet.remaining c.args.lent.0.now) (g.I.Inlet.remaining c.args.lent.0.now) c.args.seats.now.0 tt refl (Consumes-nil (g.I.Inlet.remaining c.args.lent.0.now)))

pub returns-in-Err-feed_all-clause-turned : goal.returns-in-Err-feed_all-clause-turned
returns-in-Err-feed_all-clause-turned g c =
    turn_broke g.R.Recorder.KEEPS (g.I.Inlet.failures c.args.lent.0.now) (g.I.Inlet.failures c.pull.new.self) c.in-Err-feed_all.stop (take c.in-Ok.count c.pull.new.buffer) (g.I.Inlet.remaining c.args.lent.0.now) (g.I.Inlet.remaining c.pull.new.self) c.args.seats.now.0 c.feed_all.new.seats.0 c.in-Ok.ensures.moved.0 c.in-Err-feed_all.ensures.fed

pub returns-in-Err-clause-turned : goal.returns-in-Err-clause-turned
returns-in-Err-clause-turned g c =
    rw c.at_once-in-Err.ensures (turn_ends g.R.Recorder.KEEPS (g.I.Inlet.failures c.args.lent.0.now) (g.I.Inlet.failures c.pull.new.self) Device c.end_input.result (g.I.Inlet.remaining c.args.lent.0.now) (g.I.Inlet.remaining c.pull.new.self) c.args.seats.now.0 c.end_input.new.seat (inr refl) (Consumes-kept (g.I.Inlet.remaining c.args.lent.0.now) (g.I.Inlet.remaining c.args.lent.0.now) (g.I.Inlet.remaining c.pull.new.self) [] (Consumes-nil (g.I.Inlet.remaining c.args.lent.0.now)) c.in-Err.ensures.moved) c.end_input.ensures.ended)

pub returns-in-Ok-eq0-clause-turned : goal.returns-in-Ok-eq0-clause-turned
returns-in-Ok-eq0-clause-turned g c =
    rw c.at_once-in-Ok-eq0.ensures (turn_ends g.R.Recorder.KEEPS (g.I.Inlet.failures c.args.lent.0.now) (g.I.Inlet.failures c.pull.new.self) End c.end_input-in-Ok-eq0.result (g.I.Inlet.remaining c.args.lent.0.now) (g.I.Inlet.remaining c.pull.new.self) c.args.seats.now.0 c.end_input-in-Ok-eq0.new.seat (inl refl)
    (subst (λ (n : ℕ). Consumes (g.I.Inlet.remaining c.args.lent.0.now) (g.I.Inlet.remaining c.pull.new.self) (take n c.pull.new.buffer)) c.in-Ok-eq0.field-0-test c.in-Ok-eq0.ensures.moved.0) c.end_input-in-Ok-eq0.ensures.ended)
