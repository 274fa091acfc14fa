use Rattle.std.proofs.Common.{rules, refl}
use Rattle.ymx_hub.proofs.Released.{purges_none, purges_more}
use Rattle.ymx_connect.proofs.Feeds.{fed_nothing, fed_more, fed_last}
use Rattle.ymx_connect.proofs.reading.read_on.Goals as goal

pub loop-init : goal.loop-init
loop-init g c = record { next = (tt, tt); room = refl; fed = fed_nothing g.R.Recorder.KEEPS _ _ _; tended = purges_none g.R.Recorder.KEEPS _ }

pub loop-preserved : goal.loop-preserved
loop-preserved g c = record {
  next = (tt, tt);
  room = search rules;
  fed = fed_more g.R.Recorder.KEEPS (g.I.Inlet.failures c.args.lent.0.now) (g.I.Inlet.failures c.loop.device) (g.I.Inlet.failures c.read_turn.new.lent.0) (g.I.Inlet.remaining c.args.lent.0.now) (g.I.Inlet.remaining c.loop.device) (g.I.Inlet.remaining c.read_turn.new.lent.0) c.args.seats.now.0 c.loop.seats.0 c.read_turn.new.seats.0 c.loop.count c.in-Ok.taken c.saturating_add-count.result _ c.loop.invariant.fed c.in-Ok.ensures.turned c.saturating_add-count.ensures;
  tended = purges_more g.R.Recorder.KEEPS _ _ _ c.loop.invariant.tended c.read_turn.ensures.tended;
}

pub returns-in-Err-clause-gave : goal.returns-in-Err-clause-gave
returns-in-Err-clause-gave g c =
    rw c.behind.ensures (fed_last g.R.Recorder.KEEPS (g.I.Inlet.failures c.args.lent.0.now) (g.I.Inlet.failures c.loop.device) (g.I.Inlet.failures c.read_turn.new.lent.0) (g.I.Inlet.remaining c.args.lent.0.now) (g.I.Inlet.remaining c.loop.device) (g.I.Inlet.remaining c.read_turn.new.lent.0) c.args.seats.now.0 c.loop.seats.0 c.read_turn.new.seats.0 c.loop.count _ c.in-Err.stop c.loop.invariant.fed c.in-Err.ensures.turned refl)

pub returns-in-Err-clause-tended : goal.returns-in-Err-clause-tended
returns-in-Err-clause-tended g c = purges_more g.R.Recorder.KEEPS _ _ _ (purges_more g.R.Recorder.KEEPS _ _ _ c.loop.invariant.tended c.read_turn.ensures.tended) c.purge.ensures.booked
