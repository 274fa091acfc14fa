use Rattle.std.proofs.Common.{◌<◌, refl, arith}
use Rattle.ymx_connect.proofs.Streams.{copied_none, copied_more, copied_all}
use Rattle.yamux.proofs.halves.copy_all.Goals as goal

pub loop-init : goal.loop-init
loop-init g c = record {
  next = (tt, tt);
  copied = copied_none g.R.Recorder.KEEPS c.args.reader.now c.args.writer.now;
}

pub loop-preserved : goal.loop-preserved
loop-preserved g c =
    let some : 0 < c.in-Ok.count = omega arith in
    record {
      next = (tt, tt);
      copied = copied_more g.R.Recorder.KEEPS c.args.reader.now c.args.writer.now c.loop.reader c.loop.writer c.read.new.self c.write_all.new.self c.loop.copied _ _ c.in-Ok.count c.read.new.buffer _ _ c.loop.invariant.copied some (omega (arith, c.in-Ok.ensures.within, c.in-Ok.ensures.length)) refl c.saturating_add-copied.ensures c.in-Ok.ensures.same c.in-Ok-write_all.ensures.same c.in-Ok.ensures.booked c.in-Ok-write_all.ensures.booked;
    }

pub returns-then-count-eq0-clause-copied : goal.returns-then-count-eq0-clause-copied
returns-then-count-eq0-clause-copied g c =
    copied_all g.R.Recorder.KEEPS c.args.reader.now c.args.writer.now c.loop.reader c.loop.writer c.read.new.self.seat c.loop.copied _ c.in-Ok.count c.read.new.buffer c.loop.invariant.copied c.if-count-eq0.true c.in-Ok.ensures.booked
