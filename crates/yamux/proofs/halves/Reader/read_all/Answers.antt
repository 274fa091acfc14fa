use Rattle.std.proofs.Common.{◌<◌, List, ℕ, ◌∙◌, sym, subst, arith}
use Rattle.ymx_hub.specs.Books.{Books}
use Rattle.ymx_connect.specs.Streams.{ReadsOn}
use Rattle.ymx_connect.proofs.Streams.{reads_more, reads_end}
use Rattle.yamux.proofs.halves.Reader.read_all.Goals as goal

pub returns-then-count-eq0-clause-booked : goal.returns-then-count-eq0-clause-booked
returns-then-count-eq0-clause-booked g c =
    reads_end g.R.Recorder.KEEPS c.args.self.now.half.seat c.loop.self.half.seat c.read.new.self.half.seat c.args.self.now.half.id c.loop.self.half.id _ c.in_ok-count.count c.loop.bytes.items c.read.new.buffer c.if-count-eq0.true c.loop.invariant.same.1 c.loop.invariant.read c.in_ok-count.ensures.booked

pub loop-preserved : goal.loop-preserved
loop-preserved g c =
    let some : 0 < c.in_ok-count.count = omega arith in
    record {
      next = (tt, tt);
      same = (c.in_ok-count.ensures.same.0 ∙ c.loop.invariant.same.0, c.in_ok-count.ensures.same.1 ∙ c.loop.invariant.same.1);
      read = subst (λ (l : List ℕ). Books g.R.Recorder.KEEPS c.args.self.now.half.seat c.read.new.self.half.seat (ReadsOn c.args.self.now.half.id c.args.self.now.half.seat.number l)) (sym c.in_ok-extend.ensures.items) (reads_more g.R.Recorder.KEEPS c.args.self.now.half.seat c.loop.self.half.seat c.read.new.self.half.seat c.args.self.now.half.id c.loop.self.half.id _ c.in_ok-count.count c.loop.bytes.items c.read.new.buffer some c.loop.invariant.same.1 c.loop.invariant.read c.in_ok-count.ensures.booked);
    }
