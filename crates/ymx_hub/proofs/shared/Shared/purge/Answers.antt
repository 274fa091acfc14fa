-- One place after another.
use Rattle.std.proofs.Common.{arith}
use Rattle.ymx_hub.proofs.Released.{among_more, some_more, rest_on, wait_step}
use Rattle.ymx_hub.proofs.shared.Shared.purge.Goals as goal

pub returns-in_err-purge_at-clause-booked : goal.returns-in_err-purge_at-clause-booked
returns-in_err-purge_at-clause-booked g c = among_more g.R.Recorder.KEEPS c.args.seat.now c.loop-done.seat c.purge_at.new.seat c.args.self.now.booked.released c.loop-done.self.booked.released c.args.self.now.booked c.loop-done.self.booked c.loop-done.invariant.purges c.loop-done.invariant.left c.purge_at.ensures.booked

pub returns-in_err-purge_at-clause-left : goal.returns-in_err-purge_at-clause-left
returns-in_err-purge_at-clause-left g c = some_more c.args.self.now.booked.released c.loop-done.self.booked.released c.purge_at.new.self.booked.released c.args.self.now.booked c.loop-done.self.booked c.purge_at.new.self.booked c.loop-done.invariant.left c.purge_at.ensures.left

pub loop-done-preserved : goal.loop-done-preserved
loop-done-preserved g c = record {
  purges = among_more g.R.Recorder.KEEPS c.args.seat.now c.loop-done.seat c.purge_at.new.seat c.args.self.now.booked.released c.loop-done.self.booked.released c.args.self.now.booked c.loop-done.self.booked c.loop-done.invariant.purges c.loop-done.invariant.left c.purge_at.ensures.booked;
  left = some_more c.args.self.now.booked.released c.loop-done.self.booked.released c.purge_at.new.self.booked.released c.args.self.now.booked c.loop-done.self.booked c.purge_at.new.self.booked c.loop-done.invariant.left c.purge_at.ensures.left;
  within = omega (arith, c.purge_at.ensures.within);
  waits = wait_step c.loop-done.self.booked.session c.purge_at.new.self.booked.session c.loop-done.self.booked.released c.purge_at.new.self.booked.released c.released_count-count.result c.loop-done.done c.loop-done-test.true c.in_ok-purge_at.ensures.wait c.loop-done.invariant.waits;
  rest = rest_on c.args.self.now c.loop-done.self c.purge_at.new.self c.loop-done.invariant.rest c.purge_at.ensures.rest;
}
