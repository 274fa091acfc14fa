use Rattle.std.proofs.Common.{◌<◌, ◌∙◌, length, Ok, ap, subst, arith, rules}
use Rattle.ymx_model.specs.declared.types.Got.{Got}
use Rattle.ymx_session.specs.Replies.{read_or}
use Rattle.ymx_hub.specs.Answers.{GivesSome}
use Rattle.ymx_hub.specs.Books.{Books, Asks, to_read}
use Rattle.ymx_hub.proofs.Waits.{read_waits, read_bytes, read_end, read_refused}
use Rattle.ymx_hub.proofs.Ended.{read_ends}
use Rattle.ymx_hub.proofs.hub.Hub.read.Goals as goal

pub loop-preserved : goal.loop-preserved
loop-preserved g c = record {
  next = (tt, tt);
  right = c.read.ensures.right ∙ c.loop.invariant.right;
  same = search rules;
  waits = read_waits g.R.Recorder.KEEPS _ _ _ c.args.id (length c.args.buffer.now) (length c.loop.buffer) c.read.new.buffer c.loop.invariant.waits (ap length c.loop.invariant.same) (subst (λ (got : Got). Books g.R.Recorder.KEEPS c.loop.seat c.read.new.seat (Asks (to_read c.args.id (length c.loop.buffer)) (λ given. read_or given c.read.new.buffer) c.loop.seat.number (Ok got))) c.in-Ok-Wait.field-0-is c.in-Ok-Wait.ensures.booked);
}

pub returns-in-Ok-End-clause-booked : goal.returns-in-Ok-End-clause-booked
returns-in-Ok-End-clause-booked g c =
    read_end g.R.Recorder.KEEPS _ _ _ c.args.id (length c.args.buffer.now) (length c.loop.buffer) c.read.new.buffer c.loop.invariant.waits (ap length c.loop.invariant.same) (subst (λ (got : Got). Books g.R.Recorder.KEEPS c.loop.seat c.read.new.seat (Asks (to_read c.args.id (length c.loop.buffer)) (λ given. read_or given c.read.new.buffer) c.loop.seat.number (Ok got))) c.in-Ok-End.field-0-is c.in-Ok-End.ensures.booked)

pub returns-in-Ok-End-clause-end : goal.returns-in-Ok-End-clause-end
returns-in-Ok-End-clause-end g c = λ none.
    read_ends g.R.Recorder.KEEPS _ _ _ c.args.id (length c.args.buffer.now) (length c.loop.buffer) c.read.new.buffer c.loop.invariant.waits (subst (λ (got : Got). Books g.R.Recorder.KEEPS c.loop.seat c.read.new.seat (Asks (to_read c.args.id (length c.loop.buffer)) (λ given. read_or given c.read.new.buffer) c.loop.seat.number (Ok got))) c.in-Ok-End.field-0-is c.in-Ok-End.ensures.booked)

pub returns-in-Ok-Bytes-clause-booked : goal.returns-in-Ok-Bytes-clause-booked
returns-in-Ok-Bytes-clause-booked g c =
    let some : 0 < c.in-Ok-Bytes.count = subst GivesSome c.in-Ok-Bytes.field-0-is (c.in-Ok-Bytes.ensures.some (omega (arith, ap length c.loop.invariant.same))) in
    read_bytes g.R.Recorder.KEEPS _ _ _ c.args.id (length c.args.buffer.now) (length c.loop.buffer) c.in-Ok-Bytes.count c.read.new.buffer c.loop.invariant.waits (ap length c.loop.invariant.same) some (subst (λ (got : Got). Books g.R.Recorder.KEEPS c.loop.seat c.read.new.seat (Asks (to_read c.args.id (length c.loop.buffer)) (λ given. read_or given c.read.new.buffer) c.loop.seat.number (Ok got))) c.in-Ok-Bytes.field-0-is c.in-Ok-Bytes.ensures.booked)

pub returns-in-Err-clause-booked : goal.returns-in-Err-clause-booked
returns-in-Err-clause-booked g c =
    read_refused g.R.Recorder.KEEPS _ _ _ c.args.id (length c.args.buffer.now) (length c.loop.buffer) c.read.new.buffer c.in-Err.fault c.loop.invariant.waits (ap length c.loop.invariant.same) c.in-Err.ensures.booked
