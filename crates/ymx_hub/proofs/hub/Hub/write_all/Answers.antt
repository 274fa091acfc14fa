use Rattle.std.proofs.Common.{◌∙◌, refl, arith, rules}
use Rattle.std.proofs.lemmas.List.{take_rest}
use Rattle.ymx_machine.specs.declared.types.Wrote.TheVariants.{Took, Wait}
use Rattle.ymx_hub.proofs.Written.{written_more, write_done, write_stopped}
use Rattle.ymx_hub.proofs.hub.Hub.write_all.Goals as goal

pub returns-then-taken-bytes-clause-booked : goal.returns-then-taken-bytes-clause-booked
returns-then-taken-bytes-clause-booked g c =
    write_done g.R.Recorder.KEEPS _ _ _ _ _ c.in-Ok-Took.count c.args.bytes.now _ _ c.loop.invariant.written (take_rest c.args.bytes.now c.loop.taken) (search rules) (rw c.in-Ok-Took.field-0-is at c.in-Ok-Took.ensures.booked)

pub loop-preserved-in-Ok-Took : goal.loop-preserved-in-Ok-Took
loop-preserved-in-Ok-Took g c = record {
  next = (tt, tt);
  right = c.write.ensures.right ∙ c.loop.invariant.right;
  within = search rules;
  written = written_more g.R.Recorder.KEEPS _ _ _ _ _ _ c.args.bytes.now _ (Took c.in-Ok-Took.count) c.loop.invariant.written (take_rest c.args.bytes.now c.loop.taken) refl (rw c.in-Ok-Took.field-0-is at c.in-Ok-Took.ensures.booked);
}

pub loop-preserved : goal.loop-preserved
loop-preserved g c = record {
  next = (tt, tt);
  right = c.write.ensures.right ∙ c.loop.invariant.right;
  within = search rules;
  written = written_more g.R.Recorder.KEEPS _ _ _ _ _ _ c.args.bytes.now _ Wait c.loop.invariant.written (take_rest c.args.bytes.now c.loop.taken) (omega arith) (rw c.in-Ok-Wait.field-0-is at c.in-Ok-Wait.ensures.booked);
}

pub returns-in-Err-clause-booked : goal.returns-in-Err-clause-booked
returns-in-Err-clause-booked g c =
    write_stopped g.R.Recorder.KEEPS _ _ _ _ _ c.args.bytes.now _ c.in-Err.fault c.loop.invariant.written (take_rest c.args.bytes.now c.loop.taken) c.in-Err.ensures.booked
