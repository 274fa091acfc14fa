use Rattle.ymx_connect.proofs.Streams.{HasCopied}
use Rattle.yamux.proofs.halves.copy_all.Given as goal

abbrev pub invariant-loop : goal.invariant-loop
invariant-loop g l = record {
  next : (goal.iterator-loop g).can_next l.iterator' × (goal.iterator-loop g).is_finite l.iterator';
  copied : HasCopied g.R.Recorder.KEEPS l.initial.reader l.initial.writer l.reader l.writer l.copied;
}
