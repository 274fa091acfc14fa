use Rattle.std.proofs.Common.{◌≡◌}
use Rattle.ymx_hub.specs.Books.{Books}
use Rattle.ymx_connect.specs.Streams.{ReadsOn}
use Rattle.yamux.proofs.halves.Reader.read_all.Given as goal

abbrev pub invariant-loop : goal.invariant-loop
invariant-loop g l = record {
  next : (goal.iterator-loop g).can_next l.iterator' × (goal.iterator-loop g).is_finite l.iterator';
  same : (l.self.caller ≡ l.initial.self.caller) × (l.self.half.id ≡ l.initial.self.half.id);
  read : Books g.R.Recorder.KEEPS l.initial.self.half.seat l.self.half.seat (ReadsOn l.initial.self.half.id l.initial.self.half.seat.number l.bytes.items);
}
