use Rattle.std.proofs.Common.{◌≡◌, ◌⊎◌, ◌+◌, ◌≤◌, length, true, None}
use Rattle.ymx_engine.specs.Places.{is_put_off}
use Rattle.ymx_engine.specs.InPlace.{ReadsInPlace}
use Rattle.ymx_engine.specs.Runs.{Runs, Stays, Rests}
use Rattle.ymx_engine.specs.Work.{Reads}
use Rattle.ymx_engine.proofs.tunnel.Tunnel.read_wire.Given as goal

abbrev pub invariant-payload : goal.invariant-payload
invariant-payload g l = record {
  runs : Runs l.fn.self l.self;
  stays : Stays l.fn.self l.self;
  rests : Rests l.fn.self l.self;
  reads : Reads l.fn.self l.self;
  waits : is_put_off l.fn.self ≡ true → l.self ≡ l.fn.self;
  placed : ReadsInPlace l.fn.self l.self;
  anew : (l.self ≡ l.fn.self) ⊎ (l.self.connections.turns_to_place ≡ None);
  few : length l.self.engine.incoming + l.turn ≤ l.rows;
}
