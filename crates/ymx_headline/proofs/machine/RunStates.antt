-- The states that a run goes through.
use Rattle.std.proofs.Common.{ℕ, List}
use Rattle.ymx_machine.specs.stream.Streams.{stream_accept}
use Rattle.ymx_machine.specs.shared.Lists.{change}
use Rattle.ymx_machine.specs.machine.Machines.{Machine}

-- the offered stream is accepted, and these are left
abbrev pub accepted : ℕ → List ℕ → Machine → Machine
accepted id ids m = record m { streams = change id (stream_accept m.me.lost) m.streams; me = record m.me { offered = ids } }
