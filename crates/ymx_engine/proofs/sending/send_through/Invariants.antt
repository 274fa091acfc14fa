use Rattle.std.proofs.Common.{◌≡◌, ◌+◌, ◌≤◌, [], length, take}
use Rattle.ymx_session.specs.Streams.{room_of}
use Rattle.ymx_engine.specs.Serves.{TakesAndGives}
use Rattle.ymx_engine.proofs.sending.send_through.Given as goal

abbrev pub invariant-frame : goal.invariant-frame
invariant-frame l =
    (l.done ≤ length l.bytes)
    × TakesAndGives l.id (take l.done l.bytes) [] l.initial.session l.session l.initial.outgoing l.outgoing
    × (room_of l.id l.session + l.done ≡ room_of l.id l.initial.session)
