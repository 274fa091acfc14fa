-- What is due first is due first of those that are left.
use Rattle.std.proofs.Common.{◌≡◌, drop}
use Rattle.ymx_model.specs.session.Pings.{first_asked}
use Rattle.ymx_control.proofs.pings.first_asked.Given as goal

abbrev pub invariant-loop-ping : goal.invariant-loop-ping
invariant-loop-ping l = first_asked (drop l.ping-index l.pending) ≡ first_asked l.pending
