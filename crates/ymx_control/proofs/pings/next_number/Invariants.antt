-- What is left of the search from here is the search from the start.
use Rattle.std.proofs.Common.{◌≡◌, ◌-◌}
use Rattle.ymx_model.specs.session.Pings.{free_from}
use Rattle.ymx_control.proofs.pings.next_number.Given as goal

abbrev pub invariant-loop : goal.invariant-loop
invariant-loop l = free_from (17 - l.counter) l.number l.pending ≡ free_from 17 l.next l.pending
