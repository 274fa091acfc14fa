use Rattle.ymx_engine.proofs.Turning.{due_counted}
use Rattle.ymx_engine.proofs.connections.Connections.puts_off.Goals as goal

pub returns-then-lacks_place-clause-first : goal.returns-then-lacks_place-clause-first
returns-then-lacks_place-clause-first g c = due_counted _ _ _ _ _ c.turns_left-left.ensures c.then_some.ensures c.count_turns.ensures

pub returns-else-lacks_place-clause-first : goal.returns-else-lacks_place-clause-first
returns-else-lacks_place-clause-first g c = due_counted _ _ _ _ _ c.turns_left-left.ensures c.then_some.ensures c.count_turns.ensures
