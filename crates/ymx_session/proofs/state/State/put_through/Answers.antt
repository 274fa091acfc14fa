use Rattle.ymx_session.proofs.Straight.{may-send, writes, quiet-then, room-then}
use Rattle.ymx_session.proofs.state.State.put_through.Goals as goal

pub write_through-requires-clause-may : goal.write_through-requires-clause-may
write_through-requires-clause-may c = may-send _ _ _ _ _ c.self.view_is c.requires

pub returns-clause-event : goal.returns-clause-event
returns-clause-event c = writes _ _ _ _ _ _ _ _ _ _ c.self.view_is c.requires c.write_through.ensures.count c.write_through.ensures.written c.write_through.ensures.goes c.clear.ensures

pub returns-clause-quiet : goal.returns-clause-quiet
returns-clause-quiet c = quiet-then _ _ _ _ _ _ _ c.self.view_is c.requires c.write_through.ensures.goes c.clear.ensures

pub returns-clause-room : goal.returns-clause-room
returns-clause-room c = room-then _ _ _ _ _ _ _ c.self.view_is c.requires c.write_through.ensures.goes c.clear.ensures
