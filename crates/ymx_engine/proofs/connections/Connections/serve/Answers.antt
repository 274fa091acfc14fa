use Rattle.ymx_engine.proofs.Partaking.{takes_part}
use Rattle.ymx_engine.proofs.connections.Connections.serve.Goals as goal

pub returns-in-Some-clause-served : goal.returns-in-Some-clause-served
returns-in-Some-clause-served g c = λ was there.
    let some = c.in-Some.ensures.some in
    let e = c.end_turn.ensures in
    takes_part c.args.id c.in-Some.part.gave c.args.most c.in-Some.part.more _ c.in-Some.part.may_give was some.0 some.2 c.args.session.now c.take_part.new.session c.args.outgoing.now c.take_part.new.outgoing c.args.self.now c.take_part.new.self c.end_turn.new.self some.1 some.3 some.4 some.5 c.in-Some.ensures.queues c.is_put_off.ensures e.connections e.queues e.awaits e.missed e.held e.attended e.rests e.alone there
