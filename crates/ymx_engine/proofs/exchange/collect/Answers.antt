use Rattle.std.proofs.Common.{arith}
use Rattle.ymx_engine.proofs.Parts.{part_same, part_within, part_beside, part_then, due_then, was_open_to}
use Rattle.ymx_engine.proofs.Hearing.{due_ends, was_open_from}
use Rattle.ymx_engine.proofs.exchange.collect.Goals as goal

pub returns-then-most-eq0-clause-part : goal.returns-then-most-eq0-clause-part
returns-then-most-eq0-clause-part g c = part_beside _ part_same

pub returns-then-left-eq0-clause-part : goal.returns-then-left-eq0-clause-part
returns-then-left-eq0-clause-part g c = part_within (omega arith) (due_then c.put_due.ensures.put c.fill-first.ensures.part)

pub returns-clause-part : goal.returns-clause-part
returns-clause-part g c = part_then (due_then c.put_due.ensures.put c.fill-first.ensures.part) (due_then c.put_due-2.ensures.put c.fill-second.ensures.part)

pub returns-then-left-eq0-clause-ends : goal.returns-then-left-eq0-clause-ends
returns-then-left-eq0-clause-ends g c = λ open_ h. (due_ends _ _ _ _ c.put_due.ensures.put c.args.id).silence (c.fill-first.ensures.ends open_ h)

pub returns-then-left-eq0-clause-stops : goal.returns-then-left-eq0-clause-stops
returns-then-left-eq0-clause-stops g c = λ open_ h. (due_ends _ _ _ _ c.put_due.ensures.put c.args.id).stop (c.fill-first.ensures.stops open_ h)

pub returns-clause-ends : goal.returns-clause-ends
returns-clause-ends g c = λ open_ h.
    let second = (due_ends _ _ _ _ c.put_due-2.ensures.put c.args.id).silence (c.fill-second.ensures.ends open_ h) in
    (due_ends _ _ _ _ c.put_due.ensures.put c.args.id).silence (c.fill-first.ensures.ends (was_open_from c.fill-second.ensures.part open_) second)

pub returns-clause-stops : goal.returns-clause-stops
returns-clause-stops g c = λ open_ h.
    let second = (due_ends _ _ _ _ c.put_due-2.ensures.put c.args.id).stop (c.fill-second.ensures.stops open_ h) in
    (due_ends _ _ _ _ c.put_due.ensures.put c.args.id).stop (c.fill-first.ensures.stops (was_open_to c.fill-second.ensures.part open_) second)
