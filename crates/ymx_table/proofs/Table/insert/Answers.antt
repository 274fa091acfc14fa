-- A record under a new id goes last.
use Rattle.std.proofs.Common.{arith}
use Rattle.ymx_table.proofs.Writes.{added-is, kept-added, unsent-few}
use Rattle.ymx_table.proofs.Table.insert.Goals as goal

pub retotal-self-inside-requires-clause-few : goal.retotal-self-inside-requires-clause-few
retotal-self-inside-requires-clause-few c = unsent-few c.self.invariant

pub invariant_of-self-2 : goal.invariant_of-self-2
invariant_of-self-2 c =
    kept-added _ _ c.self.view_is c.args.id c.args.stream c.requires.absent _ c.in_ok-insert.ensures.entries
    _ _ _ _ _ c.self.invariant c.requires.room (omega arith) c.is_due-is_due.ensures c.push.ensures (omega arith) (omega arith)

pub returns-clause-last : goal.returns-clause-last
returns-clause-last c = added-is _ _ c.self.view_is c.args.id c.args.stream c.requires.absent _ c.in_ok-insert.ensures.entries
