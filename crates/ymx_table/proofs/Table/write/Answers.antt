-- One record changes, or none, and its flag with it.
use Rattle.std.proofs.lemmas.Result.{IfOk-weaker, on_err_weaker}
use Rattle.std.proofs.Common.{arith, take}
use Rattle.ymx_model.specs.session.Records.{end_write}
use Rattle.ymx_table.proofs.Writes.{written, unwritten, kept-written, flags_within, counted-written, unsent-part, unsent-few}
use Rattle.ymx_table.proofs.Table.write.Goals as goal

pub set-requires : goal.set-requires
set-requires c = flags_within c.self.view_is c.self.invariant c.index_of-place.ensures

pub invariant_of-self : goal.invariant_of-self
invariant_of-self c =
    kept-written c.self.view_is c.index_of-place.ensures c.index_mut-stream.ensures.value _ c.self.invariant c.is_due-is_due.ensures c.set.ensures
    (counted-written c.self.view_is c.index_of-place.ensures c.index_mut-stream.ensures.value _ c.self.invariant (omega arith) (omega arith))

pub retotal-self-inside-requires-clause-part : goal.retotal-self-inside-requires-clause-part
retotal-self-inside-requires-clause-part c = let p = unsent-part c.self.view_is c.index_of-place.ensures c.index_mut-stream.ensures.value c.self.invariant in omega arith

pub retotal-self-inside-requires-clause-few : goal.retotal-self-inside-requires-clause-few
retotal-self-inside-requires-clause-few c = unsent-few c.self.invariant

pub returns-clause-wrote : goal.returns-clause-wrote
returns-clause-wrote c =
    IfOk-weaker _ _ _
    (λ count. written c.self.view_is c.index_of-place.ensures c.index_mut-stream.ensures.value
    (end_write (take count c.args.bytes.now)) _)
    c.write-wrote.ensures.wrote

pub returns-clause-refused_unchanged : goal.returns-clause-refused_unchanged
returns-clause-refused_unchanged c =
    on_err_weaker _
    (unwritten c.self.view_is c.index_of-place.ensures c.index_mut-stream.ensures.value _)
    c.write-wrote.ensures.refused_unchanged
