-- One record changes, and its flag with it.
use Rattle.std.proofs.Common.{ap, length}
use Rattle.ymx_model.specs.session.Records.{End, end_read}
use Rattle.ymx_table.proofs.Writes.{written, kept-written, flags_within, counted-same}
use Rattle.ymx_table.proofs.Table.read.Goals as goal

pub set-requires : goal.set-requires
set-requires c = flags_within c.self.view_is c.self.invariant c.index_of-place.ensures

pub invariant_of-self : goal.invariant_of-self
invariant_of-self c =
    kept-written c.self.view_is c.index_of-place.ensures c.index_mut-stream.ensures.value _ c.self.invariant c.is_due-is_due.ensures c.set.ensures
    (counted-same c.self.view_is c.index_of-place.ensures c.index_mut-stream.ensures.value _ c.self.invariant (ap (λ (e : End). length e.writer.unsent) c.read-count.ensures.after))

pub returns-clause-after : goal.returns-clause-after
returns-clause-after c = written c.self.view_is c.index_of-place.ensures c.index_mut-stream.ensures.value (end_read c.read-count.result) _ c.read-count.ensures.after
