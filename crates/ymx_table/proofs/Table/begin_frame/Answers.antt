-- One record changes, and its flag with it; the next turn starts after it.
use Rattle.std.proofs.Common.{arith, ap, ◌∙◌}
use Rattle.ymx_model.specs.session.FramesDue.{begin_frame}
use Rattle.ymx_model.specs.session.Tables.{Table, with_record, pass_turn}
use Rattle.ymx_table.proofs.Writes.{written-served, kept-written, kept-served, flags_within, counted-written, unsent-part, unsent-few}
use Rattle.ymx_table.proofs.Table.begin_frame.Goals as goal

pub set-requires : goal.set-requires
set-requires c = flags_within c.self.view_is c.self.invariant c.place_near-place.ensures

pub invariant_of-self : goal.invariant_of-self
invariant_of-self c =
    kept-served c.self.view_is c.place_near-place.ensures c.index_mut-stream.ensures.value _
    (kept-written c.self.view_is c.place_near-place.ensures c.index_mut-stream.ensures.value _ c.self.invariant c.is_due-is_due.ensures c.set.ensures
    (counted-written c.self.view_is c.place_near-place.ensures c.index_mut-stream.ensures.value _ c.self.invariant (omega arith) (omega arith)))

pub retotal-self-inside-requires-clause-part : goal.retotal-self-inside-requires-clause-part
retotal-self-inside-requires-clause-part c = let p = unsent-part c.self.view_is c.place_near-place.ensures c.index_mut-stream.ensures.value c.self.invariant in omega arith

pub retotal-self-inside-requires-clause-few : goal.retotal-self-inside-requires-clause-few
retotal-self-inside-requires-clause-few c = unsent-few c.self.invariant

pub returns-clause-goes : goal.returns-clause-goes
returns-clause-goes c =
    written-served c.self.view_is c.place_near-place.ensures c.index_mut-stream.ensures.value
    (begin_frame c.self.inside.window c.args.limit c.args.next.kind) _ c.begin_frame-count.ensures.goes
    ∙ ap (λ (t : Table). pass_turn c.args.next.id (with_record c.args.next.id (begin_frame t.window c.args.limit c.args.next.kind) c.args.self.now)) c.self.view_is
