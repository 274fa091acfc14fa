-- The record goes, and the place of the next turn moves with those after it.
use Rattle.std.proofs.Common.{arith, ap, sym, lt-ltb, le-ltb, if◌then◌else◌, ◌-◌}
use Rattle.ymx_table.proofs.Writes.{removed-is, kept-removed, unsent-part, unsent-few}
use Rattle.ymx_table.proofs.Table.remove.Goals as goal

pub retotal-self-inside-requires-clause-part : goal.retotal-self-inside-requires-clause-part
retotal-self-inside-requires-clause-part c = let p = unsent-part c.self.view_is c.index_of-place.ensures c.index.ensures c.self.invariant in omega arith

pub retotal-self-inside-requires-clause-few : goal.retotal-self-inside-requires-clause-few
retotal-self-inside-requires-clause-few c = unsent-few c.self.invariant

pub invariant_of-self : goal.invariant_of-self
invariant_of-self c =
    kept-removed _ _ c.self.view_is _ _ c.index_of-place.ensures c.requires _ c.shift_remove_index.ensures.entries _
    (ap (λ b. if b then c.self.inside.turn - 1 else c.self.inside.turn) (sym (lt-ltb _ _ c.if-place-self.true)))
    _ _ _ _ _ c.index.ensures c.self.invariant c.remove.ensures (omega arith)

pub invariant_of-self-else-place-self : goal.invariant_of-self-else-place-self
invariant_of-self-else-place-self c =
    kept-removed _ _ c.self.view_is _ _ c.index_of-place.ensures c.requires _ c.shift_remove_index.ensures.entries _
    (ap (λ b. if b then c.self.inside.turn - 1 else c.self.inside.turn) (sym (le-ltb _ _ c.if-place-self.false)))
    _ _ _ _ _ c.index.ensures c.self.invariant c.remove.ensures (omega arith)

pub returns-then-place-self : goal.returns-then-place-self
returns-then-place-self c =
    removed-is _ _ c.self.view_is _ _ c.index_of-place.ensures c.requires _ c.shift_remove_index.ensures.entries _
    (ap (λ b. if b then c.self.inside.turn - 1 else c.self.inside.turn) (sym (lt-ltb _ _ c.if-place-self.true)))

pub returns-else-place-self : goal.returns-else-place-self
returns-else-place-self c =
    removed-is _ _ c.self.view_is _ _ c.index_of-place.ensures c.requires _ c.shift_remove_index.ensures.entries _
    (ap (λ b. if b then c.self.inside.turn - 1 else c.self.inside.turn) (sym (le-ltb _ _ c.if-place-self.false)))
