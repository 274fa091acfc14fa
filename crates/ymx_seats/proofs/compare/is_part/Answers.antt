use Rattle.std.proofs.Common.{sym, ◌∙◌, arith}
use Rattle.ymx_seats.proofs.Parts.{part_next}
use Rattle.ymx_seats.proofs.compare.is_part.Goals as goal
use Rattle.ymx_seats.proofs.compare.is_part.Goals.{then-at-mine-via-then-at-mine, then-at-mine-via-else-at-mine+then-not-same}

pub returns-then-at-mine : goal.returns-then-at-mine
returns-then-at-mine c = (
  λ t. absurd (cc),
  λ m.
      let next = part_next c.args.mine.now c.args.all.now c.loop-entry.at c.loop-entry.entry-index c.args.number c.entry-item.result c.loop-entry.invariant.within c.loop-entry.invariant.same (omega arith) c.entry-item.is (omega arith) m in
      elim c.then-at-mine.branch [
        | then-at-mine-via-then-at-mine w ↦ absurd (omega (arith, next.0, w.if-at-mine.true))
        | then-at-mine-via-else-at-mine+then-not-same w ↦ sym w.if-not-same.true ∙ w.same.ensures.1 (w.index-mine-at.is ∙ next.1 w.index-mine-at.result)
      ],
)
