use Rattle.std.proofs.Common.{sym, ap, ◌∙◌}
use Rattle.ymx_seats.proofs.Moves.{counts, numbers}
use Rattle.ymx_seats.proofs.journal.Journal.witness.Goals as goal

pub load-requires : goal.load-requires
load-requires g c =
    let i = c.self.invariant in
    (i.0 ∙ sym i.1, i.3, counts _ _ _ _ _ i.2)

pub split_seat-pass-requires : goal.split_seat-pass-requires
split_seat-pass-requires g c =
    let i = c.self.invariant in
    let l = c.load.ensures in
    (l.0 ∙ (i.0 ∙ sym i.1), i.3, numbers _ _ _ _ _ (ap (λ x. x.0) (l.2.1 ∙ i.2)))
