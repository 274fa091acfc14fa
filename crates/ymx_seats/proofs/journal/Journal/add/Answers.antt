use Rattle.std.proofs.Common.{sym, ap, ◌∙◌}
use Rattle.ymx_seats.proofs.Visits.{comes, adds_met, leaves}
use Rattle.ymx_seats.proofs.journal.Journal.add.Goals as goal

pub join_seat-requires : goal.join_seat-requires
join_seat-requires g c = comes c.self.invariant c.me.invariant c.replace.ensures.value c.into_seat-pass.ensures _ _

pub load-requires : goal.load-requires
load-requires g c = adds_met c.self.invariant c.me.invariant c.replace.ensures.value c.into_seat-pass.ensures c.join_seat.ensures _ _ (c.requires ∙ ap (λ w. w.number) (sym c.me.view_is))

pub split_seat-requires : goal.split_seat-requires
split_seat-requires g c =
    let l = c.load.ensures in
    leaves c.self.invariant c.me.invariant c.replace.ensures.value c.into_seat-pass.ensures c.join_seat.ensures l.0 l.2.1 _
