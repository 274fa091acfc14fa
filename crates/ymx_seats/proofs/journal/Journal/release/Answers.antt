use Rattle.ymx_seats.proofs.Visits.{comes, releases_met, leaves_released}
use Rattle.ymx_seats.proofs.journal.Journal.release.Goals as goal

pub join_seat-requires : goal.join_seat-requires
join_seat-requires g c = comes c.self.invariant c.me.invariant c.replace.ensures.value c.into_seat-pass.ensures _ _

pub load-requires : goal.load-requires
load-requires g c = releases_met c.self.invariant c.me.invariant c.replace.ensures.value c.into_seat-pass.ensures c.join_seat.ensures _

pub split_seat-requires : goal.split_seat-requires
split_seat-requires g c =
    let l = c.load.ensures in
    leaves_released c.self.invariant c.me.invariant c.replace.ensures.value c.into_seat-pass.ensures c.join_seat.ensures l.0 l.2.1 _
